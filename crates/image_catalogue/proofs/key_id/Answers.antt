-- `image_catalogue::key_id` meets its contract.
use borrow.Author.Rules.{rules}
use mathlib.Core.Path.{sym, ap, ◌∙◌}
use Prim.Native.Nat.{ℕ}
use Rattle.rules.specs.declared.ColumnId.{ColumnId}
use Rattle.image_catalogue.specs.Values.{id_wide, id_held}
use Rattle.image_catalogue.proofs.key_id.Goals as goal

pub get-requires : goal.get-requires
get-requires c = let w = id_wide c.requires in search rules

abbrev made : ℕ → ColumnId
made n = record { 0 = n }

pub returns : goal.returns
returns c = λ v h. ap made c.get.ensures.is ∙ sym (id_held c.args.p.now h).id
