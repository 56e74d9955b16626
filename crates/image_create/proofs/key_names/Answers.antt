-- `image_create::key_names` meets its contract.
use borrow.Author.Rules.{rules}
use native.Mathlib.Omega.{arith}
use mathlib.Core.Path.{refl, ap, ◌∙◌}
use mathlib.Core.List.{List}
use Prim.Native.Nat.{ℕ, ◌-◌}
use lib.ListN.{length, drop, length-drop}
use lib.Seq.{take_all}
use Rattle.bytes_format.proofs.Formats.{list_of}
use Rattle.rules.specs.Statements.{primary_key}
use Rattle.image_parts.specs.Layout.{name}
use Rattle.image_create.specs.Held.{key_wide, constraint_has}
use Rattle.image_create.proofs.key_names.Goals as goal

pub slice_bounds-result-count : goal.slice_bounds-result-count
slice_bounds-result-count c = omega (arith, key_wide c.requires)

pub slice_bounds-result-start : goal.slice_bounds-result-start
slice_bounds-result-start c = let h = key_wide c.requires in search rules

pub returns : goal.returns
returns c = λ m names h.
    let s = c.args.c.now in
    ap (λ (p : List ℕ). (list_of 2 name).read p) (take_all (length s - 2) (drop 2 s) (omega (arith, length-drop 2 s)))
    ∙ ((constraint_has s (primary_key m names) h).key m names refl).behind
