-- `image_insert::rows_of` meets its contract.
use borrow.Author.Rules.{rules}
use native.Mathlib.Omega.{arith}
use mathlib.Core.Path.{refl, ap, ◌∙◌}
use mathlib.Core.List.{List}
use Prim.Native.Nat.{ℕ, ◌-◌}
use lib.ListN.{length, drop, length-drop}
use lib.Seq.{take_all}
use Rattle.bytes_format.proofs.Formats.{list_of}
use Rattle.rules.specs.Statements.{values}
use Rattle.image_expression.specs.Expression.{expression}
use Rattle.image_insert.specs.Held.{values_wide, body_has}
use Rattle.image_insert.proofs.rows_of.Goals as goal

pub slice_bounds-result-count : goal.slice_bounds-result-count
slice_bounds-result-count c = omega (arith, values_wide c.requires)

pub slice_bounds-result-start : goal.slice_bounds-result-start
slice_bounds-result-start c = let h = values_wide c.requires in search rules

pub returns : goal.returns
returns c = λ m rows h.
    let s = c.args.b.now in
    ap (λ (p : List ℕ). (list_of 2 (list_of 2 expression)).read p) (take_all (length s - 2) (drop 2 s) (omega (arith, length-drop 2 s)))
    ∙ ((body_has s (values m rows) h).given m rows refl).behind
