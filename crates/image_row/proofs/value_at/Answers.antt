-- `image_row::value_at` meets its contract.
use borrow.Author.Rules.{rules}
use native.Mathlib.Omega.{arith}
use Rattle.bytes_bundle.specs.Held.{held, same}
use Rattle.rules.specs.Bound.{Value.null}
use Rattle.image_value.specs.Parts.{value}
use Rattle.image_row.specs.Obeyed.{row_bundle, row_values}
use Rattle.image_row.proofs.value_at.Goals as goal

pub part-requires : goal.part-requires
part-requires c =
    let p = c.requires in
    let s = c.args.r.now in
    (search rules, row_bundle p.0, held p.0 (λ x h. omega (arith, p.1 x h, (row_values s h).count)))

pub returns : goal.returns
returns c = λ x h.
    let r = row_values c.args.r.now h in
    same value c.part.ensures (r.value c.args.ordinal.0 null (omega (arith, c.requires.1 x h, r.count)))
