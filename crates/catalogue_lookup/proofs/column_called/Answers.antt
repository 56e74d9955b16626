-- `catalogue_lookup::column_called` meets its contract. The invariant: the first of the name is the first of those that are left.
use Rattle.std.specs.Prelude.{◌≡◌, ◌+◌, ◌≤◌, length}
use Rattle.std.proofs.Common.{inl, arith, ap, ◌∙◌}
use Rattle.bytes_bundle.specs.Bundle.{parts_of}
use Rattle.bytes_bundle.specs.Held.{Holds, list_bundle}
use Rattle.bytes_bundle.specs.Left.{parts_left}
use Rattle.bytes_bundle.specs.Numbered.{few_parts, reached, reached_part, reached_on, reached_end, valued_is}
use Rattle.catalogue_lookup.specs.Finds.{bound_left, bound_on, bound_found, bound_end}
use Rattle.image_value.specs.Parts.{column_schema}
use Rattle.rules.specs.Lists.{same}
use Rattle.rules.specs.Tables.{ColumnSchema}
use Rattle.catalogue_lookup.proofs.column_called.Goals.{After-into_iter-i-iterator, After-same}
use Rattle.catalogue_lookup.proofs.column_called.Goals as goal

-- before the first turn
fresh : (c : After-into_iter-i-iterator) → (c.into_iter-i-iterator.result.count ≡ 0) × (parts_left c.into_iter-i-iterator.result.iter ≡ parts_of 2 c.args.s.now)
fresh c =
    let e = c.into_iter-i-iterator.ensures.into_iter_gives in
    let k = c.enumerate-i-items.ensures in
    (rw e k.count, rw (e, k.source) c.iter.ensures)

few : (c : After-into_iter-i-iterator) → c.into_iter-i-iterator.result.count + length (parts_left c.into_iter-i-iterator.result.iter) ≤ 65535
few c = omega (arith, (fresh c).0, ap length (fresh c).1, few_parts (record { at = λ j. (c.type_inv.s j).fits }) (list_bundle (column_schema 2) c.requires))

pub loop-i-init : goal.loop-i-init
loop-i-init c = (rw (fresh c).0 (reached (fresh c).1), few c, rw (fresh c).0 bound_left)

pub loop-i-init-derived : goal.loop-i-init-derived
loop-i-init-derived c = ((tt, tt, inl (omega (arith, few c))), tt)

pub column_name-requires : goal.column_name-requires
column_name-requires c = valued_is (column_schema 2) (reached_part c.loop-i.invariant.0 c.in-Some.ensures.steps.0) c.requires

pub read_column-requires : goal.read_column-requires
read_column-requires c = valued_is (column_schema 2) (reached_part c.loop-i.invariant.0 c.in-Some.ensures.steps.0) c.requires

-- what the test said of the column at hand
told : (c : After-same) (v : ColumnSchema) → Holds (column_schema 2) c.in-Some.column.now v → c.same.result ≡ same c.args.name.now v.name
told c v h = c.same.ensures ∙ ap (same c.args.name.now) (c.column_name.ensures v h)

pub loop-i-preserved : goal.loop-i-preserved
loop-i-preserved c =
    let s = c.in-Some.ensures.steps in
    let a = c.loop-i.invariant in (
      rw s.2 (reached_on a.0 s.0),
      omega (arith, s.2, ap length s.0, a.1),
      rw s.2 (bound_on a.2 (reached_part a.0 s.0) (told (goal.at.loop-i-preserved c).After-same) c.if-same.false),
    )

pub returns-then-same : goal.returns-then-same
returns-then-same c =
    let s = c.in-Some.ensures.steps in
    let a = c.loop-i.invariant in
    bound_found a.2 (reached_part a.0 s.0) (told (goal.at.returns-then-same c).After-same) c.if-same.true (rw s.1 at c.read_column.ensures)

pub returns : goal.returns
returns c = bound_end c.loop-i.invariant.2 (reached_end c.loop-i.invariant.0 c.in-None.ensures.steps.0.0)
