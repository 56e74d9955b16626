-- `write_select_columns::put_one` meets its contract: the column, then its length.
use native.Mathlib.Omega.{arith}
use Rattle.image_bound.specs.Beside.{wrote_long}
use Rattle.write_select_columns.specs.Laid.{laid_one}
use Rattle.write_select_columns.proofs.put_one.Goals as goal

pub put_called-next-requires : goal.put_called-next-requires
put_called-next-requires c = c.requires.1

pub overflow_sub-next : goal.overflow_sub-next
overflow_sub-next c =
    let w = c.requires.1 in
    omega (arith, (c.put_called-next.ensures w.schema w.value w.column w.holds w.reads w.gives).end)

pub put-entry-requires : goal.put-entry-requires
put-entry-requires c =
    let p = c.requires in
    let w = p.1 in
    let a = c.put_called-next.ensures w.schema w.value w.column w.holds w.reads w.gives in
    omega (arith, p.0, w.room, wrote_long a)

pub returns : goal.returns
returns c = λ v x b hv hx h. laid_one c.requires.0 (c.put_called-next.ensures v x b hv hx h) c.put-entry.ensures
