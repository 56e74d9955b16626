-- `bind_create::columns_len` meets its contract. The invariant: what was added up and what is left make the whole.
use borrow.Author.Rules.{rules}
use Prim.Native.Nat.{◌≤◌}
use mathlib.Core.Path.{◌≡◌, ap}
use lib.ListN.{length}
use native.Mathlib.Omega.{arith}
use Rattle.bytes_bundle.specs.Bundle.{parts_of}
use Rattle.bytes_bundle.specs.Left.{parts_left}
use Rattle.bytes_bundle.specs.Held.{list_bundle}
use Rattle.bytes_bundle.specs.Ahead.{ahead_from, ahead_on, ahead_end}
use Rattle.image_parts.specs.Layout.{column_definition}
use Rattle.bind_repeats.specs.Short.{short_length, short_inside, in_column}
use Rattle.bind_create.specs.Within.{columns_left, column_here, columns_behind}
use Rattle.bind_create.proofs.Names.{room_next, room_end}
use Rattle.bind_create.proofs.columns_len.Goals.{After-name_text-text}
use Rattle.bind_create.proofs.columns_len.Goals as goal

-- a name is within the limit
named : (c : After-name_text-text) → length c.name_text-text.result.now ≤ 128
named c = short_length (short_inside (column_here c.loop-column.invariant.1 c.in-Some.ensures.steps) (in_column c.column_name.ensures)) c.name_text-text.ensures

pub iter-column-items-requires : goal.iter-column-items-requires
iter-column-items-requires c = let r = list_bundle column_definition c.requires.short.is in search rules

pub loop-column-init : goal.loop-column-init
loop-column-init c =
    let e : parts_left c.into_iter-column-iterator.result ≡ parts_of 2 c.args.s.now = cc in
    (omega (arith, ap length e), columns_left c.requires.short e, ahead_from e (λ cs. omega arith))

pub column_name-requires : goal.column_name-requires
column_name-requires c = (column_here c.loop-column.invariant.1 c.in-Some.ensures.steps).is

pub name_text-text-requires : goal.name_text-text-requires
name_text-text-requires c = (short_inside (column_here c.loop-column.invariant.1 c.in-Some.ensures.steps) (in_column c.column_name.ensures)).is

pub column_schema_len-requires : goal.column_schema_len-requires
column_schema_len-requires c = omega (arith, named (goal.at.column_schema_len-requires c).After-name_text-text)

pub overflow_add-sum : goal.overflow_add-sum
overflow_add-sum c = omega (arith, c.column_schema_len.ensures.0, named (goal.at.overflow_add-sum c).After-name_text-text)

pub overflow_add-sum-in-loop-column : goal.overflow_add-sum-in-loop-column
overflow_add-sum-in-loop-column c =
    omega (arith, c.column_schema_len.ensures.0, named (goal.at.overflow_add-sum-in-loop-column c).After-name_text-text, c.loop-column.invariant.0, c.requires.few)

pub loop-column-preserved : goal.loop-column-preserved
loop-column-preserved c =
    let l = c.loop-column in
    let d = c.in-Some.ensures.steps in (
      omega (arith, c.column_schema_len.ensures.0, named (goal.at.loop-column-preserved c).After-name_text-text, l.invariant.0, ap length d),
      columns_behind l.invariant.1 d,
      ahead_on l.invariant.2 d (λ v cs h. omega (arith, c.column_schema_len.ensures.0, room_next v cs, ap length (c.name_text-text.ensures v.name (c.column_name.ensures v h)))),
    )

pub returns : goal.returns
returns c =
    let l = c.loop-column in (
      λ cs h. omega (arith, ahead_end l.invariant.2 c.in-None.ensures.steps.0 cs h, room_end),
      omega (arith, l.invariant.0, c.requires.few),
    )
