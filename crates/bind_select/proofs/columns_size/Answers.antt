-- `bind_select::columns_size` meets its contract. The invariant: what was added up and what is left make the whole.
use mathlib.Core.Path.{◌≡◌, sym, ap, subst}
use mathlib.Core.List.{List, ◌∷◌}
use Prim.Native.Nat.{ℕ, ◌<◌}
use native.Mathlib.Omega.{arith}
use lib.ListN.{length}
use Rattle.bytes_bundle.specs.Held.{held, list_bundle}
use Rattle.bytes_wire.specs.Le.{Bytes}
use Rattle.bytes_format.specs.Format.{Every}
use Rattle.bytes_format.proofs.Formats.{pieces}
use Rattle.bytes_bundle.specs.Bundle.{or_nil, parts_of, IsBundle}
use Rattle.bytes_bundle.specs.Laws.{some_there}
use Rattle.bytes_bundle.specs.Left.{parts_left}
use Rattle.bytes_bundle.specs.Ahead.{ahead_from, ahead_part, ahead_on, ahead_end}
use Rattle.image_value.specs.Parts.{column_schema}
use Rattle.bind_table_ref.specs.Small.{known, parts_short, column_name_short}
use Rattle.bind_select.specs.Entries.{no_columns, more_columns}
use borrow.Author.Rules.{rules}
use Rattle.bind_select.proofs.columns_size.Goals.{After-column_name-name}
use Rattle.bind_select.proofs.columns_size.Goals as goal

-- the parts of bytes are bytes
parts_bytes : {s : List ℕ} → Bytes s → IsBundle 2 s → Every Bytes (parts_of 2 s)
unfolding parts_of
parts_bytes {s} b i = some_there ((pieces 2).read s) i.there (λ l e. subst (Every Bytes) (sym (ap or_nil e)) ((pieces 2).back s l b e).1.2)

-- a name's length has 2 bytes
named : (c : After-column_name-name) → length c.column_name-name.result.now < 65536
named c =
    let d = c.in-Some.ensures.steps in
    let b : Every Bytes (c.in-Some.column.now ∷ parts_left c.next.new.self) = rw d at c.loop-column.invariant.2 in
    held (ahead_part c.loop-column.invariant.1 d c.requires) (λ v h. omega (arith, ap length (c.column_name-name.ensures v h), column_name_short b.0 h))

pub iter-column-items-requires : goal.iter-column-items-requires
iter-column-items-requires c = let r = list_bundle (column_schema 2) c.requires in search rules

pub loop-column-init : goal.loop-column-init
loop-column-init c =
    let e : parts_left c.into_iter-column-iterator.result ≡ parts_of 2 c.args.s.now = cc in
    (omega (arith, ap length e), ahead_from e (λ cs. omega arith), rw e (parts_bytes (known c.type_inv.s) (list_bundle (column_schema 2) c.requires)))

pub column_name-name-requires : goal.column_name-name-requires
column_name-name-requires c = ahead_part c.loop-column.invariant.1 c.in-Some.ensures.steps c.requires

pub entry_len-sum-requires : goal.entry_len-sum-requires
entry_len-sum-requires c = let l = named (goal.at.entry_len-sum-requires c).After-column_name-name in omega arith

pub overflow_add-sum : goal.overflow_add-sum
overflow_add-sum c =
    let w = (parts_short (known c.type_inv.s) (list_bundle (column_schema 2) c.requires)).few in
    let m = named (goal.at.overflow_add-sum c).After-column_name-name in
    omega (arith, c.entry_len-sum.ensures, c.loop-column.invariant.0, w)

pub loop-column-preserved : goal.loop-column-preserved
loop-column-preserved c =
    let l = c.loop-column in
    let d = c.in-Some.ensures.steps in
    let m = named (goal.at.loop-column-preserved c).After-column_name-name in (
      omega (arith, c.entry_len-sum.ensures, l.invariant.0, ap length d),
      ahead_on l.invariant.1 d (λ v cs h. omega (arith, c.entry_len-sum.ensures, more_columns v cs, ap length (c.column_name-name.ensures v h))),
      (let b : Every Bytes (c.in-Some.column.now ∷ parts_left c.next.new.self) = rw d at l.invariant.2 in b).1,
    )

pub returns : goal.returns
returns c =
    let l = c.loop-column in
    let w = (parts_short (known c.type_inv.s) (list_bundle (column_schema 2) c.requires)).few in record {
      few = omega (arith, l.invariant.0, w);
      told = λ cs h. omega (arith, ahead_end l.invariant.1 c.in-None.ensures.steps.0 cs h, no_columns);
    }
