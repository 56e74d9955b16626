-- `bind_insert_rows::rows_len` meets its contract. The invariant: how long the rows so far are, and how much room there is for those that are left.
use mathlib.Core.Path.{◌≡◌, ap, ◌∙◌}
use native.Mathlib.Omega.{arith}
use lib.ListN.{length}
use Rattle.bytes_format.proofs.Formats.{list_of}
use Rattle.bytes_bundle.specs.Bundle.{parts_of}
use Rattle.bytes_bundle.specs.Left.{parts_left}
use Rattle.bytes_bundle.specs.Held.{list_bundle}
use Rattle.image_expression.specs.Expression.{expression}
use Rattle.bind_literal.specs.Scalars.{known}
use Rattle.bind_insert_rows.specs.Values.{rowed_none, rowed_part, rowed_on, rowed_off, rowed_end}
use Rattle.std.proofs.lemmas.Result.{IfOk-from_err}
use Rattle.bind_table.specs.Steps.{handed_on}
use Rattle.bind_insert_columns.specs.Small.{parts_short}
use borrow.Author.Rules.{rules}
use Rattle.bind_insert_rows.proofs.rows_len.Goals as goal

pub iter-row-items-requires : goal.iter-row-items-requires
iter-row-items-requires c = (search rules, list_bundle (list_of 2 expression) c.requires.0)

pub loop-row-init : goal.loop-row-init
loop-row-init c =
    let e : parts_left c.into_iter-row-iterator.result ≡ parts_of 2 c.args.rows.now = cc in
    (omega (arith, ap length e), rowed_none e)

pub row_len-requires : goal.row_len-requires
row_len-requires c = (rowed_part c.loop-row.invariant.1 c.in-Some.ensures.steps c.requires.0, c.requires.1)

pub overflow_add-total : goal.overflow_add-total
overflow_add-total c = omega (arith, c.in_ok-total.ensures.0)

pub overflow_add-total-in-loop-row : goal.overflow_add-total-in-loop-row
overflow_add-total-in-loop-row c =
    omega (arith, c.in_ok-total.ensures.0, c.loop-row.invariant.0, (parts_short (known c.type_inv.rows) (list_bundle (list_of 2 expression) c.requires.0)).few)

pub returns-in_err-total : goal.returns-in_err-total
returns-in_err-total c = (
  IfOk-from_err _ _ c.from_residual.ensures.0,
  λ cs rs b q h. handed_on c.from_residual.ensures.1 ∙ rowed_off c.loop-row.invariant.1 c.in-Some.ensures.steps c.row_len.ensures.1 c.in_err-total.was cs rs b q h,
)

pub loop-row-preserved : goal.loop-row-preserved
loop-row-preserved c =
    let d = c.in-Some.ensures.steps in (
      omega (arith, c.in_ok-total.ensures.0, c.loop-row.invariant.0, ap length d),
      rowed_on c.loop-row.invariant.1 d c.row_len.ensures.1 c.in_ok-total.was,
    )

pub returns : goal.returns
returns c = (
  omega (arith, c.loop-row.invariant.0, (parts_short (known c.type_inv.rows) (list_bundle (list_of 2 expression) c.requires.0)).few),
  rowed_end c.loop-row.invariant.1 c.in-None.ensures.steps.0,
)
