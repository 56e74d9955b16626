-- `run_update::run_row` meets its contract: a fault, or what was measured.
use mathlib.Core.Path.{refl, sym, ◌∙◌}
use Rattle.op_reply.specs.Leaves.{leaves_as_it_was}
use Rattle.run_update.specs.Rows.{row_faults}
use Rattle.run_update.proofs.run_row.Goals as goal

pub row_size-requires : goal.row_size-requires
row_size-requires c = c.requires

pub put_row-requires : goal.put_row-requires
put_row-requires c = record {
  runnable = c.requires;
  sizes = λ v xs y x hv hs hy hx. sym c.in-Some.is ∙ c.row_size.ensures v xs y x hv hs hy hx;
}

pub returns-in-Some : goal.returns-in-Some
returns-in-Some c = c.put_row.ensures

pub returns-in-None : goal.returns-in-None
returns-in-None c = λ u h. leaves_as_it_was (row_faults h _ c.requires c.row_size.ensures c.in-None.is) refl
