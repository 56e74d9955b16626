-- `bind_insert_rows::fits` meets its contract.
use mathlib.Core.Path.{sym, ap, ◌∙◌}
use lib.Dec.{leb}
use Rattle.bind_insert_columns.specs.Coded.{code_null}
use Rattle.bind_insert_rows.proofs.fits.Goals as goal

pub returns : goal.returns
returns c = λ v k e h. c.value_fit.ensures v k e (sym (c.type_in.ensures k h)) (sym (ap (leb 4) h ∙ code_null k))
