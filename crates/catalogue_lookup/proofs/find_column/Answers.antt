-- `catalogue_lookup::find_column` meets its contract.
use Rattle.catalogue_lookup.specs.Finds.{among_is}
use Rattle.catalogue_lookup.proofs.find_column.Goals as goal

pub returns : goal.returns
returns c = λ v h. among_is v _ c.find_among.result (c.find_among.ensures v.columns (c.columns.ensures v h))
