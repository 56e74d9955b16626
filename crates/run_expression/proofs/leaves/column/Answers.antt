-- `leaves::column` meets its contract.
use Rattle.text_names.specs.Compared.{named}
use Rattle.rules.specs.Names.{canonical}
use Rattle.run_expression.proofs.Looked.{stands}
use Rattle.run_expression.proofs.leaves.column.Goals as goal

pub stored-requires : goal.stored-requires
stored-requires c = let a = c.args in stands a.t.now a.r.now (canonical (named a.quoted a.name.now)) c.find_column.ensures _ c.in-Some.is c.requires.0 c.requires.1.1
