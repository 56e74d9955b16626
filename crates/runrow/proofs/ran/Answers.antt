-- `runrow::ran` meets its contract: an input is too long, or `run` answers.
use Rattle.std.proofs.Common.{refl, arith}
use Rattle.runrow.proofs.Cases.{long_statement, long_catalogue, long_row, judged}
use Rattle.runrow.proofs.ran.Goals as goal

pub returns-then-statement-gt-MOST : goal.returns-then-statement-gt-MOST
returns-then-statement-gt-MOST c = long_statement _ _ _ (omega arith) refl

pub returns-then-catalogue-gt-MOST : goal.returns-then-catalogue-gt-MOST
returns-then-catalogue-gt-MOST c = long_catalogue _ _ _ (omega arith) (omega arith) refl

pub returns-then-row-gt-MOST : goal.returns-then-row-gt-MOST
returns-then-row-gt-MOST c = long_row _ _ _ (omega arith) (omega arith) (omega arith) refl

pub returns : goal.returns
returns c = judged _ _ _ (omega arith) (omega arith) (omega arith) c.requires c.run.ensures
