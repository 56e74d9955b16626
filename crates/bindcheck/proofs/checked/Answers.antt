-- `bindcheck::checked` meets its contract: an input is too long, or `bind` answers.
use Rattle.std.proofs.Common.{arith, refl}
use Rattle.bindcheck.specs.Checked.{long_statement, long_catalogue, judged}
use Rattle.bindcheck.proofs.checked.Goals as goal

pub returns-then-statement-gt-MOST : goal.returns-then-statement-gt-MOST
returns-then-statement-gt-MOST c = long_statement _ _ (omega arith) refl

pub returns-then-catalogue-gt-MOST : goal.returns-then-catalogue-gt-MOST
returns-then-catalogue-gt-MOST c = long_catalogue _ _ (omega arith) (omega arith) refl

pub returns : goal.returns
returns c = judged _ _ (omega arith) (omega arith) refl c.bind.ensures
