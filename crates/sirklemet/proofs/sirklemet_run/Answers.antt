-- `sirklemet::sirklemet_run` meets its contract: it hands on what `op_run::run` answers, as numbers.
use Rattle.std.proofs.Common.{◌∙◌}
use Rattle.sirklemet.proofs.sirklemet_run.Goals as goal

pub returns : goal.returns
returns c =
    let l = c.run-ran.ensures in
    record { hears = record { number = c.told_number.ensures ∙ l.hears.number; size = c.unwrap_or.ensures ∙ l.hears.size }; output = l.output }
