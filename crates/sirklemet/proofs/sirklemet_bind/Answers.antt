-- `sirklemet::sirklemet_bind` meets its contract: it hands on what `op_bind::bind` answers, as numbers.
use Rattle.std.proofs.Common.{◌∙◌}
use Rattle.sirklemet.proofs.sirklemet_bind.Goals as goal

pub returns : goal.returns
returns c =
    let l = c.bind-heard.ensures in
    record { hears = record { number = c.told_number.ensures ∙ l.hears.number; size = c.unwrap_or.ensures ∙ l.hears.size }; output = l.output }
