-- What is to be taken off of the text is to be taken off of what is left.
use Rattle.std.proofs.Common.{length}
use Rattle.rules.specs.Trimmed.{back_width, cut_back}
use Rattle.text_trim.proofs.Laws.{Left}
use Rattle.text_trim.proofs.trim_back.Given as goal

abbrev pub invariant-loop-rest : goal.invariant-loop-rest
invariant-loop-rest l = Left back_width cut_back l.s l.left

abbrev pub decreases-loop-rest : goal.decreases-loop-rest
decreases-loop-rest l = length l.left
