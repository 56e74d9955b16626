-- What is to be taken off of the text is to be taken off of what is left.
use Rattle.std.proofs.Common.{length}
use Rattle.rules.specs.Trimmed.{front_width, cut_front}
use Rattle.text_trim.proofs.Laws.{Left}
use Rattle.text_trim.proofs.trim_front.Given as goal

abbrev pub invariant-loop-rest : goal.invariant-loop-rest
invariant-loop-rest l = Left front_width cut_front l.s l.left

abbrev pub decreases-loop-rest : goal.decreases-loop-rest
decreases-loop-rest l = length l.left
