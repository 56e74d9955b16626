-- `bind_create::take_options` meets its contract. The invariant: with the state so far, the options that are left make what all of them make.
use Rattle.bytes_bundle.specs.Ahead.{Ahead}
use Rattle.bytes_bundle.specs.Left.{parts_left}
use Rattle.image_parts.specs.Layout.{option}
use Rattle.bind_options.specs.Steps.{state_of}
use Rattle.rules.specs.Analyze.{no_options, options}
use Rattle.bind_create.proofs.take_options.Given as goal

abbrev pub invariant-loop-o : goal.invariant-loop-o
invariant-loop-o l = Ahead option l.s (options no_options) (parts_left l.o-iterator) (options (state_of l.state))
