-- `bind_repeats::are_alike_names` meets its contract.
use Rattle.bind_repeats.specs.Short.{short_length}
use Rattle.bind_repeats.proofs.Same.{names_alike}
use Rattle.bind_repeats.proofs.are_alike_names.Goals as goal

pub are_same_name-requires : goal.are_same_name-requires
are_same_name-requires c = (short_length c.requires.0 c.name_text.ensures, short_length c.requires.1 c.name_text-2.ensures)

pub returns : goal.returns
returns c = λ v w h k. names_alike c.are_same_name.ensures (c.name_is_quoted.ensures v h) (c.name_text.ensures v h) (c.name_is_quoted-2.ensures w k) (c.name_text-2.ensures w k)
