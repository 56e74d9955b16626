-- `bytes_bundle::first` meets its contract.
use native.Mathlib.Omega.{arith}
use Rattle.bytes_bundle.proofs.Places.{sized, first_room, first_at}
use Rattle.bytes_bundle.proofs.first.Goals as goal

pub get-n-requires : goal.get-n-requires
get-n-requires c = omega (arith, (sized c.requires.1).room)

pub overflow_mul-result : goal.overflow_mul-result
overflow_mul-result c = omega (arith, first_room c.requires.1 c.get-n.result c.get-n.ensures.is)

pub overflow_add-result : goal.overflow_add-result
overflow_add-result c = omega (arith, first_room c.requires.1 c.get-n.result c.get-n.ensures.is)

pub returns : goal.returns
returns c = first_at c.requires.1 c.get-n.result c.get-n.ensures.is
