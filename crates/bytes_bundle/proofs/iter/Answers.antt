-- `bytes_bundle::iter` meets its contract.
use native.Mathlib.Omega.{arith}
use Rattle.bytes_bundle.specs.Left.{parts_left}
use Rattle.bytes_bundle.proofs.Places.{contents_room, contents_fill, contents_cut}
use Rattle.bytes_bundle.proofs.iter.Goals as goal

pub overflow_mul-left : goal.overflow_mul-left
overflow_mul-left c = omega (arith, contents_room c.requires.1 c.parts-left.result c.parts-left.ensures)

pub split_at-requires-2 : goal.split_at-requires-2
split_at-requires-2 c = omega (arith, contents_room c.requires.1 c.parts-left.result c.parts-left.ensures)

pub invariant_of-result-clause-filled : goal.invariant_of-result-clause-filled
invariant_of-result-clause-filled c = cc (contents_fill c.requires.1 c.parts-left.result c.parts-left.ensures)

pub returns : goal.returns
unfolding parts_left
returns c = cc (contents_cut c.requires.1 c.parts-left.result c.parts-left.ensures)
