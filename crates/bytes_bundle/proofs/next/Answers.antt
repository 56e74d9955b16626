-- `bytes_bundle::next` meets its contract.
use native.Mathlib.Omega.{arith}
use Rattle.bytes_bundle.proofs.Places.{size_room, step_room, stepped}
use Rattle.bytes_bundle.proofs.next.Goals as goal

pub overflow_mul-i : goal.overflow_mul-i
overflow_mul-i c = let p = c.requires in omega (arith, size_room p.1 c.args.i p.3)

pub overflow_add-w : goal.overflow_add-w
overflow_add-w c = let p = c.requires in omega (arith, size_room p.1 c.args.i p.3)

pub get-k-requires : goal.get-k-requires
get-k-requires c = let p = c.requires in omega (arith, size_room p.1 c.args.i p.3)

pub overflow_add-result : goal.overflow_add-result
overflow_add-result c =
    let p = c.requires in
    let a = c.args in
    omega (arith, step_room p.1 a.i p.3 a.at c.get-k.result p.2 c.get-k.ensures.is)

pub returns : goal.returns
returns c =
    let p = c.requires in
    let a = c.args in
    stepped p.1 a.i p.3 a.at c.get-k.result p.2 c.get-k.ensures.is
