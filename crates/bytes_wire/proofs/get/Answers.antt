-- `bytes_wire::get` meets its contract.
use Rattle.std.proofs.Common.{rules, arith}
use Rattle.bytes_wire.proofs.Laws.{got}
use Rattle.bytes_wire.proofs.get.Goals as goal

pub returns-in_default : goal.returns-in_default
returns-in_default c =
    let a = c.args in
    got a.s.now a.at a.k _ (record { at = λ i. (c.type_inv.s i).fits }) (omega arith) (omega arith) (search rules)
