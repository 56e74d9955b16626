-- `bytes_wire::put_all` meets its contract.
use Rattle.std.proofs.Common.{refl, arith, rules, sym, ◌∙◌}
use Rattle.std.proofs.lemmas.List.{take_all}
use Rattle.bytes_wire.proofs.Laws.{part_written}
use Rattle.bytes_wire.proofs.put_all.Goals as goal

pub returns : goal.returns
returns c =
    let l = c.loop-i in
    let s = c.args.src.now in
    part_written _ _ _ _ _ _ (omega arith) refl
    (sym (take_all l.i l.byte-items (search rules)) ∙ l.invariant ∙ take_all l.i s (omega (arith, l.auto.byte-items))) (omega arith)
