-- `bytes_utf8::is_ascii_block` meets its contract.
use Rattle.std.proofs.Common.{◌≡◌, ℕ, bit_or, fold, ltb, ap, ◌∙◌, rules}
use Rattle.bytes_utf8.proofs.Behind.{gathered_block}
use Rattle.bytes_utf8.proofs.is_ascii_block.Goals as goal

pub returns : goal.returns
returns g c =
    let bits : c.fold-bits.result ≡ fold bit_or 0 c.args.block.now = search rules in
    ap (λ (b : ℕ). ltb b 0x80) bits ∙ gathered_block _ _ c.told-block
