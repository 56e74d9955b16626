-- `image_value::int_of` meets its contract.
use Rattle.std.proofs.Common.{ℤ, ap, ◌∙◌, arith, w64, to_z, of_z}
use mir.Facts.{of_z-to_z}
use Rattle.image_value.specs.Values.{int_has, int_wide}
use Rattle.image_value.proofs.int_of.Goals as goal

pub get-requires : goal.get-requires
get-requires c = omega (arith, int_wide c.requires)

pub returns : goal.returns
returns c = λ z h.
    let s = c.args.v.now in
    let n = c.get.ensures in
    ap (λ (x : ℤ). to_z w64 (of_z w64 x)) c.cast_signed.ensures ∙ ap (to_z w64) (of_z-to_z {w = w64} (record { fits = n.fits }) ∙ n.is) ∙ (int_has s z h).1
