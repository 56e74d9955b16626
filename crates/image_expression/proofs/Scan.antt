-- Whether some byte of a list is past ASCII.
-- Assumes nothing.
use Rattle.std.proofs.Common.{◌≡◌, refl, zero, suc, Bool, true, false, not, [], ◌∷◌, MatchBool, arith}
use Rattle.std.specs.Str.{IsAscii, IsNotAscii}
use Rattle.std.proofs.lemmas.Bool.Decides.{nat_tests}
use lib.Dec.{leb}
use Rattle.rules.specs.Lists.{Text, any}

none_beyond : (s : Text) → IsAscii s → any (leb 128) s ≡ false
none_beyond [] h = refl
none_beyond (b ∷ s) h =
    let first = h 0 in
    let rest = none_beyond s (λ i. h (suc i)) in
    grind (arith, nat_tests)

one_beyond : (s : Text) → IsNotAscii s → any (leb 128) s ≡ true
one_beyond [] h = absurd (omega (arith, h.1))
one_beyond (b ∷ s) (zero, h) = grind (arith, nat_tests)
one_beyond (b ∷ s) (suc i, h) =
    let rest = one_beyond s (i, h) in
    grind (arith, nat_tests)

pub some_beyond : (r : Bool) (s : Text) → MatchBool r (IsAscii s) (IsNotAscii s) → any (leb 128) s ≡ not r
some_beyond true s h = none_beyond s h
some_beyond false s h = one_beyond s h
