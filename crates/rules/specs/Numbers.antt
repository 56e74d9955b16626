-- Number text and exact integers. "Number text: an optional single + or -, then one or more ASCII digits, any leading zeros. A unary
-- minus directly over a number negates it, a unary plus keeps it; the result must lie in -9223372036854775808 to
-- 9223372036854775807."
-- Assumes nothing: these are definitions.
use Rattle.std.specs.Prelude.{ℕ, zero, suc, ◌+◌, ◌-◌, ◌*◌, ◌^◌, Bool, true, false, cond, not, ◌&&◌, ◌||◌, [], ◌∷◌, leb, ltb, eqb, ℤ, pos, negsuc, neg_ℤ, ◌+ℤ◌, ◌-ℤ◌, ◌*ℤ◌}
use Rattle.std.proofs.Math.Option.{Option, none, some}
use Rattle.std.specs.Int.Signed.{mag, quot_z, rem_z}
use Rattle.rules.specs.Lists.{Text, is_empty, all}

abbrev pub is_digit : ℕ → Bool
is_digit b = leb 0x30 b && leb b 0x39

-- the digits of a text behind those of a number v
unfoldable pub digits : ℕ → Text → ℕ
digits v [] = v
digits v (b ∷ s) = digits (v * 10 + (b - 0x30)) s

-- a number by its sign and its size
abbrev pub signed : Bool → ℕ → ℤ
signed true n = neg_ℤ (pos n)
signed false n = pos n

-- one or more digits
unfoldable pub unsigned_text : Bool → Text → Option ℤ
unsigned_text negative s = cond (is_empty s || not (all is_digit s)) none (some (signed negative (digits 0 s)))

-- an optional sign in front
unfoldable pub number_text : Text → Option ℤ
number_text [] = none
number_text (b ∷ s) = cond (eqb b 0x2B) (unsigned_text false s) (cond (eqb b 0x2D) (unsigned_text true s) (unsigned_text false (b ∷ s)))

-- -(2 ^ 63) to 2 ^ 63 - 1: `mag z` is n for n, and n for -(n + 1)
abbrev pub in_range : ℤ → Bool
in_range z = ltb (mag z) (2 ^ 63)

abbrev pub ranged : ℤ → Option ℤ
ranged z = cond (in_range z) (some z) none

-- the literal of a number text, under a unary minus or not
unfoldable pub integer_literal : Bool → Text → Option ℤ
integer_literal negative s = elim (number_text s) [ none ↦ none | some z ↦ ranged (cond negative (neg_ℤ z) z) ]

-- ---- "Arithmetic is exact; division cuts toward zero, the remainder has the dividend's sign. A zero divisor or a result outside 64
-- signed bits is fault 11." `none` is the fault.

abbrev pub sum : ℤ → ℤ → Option ℤ
sum a b = ranged (a +ℤ b)

abbrev pub difference : ℤ → ℤ → Option ℤ
difference a b = ranged (a -ℤ b)

abbrev pub product : ℤ → ℤ → Option ℤ
product a b = ranged (a *ℤ b)

abbrev pub quotient : ℤ → ℤ → Option ℤ
quotient a (pos zero) = none
quotient a (pos (suc n)) = ranged (quot_z a (pos (suc n)))
quotient a (negsuc n) = ranged (quot_z a (negsuc n))

abbrev pub remainder : ℤ → ℤ → Option ℤ
remainder a (pos zero) = none
remainder a (pos (suc n)) = ranged (rem_z a (pos (suc n)))
remainder a (negsuc n) = ranged (rem_z a (negsuc n))

abbrev pub negation : ℤ → Option ℤ
negation a = ranged (neg_ℤ a)
