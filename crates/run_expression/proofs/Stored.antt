-- A value of the row by its type code.
-- Assumes nothing.
use mathlib.Core.Path.{◌≡◌, refl, sym, ap, ◌∙◌}
use mathlib.Core.Bool.{Bool}
use mathlib.Core.List.{List}
use mathlib.Core.Option.{some}
use Prim.Native.Nat.{ℕ, ◌+◌, ◌<◌}
use native.Mathlib.Omega.{arith}
use lib.IntN.{ℤ}
use lib.ListN.{length}
use Rattle.bytes_wire.specs.Le.{Bytes}
use Rattle.bytes_bundle.specs.Held.{Is, Holds, held, is_held}
use Rattle.image_row.specs.Layout.{row}
use Rattle.rules.specs.Bound.{Value}
use Rattle.rules.specs.Lists.{Text}
use Rattle.rules.specs.Rows.{Row}
use Rattle.rules.specs.Evaluate.{at}
use Rattle.image_value.specs.Parts.{value}
use Rattle.image_value.specs.Values.{type_code}
use Rattle.run_values.specs.Worths.{ordinal}
use Rattle.run_expression.specs.Short.{value_below}
use Rattle.run_expression.specs.Works.{StandsAt}

-- ---- a value by its code

int_of : (v : Value) → type_code v ≡ 0 → (z : ℤ) × (v ≡ Value.int z)
int_of (Value.int z) h = (z, refl)
int_of (Value.text s) h = absurd (omega arith)
int_of (Value.bool b) h = absurd (omega arith)
int_of Value.null h = absurd (omega arith)

text_of : (v : Value) → type_code v ≡ 1 → (s : Text) × (v ≡ Value.text s)
text_of (Value.int z) h = absurd (omega arith)
text_of (Value.text s) h = (s, refl)
text_of (Value.bool b) h = absurd (omega arith)
text_of Value.null h = absurd (omega arith)

bool_of : (v : Value) → type_code v ≡ 2 → (b : Bool) × (v ≡ Value.bool b)
bool_of (Value.int z) h = absurd (omega arith)
bool_of (Value.text s) h = absurd (omega arith)
bool_of (Value.bool b) h = (b, refl)
bool_of Value.null h = absurd (omega arith)

null_of : (v : Value) → (type_code v ≡ 0 → ⊥) → (type_code v ≡ 1 → ⊥) → (type_code v ≡ 2 → ⊥) → v ≡ Value.null
null_of (Value.int z) a b c = absurd (a refl)
null_of (Value.text s) a b c = absurd (b refl)
null_of (Value.bool v) a b c = absurd (c refl)
null_of Value.null a b c = refl

-- ---- the value at a position, in the bytes p, whose code is k

module _ (r : List ℕ) (n : ℕ) (p : List ℕ) (f : (x : Row) → Holds row r x → Holds value p (at x (ordinal n))) where
  pub is_value : Is row r → Is value p
  is_value i = held i (λ x h. is_held {f = value} (f x h))

  module _ {k : ℕ} (g : (v : Value) → Holds value p v → k ≡ type_code v) (x : Row) (h : Holds row r x) where
    pub int_stored : k ≡ 0 → {y : ℤ} → ((z : ℤ) → Holds value p (Value.int z) → y ≡ z) → Value.int y ≡ at x (ordinal n)
    int_stored c l = let w = int_of (at x (ordinal n)) (sym (g _ (f x h)) ∙ c) in ap Value.int (l w.0 (f x h ∙ ap some w.1)) ∙ sym w.1

    pub text_stored : k ≡ 1 → {y : Text} → ((z : Text) → Holds value p (Value.text z) → y ≡ z) → Value.text y ≡ at x (ordinal n)
    text_stored c l = let w = text_of (at x (ordinal n)) (sym (g _ (f x h)) ∙ c) in ap Value.text (l w.0 (f x h ∙ ap some w.1)) ∙ sym w.1

    pub bool_stored : k ≡ 2 → {y : Bool} → ((z : Bool) → Holds value p (Value.bool z) → y ≡ z) → Value.bool y ≡ at x (ordinal n)
    bool_stored c l = let w = bool_of (at x (ordinal n)) (sym (g _ (f x h)) ∙ c) in ap Value.bool (l w.0 (f x h ∙ ap some w.1)) ∙ sym w.1

    pub null_stored : (k ≡ 0 → ⊥) → (k ≡ 1 → ⊥) → (k ≡ 2 → ⊥) → Value.null ≡ at x (ordinal n)
    null_stored a b c = let q = g _ (f x h) in sym (null_of (at x (ordinal n)) (λ z. a (q ∙ z)) (λ z. b (q ∙ z)) (λ z. c (q ∙ z)))

-- a text of the row has less than 4 GiB, and its code has a byte
text_long : (s : Text) → length (value.write (Value.text s)) ≡ 1 + length s
unfolding value
text_long s = omega arith

pub text_short : {r : List ℕ} {n : ℕ} {s : Text} → Bytes r → StandsAt r n → ((x : Row) → Holds row r x → Value.text s ≡ at x (ordinal n)) → length s < 4294967295
text_short {r} {n} {s} b i f =
    held i.image (λ x h. omega (arith, value_below b h n (i.there x h), ap (λ (v : Value). length (value.write v)) (f x h), text_long s))
