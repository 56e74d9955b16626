-- A value by its bytes: the tests that tell it, and what the value that was read says of them.
-- Assumes nothing.
use Rattle.std.specs.Prelude.{◌≡◌, refl, Bool, true, false, ◌&&◌, ◌||◌, List, [], ◌∷◌, ℕ, zero, suc, ◌-◌, ◌^◌, ◌<◌, length, take, drop, get_or, eqb, ltb, ℤ}
use Rattle.std.proofs.Common.{sym, ap, ◌∙◌, arith, length-drop, get_or-drop, take_all, lt-ltb, eq-eqb, ne_eqb, to_z}
use Rattle.std.proofs.Math.Bool.{and-true}
use Rattle.std.proofs.lemmas.Bool.{false≢true}
use Rattle.std.proofs.Math.Option.{some-injective}
use Rattle.std.proofs.Math.Dec.{eqb-suc-suc}
use Rattle.std.specs.Int.Signed.{mag}
use Rattle.std.specs.Int.{w64}
use Rattle.bytes_utf8.specs.Decide.{is_utf8}
use Rattle.bytes_wire.specs.Le.{Bytes, num}
use Rattle.bytes_format.specs.Ways.{some_code}
use Rattle.bytes_format.proofs.Formats.{alone, mark, int64}
use Rattle.bytes_bundle.specs.Bundle.{is_there}
use Rattle.bytes_bundle.specs.Cases.{ChoiceHas, choice_has}
use Rattle.bytes_bundle.specs.Decides.{Decides}
use Rattle.bytes_bundle.specs.Fields.{case_is, nothing_is, text_is, int64_spot, field_is, field_value}
use Rattle.bytes_bundle.specs.Heads.{Chosen, sum_chosen, mark_spot}
use Rattle.bytes_bundle.specs.Held.{Holds, Is, Shows, held}
use Rattle.bytes_bundle.specs.Laws.{some_there}
use Rattle.bytes_bundle.specs.Values.{text_value, lone_mark}
use Rattle.rules.specs.Bound.{Value}
use Rattle.rules.specs.Numbers.{in_range}
use Rattle.image_value.specs.Parts.{values, which_value, value_made, value}

-- 0 INT, 1 TEXT, 2 BOOL, 3 NULL
abbrev pub type_code : Value → ℕ
type_code (Value.int z) = 0
type_code (Value.text s) = 1
type_code (Value.bool b) = 2
type_code Value.null = 3

abbrev pub is_int : Value → Bool
is_int v = eqb (type_code v) 0

abbrev pub is_text : Value → Bool
is_text v = eqb (type_code v) 1

abbrev pub is_bool : Value → Bool
is_bool v = eqb (type_code v) 2

-- ---- whether bytes are a value

pub value_chosen : (s : List ℕ) → Chosen (is_there (value.read s)) s values
unfolding value
value_chosen s = sum_chosen values which_value value_made refl refl s

pub mark_decided : (s : List ℕ) → Decides (is_there ((alone mark).read s)) (eqb (length s) 1 ∷ ltb (get_or s 0 0) 2 ∷ [])
mark_decided s = record { is = field_is mark_spot s }

-- all that stands behind the code
pub behind_code : (s : List ℕ) → take (length s - 1) (drop 1 s) ≡ drop 1 s
behind_code s = take_all (length s - 1) (drop 1 s) (omega (arith, length-drop 1 s))

-- the eight bytes of an INT stand behind the code
pub int_told : (s : List ℕ) → 0 < length s → eqb (length s) 9 ≡ is_there ((alone int64).read (drop 1 s))
int_told [] h = absurd (omega arith)
int_told (c ∷ s) h = eqb-suc-suc (length s) 8 ∙ sym (and-true (eqb (length s) 8)) ∙ sym (field_is int64_spot s)

-- a code, and behind it what the code says
pub is_value_lem : (s : List ℕ)
    → is_there (value.read s)
    ≡ (ltb 0 (length s)
    && ((eqb (get_or s 0 0) 0 && eqb (length s) 9)
    || ((eqb (get_or s 0 0) 1 && is_utf8 (drop 1 s))
    || ((eqb (get_or s 0 0) 2 && (eqb (length s) 2 && ltb (get_or s 1 0) 2)) || (eqb (get_or s 0 0) 3 && eqb (length s) 1)))))
is_value_lem s = (value_chosen s).is ∙ go s
  where
    or-false4 : (b : Bool) → b ≡ (b || (false || (false || false)))
    or-false4 true = refl
    or-false4 false = refl

    go : (s : List ℕ) → (ltb 0 (length s) && case_is values (get_or s 0 0) (drop 1 s))
        ≡ (ltb 0 (length s)
        && ((eqb (get_or s 0 0) 0 && eqb (length s) 9)
        || ((eqb (get_or s 0 0) 1 && is_utf8 (drop 1 s))
        || ((eqb (get_or s 0 0) 2 && (eqb (length s) 2 && ltb (get_or s 1 0) 2)) || (eqb (get_or s 0 0) 3 && eqb (length s) 1)))))
    go [] = refl
    go (zero ∷ s) = ap (λ (b : Bool). ltb 0 (suc (length s)) && b) (sym (int_told (0 ∷ s) (omega arith)) ∙ or-false4 _)
    go (suc zero ∷ s) = ap (λ (b : Bool). ltb 0 (suc (length s)) && b) (text_is s ∙ or-false4 _)
    go (suc (suc zero) ∷ s) = ap (λ (b : Bool). ltb 0 (suc (length s)) && b) ((mark_decided s).is ∙ rw (eqb-suc-suc (length s) 1) (or-false4 _))
    go (suc (suc (suc zero)) ∷ s) = ap (λ (b : Bool). ltb 0 (suc (length s)) && b) (nothing_is s ∙ sym (eqb-suc-suc (length s) 0))
    go (suc (suc (suc (suc n))) ∷ s) =
        sym (rw (ne_eqb (suc (suc (suc (suc n)))) 0 (omega arith), ne_eqb (suc (suc (suc (suc n)))) 1 (omega arith), ne_eqb (suc (suc (suc (suc n)))) 2 (omega arith), ne_eqb (suc (suc (suc (suc n)))) 3 (omega arith)))

-- ---- what a value says of its bytes

code_is : (v : Value) → some_code values (which_value v) ≡ type_code v
code_is (Value.int z) = refl
code_is (Value.text s) = refl
code_is (Value.bool b) = refl
code_is Value.null = refl

value_has : (s : List ℕ) (v : Value) → Holds value s v → ChoiceHas values which_value s v
unfolding value
value_has s v e = choice_has values which_value value_made refl refl s e

pub value_code : (s : List ℕ) (v : Value) → Holds value s v → get_or s 0 0 ≡ type_code v
value_code s v e = (value_has s v e).code ∙ code_is v

pub value_wide : {s : List ℕ} → Is value s → 0 < length s
value_wide {s} i = held i (λ v e. (value_has s v e).wide)

pub int_has : (s : List ℕ) (z : ℤ) → Holds value s (Value.int z) → (length s ≡ 9) × (to_z w64 (num (take 8 (drop 1 s))) ≡ z)
int_has s z e =
    let h = value_has s (Value.int z) e in
    let k = field_value int64_spot (drop 1 s) h.content in
    (omega (arith, h.wide, k.0, length-drop 1 s), some-injective (to_z w64 (num (take 8 (drop 1 s)))) z k.1)

pub text_has : (s t : List ℕ) → Holds value s (Value.text t) → drop 1 s ≡ t
text_has s t e = text_value (drop 1 s) (value_has s (Value.text t) e).content

pub bool_has : (s : List ℕ) (b : Bool) → Holds value s (Value.bool b) → (length s ≡ 2) × (eqb (get_or s 1 0) 1 ≡ b)
bool_has s b e =
    let h = value_has s (Value.bool b) e in
    let k = lone_mark (drop 1 s) h.content in
    (omega (arith, h.wide, k.wide, length-drop 1 s), rw (get_or-drop) at k.is)

-- ---- what the accessors may rely on

pub int_wide : {s : List ℕ} → Shows value is_int s → length s ≡ 9
int_wide {s} i = some_there (value.read s) i.there (λ v e. go v e (i.case v e))
  where
    go : (v : Value) → Holds value s v → is_int v ≡ true → length s ≡ 9
    go (Value.int z) e h = (int_has s z e).0
    go (Value.text t) e h = absurd (false≢true h)
    go (Value.bool b) e h = absurd (false≢true h)
    go Value.null e h = absurd (false≢true h)

pub text_wide : {s : List ℕ} → Shows value is_text s → 0 < length s
text_wide {s} i = value_wide (record { there = i.there })

pub bool_wide : {s : List ℕ} → Shows value is_bool s → length s ≡ 2
bool_wide {s} i = some_there (value.read s) i.there (λ v e. go v e (i.case v e))
  where
    go : (v : Value) → Holds value s v → is_bool v ≡ true → length s ≡ 2
    go (Value.int z) e h = absurd (false≢true h)
    go (Value.text t) e h = absurd (false≢true h)
    go (Value.bool b) e h = (bool_has s b e).0
    go Value.null e h = absurd (false≢true h)

-- the code of a value shows its type: `is_int` for 0, `is_text` for 1, `is_bool` for 2
pub code_shows : {s : List ℕ} {k : ℕ} → Is value s → ((v : Value) → Holds value s v → k ≡ type_code v) → (n : ℕ) → k ≡ n → Shows value (λ v. eqb (type_code v) n) s
code_shows i f n e = record { there = i.there; case = λ v h. eq-eqb (type_code v) n (sym (f v h) ∙ e) }

-- an INT of bytes lies in 64 signed bits
pub int_ranged : {s : List ℕ} {z : ℤ} → Bytes s → Holds value s (Value.int z) → in_range z ≡ true
unfolding value
int_ranged {s} {z} b h = lt-ltb (mag z) (2 ^ 63) (value.back s (Value.int z) b h).1
