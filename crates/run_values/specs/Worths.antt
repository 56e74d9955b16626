-- What a value that was worked out stands for, and what is heard of one that may be a fault.
-- Assumes nothing.
use Rattle.std.specs.Prelude.{◌≡◌, refl, Bool, true, false, cond, List, [], ◌∷◌, ℕ, zero, suc, ◌<◌, ltb, length, get_or, Option as Maybe, Some, None}
use Rattle.std.proofs.Common.{arith, ltb-true}
use Rattle.std.proofs.Math.Option.{Option, none, some, none-ne-some}
use Rattle.bytes_format.specs.Ways.{next}
use Rattle.image_expression.specs.Place.{node_count, node_at}
use Rattle.rules.specs.declared.Ordinal.{Ordinal}
use Rattle.rules.specs.Bound.{Value}
use Rattle.rules.specs.Lists.{Text}
use Rattle.rules.specs.Rows.{Row}
use Rattle.rules.specs.Evaluate.{Worked, worked, fault, no_rule, then, at, as_text, unary_value, binary_value}
use Rattle.rules.specs.Statements.{Unary, Binary}
use Rattle.run_values.specs.declared.Worth.{Worth}
use Rattle.run_values.specs.declared.Worth.TheVariants as worth

-- what was worked out; a fault and what has no rule are heard alike
abbrev pub told : {A : Type 0} → Worked A → Option A
told (worked a) = some a
told fault = none
told no_rule = none

-- what the code answers, as the rules' option of what it stands for
abbrev pub heard : {A B : Type 0} → (A → B) → Maybe A → Option B
heard f None = none
heard f (Some a) = some (f a)

-- one operand and two, where an operand that has no value leaves none
abbrev pub over_one : Unary → Option Value → Option Value
over_one o p = next p (λ u. told (unary_value o u))

abbrev pub over_two : Binary → Option Value → Option Value → Option Value
over_two o p q = next p (λ u. next q (λ v. told (binary_value o u v)))

-- what a worth stands for
abbrev pub value_of : Worth → Value
value_of worth.Null = Value.null
value_of (worth.Int z) = Value.int z
value_of (worth.Bool b) = Value.bool b
value_of (worth.Text s) = Value.text s.now

-- how many bytes of text it has
abbrev pub text_size : Worth → ℕ
text_size worth.Null = 0
text_size (worth.Int z) = 0
text_size (worth.Bool b) = 0
text_size (worth.Text s) = length s.now

abbrev pub text_size_of : Maybe Worth → ℕ
text_size_of None = 0
text_size_of (Some w) = text_size w

abbrev pub ordinal : ℕ → Ordinal
ordinal n = record { 0 = n }

-- ---- laws

pub told_then : {A B : Type 0} (w : Worked A) (f : A → Worked B) → told (then w f) ≡ next (told w) (λ a. told (f a))
told_then (worked a) f = refl
told_then fault f = refl
told_then no_rule f = refl

-- ---- a text's place

as_text_lem : (v : Value) {t : Text} → as_text v ≡ some t → v ≡ Value.text t
as_text_lem (Value.int z) h = absurd (none-ne-some _ h)
as_text_lem (Value.text s) h = cc
as_text_lem (Value.bool b) h = absurd (none-ne-some _ h)
as_text_lem Value.null h = absurd (none-ne-some _ h)

within : (x : Row) (n : ℕ) {t : Text} → get_or x n Value.null ≡ Value.text t → n < length x
within [] zero h = absurd (let z : ◌≡◌ {A = ℕ} 0 1 = cc in omega arith)
within [] (suc n) h = absurd (let z : ◌≡◌ {A = ℕ} 0 1 = cc in omega arith)
within (v ∷ x) zero h = omega arith
within (v ∷ x) (suc n) h = let k = within x n h in omega arith

pub row_text : (x : Row) (n : ℕ) {t : Text} → as_text (at x (ordinal n)) ≡ some t → (n < length x) × (at x (ordinal n) ≡ Value.text t)
row_text x n h = let k = as_text_lem (get_or x n Value.null) h in (within x n k, k)

pub node_text : (e : List ℕ) (n : ℕ) {t : Text} → cond (ltb n (node_count e)) (some (node_at e n).text) none ≡ some t
    → (n < node_count e) × ((node_at e n).text ≡ t)
node_text e n {t} h = go (ltb n (node_count e)) refl h
  where
    go : (b : Bool) → ltb n (node_count e) ≡ b → cond b (some (node_at e n).text) none ≡ some t → (n < node_count e) × ((node_at e n).text ≡ t)
    go true p k = (ltb-true n (node_count e) p, cc)
    go false p k = absurd (none-ne-some _ k)
