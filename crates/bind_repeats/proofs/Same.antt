-- Two entries by their names, and the name inside of what holds one.
-- Assumes nothing.
use mathlib.Core.Path.{◌≡◌, refl, sym, ap, ap₂, ◌∙◌}
use mathlib.Core.Bool.{Bool, false}
use mathlib.Core.List.{List, [], ◌∷◌}
use mathlib.Core.Option.{Option, none, some, some-injective}
use Prim.Native.Nat.{ℕ}
use native.Mathlib.Omega.{arith}
use lib.ListN.{length}
use Rattle.bytes_format.specs.Format.{Format}
use Rattle.bytes_format.specs.Ways.{next}
use Rattle.bytes_format.proofs.Laws.{next_some}
use Rattle.bytes_bundle.specs.Held.{Is, Holds, held, held_once, is_held}
use Rattle.text_names.specs.Compared.{named}
use Rattle.rules.specs.Lists.{Text}
use Rattle.rules.specs.Lists as lists
use Rattle.rules.specs.Names.{canonical}
use Rattle.rules.specs.Statements.{Name, ObjectName, plain, qualified, Target, target, tuple}
use Rattle.image_parts.specs.Layout.{name, object_name, assignment_target}
use Rattle.image_parts.specs.NamesHeld.{name_has, object_name_no}
use Rattle.image_update.specs.Held.{target_no}
use Rattle.bind_repeats.specs.Short.{Inside}
use Rattle.bind_repeats.specs.Entries.{object_in, target_in, alike_names, maybe_name, Named, ComparesNames}

-- ---- a name

pub names_alike : {v w : Name} {q₁ q₂ r : Bool} {t₁ t₂ : Text} → r ≡ lists.same (canonical (named q₁ t₁)) (canonical (named q₂ t₂))
    → q₁ ≡ v.quoted → t₁ ≡ v.text → q₂ ≡ w.quoted → t₂ ≡ w.text → r ≡ alike_names (some v) (some w)
names_alike e a b c d = e ∙ ap₂ lists.same (ap₂ (λ (q : Bool) (t : Text). canonical (named q t)) a b) (ap₂ (λ (q : Bool) (t : Text). canonical (named q t)) c d)

pub alike_none : (x : Option Name) → alike_names x none ≡ false
alike_none none = refl
alike_none (some n) = refl

-- ---- the name inside of something

module _ {A B : Type 0} {f : Format A} {g : A → Option Name} {d : Format B} {k : B → Option Name} where
  pub alike_inside : {p₁ p₂ q₁ q₂ : List ℕ} {r : Bool} → Inside f g d k p₁ q₁ → Inside f g d k p₂ q₂
      → ((v w : B) → Holds d q₁ v → Holds d q₂ w → r ≡ alike_names (k v) (k w))
      → (v w : A) → Holds f p₁ v → Holds f p₂ w → r ≡ alike_names (g v) (g w)
  alike_inside i j e v w h l =
      let a = i.at v h in
      let b = j.at w l in
      e a.0 b.0 a.1 b.1 ∙ ap₂ alike_names (sym a.2) (sym b.2)

-- ---- a name, or no byte

no_byte : (p : List ℕ) → length p ≡ 0 → Holds maybe_name p none
no_byte [] h = refl
no_byte (b ∷ p) h = absurd (omega (arith, h))

pub only_none : (p : List ℕ) {v : Option Name} → length p ≡ 0 → Holds maybe_name p v → none ≡ v
only_none p h e = held_once maybe_name {s = p} (no_byte p h) e

pub some_name : (p : List ℕ) {n : Name} → Holds name p n → Holds maybe_name p (some n)
some_name [] {n} h = let w = (name_has [] n h).wide in absurd (omega (arith, w))
some_name (b ∷ p) h = ap (λ (o : Option Name). next o (λ n. some (some n))) h

-- where there is a byte, there is a name
pub in_maybe : (p : List ℕ) → (length p ≡ 0 → ⊥) → Inside maybe_name (λ n. n) name some p p
in_maybe p z = record { at = go p z }
  where
    go : (p : List ℕ) → (length p ≡ 0 → ⊥) → (v : Option Name) → Holds maybe_name p v → (n : Name) × Holds name p n × (v ≡ some n)
    go [] z v h = absurd (z refl)
    go (b ∷ p) z v h = next_some (name.read (b ∷ p)) (λ n. some (some n)) h (λ n e k. (n, e, sym (some-injective (some n) v k)))

module _ {A : Type 0} {f : Format A} {g : A → Option Name} {p q : List ℕ} where
  pub in_named : Named f g p q → Inside f g maybe_name (λ n. n) p q
  in_named e = record { at = λ v h. (g v, e.is v h, refl) }

  -- the entry has no name
  pub named_none : Holds maybe_name q none → ((v : A) → Holds f p v → g v ≡ none) → Named f g p q
  named_none e n = record { is = λ v h. e ∙ ap some (sym (n v h)) }

  -- the name is found
  pub named_there : Inside f g name some p q → Named f g p q
  named_there i = record {
    is = λ v h.
        let a = i.at v h in
        some_name q a.1 ∙ ap some (sym a.2);
  }

-- two entries by the bytes of their names
pub names_compared : {A : Type 0} {f : Format A} {g : A → Option Name} {p₁ p₂ q₁ q₂ : List ℕ} {r : Bool} → Named f g p₁ q₁ → Named f g p₂ q₂ → ComparesNames q₁ q₂ r
    → (v w : A) → Holds f p₁ v → Holds f p₂ w → r ≡ alike_names (g v) (g w)
names_compared a b e = alike_inside (in_named a) (in_named b) e

-- what q holds, inside of what p holds, has the name
module _ {A B : Type 0} {f : Format A} {g : A → Option Name} {d : Format B} {k : B → Option Name} {p q : List ℕ} (i : Inside f g d k p q) where
  pub is_inside : Is f p → Is d q
  is_inside t = held t (λ v h. is_held {f = d} (i.at v h).1)

  pub named_inside : {r : List ℕ} → Named d k q r → Named f g p r
  named_inside e = record {
    is = λ v h.
        let a = i.at v h in
        e.is a.0 a.1 ∙ ap some (sym a.2);
  }

-- ---- an object name

pub no_object : (v : ObjectName) → object_name_no v ≡ 0 → object_in v ≡ none
no_object qualified e = refl
no_object (plain n) e = absurd (omega (arith, e))

pub in_object : {p q : List ℕ} {code : ℕ} → ((v : ObjectName) → Holds object_name p v → code ≡ object_name_no v) → (code ≡ 0 → ⊥)
    → ((n : Name) → Holds object_name p (plain n) → Holds name q n) → Inside object_name object_in name some p q
in_object {p} {q} c z g = record { at = go }
  where
    go : (v : ObjectName) → Holds object_name p v → (w : Name) × Holds name q w × (object_in v ≡ some w)
    go qualified h = absurd (z (c qualified h))
    go (plain n) h = (n, g n h, refl)

-- ---- a target

pub no_target : (v : Target) → target_no v ≡ 0 → target_in v ≡ none
no_target tuple e = refl
no_target (target n) e = absurd (omega (arith, e))

pub in_target : {p q : List ℕ} {code : ℕ} → ((v : Target) → Holds assignment_target p v → code ≡ target_no v) → (code ≡ 0 → ⊥)
    → ((n : ObjectName) → Holds assignment_target p (target n) → Holds object_name q n) → Inside assignment_target target_in object_name object_in p q
in_target {p} {q} c z g = record { at = go }
  where
    go : (v : Target) → Holds assignment_target p v → (w : ObjectName) × Holds object_name q w × (target_in v ≡ object_in w)
    go tuple h = absurd (z (c tuple h))
    go (target n) h = (n, g n h, refl)
