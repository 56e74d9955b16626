-- Short names: of an entry of a list, and of what holds a name.
-- Assumes nothing.
use Rattle.std.specs.Prelude.{◌≡◌, refl, Bool, true, List, [], ◌∷◌, ℕ, zero, suc, ◌+◌, ◌-◌, ◌≤◌, length, take, drop}
use Rattle.std.proofs.Common.{sym, ap, ◌∙◌, arith, leb-true}
use Rattle.std.proofs.Math.Option.{Option, some}
use Rattle.bytes_format.specs.Format.{Format}
use Rattle.bytes_bundle.specs.Bundle.{Stepped}
use Rattle.bytes_bundle.specs.Decides.{and_of}
use Rattle.bytes_bundle.specs.Held.{Holds, turn, part_is, held, held_once, is_held}
use Rattle.bytes_bundle.specs.Numbered.{IsPart, valued, valued_is}
use Rattle.rules.specs.Lists.{all}
use Rattle.rules.specs.Statements.{Name, ColumnDefinition, Assignment}
use Rattle.image_parts.specs.Layout.{name, column_definition, assignment_target, assignment}
use Rattle.bind_repeats.specs.declared.Of.{Of}
use Rattle.bind_repeats.specs.Entries.{Entry, form, target_in, name_in, short_name, ShortIn, AllShort}

-- ---- an entry of a list

-- what holds of all holds of each
pub all_turn : {A : Type 0} (p : A → Bool) (i : ℕ) (l : List A) (x : A) (m : List A) → all p l ≡ true → drop i l ≡ x ∷ m → p x ≡ true
all_turn p zero [] x m h e = absurd (omega (arith, ap length e))
all_turn p (suc i) [] x m h e = absurd (omega (arith, ap length e))
all_turn p zero (y ∷ l) x m h e = (and_of (p x) (all p m) (ap (all p) (sym e) ∙ h)).0
all_turn p (suc i) (y ∷ l) x m h e = all_turn p i l x m (and_of (p y) (all p l) h).1 e

module _ {o : Of} {s : List ℕ} where
  pub short_part : {i at e : ℕ} → AllShort o s → Stepped 2 s i at e → ShortIn (form o) (name_in o) (take (e - at) (drop at s))
  short_part {i} {at} {e} a d = record {
    is = part_is d a.is;
    short = λ v h. held a.is (λ vs k.
        let t = turn {f = form o} d k in
        all_turn (λ w. short_name (name_in o w)) i vs v (drop (i + 1) vs) (a.short vs k) (t.rest ∙ ap (λ (w : Entry o). w ∷ drop (i + 1) vs) (held_once (form o) t.holds h)));
  }

  -- the same of a part by its number
  pub short_entry : {i : ℕ} {p : List ℕ} → AllShort o s → IsPart 2 s i p → ShortIn (form o) (name_in o) p
  short_entry {i} {p} a d = record {
    is = valued_is (form o) d a.is;
    short = λ v h. held a.is (λ vs k.
        let t = valued (form o) d k in
        all_turn (λ w. short_name (name_in o w)) i vs v (drop (i + 1) vs) (a.short vs k) (t.rest ∙ ap (λ (w : Entry o). w ∷ drop (i + 1) vs) (held_once (form o) t.holds h)));
  }

-- ---- a name

pub short_length : {p t : List ℕ} → ShortIn name some p → ((v : Name) → Holds name p v → t ≡ v.text) → length t ≤ 128
short_length {p} {t} s g = held s.is (λ v h. omega (arith, ap length (g v h), leb-true (length v.text) 128 (s.short v h)))

-- ---- the name inside of something

-- what p holds has the name of what q holds
pub record Inside {A B : Type 0} (f : Format A) (g : A → Option Name) (d : Format B) (k : B → Option Name) (p q : List ℕ) : Type 0 where
  pub at : (v : A) → Holds f p v → (w : B) × Holds d q w × (g v ≡ k w)

module _ {A B : Type 0} {f : Format A} {g : A → Option Name} {d : Format B} {k : B → Option Name} where
  pub short_inside : {p q : List ℕ} → ShortIn f g p → Inside f g d k p q → ShortIn d k q
  short_inside {p} {q} s i = record {
    is = held s.is (λ v h. is_held {f = d} (i.at v h).1);
    short = λ w h. held s.is (λ v l.
        let j = i.at v l in
        ap (λ (x : B). short_name (k x)) (held_once d h j.1) ∙ ap short_name (sym j.2) ∙ s.short v l);
  }

-- ---- the parts of records

pub in_column : {p q : List ℕ} → ((v : ColumnDefinition) → Holds column_definition p v → Holds name q v.name) → Inside column_definition (λ v. some v.name) name some p q
in_column g = record { at = λ v h. (v.name, g v h, refl) }

pub in_assignment : {p q : List ℕ} → ((v : Assignment) → Holds assignment p v → Holds assignment_target q v.target)
    → Inside assignment (λ v. target_in v.target) assignment_target target_in p q
in_assignment g = record { at = λ v h. (v.target, g v h, refl) }
