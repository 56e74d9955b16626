-- What a value of a sum tells of its bytes: the code is the place of its case, and its content is read behind the code. And marks in a record's first part.
-- Assumes nothing.
use Rattle.std.specs.Prelude.{◌≡◌, refl, List, [], ◌∷◌, ℕ, zero, suc, ◌<◌, length, drop, get_or}
use Rattle.std.proofs.Common.{sym, ap, subst, inl, inr, arith}
use Rattle.std.proofs.Math.Option.{Option, none, some, some-injective}
use Rattle.bytes_format.specs.Ways.{some_read, some_code, Case, Some, made, spread}
use Rattle.bytes_format.proofs.Laws.{next_some, spread_one}
use Rattle.bytes_format.proofs.Formats.{pieces}
use Rattle.bytes_format.proofs.Sums.{sum, choice}
use Rattle.bytes_bundle.specs.Bundle.{is_there, or_nil, parts_of, IsBundle}
use Rattle.bytes_bundle.specs.Fields.{choice_value}

-- ---- a code, and its case

module _ {T : Type 0} where
  -- the content of a case is read from s
  abbrev pub SomeHas : (l : List (Case T)) → Some l → List ℕ → Type 0
  SomeHas [] x s = ⊥
  SomeHas (c ∷ l) (inl x) s = c.form.read s ≡ some x
  SomeHas (c ∷ l) (inr y) s = SomeHas l y s

  some_holds : (l : List (Case T)) (i : ℕ) (s : List ℕ) (x : Some l) → some_read l i s ≡ some x → (i ≡ some_code l x) × SomeHas l x s
  some_holds [] i s x e = absurd x
  some_holds (c ∷ l) zero s x e =
      next_some (c.form.read s) (λ y. some (inl y)) e (λ y h k.
      subst (λ (z : Some (c ∷ l)). (zero ≡ some_code (c ∷ l) z) × SomeHas (c ∷ l) z s) (some-injective (inl y) x k) (refl, h))
  some_holds (c ∷ l) (suc i) s x e =
      next_some (some_read l i s) (λ y. some (inr y)) e (λ y h k.
      let m = some_holds l i s y h in
      subst (λ (z : Some (c ∷ l)). (suc i ≡ some_code (c ∷ l) z) × SomeHas (c ∷ l) z s) (some-injective (inr y) x k) (ap suc m.0, m.1))

  pub record ChoiceHas (l : List (Case T)) (which : T → Some l) (s : List ℕ) (t : T) : Type 0 where
    pub wide : 0 < length s
    pub code : get_or s 0 0 ≡ some_code l (which t)
    pub content : SomeHas l (which t) (drop 1 s)

  module _ (l : List (Case T)) (which : T → Some l) (mw : (t : T) → made l (which t) ≡ t)
      (wm : spread l (λ x. which (made l x)) ≡ spread l (λ x. x)) (few : _) (s : List ℕ) where
    pub choice_has : {t : T} → (choice (sum l which mw wm) few).read s ≡ some t → ChoiceHas l which s t
    choice_has {t} e =
        let k = choice_value (sum l which mw wm) few s e in
        next_some (some_read l (get_or s 0 0) (drop 1 s)) (λ x. some (made l x)) k.1 (λ x h z.
        let m = subst (λ (y : Some l). (get_or s 0 0 ≡ some_code l y) × SomeHas l y (drop 1 s)) (sym (spread_one l (λ y. which (made l y)) (λ y. y) wm x)) (some_holds l (get_or s 0 0) (drop 1 s) x h) in
        subst (ChoiceHas l which s) (some-injective (made l x) t z) (record { wide = k.0; code = m.0; content = m.1 }))

-- ---- a part that has a byte

pub record HasPart (w : ℕ) (s : List ℕ) (i : ℕ) : Type 0 where
  pub bundle : IsBundle w s
  pub within : i < length (parts_of w s)

-- only a part that is there has a byte
pub has_part : (w i k : ℕ) (s : List ℕ) → k < length (get_or (parts_of w s) i []) → HasPart w s i
unfolding parts_of
has_part w i k s h = go ((pieces w).read s) refl h
  where
    within : (i : ℕ) (l : List (List ℕ)) → k < length (get_or l i []) → i < length l
    within i [] h = absurd (omega arith)
    within zero (p ∷ l) h = omega arith
    within (suc i) (p ∷ l) h = omega (arith, within i l h)

    go : (o : Option (List (List ℕ))) → (pieces w).read s ≡ o → k < length (get_or (or_nil o) i []) → HasPart w s i
    go none e h = absurd (omega arith)
    go (some l) e h = record { bundle = record { there = ap is_there e }; within = rw e (within i l h) }
