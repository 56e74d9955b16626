-- What an answer tells of the steps that made it, and how a verdict is read as a relation.
-- Assumes nothing.
use Rattle.std.specs.Prelude.{◌≡◌, refl, Bool, true, false, cond, ◌↔◌, ◌⊎◌, ℕ}
use Rattle.std.proofs.Common.{sym, true≢false, inl, inr, ⊎_elim, arith}
use Rattle.std.proofs.lemmas.Bool.{false≢true}
use Rattle.std.proofs.Math.Option.{Option, none, some}
use Rattle.rules.specs.declared.Class.{Class}
use Rattle.rules.specs.declared.Refusal.{Refusal}
use Rattle.rules.specs.Answers.{Answer, given, refused, ◌>>=◌, Verdict, fine, flaw, judged}

-- ---- answers

-- the value changed by a function, a refusal left as it is
abbrev pub mapped : {A B : Type 0} → (A → B) → Answer A → Answer B
mapped f (given a) = given (f a)
mapped f (refused r) = refused r

pub never_given : {A : Type 0} {r : Refusal} {a : A} → refused r ≡ given a → ⊥
never_given {A} {r} {a} h = let z : ◌≡◌ {A = ℕ} 0 1 = cc in omega arith

module _ {A B : Type 0} where
  -- where two steps gave a value, the first gave one, and the second made this value of it
  pub bind_given : (r : Answer A) (k : A → Answer B) (b : B) → (r >>= k) ≡ given b → (a : A) × (r ≡ given a) × (k a ≡ given b)
  bind_given (given a) k b h = (a, refl, h)
  bind_given (refused q) k b h = absurd (never_given h)

  pub mapped_given : (f : A → B) (r : Answer A) (b : B) → mapped f r ≡ given b → (a : A) × (r ≡ given a) × (f a ≡ b)
  mapped_given f (given a) b h = (a, refl, cc)
  mapped_given f (refused q) b h = absurd (never_given h)

-- ---- verdicts

pub never_fine : {A : Type 0} {k : Class} {a : A} → flaw k ≡ fine a → ⊥
never_fine {A} {k} {a} h = let z : ◌≡◌ {A = ℕ} 0 1 = cc in omega arith

pub judged_given : {A : Type 0} (v : Verdict A) {a : A} → judged v ≡ given a → v ≡ fine a
judged_given (fine b) h = cc
judged_given (flaw k) h = absurd (never_given h)

pub never_some : {C : Type 0} {c : C} → none ≡ some c → ⊥
never_some {C} {c} h = let z : ◌≡◌ {A = ℕ} 0 1 = cc in omega arith

-- A verdict is fine exactly where a relation holds, which sees `f a` of the value `a`.
pub record Reads {A M : Type 0} (f : A → M) (v : Verdict A) (P : M → Type 0) : Type 0 where
  pub only : (a : A) → v ≡ fine a → P (f a)
  pub all : (m : M) → P m → (a : A) × (v ≡ fine a) × (f a ≡ m)

-- A verdict is fine exactly on what a relation holds of.
abbrev pub Exactly : {A : Type 0} → Verdict A → (A → Type 0) → Type 0
Exactly v P = Reads (λ a. a) v P

module _ {A M : Type 0} {f : A → M} where
  pub reads_fine : (a : A) → Reads f (fine a) (λ m. m ≡ f a)
  reads_fine a = record { only = λ b h. cc; all = λ m e. (a, refl, sym e) }

  pub reads_flaw : (k : Class) → Reads f (flaw k) (λ m. ⊥)
  reads_flaw k = record { only = λ a h. never_fine h; all = λ m h. absurd h }

  -- a relation by another that holds where it does
  pub reads_as : {v : Verdict A} {P Q : M → Type 0} → ((m : M) → P m ↔ Q m) → Reads f v P → Reads f v Q
  reads_as e r = record { only = λ a h. (e (f a)).0 (r.only a h); all = λ m q. r.all m ((e m).1 q) }

  -- where the relation never holds
  pub reads_none : {P : M → Type 0} (k : Class) → ((m : M) → P m → ⊥) → Reads f (flaw k) P
  reads_none k h = reads_as (λ m. (λ n. absurd n, h m)) (reads_flaw k)

  -- a test that must pass
  pub reads_if : {v : Verdict A} {P : M → Type 0} (b : Bool) (k : Class) → Reads f v P → Reads f (cond b v (flaw k)) (λ m. (b ≡ true) × P m)
  reads_if true k r = reads_as (λ m. (λ p. (refl, p), λ p. p.1)) r
  reads_if false k r = reads_none k (λ m p. false≢true p.0)

  -- a test that must fail
  pub reads_unless : {v : Verdict A} {P : M → Type 0} (b : Bool) (k : Class) → Reads f v P → Reads f (cond b (flaw k) v) (λ m. (b ≡ false) × P m)
  reads_unless true k r = reads_none k (λ m p. true≢false p.0)
  reads_unless false k r = reads_as (λ m. (λ p. (refl, p), λ p. p.1)) r

  -- a test that chooses
  pub reads_either : {v w : Verdict A} {P Q : M → Type 0} (b : Bool) → Reads f v P → Reads f w Q
      → Reads f (cond b v w) (λ m. ((b ≡ true) × P m) ⊎ ((b ≡ false) × Q m))
  reads_either true r q = reads_as (λ m. (λ p. inl (refl, p), ⊎_elim (λ p. p.1) (λ p. absurd (true≢false p.0)))) r
  reads_either false r q = reads_as (λ m. (λ p. inr (refl, p), ⊎_elim (λ p. absurd (false≢true p.0)) (λ p. p.1))) q

  -- something looked for, that must be there
  pub reads_found : {C : Type 0} (v : Option C → Verdict A) (g : C → A) (k : Class) → v none ≡ flaw k → ((c : C) → v (some c) ≡ fine (g c))
      → (o : Option C) → Reads f (v o) (λ m. (c : C) × (o ≡ some c) × (m ≡ f (g c)))
  reads_found v g k e e' none = rw e (reads_none k (λ m p. never_some p.1))
  reads_found v g k e e' (some c) = rw (e' c) (reads_as (λ m. (λ p. (c, refl, p), λ p. let h : c ≡ p.0 = cc in rw h p.2)) (reads_fine (g c)))

-- a verdict with nothing to tell but that it is fine
pub passed : {v : Verdict Unit} {P : Type 0} → Exactly v (λ u. P) → (v ≡ fine tt) ↔ P
passed r = (r.only tt, λ p. (r.all tt p).1)
