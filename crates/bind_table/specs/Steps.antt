-- The steps of an answer one by one, as the code makes them: a step that is refused is the answer, and after one that gives something the rest
-- is. So the proof of a statement is a chain of these laws, joined by `∙`, in the order of the rules; it ends with `sized_given` or
-- `sized_refused`.
-- Assumes nothing.
use Rattle.std.proofs.Math.Path.{◌≡◌, ap}
use Rattle.std.specs.Prelude.{refl, Bool, true, false, List, ℕ, Result, Ok, Err, IsErrAnd, Option as Maybe, Some, None, ok_or}
use Rattle.std.specs.Borrow.{Bor}
use Rattle.std.proofs.Common.{sym, ◌∙◌, subst, arith}
use Rattle.std.proofs.Math.Option.{Option, none, some}
use Rattle.std.proofs.Math.ListN.{length}
use Rattle.std.proofs.lemmas.Result.{err_from_is_err_and}
use Rattle.bytes_format.specs.Format.{Format}
use Rattle.image_catalogue.specs.Layout.{table}
use Rattle.bytes_bundle.specs.Held.{Holds}
use Rattle.rules.specs.declared.Class.{Class}
use Rattle.rules.specs.declared.Refusal.{Refusal}
use Rattle.rules.specs.Answers.{Answer, given, refused, refuse_if, found, ◌>>=◌, ◌>>◌, Verdict, fine, flaw, judged}
use Rattle.rules.specs.Tables.{TableSchema}
use Rattle.rules.proofs.Theorems.Answered.{mapped}
use Rattle.bind_table.specs.Told.{told, sized, ResolvedAs}

-- the refusal of a class
abbrev pub classed : Class → Refusal
classed k = record { class = k }

-- ---- any step

module _ {A B : Type 0} {a : Answer A} (k : A → Answer B) where
  pub step_on : {v : A} → a ≡ given v → (a >>= k) ≡ k v
  step_on e = ap (λ (x : Answer A). x >>= k) e

  pub step_off : {r : Refusal} → a ≡ refused r → (a >>= k) ≡ refused r
  step_off e = ap (λ (x : Answer A). x >>= k) e

-- one whose value is not asked for
module _ {A B : Type 0} {a : Answer A} (b : Answer B) where
  pub past_on : {v : A} → a ≡ given v → (a >> b) ≡ b
  past_on e = ap (λ (x : Answer A). x >> b) e

  pub past_off : {r : Refusal} → a ≡ refused r → (a >> b) ≡ refused r
  past_off e = ap (λ (x : Answer A). x >> b) e

-- two steps that the code makes in one
pub steps_joined : {A B C : Type 0} (a : Answer A) (k : A → Answer B) (l : B → Answer C) → (a >>= (λ v. k v >>= l)) ≡ ((a >>= k) >>= l)
steps_joined (given v) k l = refl
steps_joined (refused r) k l = refl

-- ---- a test, something looked for, a verdict

module _ {B : Type 0} {t : Bool} (k : Class) (b : Answer B) where
  pub test_on : t ≡ false → (refuse_if t k >> b) ≡ b
  test_on e = past_on b (ap (λ (x : Bool). refuse_if x k) e)

  pub test_off : t ≡ true → (refuse_if t k >> b) ≡ refused (classed k)
  test_off e = past_off b (ap (λ (x : Bool). refuse_if x k) e)

module _ {A B : Type 0} {o : Option A} (k : Class) (f : A → Answer B) where
  pub found_on : {v : A} → o ≡ some v → (found o k >>= f) ≡ f v
  found_on e = step_on f (ap (λ (x : Option A). found x k) e)

  pub found_off : o ≡ none → (found o k >>= f) ≡ refused (classed k)
  found_off e = step_off f (ap (λ (x : Option A). found x k) e)

module _ {A B : Type 0} {j : Verdict A} (b : Answer B) where
  pub judged_on : {v : A} → j ≡ fine v → (judged j >> b) ≡ b
  judged_on e = past_on b (ap judged e)

  pub judged_off : {k : Class} → j ≡ flaw k → (judged j >> b) ≡ refused (classed k)
  judged_off e = past_off b (ap judged e)

-- ---- the length of what an answer gives

module _ {A : Type 0} (f : Format A) where
  -- what is answered at the end of a chain
  pub sized_given : {a : Answer A} {v : A} {n : ℕ} → a ≡ given v → n ≡ length (f.write v) → Ok n ≡ sized f a
  unfolding sized
  sized_given e h = ap Ok h ∙ ap (λ (x : Answer A). told (mapped (λ v. length (f.write v)) x)) (sym e)

  pub sized_refused : {a : Answer A} {r : Refusal} → a ≡ refused r → Err r ≡ sized f a
  unfolding sized
  sized_refused e = ap (λ (x : Answer A). told (mapped (λ v. length (f.write v)) x)) (sym e)

  -- what was measured of the rest is what was measured of all
  pub sized_as : {m : Result ℕ Refusal} {a b : Answer A} → a ≡ b → m ≡ sized f b → m ≡ sized f a
  sized_as e h = h ∙ ap (sized f) (sym e)

-- a `?` that meets a refusal answers with it
pub handed_on : {A E : Type 0} {m : Result A E} {r : E} → IsErrAnd m (λ (x : E). x ≡ r) → m ≡ Err r
handed_on {m = m} h = let p = err_from_is_err_and m h in p.1 ∙ ap Err p.2

module _ {A : Type 0} (f : Format A) where
  pub sized_handed : {m : Result ℕ Refusal} {a : Answer A} {r : Refusal} → IsErrAnd m (λ (x : Refusal). x ≡ r) → a ≡ refused r → m ≡ sized f a
  sized_handed h e = handed_on h ∙ sized_refused f e

-- an answer gave something that is n bytes long
pub record Sized {A : Type 0} (f : Format A) (a : Answer A) (n : ℕ) : Type 0 where
  pub value : A
  pub gives : a ≡ given value
  pub long : n ≡ length (f.write value)

-- what a callee that measures has said, by the case that it answered
module _ {A : Type 0} (f : Format A) {m : Result ℕ Refusal} where
  pub sized_is : {a : Answer A} {n : ℕ} → m ≡ sized f a → m ≡ Ok n → Sized f a n
  unfolding sized
  sized_is {a} {n} e h = go a (sym h ∙ e)
    where
      go : (a : Answer A) → Ok n ≡ told (mapped (λ v. length (f.write v)) a) → Sized f a n
      go (given v) e = record { value = v; gives = refl; long = cc }
      go (refused r) e = let z : ◌≡◌ {A = ℕ} 0 1 = cc in absurd (omega arith)

  pub sized_off : {a : Answer A} {r : Refusal} → m ≡ sized f a → m ≡ Err r → a ≡ refused r
  unfolding sized
  sized_off {a} {r} e h = go a (sym h ∙ e)
    where
      go : (a : Answer A) → Err r ≡ told (mapped (λ v. length (f.write v)) a) → a ≡ refused r
      go (given v) e = let z : ◌≡◌ {A = ℕ} 0 1 = cc in absurd (omega arith)
      go (refused q) e = cc

-- ---- the table of a statement

-- what is answered where there is none: the refusal that a class became
pub off_resolved : (a : Answer TableSchema) {r k : Refusal} → r ≡ k → a ≡ refused k → ResolvedAs a (Err r)
off_resolved a q e = e ∙ ap refused (sym q)

-- what is answered from a lookup
pub looked_up : (a : Answer TableSchema) (o : Maybe (Bor (List ℕ))) {k : Refusal} → ((p : Bor (List ℕ)) → o ≡ Some p → ResolvedAs a (Ok p)) → (o ≡ None → a ≡ refused k)
    → ResolvedAs a (ok_or o k)
looked_up a (Some p) f g = f p refl
looked_up a None f g = g refl

-- an answer gave a table, whose bytes are p
pub record TableGiven (a : Answer TableSchema) (p : List ℕ) : Type 0 where
  pub value : TableSchema
  pub gives : a ≡ given value
  pub holds : Holds table p value

-- what a callee that resolves has said, by the case that it answered
module _ (a : Answer TableSchema) {r : Result (Bor (List ℕ)) Refusal} (h : ResolvedAs a r) where
  pub resolved_is : {p : Bor (List ℕ)} → r ≡ Ok p → TableGiven a p.now
  resolved_is q = let t = subst (ResolvedAs a) q h in record { value = t.0; gives = t.1; holds = t.2 }

  pub resolved_off : {k : Refusal} → r ≡ Err k → a ≡ refused k
  resolved_off q = subst (ResolvedAs a) q h
