-- Whether an answer is the one that a record has.
-- Assumes nothing.
use Rattle.std.specs.Prelude.{◌≡◌, refl, Bool, true, false, ◌&&◌, List, [], ◌∷◌, ◌++◌, ℕ, suc, ◌-◌, ◌≤◌, ◌<◌, eqb, leb, length, take, drop}
use Rattle.std.proofs.Common.{sym, ap, ap₂, ◌∙◌, arith, length-append, length-drop, take_all, take_at, drop_at}
use Rattle.std.proofs.Math.Bool.{and-true, and-false}
use borrow.Author.Tests.{eqb-true, eqb-false, eq-eqb, ne_eqb, le-leb, lt-leb}
use Rattle.std.proofs.Math.Dec.{leb-zero, eqb-zero-suc}
use Rattle.rules.specs.Heard.{Outcome, refuses, answers}
use Rattle.rules.specs.Lists.{same}
use Rattle.op_reply.specs.Leaves.{Reply, refusal, written, held, Leaves}

-- ---- of an outcome: the record has its number, 0 where there is an answer, and the answer's bytes, none where it is refused

unfoldable pub is_recorded : Outcome (List ℕ) → ℕ → List ℕ → Bool
is_recorded (refuses k) number expected = eqb k number && eqb 0 (length expected)
is_recorded (answers b) number expected = eqb 0 number && same b expected

-- ---- of a reply, and of the output, which held `before` and then `out`: the number, the length, every byte, and the room behind them as it was

abbrev agreeing_on : ℕ → ℕ → ℕ → List ℕ → List ℕ → List ℕ → Bool
agreeing_on refused long number expected before out =
    eqb refused number && (eqb long (length expected) && (leb (length expected) (length out) && (leb (length expected) (length before)
    && (same (take (length expected) out) expected && same (drop (length expected) out) (drop (length expected) before)))))

unfoldable pub agreeing : Reply → ℕ → List ℕ → List ℕ → List ℕ → Bool
agreeing r number expected before out = agreeing_on r.refusal r.length number expected before out

tail_all : (n : ℕ) (l : List ℕ) → take (length l - n) (drop n l) ≡ drop n l
tail_all n l = take_all (length l - n) (drop n l) (omega (arith, length-drop n l))

-- test by test
module _ (r : Reply) (number : ℕ) (expected before out : List ℕ) where
  pub other_number : (r.refusal ≡ number → ⊥) → false ≡ agreeing r number expected before out
  unfolding agreeing
  other_number h = simp (ne_eqb r.refusal number h)

  module _ (n : r.refusal ≡ number) where
    pub other_length : (r.length ≡ length expected → ⊥) → false ≡ agreeing r number expected before out
    unfolding agreeing
    other_length h = simp (eq-eqb r.refusal number n, ne_eqb r.length (length expected) h)

    module _ (l : r.length ≡ length expected) where
      pub short_output : length out < length expected → false ≡ agreeing r number expected before out
      unfolding agreeing
      short_output h = simp (eq-eqb r.refusal number n, eq-eqb r.length (length expected) l, lt-leb (length expected) (length out) h)

      module _ (p : length expected ≤ length out) where
        pub short_before : length before < length expected → false ≡ agreeing r number expected before out
        unfolding agreeing
        short_before h =
            simp (
              eq-eqb r.refusal number n,
              eq-eqb r.length (length expected) l,
              le-leb (length expected) (length out) p,
              lt-leb (length expected) (length before) h,
            )

        module _ (q : length expected ≤ length before) where
          pub other_bytes : same (take (length expected) out) expected ≡ false → false ≡ agreeing r number expected before out
          unfolding agreeing
          other_bytes h =
              simp (
                eq-eqb r.refusal number n,
                eq-eqb r.length (length expected) l,
                le-leb (length expected) (length out) p,
                le-leb (length expected) (length before) q,
                h,
              )

          pub same_bytes : same (take (length expected) out) expected ≡ true
              → same (take (length out - length expected) (drop (length expected) out)) (take (length before - length expected) (drop (length expected) before))
              ≡ agreeing r number expected before out
          unfolding agreeing
          same_bytes h =
              simp (
                eq-eqb r.refusal number n,
                eq-eqb r.length (length expected) l,
                le-leb (length expected) (length out) p,
                le-leb (length expected) (length before) q,
                h,
                tail_all,
              )

-- ---- the two are the same of an operation that keeps its contract

same_refl : (a : List ℕ) → same a a ≡ true
same_refl [] = refl
same_refl (x ∷ a) = ap₂ (λ (b c : Bool). b && c) (eq-eqb x x refl) (same_refl a)

same_length : (a b : List ℕ) → (length a ≡ length b → ⊥) → same a b ≡ false
same_length [] [] g = absurd (g refl)
same_length [] (y ∷ b) g = refl
same_length (x ∷ a) [] g = refl
same_length (x ∷ a) (y ∷ b) g = ap (λ (c : Bool). eqb x y && c) (same_length a b (λ e. g (ap suc e))) ∙ and-false (eqb x y)

agreed : (o : Outcome (List ℕ)) (number : ℕ) (expected before : List ℕ) → length (held o before) ≡ length before
    → agreeing_on (refusal o) (written o) number expected before (held o before) ≡ is_recorded o number expected
unfolding is_recorded
agreed (refuses k) number [] before h = simp (leb-zero, same_refl)
agreed (refuses k) number (x ∷ e) before h = simp eqb-zero-suc
agreed (answers b) number expected before h = ap (λ (c : Bool). eqb 0 number && c) (go (eqb (length b) (length expected)) refl)
  where
    out : List ℕ
    out = b ++ drop (length b) before

    rest : Bool
    rest = leb (length expected) (length out) && (leb (length expected) (length before)
        && (same (take (length expected) out) expected && same (drop (length expected) out) (drop (length expected) before)))

    go : (t : Bool) → eqb (length b) (length expected) ≡ t → (eqb (length b) (length expected) && rest) ≡ same b expected
    go false e = ap (λ (c : Bool). c && rest) e ∙ sym (same_length b expected (eqb-false (length b) (length expected) e))
    go true e =
        let n : length b ≡ length expected = eqb-true (length b) (length expected) e in
        let f : length b ≤ length before = omega (arith, h, length-append b (drop (length b) before)) in
        let p : leb (length expected) (length out) ≡ true = le-leb (length expected) (length out) (omega (arith, h)) in
        let q : leb (length expected) (length before) ≡ true = le-leb (length expected) (length before) (omega arith) in
        let u : take (length expected) out ≡ b = take_at b (drop (length b) before) (length expected) n in
        let v : drop (length expected) out ≡ drop (length expected) before =
        drop_at b (drop (length b) before) (length expected) n ∙ ap (λ (m : ℕ). drop m before) n in
        simp (e, p, q, u, v, same_refl, and-true)

pub agreeing_is : {o : Outcome (List ℕ)} {before out : List ℕ} {r : Reply} (number : ℕ) (expected : List ℕ) → Leaves o before r out → length out ≡ length before
    → agreeing r number expected before out ≡ is_recorded o number expected
unfolding agreeing
agreeing_is {o} {before} {out} number expected l k =
    ap₂ (λ (a b : ℕ). agreeing_on a b number expected before out) l.hears.number l.hears.size
    ∙ ap (λ (x : List ℕ). agreeing_on (refusal o) (written o) number expected before x) l.output
    ∙ agreed o number expected before (sym (ap length l.output) ∙ k)
