-- A loop over the parts of a bundle that counts them: the number of the part that it has reached, and no byte's position.
-- Assumes nothing.
use Rattle.std.specs.Prelude.{◌≡◌, refl, List, [], ◌∷◌, ℕ, zero, suc, ◌+◌, ◌^◌, ◌≤◌, ◌<◌, length, drop, get_or}
use Rattle.std.proofs.Common.{sym, ap, ◌∙◌, add-one, arith, length-drop, drop-cons}
use Rattle.bytes_format.specs.Format.{Format}
use Rattle.std.proofs.Math.Option.{Option}
use Rattle.bytes_wire.specs.Le.{Bytes}
use Rattle.bytes_format.proofs.Formats.{list_of, pieces}
use Rattle.bytes_bundle.specs.declared.parts_iter.Parts.{Parts}
use Rattle.bytes_bundle.specs.Bundle.{or_nil, parts_of, IsBundle}
use Rattle.bytes_bundle.specs.Contents.{lengths, cuts}
use Rattle.bytes_bundle.specs.Left.{parts_left}
use Rattle.bytes_bundle.specs.Laws.{some_there, Each, list_values}
use Rattle.bytes_bundle.specs.Held.{Is, Holds, is_held, held}

-- the parts are counted in w bytes
pub few_parts : {w : ℕ} {s : List ℕ} → Bytes s → IsBundle w s → length (parts_of w s) < 256 ^ w
unfolding parts_of
few_parts {w} {s} b i = some_there ((pieces w).read s) i.there (λ l e. omega (arith, ap (λ (o : Option (List (List ℕ))). length (or_nil o)) e, ((pieces w).back s l b e).1.0))

-- part i of s is p
pub record IsPart (w : ℕ) (s : List ℕ) (i : ℕ) (p : List ℕ) : Type 0 where
  pub few : i < length (parts_of w s)
  pub is : p ≡ get_or (parts_of w s) i []

-- the loop has reached part i, and the parts ps are left
pub record Reached (w : ℕ) (s : List ℕ) (i : ℕ) (ps : List (List ℕ)) : Type 0 where
  pub left : drop i (parts_of w s) ≡ ps

pub reached : {w : ℕ} {s : List ℕ} {ps : List (List ℕ)} → ps ≡ parts_of w s → Reached w s 0 ps
reached e = record { left = sym e }

module _ {w : ℕ} {s : List ℕ} {i : ℕ} {ps : List (List ℕ)} (r : Reached w s i ps) where
  pub reached_end : ps ≡ [] → length (parts_of w s) ≤ i
  reached_end e = omega (arith, length-drop i (parts_of w s), ap length (r.left ∙ e))

  module _ {p : List ℕ} {qs : List (List ℕ)} (e : ps ≡ p ∷ qs) where
    few : i < length (parts_of w s)
    few = omega (arith, length-drop i (parts_of w s), ap length (r.left ∙ e))

    both : get_or (parts_of w s) i [] ∷ drop (suc i) (parts_of w s) ≡ p ∷ qs
    both = sym (drop-cons (parts_of w s) i [] few) ∙ r.left ∙ e

    pub reached_part : IsPart w s i p
    reached_part = record { few = few; is = let b = both in cc }

    pub reached_on : Reached w s (i + 1) qs
    reached_on = record { left = ap (λ (n : ℕ). drop n (parts_of w s)) (add-one i) ∙ (let b = both in cc) }

-- the value of part i
pub record Valued {A : Type 0} (f : Format A) (vs : List A) (i : ℕ) (p : List ℕ) : Type 0 where
  pub value : A
  pub holds : Holds f p value
  pub rest : drop i vs ≡ value ∷ drop (i + 1) vs

valued_lem : {A : Type 0} {f : Format A} {l : List (List ℕ)} {vs : List A} (i : ℕ) (p : List ℕ) → Each f l vs → i < length l → p ≡ get_or l i [] → Valued f vs i p
valued_lem {A} {f} {l} {vs} i p r h q = go (drop i vs) refl
  where
    go : (m : List A) → drop i vs ≡ m → Valued f vs i p
    go [] e = absurd (omega (arith, length-drop i vs, ap length e, r.count))
    go (x ∷ m) e = record {
      value = get_or vs i x;
      holds = ap f.read q ∙ r.value i x h;
      rest = drop-cons vs i x (omega (arith, r.count)) ∙ ap (λ (k : ℕ). get_or vs i x ∷ drop k vs) (sym (add-one i));
    }

module _ {A : Type 0} (f : Format A) {w : ℕ} {s : List ℕ} {i : ℕ} {p : List ℕ} (d : IsPart w s i p) where
  pub valued : {vs : List A} → Holds (list_of w f) s vs → Valued f vs i p
  valued h = valued_lem i p (list_values w f s h) d.few d.is

  -- the part is of the format
  pub valued_is : Is (list_of w f) s → Is f p
  valued_is k = held k (λ vs h. is_held {f = f} (valued h).holds)

-- ---- how many parts an iterator has to give

lengths_length : (w n : ℕ) (s : List ℕ) → length (lengths w n s) ≡ n
lengths_length w zero s = refl
lengths_length w (suc n) s = ap suc (lengths_length w n _)

cuts_length : (ns s : List ℕ) → length (cuts ns s) ≡ length ns
cuts_length [] s = refl
cuts_length (n ∷ ns) s = ap suc (cuts_length ns _)

pub left_count : (p : Parts) → length (parts_left p) ≡ p.left
unfolding parts_left
left_count p = cuts_length (lengths p.w p.left p.lengths.now) p.bytes.now ∙ lengths_length p.w p.left p.lengths.now
