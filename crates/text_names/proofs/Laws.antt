-- Lists of bytes, compared and looked through.
-- Assumes nothing.
use Rattle.std.proofs.Common.{◌≡◌, refl, sym, ap, ap₂, ◌∙◌, ℕ, zero, suc, ◌+◌, ◌-◌, ◌≤◌, ◌<◌, ◌↔◌, Bool, true, false, not, ◌&&◌, List, [], ◌∷◌, map, length, get_or, take, eqb, Option, Decides, MatchBool, IsTrue, arith, rules}
use Rattle.std.specs.List.{list_all}
use Rattle.std.specs.Char.{to_ascii_lowercase}
use Rattle.std.specs.Str.{IsAscii, IsNotAscii}
use Rattle.std.specs.Range.{range_steps_back}
use Rattle.std.specs.Iterator.{AlwaysYields}
use Rattle.std.specs.Iterator.Adapters.{rev_source, rev_steps}
use Rattle.std.specs.declared.iter.Rev.{Rev}
use Rattle.std.specs.declared.ops.Range.{Range}
use Rattle.std.proofs.lemmas.Bool.Decides.{same_from_decides, nat_tests}
use Rattle.std.proofs.lemmas.Iterator.{YieldsList}
use Rattle.std.proofs.lemmas.List.{take_all}
use Rattle.std.proofs.lemmas.Slice.Eq.{compares_Decides}
use mathlib.Core.Bool.{and-false}
use mathlib.Core.List.{map-id}
use lib.Dec.{leb}
use Rattle.rules.specs.Lists.{Text, same, any}
use Rattle.rules.specs.Names.{fold, canonical}
use Rattle.text_names.specs.Compared.{named, compared_byte, agreeing}

-- ---- two texts are the same, byte for byte

same_Decides : (a b : Text) → Decides (same a b) (a ≡ b)
same_Decides = compares_Decides same (search rules)

pub told_same : (r : Bool) (a b : Text) → IsTrue r ↔ (a ≡ b) → r ≡ same a b
told_same r a b h = same_from_decides r (same a b) h (same_Decides a b)

-- ---- the numbers below n, the highest first

abbrev pub downward : ℕ → List ℕ
downward zero = []
downward (suc n) = n ∷ downward n

abbrev steps_back : Rev (Range ℕ) → Option ℕ → Rev (Range ℕ) → Type 0
steps_back = rev_steps (range_steps_back (λ a b. b - a) (λ a b. b ≡ a + 1))

downward_yields : (n : ℕ) (s : Rev (Range ℕ)) → (rev_source s).start ≡ 0 → (rev_source s).end ≡ n → AlwaysYields steps_back (λ x. x) s (downward n)
downward_yields zero s b e = λ x t k. absurd (omega (arith, k.1.0))
downward_yields (suc n) s b e = (
  λ t k. absurd (omega (arith, k.1.0)),
  λ x t k. (omega (arith, k.1.1, k.1.2), downward_yields n t (k.0 ∙ b) (omega (arith, k.1.2))),
)

pub YieldsList-downward : (n : ℕ) {s : Rev (Range ℕ)} → rev_source s ≡ record { start = 0; end = n } → YieldsList steps_back (λ x. x) s (downward n)
YieldsList-downward n {s} e = record { runs = downward_yields n s (ap (λ (r : Range ℕ). r.start) e) (ap (λ (r : Range ℕ). r.end) e) }

swapped : (p q r : Bool) → (p && (q && r)) ≡ (q && (p && r))
swapped true q r = refl
swapped false true r = refl
swapped false false r = refl

-- ---- two texts, with the bytes of each taken as in a quoted name or as in an unquoted one

module _ (q1 q2 : Bool) where
  abbrev alike : ℕ → ℕ → Bool
  alike x y = eqb (compared_byte q1 x) (compared_byte q2 y)

  abbrev pub alike_at : Text → Text → ℕ → Bool
  alike_at a b i = alike (get_or a i 0) (get_or b i 0)

  -- the first bytes, and the last of them apart
  agree_more : (a b : Text) (i : ℕ) → i < length a → i < length b
      → agreeing q1 q2 (take (suc i) a) (take (suc i) b) ≡ (alike_at a b i && agreeing q1 q2 (take i a) (take i b))
  agree_more [] b i ha hb = absurd (omega arith)
  agree_more (x ∷ a) [] i ha hb = absurd (omega arith)
  agree_more (x ∷ a) (y ∷ b) zero ha hb = refl
  agree_more (x ∷ a) (y ∷ b) (suc i) ha hb = rw (agree_more a b i (omega arith) (omega arith)) (swapped (alike x y) (alike_at a b i) _)

  agree_below : (a b : Text) (n : ℕ) → n ≤ length a → n ≤ length b → list_all (alike_at a b) (downward n) ≡ agreeing q1 q2 (take n a) (take n b)
  agree_below a b zero ha hb = refl
  agree_below a b (suc n) ha hb = ap (λ (t : Bool). alike_at a b n && t) (agree_below a b n (omega arith) (omega arith)) ∙ sym (agree_more a b n (omega arith) (omega arith))

  pub agree_down : (a b : Text) → length a ≡ length b → list_all (alike_at a b) (downward (length a)) ≡ agreeing q1 q2 a b
  agree_down a b e =
      agree_below a b (length a) (omega arith) (omega arith)
      ∙ ap₂ (agreeing q1 q2) (take_all (length a) a (omega arith)) (take_all (length a) b (omega arith))

  pub agree_longer : (a b : Text) → (length a ≡ length b → ⊥) → false ≡ agreeing q1 q2 a b
  agree_longer [] [] g = absurd (g refl)
  agree_longer [] (y ∷ b) g = refl
  agree_longer (x ∷ a) [] g = refl
  agree_longer (x ∷ a) (y ∷ b) g = rw (← agree_longer a b (λ e. g (ap suc e))) (sym (and-false (alike x y)))

pub compared_is : (quoted : Bool) (s : Text) → map (compared_byte quoted) s ≡ canonical (named quoted s)
unfolding canonical
compared_is true s = map-id s
compared_is false s = refl

-- the library's A to Z
lower_is : (b : ℕ) → to_ascii_lowercase b ≡ fold b
lower_is b = grind (arith, nat_tests)

pub lowered : (s : Text) → map to_ascii_lowercase s ≡ map fold s
lowered [] = refl
lowered (b ∷ s) = ap₂ ◌∷◌ (lower_is b) (lowered s)

pub told_folded : (r : Bool) (a b : Text) → IsTrue r ↔ (map to_ascii_lowercase a ≡ map to_ascii_lowercase b)
    → r ≡ same (map fold a) (map fold b)
told_folded r a b h =
    told_same r (map to_ascii_lowercase a) (map to_ascii_lowercase b) h ∙ ap₂ same (lowered a) (lowered b)

pub kept : (quoted : Bool) (s : Text) → quoted ≡ true → s ≡ canonical (named quoted s)
kept quoted s e = rw e (sym (map-id s) ∙ compared_is true s)

pub folded : (quoted : Bool) (s : Text) → quoted ≡ false → map to_ascii_lowercase s ≡ canonical (named quoted s)
folded quoted s e = rw e (lowered s ∙ compared_is false s)

pub agree_quoted : (a b : Text) → agreeing true true a b ≡ same a b
agree_quoted a b = ap₂ same (map-id a) (map-id b)

pub agree_called : (quoted : Bool) (a b : Text) → agreeing quoted true a b ≡ same (canonical (named quoted a)) b
agree_called quoted a b = ap₂ same (compared_is quoted a) (map-id b)

pub agree_names : (q1 q2 : Bool) (a b : Text) → agreeing q1 q2 a b ≡ same (canonical (named q1 a)) (canonical (named q2 b))
agree_names q1 q2 a b = ap₂ same (compared_is q1 a) (compared_is q2 b)

-- ---- some byte of 128 or more

none_beyond : (s : Text) → IsAscii s → any (leb 128) s ≡ false
none_beyond [] h = refl
none_beyond (b ∷ s) h =
    let first = h 0 in
    let rest = none_beyond s (λ i. h (suc i)) in
    grind (arith, nat_tests)

one_beyond : (s : Text) → IsNotAscii s → any (leb 128) s ≡ true
one_beyond [] h = absurd (omega (arith, h.1))
one_beyond (b ∷ s) (zero, h) = grind (arith, nat_tests)
one_beyond (b ∷ s) (suc i, h) =
    let rest = one_beyond s (i, h) in
    grind (arith, nat_tests)

pub some_beyond : (r : Bool) (s : Text) → MatchBool r (IsAscii s) (IsNotAscii s) → any (leb 128) s ≡ not r
some_beyond true s h = none_beyond s h
some_beyond false s h = one_beyond s h
