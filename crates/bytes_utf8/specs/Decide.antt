-- The grammar as a test that computes: `is_utf8 s` is true exactly where `Utf8 s` holds. Each alternative of the grammar is tried, whatever the
-- others say, so that the test reads as the grammar does.
-- Assumes nothing.
use Rattle.std.specs.Prelude.{◌≡◌, refl, Bool, true, false, ◌&&◌, ◌||◌, List, [], ◌∷◌, ℕ, leb}
use Rattle.std.proofs.Common.{sym, le-leb, leb-true}
use Rattle.std.proofs.lemmas.Bool.{false≢true}
use Rattle.std.proofs.Math.Bool.{or-true}
use Rattle.bytes_utf8.specs.Utf8.{In, Two, Three, Three-of, Three.e0, Three.e1_ec, Three.ed, Three.ee_ef, Four, Four-of, Four.f0, Four.f1_f3, Four.f4, Utf8, Utf8.none, Utf8.one, Utf8.two, Utf8.three, Utf8.four}

-- ---- the test

abbrev in? : ℕ → ℕ → ℕ → Bool
in? lo hi b = leb lo b && leb b hi

abbrev two? : ℕ → ℕ → Bool
two? a b = in? 0xc2 0xdf a && in? 0x80 0xbf b

abbrev three_of? : ℕ → ℕ → ℕ → ℕ → ℕ → ℕ → ℕ → Bool
three_of? lo hi lo2 hi2 a b c = in? lo hi a && (in? lo2 hi2 b && in? 0x80 0xbf c)

abbrev three? : ℕ → ℕ → ℕ → Bool
three? a b c = three_of? 0xe0 0xe0 0xa0 0xbf a b c || (three_of? 0xe1 0xec 0x80 0xbf a b c || (three_of? 0xed 0xed 0x80 0x9f a b c || three_of? 0xee 0xef 0x80 0xbf a b c))

abbrev four_of? : ℕ → ℕ → ℕ → ℕ → ℕ → ℕ → ℕ → ℕ → Bool
four_of? lo hi lo2 hi2 a b c d = in? lo hi a && (in? lo2 hi2 b && (in? 0x80 0xbf c && in? 0x80 0xbf d))

abbrev four? : ℕ → ℕ → ℕ → ℕ → Bool
four? a b c d = four_of? 0xf0 0xf0 0x90 0xbf a b c d || (four_of? 0xf1 0xf3 0x80 0xbf a b c d || four_of? 0xf4 0xf4 0x80 0x8f a b c d)

unfoldable pub is_utf8 : List ℕ → Bool
is_utf8 [] = true
is_utf8 (a ∷ []) = in? 0x00 0x7f a
is_utf8 (a ∷ b ∷ []) = (in? 0x00 0x7f a && is_utf8 (b ∷ [])) || two? a b
is_utf8 (a ∷ b ∷ c ∷ []) = (in? 0x00 0x7f a && is_utf8 (b ∷ c ∷ [])) || ((two? a b && is_utf8 (c ∷ [])) || three? a b c)
is_utf8 (a ∷ b ∷ c ∷ d ∷ s) =
    (in? 0x00 0x7f a && is_utf8 (b ∷ c ∷ d ∷ s)) || ((two? a b && is_utf8 (c ∷ d ∷ s)) || ((three? a b c && is_utf8 (d ∷ s)) || (four? a b c d && is_utf8 s)))

-- ---- truth values

and_is : {a b : Bool} → a ≡ true → b ≡ true → (a && b) ≡ true
and_is p q = rw (p, q)

and_of : (a b : Bool) → (a && b) ≡ true → (a ≡ true) × (b ≡ true)
and_of true b e = (refl, e)
and_of false b e = absurd (false≢true e)

or_of : {C : Type 0} (a b : Bool) → (a || b) ≡ true → (a ≡ true → C) → (b ≡ true → C) → C
or_of true b e f g = f refl
or_of false b e f g = g e

-- ---- the test and the grammar's parts

in_is : {lo hi b : ℕ} → In lo hi b → in? lo hi b ≡ true
in_is {lo} {hi} {b} h = and_is (le-leb lo b h.low) (le-leb b hi h.high)

in_of : (lo hi b : ℕ) → in? lo hi b ≡ true → In lo hi b
in_of lo hi b e = let p = and_of (leb lo b) (leb b hi) e in record { low = leb-true lo b p.0; high = leb-true b hi p.1 }

two_is : {a b : ℕ} → Two a b → two? a b ≡ true
two_is h = and_is (in_is h.first) (in_is h.second)

two_of_lem : (a b : ℕ) → two? a b ≡ true → Two a b
two_of_lem a b e = let p = and_of (in? 0xc2 0xdf a) (in? 0x80 0xbf b) e in record { first = in_of 0xc2 0xdf a p.0; second = in_of 0x80 0xbf b p.1 }

three_of_is : {lo hi lo2 hi2 a b c : ℕ} → Three-of lo hi lo2 hi2 a b c → three_of? lo hi lo2 hi2 a b c ≡ true
three_of_is h = and_is (in_is h.first) (and_is (in_is h.second) (in_is h.third))

three_of_of : (lo hi lo2 hi2 a b c : ℕ) → three_of? lo hi lo2 hi2 a b c ≡ true → Three-of lo hi lo2 hi2 a b c
three_of_of lo hi lo2 hi2 a b c e =
    let p = and_of (in? lo hi a) (in? lo2 hi2 b && in? 0x80 0xbf c) e in
    let q = and_of (in? lo2 hi2 b) (in? 0x80 0xbf c) p.1 in
    record { first = in_of lo hi a p.0; second = in_of lo2 hi2 b q.0; third = in_of 0x80 0xbf c q.1 }

three_is : {a b c : ℕ} → Three a b c → three? a b c ≡ true
three_is (e0 h) = simp (three_of_is h)
three_is (e1_ec h) = simp (three_of_is h, or-true)
three_is (ed h) = simp (three_of_is h, or-true)
three_is (ee_ef h) = simp (three_of_is h, or-true)

three_of' : (a b c : ℕ) → three? a b c ≡ true → Three a b c
three_of' a b c e =
    or_of _ _ e (λ h. e0 (three_of_of 0xe0 0xe0 0xa0 0xbf a b c h)) λ f.
    or_of _ _ f (λ h. e1_ec (three_of_of 0xe1 0xec 0x80 0xbf a b c h)) λ g.
    or_of _ _ g (λ h. ed (three_of_of 0xed 0xed 0x80 0x9f a b c h)) λ h. ee_ef (three_of_of 0xee 0xef 0x80 0xbf a b c h)

four_of_is : {lo hi lo2 hi2 a b c d : ℕ} → Four-of lo hi lo2 hi2 a b c d → four_of? lo hi lo2 hi2 a b c d ≡ true
four_of_is h = and_is (in_is h.first) (and_is (in_is h.second) (and_is (in_is h.third) (in_is h.fourth)))

four_of_of : (lo hi lo2 hi2 a b c d : ℕ) → four_of? lo hi lo2 hi2 a b c d ≡ true → Four-of lo hi lo2 hi2 a b c d
four_of_of lo hi lo2 hi2 a b c d e =
    let p = and_of (in? lo hi a) (in? lo2 hi2 b && (in? 0x80 0xbf c && in? 0x80 0xbf d)) e in
    let q = and_of (in? lo2 hi2 b) (in? 0x80 0xbf c && in? 0x80 0xbf d) p.1 in
    let r = and_of (in? 0x80 0xbf c) (in? 0x80 0xbf d) q.1 in
    record { first = in_of lo hi a p.0; second = in_of lo2 hi2 b q.0; third = in_of 0x80 0xbf c r.0; fourth = in_of 0x80 0xbf d r.1 }

four_is : {a b c d : ℕ} → Four a b c d → four? a b c d ≡ true
four_is (f0 h) = simp (four_of_is h)
four_is (f1_f3 h) = simp (four_of_is h, or-true)
four_is (f4 h) = simp (four_of_is h, or-true)

four_of' : (a b c d : ℕ) → four? a b c d ≡ true → Four a b c d
four_of' a b c d e =
    or_of _ _ e (λ h. f0 (four_of_of 0xf0 0xf0 0x90 0xbf a b c d h)) λ f.
    or_of _ _ f (λ h. f1_f3 (four_of_of 0xf1 0xf3 0x80 0xbf a b c d h)) λ h. f4 (four_of_of 0xf4 0xf4 0x80 0x8f a b c d h)

-- ---- the two agree

pub utf8_is : {s : List ℕ} → Utf8 s → is_utf8 s ≡ true
unfolding is_utf8
utf8_is none = refl
utf8_is (one {s = []} p r) = in_is p
utf8_is (one {s = b ∷ []} p r) = simp (in_is p, utf8_is r)
utf8_is (one {s = b ∷ c ∷ []} p r) = simp (in_is p, utf8_is r)
utf8_is (one {s = b ∷ c ∷ d ∷ s} p r) = simp (in_is p, utf8_is r)
utf8_is (two {s = []} p r) = simp (two_is p, or-true)
utf8_is (two {s = c ∷ []} p r) = simp (two_is p, utf8_is r, or-true)
utf8_is (two {s = c ∷ d ∷ s} p r) = simp (two_is p, utf8_is r, or-true)
utf8_is (three {s = []} p r) = simp (three_is p, or-true)
utf8_is (three {s = d ∷ s} p r) = simp (three_is p, utf8_is r, or-true)
utf8_is (four p r) = simp (four_is p, utf8_is r, or-true)

pub utf8_of : (s : List ℕ) → is_utf8 s ≡ true → Utf8 s
unfolding is_utf8
utf8_of [] e = none
utf8_of (a ∷ []) e = one (in_of 0x00 0x7f a e) none
utf8_of (a ∷ b ∷ []) e =
    or_of _ _ e (λ h. let p = and_of (in? 0x00 0x7f a) (is_utf8 (b ∷ [])) h in one (in_of 0x00 0x7f a p.0) (utf8_of (b ∷ []) p.1))
    (λ h. two (two_of_lem a b h) none)
utf8_of (a ∷ b ∷ c ∷ []) e =
    or_of _ _ e (λ h. let p = and_of (in? 0x00 0x7f a) (is_utf8 (b ∷ c ∷ [])) h in one (in_of 0x00 0x7f a p.0) (utf8_of (b ∷ c ∷ []) p.1)) λ f.
    or_of _ _ f (λ h. let p = and_of (two? a b) (is_utf8 (c ∷ [])) h in two (two_of_lem a b p.0) (utf8_of (c ∷ []) p.1))
    (λ h. three (three_of' a b c h) none)
utf8_of (a ∷ b ∷ c ∷ d ∷ s) e =
    or_of _ _ e (λ h. let p = and_of (in? 0x00 0x7f a) (is_utf8 (b ∷ c ∷ d ∷ s)) h in one (in_of 0x00 0x7f a p.0) (utf8_of (b ∷ c ∷ d ∷ s) p.1)) λ f.
    or_of _ _ f (λ h. let p = and_of (two? a b) (is_utf8 (c ∷ d ∷ s)) h in two (two_of_lem a b p.0) (utf8_of (c ∷ d ∷ s) p.1)) λ g.
    or_of _ _ g (λ h. let p = and_of (three? a b c) (is_utf8 (d ∷ s)) h in three (three_of' a b c p.0) (utf8_of (d ∷ s) p.1))
    (λ h. let p = and_of (four? a b c d) (is_utf8 s) h in four (four_of' a b c d p.0) (utf8_of s p.1))

-- an answer that goes by the grammar goes by the test
pub decided : (r : Bool) (s : List ℕ) → (r ≡ true → Utf8 s) → (r ≡ false → Utf8 s → ⊥) → r ≡ is_utf8 s
decided true s f g = sym (utf8_is (f refl))
decided false s f g = go (is_utf8 s) refl
  where
    go : (b : Bool) → is_utf8 s ≡ b → false ≡ is_utf8 s
    go true e = absurd (g refl (utf8_of s e))
    go false e = sym e
