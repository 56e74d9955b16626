-- Folding a name keeps UTF-8: A to Z become a to z, and every byte of 128 or more stays.
-- Assumes nothing.
use Rattle.std.specs.Prelude.{◌≡◌, refl, Bool, true, false, cond, ◌&&◌, List, map, ℕ, ◌+◌, ◌≤◌, leb}
use Rattle.std.proofs.Common.{subst, arith, leb-true}
use Rattle.bytes_utf8.specs.Utf8.{In, Two, Three, Three.e0, Three.e1_ec, Three.ed, Three.ee_ef, Four, Four.f0, Four.f1_f3, Four.f4, Utf8, Utf8.none, Utf8.one, Utf8.two, Utf8.three, Utf8.four}
use Rattle.bytes_utf8.specs.Decide.{is_utf8, utf8_is, utf8_of}
use Rattle.bytes_bundle.specs.Decides.{and_of}
use Rattle.image_parts.specs.Layout as statement
use Rattle.rules.specs.Statements.{Name}
use Rattle.rules.specs.Names.{fold, canonical}

fold_low : {a : ℕ} → In 0x00 0x7f a → In 0x00 0x7f (fold a)
fold_low {a} h = go (leb 0x41 a && leb a 0x5A) refl
  where
    go : (b : Bool) → (leb 0x41 a && leb a 0x5A) ≡ b → In 0x00 0x7f (cond b (a + 0x20) a)
    go true e = record { low = omega arith; high = omega (arith, leb-true a 0x5A (and_of (leb 0x41 a) (leb a 0x5A) e).1) }
    go false e = h

fold_high : (a : ℕ) → 0x80 ≤ a → a ≡ fold a
fold_high a h = go (leb 0x41 a && leb a 0x5A) refl
  where
    go : (b : Bool) → (leb 0x41 a && leb a 0x5A) ≡ b → a ≡ cond b (a + 0x20) a
    go true e = absurd (omega (arith, leb-true a 0x5A (and_of (leb 0x41 a) (leb a 0x5A) e).1))
    go false e = refl

two_high : {a b : ℕ} → Two a b → (0x80 ≤ a) × (0x80 ≤ b)
two_high h = (omega (arith, h.first.low), omega (arith, h.second.low))

three_high : {a b c : ℕ} → Three a b c → (0x80 ≤ a) × (0x80 ≤ b) × (0x80 ≤ c)
three_high (e0 h) = (omega (arith, h.first.low), omega (arith, h.second.low), omega (arith, h.third.low))
three_high (e1_ec h) = (omega (arith, h.first.low), omega (arith, h.second.low), omega (arith, h.third.low))
three_high (ed h) = (omega (arith, h.first.low), omega (arith, h.second.low), omega (arith, h.third.low))
three_high (ee_ef h) = (omega (arith, h.first.low), omega (arith, h.second.low), omega (arith, h.third.low))

four_high : {a b c d : ℕ} → Four a b c d → (0x80 ≤ a) × (0x80 ≤ b) × (0x80 ≤ c) × (0x80 ≤ d)
four_high (f0 h) = (omega (arith, h.first.low), omega (arith, h.second.low), omega (arith, h.third.low), omega (arith, h.fourth.low))
four_high (f1_f3 h) = (omega (arith, h.first.low), omega (arith, h.second.low), omega (arith, h.third.low), omega (arith, h.fourth.low))
four_high (f4 h) = (omega (arith, h.first.low), omega (arith, h.second.low), omega (arith, h.third.low), omega (arith, h.fourth.low))

same_two : {a b x y : ℕ} → a ≡ x → b ≡ y → Two a b → Two x y
same_two {a} {b} {x} {y} p q h = subst (λ (n : ℕ). Two n y) p (subst (λ (n : ℕ). Two a n) q h)

same_three : {a b c x y z : ℕ} → a ≡ x → b ≡ y → c ≡ z → Three a b c → Three x y z
same_three {a} {b} {c} {x} {y} {z} p q r h =
    subst (λ (n : ℕ). Three n y z) p (subst (λ (n : ℕ). Three a n z) q (subst (λ (n : ℕ). Three a b n) r h))

same_four : {a b c d x y z w : ℕ} → a ≡ x → b ≡ y → c ≡ z → d ≡ w → Four a b c d → Four x y z w
same_four {a} {b} {c} {d} {x} {y} {z} {w} p q r s h =
    subst (λ (n : ℕ). Four n y z w) p
    (subst (λ (n : ℕ). Four a n z w) q (subst (λ (n : ℕ). Four a b n w) r (subst (λ (n : ℕ). Four a b c n) s h)))

utf8_fold : {s : List ℕ} → Utf8 s → Utf8 (map fold s)
utf8_fold none = none
utf8_fold (one p r) = one (fold_low p) (utf8_fold r)
utf8_fold (two {a = a} {b = b} p r) =
    let h = two_high p in
    two (same_two (fold_high a h.0) (fold_high b h.1) p) (utf8_fold r)
utf8_fold (three {a = a} {b = b} {c = c} p r) =
    let h = three_high p in
    three (same_three (fold_high a h.0) (fold_high b h.1) (fold_high c h.2) p) (utf8_fold r)
utf8_fold (four {a = a} {b = b} {c = c} {d = d} p r) =
    let h = four_high p in
    four (same_four (fold_high a h.0) (fold_high b h.1) (fold_high c h.2) (fold_high d h.3) p) (utf8_fold r)

-- the form of a name that is compared
pub canonical_utf8 : (n : Name) → (statement.name).Ok n → is_utf8 (canonical n) ≡ true
unfolding canonical statement.name
canonical_utf8 n h = go n.quoted
  where
    go : (q : Bool) → is_utf8 (cond q n.text (map fold n.text)) ≡ true
    go true = h.1
    go false = utf8_is (utf8_fold (utf8_of n.text h.1))
