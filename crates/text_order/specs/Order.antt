-- How one text stands to another, by the rules' two tests.
-- Assumes nothing.
use Rattle.std.specs.Prelude.{◌≡◌, refl, Bool, true, false, cond, [], ◌∷◌, ℕ, ◌<◌, ltb}
use Rattle.std.proofs.Common.{sym, ◌∙◌, arith}
use borrow.Author.Tests.{lt-ltb, le-ltb, eq-eqb, ne_eqb, ltb-true, ltb-false}
use Rattle.rules.specs.Lists.{Text, same}
use Rattle.rules.specs.Evaluate.{text_before}
use Rattle.std.specs.declared.cmp.Ordering.{Ordering}
use Rattle.std.specs.declared.cmp.Ordering.TheVariants.{Less, Equal, Greater}
use Rattle.std.specs.Ordering.{is_lt, is_eq, is_gt, nat_cmp}
use Rattle.std.specs.Cmp.Lexicographic.{slice_cmp}

unfoldable pub order_of : Text → Text → Ordering
order_of a b = cond (same a b) Equal (cond (text_before a b) Less Greater)

-- ---- the first bytes decide, or the rest does

module _ (x y : ℕ) (a b : Text) where
  pub first_less : x < y → order_of (x ∷ a) (y ∷ b) ≡ Less
  unfolding order_of text_before
  first_less h = rw (ne_eqb x y (λ e. omega arith), lt-ltb x y h)

  pub first_more : y < x → order_of (x ∷ a) (y ∷ b) ≡ Greater
  unfolding order_of text_before
  first_more h = rw (ne_eqb x y (λ e. omega arith), le-ltb x y (omega arith))

  pub first_same : x ≡ y → order_of (x ∷ a) (y ∷ b) ≡ order_of a b
  unfolding order_of text_before
  first_same h = rw (eq-eqb x y h, le-ltb x y (omega arith))

-- ---- what an order says in the rules' words

order_same : (s t : Bool) → is_eq (cond s Equal (cond t Less Greater)) ≡ s
order_same true t = refl
order_same false true = refl
order_same false false = refl

pub told_same : (a b : Text) → same a b ≡ is_eq (order_of a b)
unfolding order_of
told_same a b = sym (order_same (same a b) (text_before a b))

-- which of two bytes is the less
pub data Bytewise (x y : ℕ) : Type 0 where
  below : x < y → Bytewise x y
  alike : x ≡ y → Bytewise x y
  above : y < x → Bytewise x y

pub bytewise : (x y : ℕ) → Bytewise x y
bytewise x y = go (ltb x y) refl (ltb y x) refl
  where
    go : (s : Bool) → ltb x y ≡ s → (t : Bool) → ltb y x ≡ t → Bytewise x y
    go true p t q = below (ltb-true x y p)
    go false p true q = above (ltb-true y x q)
    go false p false q = alike (omega (arith, ltb-false x y p, ltb-false y x q))

-- with the first bytes that are not alike
pub told_less : (a b : Text) → text_before a b ≡ is_lt (order_of a b)
unfolding order_of text_before
told_less [] [] = refl
told_less [] (y ∷ b) = refl
told_less (x ∷ a) [] = refl
told_less (x ∷ a) (y ∷ b) = go (bytewise x y) (told_less a b)
  where
    go : Bytewise x y → text_before a b ≡ is_lt (order_of a b) → text_before (x ∷ a) (y ∷ b) ≡ is_lt (order_of (x ∷ a) (y ∷ b))
    go (below h) k = rw (lt-ltb x y h, ne_eqb x y (λ e. omega arith))
    go (alike h) k = rw (le-ltb x y (omega arith), eq-eqb x y h) k
    go (above h) k = rw (le-ltb x y (omega arith), ne_eqb x y (λ e. omega arith))

pub told_more : (a b : Text) → text_before b a ≡ is_gt (order_of a b)
unfolding order_of text_before
told_more [] [] = refl
told_more [] (y ∷ b) = refl
told_more (x ∷ a) [] = refl
told_more (x ∷ a) (y ∷ b) = go (bytewise x y) (told_more a b)
  where
    go : Bytewise x y → text_before b a ≡ is_gt (order_of a b) → text_before (y ∷ b) (x ∷ a) ≡ is_gt (order_of (x ∷ a) (y ∷ b))
    go (below h) k = rw (lt-ltb x y h, le-ltb y x (omega arith), ne_eqb x y (λ e. omega arith), ne_eqb y x (λ e. omega arith))
    go (alike h) k = rw (le-ltb x y (omega arith), le-ltb y x (omega arith), eq-eqb x y h, eq-eqb y x (sym h)) k
    go (above h) k = rw (lt-ltb y x h, le-ltb x y (omega arith), ne_eqb x y (λ e. omega arith))

-- the library's order of slices is the same
first_told : (x y : ℕ) (a b : Text) → Bytewise x y → slice_cmp nat_cmp a b ≡ order_of a b
    → slice_cmp nat_cmp (x ∷ a) (y ∷ b) ≡ order_of (x ∷ a) (y ∷ b)
first_told x y a b (below h) k = rw (lt-ltb x y h) (sym (first_less x y a b h))
first_told x y a b (alike h) k = rw (le-ltb x y (omega arith), eq-eqb x y h) (k ∙ sym (first_same x y a b h))
first_told x y a b (above h) k = rw (le-ltb x y (omega arith), ne_eqb x y (λ e. omega arith)) (sym (first_more x y a b h))

pub told_cmp : (a b : Text) → slice_cmp nat_cmp a b ≡ order_of a b
unfolding order_of text_before
told_cmp [] [] = refl
told_cmp [] (y ∷ b) = refl
told_cmp (x ∷ a) [] = refl
told_cmp (x ∷ a) (y ∷ b) = first_told x y a b (bytewise x y) (told_cmp a b)
