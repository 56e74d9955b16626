-- A test of all that is gathered along a statement, taken to its parts.
-- Assumes nothing.
use Rattle.std.specs.Prelude.{◌≡◌, refl, Bool, ◌&&◌, List, [], ◌∷◌, map}
use Rattle.std.proofs.Common.{sym, ap, ap₂, ◌∙◌}
use Rattle.std.proofs.Math.Bool.{and_assoc, and_comm}
use Rattle.rules.specs.Lists.{all}
use Rattle.rules.specs.Limits.{gather}
use Rattle.image_expression.specs.Names.{all_append}

pub and_left_comm : (a b c : Bool) → (a && (b && c)) ≡ (b && (a && c))
and_left_comm a b c = sym (and_assoc a b c) ∙ ap (λ (t : Bool). t && c) (and_comm a b) ∙ and_assoc b a c

module _ {A B : Type 0} (p : A → Bool) where
  pub all_gather : (f : B → List A) (l : List B) → all p (gather f l) ≡ all (λ x. all p (f x)) l
  all_gather f [] = refl
  all_gather f (x ∷ l) = all_append p (f x) (gather f l) ∙ ap (λ (t : Bool). all p (f x) && t) (all_gather f l)

  pub all_map : (f : B → A) (l : List B) → all p (map f l) ≡ all (λ x. p (f x)) l
  all_map f [] = refl
  all_map f (x ∷ l) = ap (λ (t : Bool). p (f x) && t) (all_map f l)

-- a test of each that is two tests
pub all_both : {A : Type 0} (r p q : A → Bool) → ((x : A) → r x ≡ (p x && q x)) → (l : List A) → all r l ≡ (all p l && all q l)
all_both r p q e [] = refl
all_both r p q e (x ∷ l) = ap₂ (λ (s t : Bool). s && t) (e x) (all_both r p q e l) ∙ crossed (p x) (q x) (all p l) (all q l)
  where
    crossed : (a b c d : Bool) → ((a && b) && (c && d)) ≡ ((a && c) && (b && d))
    crossed a b c d = simp (and_assoc, and_left_comm)
