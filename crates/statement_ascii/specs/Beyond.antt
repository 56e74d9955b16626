-- Number 8 along a statement: looks through gathered names, one part after the other.
-- Assumes nothing.
use Rattle.std.specs.Prelude.{◌≡◌, refl, Bool, true, false, List, [], ◌∷◌, ◌++◌, map}
use Rattle.std.proofs.Common.{sym, ap, ◌∙◌, append_assoc}
use Rattle.std.proofs.Math.Bool.{or-false}
use Rattle.bytes_bundle.specs.Looks.{Looks}
use Rattle.rules.specs.Lists.{any}
use Rattle.rules.specs.Statements.{Name}
use Rattle.rules.specs.Limits.{gather}
use Rattle.rules.specs.Names.{beyond_ascii}
use Rattle.image_expression.specs.Names.{any_look}

-- one of the names has a byte past ASCII
abbrev pub Beyond : List Name → Bool
Beyond l = any beyond_ascii l

pub beyond_one : (n : Name) → Beyond (n ∷ []) ≡ beyond_ascii n
beyond_one n = or-false (beyond_ascii n)

-- a part with such a name decides; behind one with none the others do
module _ (a b : List Name) where
  pub beyond_stop : Beyond a ≡ true → Beyond (a ++ b) ≡ true
  beyond_stop e = (any_look beyond_ascii).stop a b e

  pub beyond_on : Beyond a ≡ false → Beyond (a ++ b) ≡ Beyond b
  beyond_on e = (any_look beyond_ascii).on a b e

-- ---- tests joined by `||`, as the code makes them: where the first finds such a name, it is the answer

module _ (a b : List Name) {r : Bool} where
  pub or_stop : r ≡ Beyond a → r ≡ true → r ≡ Beyond (a ++ b)
  or_stop e t = t ∙ sym (beyond_stop a b (sym e ∙ t))

  pub or_on : {q : Bool} → r ≡ Beyond a → r ≡ false → q ≡ Beyond b → q ≡ Beyond (a ++ b)
  or_on e t k = k ∙ sym (beyond_on a b (sym e ∙ t))

  -- the first two of three
  module _ (c : List Name) (e : r ≡ Beyond (a ++ b)) where
    pub two_stop : r ≡ true → r ≡ Beyond (a ++ (b ++ c))
    two_stop t = t ∙ sym (beyond_stop (a ++ b) c (sym e ∙ t)) ∙ ap Beyond (append_assoc a b c)

    pub two_on : {q : Bool} → r ≡ false → q ≡ Beyond c → q ≡ Beyond (a ++ (b ++ c))
    two_on t k = k ∙ sym (beyond_on (a ++ b) c (sym e ∙ t)) ∙ ap Beyond (append_assoc a b c)

-- ---- loops

pub names_look : Looks Beyond beyond_ascii false
names_look = record { nothing = refl; on = λ x l e. rw e; stop = λ x l e. rw e }

module _ {A : Type 0} where
  pub gather_looks : (f : A → List Name) → Looks (λ l. Beyond (gather f l)) (λ x. Beyond (f x)) false
  gather_looks f = record { nothing = refl; on = λ x l e. beyond_on (f x) (gather f l) e; stop = λ x l e. beyond_stop (f x) (gather f l) e }

  pub map_looks : (f : A → Name) → Looks (λ l. Beyond (map f l)) (λ x. beyond_ascii (f x)) false
  map_looks f = record { nothing = refl; on = λ x l e. rw e; stop = λ x l e. rw e }
