-- Tests of a list's entries, one by one, and tests that are joined.
-- Assumes nothing.
use Rattle.std.specs.Prelude.{◌≡◌, refl, Bool, true, false, ◌&&◌, List, [], ◌∷◌}
use Rattle.std.proofs.Common.{sym, ap, ◌∙◌}
use Rattle.std.proofs.Math.Bool.{and_assoc}
use Rattle.std.proofs.Math.Option.{some}
use Rattle.bytes_bundle.specs.Decides.{all_of, all_cons}
use Rattle.bytes_bundle.specs.Looks.{Looks}
use Rattle.rules.specs.Lists.{find, any, all}

module _ {A : Type 0} (p : A → Bool) (x : A) (l : List A) where
  pub find_hit : p x ≡ true → find p (x ∷ l) ≡ some x
  find_hit e = rw (e, find)

  pub find_miss : p x ≡ false → find p (x ∷ l) ≡ find p l
  find_miss e = rw (e, find)

  pub any_hit : p x ≡ true → any p (x ∷ l) ≡ true
  any_hit e = rw e

  pub any_miss : p x ≡ false → any p (x ∷ l) ≡ any p l
  any_miss e = rw e

  pub all_pass : p x ≡ true → all p (x ∷ l) ≡ all p l
  all_pass e = rw e

  pub all_stop : p x ≡ false → all p (x ∷ l) ≡ false
  all_stop e = rw e

-- `all` and `any`, as a chain over a list's parts finds them
pub all_looks : {A : Type 0} (p : A → Bool) → Looks (all p) p true
all_looks p = record { nothing = refl; on = λ x l e. all_pass p x l e; stop = λ x l e. all_stop p x l e }

pub any_looks : {A : Type 0} (p : A → Bool) → Looks (any p) p false
any_looks p = record { nothing = refl; on = λ x l e. any_miss p x l e; stop = λ x l e. any_hit p x l e }

-- tests that are joined from the left
abbrev pub chain : Bool → List Bool → Bool
chain a [] = a
chain a (b ∷ ts) = chain (a && b) ts

pub chain_is : (a : Bool) (ts : List Bool) → chain a ts ≡ all_of (a ∷ ts)
chain_is a [] = refl
chain_is a (b ∷ ts) = chain_is (a && b) ts ∙ all_cons (a && b) ts ∙ and_assoc a b (all_of ts) ∙ ap (λ (t : Bool). a && t) (sym (all_cons b ts))
