-- A list of parts that is measured in a loop: what was given so far, and what is still to be given.
-- Assumes nothing.
use Rattle.std.specs.Prelude.{◌≡◌, refl, List, [], ◌∷◌, ◌++◌, ℕ, ◌+◌, length}
use Rattle.std.proofs.Common.{sym, ap, ◌∙◌, append-nil, append_assoc, arith, length-append}
use Rattle.bytes_format.specs.Format.{Format}
use Rattle.bytes_format.proofs.Formats.{list_of}
use Rattle.rules.specs.declared.Refusal.{Refusal}
use Rattle.rules.specs.Answers.{Answer, given, refused, each, ◌>>=◌}
use Rattle.image_bound.specs.Bundles.{bodies, bodies_snoc, list_length}
use Rattle.image_bound.specs.Sizes.{no_parts_length}
use Rattle.std.specs.Prelude.{Ok, Err}
use Rattle.bind_table.specs.Told.{sized}
use Rattle.bind_table.specs.Steps.{step_on, step_off, sized_given, sized_refused}

module _ {B : Type 0} (g : Format B) where
  -- `whole` is what `rest` gives behind the n parts of `done`, whose list has `total` bytes
  pub record Grown (whole rest : Answer (List B)) (n total : ℕ) : Type 0 where
    pub done : List B
    pub is : whole ≡ (rest >>= (λ l. given (done ++ l)))
    pub count : length done ≡ n
    pub long : total ≡ length ((list_of 4 g).write done)

  pub all_left : (a : Answer (List B)) → a ≡ (a >>= (λ l. given l))
  all_left (given l) = refl
  all_left (refused r) = refl

  abbrev pub grown_none : (a : Answer (List B)) → Grown a a 0 4
  grown_none a = record { done = []; is = all_left a; count = refl; long = sym (no_parts_length g) }

  pub more_length : (bs : List B) (b : B) → length ((list_of 4 g).write (bs ++ b ∷ [])) ≡ length ((list_of 4 g).write bs) + (4 + length (g.write b))
  more_length bs b =
      list_length g (bs ++ b ∷ [])
      ∙ omega (arith, list_length g bs, length-append bs (b ∷ []), ap length (bodies_snoc g bs b), length-append (bodies g bs) (g.write b))

pub one_left : {B : Type 0} (done : List B) (b : B) (a : Answer (List B))
    → ((a >>= (λ l. given (b ∷ l))) >>= (λ l. given (done ++ l))) ≡ (a >>= (λ l. given ((done ++ b ∷ []) ++ l)))
one_left done b (given l) = ap given (sym (append_assoc done (b ∷ []) l))
one_left done b (refused r) = refl

module _ {B : Type 0} {g : Format B} {whole rest : Answer (List B)} {n total : ℕ} (k : Grown g whole rest n total) where
  -- one part more
  abbrev pub grown_more : (next : Answer (List B)) (b : B) {m : ℕ} → rest ≡ (next >>= (λ l. given (b ∷ l))) → m ≡ length (g.write b) → Grown g whole next (n + 1) (total + (4 + m))
  grown_more next b {m} e h = record {
    done = k.done ++ b ∷ [];
    is = k.is ∙ ap (λ (a : Answer (List B)). a >>= (λ l. given (k.done ++ l))) e ∙ one_left k.done b next;
    count = length-append k.done (b ∷ []) ∙ omega (arith, k.count);
    long = omega (arith, k.long, h, more_length g k.done b);
  }

  -- what is left is refused
  pub grown_off : {r : Refusal} → rest ≡ refused r → whole ≡ refused r
  grown_off e = k.is ∙ step_off _ e

  -- nothing is left
  pub grown_end : rest ≡ given [] → whole ≡ given k.done
  grown_end e = k.is ∙ step_on _ e ∙ ap given (append-nil k.done)

  -- and so what is answered
  pub grown_refused : {r : Refusal} → rest ≡ refused r → Err r ≡ sized (list_of 4 g) whole
  grown_refused e = sized_refused (list_of 4 g) (grown_off e)

  pub grown_given : rest ≡ given [] → Ok total ≡ sized (list_of 4 g) whole
  grown_given e = sized_given (list_of 4 g) (grown_end e) k.long

-- ---- each of a list in turn

module _ {A B : Type 0} (f : A → Answer B) (x : A) (l : List A) where
  pub each_on : {y : B} → f x ≡ given y → each f (x ∷ l) ≡ (each f l >>= (λ ys. given (y ∷ ys)))
  unfolding each
  each_on e = step_on _ e

  pub each_off : {r : Refusal} → f x ≡ refused r → each f (x ∷ l) ≡ refused r
  unfolding each
  each_off e = step_off _ e

pub each_none : {A B : Type 0} (f : A → Answer B) → each f [] ≡ given []
unfolding each
each_none f = refl
