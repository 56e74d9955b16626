-- Tests joined by `&&`, as the code makes them: where the first fails, it is the answer.
-- Assumes nothing.
use Rattle.std.specs.Prelude.{◌≡◌, Bool, true, false, ◌&&◌, List, [], ◌∷◌}
use Rattle.std.proofs.Common.{sym, ap, ◌∙◌}
use Rattle.std.proofs.Math.Bool.{and_assoc}
use Rattle.bytes_bundle.specs.Decides.{Decides, all_of, stop, on, last}

module _ {r a : Bool} (e : r ≡ a) where
  pub and_on : {q b : Bool} → r ≡ true → q ≡ b → q ≡ (a && b)
  and_on {b = b} t k = k ∙ ap (λ (x : Bool). x && b) (sym t ∙ e)

  pub and_off : (b : Bool) → r ≡ false → r ≡ (a && b)
  and_off b t = t ∙ ap (λ (x : Bool). x && b) (sym t ∙ e)

  -- what a decision says of the answer
  pub decided_on : {X q b : Bool} → Decides X (a ∷ b ∷ []) → r ≡ true → q ≡ b → q ≡ X
  decided_on d t k = last (on d (sym e ∙ t)) k

  pub decided_off : {X : Bool} {ts : List Bool} → Decides X (a ∷ ts) → r ≡ false → r ≡ X
  decided_off d t = t ∙ stop d (sym e ∙ t)

-- the first two of three tests as one
pub paired : {X a b c : Bool} → Decides X (a ∷ b ∷ c ∷ []) → Decides X ((a && b) ∷ c ∷ [])
paired {a = a} {b = b} {c = c} d = record { is = d.is ∙ sym (and_assoc a b c) }
