-- A decision: tests one behind the other, as the code makes them, each with a `return` of its own.
-- Assumes nothing.
use Rattle.std.specs.Prelude.{◌≡◌, refl, Bool, true, false, not, ◌&&◌, List, [], ◌∷◌}
use Rattle.std.proofs.Common.{sym, ap, ◌∙◌}
use Rattle.std.proofs.Math.Bool.{and-true}
use Rattle.std.proofs.lemmas.Bool.{false≢true, not-true, not-false}

pub and_of : (a b : Bool) → (a && b) ≡ true → (a ≡ true) × (b ≡ true)
and_of true b e = (refl, e)
and_of false b e = absurd (false≢true e)

-- all of them
abbrev pub all_of : List Bool → Bool
all_of [] = true
all_of (t ∷ []) = t
all_of (t ∷ u ∷ ts) = t && all_of (u ∷ ts)

pub all_cons : (t : Bool) (ts : List Bool) → all_of (t ∷ ts) ≡ (t && all_of ts)
all_cons t [] = sym (and-true t)
all_cons t (u ∷ ts) = refl

-- X is decided by the tests ts. A record, so that the tests of one that is at hand are found by their places.
pub record Decides (X : Bool) (ts : List Bool) : Type 0 where
  pub is : X ≡ all_of ts

-- a test that failed decides; one that passed leaves the others; the last one is the answer
pub stop : {X t : Bool} {ts : List Bool} → Decides X (t ∷ ts) → t ≡ false → false ≡ X
stop {t = t} {ts = []} d e = sym (d.is ∙ e)
stop {t = t} {ts = u ∷ ts} d e = sym (d.is ∙ ap (λ (b : Bool). b && all_of (u ∷ ts)) e)

pub on : {X t u : Bool} {ts : List Bool} → Decides X (t ∷ u ∷ ts) → t ≡ true → Decides X (u ∷ ts)
on {u = u} {ts = ts} d e = record { is = d.is ∙ ap (λ (b : Bool). b && all_of (u ∷ ts)) e }

pub last : {X t r : Bool} → Decides X (t ∷ []) → r ≡ t → r ≡ X
last d e = e ∙ sym d.is

-- what `if !test { return false; }` tells of a test of which the callee said what it is
pub failed : {r t : Bool} → r ≡ t → not r ≡ true → t ≡ false
failed {r} e h = sym e ∙ not-true r h

pub passed : {r t : Bool} → r ≡ t → not r ≡ false → t ≡ true
passed {r} e h = sym e ∙ not-false r h
