-- Some parts of a list, written at two cursors: their lengths at the one, the parts at the other. What is written portion by portion is written as one.
-- Assumes nothing.
use Rattle.std.specs.Prelude.{◌≡◌, ℕ, ◌+◌, ◌-◌, ◌*◌, ◌≤◌}
use Rattle.std.proofs.Math.Path.{refl, sym, ap}
use Rattle.std.proofs.Common.{◌∙◌, arith, length-append}
use mathlib.Core.List.{List, [], ◌∷◌, ◌++◌, append-nil, append_assoc}
use Rattle.std.proofs.Math.ListN.{length}
use Rattle.bytes_wire.specs.Le.{le}
use Rattle.bytes_wire.specs.Sets.{Wrote, then}
use Rattle.bytes_format.specs.Format.{Format}
use Rattle.bytes_format.proofs.Formats.{list_of}
use Rattle.image_bound.specs.Beside.{wrote_long, Beside, beside_none, beside_long, beside_first, beside_second, beside_then, beside_joined}
use Rattle.image_bound.specs.Bundles.{lengths, bodies, list_bytes, list_length, lengths_length}
use Rattle.image_bound.specs.Written.{spelt}

-- there is room for the lengths of the parts vs from `row` on, up to `to`, and for the parts from there on
pub record Room {A : Type 0} (f : Format A) (vs : List A) (row to : ℕ) (o : List ℕ) : Type 0 where
  pub entries : row + 4 * length vs ≤ to
  pub parts : to + length (bodies f vs) ≤ length o

-- the lengths of the parts vs are written from `row` to `row'`, and the parts from `to` to `to'`
pub record Laid {A : Type 0} (f : Format A) (vs : List A) (o : List ℕ) (row to row' to' : ℕ) (o' : List ℕ) : Type 0 where
  pub beside : Beside o row (lengths f vs) row' to (bodies f vs) to' o'

-- of the parts `whole` those are written that stand before `rest`
pub record Partly {A : Type 0} (f : Format A) (whole rest : List A) (o : List ℕ) (row to row' to' : ℕ) (o' : List ℕ) : Type 0 where
  pub done : List A
  pub is : done ++ rest ≡ whole
  pub laid : Laid f done o row to row' to' o'

module _ {A : Type 0} (f : Format A) where
  lengths_append : (vs ws : List A) → lengths f (vs ++ ws) ≡ lengths f vs ++ lengths f ws
  unfolding lengths
  lengths_append [] ws = refl
  lengths_append (v ∷ vs) ws =
      ap (λ (l : List ℕ). le 4 (length (f.write v)) ++ l) (lengths_append vs ws) ∙ sym (append_assoc (le 4 (length (f.write v))) (lengths f vs) (lengths f ws))

  bodies_append : (vs ws : List A) → bodies f (vs ++ ws) ≡ bodies f vs ++ bodies f ws
  unfolding bodies
  bodies_append [] ws = refl
  bodies_append (v ∷ vs) ws = ap (λ (l : List ℕ). f.write v ++ l) (bodies_append vs ws) ∙ sym (append_assoc (f.write v) (bodies f vs) (bodies f ws))

  bodies_long : (vs ws : List A) → length (bodies f (vs ++ ws)) ≡ length (bodies f vs) + length (bodies f ws)
  bodies_long vs ws = ap length (bodies_append vs ws) ∙ length-append (bodies f vs) (bodies f ws)

module _ {A : Type 0} {f : Format A} where
  -- the same parts
  pub room_as : {vs ws : List A} {row to : ℕ} {o : List ℕ} → vs ≡ ws → Room f vs row to o → Room f ws row to o
  room_as e r = rw e at r

  pub laid_as : {vs ws : List A} {o o₁ : List ℕ} {row to row₁ to₁ : ℕ} → vs ≡ ws → Laid f vs o row to row₁ to₁ o₁ → Laid f ws o row to row₁ to₁ o₁
  laid_as e a = rw e at a

  -- room for the parts behind their number, which has 4 bytes
  pub list_room : (vs : List A) {o₀ o : List ℕ} {at row n : ℕ} → at + length ((list_of 4 f).write vs) ≤ length o₀ → Wrote o₀ at (le 4 n) row o → n ≡ length vs
      → Room f vs row (row + 4 * n) o
  list_room vs r w e = record { entries = omega (arith, e); parts = omega (arith, r, e, list_length f vs, wrote_long w, w.end) }

  laid_none : {o : List ℕ} {row to : ℕ} → row ≤ to → Laid f [] o row to row to o
  unfolding lengths bodies
  laid_none {o} {row} {to} h = record { beside = beside_none o row to h }

  -- a part, then its length: how far the cursor went
  pub laid_one : {v : A} {o o₁ o₂ : List ℕ} {row to row' to' : ℕ} → row + 4 ≤ to → Wrote o to (f.write v) to' o₁ → Wrote o₁ row (le 4 (to' - to)) row' o₂
      → Laid f (v ∷ []) o row to row' to' o₂
  unfolding lengths bodies
  laid_one {v} {o} {o₁} {o₂} {row} {to} {row'} {to'} h p q =
      let z : to' - to ≡ length (f.write v) = omega (arith, p.end) in
      let q' : Wrote o₁ row (le 4 (length (f.write v))) row' o₂ = rw z at q in
      let b = beside_first (beside_second (beside_none o row to (omega arith)) p) q' (omega (arith, q'.end)) in
      record { beside = rw (append-nil (le 4 (length (f.write v))), append-nil (f.write v)) b }

  module _ {vs : List A} {o o₁ : List ℕ} {row to row₁ to₁ : ℕ} (a : Laid f vs o row to row₁ to₁ o₁) where
    pub laid_end : row₁ ≡ row + 4 * length vs
    laid_end = omega (arith, a.beside.end, lengths_length f vs)

    pub laid_long : length o₁ ≡ length o
    laid_long = beside_long a.beside

    laid_more : {ws : List A} {o₂ : List ℕ} {row₂ to₂ : ℕ} → Laid f ws o₁ row₁ to₁ row₂ to₂ o₂ → row₂ ≤ to → Laid f (vs ++ ws) o row to row₂ to₂ o₂
    laid_more {ws} b h = record { beside = rw (lengths_append f vs ws, bodies_append f vs ws) (beside_then a.beside b.beside h) }

    -- the whole list, behind its number
    pub laid_list : {o₀ : List ℕ} {at n : ℕ} → Wrote o₀ at (le 4 n) row o → n ≡ length vs → to ≡ row + 4 * n → Wrote o₀ at ((list_of 4 f).write vs) to₁ o₁
    laid_list {n = n} w e h =
        let j : row₁ ≡ to = omega (arith, laid_end, e, h) in
        let x : Beside o row (lengths f vs) to to (bodies f vs) to₁ o₁ = rw j at a.beside in
        spelt (ap (λ (m : ℕ). le 4 m ++ (lengths f vs ++ bodies f vs)) e ∙ sym (list_bytes f vs)) (then w (beside_joined x))

  -- ---- a loop: none, a portion more, all

  pub partly_none : (whole : List A) {o : List ℕ} {row to : ℕ} → row ≤ to → Partly f whole whole o row to row to o
  partly_none whole h = record { done = []; is = refl; laid = laid_none h }

  -- the portion vs is next
  module _ (vs rest : List A) {left whole : List A} (e : vs ++ rest ≡ left) {o o₁ : List ℕ} {row to row₁ to₁ : ℕ} (r : Room f whole row to o) (p : Partly f whole left o row to row₁ to₁ o₁) where
    whole_is : p.done ++ (vs ++ rest) ≡ whole
    whole_is = ap (λ (l : List A). p.done ++ l) e ∙ p.is

    whole_long : length p.done + (length vs + length rest) ≡ length whole
    whole_long = omega (arith, length-append p.done (vs ++ rest), length-append vs rest, ap length whole_is)

    whole_bodies : length (bodies f p.done) + (length (bodies f vs) + length (bodies f rest)) ≡ length (bodies f whole)
    whole_bodies = omega (arith, bodies_long f p.done (vs ++ rest), bodies_long f vs rest, ap (λ (l : List A). length (bodies f l)) whole_is)

    -- the portion has room
    pub partly_room : Room f vs row₁ to₁ o₁
    partly_room = record {
      entries = omega (arith, laid_end p.laid, whole_long, r.entries, p.laid.beside.far);
      parts = omega (arith, laid_long p.laid, whole_bodies, r.parts, p.laid.beside.far);
    }

    pub partly_more : {o₂ : List ℕ} {row₂ to₂ : ℕ} → Laid f vs o₁ row₁ to₁ row₂ to₂ o₂ → Partly f whole rest o row to row₂ to₂ o₂
    partly_more b = record {
      done = p.done ++ vs;
      is = append_assoc p.done vs rest ∙ whole_is;
      laid = laid_more p.laid b (omega (arith, laid_end b, laid_end p.laid, whole_long, r.entries));
    }

  pub partly_all : {whole : List A} {o o₁ : List ℕ} {row to row₁ to₁ : ℕ} → Partly f whole [] o row to row₁ to₁ o₁ → Laid f whole o row to row₁ to₁ o₁
  partly_all p = rw (sym (append-nil p.done) ∙ p.is) at p.laid
