-- The loops over the positions of the new row: one measures its values, one writes them.
-- Assumes nothing.
use Rattle.std.specs.Prelude.{◌≡◌, List, ◌∷◌, ◌++◌, ℕ, ◌+◌, ◌-◌, ◌*◌, ◌≤◌, ◌<◌, length, take, drop, get_or, Option as Maybe, None}
use Rattle.std.proofs.Common.{sym, ap, ◌∙◌, add-one, arith, length-append, drop-cons, take_all}
use Rattle.bytes_wire.specs.Le.{le}
use Rattle.bytes_wire.specs.Sets.{Wrote}
use Rattle.bytes_bundle.specs.Bundle.{parts_of}
use Rattle.image_bound.specs.Beside.{Listed, listed_none, listed_space, listed_more, listed_all, beside_long}
use Rattle.image_bound.specs.Bundles.{bodies, bodies_snoc, list_length}
use Rattle.run_plan.specs.Runs.{Runs, runs_few}
use Rattle.bind_repeats.specs.Repeats.{take_next}
use Rattle.image_row.specs.Layout.{row}
use Rattle.image_row.specs.Obeyed.{row_values}
use Rattle.rules.specs.Bound.{Value}
use Rattle.rules.specs.Rows.{Row}
use Rattle.image_value.specs.Parts.{value}
use Rattle.run_position.specs.Drawing.{Drawing, RowDrawn, RowDraws, RowDrawsInto, Draws, DrawsInto, row_drawing}

-- as many values as the old row has
pub row_count : {t s r : List ℕ} {from : List (Maybe ℕ)} {z : Row} → RowDrawn t s r from z → length z ≡ length (parts_of 4 r)
row_count {r = r} d = d.drawn.count ∙ (row_values r d.reads).count

pub count_few : {t s r : List ℕ} {from : List (Maybe ℕ)} {z : Row} → Runs t r → RowDrawn t s r from z → length (parts_of 4 r) ≤ 64
count_few {r = r} u d = omega (arith, runs_few u d.holds d.reads, (row_values r d.reads).count)

pub row_long : (z : Row) → length (row.write z) ≡ 4 + 4 * length z + length (bodies value z)
unfolding row
row_long z = list_length value z

row_next : (z : Row) (p : ℕ) → p < length z → drop p z ≡ get_or z p Value.null ∷ drop (p + 1) z
row_next z p h = drop-cons z p Value.null h ∙ ap (λ (k : ℕ). get_or z p Value.null ∷ drop k z) (sym (add-one p))

pub turn_draws : {t s r : List ℕ} {from : List (Maybe ℕ)} {p : ℕ} → RowDraws t s r from → p < length (parts_of 4 r) → Draws t s r p (get_or from p None)
turn_draws d h = record { worth = _; drawing = row_drawing d.drawn (omega (arith, row_count d.drawn)) }

-- ---- measured

-- the values before position p are `sum` long, with their lengths and the count
pub record Measuring (t s r : List ℕ) (from : List (Maybe ℕ)) (p sum : ℕ) : Type 0 where
  pub at : (z : Row) → RowDrawn t s r from z → sum ≡ 4 + 4 * p + length (bodies value (take p z))

pub measuring_none : {t s r : List ℕ} {from : List (Maybe ℕ)} {sum : ℕ} → sum ≡ 4 → Measuring t s r from 0 sum
unfolding bodies
measuring_none e = record { at = λ z d. e }

module _ {t s r : List ℕ} {from : List (Maybe ℕ)} {p sum : ℕ} (g : Measuring t s r from p sum) where
  pub measuring_on : {k : ℕ} → p < length (parts_of 4 r) → ((u : Value) → Drawing t s r p (get_or from p None) u → k ≡ length (value.write u))
      → Measuring t s r from (p + 1) (sum + (4 + k))
  measuring_on {k} h f = record {
    at = λ z d.
        let w : p < length z = omega (arith, row_count d) in
        let e : length (bodies value (take (p + 1) z)) ≡ length (bodies value (take p z) ++ value.write (get_or z p Value.null)) =
        ap (λ (l : List Value). length (bodies value l)) (take_next p z (row_next z p w)) ∙ ap length (bodies_snoc value (take p z) (get_or z p Value.null)) in
        omega (arith, g.at z d, f (get_or z p Value.null) (row_drawing d w), e, length-append (bodies value (take p z)) (value.write (get_or z p Value.null)));
  }

  pub measuring_end : length (parts_of 4 r) ≤ p → p ≤ length (parts_of 4 r) → (z : Row) → RowDrawn t s r from z → sum ≡ length (row.write z)
  measuring_end h k z d =
      let e : length (bodies value (take p z)) ≡ length (bodies value z) = ap (λ (l : List Value). length (bodies value l)) (take_all p z (omega (arith, row_count d))) in
      omega (arith, g.at z d, row_count d, row_long z, e)

-- ---- written

-- the values before position p are written: their lengths up to `to`, their bytes up to `body`
pub record Writing (t s r : List ℕ) (from : List (Maybe ℕ)) (o : List ℕ) (lengths p to body : ℕ) (o' : List ℕ) : Type 0 where
  pub at : (z : Row) → RowDrawn t s r from z → Listed value z p o lengths to body o'

pub writing_none : {t s r o : List ℕ} {from : List (Maybe ℕ)} {lengths n : ℕ} → n ≡ length (parts_of 4 r) → Writing t s r from o lengths 0 lengths (lengths + 4 * n) o
writing_none c = record { at = λ z d. listed_none (omega (arith, c, row_count d)) }

pub list_room : {t s r o : List ℕ} {from : List (Maybe ℕ)} {n : ℕ} → RowDrawsInto t s r from o → n ≡ length (parts_of 4 r) → 4 + 4 * n ≤ length o
list_room m c = omega (arith, m.room, c, row_count m.drawn, row_long m.new)

module _ {t s r o₁ o₂ : List ℕ} {from : List (Maybe ℕ)} {lengths p to body : ℕ} (g : Writing t s r from o₁ lengths p to body o₂) where
  module _ (h : p < length (parts_of 4 r)) where
    module _ {o : List ℕ} (m : RowDrawsInto t s r from o) (b : lengths ≡ 4) (l : length o₁ ≡ length o) where
      pub turn_room : DrawsInto t s r p (get_or from p None) o₂ body
      turn_room =
          let w : p < length m.new = omega (arith, row_count m.drawn) in
          let y = listed_space (g.at m.new m.drawn) (row_next m.new p w) in
          record {
            worth = get_or m.new p Value.null;
            drawing = row_drawing m.drawn w;
            room = omega (arith, y.part, y.long, b, l, m.room, row_long m.new);
          }

      pub length_room : to + 4 ≤ length o₂
      length_room =
          let w : p < length m.new = omega (arith, row_count m.drawn) in
          let y = listed_space (g.at m.new m.drawn) (row_next m.new p w) in
          omega (arith, y.entry, y.part, y.long, b, l, m.room, row_long m.new)

    pub writing_on : {o₃ o₄ : List ℕ} {to' after : ℕ} → ((u : Value) → Drawing t s r p (get_or from p None) u → Wrote o₂ body (value.write u) after o₃)
        → Wrote o₃ to (le 4 (after - body)) to' o₄ → Writing t s r from o₁ lengths (p + 1) to' after o₄
    writing_on f q = record {
      at = λ z d.
          let w : p < length z = omega (arith, row_count d) in
          listed_more (g.at z d) (row_next z p w) (f (get_or z p Value.null) (row_drawing d w)) q;
    }

  -- no position is left
  pub writing_end : {o : List ℕ} {n : ℕ} → n ≡ length (parts_of 4 r) → n ≤ p → Wrote o 0 (le 4 n) lengths o₁ → (z : Row) → RowDrawn t s r from z
      → Wrote o 0 (row.write z) body o₂
  unfolding row
  writing_end c h w z d = listed_all (g.at z d) (omega (arith, c, row_count d)) w (omega (arith, c, row_count d))

  pub writing_long : (z : Row) → RowDrawn t s r from z → length o₂ ≡ length o₁
  writing_long z d = beside_long (g.at z d).beside
