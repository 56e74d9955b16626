-- The whole expression: its count, then the root's rows and contents.
-- Assumes nothing.
use mathlib.Core.Path.{◌≡◌, sym, ap, subst}
use mathlib.Core.List.{List}
use Prim.Native.Nat.{ℕ, ◌+◌, ◌-◌, ◌*◌, ◌≤◌, ◌<◌}
use native.Mathlib.Omega.{arith}
use lib.Dec.{lit≤}
use lib.ListN.{length}
use Rattle.bytes_wire.specs.Le.{Bytes, le, num_take_below}
use Rattle.bytes_wire.specs.Sets.{Wrote}
use Rattle.tree.specs.Tree.{size}
use Rattle.rules.specs.Bound.{BoundExpr}
use Rattle.image_expression.specs.Place.{node_count, IsImage}
use Rattle.image_expression.specs.Laws.{is_image, some_node}
use Rattle.image_bound.specs.Expression.{bound_expression}
use Rattle.image_bound.specs.Runs.{rows_from, content_bytes, content_length, run_length}
use Rattle.image_bound.specs.Beside.{wrote_long, Beside, wrote_run_beside}
use Rattle.write_expression.specs.declared.Bound.{Bound}
use Rattle.write_expression.specs.Binds.{BindsWhole, bind_root}
use Rattle.write_expression.specs.Rows.{Laid}
use Rattle.write_expression.specs.Writes.{Ready, Writable, Writes}
use Rattle.write_expression.proofs.Steps.{laid_content}

few_nodes : (e : List ℕ) → Bytes e → node_count e < 65536
unfolding node_count
few_nodes e y = num_take_below 2 2 e y (lit≤ tt)

pub image : {t e o : List ℕ} {at : ℕ} → Ready t e o at → IsImage e
image w = is_image w.bind.reads

module _ {t e o : List ℕ} {at : ℕ} (w : Ready t e o at) (y : Bytes e) where
  -- n is told to be the number of the bound expression's nodes
  module _ {n : ℕ} (few : n ≤ node_count e) (told : (u : List ℕ) (b : BoundExpr) → BindsWhole u e b → n ≡ size b) where
    sum : at + (4 + 11 * n + content_length w.whole) ≤ length o
    sum = omega (arith, w.room, run_length w.whole, told t w.whole w.bind)

    pub count_room : (n < 4294967296) × (at + 4 ≤ length o)
    count_room = omega (arith, few, few_nodes e y, sum)

    module _ {rows : ℕ} {o₁ : List ℕ} (c : Wrote o at (le 4 n) rows o₁) where
      pub rows_room : rows + 11 * n + content_length w.whole ≤ length o
      rows_room = omega (arith, c.end, sum)

      pub root_writable : {m : ℕ} → m ≡ node_count e → Writable t e (m - 1) o₁ rows (rows + 11 * n) 0
      root_writable {m} z = rw z (record {
        names = w.names;
        node = record { image = image w; within = omega (arith, some_node y (image w)) };
        whole = w.whole;
        binds = bind_root y w.bind;
        rows = omega (arith, told t w.whole w.bind);
        contents = omega (arith, rows_room, wrote_long c);
        front = omega arith;
      })

      module _ {m : ℕ} {r : Bound} {o₂ : List ℕ} (z : m ≡ node_count e) (q : Writes t e (m - 1) 0 o₁ rows (rows + 11 * n) r o₂) where
        root : (b : BoundExpr) → BindsWhole t e b → Laid b 0 o₁ rows (rows + 11 * n) r o₂
        root b h = (rw z at q) b (bind_root y h)

        pub result_room : rows + 11 * n + r.content ≤ length o
        result_room = omega (arith, rows_room, laid_content (root w.whole w.bind))

        pub wrote_whole : (b : BoundExpr) → BindsWhole t e b → Wrote o at (bound_expression.write b) (rows + 11 * n + r.content) o₂
        wrote_whole b h =
            let x = root b h in
            let k : n ≡ size b = told t b h in
            let j : rows + 11 * size b ≡ rows + 11 * n = ap (λ (i : ℕ). rows + 11 * i) (sym k) in
            let s : Beside o₁ rows (rows_from 0 b) (rows + 11 * n) (rows + 11 * n) (content_bytes b) (rows + 11 * n + content_length b) o₂ =
            subst (λ (i : ℕ). Beside o₁ rows (rows_from 0 b) i (rows + 11 * n) (content_bytes b) (rows + 11 * n + content_length b) o₂) j x.bytes in
            rw (laid_content x) (wrote_run_beside b c s k)
