-- From an expression to its root, and from a node to its operands.
-- Assumes nothing.
use mathlib.Core.Path.{◌≡◌}
use mathlib.Core.List.{List}
use Prim.Native.Nat.{ℕ, ◌+◌, ◌-◌, ◌<◌, ◌≤◌}
use native.Mathlib.Omega.{arith}
use lib.ListN.{get_or}
use mir.Syntax.{w8}
use mir.Val.{Fits}
use Rattle.bytes_wire.specs.Le.{Bytes}
use Rattle.image_expression.specs.Expression.{expression}
use Rattle.image_expression.specs.Place.{node_count, node_at}
use Rattle.image_expression.specs.Laws.{is_image, some_node, last_operand, first_operand, known_kind}
use Rattle.bytes_bundle.specs.Held.{Is, held}
use Rattle.image_catalogue.specs.Layout.{table}
use Rattle.bind_expression.specs.Marks.{NamesWithin, Markable}

-- what a slice's rule says of its elements
pub known : {s : List ℕ} → ((j : ℕ) → Fits w8 (get_or s j 0)) → Bytes s
known h = record { at = λ j. (h j).fits }

pub root : {t e : List ℕ} → Bytes e → Is table t × (Is expression e × NamesWithin e) → (n : ℕ) → n ≡ node_count e → (1 ≤ n) × Markable t e (n - 1)
root b p n is =
    let i = held p.1.0 (λ x h. is_image h) in
    let o = some_node b i in
    (omega arith, record { table = p.0; names = p.1.1; node = record { image = i; within = omega arith } })

module _ {t e : List ℕ} {i : ℕ} (b : (j : ℕ) → Fits w8 (get_or e j 0)) (m : Markable t e i) (k : ℕ) (is : k ≡ (node_at e i).kind) where
  pub last : 9 ≤ k → (1 ≤ i) × Markable t e (i - 1)
  last lo = let o = last_operand (known b) m.node k is lo in (o.0, record { table = m.table; names = m.names; node = o.1 })

  pub first : 16 ≤ k → (n : ℕ) → n ≡ (node_at e (i - 1)).span → (n + 1 ≤ i) × Markable t e (i - 1 - n)
  first lo n d = let o = first_operand (known b) m.node k is n d lo in (o.0, record { table = m.table; names = m.names; node = o.1 })

  pub kinds : k < 30
  kinds = known_kind (known b) m.node k is
