-- From an expression to its root, and from a node to its operands.
-- Assumes nothing.
use mathlib.Core.Path.{◌≡◌}
use mathlib.Core.List.{List}
use Prim.Native.Nat.{ℕ, ◌+◌, ◌-◌, ◌<◌, ◌≤◌}
use native.Mathlib.Omega.{arith}
use lib.ListN.{get_or}
use mir.Syntax.{w8}
use mir.Val.{Fits}
use Rattle.bytes_wire.specs.Le.{Bytes}
use Rattle.image_expression.specs.Expression.{expression}
use Rattle.image_expression.specs.Place.{node_count, node_at}
use Rattle.image_expression.specs.Laws.{is_image, some_node, last_operand, first_operand, known_kind}
use Rattle.bytes_bundle.specs.Held.{Is, held}
use Rattle.image_catalogue.specs.Layout.{table}
use Rattle.bind_expression.specs.Marks.{NamesWithin}
use Rattle.run_expression.specs.Works.{ObeysTable, Workable}

-- what a slice's rule says of its elements
pub known : {s : List ℕ} → ((j : ℕ) → Fits w8 (get_or s j 0)) → Bytes s
known h = record { at = λ j. (h j).fits }

pub root : {t e r : List ℕ} → Bytes e → Is table t × ((Is expression e × NamesWithin e) × ObeysTable t r) → (n : ℕ) → n ≡ node_count e
    → (1 ≤ n) × Workable t e (n - 1) r
root b p n is =
    let i = held p.1.0.0 (λ x h. is_image h) in
    let o = some_node b i in
    (omega arith, record { table = p.0; names = p.1.0.1; node = record { image = i; within = omega arith }; row = p.1.1 })

module _ {t e r : List ℕ} {i : ℕ} (m : Workable t e i r) where
  module _ (b : (j : ℕ) → Fits w8 (get_or e j 0)) (k : ℕ) (is : k ≡ (node_at e i).kind) where
    pub last : 9 ≤ k → (1 ≤ i) × Workable t e (i - 1) r
    last lo = let o = last_operand (known b) m.node k is lo in (o.0, record { table = m.table; names = m.names; node = o.1; row = m.row })

    pub first : 16 ≤ k → (n : ℕ) → n ≡ (node_at e (i - 1)).span → (n + 1 ≤ i) × Workable t e (i - 1 - n) r
    first lo n d = let o = first_operand (known b) m.node k is n d lo in (o.0, record { table = m.table; names = m.names; node = o.1; row = m.row })

    pub kinds : k < 30
    kinds = known_kind (known b) m.node k is
