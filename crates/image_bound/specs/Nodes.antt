-- The 11 bytes of a node of a bound expression: kind, type, nullable, span, end of the content.
-- Assumes nothing.
use Rattle.std.specs.Prelude.{◌≡◌, refl, List, [], ◌∷◌, ◌++◌, ℕ, length}
use Rattle.bytes_wire.specs.Le.{le}
use Rattle.rules.specs.declared.Mark.{Mark}
use Rattle.image_bound.specs.Expression.{marks}

unfoldable pub node_bytes : ℕ → Mark → ℕ → ℕ → List ℕ
node_bytes kind m span end = ((kind ∷ []) ++ marks.form.write m) ++ (le 4 span ++ le 4 end)

pub node_length : (kind : ℕ) (m : Mark) (span end : ℕ) → length (node_bytes kind m span end) ≡ 11
unfolding node_bytes
node_length kind m span end = refl
