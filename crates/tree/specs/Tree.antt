-- Trees of three shapes: what stands at a leaf, at a node with one operand and at a node with two are types of their own.
-- A parsed expression, a bound expression and a marking are such trees.
-- Assumes nothing: these are definitions.
use Rattle.std.specs.Prelude.{ℕ, ◌+◌, max}

pub data Tree (L U B : Type 0) : Type 0 where
  leaf : L → Tree L U B
  un : U → Tree L U B → Tree L U B
  bin : B → Tree L U B → Tree L U B → Tree L U B

module _ {L U B : Type 0} where
  -- how many nodes
  unfoldable pub size : Tree L U B → ℕ
  size (leaf l) = 1
  size (un o a) = size a + 1
  size (bin o a b) = size a + size b + 1

  -- how many nodes one above the other: a leaf is 1
  unfoldable pub depth : Tree L U B → ℕ
  depth (leaf l) = 1
  depth (un o a) = depth a + 1
  depth (bin o a b) = max (depth a) (depth b) + 1
