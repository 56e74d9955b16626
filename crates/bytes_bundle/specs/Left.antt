-- What an iterator over a bundle has still to give.
-- Assumes nothing: this is a definition.
use Rattle.std.specs.Prelude.{List, ℕ}
use Rattle.bytes_bundle.specs.declared.parts_iter.Parts.{Parts}
use Rattle.bytes_bundle.specs.Contents.{lengths, cuts}

-- the parts that are left
unfoldable pub parts_left : Parts → List (List ℕ)
parts_left p = cuts (lengths p.w p.left p.lengths.now) p.bytes.now
