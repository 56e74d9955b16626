-- What writing a leaf's content asks for, and what it leaves: the leaf is one that a rule P gives.
-- Assumes nothing: these are definitions.
use Rattle.std.specs.Prelude.{◌≡◌, Bool, List, ℕ, ◌+◌, ◌≤◌, length}
use Rattle.bytes_wire.specs.Sets.{Wrote}
use Rattle.rules.specs.declared.ExpressionType.{ExpressionType}
use Rattle.rules.specs.declared.Mark.{Mark}
use Rattle.rules.specs.Answers.{fine}
use Rattle.rules.specs.Bound.{Marked, BoundLeaf}
use Rattle.rules.specs.Lists.{Text}
use Rattle.rules.specs.Lookup as lookup
use Rattle.rules.specs.Marking.{column_leaf}
use Rattle.rules.specs.Names.{canonical}
use Rattle.rules.specs.Tables.{TableSchema}
use Rattle.text_names.specs.Compared.{named}
use Rattle.image_catalogue.specs.Layout.{table}
use Rattle.bytes_bundle.specs.Held.{Holds}
use Rattle.image_bound.specs.Runs.{leaf_no, leaf_bytes}
use Rattle.write_expression.specs.declared.Leaf.{Leaf}

-- the rule of a name, over the table that t holds, gives l
pub record Columned (t : List ℕ) (quoted : Bool) (name : Text) (l : Marked BoundLeaf) : Type 0 where
  pub schema : TableSchema
  pub holds : Holds table t schema
  pub rule : column_leaf (lookup.column_by_name schema (canonical (named quoted name))) ≡ fine l

-- a literal, whose content ends at `end`
abbrev pub literal_at : ExpressionType → Bool → ℕ → Leaf
literal_at ty nullable end = record { kind = 1; ty = ty; «end» = end; nullable = nullable }

abbrev pub leaf_mark : Leaf → Mark
leaf_mark r = lookup.mark r.ty r.nullable

-- the rule gives a leaf, and its content has room
pub record LeafRoom (P : Marked BoundLeaf → Type 0) (o : List ℕ) (at : ℕ) : Type 0 where
  pub label : Marked BoundLeaf
  pub rule : P label
  pub room : at + length (leaf_bytes label.kind) ≤ length o

-- the content of the leaf l is written
pub record Put (l : Marked BoundLeaf) (o : List ℕ) (at : ℕ) (r : Leaf) (o' : List ℕ) : Type 0 where
  pub kind : r.kind ≡ leaf_no l.kind
  pub mark : leaf_mark r ≡ l.mark
  pub wrote : Wrote o at (leaf_bytes l.kind) r.«end» o'

abbrev pub Puts : (Marked BoundLeaf → Type 0) → List ℕ → ℕ → Leaf → List ℕ → Type 0
Puts P o at r o' = (l : Marked BoundLeaf) → P l → Put l o at r o'
