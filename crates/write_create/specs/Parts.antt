-- The parts of a bound CREATE TABLE, and the room that a writer of each wants.
-- Assumes nothing: these are definitions.
use Rattle.std.specs.Prelude.{◌≡◌, Bool, false, ◌||◌, List, map, ℕ, ◌+◌, ◌*◌, ◌≤◌, ◌<◌, length, get_or}
use Rattle.std.proofs.Math.Option.{Option, some}
use Rattle.bytes_format.proofs.Formats.{list_of}
use Rattle.bytes_bundle.specs.Held.{Holds}
use Rattle.image_parts.specs.Layout.{object_name, column_definition, create}
use Rattle.rules.specs.declared.ColumnId.{ColumnId}
use Rattle.rules.specs.Lists.{Text, any}
use Rattle.rules.specs.Answers.{given}
use Rattle.rules.specs.Names.{canonical}
use Rattle.rules.specs.Tables.{ColumnSchema, same_id}
use Rattle.rules.specs.Statements.{Name, plain, ColumnDefinition, CreateTable}
use Rattle.rules.specs.Bound.{BoundCreateTable}
use Rattle.rules.specs.Analyze.{outside_null}
use Rattle.bind_create.specs.declared.Key.{Key}
use Rattle.bind_create.specs.Defined.{schemas, key_of, room_for}
use Rattle.bind_create.specs.Keys.{KeyAt}

abbrev pub column_name : ColumnDefinition → Option Name
column_name c = some c.name

-- the id of column i
abbrev pub id_at : ℕ → ColumnId
id_at i = record { 0 = i + 1 }

-- the mark of the column that an id stands for is set, and all others are as they were
pub record Marked (old : List Bool) (id : ColumnId) (new : List Bool) : Type 0 where
  pub long : length new ≡ length old
  pub is : (i : ℕ) → i < 64 → get_or new i false ≡ (get_or old i false || same_id (id_at i) id)

-- the marks of the columns that ids stand for
abbrev pub KeyMarks : List Bool → List ColumnId → Type 0
KeyMarks marks ids = (i : ℕ) → i < 64 → get_or marks i false ≡ any (same_id (id_at i)) ids

-- the columns of a table whose key has these ids
abbrev pub made_columns : List ColumnId → List ColumnDefinition → List ColumnSchema
made_columns ids cs = map (outside_null ids) (schemas 0 cs)

abbrev pub table_of : Name → List ColumnDefinition → List ColumnId → BoundCreateTable
table_of w cs ids = record { table_name = canonical w; columns = made_columns ids cs; key = ids }

-- ---- room: at byte `at` of `room` bytes

pub record Roomy (d : List ℕ) (at room : ℕ) : Type 0 where
  pub fits : (v : ColumnDefinition) → Holds column_definition d v → at + (22 + length v.name.text) ≤ room

pub record RoomyList (s : List ℕ) (at room : ℕ) : Type 0 where
  pub fits : (cs : List ColumnDefinition) → Holds (list_of 2 column_definition) s cs → at + room_for cs ≤ room

-- a name of one part, within the limit
pub record PlainName (o : List ℕ) (at room : ℕ) : Type 0 where
  pub name : Name
  pub whole : Holds object_name o (plain name)
  pub short : length name.text ≤ 128
  pub fits : at + length name.text ≤ room

-- a table whose key stands at `key`
pub record Writable (s : List ℕ) (key : Key) (room : ℕ) : Type 0 where
  pub value : CreateTable
  pub whole : Holds create s value
  pub name : Name
  pub plainly : value.name ≡ plain name
  pub names : Option (List Text)
  pub at : KeyAt value.columns value.constraints key names
  pub ids : List ColumnId
  pub gives : key_of (schemas 0 value.columns) names ≡ given ids
  pub fits : 17 + length name.text + room_for value.columns + (4 + 12 * length ids) ≤ room
