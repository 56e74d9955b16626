-- The whole image: where its parts end, and what the bound statement is made of.
-- Assumes nothing.
use mathlib.Core.Path.{◌≡◌, refl, sym, ap, ap₂, ◌∙◌, subst}
use mathlib.Core.Bool.{true}
use mathlib.Core.List.{List, [], ◌∷◌}
use mathlib.Core.Option.{Option}
use Prim.Native.Nat.{ℕ, ◌+◌, ◌-◌}
use native.Mathlib.Omega.{arith}
use borrow.Author.Tests.{leb-true}
use lib.ListN.{length}
use Rattle.bytes_wire.specs.Sets.{Wrote, then}
use Rattle.bytes_format.proofs.Formats.{alone, list_of}
use Rattle.image_value.specs.Parts.{column_id, column_schema}
use Rattle.image_bound.specs.Layout.{bound_statement, create_table}
use Rattle.image_bound.specs.Bundles.{head3, head3_length}
use Rattle.image_bound.specs.Statements.{create_table_bytes, create_table_coded}
use Rattle.image_bound.specs.Written.{spelt}
use Rattle.image_bound.specs.Beside.{wrote_long, wrote_record3_after}
use Rattle.bytes_bundle.specs.Decides.{and_of}
use Rattle.bytes_bundle.specs.Held.{Holds, held_once}
use Rattle.image_expression.specs.Names.{Within}
use Rattle.bind_table.specs.Room.{Bindable}
use Rattle.bind_table.specs.Tables.{canonical_length}
use Rattle.std.specs.Prelude.{None}
use Rattle.rules.specs.declared.ColumnId.{ColumnId}
use Rattle.rules.specs.declared.Class.{Class}
use Rattle.rules.specs.Lists.{Text}
use Rattle.rules.specs.Answers.{given}
use Rattle.rules.specs.Names.{canonical}
use Rattle.rules.specs.Tables.{ColumnSchema, Catalogue}
use Rattle.rules.specs.Statements.{Name, plain, ColumnDefinition, CreateTable}
use Rattle.rules.specs.Bound.{BoundStatement}
use Rattle.rules.specs.Analyze.{analyze_create_table}
use Rattle.rules.proofs.Theorems.Answered.{never_given}
use Rattle.image_parts.specs.Layout.{object_name, column_definition, create}
use Rattle.bind_create.specs.declared.Key.{Key}
use Rattle.std.specs.Prelude.{Result, Ok, Err}
use Rattle.bind_create.specs.Defined.{schemas, key_of, created, room_for, room_is, created_size}
use Rattle.bind_create.specs.Keys.{KeyAt, Read, read_of, KeyRead, ReadsKey}
use Rattle.bind_create.specs.Within.{CreateWithin, PlaceIn, KeyIn, short_table}
use Rattle.write_create.specs.Parts.{made_columns, table_of, RoomyList, PlainName, Writable}
use Rattle.write_create.specs.Given.{create_given, read_distinct}

-- ---- what follows the code

module _ {s : List ℕ} {key : Key} {room : ℕ} (w : Writable s key room) where
  pub key_in : KeyIn s key
  key_in = record { at = λ v h. (w.names, subst (λ (x : CreateTable). KeyAt x.columns x.constraints key w.names) (held_once create w.whole h) w.at) }

  module _ (p : List ℕ) (g : (v : CreateTable) → Holds create s v → Holds object_name p v.name) where
    pub name_holds : Holds object_name p (plain w.name)
    name_holds = subst (Holds object_name p) w.plainly (g w.value w.whole)

    pub plain_name : CreateWithin s → PlainName p 17 room
    plain_name a = record {
      name = w.name;
      whole = name_holds;
      short = leb-true (length w.name.text) 128 (and_of (Within w.name) true ((short_table a g).short (plain w.name) name_holds)).0;
      fits = omega (arith, w.fits);
    }

    -- where the name ends
    pub name_end : {o o₁ : List ℕ} {k : ℕ} → ((n : Name) → Holds object_name p (plain n) → Wrote o 17 (canonical n) k o₁) → (k ≡ 17 + length w.name.text) × (length o₁ ≡ length o)
    name_end f = let x = f w.name name_holds in (omega (arith, x.end, canonical_length w.name), wrote_long x)

  module _ (p : List ℕ) (g : (v : CreateTable) → Holds create s v → Holds (list_of 2 column_definition) p v.columns) where
    pub columns_room : {k room' : ℕ} → (k ≡ 17 + length w.name.text) → room' ≡ room → RoomyList p k room'
    columns_room e r = record { fits = λ cs h. omega (arith, w.fits, e, r, ap room_for (held_once (list_of 2 column_definition) {s = p} h (g w.value w.whole))) }

    -- where the columns end
    pub columns_end : (ids : List ColumnId) {o o₁ : List ℕ} {k l : ℕ}
        → ((cs : List ColumnDefinition) → Holds (list_of 2 column_definition) p cs → Wrote o k ((list_of 4 (column_schema 4)).write (made_columns ids cs)) l o₁)
        → (l ≡ k + room_for w.value.columns) × (length o₁ ≡ length o)
    columns_end ids f = let x = f w.value.columns (g w.value w.whole) in (omega (arith, x.end, room_is ids 0 w.value.columns), wrote_long x)

-- the three parts, and the head last
pub table_wrote : {o o₁ o₂ o₃ o₄ : List ℕ} {j k l e : ℕ} (n : Name) (cs : List ColumnDefinition) {ids key : List ColumnId} → ids ≡ key → Wrote o 17 (canonical n) k o₁
    → Wrote o₁ k ((list_of 4 (column_schema 4)).write (made_columns ids cs)) l o₂ → Wrote o₂ l ((list_of 4 (alone column_id)).write ids) e o₃
    → Wrote o₃ 1 (head3 (k - 17) (l - k) (e - l)) j o₄ → Wrote o 1 (create_table.write (table_of n cs key)) e o₄
table_wrote {k = k} {l = l} {e = e} n cs {ids} i a b c h =
    let z : 17 ≡ 1 + length (head3 (k - 17) (l - k) (e - l)) = omega (arith, head3_length (k - 17) (l - k) (e - l)) in
    spelt (sym (create_table_bytes (table_of n cs ids)) ∙ ap (λ (x : List ColumnId). create_table.write (table_of n cs x)) i) (wrote_record3_after a b c (record { end = z; is = h.is }))

-- ---- what is bound

-- a bound statement whose key stands at `key`
pub record KeyGiven (v : CreateTable) (key : Key) (b : BoundStatement) : Type 0 where
  pub name : Name
  pub plainly : v.name ≡ plain name
  pub names : Option (List Text)
  pub at : KeyAt v.columns v.constraints key names
  pub ids : List ColumnId
  pub gives : key_of (schemas 0 v.columns) names ≡ given ids
  pub is : b ≡ created (canonical name) (schemas 0 v.columns) ids

read_once : {p q : Read} → given p ≡ given q → p ≡ q
read_once e = cc

pub key_given : (cat : Catalogue) (v : CreateTable) {key : Key} {b : BoundStatement} → analyze_create_table cat v ≡ given b → KeyRead v key → KeyGiven v key b
key_given cat v {key} {b} e k =
    let g = create_given cat v e in
    let z : read_of g.columns g.names ≡ read_of (schemas 0 v.columns) k.names = read_once (sym g.reads ∙ k.gives) in
    let cs : g.columns ≡ schemas 0 v.columns = ap (λ (p : Read). p.0) z in
    let ns : g.names ≡ k.names = ap (λ (p : Read). p.1) z in
    record {
      name = g.name;
      plainly = g.plainly;
      names = k.names;
      at = k.at;
      ids = g.ids;
      gives = sym (ap₂ key_of cs ns) ∙ g.key;
      is = g.is ∙ ap (λ (l : List ColumnSchema). created (canonical g.name) l g.ids) cs;
    }

module _ {c s o : List ℕ} (b : Bindable create bound_statement analyze_create_table c s o) where
  -- no column repeats a name
  pub place_in : PlaceIn s None
  place_in = record { is = λ v h. sym (read_distinct v (create_given b.tables v (ap (analyze_create_table b.tables) (held_once create {s = s} h b.reads) ∙ b.gives)).reads) }

  module _ {r : Result Key Class} {key : Key} (f : (v : CreateTable) → Holds create s v → ReadsKey v r) (e : r ≡ Ok key) where
    pub key_read : (v : CreateTable) → Holds create s v → KeyRead v key
    key_read v h = subst (ReadsKey v) e (f v h)

    pub writable : {room : ℕ} → room ≡ length o → Writable s key room
    writable z =
        let k = key_given b.tables b.statement b.gives (key_read b.statement b.reads) in
        record {
          value = b.statement;
          whole = b.reads;
          name = k.name;
          plainly = k.plainly;
          names = k.names;
          at = k.at;
          ids = k.ids;
          gives = k.gives;
          fits = omega (arith, z, b.room, ap (λ (x : BoundStatement). length (bound_statement.write x)) k.is, created_size (canonical k.name) b.statement.columns k.ids, canonical_length k.name);
        }

-- the code, then what follows it
pub whole_wrote : {v : CreateTable} {key : Key} {b : BoundStatement} {o o₁ o₂ : List ℕ} {j e : ℕ} (k : KeyGiven v key b) → Wrote o 0 (0 ∷ []) j o₁
    → Wrote o₁ 1 (create_table.write (table_of k.name v.columns k.ids)) e o₂ → Wrote o 0 (bound_statement.write b) e o₂
whole_wrote {v} k p q =
    spelt (sym (create_table_coded (table_of k.name v.columns k.ids)) ∙ ap bound_statement.write (sym k.is))
    (then {x = 0 ∷ []} {j = 1} (record { end = refl; is = p.is }) q)

-- a refusal can't be
pub never_refused : (cat : Catalogue) (v : CreateTable) {b : BoundStatement} {r : Result Key Class} {k : Class} → analyze_create_table cat v ≡ given b → r ≡ Err k → ReadsKey v r → ⊥
never_refused cat v e h f = never_given (sym (subst (ReadsKey v) h f) ∙ (create_given cat v e).reads)
