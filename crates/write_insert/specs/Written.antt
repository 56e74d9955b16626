-- Room for each part of a bound INSERT, and the parts put together.
-- Assumes nothing.
use Rattle.std.specs.Prelude.{◌≡◌, refl, Bool, List, [], ◌∷◌, ◌++◌, ℕ, ◌-◌, ◌≤◌, length}
use Rattle.std.proofs.Common.{sym, ap, ◌∙◌, arith}
use Rattle.std.proofs.Math.Option.{some}
use Rattle.bytes_wire.specs.Sets.{Wrote, then}
use Rattle.bytes_format.proofs.Formats.{list_of}
use Rattle.bytes_bundle.specs.Held.{Holds, Shows, is_held, held_once}
use Rattle.image_value.specs.Parts.{value}
use Rattle.image_expression.specs.Expression.{expression}
use Rattle.image_catalogue.specs.Layout.{table}
use Rattle.image_parts.specs.Layout.{name, source_body, insertion}
use Rattle.image_insert.specs.Held.{is_values}
use Rattle.rules.specs.declared.Refusal.{Refusal}
use Rattle.rules.specs.Answers.{given, refused, each}
use Rattle.rules.specs.Tables.{TableSchema, Catalogue}
use Rattle.rules.specs.Bound.{BoundTableRef, BoundInsert, BoundStatement, bound_insert}
use Rattle.rules.specs.Lookup.{bound_table}
use Rattle.rules.specs.Statements.{Expr, SourceBody, values, Source, Insert}
use Rattle.rules.specs.Analyze.{analyze_insert}
use Rattle.rules.proofs.Theorems.Answered.{never_given}
use Rattle.image_bound.specs.Columns.{bound_table_ref, bound_column_ref}
use Rattle.image_bound.specs.Layout.{bound_statement}
use Rattle.image_bound.specs.Bundles.{head3, head3_length}
use Rattle.image_bound.specs.Statements.{insert_bytes, insert_coded}
use Rattle.image_bound.specs.Sizes.{insert_length}
use Rattle.image_bound.specs.Written.{spelt}
use Rattle.image_bound.specs.Beside.{wrote_long, wrote_record3_after}
use Rattle.bind_table.specs.Room.{Bindable}
use Rattle.bind_table.specs.Steps.{TableGiven}
use Rattle.bind_table.specs.Tables.{named_table}
use Rattle.bind_table_ref.specs.Room.{RefRoom}
use Rattle.write_insert_rows.specs.Listing.{literals, Gives, Puts, gives_held, given_once}
use Rattle.write_insert_columns.specs.Refs.{target, TargetsGive}
use Rattle.write_insert.specs.Parts.{InsertParts, analyzed, into_parts}

-- ---- the rows of a source that is VALUES

-- i has a source, and that is VALUES
pub record HasRows (i : List ℕ) : Type 0 where
  pub statement : Insert
  pub reads : Holds insertion i statement
  pub source : Source
  pub there : statement.source ≡ some source
  pub explicit : Bool
  pub rows : List (List Expr)
  pub is : source.body ≡ values explicit rows

-- s holds them
pub record Rows (i s : List ℕ) : Type 0 where
  pub at : (w : Insert) (q : Source) (m : Bool) (rows : List (List Expr)) → Holds insertion i w → w.source ≡ some q → q.body ≡ values m rows
      → Holds (list_of 2 (list_of 2 expression)) s rows

pub rows_held : (b : List ℕ) {x : SourceBody} {m : Bool} {rows : List (List Expr)} → x ≡ values m rows → Holds source_body b x → Holds source_body b (values m rows)
rows_held b e h = h ∙ ap some e

pub rows_shown : (b : List ℕ) {m : Bool} {rows : List (List Expr)} → Holds source_body b (values m rows) → Shows source_body is_values b
rows_shown b h = record { there = (is_held {f = source_body} h).there; case = λ y k. ap is_values (held_once source_body {s = b} k h) }

-- ---- a code, three lengths, and the three parts, which are written before their lengths are

wrote_insert : (b : BoundInsert) {o o₁ o₂ o₃ o₄ o₅ : List ℕ} {j k l e h : ℕ} → Wrote o 0 (1 ∷ []) j o₁ → Wrote o₁ 17 (bound_table_ref.write b.table) k o₂
    → Wrote o₂ k ((list_of 4 bound_column_ref).write b.target_columns) l o₃ → Wrote o₃ l ((list_of 4 (list_of 4 value)).write b.rows) e o₄
    → Wrote o₄ 1 (head3 (k - 17) (l - k) (e - l)) h o₅ → Wrote o 0 (bound_statement.write (bound_insert b)) e o₅
wrote_insert b {o} {o₁} {o₄ = o₄} {o₅ = o₅} {k = k} {l = l} {e = e} {h = h} c p q r d =
    let z : h ≡ 17 = omega (arith, d.end, head3_length (k - 17) (l - k) (e - l)) in
    let front : Wrote o₄ 1 (head3 (k - 17) (l - k) (e - l)) 17 o₅ = rw z at d in
    let code : Wrote o 0 (1 ∷ []) 1 o₁ = record { end = refl; is = c.is } in
    spelt (ap (λ (x : List ℕ). (1 ∷ []) ++ x) (sym (insert_bytes b)) ∙ sym (insert_coded b)) (then code (wrote_record3_after p q r front))

-- ---- the parts, one behind the other

-- each as its writer says it, for the value that was bound
module _ (t i : List ℕ) {v : TableSchema} {w : Insert} {b : BoundInsert} (ht : Holds table t v) (hw : Holds insertion i w) (parts : InsertParts v w b) where
  wrote_table : {o o' : List ℕ} {a k : ℕ} → ((v : TableSchema) → Holds table t v → Wrote o a (bound_table_ref.write (bound_table v)) k o') → Wrote o a (bound_table_ref.write b.table) k o'
  wrote_table q = spelt (ap bound_table_ref.write (sym parts.table)) (q v ht)

  wrote_targets : {s o o' : List ℕ} {a k : ℕ} → ((w : Insert) → Holds insertion i w → Holds (list_of 2 name) s w.columns)
      → ((v : TableSchema) → Holds table t v → Puts (list_of 2 name) s (each (target v)) (list_of 4 bound_column_ref) o a k o')
      → Wrote o a ((list_of 4 bound_column_ref).write b.target_columns) k o'
  wrote_targets h q = (q v ht).at w.columns b.target_columns (h w hw) parts.columns

  wrote_rows : {s o o' : List ℕ} {a k : ℕ} → Rows i s → Puts (list_of 2 (list_of 2 expression)) s (each literals) (list_of 4 (list_of 4 value)) o a k o'
      → Wrote o a ((list_of 4 (list_of 4 value)).write b.rows) k o'
  wrote_rows h q = q.at parts.valued.rows b.rows (h.at w parts.source parts.valued.explicit parts.valued.rows hw parts.there parts.valued.is) parts.valued.gives

-- ---- room

-- what the INSERT in i is bound to behind the table in t has room in o
pub record InsertRoom (t i o : List ℕ) : Type 0 where
  pub schema : TableSchema
  pub holds : Holds table t schema
  pub statement : Insert
  pub reads : Holds insertion i statement
  pub bound : BoundInsert
  pub parts : InsertParts schema statement bound
  pub room : length (bound_statement.write (bound_insert bound)) ≤ length o

-- that is written
pub record Writes (t i o : List ℕ) (r : ℕ) (o' : List ℕ) : Type 0 where
  pub at : (v : TableSchema) (w : Insert) (b : BoundInsert) → Holds table t v → Holds insertion i w → InsertParts v w b → Wrote o 0 (bound_statement.write (bound_insert b)) r o'

module _ {t i o : List ℕ} (w : InsertRoom t i o) where
  pub room_rows : HasRows i
  room_rows = record {
    statement = w.statement;
    reads = w.reads;
    source = w.parts.source;
    there = w.parts.there;
    explicit = w.parts.valued.explicit;
    rows = w.parts.valued.rows;
    is = w.parts.valued.is;
  }

  pub room_code : 1 ≤ length o
  room_code = omega (arith, w.room, insert_length w.bound)

  module _ {j : ℕ} {o₁ : List ℕ} (p : Wrote o 0 (1 ∷ []) j o₁) where
    pub room_table : RefRoom t o₁ 17
    room_table =
        let n : length (bound_table_ref.write w.bound.table) ≡ length (bound_table_ref.write (bound_table w.schema)) = ap (λ (x : BoundTableRef). length (bound_table_ref.write x)) w.parts.table in
        record { value = w.schema; holds = w.holds; room = omega (arith, w.room, insert_length w.bound, n, wrote_long p) }

    module _ {k : ℕ} {o₂ : List ℕ} (q : (v : TableSchema) → Holds table t v → Wrote o₁ 17 (bound_table_ref.write (bound_table v)) k o₂) where
      the_table : Wrote o₁ 17 (bound_table_ref.write w.bound.table) k o₂
      the_table = wrote_table t i w.holds w.reads w.parts q

      pub behind_table : 17 ≤ k
      behind_table = omega (arith, the_table.end)

      module _ {s : List ℕ} (h : (v : Insert) → Holds insertion i v → Holds (list_of 2 name) s v.columns) where
        pub room_targets : TargetsGive t s k o₂
        room_targets = record {
          schema = w.schema;
          holds = w.holds;
          made =
              gives_held {f = list_of 2 name} {p = s} {F = each (target w.schema)} {g = list_of 4 bound_column_ref} (h w.statement w.reads) w.parts.columns
              (omega (arith, w.room, insert_length w.bound, the_table.end, wrote_long the_table, wrote_long p));
        }

        module _ {l : ℕ} {o₃ : List ℕ} (r : (v : TableSchema) → Holds table t v → Puts (list_of 2 name) s (each (target v)) (list_of 4 bound_column_ref) o₂ k l o₃) where
          the_targets : Wrote o₂ k ((list_of 4 bound_column_ref).write w.bound.target_columns) l o₃
          the_targets = wrote_targets t i w.holds w.reads w.parts h r

          pub behind_targets : k ≤ l
          behind_targets = omega (arith, the_targets.end)

          module _ {u : List ℕ} (g : Rows i u) where
            pub room_values : Gives (list_of 2 (list_of 2 expression)) u (each literals) (list_of 4 (list_of 4 value)) l o₃
            room_values =
                let z = w.parts in
                gives_held {f = list_of 2 (list_of 2 expression)} {p = u} {F = each literals} {g = list_of 4 (list_of 4 value)}
                (g.at w.statement z.source z.valued.explicit z.valued.rows w.reads z.there z.valued.is) z.valued.gives
                (omega (arith, w.room, insert_length w.bound, the_table.end, the_targets.end, wrote_long the_targets, wrote_long the_table, wrote_long p))

            module _ {e : ℕ} {o₄ : List ℕ} (x : Puts (list_of 2 (list_of 2 expression)) u (each literals) (list_of 4 (list_of 4 value)) o₃ l e o₄) where
              the_rows : Wrote o₃ l ((list_of 4 (list_of 4 value)).write w.bound.rows) e o₄
              the_rows = wrote_rows t i w.holds w.reads w.parts g x

              pub behind_rows : l ≤ e
              behind_rows = omega (arith, the_rows.end)

              pub room_head : 17 ≤ length o₄
              room_head = omega (arith, w.room, insert_length w.bound, wrote_long the_rows, wrote_long the_targets, wrote_long the_table, wrote_long p)

              pub written : {n : ℕ} {o₅ : List ℕ} → Wrote o₄ 1 (head3 (k - 17) (l - k) (e - l)) n o₅ → Writes t i o e o₅
              written d = record {
                at = λ v y b ht hy z. wrote_insert b p (wrote_table t i ht hy z q) (wrote_targets t i ht hy z h r) (wrote_rows t i ht hy z g x) d;
              }

-- ---- by the catalogue

module _ {i p : List ℕ} where
  -- p has the table that the statement names
  pub insert_room : {c o : List ℕ} (w : Bindable insertion bound_statement analyze_insert c i o) → TableGiven (named_table w.tables w.statement.name) p
      → InsertRoom p i o
  insert_room w g =
      let z = analyzed w.tables w.statement w.gives in
      let y = into_parts z.table w.statement z.into in
      let q : g.value ≡ z.table = given_once (sym g.gives ∙ z.named) in
      let n : length (bound_statement.write w.value) ≡ length (bound_statement.write (bound_insert y.value)) = ap (λ (x : BoundStatement). length (bound_statement.write x)) y.is in
      record {
        schema = z.table;
        holds = g.holds ∙ ap some q;
        statement = w.statement;
        reads = w.reads;
        bound = y.value;
        parts = y.parts;
        room = omega (arith, w.room, n);
      }

  pub insert_wrote : {o o' : List ℕ} {r : ℕ} (cat : Catalogue) (v : Insert) {b : BoundStatement} → Writes p i o r o'
      → TableGiven (named_table cat v.name) p → Holds insertion i v → analyze_insert cat v ≡ given b → Wrote o 0 (bound_statement.write b) r o'
  insert_wrote cat v w g h k =
      let z = analyzed cat v k in
      let y = into_parts z.table v z.into in
      let q : g.value ≡ z.table = given_once (sym g.gives ∙ z.named) in
      spelt (ap bound_statement.write (sym y.is)) (w.at z.table v y.value (g.holds ∙ ap some q) h y.parts)

-- a table is found
pub insert_never : {c i o : List ℕ} {k : Refusal} (w : Bindable insertion bound_statement analyze_insert c i o) → named_table w.tables w.statement.name ≡ refused k → ⊥
insert_never w h = never_given (sym h ∙ (analyzed w.tables w.statement w.gives).named)
