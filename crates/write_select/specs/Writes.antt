-- What writing a SELECT asks for, and what its parts make of it.
-- Assumes nothing.
use Rattle.std.specs.Prelude.{◌≡◌, refl, false, List, [], ◌∷◌, ◌++◌, ℕ, ◌+◌, ◌-◌, ◌≤◌, length}
use Rattle.std.proofs.Common.{sym, ap, ◌∙◌, subst, arith}
use Rattle.std.proofs.Math.Option.{Option, none, some}
use Rattle.bytes_wire.specs.Le.{Bytes}
use Rattle.bytes_wire.specs.Sets.{Wrote}
use Rattle.bytes_format.proofs.Formats.{list_of}
use Rattle.bytes_bundle.specs.Held.{Holds}
use Rattle.image_bound.specs.Beside.{wrote_long, in_front, wrote_record3_after}
use Rattle.image_bound.specs.Bundles.{head3, head3_length}
use Rattle.image_bound.specs.Columns.{bound_table_ref, bound_column_ref}
use Rattle.image_bound.specs.Layout.{bound_statement}
use Rattle.image_bound.specs.Statements.{select_bytes, select_coded}
use Rattle.image_bound.specs.Written.{spelt, ended}
use Rattle.image_catalogue.specs.Layout.{table}
use Rattle.bind_where.specs.Filters.{filter_given}
use Rattle.bind_where.specs.Short.{short_names}
use Rattle.bind_where.specs.There.{ShortCondition, There, there_is, there_reads, there_short}
use Rattle.write_select_columns.specs.Items.{ProjectionRoom, given_same}
use Rattle.bind_table_ref.specs.Room.{RefRoom}
use Rattle.bind_table.specs.Steps.{TableGiven}
use Rattle.rules.specs.declared.Class.TheVariants.{UnsupportedSql}
use Rattle.rules.specs.declared.Refusal.{Refusal}
use Rattle.rules.specs.Answers.{given, refused}
use Rattle.rules.specs.Analyze.{projection, filter_if_there, plain_body, analyze_select}
use Rattle.rules.specs.Bound.{BoundColumnRef, BoundExpr, BoundSelect, BoundStatement}
use Rattle.rules.specs.Fits.{bind_boolean_filter}
use Rattle.rules.specs.Lookup.{bound_table}
use Rattle.rules.specs.Statements.{Select, QueryBody, plain_select, not_plain, Query, Expr}
use Rattle.rules.specs.Tables.{TableSchema, Catalogue}
use Rattle.rules.proofs.Theorems.Answered.{never_given}
use Rattle.rules.proofs.Theorems.Steps.{step, step_past}
use Rattle.bind_select.specs.Selects.{selected_table, selected_rows, Filter, selected, selected_length, plainly}
use Rattle.bind_select.specs.Within.{QueryWithin, SelectWithin, Plain, plain_within, select_items, select_condition}
use Rattle.image_parts.specs.Layout as layout
use Rattle.write_expression.specs.Writes.{Ready}

-- the condition in e, if it is there, is bound, and has room
pub record FilterRoom (t e : List ℕ) (at : ℕ) (o : List ℕ) : Type 0 where
  pub schema : TableSchema
  pub holds : Holds table t schema
  pub value : Option Expr
  pub reads : Holds layout.condition e value
  pub short : ShortCondition e
  pub filter : Option BoundExpr
  pub gives : filter_if_there schema value ≡ given filter
  pub room : at + length (Filter.write filter) ≤ length o

-- the SELECT in s is bound over the table in t, and has room
pub record SelectReady (t s o : List ℕ) : Type 0 where
  pub schema : TableSchema
  pub holds : Holds table t schema
  pub value : Select
  pub reads : Holds layout.select s value
  pub within : SelectWithin s
  pub columns : List BoundColumnRef
  pub projects : projection schema value.items ≡ given columns
  pub filter : Option BoundExpr
  pub filters : filter_if_there schema value.condition ≡ given filter
  pub room : length (bound_statement.write (selected schema columns filter)) ≤ length o

-- ---- a filter that may be there

pub unfiltered_wrote : (v : TableSchema) {o : Option Expr} {x : Option BoundExpr} {out : List ℕ} {at : ℕ} → o ≡ none → filter_if_there v o ≡ given x → Wrote out at (Filter.write x) at out
unfiltered_wrote v {x = x} {out = out} {at = at} e h =
    let z : none ≡ x = given_same (ap (filter_if_there v) (sym e) ∙ h) in
    let w : Wrote out at (Filter.write none) at out = record { end = omega arith; is = refl } in
    spelt (ap Filter.write z) w

-- one that is there is what its expression is bound to
pub record FilterGiven (v : TableSchema) (e : Expr) (x : Option BoundExpr) : Type 0 where
  pub value : BoundExpr
  pub bound : bind_boolean_filter v e ≡ given value
  pub is : some value ≡ x

pub filter_there : (v : TableSchema) (e : Expr) {o : Option Expr} {x : Option BoundExpr} → o ≡ some e → filter_if_there v o ≡ given x → FilterGiven v e x
filter_there v e q h = step (bind_boolean_filter v e) _ (ap (filter_if_there v) (sym q) ∙ h) (λ y b k. record { value = y; bound = b; is = given_same k })

pub filter_ready : {t e : List ℕ} {at : ℕ} {o : List ℕ} → FilterRoom t e at o → There e → Bytes e → Ready t e o at
filter_ready {at = at} {o = o} w c b =
    let g = filter_there w.schema c.value (there_is c w.value w.reads) w.gives in
    record {
      names = short_names b (there_short c w.short);
      whole = g.value;
      bind = record {
        schema = w.schema;
        holds = w.holds;
        tree = c.value;
        reads = there_reads c;
        bound = filter_given w.schema c.value g.bound;
      };
      room = subst (λ (x : Option BoundExpr). at + length (Filter.write x) ≤ length o) (sym g.is) w.room;
    }

-- ---- room for the parts

module _ {t s o : List ℕ} (w : SelectReady t s o) where
  long : 17 + length (bound_table_ref.write (bound_table w.schema)) + length ((list_of 4 bound_column_ref).write w.columns) + length (Filter.write w.filter) ≤ length o
  long = omega (arith, w.room, selected_length w.schema w.columns w.filter refl refl refl)

  pub room_for_table : RefRoom t o 17
  room_for_table = record { value = w.schema; holds = w.holds; room = omega (arith, long) }

  module _ {k : ℕ} {o₁ : List ℕ} (a : Wrote o 17 (bound_table_ref.write (bound_table w.schema)) k o₁) where
    pub room_for_columns : (p : List ℕ) → ((v : Select) → Holds layout.select s v → Holds (list_of 2 layout.item) p v.items) → ProjectionRoom t p k o₁
    room_for_columns p h = record {
      within = select_items w.within p h;
      made = record {
        schema = w.schema;
        holds = w.holds;
        value = w.value.items;
        reads = h w.value w.reads;
        columns = w.columns;
        gives = w.projects;
      };
      room = omega (arith, long, a.end, wrote_long a);
    }

    module _ {l : ℕ} {o₂ : List ℕ} (b : Wrote o₁ k ((list_of 4 bound_column_ref).write w.columns) l o₂) where
      pub room_for_filter : (p : List ℕ) → ((v : Select) → Holds layout.select s v → Holds layout.condition p v.condition) → FilterRoom t p l o₂
      room_for_filter p h = record {
        schema = w.schema;
        holds = w.holds;
        value = w.value.condition;
        reads = h w.value w.reads;
        short = select_condition w.within p h;
        filter = w.filter;
        gives = w.filters;
        room = omega (arith, long, a.end, wrote_long a, b.end, wrote_long b);
      }

      pub room_for_head : {m : ℕ} {o₃ : List ℕ} → Wrote o₂ l (Filter.write w.filter) m o₃ → (17 ≤ k) × (k ≤ l) × (l ≤ m) × (17 ≤ length o₃)
      room_for_head c =
          (omega (arith, a.end), omega (arith, b.end), omega (arith, c.end), omega (arith, long, wrote_long a, wrote_long b, wrote_long c))

-- ---- the whole by its parts

pub select_wrote : (t : TableSchema) (cs : List BoundColumnRef) (x : Option BoundExpr) {o o₁ o₂ o₃ o₄ o₅ : List ℕ} {k l m p q : ℕ}
    → Wrote o 17 (bound_table_ref.write (bound_table t)) k o₁ → Wrote o₁ k ((list_of 4 bound_column_ref).write cs) l o₂ → Wrote o₂ l (Filter.write x) m o₃
    → Wrote o₃ 1 (head3 (k - 17) (l - k) (m - l)) p o₄ → Wrote o₄ 0 (2 ∷ []) q o₅ → Wrote o 0 (bound_statement.write (selected t cs x)) m o₅
select_wrote t cs x {o₃ = o₃} {o₄ = o₄} {o₅ = o₅} {k = k} {l = l} {m = m} {p = p} {q = q} a b c h d =
    let h' = subst (λ (n : ℕ). Wrote o₃ 1 (head3 (k - 17) (l - k) (m - l)) n o₄) (ended h (head3_length (k - 17) (l - k) (m - l))) h in
    let d' = subst (λ (n : ℕ). Wrote o₄ 0 (2 ∷ []) n o₅) (ended d refl) d in
    let s : BoundSelect = record { table = bound_table t; projection = cs; filter = x } in
    spelt (sym (select_coded s ∙ ap (λ (y : List ℕ). (2 ∷ []) ++ y) (select_bytes s))) (in_front (wrote_record3_after a b c h') d')

-- ---- what a SELECT that is bound was bound to

pub record Selecting (cat : Catalogue) (q : Query) (b : BoundStatement) : Type 0 where
  pub value : Select
  pub plain : q.body ≡ plain_select value
  pub schema : TableSchema
  pub found : selected_table cat value ≡ given schema
  pub columns : List BoundColumnRef
  pub projects : projection schema value.items ≡ given columns
  pub filter : Option BoundExpr
  pub filters : filter_if_there schema value.condition ≡ given filter
  pub is : selected schema columns filter ≡ b

rows_given : (cat : Catalogue) (q : Query) (b : BoundStatement) (s : Select) → q.body ≡ plain_select s → q.clauses ≡ false → analyze_select cat q ≡ given b → Selecting cat q b
unfolding selected_rows
rows_given cat q b s e c h =
    step (selected_table cat s) _ (sym (plainly cat q c e) ∙ h) (λ t f k.
    step (projection t s.items) _ k (λ cs p m.
    step (filter_if_there t s.condition) _ m (λ x g n.
    record { value = s; plain = e; schema = t; found = f; columns = cs; projects = p; filter = x; filters = g; is = given_same n })))

plain_given : (d : QueryBody) {s : Select} → plain_body d ≡ given s → d ≡ plain_select s
plain_given (plain_select s) h = ap plain_select (given_same h)
plain_given not_plain h = absurd (never_given h)

pub select_given : (cat : Catalogue) (q : Query) (b : BoundStatement) → analyze_select cat q ≡ given b → Selecting cat q b
unfolding analyze_select
select_given cat q b h =
    step_past q.clauses UnsupportedSql _ h (λ c k.
    step (plain_body q.body) _ k (λ s e m.
    rows_given cat q b s (plain_given q.body e) c h))

-- ---- from the whole statement

-- the bytes of the SELECT that a query is
module _ (q p s : List ℕ) (body : (v : Query) → Holds layout.selection q v → Holds layout.query_body p v.body)
    (select : (x : Select) → Holds layout.query_body p (plain_select x) → Holds layout.select s x) (cat : Catalogue) (v : Query) (b : BoundStatement)
    (hv : Holds layout.selection q v) (h : analyze_select cat v ≡ given b) where
  body_holds : Holds layout.query_body p (plain_select (select_given cat v b h).value)
  body_holds = body v hv ∙ ap some (select_given cat v b h).plain

  pub select_holds : Holds layout.select s (select_given cat v b h).value
  select_holds = select (select_given cat v b h).value body_holds

  pub select_within : QueryWithin q → SelectWithin s
  select_within w =
      let d : Plain p = record { value = (select_given cat v b h).value; whole = body_holds } in
      plain_within w body d select_holds

  -- the table that was found is the one that it is bound over
  pub never_refused : {r : Refusal} → selected_table cat (select_given cat v b h).value ≡ refused r → ⊥
  never_refused e = never_given (sym e ∙ (select_given cat v b h).found)

  module _ {found : List ℕ} (g : TableGiven (selected_table cat (select_given cat v b h).value) found) where
    bound_over : Holds table found (select_given cat v b h).schema
    bound_over = g.holds ∙ ap some (given_same (sym g.gives ∙ (select_given cat v b h).found))

    pub bound_ready : {o : List ℕ} → QueryWithin q → length (bound_statement.write b) ≤ length o → SelectReady found s o
    bound_ready {o} w room =
        let m = select_given cat v b h in
        record {
          schema = m.schema;
          holds = bound_over;
          value = m.value;
          reads = select_holds;
          within = select_within w;
          columns = m.columns;
          projects = m.projects;
          filter = m.filter;
          filters = m.filters;
          room = subst (λ (y : BoundStatement). length (bound_statement.write y) ≤ length o) (sym m.is) room;
        }

    -- what is written over the table is the whole
    pub bound_whole : {o o' : List ℕ} {r : ℕ}
        → ((t : TableSchema) (x : Select) (cs : List BoundColumnRef) (f : Option BoundExpr) → Holds table found t → Holds layout.select s x
        → projection t x.items ≡ given cs → filter_if_there t x.condition ≡ given f → Wrote o 0 (bound_statement.write (selected t cs f)) r o')
        → Wrote o 0 (bound_statement.write b) r o'
    bound_whole f =
        let m = select_given cat v b h in
        spelt (ap bound_statement.write m.is) (f m.schema m.value m.columns m.filter bound_over select_holds m.projects m.filters)
