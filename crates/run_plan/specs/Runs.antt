-- What an UPDATE of a row may rely on, and where an assignment lands.
-- Assumes nothing.
use Rattle.std.proofs.Math.Path.{◌≡◌, refl, ap}
use Rattle.std.proofs.Common.{sym, ◌∙◌, arith}
use Rattle.std.specs.Prelude.{true, List, [], ◌∷◌, ℕ, suc, ◌≤◌, ◌<◌, Option as Maybe, Some, None}
use Rattle.std.proofs.lemmas.Bool.{false≢true}
use Rattle.std.proofs.Math.Option.{Option, none, some, none-ne-some}
use Rattle.std.proofs.Math.ListN.{length}
use Rattle.bytes_format.specs.Ways.{next}
use Rattle.bytes_bundle.specs.Decides.{and_of}
use Rattle.bytes_bundle.specs.Held.{Is, Holds, held, held_once}
use Rattle.catalogue_lookup.specs.declared.Column.{Column}
use Rattle.image_catalogue.specs.Layout.{table}
use Rattle.run_expression.specs.Works.{ObeysTable, obeys_row}
use Rattle.image_row.specs.Layout.{row}
use Rattle.image_row.specs.Obeyed.{obeyed_row}
use Rattle.rules.specs.declared.Class.TheVariants.{SchemaMismatch}
use Rattle.rules.specs.declared.Ordinal.{Ordinal}
use Rattle.rules.specs.declared.Refusal.{Refusal}
use Rattle.rules.specs.Answers.{Answer, given, refused, found, ◌>>=◌}
use Rattle.rules.specs.Analyze.{target_name}
use Rattle.rules.specs.Bound.{Value, BoundColumnRef}
use Rattle.rules.specs.Evaluate as rules
use Rattle.rules.specs.Evaluate.{evaluate, resolved}
use Rattle.rules.specs.Lists.{Text}
use Rattle.rules.specs.Lookup.{bound_column, column_by_name}
use Rattle.rules.specs.Rows.{Row, value_obeys, columns_obeyed, row_obeys}
use Rattle.rules.specs.Statements.{Target, Assignment}
use Rattle.rules.specs.Tables.{ColumnSchema, TableSchema}
use Rattle.rules.proofs.Theorems.Values as theorems
use Rattle.rules.proofs.Theorems.Values.{column_of_lem}
use Rattle.image_parts.specs.Layout.{assignment}
use Rattle.bind_update.specs.Targets.{target_column, ColumnGiven}
use Rattle.run_values.specs.declared.Worth.{Worth}
use Rattle.run_values.specs.Worths.{told, heard}
use Rattle.run_values.specs.Worths as worths
use Rattle.run_plan.specs.Plans.{position, landing}

-- t is a table of at most 64 columns, and r a row that obeys it
pub record Runs (t r : List ℕ) : Type 0 where
  pub schema : Is table t
  pub few : (v : TableSchema) → Holds table t v → length v.columns ≤ 64
  pub obeys : ObeysTable t r

-- p is where the assignment a lands
abbrev pub placed : Option ℕ → Maybe ℕ
placed none = None
placed (some o) = Some o

abbrev pub Lands : List ℕ → List ℕ → List ℕ → Maybe ℕ → Type 0
Lands t a r p = (v : TableSchema) (x : Row) (y : Assignment) → Holds table t v → Holds row r x → Holds assignment a y → p ≡ placed (landing v x y)

-- ---- as many values as columns

as_many : (cs : List ColumnSchema) (x : Row) → columns_obeyed cs x ≡ true → length x ≡ length cs
unfolding columns_obeyed
as_many [] [] e = refl
as_many [] (v ∷ x) e = absurd (false≢true e)
as_many (c ∷ cs) [] e = absurd (false≢true e)
as_many (c ∷ cs) (v ∷ x) e = ap suc (as_many cs x (and_of (value_obeys c v) (columns_obeyed cs x) e).1)

stands_within : {c : ColumnSchema} {n : ℕ} {cs : List ColumnSchema} → theorems.StandsAt c n cs → n < length cs
stands_within theorems.StandsAt.here = omega arith
stands_within (theorems.StandsAt.behind s) = let l = stands_within s in omega arith

bound_at : (t : TableSchema) (n : ℕ) (c : ColumnSchema) → (bound_column t n c).ordinal.0 ≡ n
unfolding bound_column
bound_at t n c = refl

-- a column's position is one of the table's
column_within_lem : (t : TableSchema) (n : Text) {c : BoundColumnRef} → column_by_name t n ≡ some c → c.ordinal.0 < length t.columns
column_within_lem t n {c} e =
    let d = column_of_lem n e in
    omega (arith, stands_within d.stands, ap (λ (b : BoundColumnRef). b.ordinal.0) d.bound, bound_at t d.position d.column)

target_within : (t : TableSchema) (g : Target) (o : ℕ) → position (rules.target_column t g) ≡ some o → o < length t.columns
unfolding rules.target_column
target_within t g o h = go (target_name g) h
  where
    column : (n : Text) (c : Option BoundColumnRef) → column_by_name t n ≡ c → position c ≡ some o → o < length t.columns
    column n none e k = absurd (none-ne-some o k)
    column n (some c) e k = let z : c.ordinal.0 ≡ o = cc in omega (arith, column_within_lem t n e)

    go : (a : Answer Text) → position (resolved t a) ≡ some o → o < length t.columns
    go (given n) k = column n (column_by_name t n) refl k
    go (refused r) k = absurd (none-ne-some o k)

module _ {t r : List ℕ} (u : Runs t r) where
  pub runs_row : Is row r
  runs_row = obeys_row u.schema u.obeys

  module _ {v : TableSchema} {x : Row} (hv : Holds table t v) (hx : Holds row r x) where
    pub runs_count : length x ≡ length v.columns
    unfolding row_obeys
    runs_count = obeyed_row v (row.read r) (u.obeys.obeys v hv) (λ y k o. ap length (held_once row hx k) ∙ as_many v.columns y o)

    pub runs_few : length x ≤ 64
    runs_few = omega (arith, runs_count, u.few v hv)

    pub runs_within : (g : Target) (o : ℕ) → position (rules.target_column v g) ≡ some o → o < length x
    runs_within g o h = omega (arith, runs_count, target_within v g o h)

-- ---- where an assignment lands

-- the rules' column of a target, by the answer that the analysis has
abbrev given_of : {A : Type 0} → Answer A → Option A
given_of (given a) = some a
given_of (refused r) = none

target_told : (t : TableSchema) (g : Target) → rules.target_column t g ≡ given_of (target_column t g)
unfolding rules.target_column
target_told t g = go (target_name g)
  where
    column : (c : Option BoundColumnRef) → c ≡ given_of (found c SchemaMismatch)
    column none = refl
    column (some c) = refl

    go : (a : Answer Text) → resolved t a ≡ given_of (a >>= (λ name. found (column_by_name t name) SchemaMismatch))
    go (given n) = column (column_by_name t n)
    go (refused r) = refl

module _ (v : TableSchema) (x : Row) (y : Assignment) where
  pub land_fault : {w : Maybe Worth} → w ≡ None → heard worths.value_of w ≡ told (evaluate v x y.value) → landing v x y ≡ none
  unfolding landing
  land_fault f s = ap (λ (o : Option Value). next o (λ u. position (rules.target_column v y.target))) (sym s ∙ ap (heard worths.value_of) f)

  pub land_off : {k : Refusal} → target_column v y.target ≡ refused k → landing v x y ≡ none
  unfolding landing
  land_off h = rw (target_told v y.target, h) (go (told (evaluate v x y.value)))
    where
      go : (o : Option Value) → ◌≡◌ {A = Option ℕ} (next o (λ u. none)) none
      go none = refl
      go (some u) = refl

  pub land_on : {w : Maybe Worth} {u : Worth} {c : Column} → w ≡ Some u → heard worths.value_of w ≡ told (evaluate v x y.value)
      → ColumnGiven (target_column v y.target) c → landing v x y ≡ some c.ordinal.0
  unfolding landing
  land_on f s g =
      rw (sym s ∙ ap (heard worths.value_of) f, target_told v y.target, g.gives) (ap (λ (o : Ordinal). some o.0) (sym g.column.is.ordinal))

landed : (v : TableSchema) (x : Row) (y : Assignment) {o : ℕ} → landing v x y ≡ some o → position (rules.target_column v y.target) ≡ some o
unfolding landing
landed v x y {o} h = value (told (evaluate v x y.value)) h
  where
    value : (w : Option Value) → next w (λ u. position (rules.target_column v y.target)) ≡ some o → position (rules.target_column v y.target) ≡ some o
    value none k = absurd (none-ne-some o k)
    value (some w) k = k

-- a place that is one is below 64
pub lands_below : {t a r : List ℕ} {p : Maybe ℕ} {o : ℕ} → Runs t r → Is assignment a → Lands t a r p → p ≡ Some o → o < 64
lands_below {t} {a} {r} {p} {o} u i l q =
    held u.schema (λ v hv. held (runs_row u) (λ x hx. held i (λ y hy.
    go v x y hv hx (landing v x y) refl (sym q ∙ l v x y hv hx hy))))
  where
    go : (v : TableSchema) (x : Row) (y : Assignment) → Holds table t v → Holds row r x → (m : Option ℕ) → landing v x y ≡ m → Some o ≡ placed m → o < 64
    go v x y hv hx none h k = absurd (let z : ◌≡◌ {A = ℕ} 0 1 = cc in omega arith)
    go v x y hv hx (some n) h k =
        let z : n ≡ o = cc in
        omega (arith, runs_within u hv hx y.target o (landed v x y (h ∙ ap some z)), runs_few u hv hx)
