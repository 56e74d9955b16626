-- The steps of a SELECT as the code makes them: its body, its table, then its items and its condition over the table.
-- Assumes nothing.
use Rattle.std.specs.Prelude.{◌≡◌, Bool, true, false, ℕ, ◌+◌, length}
use Rattle.std.proofs.Math.Path.{refl, sym, ap}
use Rattle.std.proofs.Common.{◌∙◌, arith}
use mathlib.Core.List.{List, [], ◌∷◌, ◌++◌}
use Rattle.std.proofs.Math.Option.{Option, none, some}
use Rattle.bytes_format.specs.Format.{Format}
use Rattle.bytes_format.proofs.Formats.{optional, list_of}
use Rattle.image_bound.specs.Columns.{bound_table_ref, bound_column_ref}
use Rattle.image_bound.specs.Expression.{bound_expression, bound_expression_not_empty}
use Rattle.image_bound.specs.Layout.{bound_statement}
use Rattle.image_bound.specs.Sizes.{select_length}
use Rattle.image_select.specs.Held.{item_no, from_no, body_no}
use Rattle.std.specs.Prelude.{Result, Ok, Err}
use Rattle.bind_table.specs.Steps.{classed, step_on, step_off, steps_joined, test_on, test_off, found_on, found_off}
use Rattle.bind_table.specs.Told.{told, sized}
use Rattle.rules.specs.declared.Class.TheVariants.{SchemaMismatch, UnsupportedSql}
use Rattle.rules.specs.declared.Refusal.{Refusal}
use Rattle.rules.specs.Answers.{Answer, given, refused, refuse_if, ◌>>=◌, ◌>>◌}
use Rattle.rules.specs.Analyze.{resolve_direct_table, one_table, item, projection, filter_if_there, plain_body, analyze_select}
use Rattle.rules.specs.Bound.{BoundColumnRef, BoundExpr, BoundStatement, bound_select}
use Rattle.rules.specs.Fits.{bind_boolean_filter}
use Rattle.rules.specs.Lookup.{bound_table, bound_columns, column_by_name}
use Rattle.rules.specs.Names.{canonical}
use Rattle.rules.specs.Statements.{Name, TableWithJoins, Item, star, column, other_item, From, one, not_one, Select, QueryBody, plain_select, not_plain, Query, Expr}
use Rattle.rules.specs.Tables.{TableSchema, Catalogue}
use Rattle.rules.proofs.Theorems.Answered.{mapped}
use Rattle.bind_select.specs.Entries.{entries, no_entries, entries_append, list_entries}

-- ---- the table

unfoldable pub selected_table : Catalogue → Select → Answer TableSchema
selected_table cat s = do
  refuse_if s.features UnsupportedSql
  w ← one_table s.from
  resolve_direct_table cat w

module _ (cat : Catalogue) (s : Select) where
  pub with_features : s.features ≡ true → selected_table cat s ≡ refused (classed UnsupportedSql)
  unfolding selected_table
  with_features e = test_off _ _ e

  module _ (a : s.features ≡ false) where
    pub from_several : from_no s.from ≡ 0 → selected_table cat s ≡ refused (classed UnsupportedSql)
    unfolding selected_table
    from_several e = test_on _ _ a ∙ step_off _ (go s.from e)
      where
        go : (f : From) → from_no f ≡ 0 → one_table f ≡ refused (classed UnsupportedSql)
        go (one t) e = absurd (omega arith)
        go not_one e = refl

    pub from_one : {w : TableWithJoins} → s.from ≡ one w → selected_table cat s ≡ resolve_direct_table cat w
    unfolding selected_table
    from_one e = test_on _ _ a ∙ step_on _ (ap one_table e)

-- ---- what is selected over the table

abbrev pub Filter : Format (Option BoundExpr)
Filter = optional bound_expression bound_expression_not_empty

abbrev pub selected : TableSchema → List BoundColumnRef → Option BoundExpr → BoundStatement
selected t cs x = bound_select (record { table = bound_table t; projection = cs; filter = x })

unfoldable pub selected_rows : TableSchema → Select → Answer BoundStatement
selected_rows t s = do
  cs ← projection t s.items
  x ← filter_if_there t s.condition
  given (selected t cs x)

module _ (t : TableSchema) (s : Select) where
  pub unprojected : {r : Refusal} → projection t s.items ≡ refused r → selected_rows t s ≡ refused r
  unfolding selected_rows
  unprojected e = step_off _ e

  module _ {cs : List BoundColumnRef} (e : projection t s.items ≡ given cs) where
    pub unfiltered : {r : Refusal} → filter_if_there t s.condition ≡ refused r → selected_rows t s ≡ refused r
    unfolding selected_rows
    unfiltered h = step_on _ e ∙ step_off _ h

    pub filtered : {x : Option BoundExpr} → filter_if_there t s.condition ≡ given x → selected_rows t s ≡ given (selected t cs x)
    unfolding selected_rows
    filtered h = step_on _ e ∙ step_on _ h

-- how long it is, by its parts
pub selected_length : (t : TableSchema) (cs : List BoundColumnRef) (x : Option BoundExpr) {a n m : ℕ} → a ≡ length (bound_table_ref.write (bound_table t))
    → n ≡ length ((list_of 4 bound_column_ref).write cs) → m ≡ length (Filter.write x) → 17 + a + n + m ≡ length (bound_statement.write (selected t cs x))
selected_length t cs x p q r = omega (arith, p, q, r, select_length (record { table = bound_table t; projection = cs; filter = x }))

-- ---- from the beginning

test_joined : {B : Type 0} (b : Bool) (a : Answer TableSchema) (f : TableSchema → Answer B) {c : Answer B} → c ≡ (a >>= f)
    → (refuse_if b UnsupportedSql >> c) ≡ ((refuse_if b UnsupportedSql >> a) >>= f)
test_joined true a f e = refl
test_joined false a f e = e

module _ (cat : Catalogue) (q : Query) where
  pub with_clauses : q.clauses ≡ true → analyze_select cat q ≡ refused (classed UnsupportedSql)
  unfolding analyze_select
  with_clauses e = test_off _ _ e

  module _ (a : q.clauses ≡ false) where
    pub not_plain_lem : body_no q.body ≡ 0 → analyze_select cat q ≡ refused (classed UnsupportedSql)
    unfolding analyze_select
    not_plain_lem e = test_on _ _ a ∙ step_off _ (go q.body e)
      where
        go : (b : QueryBody) → body_no b ≡ 0 → plain_body b ≡ refused (classed UnsupportedSql)
        go (plain_select s) e = absurd (omega arith)
        go not_plain e = refl

    pub plainly : {s : Select} → q.body ≡ plain_select s → analyze_select cat q ≡ (selected_table cat s >>= (λ t. selected_rows t s))
    unfolding analyze_select selected_table selected_rows
    plainly {s} e =
        test_on _ _ a ∙ step_on _ (ap plain_body e) ∙ test_joined s.features _ _ (steps_joined (one_table s.from) (resolve_direct_table cat) _)

-- ---- a filter that may be there

module _ (t : TableSchema) (o : Option Expr) where
  pub filter_absent : o ≡ none → filter_if_there t o ≡ given none
  filter_absent e = ap (filter_if_there t) e

  -- one that is there is as long as its expression
  pub filter_sized : {x : Expr} → o ≡ some x → sized bound_expression (bind_boolean_filter t x) ≡ sized Filter (filter_if_there t o)
  unfolding sized
  filter_sized {x} e = go (bind_boolean_filter t x) ∙ ap (λ (p : Option Expr). sized Filter (filter_if_there t p)) (sym e)
    where
      go : (a : Answer BoundExpr) → sized bound_expression a ≡ sized Filter (a >>= (λ y. given (some y)))
      go (given y) = refl
      go (refused r) = refl

-- ---- an item, by its code

-- how much an item adds to the list of the projection
abbrev pub added : Answer (List BoundColumnRef) → Result ℕ Refusal
added a = told (mapped entries a)

pub added_given : {a : Answer (List BoundColumnRef)} {cs : List BoundColumnRef} {n : ℕ} → a ≡ given cs → n ≡ entries cs → Ok n ≡ added a
added_given e h = ap Ok h ∙ ap added (sym e)

pub added_refused : {a : Answer (List BoundColumnRef)} {r : Refusal} → a ≡ refused r → Err r ≡ added a
added_refused e = ap added (sym e)

-- an answer gave columns that add n
pub record Added (a : Answer (List BoundColumnRef)) (n : ℕ) : Type 0 where
  pub value : List BoundColumnRef
  pub gives : a ≡ given value
  pub long : n ≡ entries value

module _ {a : Answer (List BoundColumnRef)} {m : Result ℕ Refusal} (e : m ≡ added a) where
  pub added_is : {n : ℕ} → m ≡ Ok n → Added a n
  added_is {n} h = go a (sym h ∙ e)
    where
      go : (a : Answer (List BoundColumnRef)) → Ok n ≡ added a → Added a n
      go (given cs) e = record { value = cs; gives = refl; long = cc }
      go (refused r) e = let z : ◌≡◌ {A = ℕ} 0 1 = cc in absurd (omega arith)

  pub added_off : {r : Refusal} → m ≡ Err r → a ≡ refused r
  added_off {r} h = go a (sym h ∙ e)
    where
      go : (a : Answer (List BoundColumnRef)) → Err r ≡ added a → a ≡ refused r
      go (given cs) e = let z : ◌≡◌ {A = ℕ} 0 1 = cc in absurd (omega arith)
      go (refused q) e = cc

module _ (t : TableSchema) where
  pub item_other : (x : Item) → item_no x ≡ 0 → item t x ≡ refused (classed UnsupportedSql)
  unfolding item
  item_other star e = absurd (omega arith)
  item_other (column n) e = absurd (omega arith)
  item_other other_item e = refl

  pub item_star : (x : Item) → item_no x ≡ 1 → item t x ≡ given (bound_columns t)
  unfolding item
  item_star star e = refl
  item_star (column n) e = absurd (omega arith)
  item_star other_item e = absurd (omega arith)

  module _ (n : Name) where
    pub item_unknown : column_by_name t (canonical n) ≡ none → item t (column n) ≡ refused (classed SchemaMismatch)
    unfolding item
    item_unknown e = found_off _ _ e

    pub item_named : {c : BoundColumnRef} → column_by_name t (canonical n) ≡ some c → item t (column n) ≡ given (c ∷ [])
    unfolding item
    item_named e = found_on _ _ e

-- ---- a loop over the items: what is added so far, and what is left

-- a list of columns behind `sum` bytes
abbrev pub behind : ℕ → Answer (List BoundColumnRef) → Result ℕ Refusal
behind sum a = told (mapped (λ cs. sum + entries cs) a)

module _ (t : TableSchema) where
  pub summed_none : (xs : List Item) → sized (list_of 4 bound_column_ref) (projection t xs) ≡ behind 4 (projection t xs)
  unfolding sized
  summed_none xs = go (projection t xs)
    where
      go : (a : Answer (List BoundColumnRef)) → told (mapped (λ cs. length ((list_of 4 bound_column_ref).write cs)) a) ≡ behind 4 a
      go (given cs) = ap Ok (list_entries cs)
      go (refused r) = refl

  module _ (sum : ℕ) (x : Item) (xs : List Item) where
    -- an item that is refused is the answer
    pub summed_off : {r : Refusal} → item t x ≡ refused r → behind sum (projection t (x ∷ xs)) ≡ Err r
    unfolding projection
    summed_off h = ap (behind sum) (step_off _ h)

    pub summed_on : {cs : List BoundColumnRef} {n : ℕ} → item t x ≡ given cs → n ≡ entries cs → behind sum (projection t (x ∷ xs)) ≡ behind (sum + n) (projection t xs)
    unfolding projection
    summed_on {cs} {n} h k = ap (behind sum) (step_on _ h) ∙ go (projection t xs)
      where
        go : (a : Answer (List BoundColumnRef)) → behind sum (a >>= (λ ds. given (cs ++ ds))) ≡ behind (sum + n) a
        go (given ds) = ap Ok (omega (arith, entries_append cs ds, k))
        go (refused r) = refl

  pub summed_end : (sum : ℕ) → behind sum (projection t []) ≡ Ok sum
  unfolding projection
  summed_end sum = ap Ok (omega (arith, no_entries))
