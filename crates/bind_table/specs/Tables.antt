-- The table that a statement names: the rules' steps taken together, as the code makes them, and what each test of the code says of them.
-- Assumes nothing.
use Rattle.std.specs.Prelude.{◌≡◌, Bool, true, false, cond, List, map, ℕ, ◌≤◌, length}
use Rattle.std.proofs.Math.Path.{refl, ap}
use Rattle.std.proofs.Common.{sym, ◌∙◌, subst, arith}
use Rattle.std.proofs.lemmas.Bool.{false≢true}
use Rattle.std.proofs.Math.Option.{Option, none, some}
use Rattle.std.proofs.lemmas.List.{length-map}
use Rattle.bytes_bundle.specs.Held.{Is, Holds, Shows, is_held, held, held_once}
use Rattle.image_parts.specs.Layout.{name, object_name, relation, table_with_joins}
use Rattle.image_parts.specs.NamesHeld.{object_name_no, relation_no, is_direct}
use Rattle.rules.specs.declared.Class.TheVariants.{SchemaMismatch, ConstraintViolation, UnsupportedSql}
use Rattle.rules.specs.Lists.{Text, is_some, all}
use Rattle.rules.specs.Limits.{relation_names}
use Rattle.image_expression.specs.Names.{Within}
use Rattle.rules.specs.Answers.{Answer, given, refused, refuse_if, found, ◌>>=◌, ◌>>◌}
use Rattle.rules.specs.Tables.{TableSchema, Catalogue, table_by_name}
use Rattle.rules.specs.Statements.{Name, ObjectName, plain, qualified, Relation, direct, indirect, TableWithJoins}
use Rattle.rules.specs.Names.{fold, canonical, simple_name}
use Rattle.rules.specs.Analyze.{relation_name, resolve_direct_table}
use Rattle.bind_table.specs.Steps.{classed, step_on, step_off, test_on, test_off, steps_joined}
use Rattle.bind_table.specs.Short.{ShortText, ShortName, ShortTable, short_plain, short_name_lem}

-- the table of a name
abbrev pub named_table : Catalogue → ObjectName → Answer TableSchema
named_table cat o = simple_name o >>= (λ s. found (table_by_name cat s) SchemaMismatch)

-- the name of a table that is to be made, and is not there yet
abbrev pub new_name : Catalogue → ObjectName → Answer Text
new_name cat o = simple_name o >>= (λ s. refuse_if (is_some (table_by_name cat s)) ConstraintViolation >> given s)

-- ---- as they stand in a statement's steps

module _ {B : Type 0} (cat : Catalogue) (o : ObjectName) where
  pub named_joined : (k : TableSchema → Answer B) → (simple_name o >>= (λ s. found (table_by_name cat s) SchemaMismatch >>= k)) ≡ (named_table cat o >>= k)
  named_joined k = steps_joined (simple_name o) (λ s. found (table_by_name cat s) SchemaMismatch) k

  pub new_joined : (k : Text → Answer B) → (simple_name o >>= (λ s. refuse_if (is_some (table_by_name cat s)) ConstraintViolation >> k s)) ≡ (new_name cat o >>= k)
  new_joined k = go (simple_name o)
    where
      test : (b : Bool) (s : Text) → (refuse_if b ConstraintViolation >> k s) ≡ ((refuse_if b ConstraintViolation >> given s) >>= k)
      test true s = refl
      test false s = refl

      go : (a : Answer Text)
          → (a >>= (λ s. refuse_if (is_some (table_by_name cat s)) ConstraintViolation >> k s))
          ≡ ((a >>= (λ s. refuse_if (is_some (table_by_name cat s)) ConstraintViolation >> given s)) >>= k)
      go (given s) = test (is_some (table_by_name cat s)) s
      go (refused r) = refl

-- ---- a name

-- a name is as long as it is compared
pub canonical_length : (n : Name) → length (canonical n) ≡ length n.text
unfolding canonical
canonical_length n = go n.quoted
  where
    go : (q : Bool) → length (cond q n.text (map fold n.text)) ≡ length n.text
    go true = refl
    go false = length-map n.text fold

-- code 0: several parts
pub several : (o : ObjectName) → object_name_no o ≡ 0 → o ≡ qualified
several (plain n) e = absurd (omega arith)
several qualified e = refl

-- the object name s has one part, and p holds it
pub record Only (s p : List ℕ) : Type 0 where
  pub value : Name
  pub whole : Holds object_name s (plain value)
  pub part : Holds name p value

pub only : {s p : List ℕ} {k : ℕ} → Is object_name s → ((o : ObjectName) → Holds object_name s o → k ≡ object_name_no o) → (k ≡ 0 → ⊥)
    → ((n : Name) → Holds object_name s (plain n) → Holds name p n) → Only s p
only {s} {p} {k} i code off part = held i go
  where
    go : (o : ObjectName) → Holds object_name s o → Only s p
    go (plain n) h = record { value = n; whole = h; part = part n h }
    go qualified h = absurd (off (code qualified h))

module _ {s p : List ℕ} (w : Only s p) where
  pub only_is : Is name p
  only_is = is_held {f = name} w.part

  pub only_short : ShortName s → ShortText p
  only_short h = record {
    short = λ v k. subst (λ (n : Name). length n.text ≤ 128) (held_once name w.part k) (short_plain w.value (h.short (plain w.value) w.whole));
  }

  pub only_value : (o : ObjectName) → Holds object_name s o → simple_name o ≡ given (canonical w.value)
  unfolding simple_name
  only_value o h = ap simple_name (held_once object_name h w.whole)

-- what follows a name's steps
module _ (cat : Catalogue) (o : ObjectName) where
  pub named_several : object_name_no o ≡ 0 → named_table cat o ≡ refused (classed UnsupportedSql)
  unfolding simple_name
  named_several e = step_off _ (ap simple_name (several o e))

  pub new_several : object_name_no o ≡ 0 → new_name cat o ≡ refused (classed UnsupportedSql)
  unfolding simple_name
  new_several e = step_off _ (ap simple_name (several o e))

  module _ {s : Text} (e : simple_name o ≡ given s) where
    pub named_is : {t : TableSchema} → table_by_name cat s ≡ some t → named_table cat o ≡ given t
    named_is h = step_on _ e ∙ ap (λ (x : Option TableSchema). found x SchemaMismatch) h

    pub named_none : table_by_name cat s ≡ none → named_table cat o ≡ refused (classed SchemaMismatch)
    named_none h = step_on _ e ∙ ap (λ (x : Option TableSchema). found x SchemaMismatch) h

    pub new_taken : {t : TableSchema} → table_by_name cat s ≡ some t → new_name cat o ≡ refused (classed ConstraintViolation)
    new_taken h = step_on _ e ∙ test_off _ _ (ap is_some h)

    pub new_free : table_by_name cat s ≡ none → new_name cat o ≡ given s
    new_free h = step_on _ e ∙ test_on _ _ (ap is_some h)

-- ---- a table

-- the relation s is a table of its own
pub record Direct (s : List ℕ) : Type 0 where
  pub marked : Bool
  pub name : ObjectName
  pub whole : Holds relation s (direct marked name)

pub direct_shown : {s : List ℕ} {k : ℕ} → Is relation s → ((v : Relation) → Holds relation s v → k ≡ relation_no v) → (k ≡ 0 → ⊥) → Shows relation is_direct s
direct_shown {s} i code off = record { there = i.there; case = go }
  where
    go : (v : Relation) → Holds relation s v → is_direct v ≡ true
    go (direct m n) h = refl
    go indirect h = absurd (off (code indirect h))

pub direct_in : {s : List ℕ} → Shows relation is_direct s → Direct s
direct_in {s} h = held {f = relation} {s = s} (record { there = h.there }) (λ v e. go v e (h.case v e))
  where
    go : (v : Relation) → Holds relation s v → is_direct v ≡ true → Direct s
    go (direct m n) e t = record { marked = m; name = n; whole = e }
    go indirect e t = absurd (false≢true t)

module _ {w p : List ℕ} {v : TableWithJoins} {m : Bool} {n : ObjectName} where
  pub table_short : ShortTable w → Holds table_with_joins w v → v.relation ≡ direct m n → Holds object_name p n → ShortName p
  table_short h k e q = short_name_lem q (ap (λ (r : Relation). all Within (relation_names r)) (sym e) ∙ h.short v k)

module _ (cat : Catalogue) (v : TableWithJoins) where
  pub resolve_joins : v.joins ≡ true → resolve_direct_table cat v ≡ refused (classed UnsupportedSql)
  unfolding resolve_direct_table
  resolve_joins e = test_off _ _ e

  module _ (e : v.joins ≡ false) where
    pub resolve_indirect : relation_no v.relation ≡ 0 → resolve_direct_table cat v ≡ refused (classed UnsupportedSql)
    unfolding resolve_direct_table relation_name
    resolve_indirect h = test_on _ _ e ∙ step_off _ (go v.relation h)
      where
        go : (r : Relation) → relation_no r ≡ 0 → relation_name r ≡ refused (classed UnsupportedSql)
        go (direct m n) h = absurd (omega arith)
        go indirect h = refl

    module _ {m : Bool} {n : ObjectName} (r : v.relation ≡ direct m n) where
      pub resolve_marked : m ≡ true → resolve_direct_table cat v ≡ refused (classed UnsupportedSql)
      unfolding resolve_direct_table relation_name
      resolve_marked h = test_on _ _ e ∙ step_off _ (ap relation_name r ∙ test_off _ _ h)

      pub resolve_named : m ≡ false → resolve_direct_table cat v ≡ named_table cat n
      unfolding resolve_direct_table relation_name
      resolve_named h =
          test_on _ _ e ∙ ap (λ (a : Answer Text). a >>= (λ s. found (table_by_name cat s) SchemaMismatch)) (ap relation_name r ∙ test_on _ _ h)
