-- A DELETE within the limits: the names of its table and of its condition are short.
-- Assumes nothing.
use Rattle.std.specs.Prelude.{◌≡◌, true, List, ℕ}
use Rattle.std.proofs.Common.{ap, ◌∙◌}
use Rattle.bytes_format.proofs.Formats.{list_of}
use Rattle.bytes_bundle.specs.Held.{Is, Holds, held, held_once}
use Rattle.image_catalogue.specs.Layout.{table, catalogue}
use Rattle.image_catalogue.specs.Values.{catalogue_tables}
use Rattle.image_delete.specs.Held.{delete_from_no}
use Rattle.image_expression.specs.Names.{Within}
use Rattle.bind_where.specs.There.{ShortCondition, condition_names, condition_within_lem}
use Rattle.bind_table.specs.Short.{ShortTable, short_table, all_back, held_within_lem, delete_short}
use Rattle.rules.specs.Limits.{gather, if_there, expression_names, delete_names, held_by_delete, held_within}
use Rattle.rules.specs.Lists.{all}
use Rattle.rules.specs.Tables.{Catalogue}
use Rattle.rules.specs.Statements.{TableWithJoins, one, not_one, DeleteFrom, from, no_keyword, Delete}
use Rattle.image_parts.specs.Layout.{table_with_joins, condition, delete_from, deletion}

pub record DeleteWithin (d : List ℕ) : Type 0 where
  pub is : Is deletion d
  pub within : (v : Delete) → Holds deletion d v → held_within (held_by_delete v) ≡ true

-- with both values in hand
pub held_both : {A : Type 0} {c d : List ℕ} → Is catalogue c × DeleteWithin d → ((cat : Catalogue) (v : Delete) → Holds (list_of 2 table) c cat → Holds deletion d v → A) → A
held_both {c = c} p k = held p.0 (λ cat hc. held p.1.is (λ v hv. k cat v (catalogue_tables c hc) hv))

-- ---- its condition

condition_short : (v : Delete) → held_within (held_by_delete v) ≡ true → condition_names v.condition ≡ true
unfolding held_by_delete
condition_short v w =
    all_back Within (delete_names v.from) (gather expression_names (if_there v.condition)) (held_within_lem (held_by_delete v) w).names

pub delete_condition : {d : List ℕ} (p : List ℕ) → DeleteWithin d → ((v : Delete) → Holds deletion d v → Holds condition p v.condition) → ShortCondition p
delete_condition p w k = held w.is (λ v h. condition_within_lem p (k v h) (condition_short v (w.within v h)))

-- ---- its table

-- f is one table
pub record Sole (f : List ℕ) : Type 0 where
  pub value : TableWithJoins
  pub whole : Holds delete_from f (from (one value))

-- by the code
pub sole : {f : List ℕ} {k : ℕ} → Is delete_from f → ((v : DeleteFrom) → Holds delete_from f v → k ≡ delete_from_no v) → (k ≡ 0 → ⊥) → (k ≡ 1 → ⊥) → Sole f
sole {f} {k} i code a b = held i go
  where
    go : (v : DeleteFrom) → Holds delete_from f v → Sole f
    go (from (one t)) h = record { value = t; whole = h }
    go (from not_one) h = absurd (b (code (from not_one) h))
    go no_keyword h = absurd (a (code no_keyword h))

pub delete_table : {d f p : List ℕ} → DeleteWithin d → ((v : Delete) → Holds deletion d v → Holds delete_from f v.from) → (s : Sole f)
    → Holds table_with_joins p s.value → ShortTable p
delete_table {d} {f} {p} w k s h = held w.is (λ v e.
    short_table h
    (ap (λ (x : DeleteFrom). all Within (delete_names x)) (held_once delete_from s.whole (k v e)) ∙ delete_short v (w.within v e)))
