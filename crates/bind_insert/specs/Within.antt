-- What the limits say of an INSERT, as the code wants it.
-- Assumes nothing.
use Rattle.std.specs.Prelude.{◌≡◌, true, List, ◌++◌, map, ℕ, length}
use Rattle.std.proofs.Common.{ap, ◌∙◌, arith, leb-true}
use Rattle.bytes_format.proofs.Formats.{list_of}
use Rattle.bytes_bundle.specs.Decides.{and_of}
use Rattle.bytes_bundle.specs.Held.{Is, Holds, is_held, held, held_once, list_count}
use Rattle.image_expression.specs.Names.{Within}
use Rattle.image_parts.specs.Layout.{name, object_name, insertion}
use Rattle.rules.specs.Lists.{all}
use Rattle.rules.specs.Statements.{Expr, Insert}
use Rattle.rules.specs.Limits.{gather, expression_names, object_names, source_rows, held_by_insert, at_most, held_within}
use Rattle.bind_table.specs.Short.{ShortName, all_front, all_back, held_within_lem, insert_short, short_name_lem}
use Rattle.bind_insert_columns.specs.Columns.{Targets}

-- the INSERT that i holds is within the limits
pub record InsertWithin (i : List ℕ) : Type 0 where
  pub within : (v : Insert) → Holds insertion i v → held_within (held_by_insert v) ≡ true

columns_short : (v : Insert) → held_within (held_by_insert v) ≡ true → all Within v.columns ≡ true
unfolding held_by_insert
columns_short v e =
    let rest = gather (gather expression_names) (source_rows v.source) in
    all_front Within v.columns rest (all_back Within (object_names v.name) (v.columns ++ rest) (held_within_lem (held_by_insert v) e).names)

columns_few : (v : Insert) → held_within (held_by_insert v) ≡ true → at_most 64 (length v.columns) ≡ true
unfolding held_by_insert
columns_few v e =
    (and_of (at_most 64 (length v.columns)) (all (at_most 64) (map (λ (row : List Expr). length row) (source_rows v.source))) (held_within_lem (held_by_insert v) e).lists).0

module _ {i p : List ℕ} (k : Is insertion i) (w : InsertWithin i) where
  pub within_name : ((v : Insert) → Holds insertion i v → Holds object_name p v.name) → Is object_name p × ShortName p
  within_name f = held k (λ v h. (is_held {f = object_name} (f v h), short_name_lem (f v h) (insert_short v (w.within v h))))

  pub within_targets : ((v : Insert) → Holds insertion i v → Holds (list_of 2 name) p v.columns) → Targets p
  within_targets f = held k (λ v h.
      let e = w.within v h in
      record {
        names = record {
          is = is_held {f = list_of 2 name} (f v h);
          short = λ ns g. ap (all Within) (held_once (list_of 2 name) {s = p} g (f v h)) ∙ columns_short v e;
        };
        few = omega (arith, leb-true (length v.columns) 64 (columns_few v e), list_count name p (f v h));
      })
