-- What writing a DELETE asks for, and what its parts make of it.
-- Assumes nothing.
use Rattle.std.specs.Prelude.{◌≡◌, refl, List, [], ◌∷◌, ◌++◌, ℕ, ◌+◌, ◌-◌, ◌≤◌, length}
use Rattle.std.proofs.Common.{sym, ap, ◌∙◌, subst, arith}
use Rattle.std.proofs.Math.Option.{some}
use Rattle.bytes_wire.specs.Le.{Bytes}
use Rattle.bytes_wire.specs.Sets.{Wrote}
use Rattle.bytes_bundle.specs.Held.{Holds}
use Rattle.image_bound.specs.Beside.{wrote_long, in_front, wrote_record2_after}
use Rattle.image_bound.specs.Bundles.{head2, head2_length}
use Rattle.image_bound.specs.Columns.{bound_table_ref}
use Rattle.image_bound.specs.Expression.{bound_expression}
use Rattle.image_bound.specs.Layout.{bound_statement}
use Rattle.image_bound.specs.Statements.{delete_bytes, delete_coded}
use Rattle.image_bound.specs.Written.{spelt, ended}
use Rattle.image_catalogue.specs.Layout.{table}
use Rattle.image_expression.specs.Expression.{expression}
use Rattle.bind_where.specs.Filters.{filter_given}
use Rattle.bind_where.specs.Short.{ShortExpression, short_names}
use Rattle.bind_where.specs.There.{there_short}
use Rattle.bind_table_ref.specs.Room.{RefRoom}
use Rattle.bind_table.specs.Steps.{TableGiven}
use Rattle.rules.specs.declared.Class.TheVariants.{UnsupportedSql}
use Rattle.rules.specs.declared.Refusal.{Refusal}
use Rattle.rules.specs.Answers.{given, refused}
use Rattle.rules.specs.Analyze.{analyze_delete}
use Rattle.rules.specs.Bound.{BoundExpr, BoundDelete, BoundStatement}
use Rattle.rules.specs.Fits.{bind_boolean_filter}
use Rattle.rules.specs.Lookup.{bound_table}
use Rattle.rules.specs.Statements.{Delete, Expr}
use Rattle.rules.specs.Tables.{TableSchema, Catalogue}
use Rattle.rules.proofs.Theorems.Answered.{never_given}
use Rattle.rules.proofs.Theorems.Steps.{step, step_found}
use Rattle.image_parts.specs.Layout.{condition, deletion}
use Rattle.image_parts.specs.NamesHeld.{condition_holds}
use Rattle.write_expression.specs.Writes.{Ready}
use Rattle.bind_delete.specs.Deletes.{deleted_table, deleted_rows, deleted, delete_steps, deleted_length}
use Rattle.bind_delete.specs.Within.{DeleteWithin, delete_condition}

-- over its table
pub record DeleteReady (t e o : List ℕ) : Type 0 where
  pub schema : TableSchema
  pub holds : Holds table t schema
  pub tree : Expr
  pub reads : Holds expression e tree
  pub short : ShortExpression e
  pub filter : BoundExpr
  pub bound : bind_boolean_filter schema tree ≡ given filter
  pub room : length (bound_statement.write (deleted schema filter)) ≤ length o

-- ---- what a DELETE that is bound was bound to

pub record Deleting (cat : Catalogue) (v : Delete) (b : BoundStatement) : Type 0 where
  pub schema : TableSchema
  pub found : deleted_table cat v ≡ given schema
  pub tree : Expr
  pub there : v.condition ≡ some tree
  pub filter : BoundExpr
  pub bound : bind_boolean_filter schema tree ≡ given filter
  pub is : deleted schema filter ≡ b

pub delete_given : (cat : Catalogue) (v : Delete) (b : BoundStatement) → analyze_delete cat v ≡ given b → Deleting cat v b
unfolding deleted_rows
delete_given cat v b h =
    step (deleted_table cat v) _ (sym (delete_steps cat v) ∙ h) (λ t e k.
    step_found v.condition UnsupportedSql _ k (λ x q m.
    step (bind_boolean_filter t x) _ m (λ y f n.
    record { schema = t; found = e; tree = x; there = q; filter = y; bound = f; is = cc })))

-- ---- room for its parts

module _ {t e o : List ℕ} (w : DeleteReady t e o) where
  long : 13 + length (bound_table_ref.write (bound_table w.schema)) + length (bound_expression.write w.filter) ≤ length o
  long = omega (arith, w.room, deleted_length w.schema w.filter refl refl)

  pub room_for_table : RefRoom t o 13
  room_for_table = record { value = w.schema; holds = w.holds; room = omega (arith, long) }

  module _ {k : ℕ} {o₁ : List ℕ} (a : Wrote o 13 (bound_table_ref.write (bound_table w.schema)) k o₁) where
    pub room_for_filter : Bytes e → Ready t e o₁ k
    room_for_filter b = record {
      names = short_names b w.short;
      whole = w.filter;
      bind = record {
        schema = w.schema;
        holds = w.holds;
        tree = w.tree;
        reads = w.reads;
        bound = filter_given w.schema w.tree w.bound;
      };
      room = omega (arith, long, a.end, wrote_long a);
    }

    pub room_for_head : {l : ℕ} {o₂ : List ℕ} → Wrote o₁ k (bound_expression.write w.filter) l o₂ → (13 ≤ k) × (k ≤ l) × (13 ≤ length o₂)
    room_for_head p = (omega (arith, a.end), omega (arith, p.end), omega (arith, long, wrote_long a, wrote_long p))

-- ---- the whole by its parts

pub delete_wrote : (t : TableSchema) (x : BoundExpr) {o o₁ o₂ o₃ o₄ : List ℕ} {k l p q : ℕ}
    → Wrote o 13 (bound_table_ref.write (bound_table t)) k o₁ → Wrote o₁ k (bound_expression.write x) l o₂
    → Wrote o₂ 1 (head2 (k - 13) (l - k)) p o₃ → Wrote o₃ 0 (4 ∷ []) q o₄ → Wrote o 0 (bound_statement.write (deleted t x)) l o₄
delete_wrote t x {o₂ = o₂} {o₃ = o₃} {o₄ = o₄} {k = k} {l = l} {p = p} {q = q} a b h c =
    let h' = subst (λ (n : ℕ). Wrote o₂ 1 (head2 (k - 13) (l - k)) n o₃) (ended h (head2_length (k - 13) (l - k))) h in
    let c' = subst (λ (n : ℕ). Wrote o₃ 0 (4 ∷ []) n o₄) (ended c refl) c in
    let d : BoundDelete = record { table = bound_table t; filter = x } in
    spelt (sym (delete_coded d ∙ ap (λ (y : List ℕ). (4 ∷ []) ++ y) (delete_bytes d))) (in_front (wrote_record2_after a b h') c')

-- ---- from the whole statement

given_same : {A : Type 0} {a b : A} → given a ≡ given b → a ≡ b
given_same h = cc

-- the table that was found is the one that it is bound over
module _ (cat : Catalogue) (v : Delete) (b : BoundStatement) (h : analyze_delete cat v ≡ given b) where
  pub never_refused : {r : Refusal} → deleted_table cat v ≡ refused r → ⊥
  never_refused e = never_given (sym e ∙ (delete_given cat v b h).found)

  module _ {found : List ℕ} (g : TableGiven (deleted_table cat v) found) where
    pub bound_over : Holds table found (delete_given cat v b h).schema
    bound_over =
        let d = delete_given cat v b h in
        g.holds ∙ ap some (given_same (sym g.gives ∙ d.found))

    module _ (d p : List ℕ) (k : (v : Delete) → Holds deletion d v → Holds condition p v.condition) (hv : Holds deletion d v) where
      bound_condition : Holds condition p (some (delete_given cat v b h).tree)
      bound_condition = k v hv ∙ ap some (delete_given cat v b h).there

      pub bound_tree : Holds expression p (delete_given cat v b h).tree
      bound_tree = condition_holds p (delete_given cat v b h).tree bound_condition

      pub bound_ready : {o : List ℕ} → DeleteWithin d → length (bound_statement.write b) ≤ length o → DeleteReady found p o
      bound_ready {o} w room =
          let m = delete_given cat v b h in
          record {
            schema = m.schema;
            holds = bound_over;
            tree = m.tree;
            reads = bound_tree;
            short = there_short (record { value = m.tree; holds = bound_condition }) (delete_condition p w k);
            filter = m.filter;
            bound = m.bound;
            room = subst (λ (y : BoundStatement). length (bound_statement.write y) ≤ length o) (sym m.is) room;
          }

      -- what is written over the table and the condition is the whole
      pub bound_whole : {o o' : List ℕ} {r : ℕ}
          → ((t : TableSchema) (x : Expr) (y : BoundExpr) → Holds table found t → Holds expression p x → bind_boolean_filter t x ≡ given y
          → Wrote o 0 (bound_statement.write (deleted t y)) r o')
          → Wrote o 0 (bound_statement.write b) r o'
      bound_whole f =
          let m = delete_given cat v b h in
          spelt (ap bound_statement.write m.is) (f m.schema m.tree m.filter bound_over bound_tree m.bound)
