-- The whole: what is known of the images, what is answered, and the rules' steps as the code makes them.
-- Assumes nothing.
use Rattle.std.specs.Prelude.{◌≡◌, refl, List, ℕ, ◌≤◌, length, Option as Maybe, Some, None, IsSome}
use Rattle.std.proofs.Common.{sym, ap, ◌∙◌, subst, arith}
use Rattle.std.proofs.Math.Bool.{true, false}
use Rattle.std.proofs.Math.Option.{none, some, none-ne-some, some-injective}
use Rattle.bytes_wire.specs.Le.{Bytes}
use Rattle.bytes_format.proofs.Formats.{list_of}
use Rattle.bytes_format.specs.Ways.{next}
use Rattle.bytes_bundle.specs.Held.{Holds, held}
use Rattle.image_catalogue.specs.Layout.{table}
use Rattle.run_position.specs.Drawing.{RowDrawn, RowDraws, RowDrawsInto}
use Rattle.run_expression.specs.Works.{Comes}
use Rattle.image_expression.specs.Expression as image
use Rattle.bind_where.specs.Short.{ShortExpression}
use Rattle.run_plan.specs.Plans.{Drawn, Plans}
use Rattle.run_plan.specs.Runs.{Runs, runs_row}
use Rattle.image_row.specs.Layout.{row}
use Rattle.rules.specs.Evaluate.{Worked, worked, fault, no_rule, evaluate, is_true, assigned, update_row}
use Rattle.rules.specs.Rows.{Row}
use Rattle.rules.specs.Statements.{Assignment, Expr}
use Rattle.rules.specs.Tables.{TableSchema}
use Rattle.image_parts.specs.Layout.{assignment}
use Rattle.bind_update.specs.Within.{ShortAssignments}
use Rattle.run_values.specs.declared.Worth.{Worth}
use Rattle.run_values.specs.Worths.{told, heard, told_then, value_of}

-- what is answered of a row that was worked out: its length; what has no rule is a fault too
abbrev pub ran : Worked Row → Maybe ℕ
ran (worked z) = Some (length (row.write z))
ran fault = None
ran no_rule = None

-- a table, the assignments and the condition of an UPDATE, and a row that obeys the table
pub record Runnable (t s w r : List ℕ) : Type 0 where
  pub runs : Runs t r
  pub names : ShortAssignments s
  pub expression : ShortExpression w

-- the rules give a new row, and its image has room
pub record Writable (t s w r o : List ℕ) : Type 0 where
  pub runnable : Runnable t s w r
  pub schema : TableSchema
  pub holds : Holds table t schema
  pub list : List Assignment
  pub lists : Holds (list_of 2 assignment) s list
  pub condition : Expr
  pub filters : Holds image.expression w condition
  pub old : Row
  pub reads : Holds row r old
  pub new : Row
  pub gives : update_row schema condition list old ≡ worked new
  pub room : length (row.write new) ≤ length o

-- what was measured, and has room, is writable
pub writable : {t s w r o : List ℕ} {n : ℕ} {v : TableSchema} {xs : List Assignment} {y : Expr} {x : Row} → Runnable t s w r → Holds table t v
    → Holds (list_of 2 assignment) s xs → Holds image.expression w y → Holds row r x → Some n ≡ ran (update_row v y xs x) → n ≤ length o → Writable t s w r o
writable {t} {s} {w} {r} {o} {n} {v} {xs} {y} {x} u hv hs hy hx q m = go (update_row v y xs x) refl q
  where
    go : (k : Worked Row) → update_row v y xs x ≡ k → Some n ≡ ran k → Writable t s w r o
    go (worked z) e h =
        let l : n ≡ length (row.write z) = cc in
        record {
          runnable = u;
          schema = v;
          holds = hv;
          list = xs;
          lists = hs;
          condition = y;
          filters = hy;
          old = x;
          reads = hx;
          new = z;
          gives = e;
          room = omega arith;
        }
    go fault e h = absurd (let z : ◌≡◌ {A = ℕ} 0 1 = cc in omega arith)
    go no_rule e h = absurd (let z : ◌≡◌ {A = ℕ} 0 1 = cc in omega arith)

-- ---- heard

ran_none : (k : Worked Row) → told k ≡ none → None ≡ ran k
ran_none (worked z) h = absurd (none-ne-some z (sym h))
ran_none fault h = refl
ran_none no_rule h = refl

ran_some : (k : Worked Row) {z : Row} {n : ℕ} → told k ≡ some z → n ≡ length (row.write z) → Some n ≡ ran k
ran_some (worked y) {z} h e = ap Some (e ∙ ap (λ (x : Row). length (row.write x)) (sym (some-injective y z h)))
ran_some fault {z} h e = absurd (none-ne-some z h)
ran_some no_rule {z} h e = absurd (none-ne-some z h)

module _ (v : TableSchema) (y : Expr) (xs : List Assignment) (x : Row) where
  update_told : told (update_row v y xs x) ≡ next (told (evaluate v x y)) (λ u. told (elim (is_true u) [ true ↦ assigned v x x xs | false ↦ worked x ]))
  unfolding update_row
  update_told = told_then (evaluate v x y) (λ u. elim (is_true u) [ true ↦ assigned v x x xs | false ↦ worked x ])

  module _ (w : Maybe Worth) (s : heard value_of w ≡ told (evaluate v x y)) where
    -- the condition is a fault
    update_none : w ≡ None → told (update_row v y xs x) ≡ none
    update_none h = update_told ∙ rw (sym s ∙ ap (heard value_of) h)

    pub ran_fault : w ≡ None → None ≡ ran (update_row v y xs x)
    ran_fault h = ran_none (update_row v y xs x) (update_none h)

    -- where the rules give a row, it is none
    pub given_some : {z : Row} → update_row v y xs x ≡ worked z → IsSome w
    given_some {z} g = go w refl
      where
        go : (m : Maybe Worth) → w ≡ m → IsSome m
        go None h = absurd (none-ne-some z (sym (update_none h) ∙ ap told g))
        go (Some u) h = refl

    module _ {u : Worth} (e : w ≡ Some u) where
      -- it is not TRUE: the row as it is
      update_kept : is_true (value_of u) ≡ false → told (update_row v y xs x) ≡ some x
      update_kept h = update_told ∙ rw (sym s ∙ ap (heard value_of) e, h)

      -- it is TRUE: as it is assigned
      update_assigned : is_true (value_of u) ≡ true → told (update_row v y xs x) ≡ told (assigned v x x xs)
      update_assigned h = update_told ∙ rw (sym s ∙ ap (heard value_of) e, h)

      -- what is answered
      pub ran_kept : is_true (value_of u) ≡ false → {n : ℕ} → n ≡ length (row.write x) → Some n ≡ ran (update_row v y xs x)
      ran_kept h l = ran_some (update_row v y xs x) (update_kept h) l

      pub ran_unplanned : is_true (value_of u) ≡ true → (f : Maybe (List (Maybe ℕ))) → Plans v x xs f → f ≡ None → None ≡ ran (update_row v y xs x)
      ran_unplanned h f p q = ran_none (update_row v y xs x) (update_assigned h ∙ subst (Plans v x xs) q p)

      pub ran_planned : is_true (value_of u) ≡ true → (f : Maybe (List (Maybe ℕ))) → Plans v x xs f → {from : List (Maybe ℕ)} → f ≡ Some from → {n : ℕ}
          → ((z : Row) → Drawn v x xs from z → n ≡ length (row.write z)) → Some n ≡ ran (update_row v y xs x)
      ran_planned h f p {from} q g =
          let d : Plans v x xs (Some from) = subst (Plans v x xs) q p in
          ran_some (update_row v y xs x) (update_assigned h ∙ d.1) (g d.0 d.2)

      pub given_kept : {z : Row} → update_row v y xs x ≡ worked z → is_true (value_of u) ≡ false → x ≡ z
      given_kept {z} g h = some-injective x z (sym (update_kept h) ∙ ap told g)

      pub given_assigned : {z : Row} → update_row v y xs x ≡ worked z → is_true (value_of u) ≡ true → told (assigned v x x xs) ≡ some z
      given_assigned g h = sym (update_assigned h) ∙ ap told g

-- ---- the row by its plan

pub plan_some : (v : TableSchema) (x : Row) (xs : List Assignment) {z : Row} (f : Maybe (List (Maybe ℕ))) → Plans v x xs f → told (assigned v x x xs) ≡ some z → IsSome f
plan_some v x xs (Some from) p h = refl
plan_some v x xs {z} None p h = absurd (none-ne-some z (sym p ∙ h))

pub plan_drawn : {v : TableSchema} {x : Row} {xs : List Assignment} {z : Row} (f : Maybe (List (Maybe ℕ))) → Plans v x xs f → {from : List (Maybe ℕ)} → f ≡ Some from
    → told (assigned v x x xs) ≡ some z → Drawn v x xs from z
plan_drawn {v} {x} {xs} {z} f p {from} q h =
    let d : Plans v x xs (Some from) = subst (Plans v x xs) q p in
    subst (Drawn v x xs from) (some-injective d.0 z (sym d.1 ∙ h)) d.2

module _ {t s r : List ℕ} where
  pub row_drawn : {v : TableSchema} {x : Row} {xs : List Assignment} {from : List (Maybe ℕ)} {z : Row} → Holds table t v → Holds row r x → Holds (list_of 2 assignment) s xs
      → Drawn v x xs from z → RowDrawn t s r from z
  row_drawn {v} {x} {xs} hv hx hs d = record { schema = v; old = x; list = xs; holds = hv; reads = hx; lists = hs; drawn = d }

  pub plan_draws : Runs t r → ShortAssignments s → (f : Maybe (List (Maybe ℕ)))
      → ((v : TableSchema) (x : Row) (xs : List Assignment) → Holds table t v → Holds row r x → Holds (list_of 2 assignment) s xs → Plans v x xs f)
      → {from : List (Maybe ℕ)} → f ≡ Some from → RowDraws t s r from
  plan_draws u m f p {from} q =
      held u.schema (λ v hv. held (runs_row u) (λ x hx. held m.is (λ xs hs.
      let d : Plans v x xs (Some from) = subst (Plans v x xs) q (p v x xs hv hx hs) in
      record { new = d.0; drawn = row_drawn hv hx hs d.2 })))

-- the row's image as it is
pub row_kept : {r : List ℕ} {x : Row} → Bytes r → Holds row r x → r ≡ row.write x
row_kept {r} {x} b h = (row.back r x b h).0

-- ---- what is written, by what is known of it

module _ {t s w r o : List ℕ} (k : Writable t s w r o) (m : Maybe Worth) (c : Comes t w r m) where
  says : heard value_of m ≡ told (evaluate k.schema k.old k.condition)
  says = c k.schema k.holds k.old k.reads k.condition k.filters

  pub some_condition : IsSome m
  some_condition = given_some k.schema k.condition k.list k.old m says k.gives

  module _ {u : Worth} (e : m ≡ Some u) where
    pub kept_room : Bytes r → is_true (value_of u) ≡ false → length r ≤ length o
    kept_room b h =
        omega (arith, k.room, ap length (row_kept b k.reads), ap (λ (z : Row). length (row.write z)) (given_kept k.schema k.condition k.list k.old m says e k.gives h))

    module _ (h : is_true (value_of u) ≡ true) (f : Maybe (List (Maybe ℕ)))
        (p : (v : TableSchema) (x : Row) (xs : List Assignment) → Holds table t v → Holds row r x → Holds (list_of 2 assignment) s xs → Plans v x xs f) where
      pub some_plan : IsSome f
      some_plan = plan_some k.schema k.old k.list f (p k.schema k.old k.list k.holds k.reads k.lists) (given_assigned k.schema k.condition k.list k.old m says e k.gives h)

      pub planned_room : {from : List (Maybe ℕ)} → f ≡ Some from → RowDrawsInto t s r from o
      planned_room q = record {
        new = k.new;
        drawn =
            row_drawn k.holds k.reads k.lists
            (plan_drawn f (p k.schema k.old k.list k.holds k.reads k.lists) q (given_assigned k.schema k.condition k.list k.old m says e k.gives h));
        room = k.room;
      }
