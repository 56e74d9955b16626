-- The new row, as the code finds it: a fault, or how long its image is; and then its bytes.
-- Assumes nothing.
use Rattle.std.specs.Prelude.{◌≡◌, refl, true, List, ℕ, ◌≤◌, ◌<◌, length, Option as Maybe, Some, None}
use Rattle.std.proofs.Common.{sym, ◌∙◌, arith}
use Rattle.bytes_wire.specs.Sets.{Wrote}
use Rattle.bytes_format.proofs.Formats.{list_of}
use Rattle.bytes_bundle.specs.Held.{Holds, held}
use Rattle.image_catalogue.specs.Layout.{table}
use Rattle.image_expression.specs.Expression.{expression}
use Rattle.image_row.specs.Layout.{row}
use Rattle.image_row.specs.Obeyed.{obeyed_row}
use Rattle.rules.specs.Evaluate.{Worked, worked, fault, no_rule, update_row}
use Rattle.rules.specs.Heard.{refuses, Running, worked_out}
use Rattle.rules.specs.Rows.{Row, row_obeys}
use Rattle.rules.specs.Statements.{Assignment, Expr}
use Rattle.rules.specs.Tables.{TableSchema}
use Rattle.image_parts.specs.Layout.{assignment}
use Rattle.run_row.specs.Updates.{ran, Runnable, Writable, writable}
use Rattle.op_reply.specs.Leaves.{Leaves, reply, leaves_written}
use Rattle.run_update.specs.Ready.{Holding}
use Rattle.run_update.specs.OnRow.{update_bytes, update_fault, update_no_room, update_bytes_lem}

-- a is what the row that is made of r comes to
abbrev pub Sizes : List ℕ → List ℕ → List ℕ → List ℕ → Maybe ℕ → Type 0
Sizes t s w r a =
    (v : TableSchema) (xs : List Assignment) (y : Expr) (x : Row) → Holds table t v → Holds (list_of 2 assignment) s xs → Holds expression w y → Holds row r x
    → a ≡ ran (update_row v y xs x)

-- it is n bytes long
pub record RowSized (t s w r : List ℕ) (n : ℕ) : Type 0 where
  pub runnable : Runnable t s w r
  pub sizes : Sizes t s w r (Some n)

-- ---- by what is answered

faulty : (k : Worked Row) → None ≡ ran k → worked_out k ≡ refuses 11
faulty (worked z) e = absurd (let z : ◌≡◌ {A = ℕ} 0 1 = cc in omega arith)
faulty fault e = refl
faulty no_rule e = refl

record Made (k : Worked Row) (n : ℕ) : Type 0 where
  new : Row
  is : k ≡ worked new
  long : n ≡ length (row.write new)

made : (k : Worked Row) {n : ℕ} → Some n ≡ ran k → Made k n
made (worked z) e = record { new = z; is = refl; long = cc }
made fault e = absurd (let z : ◌≡◌ {A = ℕ} 0 1 = cc in omega arith)
made no_rule e = absurd (let z : ◌≡◌ {A = ℕ} 0 1 = cc in omega arith)

-- the row that obeys the table
old_row : {C : Type 0} {t s w r : List ℕ} {v : TableSchema} → Runnable t s w r → Holds table t v → ((x : Row) → Holds row r x → row_obeys v x ≡ true → C) → C
old_row {r = r} {v = v} p h k = obeyed_row v (row.read r) (p.runs.obeys.obeys v h) k

-- ---- what is left

module _ {t s w r : List ℕ} {u : Running} (h : Holding t s w u) (room : ℕ) where
  -- 11
  pub row_faults : {a : Maybe ℕ} → Runnable t s w r → Sizes t s w r a → a ≡ None → update_bytes u r room ≡ refuses 11
  row_faults p q e =
      old_row p h.schema (λ x k o.
      update_fault u r room k o (faulty (update_row u.table u.condition u.assignments x)
      (sym e ∙ q u.table u.assignments u.condition x h.schema h.assigns h.filters k)))

  -- 9
  pub row_no_room : {n : ℕ} → RowSized t s w r n → room < n → update_bytes u r room ≡ refuses 9
  row_no_room z l =
      old_row z.runnable h.schema (λ x k o.
      let m = made (update_row u.table u.condition u.assignments x) (z.sizes u.table u.assignments u.condition x h.schema h.assigns h.filters k) in
      update_no_room u r room k o m.is (omega (arith, m.long)))

-- the bytes
pub row_written : {t s w r old new : List ℕ} {u : Running} {n k : ℕ} → Holding t s w u → RowSized t s w r n → n ≤ length old
    → ((v : TableSchema) (xs : List Assignment) (y : Expr) (x z : Row) → Holds table t v → Holds (list_of 2 assignment) s xs → Holds expression w y → Holds row r x
    → update_row v y xs x ≡ worked z → Wrote old 0 (row.write z) k new)
    → Leaves (update_bytes u r (length old)) old (reply 0 k) new
row_written {r = r} {old = old} {u = u} h z l f =
    old_row z.runnable h.schema (λ x k o.
    let m = made (update_row u.table u.condition u.assignments x) (z.sizes u.table u.assignments u.condition x h.schema h.assigns h.filters k) in
    leaves_written (update_bytes_lem u r (length old) k o m.is (omega (arith, m.long))) (omega (arith, m.long))
    (f u.table u.assignments u.condition x m.new h.schema h.assigns h.filters k m.is))

-- what the writer asks for
pub row_writable : {t s w r o : List ℕ} {n : ℕ} → RowSized t s w r n → n ≤ length o → Writable t s w r o
row_writable {t} {s} {w} {r} {o} z l =
    let p = z.runnable in
    held p.runs.schema (λ v hv. held p.names.is (λ xs hs. held p.expression.is (λ y hy. old_row p hv (λ x hx b.
    writable p hv hs hy hx (z.sizes v xs y x hv hs hy hx) l))))
