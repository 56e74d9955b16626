-- Demand 3: "else yields the row they name, which obeys the table too". The bytes that a run writes read back as that row.
-- Assumes nothing.
use Rattle.std.specs.Prelude.{◌≡◌, refl, Bool, true, false, cond, List, ℕ}
use Rattle.std.proofs.Common.{sym, ap, ◌∙◌}
use Rattle.std.proofs.Math.Option.{Option, none, some}
use Rattle.bytes_wire.specs.Le.{Bytes}
use Rattle.bytes_format.specs.Format.{Every}
use Rattle.bytes_bundle.specs.Bundle.{is_there}
use Rattle.image_row.specs.Layout as row
use Rattle.image_parts.specs.Layout as statement
use Rattle.rules.specs.Answers.{given}
use Rattle.rules.specs.Tables.{TableSchema, Catalogue}
use Rattle.rules.specs.Statements.{Update, update, Statement}
use Rattle.rules.specs.Bound.{BoundStatement}
use Rattle.rules.specs.Analyze.{analyze_kind, analyze}
use Rattle.rules.specs.Obeys.{UpdateObeys}
use Rattle.rules.specs.Rows.{Row, row_obeys}
use Rattle.rules.specs.Evaluate.{Worked, worked, fault, no_rule, update_row}
use Rattle.rules.specs.Trimmed.{is_show_transactions}
use Rattle.rules.specs.Heard.{refuses, answers, heard, received, Running, update_of, runnable, asked, obeying, worked_out, ran_statement, run_outcome}
use Rattle.rules.proofs.Theorems.Answered.{never_some}
use Rattle.rules.proofs.Theorems.Steps.{never_answers, heard_answers}
use Rattle.rules.proofs.Theorems.Stages.{next_answers}
use Rattle.rules.proofs.Theorems.Order.{Obeying}
use Rattle.rules.proofs.Theorems.Update.{update_exactly}
use Rattle.rules.proofs.Theorems.Values.{comes_to}
use Rattle.rules.proofs.Theorems.Rows.{update_obeys}
use Rattle.bind_statement.specs.Dispatch.{goes_by_kind, update_rule}
use Rattle.write_update.specs.Given.{update_given}
use Rattle.op_run.specs.Asked.{Dispatched, runnable_is}
use Rattle.op_received.specs.Entry.{read_statement, read_catalogue, row_size, run_bytes}
use Rattle.proved_readback.specs.Judging.{Judged, judged_of, answers_same, fitted_answers, kind_ok}
use Rattle.proved_readback.specs.Rows.{row_fine, fine_row, updated_fine}

-- ---- what a run that answers went through

asked_is : (o : Option Running) {r : Running} → asked o ≡ answers r → o ≡ some r
asked_is none h = absurd (never_answers h)
asked_is (some q) h = ap some (answers_same h)

obeying_is : (t : TableSchema) (o : Option Row) {x : Row} → obeying t o ≡ answers x → Obeying t o x
obeying_is t none h = absurd (never_answers h)
obeying_is t (some y) {x} h = go (row_obeys t y) refl h
  where
    go : (b : Bool) → row_obeys t y ≡ b → cond b (answers y) (refuses 10) ≡ answers x → Obeying t (some y) x
    go true e q = let f : y ≡ x = cc in (ap some f, rw f at e)
    go false e q = absurd (never_answers q)

worked_is : (w : Worked Row) {x : Row} → worked_out w ≡ answers x → w ≡ worked x
worked_is (worked y) h = ap worked (answers_same h)
worked_is fault h = absurd (never_answers h)
worked_is no_rule h = absurd (never_answers h)

-- a statement, a catalogue and a row, the UPDATE that is run, and the row that it makes
pub record Ran (s c : List ℕ) (o : Option Row) (new : Row) : Type 0 where
  pub statement : Statement
  pub catalogue : Catalogue
  pub judged : Judged s c statement catalogue
  pub bound : BoundStatement
  pub binds : analyze catalogue statement ≡ given bound
  pub change : Running
  pub runs : runnable catalogue statement ≡ some change
  pub old : Row
  pub obeys : Obeying change.table o old
  pub yields : update_row change.table change.condition change.assignments old ≡ worked new

ran : (s c : List ℕ) (o : Option Row) (new : Row) → ran_statement (read_statement s) (read_catalogue c) o ≡ answers new → Ran s c o new
unfolding ran_statement
ran s c o new h =
    let p = (next_answers (received (read_statement s) (read_catalogue c)) _ new).0 h in
    let v = p.0.0 in
    let cat = p.0.1 in
    let b = (next_answers (heard (analyze cat v)) _ new).0 p.2 in
    let u = (next_answers (asked (runnable cat v)) _ new).0 b.2 in
    let x = (next_answers (obeying u.0.table o) _ new).0 u.2 in
    record {
      statement = v;
      catalogue = cat;
      judged = judged_of s c p.0 p.1;
      bound = b.0;
      binds = (heard_answers (analyze cat v) b.0).0 b.1;
      change = u.0;
      runs = asked_is (runnable cat v) u.1;
      old = x.0;
      obeys = obeying_is u.0.table o x.1;
      yields = worked_is _ x.2;
    }

-- ---- the UPDATE that is run

values_ok : (u : Update) → (statement.kind).Ok (update u) → Every (statement.assignment).Ok u.assignments
unfolding statement.kind statement.updating
values_ok u h = h.2.1.1.0.2

-- an UPDATE that binds obeys the rules, and the values of its assignments have images where the statement has one
record Sound (cat : Catalogue) (v : Statement) (u : Running) : Type 0 where
  obeys : UpdateObeys u.table u.assignments u.condition
  values : statement.HasImage v → Every (statement.assignment).Ok u.assignments

not_shown : (cat : Catalogue) (v : Statement) {u : Running} → runnable cat v ≡ some u → is_show_transactions v.raw ≡ false
unfolding runnable
not_shown cat v {u} h = go (is_show_transactions v.raw) h
  where
    go : (b : Bool) → cond b none (update_of cat v.kind) ≡ some u → b ≡ false
    go true q = absurd (never_some q)
    go false q = refl

dispatched_sound : (cat : Catalogue) (v : Statement) (u : Running) {b : BoundStatement} → Dispatched cat v u → is_show_transactions v.raw ≡ false
    → analyze cat v ≡ given b → Sound cat v u
dispatched_sound cat v u {b} d n e =
    let k : analyze_kind cat (update d.change) ≡ given b = rw d.is at (sym (goes_by_kind cat v n) ∙ e) in
    let g = update_given cat d.change (sym (update_rule cat d.change) ∙ k) in
    let o = (update_exactly g.schema d.change.assignments g.condition).0 (b, g.updates) in
    let t : g.schema ≡ u.table = cc (d.resolves, g.resolved) in
    let c : g.condition ≡ u.condition = cc (d.filters, g.conditioned) in
    record {
      obeys = rw (t, c, d.assigns) at o;
      values = λ i. rw d.assigns at (values_ok d.change (rw d.is at (kind_ok v i)));
    }

sound : (cat : Catalogue) (v : Statement) (u : Running) {b : BoundStatement} → runnable cat v ≡ some u → analyze cat v ≡ given b → Sound cat v u
sound cat v u h e =
    let a = runnable_is cat v (ap is_there h) in
    let q : a.value ≡ u = cc (a.is, h) in
    dispatched_sound cat v u (rw q at a.runs) (not_shown cat v h) e

-- ---- the bytes

-- The bytes b that a run wrote are the image of the row that the value rules name, they read back as that row, and it obeys the table.
pub record RowReadsBack (s c r b : List ℕ) : Type 0 where
  pub new : Row
  pub ran : Ran s c (row.decode r) new
  pub is_written : b ≡ row.encode new
  pub reads_back : row.decode b ≡ some new
  pub obeys : row_obeys ran.change.table new ≡ true

pub row_reads_back : (s c r : List ℕ) (room : ℕ) (b : List ℕ) → Bytes s → Bytes r → run_bytes s c r room ≡ answers b → RowReadsBack s c r b
unfolding run_bytes run_outcome
row_reads_back s c r room b hs hr h =
    let x = (next_answers (run_outcome row_size room (read_statement s) (read_catalogue c) (row.decode r)) _ b).0 h in
    let w = ran s c (row.decode r) x.0 (fitted_answers row_size room _ x.1) in
    let u = sound w.catalogue w.statement w.change w.runs w.binds in
    let i = (statement.encode_decode s w.statement hs w.judged.is_statement).1 in
    let old = (row.encode_decode r w.old hr w.obeys.0).1 in
    let f = updated_fine w.change.table w.old w.obeys.1 (row_fine w.old old) u.obeys (u.values i) x.0 w.yields in
    let e : b ≡ row.encode x.0 = sym (answers_same x.2) in
    record {
      new = x.0;
      ran = w;
      is_written = e;
      reads_back = ap row.decode e ∙ row.decode_encode x.0 (fine_row x.0 f);
      obeys = comes_to (update_obeys w.change.table w.old w.obeys.1 u.obeys) w.yields;
    }
