-- Demand 3, proved of whatever a caller of `bind` and of `run` hears.
-- Assumes nothing.
use Rattle.std.specs.Prelude.{◌≡◌, true, List, ◌↔◌, ℕ, length}
use Rattle.std.proofs.Common.{sym, ap, ◌∙◌, ⊎_elim, arith}
use Rattle.std.proofs.Math.Option.{some}
use Rattle.rules.specs.Evaluate.{fault, update_row}
use Rattle.rules.specs.Heard.{Outcome}
use Rattle.rules.specs.Obeys.{UpdateObeys}
use Rattle.rules.specs.Rows.{Row, row_obeys}
use Rattle.rules.specs.Statements.{Expr, Update}
use Rattle.rules.specs.Tables.{TableSchema}
use Rattle.rules.proofs.Theorems.Demand.{demand}
use Rattle.image_row.specs.Layout as row
use Rattle.proved_demands.specs.Answered.{answers_exactly, Faults, Comes, faults_or_comes}
use Rattle.proved_demands.specs.Demand.{TakenBytes, RoomToBind, RoomToRun, BindReplies, RunReplies, Runs, Demand}
use Rattle.op_reply.specs.Leaves.{Reply, refusal, written, held}
use Rattle.proved_demands.specs.Zero.{zero_answers}

module _ {s c : List ℕ} {u : Update} {t : TableSchema} {w : Expr} (h : TakenBytes s c u t w) where
  binds : (o o' : List ℕ) (k : Reply) → RoomToBind s c o → BindReplies s c o k o' → ((k.refusal ≡ 0) ↔ UpdateObeys t u.assignments w)
  binds o o' k fits l =
      let d = answers_exactly h o fits in
      (λ e. d.0 (zero_answers s c (length o) (sym l.hears.number ∙ e)), λ b. l.hears.number ∙ ap refusal (d.1 b).1)

  module _ (r o o' : List ℕ) (k : Reply) (old : Row) (d : row.decode r ≡ some old) (l : RunReplies s c r o k o') where
    on_fault : Faults h r o old d → Runs t w u old o k o'
    on_fault f =
        let e : k.refusal ≡ 11 = l.hears.number ∙ ap refusal f.0 in
        record { faults = (λ x. f.1, λ x. e); else_yields = λ n. absurd (n e) }

    on_row : (new : Row) → Comes h r o old d new → Runs t w u old o k o'
    on_row new f =
        let e : k.refusal ≡ 0 = l.hears.number ∙ ap refusal f.0 in
        record {
          faults = (λ x. absurd (omega (arith, e, x)), λ (x : update_row t w u.assignments old ≡ fault). absurd (let z : ◌≡◌ {A = ℕ} 0 1 = cc (f.1, x) in omega arith));
          else_yields = λ n. record {
            new = new;
            named = f.1;
            answered = e;
            long = l.hears.size ∙ ap written f.0;
            image = l.output ∙ ap (λ (x : Outcome (List ℕ)). held x o) f.0;
            obeys = f.2;
          };
        }

  runs : (r o o' : List ℕ) (k : Reply) (old : Row) → UpdateObeys t u.assignments w → row.decode r ≡ some old → row_obeys t old ≡ true
      → RoomToRun s c r o → RunReplies s c r o k o' → Runs t w u old o k o'
  runs r o o' k old b d y f l = ⊎_elim (on_fault r o o' k old d l) (λ x. on_row r o o' k old d l x.0 x.1) (faults_or_comes h r o old d b y f)

-- Demand 3.
pub demand_on_bytes : Demand
demand_on_bytes s c u t w h = record { binds = binds h; one_marking = (demand h.statement h.catalogue u t w h.taken).1; runs = runs h }
