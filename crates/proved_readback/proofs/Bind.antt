-- The bytes that binding writes read back as the bound statement.
-- Assumes nothing.
use Rattle.std.specs.Prelude.{◌≡◌, Bool, List, ℕ, ◌<◌, length}
use Rattle.std.proofs.Common.{sym, ap, ◌∙◌}
use Rattle.std.proofs.Math.Path.{subst}
use Rattle.std.proofs.Math.Bool.{true, false, cond}
use Rattle.std.proofs.Math.Option.{some}
use Rattle.bytes_wire.specs.Le.{Bytes}
use Rattle.image_bound.specs.Layout as bound
use Rattle.image_catalogue.specs.Layout as catalogue
use Rattle.image_parts.specs.Layout as statement
use Rattle.rules.specs.declared.Class.TheVariants.{UnsupportedSql}
use Rattle.rules.specs.Answers.{given}
use Rattle.rules.specs.Tables.{Catalogue}
use Rattle.rules.specs.Statements.{Kind, create_table, insert, query, update, delete, begin, commit, rollback, show_tables, other_kind, Statement}
use Rattle.rules.specs.Bound.{BoundStatement, bound_show_transactions}
use Rattle.rules.specs.Trimmed.{is_show_transactions}
use Rattle.rules.specs.Analyze.{analyze_kind, analyze}
use Rattle.rules.specs.Heard.{answers, received, judged_statement, bind_outcome}
use Rattle.rules.proofs.Theorems.Answered.{never_given}
use Rattle.rules.proofs.Theorems.Steps.{step_past, heard_answers}
use Rattle.rules.proofs.Theorems.Stages.{next_answers}
use Rattle.op_received.specs.Entry.{read_statement, read_catalogue, bound_size, bind_bytes}
use Rattle.proved_readback.specs.Judging.{Judged, judged_of, answers_same, fitted_answers, kind_ok}
use Rattle.proved_readback.specs.Lengths.{limit}
use Rattle.proved_readback.proofs.Bindings.{given_same}
use Rattle.proved_readback.proofs.StatementKinds.{BoundSane, has_image}
use Rattle.proved_readback.proofs.Changes.{update_sane, delete_sane, select_sane, insert_sane}
use Rattle.proved_readback.proofs.Created.{create_sane}

-- ---- every statement that is bound

module _ (cat : Catalogue) (i : catalogue.HasImage cat) {b : BoundStatement} where
  kind_sane : (k : Kind) → (statement.kind).Ok k → analyze_kind cat k ≡ given b → BoundSane b
  unfolding statement.kind analyze_kind
  kind_sane (create_table c) h e = create_sane cat c h e
  kind_sane (insert w) h e = insert_sane cat i w h e
  kind_sane (query q) h e = select_sane cat i q h e
  kind_sane (update u) h e = update_sane cat i u h e
  kind_sane (delete d) h e = delete_sane cat i d h e
  kind_sane (begin m) h e = step_past m UnsupportedSql _ e (λ p q. subst BoundSane (given_same q) tt)
  kind_sane (commit m) h e = step_past m UnsupportedSql _ e (λ p q. subst BoundSane (given_same q) tt)
  kind_sane (rollback m n) h e =
      step_past m UnsupportedSql _ e (λ p q. step_past n UnsupportedSql _ q (λ r z. subst BoundSane (given_same z) tt))
  kind_sane (show_tables m) h e = step_past m UnsupportedSql _ e (λ p q. subst BoundSane (given_same q) tt)
  kind_sane other_kind h e = absurd (never_given e)

  bound_is_sane : (v : Statement) → statement.HasImage v → analyze cat v ≡ given b → BoundSane b
  unfolding analyze
  bound_is_sane v h e = go (is_show_transactions v.raw) e
    where
      go : (t : Bool) → cond t (given bound_show_transactions) (analyze_kind cat v.kind) ≡ given b → BoundSane b
      go true q = subst BoundSane (given_same q) tt
      go false q = kind_sane v.kind (kind_ok v h) q

-- ---- the bytes

-- The bytes b that binding wrote are the image of what the rules bind the statement to, and they read back as that.
pub record BoundReadsBack (s c b : List ℕ) : Type 0 where
  pub statement : Statement
  pub catalogue : Catalogue
  pub judged : Judged s c statement catalogue
  pub value : BoundStatement
  pub binds : analyze catalogue statement ≡ given value
  pub is_written : b ≡ bound.encode value
  pub reads_back : bound.decode b ≡ some value

pub bound_reads_back : (s c : List ℕ) (room : ℕ) (b : List ℕ) → Bytes s → Bytes c → bind_bytes s c room ≡ answers b → length b < limit
    → BoundReadsBack s c b
unfolding bind_bytes bind_outcome judged_statement
bound_reads_back s c room b hs hc h short =
    let x = (next_answers (bind_outcome bound_size room (read_statement s) (read_catalogue c)) _ b).0 h in
    let p = (next_answers (received (read_statement s) (read_catalogue c)) _ x.0).0 (fitted_answers bound_size room (judged_statement (read_statement s) (read_catalogue c)) x.1) in
    let v = p.0.0 in
    let cat = p.0.1 in
    let j = judged_of s c p.0 p.1 in
    let a = (heard_answers (analyze cat v) x.0).0 p.2 in
    let e : b ≡ bound.encode x.0 = sym (answers_same x.2) in
    let q = bound_is_sane cat (catalogue.encode_decode c cat hc j.is_catalogue).1 v (statement.encode_decode s v hs j.is_statement).1 a in
    record {
      statement = v;
      catalogue = cat;
      judged = j;
      value = x.0;
      binds = a;
      is_written = e;
      reads_back = ap bound.decode e ∙ bound.decode_encode x.0 (has_image x.0 q (rw e at short));
    }
