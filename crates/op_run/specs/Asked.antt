-- 12: which bound statements are an UPDATE by 01's dispatch, and what the UPDATE is that is run.
-- Assumes nothing.
use Rattle.std.specs.Prelude.{◌≡◌, refl, Bool, true, false, eqb}
use Rattle.std.proofs.Math.Path.{sym, ap}
use Rattle.std.proofs.Common.{ap₂, ◌∙◌}
use Rattle.std.proofs.Math.Bool.{cond}
use Rattle.std.proofs.lemmas.Bool.{false≢true}
use Rattle.std.proofs.Math.Option.{Option, none, some}
use Rattle.bytes_bundle.specs.Bundle.{is_there}
use Rattle.image_statement.specs.Held.{kind_no}
use Rattle.rules.specs.Answers.{Answer, given, refused}
use Rattle.rules.specs.Analyze.{resolve_direct_table, analyze_kind, analyze}
use Rattle.rules.specs.Bound.{BoundStatement}
use Rattle.rules.specs.Heard.{Running, running, update_of, runnable}
use Rattle.rules.specs.Statements.{
  Expr,
  Update,
  Kind,
  create_table,
  insert,
  query,
  update,
  delete,
  begin,
  commit,
  rollback,
  show_tables,
  other_kind,
  Statement,
}
use Rattle.rules.specs.Tables.{TableSchema, Catalogue}
use Rattle.rules.specs.Trimmed.{is_show_transactions}
use Rattle.bind_statement.specs.Dispatch.{goes_by_kind, update_rule}
use Rattle.write_update.specs.Given.{update_given}

-- the UPDATE of a statement that is run
pub record Dispatched (cat : Catalogue) (v : Statement) (u : Running) : Type 0 where
  pub change : Update
  pub is : v.kind ≡ update change
  pub resolves : resolve_direct_table cat change.table ≡ given u.table
  pub filters : change.condition ≡ some u.condition
  pub assigns : change.assignments ≡ u.assignments

module _ (cat : Catalogue) (v : Statement) where
  -- SHOW TRANSACTIONS is told by the text alone, before the kind is looked at
  pub shown_not_asked : is_show_transactions v.raw ≡ true → false ≡ is_there (runnable cat v)
  unfolding runnable
  shown_not_asked e = sym (ap (λ (b : Bool). is_there (cond b none (update_of cat v.kind))) e)

  by_kind : is_show_transactions v.raw ≡ false → runnable cat v ≡ update_of cat v.kind
  unfolding runnable
  by_kind e = ap (λ (b : Bool). cond b none (update_of cat v.kind)) e

  -- an UPDATE that is bound has its table and its condition
  pub kind_asked : is_show_transactions v.raw ≡ false → {b : BoundStatement} → analyze cat v ≡ given b → eqb (kind_no v.kind) 3 ≡ is_there (runnable cat v)
  kind_asked e {b} g = go v.kind (sym (goes_by_kind cat v e) ∙ g) ∙ sym (ap is_there (by_kind e))
    where
      go : (k : Kind) → analyze_kind cat k ≡ given b → eqb (kind_no k) 3 ≡ is_there (update_of cat k)
      go (create_table c) h = refl
      go (insert i) h = refl
      go (query q) h = refl
      go (update u) h =
          let w = update_given cat u (sym (update_rule cat u) ∙ h) in
          sym (ap₂ (λ (a : Answer TableSchema) (o : Option Expr). is_there (running a o u.assignments)) w.resolved w.conditioned)
      go (delete d) h = refl
      go (begin m) h = refl
      go (commit m) h = refl
      go (rollback m n) h = refl
      go (show_tables m) h = refl
      go other_kind h = refl

  -- what is run
  pub record Asked : Type 0 where
    pub value : Running
    pub is : runnable cat v ≡ some value
    pub runs : Dispatched cat v value

  pub runnable_is : is_there (runnable cat v) ≡ true → Asked
  runnable_is h = shown (is_show_transactions v.raw) refl h
    where
      made : (k : Kind) → v.kind ≡ k → runnable cat v ≡ update_of cat k → is_there (update_of cat k) ≡ true → Asked
      made (create_table c) q r t = absurd (false≢true t)
      made (insert i) q r t = absurd (false≢true t)
      made (query i) q r t = absurd (false≢true t)
      made (update u) q r t = go (resolve_direct_table cat u.table) u.condition refl refl t
        where
          go : (a : Answer TableSchema) (o : Option Expr) → resolve_direct_table cat u.table ≡ a → u.condition ≡ o
              → is_there (running a o u.assignments) ≡ true → Asked
          go (refused f) o d e t = absurd (false≢true t)
          go (given x) none d e t = absurd (false≢true t)
          go (given x) (some w) d e t = record {
            value = record { table = x; assignments = u.assignments; condition = w };
            is = r ∙ ap₂ (λ (a : Answer TableSchema) (o : Option Expr). running a o u.assignments) d e;
            runs = record { change = u; is = q; resolves = d; filters = e; assigns = refl };
          }
      made (delete d) q r t = absurd (false≢true t)
      made (begin m) q r t = absurd (false≢true t)
      made (commit m) q r t = absurd (false≢true t)
      made (rollback m n) q r t = absurd (false≢true t)
      made (show_tables m) q r t = absurd (false≢true t)
      made other_kind q r t = absurd (false≢true t)

      shown : (b : Bool) → is_show_transactions v.raw ≡ b → is_there (runnable cat v) ≡ true → Asked
      shown true e t = absurd (false≢true (shown_not_asked e ∙ t))
      shown false e t = made v.kind refl (by_kind e) (sym (ap is_there (by_kind e)) ∙ t)
