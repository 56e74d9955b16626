-- What `bind_bytes` answers, case by case, as the code finds out: a refusal before the rules are asked, then the rules' own, then 9, then the bytes.
-- Assumes nothing.
use Rattle.std.specs.Prelude.{◌≡◌, refl, Bool, cond, List, ℕ, ◌≤◌, ◌<◌, leb, length}
use Rattle.std.proofs.Common.{sym, ◌∙◌, arith, le-leb}
use Rattle.std.proofs.Math.Path.{ap}
use Rattle.std.proofs.lemmas.Bool.{lt-leb}
use Rattle.bytes_wire.specs.Sets.{Wrote}
use Rattle.bytes_bundle.specs.Held.{Holds}
use Rattle.rules.specs.declared.Refusal.{Refusal}
use Rattle.rules.specs.Tables.{Catalogue}
use Rattle.rules.specs.Statements.{Statement}
use Rattle.rules.specs.Bound.{BoundStatement}
use Rattle.rules.specs.Answers.{Answer, given, refused}
use Rattle.rules.specs.Analyze.{analyze}
use Rattle.rules.specs.Heard.{Outcome, refuses, answers, next, class_no, heard, received, judged_statement, fitted, bind_outcome}
use Rattle.image_parts.specs.Layout.{statement}
use Rattle.image_catalogue.specs.Layout.{catalogue}
use Rattle.std.specs.Prelude.{Ok}
use Rattle.bind_table.specs.Told as resolving
use Rattle.bind_table.specs.Steps.{Sized, sized_is}
use Rattle.bind_table.specs.Room.{Bindable, bindable}
use Rattle.image_bound.specs.Layout as bound
use Rattle.image_bound.specs.Layout.{bound_statement}
use Rattle.op_reply.specs.Leaves.{refusal, Leaves, reply, leaves_written}
use Rattle.op_received.specs.Entry.{read_statement, read_catalogue, bound_size, bind_bytes}
use Rattle.op_received.specs.Told.{told_of_both}
use Rattle.op_received.specs.Received.{Received}

-- ---- the answer, case by case

-- an outcome, with the image of its answer
abbrev pub bytes_of : Outcome BoundStatement → Outcome (List ℕ)
bytes_of o = next o (λ b. answers (bound.encode b))

module _ (s c : List ℕ) (room : ℕ) where
  -- 5 to 8
  pub refused_before : {k : ℕ} → k ≡ told_of_both s c → (k ≡ 0 → ⊥) → bind_bytes s c room ≡ refuses k
  unfolding told_of_both bind_bytes bind_outcome judged_statement
  refused_before {k} e n = go (received (read_statement s) (read_catalogue c)) e
    where
      go : (o : Outcome (Statement × Catalogue)) → k ≡ refusal o → bytes_of (fitted bound_size room (next o (λ p. heard (analyze p.1 p.0)))) ≡ refuses k
      go (refuses j) e = ap refuses (sym e)
      go (answers p) e = absurd (n e)

  module _ (h : Received s c) where
    answered : bind_bytes s c room ≡ bytes_of (fitted bound_size room (heard (analyze h.tables h.value)))
    unfolding bind_bytes bind_outcome judged_statement
    answered = ap (λ (o : Outcome (Statement × Catalogue)). bytes_of (fitted bound_size room (next o (λ p. heard (analyze p.1 p.0))))) h.asked

    -- 1 to 4
    pub refused_by_rule : {r : Refusal} → analyze h.tables h.value ≡ refused r → bind_bytes s c room ≡ refuses (class_no r.class)
    refused_by_rule e = answered ∙ ap (λ (a : Answer BoundStatement). bytes_of (fitted bound_size room (heard a))) e

    module _ {b : BoundStatement} (e : analyze h.tables h.value ≡ given b) where
      bound_answered : bind_bytes s c room ≡ bytes_of (cond (leb (length (bound_statement.write b)) room) (answers b) (refuses 9))
      unfolding bound.encode
      bound_answered = answered ∙ ap (λ (a : Answer BoundStatement). bytes_of (fitted bound_size room (heard a))) e

      -- 9
      pub refused_for_room : room < length (bound_statement.write b) → bind_bytes s c room ≡ refuses 9
      refused_for_room l = bound_answered ∙ ap (λ (t : Bool). bytes_of (cond t (answers b) (refuses 9))) (lt-leb (length (bound_statement.write b)) room l)

      -- the bytes
      pub bound_bytes_lem : length (bound_statement.write b) ≤ room → bind_bytes s c room ≡ answers (bound_statement.write b)
      unfolding bound.encode
      bound_bytes_lem l = bound_answered ∙ ap (λ (t : Bool). bytes_of (cond t (answers b) (refuses 9))) (le-leb (length (bound_statement.write b)) room l)

-- ---- what the code knows on the way

-- the bound statement's image is n bytes long
pub record Measures (s c : List ℕ) (n : ℕ) : Type 0 where
  pub both : Received s c
  pub is : Ok n ≡ resolving.sized bound_statement (analyze both.tables both.value)

module _ {s c : List ℕ} {n : ℕ} (m : Measures s c n) where
  size_of : Sized bound_statement (analyze m.both.tables m.both.value) n
  size_of = sized_is bound_statement m.is refl

  pub no_room : {room : ℕ} → room < n → bind_bytes s c room ≡ refuses 9
  no_room {room} l = let z = size_of in refused_for_room s c room m.both z.gives (omega arith)

  pub has_room : {o : List ℕ} → n ≤ length o → Bindable statement bound_statement analyze c s o
  has_room l = bindable statement bound_statement analyze m.both.tables m.both.value m.both.lists m.both.holds m.is l

  pub image_written : {old new : List ℕ} {k : ℕ} → n ≤ length old
      → ((cat : Catalogue) (v : Statement) (b : BoundStatement) → Holds catalogue c cat → Holds statement s v → analyze cat v ≡ given b
      → Wrote old 0 (bound_statement.write b) k new)
      → Leaves (bind_bytes s c (length old)) old (reply 0 k) new
  image_written {old} l w =
      let z = size_of in
      leaves_written (bound_bytes_lem s c (length old) m.both z.gives (omega arith)) (omega arith)
      (w m.both.tables m.both.value z.value m.both.lists m.both.holds z.gives)
