-- "What a caller hears": each number of the table is given exactly when the table says so, and none of those tested before it.
-- "Binding tests 5, 6, 7, 8, then the Rust's order (1 to 4, first found), then 9. Running takes a statement, a catalogue and a row; it tests
-- all of binding's but 9, then 12, 10, 11, 9."
-- Assumes nothing.
use Rattle.std.specs.Prelude.{◌≡◌, Bool, true, cond, not, ◌&&◌, ◌↔◌, ◌⊎◌, [], ◌∷◌, ℕ, ◌≤◌, ◌<◌, eqb, leb}
use Rattle.std.proofs.Common.{◌∙◌, sym, ap, true≢false, inl, inr, ⊎_elim, arith, leb-false, ne_eqb}
use Rattle.std.proofs.Math.Path.{refl}
use Rattle.std.proofs.Math.Bool.{false}
use Rattle.std.proofs.lemmas.Bool.{false≢true, lt-leb}
use Rattle.std.proofs.Math.Logic.Iff
use Rattle.std.proofs.Math.Option.{Option, none, some, none-ne-some}
use Rattle.rules.specs.declared.Class.{Class}
use Rattle.rules.specs.declared.Class.TheVariants.{SchemaMismatch, ConstraintViolation, UnsupportedSql, InvalidArgument}
use Rattle.rules.specs.Answers.{Answer, given, refused, refuse}
use Rattle.rules.specs.Tables.{TableSchema, Catalogue}
use Rattle.rules.specs.Statements.{Statement}
use Rattle.rules.specs.Bound.{BoundStatement}
use Rattle.rules.specs.Analyze.{analyze}
use Rattle.rules.specs.Limits.{statement_within, catalogue_within, names_beyond_ascii}
use Rattle.rules.specs.Rows.{Row, row_obeys}
use Rattle.rules.specs.Evaluate.{Worked, worked, fault, no_rule, update_row}
use Rattle.rules.specs.Heard.{Outcome, refuses, answers, next, class_no, heard, Read, received, judged_statement, fitted, bind_outcome, Running, runnable, asked, obeying, worked_out, ran_on, ran_statement, run_outcome}
use Rattle.rules.proofs.Theorems.Answered.{never_given}
use Rattle.rules.proofs.Theorems.Steps.{never_answers, heard_answers}
use Rattle.rules.proofs.Theorems.Stages.{Never, among, one_to_four, five_to_eight, number_same, never_other, never_refuses, never_next, first_stage, later_stage, same_after, next_answers, next_assoc, reworded, same_word}
use Rattle.rules.proofs.Theorems.Runnable.{IsUpdate, runnable_exactly}

-- ---- 5, 6, 7, 8: what the table says

-- 6: "the catalogue bytes are no catalogue image", and not 5
pub record OnlyNoCatalogue (s : Option (Read Statement)) (c : Option (Read Catalogue)) : Type 0 where
  pub statement : Read Statement
  pub is_statement : s ≡ some statement
  pub no_catalogue : c ≡ none

-- both are images: neither 5 nor 6
pub record Images (s : Option (Read Statement)) (c : Option (Read Catalogue)) : Type 0 where
  pub statement : Read Statement
  pub catalogue : Read Catalogue
  pub is_statement : s ≡ some statement
  pub is_catalogue : c ≡ some catalogue

module _ {s : Option (Read Statement)} {c : Option (Read Catalogue)} (i : Images s c) where
  abbrev pub statement_fits : Bool
  statement_fits = statement_within i.statement.size i.statement.value

  abbrev pub catalogue_fits : Bool
  catalogue_fits = catalogue_within i.catalogue.size i.catalogue.value

-- 7: "either image passes a limit below", and neither 5 nor 6
pub record OnlyPastLimit (s : Option (Read Statement)) (c : Option (Read Catalogue)) : Type 0 where
  pub images : Images s c
  pub past_limit : (statement_fits images ≡ false) ⊎ (catalogue_fits images ≡ false)

-- within the limits: none of 5, 6, 7
pub record Within (s : Option (Read Statement)) (c : Option (Read Catalogue)) : Type 0 where
  pub images : Images s c
  pub statement_is_within : statement_fits images ≡ true
  pub catalogue_is_within : catalogue_fits images ≡ true

-- 8: "an unquoted name in the statement holds a byte of 128 or more", and none of 5, 6, 7
pub record OnlyBeyondAscii (s : Option (Read Statement)) (c : Option (Read Catalogue)) : Type 0 where
  pub within : Within s c
  pub beyond : names_beyond_ascii within.images.statement.value ≡ true

-- none of 5, 6, 7, 8
pub record Clear (s : Option (Read Statement)) (c : Option (Read Catalogue)) (p : Statement × Catalogue) : Type 0 where
  pub within : Within s c
  pub clear_of_eight : names_beyond_ascii within.images.statement.value ≡ false
  pub is_statement : p.0 ≡ within.images.statement.value
  pub is_catalogue : p.1 ≡ within.images.catalogue.value

-- ---- they are what is tested

data Received (s : Option (Read Statement)) (c : Option (Read Catalogue)) : Outcome (Statement × Catalogue) → Type 0 where
  no_statement : s ≡ none → Received s c (refuses 5)
  no_catalogue_lem : OnlyNoCatalogue s c → Received s c (refuses 6)
  past_limit_lem : OnlyPastLimit s c → Received s c (refuses 7)
  beyond_ascii_lem : OnlyBeyondAscii s c → Received s c (refuses 8)
  clear : {p : Statement × Catalogue} → Clear s c p → Received s c (answers p)

is_received : (s : Option (Read Statement)) (c : Option (Read Catalogue)) → Received s c (received s c)
is_received none c = no_statement refl
is_received (some a) none = no_catalogue_lem (record { statement = a; is_statement = refl; no_catalogue = refl })
is_received (some a) (some b) = go (statement_fits i) (catalogue_fits i) (names_beyond_ascii a.value) refl refl refl
  where
    i : Images (some a) (some b)
    i = record { statement = a; catalogue = b; is_statement = refl; is_catalogue = refl }

    go : (x y z : Bool) → statement_fits i ≡ x → catalogue_fits i ≡ y → names_beyond_ascii a.value ≡ z
        → Received (some a) (some b) (cond (not (x && y)) (refuses 7) (cond z (refuses 8) (answers (a.value, b.value))))
    go false y z e₁ e₂ e₃ = past_limit_lem (record { images = i; past_limit = inl e₁ })
    go true false z e₁ e₂ e₃ = past_limit_lem (record { images = i; past_limit = inr e₂ })
    go true true true e₁ e₂ e₃ = beyond_ascii_lem (record { within = record { images = i; statement_is_within = e₁; catalogue_is_within = e₂ }; beyond = e₃ })
    go true true false e₁ e₂ e₃ =
        clear
        (record {
          within = record { images = i; statement_is_within = e₁; catalogue_is_within = e₂ };
          clear_of_eight = e₃;
          is_statement = refl;
          is_catalogue = refl;
        })

either_past : {A : Type 0} (x y : Bool) (o : Outcome A) → (x ≡ false) ⊎ (y ≡ false) → cond (not (x && y)) (refuses 7) o ≡ refuses 7
either_past false y o h = refl
either_past true false o h = refl
either_past true true o h = absurd (⊎_elim true≢false true≢false h)

module _ (s : Option (Read Statement)) (c : Option (Read Catalogue)) where
  heard_as : {o : Outcome (Statement × Catalogue)} → received s c ≡ o → Received s c o
  heard_as h = rw h at (is_received s c)

  got_five : Received s c (refuses 5) → s ≡ none
  got_five (no_statement h) = h

  got_six : Received s c (refuses 6) → OnlyNoCatalogue s c
  got_six (no_catalogue_lem h) = h

  got_seven : Received s c (refuses 7) → OnlyPastLimit s c
  got_seven (past_limit_lem h) = h

  got_eight : Received s c (refuses 8) → OnlyBeyondAscii s c
  got_eight (beyond_ascii_lem h) = h

  got_clear : {p : Statement × Catalogue} → Received s c (answers p) → Clear s c p
  got_clear (clear h) = h

  received_five : (received s c ≡ refuses 5) ↔ (s ≡ none)
  received_five = (λ h. got_five (heard_as h), λ h. rw h)

  received_six : (received s c ≡ refuses 6) ↔ OnlyNoCatalogue s c
  received_six = (λ h. got_six (heard_as h), λ h. rw (h.is_statement, h.no_catalogue))

  received_seven : (received s c ≡ refuses 7) ↔ OnlyPastLimit s c
  received_seven = (
    λ h. got_seven (heard_as h),
    λ h.
        let i = h.images in
        rw (i.is_statement, i.is_catalogue) (either_past (statement_fits i) (catalogue_fits i) _ h.past_limit),
  )

  received_eight : (received s c ≡ refuses 8) ↔ OnlyBeyondAscii s c
  received_eight = (
    λ h. got_eight (heard_as h),
    λ h.
        let w = h.within in
        rw (w.images.is_statement, w.images.is_catalogue, w.statement_is_within, w.catalogue_is_within, h.beyond),
  )

  -- none of the four comes exactly where both images are there, within the limits and clear of number 8
  pub received_clear : (p : Statement × Catalogue) → (received s c ≡ answers p) ↔ Clear s c p
  received_clear p = (
    λ h. got_clear (heard_as h),
    λ h.
        let w = h.within in
        rw
        (w.images.is_statement, w.images.is_catalogue, w.statement_is_within, w.catalogue_is_within, h.clear_of_eight, ← h.is_statement, ← h.is_catalogue),
  )

  received_never : (k : ℕ) → among k five_to_eight ≡ false → Never k (received s c)
  received_never k e = go (is_received s c)
    where
      go : {o : Outcome (Statement × Catalogue)} → Received s c o → Never k o
      go (no_statement x) = never_other five_to_eight refl e
      go (no_catalogue_lem x) = never_other five_to_eight refl e
      go (past_limit_lem x) = never_other five_to_eight refl e
      go (beyond_ascii_lem x) = never_other five_to_eight refl e
      go (clear x) = never_refuses

-- ---- 1 to 4

-- the class of a number
class_of : ℕ → Class
class_of k = cond (eqb k 1) SchemaMismatch (cond (eqb k 2) ConstraintViolation (cond (eqb k 3) UnsupportedSql InvalidArgument))

class_back : (k : Class) → class_of (class_no k) ≡ k
unfolding class_of
class_back SchemaMismatch = refl
class_back ConstraintViolation = refl
class_back UnsupportedSql = refl
class_back InvalidArgument = refl

-- what is so of 1 to 4 is so of each class's number
each_class : (p : ℕ → Bool) (b : Bool) → p 1 ≡ b → p 2 ≡ b → p 3 ≡ b → p 4 ≡ b → (k : Class) → p (class_no k) ≡ b
each_class p b e₁ e₂ e₃ e₄ SchemaMismatch = e₁
each_class p b e₁ e₂ e₃ e₄ ConstraintViolation = e₂
each_class p b e₁ e₂ e₃ e₄ UnsupportedSql = e₃
each_class p b e₁ e₂ e₃ e₄ InvalidArgument = e₄

heard_never : {A : Type 0} (r : Answer A) (k : ℕ) → among k one_to_four ≡ false → Never k (heard r)
heard_never (given a) k e = never_refuses
heard_never (refused q) k e =
    never_other one_to_four (each_class (λ n. among n one_to_four) true refl refl refl refl q.class) e

heard_class : {A : Type 0} (r : Answer A) (k : Class) → (heard r ≡ refuses (class_no k)) ↔ (r ≡ refuse k)
heard_class (given a) k = (λ h. absurd (never_answers (sym h)), λ h. absurd (never_given (sym h)))
heard_class (refused q) k = (
  λ h. ap refuse (sym (class_back q.class) ∙ ap class_of (number_same h) ∙ class_back k),
  λ h. ap heard h,
)

-- ---- 9

module _ {A : Type 0} (size : A → ℕ) (room : ℕ) where
  abbrev room_for : A → Outcome A
  room_for a = cond (leb (size a) room) (answers a) (refuses 9)

  fitted_last : (o : Outcome A) → fitted size room o ≡ next o room_for
  fitted_last (refuses k) = refl
  fitted_last (answers a) = refl

  room_never : (k : ℕ) → among k (9 ∷ []) ≡ false → (a : A) → Never k (room_for a)
  room_never k e a = go (leb (size a) room)
    where
      go : (b : Bool) → Never {A = A} k (cond b (answers a) (refuses 9))
      go true = never_refuses
      go false = never_other (9 ∷ []) refl e

  room_nine : (a : A) → (room_for a ≡ refuses 9) ↔ (room < size a)
  room_nine a = (λ h. leb-false (size a) room (go (leb (size a) room) h), λ h. rw (lt-leb (size a) room h))
    where
      go : (b : Bool) → cond b (answers a) (refuses 9) ≡ refuses 9 → b ≡ false
      go true h = absurd (never_refuses h)
      go false h = refl

  -- another number than 9 is what it was before
  fitted_other : (o : Outcome A) (k : ℕ) → among k (9 ∷ []) ≡ false → (fitted size room o ≡ refuses k) ↔ (o ≡ refuses k)
  fitted_other o k e = rw (fitted_last o) (first_stage k o room_for (room_never k e))

  -- 9 is given where there is an answer, and it is longer than the room
  fitted_nine : (o : Outcome A) → Never 9 o → (fitted size room o ≡ refuses 9) ↔ ((a : A) × (o ≡ answers a) × (room < size a))
  fitted_nine o n = rw (fitted_last o) (Iff.trans (later_stage 9 o room_for n) (reworded (λ a. same_word) room_nine))

-- ---- binding

module _ (s : Option (Read Statement)) (c : Option (Read Catalogue)) where
  -- 5 to 8 are heard first
  judged_received : (k : ℕ) → among k one_to_four ≡ false → (judged_statement s c ≡ refuses k) ↔ (received s c ≡ refuses k)
  unfolding judged_statement
  judged_received k e = first_stage k (received s c) _ (λ p. heard_never (analyze p.1 p.0) k e)

  -- then 1 to 4
  judged_class : (k : Class)
      → (judged_statement s c ≡ refuses (class_no k)) ↔ ((p : Statement × Catalogue) × Clear s c p × (analyze p.1 p.0 ≡ refuse k))
  unfolding judged_statement
  judged_class k =
      Iff.trans
      (later_stage (class_no k) (received s c) _
      (received_never s c (class_no k) (each_class (λ n. among n five_to_eight) false refl refl refl refl k)))
      (reworded (received_clear s c) (λ p. heard_class (analyze p.1 p.0) k))

  judged_never : (k : ℕ) → among k one_to_four ≡ false → among k five_to_eight ≡ false → Never k (judged_statement s c)
  unfolding judged_statement
  judged_never k e f = never_next k (received s c) _ (received_never s c k f) (λ p. heard_never (analyze p.1 p.0) k e)

module _ (size : BoundStatement → ℕ) (room : ℕ) (s : Option (Read Statement)) (c : Option (Read Catalogue)) where
  bind_judged : (k : ℕ) → among k (9 ∷ []) ≡ false → (bind_outcome size room s c ≡ refuses k) ↔ (judged_statement s c ≡ refuses k)
  unfolding bind_outcome
  bind_judged k e = fitted_other size room (judged_statement s c) k e

  -- 5: "the statement bytes are no statement image"
  pub five_exactly : (bind_outcome size room s c ≡ refuses 5) ↔ (s ≡ none)
  five_exactly = Iff.trans (bind_judged 5 refl) (Iff.trans (judged_received s c 5 refl) (received_five s c))

  -- 6: "the catalogue bytes are no catalogue image", and not 5
  pub six_exactly : (bind_outcome size room s c ≡ refuses 6) ↔ OnlyNoCatalogue s c
  six_exactly = Iff.trans (bind_judged 6 refl) (Iff.trans (judged_received s c 6 refl) (received_six s c))

  -- 7: "either image passes a limit below", and neither 5 nor 6
  pub seven_exactly : (bind_outcome size room s c ≡ refuses 7) ↔ OnlyPastLimit s c
  seven_exactly = Iff.trans (bind_judged 7 refl) (Iff.trans (judged_received s c 7 refl) (received_seven s c))

  -- 8: "an unquoted name in the statement holds a byte of 128 or more", and none of 5, 6, 7
  pub eight_exactly : (bind_outcome size room s c ≡ refuses 8) ↔ OnlyBeyondAscii s c
  eight_exactly = Iff.trans (bind_judged 8 refl) (Iff.trans (judged_received s c 8 refl) (received_eight s c))

  -- 1 to 4: the Rust's `SchemaMismatch`, `ConstraintViolation`, `UnsupportedSql`, `InvalidArgument`, and none of 5, 6, 7, 8
  pub class_exactly : (k : Class)
      → (bind_outcome size room s c ≡ refuses (class_no k)) ↔ ((p : Statement × Catalogue) × Clear s c p × (analyze p.1 p.0 ≡ refuse k))
  class_exactly k = Iff.trans (bind_judged (class_no k) (each_class (λ n. among n (9 ∷ [])) false refl refl refl refl k)) (judged_class s c k)

  -- 9: "the answer is longer than the output", and none of the numbers before
  pub nine_exactly : (bind_outcome size room s c ≡ refuses 9) ↔ ((x : BoundStatement) × (judged_statement s c ≡ answers x) × (room < size x))
  unfolding bind_outcome
  nine_exactly = fitted_nine size room (judged_statement s c) (judged_never s c 9 refl refl)

-- ---- running

-- the row bytes are the row x, and it obeys the table
abbrev pub Obeying : TableSchema → Option Row → Row → Type 0
Obeying t row x = (row ≡ some x) × (row_obeys t x ≡ true)

module _ (s : Option (Read Statement)) (c : Option (Read Catalogue)) where
  -- the statement binds, and to the UPDATE r: none of 1 to 8, nor 12
  pub record Asked (r : Running) : Type 0 where
    pub accepted : Statement × Catalogue
    pub clear : Clear s c accepted
    pub bound : BoundStatement
    pub binds : analyze accepted.1 accepted.0 ≡ given bound
    pub runs : runnable accepted.1 accepted.0 ≡ some r

-- what the value rules make of the row x
abbrev pub changed : Running → Row → Worked Row
changed r x = update_row r.table r.condition r.assignments x

-- 12
asked_never : (o : Option Running) (k : ℕ) → among k (12 ∷ []) ≡ false → Never k (asked o)
asked_never none k e = never_other (12 ∷ []) refl e
asked_never (some r) k e = never_refuses

asked_twelve : (o : Option Running) → (asked o ≡ refuses 12) ↔ ((r : Running) × (o ≡ some r) → ⊥)
asked_twelve none = (λ h r. none-ne-some _ r.1, λ h. refl)
asked_twelve (some r) = (λ h. absurd (never_refuses h), λ n. absurd (n (r, refl)))

asked_answers : (o : Option Running) (r : Running) → (asked o ≡ answers r) ↔ (o ≡ some r)
asked_answers none r = (λ h. absurd (never_answers h), λ h. absurd (none-ne-some _ h))
asked_answers (some q) r = (λ h. cc, λ h. cc)

-- 10
obeying_never : (t : TableSchema) (row : Option Row) (k : ℕ) → among k (10 ∷ []) ≡ false → Never k (obeying t row)
obeying_never t none k e = never_other (10 ∷ []) refl e
obeying_never t (some row) k e = go (row_obeys t row)
  where
    go : (b : Bool) → Never k (cond b (answers row) (refuses 10))
    go true = never_refuses
    go false = never_other (10 ∷ []) refl e

obeying_answers : (t : TableSchema) (row : Option Row) (x : Row) → (obeying t row ≡ answers x) ↔ Obeying t row x
obeying_answers t none x = (λ h. absurd (never_answers h), λ h. absurd (none-ne-some _ h.0))
obeying_answers t (some y) x = (λ h. go (row_obeys t y) refl h, λ h. let e : y ≡ x = cc in rw (e, h.1))
  where
    go : (b : Bool) → row_obeys t y ≡ b → cond b (answers y) (refuses 10) ≡ answers x → Obeying t (some y) x
    go true e h = let f : y ≡ x = cc in (ap some f, rw f at e)
    go false e h = absurd (never_answers h)

obeying_ten : (t : TableSchema) (row : Option Row) → (obeying t row ≡ refuses 10) ↔ ((x : Row) → Obeying t row x → ⊥)
obeying_ten t none = (λ h x o. none-ne-some _ o.0, λ n. refl)
obeying_ten t (some y) = go (row_obeys t y) refl
  where
    go : (b : Bool) → row_obeys t y ≡ b → (cond b (answers y) (refuses 10) ≡ refuses 10) ↔ ((x : Row) → Obeying t (some y) x → ⊥)
    go true e = (λ h. absurd (never_refuses h), λ n. absurd (n y (refl, e)))
    go false e = (λ h x o. let f : x ≡ y = cc in false≢true (sym e ∙ (rw f at o.1)), λ n. refl)

-- 11
worked_never : (w : Worked Row) (k : ℕ) → among k (11 ∷ []) ≡ false → Never k (worked_out w)
worked_never (worked row) k e = never_refuses
worked_never fault k e = never_other (11 ∷ []) refl e
worked_never no_rule k e = never_other (11 ∷ []) refl e

worked_eleven : (w : Worked Row) → (worked_out w ≡ refuses 11) ↔ ((w ≡ fault) ⊎ (w ≡ no_rule))
worked_eleven (worked row) = (λ h. absurd (never_refuses h), λ h. ⊎_elim (λ e. ap worked_out e) (λ e. ap worked_out e) h)
worked_eleven fault = (λ h. inl refl, λ h. refl)
worked_eleven no_rule = (λ h. inr refl, λ h. refl)

module _ (s : Option (Read Statement)) (c : Option (Read Catalogue)) where
  -- all of binding's tests but 9, then 12
  asked_of : Outcome Running
  asked_of = next (received s c) (λ p. next (heard (analyze p.1 p.0)) (λ b. asked (runnable p.1 p.0)))

  ran_asked : (row : Option Row) → ran_statement s c row ≡ next asked_of (ran_on row)
  unfolding ran_statement asked_of
  ran_asked row = simp next_assoc

  asked_exactly : (r : Running) → (asked_of ≡ answers r) ↔ Asked s c r
  unfolding asked_of
  asked_exactly r = (
    λ h.
        let p = (next_answers (received s c) _ r).0 h in
        let b = (next_answers (heard (analyze p.0.1 p.0.0)) _ r).0 p.2 in
        record {
          accepted = p.0;
          clear = (received_clear s c p.0).0 p.1;
          bound = b.0;
          binds = (heard_answers (analyze p.0.1 p.0.0) b.0).0 b.1;
          runs = (asked_answers (runnable p.0.1 p.0.0) r).0 b.2;
        },
    λ a. rw ((received_clear s c a.accepted).1 a.clear, a.binds, a.runs),
  )

  asked_of_never : (k : ℕ) → among k one_to_four ≡ false → among k five_to_eight ≡ false → among k (12 ∷ []) ≡ false → Never k asked_of
  unfolding asked_of
  asked_of_never k four eight twelve =
      never_next k (received s c) _ (received_never s c k eight)
      (λ p.
      never_next k (heard (analyze p.1 p.0)) _ (heard_never (analyze p.1 p.0) k four)
      (λ b. asked_never (runnable p.1 p.0) k twelve))

  asked_first : (k : ℕ) → among k (12 ∷ []) ≡ false → (asked_of ≡ refuses k) ↔ (judged_statement s c ≡ refuses k)
  unfolding asked_of judged_statement
  asked_first k e =
      same_after k (received s c) _ _ (λ p. first_stage k (heard (analyze p.1 p.0)) _ (λ b. asked_never (runnable p.1 p.0) k e))

  asked_none : (asked_of ≡ refuses 12) ↔ ((b : BoundStatement) × (judged_statement s c ≡ answers b) × (IsUpdate b → ⊥))
  unfolding asked_of judged_statement
  asked_none = (only, all)
    where
      only : asked_of ≡ refuses 12 → (b : BoundStatement) × (judged_statement s c ≡ answers b) × (IsUpdate b → ⊥)
      only h =
          let p = (later_stage 12 (received s c) _ (received_never s c 12 refl)).0 h in
          let r = analyze p.0.1 p.0.0 in
          let b = (later_stage 12 (heard r) _ (heard_never r 12 refl)).0 p.2 in
          let e = (heard_answers r b.0).0 b.1 in (
            b.0,
            (next_answers (received s c) _ b.0).1 (p.0, p.1, b.1),
            λ u. (asked_twelve (runnable p.0.1 p.0.0)).0 b.2 ((runnable_exactly p.0.1 p.0.0 b.0 e).1 u),
          )

      all : (b : BoundStatement) × (judged_statement s c ≡ answers b) × (IsUpdate b → ⊥) → asked_of ≡ refuses 12
      all h =
          let p = (next_answers (received s c) _ h.0).0 h.1 in
          let e = (heard_answers (analyze p.0.1 p.0.0) h.0).0 p.2 in
          rw (p.1, e)
          ((asked_twelve (runnable p.0.1 p.0.0)).1 (λ r. h.2 ((runnable_exactly p.0.1 p.0.0 h.0 e).0 r)))

-- every number below 9 is one of binding's
below_nine : (k : ℕ) → k < 9 → (n : ℕ) → 9 ≤ n → among k (n ∷ []) ≡ false
below_nine k h n e = rw (ne_eqb k n (omega arith))

module _ (row : Option Row) where
  -- 10 comes before 11
  on_ten : (r : Running) → (ran_on row r ≡ refuses 10) ↔ ((x : Row) → Obeying r.table row x → ⊥)
  on_ten r =
      Iff.trans (first_stage 10 (obeying r.table row) _ (λ x. worked_never (changed r x) 10 refl)) (obeying_ten r.table row)

  on_eleven : (r : Running)
      → (ran_on row r ≡ refuses 11) ↔ ((x : Row) × Obeying r.table row x × ((changed r x ≡ fault) ⊎ (changed r x ≡ no_rule)))
  on_eleven r =
      Iff.trans (later_stage 11 (obeying r.table row) _ (obeying_never r.table row 11 refl))
      (reworded (obeying_answers r.table row) (λ x. worked_eleven (changed r x)))

  on_never : (k : ℕ) → among k (10 ∷ []) ≡ false → among k (11 ∷ []) ≡ false → (r : Running) → Never k (ran_on row r)
  on_never k e f r = never_next k (obeying r.table row) _ (obeying_never r.table row k e) (λ x. worked_never (changed r x) k f)

module _ (size : Row → ℕ) (room : ℕ) (s : Option (Read Statement)) (c : Option (Read Catalogue)) (row : Option Row) where
  -- another number than 9
  run_other : (k : ℕ) → among k (9 ∷ []) ≡ false → (run_outcome size room s c row ≡ refuses k) ↔ (next (asked_of s c) (ran_on row) ≡ refuses k)
  unfolding run_outcome
  run_other k e = Iff.trans (fitted_other size room (ran_statement s c row) k e) (rw (ran_asked s c row) same_word)

  -- 10 and 11 come after 12
  after_asking : {P : Running → Type 0} (k : ℕ) → among k (9 ∷ []) ≡ false → among k one_to_four ≡ false → among k five_to_eight ≡ false
      → among k (12 ∷ []) ≡ false → ((r : Running) → (ran_on row r ≡ refuses k) ↔ P r)
      → (run_outcome size room s c row ≡ refuses k) ↔ ((r : Running) × Asked s c r × P r)
  after_asking k nine four eight twelve e =
      Iff.trans (run_other k nine)
      (Iff.trans (later_stage k (asked_of s c) (ran_on row) (asked_of_never s c k four eight twelve)) (reworded (asked_exactly s c) e))

  -- "it tests all of binding's but 9": a number below 9 is given exactly where binding gives it, whatever its room
  pub run_as_bind : (bound_size : BoundStatement → ℕ) (boundRoom : ℕ) (k : ℕ) → k < 9
      → (run_outcome size room s c row ≡ refuses k) ↔ (bind_outcome bound_size boundRoom s c ≡ refuses k)
  run_as_bind bound_size boundRoom k h =
      let other : (n : ℕ) → 9 ≤ n → among k (n ∷ []) ≡ false = below_nine k h in
      let judged = bind_judged bound_size boundRoom s c k (other 9 (omega arith)) in
      Iff.trans (run_other k (other 9 (omega arith)))
      (Iff.trans (first_stage k (asked_of s c) (ran_on row) (on_never row k (other 10 (omega arith)) (other 11 (omega arith))))
      (Iff.trans (asked_first s c k (other 12 (omega arith))) (judged.1, judged.0)))

  -- 12: "a run is asked of a bound statement that is no UPDATE", and none of 1 to 8
  pub twelve_exactly : (run_outcome size room s c row ≡ refuses 12)
      ↔ ((b : BoundStatement) × (judged_statement s c ≡ answers b) × (IsUpdate b → ⊥))
  twelve_exactly = Iff.trans (run_other 12 refl) (Iff.trans (first_stage 12 (asked_of s c) (ran_on row) (on_never row 12 refl refl)) (asked_none s c))

  -- 10: "the row bytes are no row obeying the bound table", and none of 1 to 8 and 12
  pub ten_exactly : (run_outcome size room s c row ≡ refuses 10) ↔ ((r : Running) × Asked s c r × ((x : Row) → Obeying r.table row x → ⊥))
  ten_exactly = after_asking 10 refl refl refl refl (on_ten row)

  -- 11: "arithmetic fault", and none of 1 to 8, 12 and 10. (`no_rule` never happens to a statement that binds.)
  pub eleven_exactly : (run_outcome size room s c row ≡ refuses 11)
      ↔ ((r : Running) × Asked s c r × ((x : Row) × Obeying r.table row x × ((changed r x ≡ fault) ⊎ (changed r x ≡ no_rule))))
  eleven_exactly = after_asking 11 refl refl refl refl (on_eleven row)

  -- 9: "the answer is longer than the output", and none of the numbers before
  pub run_nine_exactly : (run_outcome size room s c row ≡ refuses 9) ↔ ((new : Row) × (ran_statement s c row ≡ answers new) × (room < size new))
  unfolding run_outcome
  run_nine_exactly =
      fitted_nine size room (ran_statement s c row)
      (rw (ran_asked s c row) (never_next 9 (asked_of s c) (ran_on row) (asked_of_never s c 9 refl refl refl) (on_never row 9 refl refl)))
