-- The rows of an INSERT held against the bytes of the target columns, value by value.
-- Assumes nothing.
use Rattle.std.specs.Prelude.{◌≡◌, List, [], ◌∷◌, ℕ, zero, suc, ◌+◌, ◌≤◌, ◌<◌, length, drop, get_or, Result, Ok, Err}
use Rattle.std.proofs.Math.Path.{refl}
use Rattle.std.proofs.Common.{sym, ap, ap₂, ◌∙◌, add-one, arith, drop_of_length-le, eq-eqb, ne_eqb}
use Rattle.std.proofs.Math.Bool.{not}
use Rattle.bytes_format.specs.Format.{Format}
use Rattle.bytes_format.proofs.Formats.{list_of}
use Rattle.image_value.specs.Parts.{value}
use Rattle.bytes_bundle.specs.Bundle.{parts_of}
use Rattle.bytes_bundle.specs.Held.{Is, Holds, is_held, held}
use Rattle.bytes_bundle.specs.Ahead.{HoldEach, FirstHeld, hold_first, hold_none, list_holds}
use Rattle.bytes_bundle.specs.Numbered.{IsPart, valued}
use Rattle.image_expression.specs.Expression.{expression}
use Rattle.rules.specs.declared.Class.{Class}
use Rattle.rules.specs.declared.Class.TheVariants.{ConstraintViolation}
use Rattle.rules.specs.declared.Refusal.{Refusal}
use Rattle.rules.specs.Answers.{Answer, given, refused, each, ◌>>=◌, ◌>>◌, Verdict, fine, flaw, judged}
use Rattle.rules.specs.Bound.{Value, BoundColumnRef}
use Rattle.rules.specs.Statements.{Expr}
use Rattle.rules.specs.Analyze.{insert_literal, value_fit, insert_values, insert_row}
use Rattle.bind_operators.specs.Told.{told}
use Rattle.std.specs.Prelude.{Result, Ok, Err, IfOk}
use Rattle.bind_table.specs.Told.{sized}
use Rattle.bind_table.specs.Steps.{classed, step_on, step_off, test_on, test_off, judged_on, judged_off, sized_given, sized_refused, sized_is, sized_off, sized_as}
use Rattle.bind_insert_columns.specs.Coded.{column_code, Coded, coded_at}
use Rattle.bind_insert_columns.specs.Grown.{Grown, grown_none, grown_more, grown_refused, grown_given, each_on, each_off, each_none}

-- r is how long the image is of what F makes of the value that s holds, for n columns whose bytes the array begins with
abbrev pub Measures : {A B : Type 0} → List ℕ → ℕ → Format A → List ℕ → Format B → (List BoundColumnRef → A → Answer B) → Result ℕ Refusal → Type 0
Measures {A} codes n f s g F r = (cs : List BoundColumnRef) (a : A) → Coded codes cs → n ≡ length cs → Holds f s a → r ≡ sized g (F cs a)

-- ---- one value: a literal that fits its column

unfoldable pub insert_value : Expr → BoundColumnRef → Answer Value
insert_value e c = insert_literal e >>= (λ v. judged (value_fit v c) >> given v)

abbrev pub fit_told : Result Unit Class → ℕ → Result ℕ Refusal
fit_told (Ok u) n = Ok n
fit_told (Err k) n = Err (classed k)

pub fit_most : (f : Result Unit Class) {n k : ℕ} → n ≤ k → IfOk (fit_told f n) (λ m. m ≤ k)
fit_most (Ok u) h = h
fit_most (Err j) h = tt

module _ (x : Expr) (c : BoundColumnRef) where
  pub value_told : {v : Value} {n : ℕ} → insert_literal x ≡ given v → n ≡ length (value.write v) → fit_told (told (value_fit v c)) n ≡ sized value (insert_value x c)
  unfolding insert_value
  value_told {v} {n} e h = go (value_fit v c) refl
    where
      go : (j : Verdict Unit) → value_fit v c ≡ j → fit_told (told j) n ≡ sized value (insert_value x c)
      go (fine u) q = sized_given value (step_on _ e ∙ judged_on _ q) h
      go (flaw k) q = sized_refused value (step_on _ e ∙ judged_off _ q)

  pub value_off : {r : Refusal} → insert_literal x ≡ refused r → Err r ≡ sized value (insert_value x c)
  unfolding insert_value
  value_off e = sized_refused value (step_off _ e)

-- ---- a row

pub values_next : (c : BoundColumnRef) (cs : List BoundColumnRef) (e : Expr) (es : List Expr)
    → insert_values (c ∷ cs) (e ∷ es) ≡ (insert_value e c >>= (λ v. insert_values cs es >>= (λ vs. given (v ∷ vs))))
unfolding insert_values insert_value
values_next c cs e es = go (insert_literal e)
  where
    fits : (j : Verdict Unit) (v : Value)
        → (judged j >> (insert_values cs es >>= (λ vs. given (v ∷ vs)))) ≡ ((judged j >> given v) >>= (λ v. insert_values cs es >>= (λ vs. given (v ∷ vs))))
    fits (fine u) v = refl
    fits (flaw k) v = refl

    go : (a : Answer Value)
        → (a >>= (λ v. judged (value_fit v c) >> (insert_values cs es >>= (λ vs. given (v ∷ vs)))))
        ≡ ((a >>= (λ v. judged (value_fit v c) >> given v)) >>= (λ v. insert_values cs es >>= (λ vs. given (v ∷ vs))))
    go (given v) = fits (value_fit v c) v
    go (refused r) = refl

-- an element of a list, at a number below its length
pub drop_turn : {A : Type 0} (j : ℕ) (l : List A) → j < length l → (x : A) × (drop j l ≡ x ∷ drop (j + 1) l)
drop_turn {A} j l h = let t = go j l h in (t.0, t.1 ∙ ap (λ (k : ℕ). t.0 ∷ drop k l) (sym (add-one j)))
  where
    go : (j : ℕ) (l : List A) → j < length l → (x : A) × (drop j l ≡ x ∷ drop (suc j) l)
    go j [] h = absurd (omega arith)
    go zero (x ∷ l) h = (x, refl)
    go (suc j) (y ∷ l) h = go j l (omega arith)

-- a loop over the values of a row that has reached value j
pub record Valued (row codes : List ℕ) (n j total : ℕ) : Type 0 where
  pub at : (cs : List BoundColumnRef) (es : List Expr) → Coded codes cs → n ≡ length cs → Holds (list_of 2 expression) row es
      → Grown value (insert_values cs es) (insert_values (drop j cs) (drop j es)) j total

pub valued_none : {row codes : List ℕ} {n : ℕ} → Valued row codes n 0 4
valued_none = record { at = λ cs es k q h. grown_none value (insert_values cs es) }

module _ {row codes p : List ℕ} {n j total : ℕ} (w : Valued row codes n j total) (d : IsPart 2 row j p) (few : j < n) {m : Result ℕ Refusal}
    (says : (x : Expr) (c : BoundColumnRef) → Holds expression p x → get_or codes j 0 ≡ column_code c → m ≡ sized value (insert_value x c)) where
  pub valued_on : {k : ℕ} → m ≡ Ok k → Valued row codes n (j + 1) (total + (4 + k))
  valued_on {k} e = record {
    at = λ cs es b q h.
        let t = valued expression d h in
        let u = drop_turn j cs (omega (arith, q)) in
        let s = sized_is value {m = m} (says t.value u.0 t.holds (coded_at j b u.1)) e in
        grown_more (w.at cs es b q h) (insert_values (drop (j + 1) cs) (drop (j + 1) es)) s.value
        (ap₂ insert_values u.1 t.rest ∙ values_next u.0 (drop (j + 1) cs) t.value (drop (j + 1) es) ∙ step_on _ s.gives) s.long;
  }

  pub valued_off : {r : Refusal} → m ≡ Err r → (cs : List BoundColumnRef) (es : List Expr) → Coded codes cs → n ≡ length cs → Holds (list_of 2 expression) row es
      → Err r ≡ sized (list_of 4 value) (insert_values cs es)
  valued_off e cs es b q h =
      let t = valued expression d h in
      let u = drop_turn j cs (omega (arith, q)) in
      grown_refused (w.at cs es b q h)
      (ap₂ insert_values u.1 t.rest ∙ values_next u.0 (drop (j + 1) cs) t.value (drop (j + 1) es)
      ∙ step_off _ (sized_off value {m = m} (says t.value u.0 t.holds (coded_at j b u.1)) e))

pub valued_end : {row codes : List ℕ} {n j total : ℕ} → Valued row codes n j total → n ≤ j
    → (cs : List BoundColumnRef) (es : List Expr) → Coded codes cs → n ≡ length cs → Holds (list_of 2 expression) row es
    → Ok total ≡ sized (list_of 4 value) (insert_values cs es)
unfolding insert_values
valued_end {j = j} w l cs es b q h =
    grown_given (w.at cs es b q h) (ap (λ (m : List BoundColumnRef). insert_values m (drop j es)) (drop_of_length-le cs {i = j} (omega (arith, q))) ∙ none (drop j es))
  where
    none : (es : List Expr) → insert_values [] es ≡ given []
    none [] = refl
    none (e ∷ es) = refl

-- the number of the values is told before the values
module _ (cs : List BoundColumnRef) (es : List Expr) where
  pub row_on : {m : Result ℕ Refusal} → length es ≡ length cs → m ≡ sized (list_of 4 value) (insert_values cs es) → m ≡ sized (list_of 4 value) (insert_row cs es)
  unfolding insert_row
  row_on q h = sized_as (list_of 4 value) (test_on _ _ (ap not (eq-eqb (length es) (length cs) q))) h

  pub row_off : (length es ≡ length cs → ⊥) → Err (classed ConstraintViolation) ≡ sized (list_of 4 value) (insert_row cs es)
  unfolding insert_row
  row_off q = sized_refused (list_of 4 value) (test_off _ _ (ap not (ne_eqb (length es) (length cs) q)))

-- ---- the rows

-- a loop over the rows that has the parts ps before it
pub record Rowed (rows codes : List ℕ) (n : ℕ) (ps : List (List ℕ)) (total : ℕ) : Type 0 where
  pub at : (rs : List (List Expr)) → Holds (list_of 2 (list_of 2 expression)) rows rs → (us : List (List Expr)) × HoldEach (list_of 2 expression) ps us
      × ((cs : List BoundColumnRef) → Coded codes cs → n ≡ length cs → (i : ℕ) × Grown (list_of 4 value) (each (insert_row cs) rs) (each (insert_row cs) us) i total)

pub rowed_none : {rows codes : List ℕ} {n : ℕ} {ps : List (List ℕ)} → ps ≡ parts_of 2 rows → Rowed rows codes n ps 4
rowed_none {rows = rows} e = record {
  at = λ rs h. let l = list_holds 2 (list_of 2 expression) rows h in (rs, rw e l, λ cs k q. (0, grown_none (list_of 4 value) (each (insert_row cs) rs)));
}

module _ {rows codes p : List ℕ} {n total : ℕ} {ps qs : List (List ℕ)} (w : Rowed rows codes n ps total) (d : ps ≡ p ∷ qs) where
  pub rowed_part : Is (list_of 2 (list_of 2 expression)) rows → Is (list_of 2 expression) p
  rowed_part k = held k (λ rs h. let r = w.at rs h in is_held {f = list_of 2 expression} (hold_first (rw d at r.1)).holds)

  module _ {m : Result ℕ Refusal} (says : Measures codes n (list_of 2 expression) p (list_of 4 value) insert_row m) where
    pub rowed_on : {k : ℕ} → m ≡ Ok k → Rowed rows codes n qs (total + (4 + k))
    rowed_on e = record {
      at = λ rs h.
          let r = w.at rs h in
          let t : FirstHeld (list_of 2 expression) p qs r.0 = hold_first (rw d at r.1) in (
            t.others,
            t.each,
            λ cs b q.
                let g = r.2 cs b q in
                let s = sized_is (list_of 4 value) {m = m} (says cs t.value b q t.holds) e in
                (g.0 + 1, grown_more g.1 (each (insert_row cs) t.others) s.value (ap (each (insert_row cs)) t.is ∙ each_on (insert_row cs) t.value t.others s.gives) s.long),
          );
    }

    pub rowed_off : {r : Refusal} → m ≡ Err r → Measures codes n (list_of 2 (list_of 2 expression)) rows (list_of 4 (list_of 4 value)) (λ cs. each (insert_row cs)) (Err r)
    rowed_off e cs rs b q h =
        let r = w.at rs h in
        let t : FirstHeld (list_of 2 expression) p qs r.0 = hold_first (rw d at r.1) in
        grown_refused (r.2 cs b q).1
        (ap (each (insert_row cs)) t.is ∙ each_off (insert_row cs) t.value t.others (sized_off (list_of 4 value) {m = m} (says cs t.value b q t.holds) e))

pub rowed_end : {rows codes : List ℕ} {n total : ℕ} {ps : List (List ℕ)} → Rowed rows codes n ps total → ps ≡ []
    → Measures codes n (list_of 2 (list_of 2 expression)) rows (list_of 4 (list_of 4 value)) (λ cs. each (insert_row cs)) (Ok total)
rowed_end w e cs rs b q h =
    let r = w.at rs h in
    grown_given (r.2 cs b q).1 (ap (each (insert_row cs)) (hold_none (rw e at r.1)) ∙ each_none (insert_row cs))
