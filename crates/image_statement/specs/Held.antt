-- What a statement holds: the raw text, the kind, and what follows the kind.
-- Assumes nothing.
use Rattle.std.specs.Prelude.{◌≡◌, refl, Bool, List, [], ℕ, ◌<◌, length, drop, get_or, eqb}
use Rattle.std.proofs.Common.{subst}
use Rattle.bytes_format.specs.Ways.{some_code}
use Rattle.bytes_format.proofs.Formats.{nothing, mark, both, alone}
use Rattle.bytes_bundle.specs.Bundle.{parts_of, IsRecord}
use Rattle.bytes_bundle.specs.Laws.{some_there, via_record_there, via_record_value}
use Rattle.bytes_bundle.specs.Fields.{both_spot, field_value}
use Rattle.bytes_bundle.specs.Heads.{mark_spot}
use Rattle.bytes_bundle.specs.Values.{lone_mark, mark_is, both_value}
use Rattle.bytes_bundle.specs.Cases.{ChoiceHas, choice_has}
use Rattle.rules.specs.Statements.{Kind, create_table, insert, query, update, delete, begin, commit, rollback, show_tables, other_kind, Statement}
use Rattle.image_parts.specs.Layout.{create, insertion, selection, updating, deletion, kind_cases, which_kind, kind_made, kind, statement}
use Rattle.image_statement.specs.Shapes.{statement_parts}
use Rattle.image_parts.specs.NamesHeld.{text_is_all}
use Rattle.bytes_bundle.specs.Held.{Is, Holds}

-- ---- the kind

-- 0 to 9, the place among the kinds
abbrev pub kind_no : Kind → ℕ
kind_no k = some_code kind_cases (which_kind k)

-- the bytes behind a kind
abbrev pub KindHolds : Kind → List ℕ → Type 0
KindHolds (create_table c) b = Holds create b c
KindHolds (insert i) b = Holds insertion b i
KindHolds (query q) b = Holds selection b q
KindHolds (update u) b = Holds updating b u
KindHolds (delete d) b = Holds deletion b d
KindHolds (begin m) b = Holds (alone mark) b m
KindHolds (commit m) b = Holds (alone mark) b m
KindHolds (rollback m n) b = Holds (alone (both mark mark)) b (m, n)
KindHolds (show_tables m) b = Holds (alone mark) b m
KindHolds other_kind b = Holds nothing b tt

pub kind_has : (s : List ℕ) (v : Kind) → Holds kind s v → ChoiceHas kind_cases which_kind s v
unfolding kind
kind_has s v e = choice_has kind_cases which_kind kind_made refl refl s e

pub kind_holds : (s : List ℕ) (v : Kind) → ChoiceHas kind_cases which_kind s v → KindHolds v (drop 1 s)
kind_holds s (create_table c) h = h.content
kind_holds s (insert i) h = h.content
kind_holds s (query q) h = h.content
kind_holds s (update u) h = h.content
kind_holds s (delete d) h = h.content
kind_holds s (begin m) h = h.content
kind_holds s (commit m) h = h.content
kind_holds s (rollback m n) h = h.content
kind_holds s (show_tables m) h = h.content
kind_holds s other_kind h = h.content

-- two marks alone
pub record TwoMarks (s : List ℕ) (m n : Bool) : Type 0 where
  pub wide : length s ≡ 2
  pub first : eqb (get_or s 0 0) 1 ≡ m
  pub second : eqb (get_or s 1 0) 1 ≡ n

pub two_marks_lem : (s : List ℕ) (m n : Bool) → Holds (alone (both mark mark)) s (m, n) → TwoMarks s m n
two_marks_lem s m n e =
    let k = field_value (both_spot mark_spot mark_spot) s e in
    let a = both_value mark_spot mark_spot 0 s k.1 in
    record { wide = k.0; first = mark_is (get_or s 0 0) a.0; second = mark_is (get_or s 1 0) a.1 }

-- ---- the statement

pub record StatementHas (s : List ℕ) (v : Statement) : Type 0 where
  pub whole : IsRecord 2 2 s
  pub raw : get_or (parts_of 2 s) 0 [] ≡ v.raw
  pub kind : ChoiceHas kind_cases which_kind (get_or (parts_of 2 s) 1 []) v.kind

pub statement_has : (s : List ℕ) (v : Statement) → Holds statement s v → StatementHas s v
unfolding statement
statement_has s v e =
    let a = via_record_value 2 statement_parts s _ e in
    subst (StatementHas s) a.2 (record {
      whole = via_record_there 2 statement_parts s _ e;
      raw = text_is_all _ a.1.0;
      kind = kind_has _ _ a.1.1.0;
    })

-- ---- what the accessors may rely on

pub statement_whole : {s : List ℕ} → Is statement s → IsRecord 2 2 s
statement_whole {s} i = some_there (statement.read s) i.there (λ v e. (statement_has s v e).whole)

pub kind_wide : {s : List ℕ} → Is statement s → 0 < length (get_or (parts_of 2 s) 1 [])
kind_wide {s} i = some_there (statement.read s) i.there (λ v e. (statement_has s v e).kind.wide)

pub mark_wide : {s : List ℕ} → Is (alone mark) s → length s ≡ 1
mark_wide {s} i = some_there ((alone mark).read s) i.there (λ m e. (lone_mark s e).wide)

pub marks_wide : {s : List ℕ} → Is (alone (both mark mark)) s → length s ≡ 2
marks_wide {s} i = some_there ((alone (both mark mark)).read s) i.there (λ p e. (two_marks_lem s p.0 p.1 e).wide)
