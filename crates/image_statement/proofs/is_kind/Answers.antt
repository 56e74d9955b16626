-- `image_statement::is_kind` meets its contract.
use mathlib.Core.Path.{◌≡◌, refl, sym, ◌∙◌}
use Prim.Native.Nat.{ℕ, ◌+◌, ◌≤◌}
use native.Mathlib.Omega.{arith}
use Rattle.bytes_bundle.specs.Heads.{told, no_code, at_code, bare_code, bad_code, are_marks, one_mark, more_marks, marks_are}
use Rattle.image_statement.specs.Shapes.{kind_chosen}
use borrow.Author.Rules.{rules}
use Rattle.image_statement.proofs.is_kind.Goals as goal

pub returns-then-s-eq0 : goal.returns-then-s-eq0
returns-then-s-eq0 c = no_code (kind_chosen _) c.if-s-eq0.true

pub returns-in-0 : goal.returns-in-0
returns-in-0 c = at_code (kind_chosen _) 0 (search rules) (search rules) (cc)

pub returns-in-1 : goal.returns-in-1
returns-in-1 c = at_code (kind_chosen _) 1 (search rules) (search rules) (cc)

pub returns-in-2 : goal.returns-in-2
returns-in-2 c = at_code (kind_chosen _) 2 (search rules) (search rules) (cc)

pub returns-in-3 : goal.returns-in-3
returns-in-3 c = at_code (kind_chosen _) 3 (search rules) (search rules) (cc)

pub returns-in-4 : goal.returns-in-4
returns-in-4 c = at_code (kind_chosen _) 4 (search rules) (search rules) (cc)

pub returns-in-5 : goal.returns-in-5
returns-in-5 c =
    at_code (kind_chosen _) 5 (search rules) (search rules)
    (told (are_marks 1) c.are_marks.ensures c.behind-body.ensures ∙ sym (marks_are one_mark _))

pub returns-in-6 : goal.returns-in-6
returns-in-6 c =
    at_code (kind_chosen _) 6 (search rules) (search rules)
    (told (are_marks 1) c.are_marks-in-6.ensures c.behind-body.ensures ∙ sym (marks_are one_mark _))

pub returns-in-7 : goal.returns-in-7
returns-in-7 c =
    at_code (kind_chosen _) 7 (search rules) (search rules)
    (told (are_marks 2) c.are_marks-in-7.ensures c.behind-body.ensures ∙ sym (marks_are (more_marks one_mark) _))

pub returns-in-8 : goal.returns-in-8
returns-in-8 c =
    at_code (kind_chosen _) 8 (search rules) (search rules)
    (told (are_marks 1) c.are_marks-in-8.ensures c.behind-body.ensures ∙ sym (marks_are one_mark _))

pub returns-in-9 : goal.returns-in-9
returns-in-9 c = bare_code (kind_chosen _) 9 (search rules) (search rules) refl

-- none of five numbers in a row
five : (k x : ℕ) → k ≤ x → (x ≡ k → ⊥) → (x ≡ k + 1 → ⊥) → (x ≡ k + 2 → ⊥) → (x ≡ k + 3 → ⊥) → (x ≡ k + 4 → ⊥) → k + 5 ≤ x
five k x h a b c d e = omega arith

pub returns-in_default : goal.returns-in_default
returns-in_default c =
    let high = c.in_default.in_default-own.rest in
    let low = high.0.0.0.0.0 in
    bad_code (kind_chosen _)
    (five 5 _ (five 0 _ (search rules) low.0.0.0.0.1 low.0.0.0.1 low.0.0.1 low.0.1 low.1) high.0.0.0.0.1 high.0.0.0.1
    high.0.0.1 high.0.1 high.1)
