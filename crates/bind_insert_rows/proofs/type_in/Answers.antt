-- `bind_insert_rows::type_in` meets its contract.
use mathlib.Core.Path.{sym, ap, ◌∙◌}
use Prim.Native.Nat.{ℕ, ◌%◌}
use Rattle.bind_insert_columns.specs.Coded.{code_int, code_text, code_bool}
use Rattle.bind_insert_rows.proofs.type_in.Goals as goal

pub returns-then-ty-eq0 : goal.returns-then-ty-eq0
returns-then-ty-eq0 c = λ k h. code_int k (sym (ap (λ (n : ℕ). n % 4) h) ∙ c.if-ty-eq0.true)

pub returns-then-ty-eq1 : goal.returns-then-ty-eq1
returns-then-ty-eq1 c = λ k h. code_text k (sym (ap (λ (n : ℕ). n % 4) h) ∙ c.if-ty-eq1.true)

pub returns : goal.returns
returns c = λ k h. code_bool k (λ z. c.if-ty-eq0.false (ap (λ (n : ℕ). n % 4) h ∙ z)) (λ z. c.if-ty-eq1.false (ap (λ (n : ℕ). n % 4) h ∙ z))
