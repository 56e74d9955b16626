-- `bind_insert_columns::code_of` meets its contract.
use mathlib.Core.Path.{ap, ◌∙◌}
use Prim.Native.Nat.{ℕ, ◌+◌}
use Rattle.bind_insert_columns.specs.Coded.{code_nullable, code_not_null}
use Rattle.bind_insert_columns.proofs.code_of.Goals as goal

pub returns-then-nullable : goal.returns-then-nullable
returns-then-nullable c = ap (λ (n : ℕ). n + 4) c.type_code-code.ensures.0 ∙ code_nullable c.args.ty c.if-nullable.true

pub returns : goal.returns
returns c = c.type_code-code.ensures.0 ∙ code_not_null c.args.ty c.if-nullable.false
