-- `run_values::two_values` meets its contract.
use native.Mathlib.Omega.{arith}
use Rattle.run_values.proofs.Rules.{left_null, right_null, beside_int, beside_bool, beside_text}
use Rattle.run_values.proofs.two_values.Goals as goal
use Rattle.run_values.proofs.two_values.Goals.{in_default-Null-via-in-Int+in-Null, in_default-Null-via-in-Bool+in-Null, in_default-Null-via-in-Text+in-Null}
use Rattle.run_values.proofs.two_values.Goals.{in_default-via-in-Int+in_default, in_default-via-in-Bool+in_default, in_default-via-in-Text+in_default}

pub returns-in-Null-default-clause-value : goal.returns-in-Null-default-clause-value
returns-in-Null-default-clause-value c = rw c.in-Null-default.is-0 (left_null c.requires.0 (omega arith) _)

pub returns-in_default-Null-clause-value : goal.returns-in_default-Null-clause-value
returns-in_default-Null-clause-value c =
    elim c.in_default-Null.branch [
      | in_default-Null-via-in-Int+in-Null w ↦ rw w.in_default-Null.is-1 (right_null c.requires.0 (omega arith) _)
      | in_default-Null-via-in-Bool+in-Null w ↦ rw w.in_default-Null.is-1 (right_null c.requires.0 (omega arith) _)
      | in_default-Null-via-in-Text+in-Null w ↦ rw w.in_default-Null.is-1 (right_null c.requires.0 (omega arith) _)
    ]

pub returns-in_default-clause-value : goal.returns-in_default-clause-value
returns-in_default-clause-value c =
    elim c.in_default.branch [
      | in_default-via-in-Int+in_default w ↦ (let h = w.in_default in rw h.is-0 (beside_int c.requires.0 (omega arith) _ c.args.b h.not-Null-1 h.not-Int-1))
      | in_default-via-in-Bool+in_default w ↦ (let h = w.in_default in rw h.is-0 (beside_bool c.requires.0 (omega arith) _ c.args.b h.not-Null-1 h.not-Bool-1))
      | in_default-via-in-Text+in_default w ↦ (let h = w.in_default in rw h.is-0 (beside_text c.requires.0 (omega arith) _ c.args.b h.not-Null-1 h.not-Text-1))
    ]
