-- `leaves::stored` meets its contract: by the code of the value.
use native.Mathlib.Omega.{arith}
use mir.Syntax.{w64}
use mir.Val.{SFits}
use mir.Facts.{to_z-of_z}
use Rattle.image_value.specs.Values.{code_shows}
use Rattle.run_expression.proofs.Places.{known}
use Rattle.run_expression.proofs.Stored.{is_value, int_stored, text_stored, bool_stored, null_stored, text_short}
use Rattle.run_expression.proofs.leaves.stored.Goals as goal

pub type_code-requires : goal.type_code-requires
type_code-requires c = is_value c.args.r.now c.args.n _ c.value_at-v.ensures c.requires.image

pub int_of-requires : goal.int_of-requires
int_of-requires c = code_shows (is_value c.args.r.now c.args.n _ c.value_at-v.ensures c.requires.image) c.type_code.ensures 0 c.in-0.is

pub text_of-requires : goal.text_of-requires
text_of-requires c = code_shows (is_value c.args.r.now c.args.n _ c.value_at-v.ensures c.requires.image) c.type_code.ensures 1 c.in-1.is

pub bool_of-requires : goal.bool_of-requires
bool_of-requires c = code_shows (is_value c.args.r.now c.args.n _ c.value_at-v.ensures c.requires.image) c.type_code.ensures 2 c.in-2.is

pub returns-in-0-clause-value : goal.returns-in-0-clause-value
returns-in-0-clause-value c = λ x h.
    let fits : SFits w64 c.int_of.result = record { sfits = c.int_of.type_inv } in
    rw (to_z-of_z fits) (int_stored c.args.r.now c.args.n _ c.value_at-v.ensures c.type_code.ensures x h c.in-0.is c.int_of.ensures)

pub returns-in-1-clause-value : goal.returns-in-1-clause-value
returns-in-1-clause-value c = λ x h. text_stored c.args.r.now c.args.n _ c.value_at-v.ensures c.type_code.ensures x h c.in-1.is c.text_of.ensures

pub returns-in-1-clause-short : goal.returns-in-1-clause-short
returns-in-1-clause-short c =
    text_short (known c.type_inv.r) c.requires (λ x h. text_stored c.args.r.now c.args.n _ c.value_at-v.ensures c.type_code.ensures x h c.in-1.is c.text_of.ensures)

pub returns-in-2-clause-value : goal.returns-in-2-clause-value
returns-in-2-clause-value c = λ x h. bool_stored c.args.r.now c.args.n _ c.value_at-v.ensures c.type_code.ensures x h c.in-2.is c.bool_of.ensures

pub returns-in_default-clause-value : goal.returns-in_default-clause-value
returns-in_default-clause-value c = λ x h.
    null_stored c.args.r.now c.args.n _ c.value_at-v.ensures c.type_code.ensures x h (λ e. omega arith) (λ e. omega arith) (λ e. omega arith)
