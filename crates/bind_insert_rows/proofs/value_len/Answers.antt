-- `bind_insert_rows::value_len` meets its contract: in each arm the literal is known.
use Rattle.std.specs.Prelude.{◌≤◌, IfOk}
use mathlib.Core.Path.{refl, sym, ap, ◌∙◌, subst}
use native.Mathlib.Omega.{arith}
use lib.ListN.{length}
use Rattle.rules.specs.Bound.{Value}
use Rattle.std.specs.Prelude.{Result, Ok}
use Rattle.rules.specs.declared.Class.{Class}
use Rattle.bind_literal.specs.Scalars.{value_of, text_in}
use Rattle.bind_insert_rows.specs.Values.{fit_told, fit_most, value_told, value_off}
use Rattle.bind_insert_rows.proofs.value_len.Goals as goal

pub text_len-requires : goal.text_len-requires
text_len-requires c = omega (arith, c.text_of.ensures.1, c.requires.1)

pub returns-in-Ok-Int : goal.returns-in-Ok-Int
returns-in-Ok-Int c =
    let e = c.args.e.now in
    let n = c.int_len.result in (
      subst (λ m. IfOk m (λ k. k ≤ 65537)) (sym c.fitted.ensures) (fit_most c.fits.result (omega (arith, c.int_len.ensures.0))),
      λ x k h q. c.fitted.ensures ∙ ap (λ (f : Result Unit Class). fit_told f n) (c.fits.ensures (Value.int _) k refl q)
          ∙ value_told x k (c.insert_literal.ensures x h ∙ ap (value_of (text_in e)) (c.in-Ok-Int.is ∙ ap Ok c.in-Ok-Int.field-0-is)) (c.int_len.ensures.1 _),
    )

pub returns-in-Ok-Text : goal.returns-in-Ok-Text
returns-in-Ok-Text c =
    let e = c.args.e.now in
    let n = c.text_len.result in (
      subst (λ m. IfOk m (λ k. k ≤ 65537)) (sym c.fitted-in-Ok-Text.ensures) (fit_most c.fits-in-Ok-Text.result (omega (arith, c.text_len.ensures.0, c.text_of.ensures.1, c.requires.1))),
      λ x k h q. c.fitted-in-Ok-Text.ensures ∙ ap (λ (f : Result Unit Class). fit_told f n) (c.fits-in-Ok-Text.ensures (Value.text _) k refl q)
          ∙ value_told x k (c.insert_literal.ensures x h ∙ ap (value_of (text_in e)) (c.in-Ok-Text.is ∙ ap Ok c.in-Ok-Text.field-0-is)) (c.text_len.ensures.1 _ (sym (ap length c.text_of.ensures.0))),
    )

pub returns-in-Ok-Bool : goal.returns-in-Ok-Bool
returns-in-Ok-Bool c =
    let e = c.args.e.now in
    let n = c.bool_len.result in (
      subst (λ m. IfOk m (λ k. k ≤ 65537)) (sym c.fitted-in-Ok-Bool.ensures) (fit_most c.fits-in-Ok-Bool.result (omega (arith, c.bool_len.ensures.0))),
      λ x k h q. c.fitted-in-Ok-Bool.ensures ∙ ap (λ (f : Result Unit Class). fit_told f n) (c.fits-in-Ok-Bool.ensures (Value.bool _) k refl q)
          ∙ value_told x k (c.insert_literal.ensures x h ∙ ap (value_of (text_in e)) (c.in-Ok-Bool.is ∙ ap Ok c.in-Ok-Bool.field-0-is)) (c.bool_len.ensures.1 _),
    )

pub returns-in-Ok-Null : goal.returns-in-Ok-Null
returns-in-Ok-Null c =
    let e = c.args.e.now in
    let n = c.null_len.result in (
      subst (λ m. IfOk m (λ k. k ≤ 65537)) (sym c.fitted-in-Ok-Null.ensures) (fit_most c.fits-in-Ok-Null.result (omega (arith, c.null_len.ensures.0))),
      λ x k h q. c.fitted-in-Ok-Null.ensures ∙ ap (λ (f : Result Unit Class). fit_told f n) (c.fits-in-Ok-Null.ensures Value.null k refl q)
          ∙ value_told x k (c.insert_literal.ensures x h ∙ ap (value_of (text_in e)) (c.in-Ok-Null.is ∙ ap Ok c.in-Ok-Null.field-0-is)) c.null_len.ensures.1,
    )

pub returns-in-Err : goal.returns-in-Err
returns-in-Err c =
    let e = c.args.e.now in
    (tt, λ x k h q. value_off x k (c.insert_literal.ensures x h ∙ ap (value_of (text_in e)) c.in-Err.is))
