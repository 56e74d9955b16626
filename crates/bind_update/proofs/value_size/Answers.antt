-- `bind_update::value_size` meets its contract.
use mathlib.Core.Path.{◌≡◌, sym, ap, ◌∙◌}
use Rattle.std.proofs.lemmas.Result.{IfOk-from_err}
use Rattle.image_bound.specs.Expression.{bound_expression}
use Rattle.bind_expression.specs.Marks.{sized_is, sized_refused}
use Rattle.bind_where.specs.Fits.{fit_fine, fit_flaw}
use Rattle.bind_where.specs.Short.{known, short_names, size_few}
use Rattle.bind_table.specs.Steps as steps
use Rattle.bind_table.specs.Steps.{sized_given}
use Rattle.rules.specs.declared.Mark.{Mark}
use Rattle.rules.specs.Answers.{fine, flaw}
use Rattle.rules.specs.Bound.{mark_of}
use Rattle.rules.specs.Fits.{fit}
use Rattle.bind_update.specs.Targets.{value_off, value_flaw, value_on}
use Rattle.bind_update.proofs.value_size.Goals as goal

pub expression_size-requires : goal.expression_size-requires
expression_size-requires c =
    let p = c.requires in
    (p.0, (p.1.is, short_names (known c.type_inv.e) p.1))

pub returns : goal.returns
returns c =
    let p = c.requires in
    let q = c.in_ok-bound.was in record {
      few = size_few _ _ (known c.type_inv.e) p.0 p.1 c.expression_size.ensures q;
      told = λ v x k hv hx ty null.
          let m = sized_is _ _ hv hx c.expression_size.ensures q in
          let f : fit (mark_of m.0) k ≡ fine tt = ap (λ (z : Mark). fit z k) m.2 ∙ fit_fine (c.expression_fit.ensures k ty null) c.in_ok-expression_fit.was in
          sized_given bound_expression (value_on v k x m.1 f) (sym m.3);
    }

pub returns-in_err-expression_fit : goal.returns-in_err-expression_fit
returns-in_err-expression_fit c = record {
  few = IfOk-from_err _ _ c.from_residual-in_err-expression_fit.ensures.0;
  told = λ v x k hv hx ty null.
      let m = sized_is _ _ hv hx c.expression_size.ensures c.in_ok-bound.was in
      let f : fit (mark_of m.0) k ≡ flaw _ = ap (λ (z : Mark). fit z k) m.2 ∙ fit_flaw (c.expression_fit.ensures k ty null) c.in_err-expression_fit.was in
      steps.sized_handed bound_expression c.from_residual-in_err-expression_fit.ensures.1 (value_flaw v k x m.1 f);
}

pub returns-in_err-bound : goal.returns-in_err-bound
returns-in_err-bound c = record {
  few = IfOk-from_err _ _ c.from_residual.ensures.0;
  told = λ v x k hv hx ty null.
      steps.sized_handed bound_expression c.from_residual.ensures.1 (value_off v k x (sized_refused _ _ hv hx c.expression_size.ensures c.in_err-bound.was));
}
