-- `bind_update::assign_size` meets its contract.
use mathlib.Core.Path.{sym, ap, ap₂, ◌∙◌}
use Prim.Native.Nat.{ℕ, ◌+◌}
use lib.ListN.{length}
use native.Mathlib.Omega.{arith}
use Rattle.image_bound.specs.Expression.{bound_expression}
use Rattle.image_bound.specs.Layout as layout
use Rattle.image_bound.specs.Sizes.{assignment_length}
use Rattle.std.proofs.lemmas.Result.{IfOk-from_err}
use Rattle.bind_table.specs.Steps.{sized_given, sized_refused, sized_handed, sized_is, sized_off}
use Rattle.rules.specs.Lookup.{in_key}
use Rattle.bind_update.specs.Assigned.{assigned}
use Rattle.bind_update.proofs.Assigning.{assign_key, assign_value, assign_is}
use Rattle.bind_update.proofs.assign_size.Goals as goal

pub returns-then-in_key : goal.returns-then-in_key
returns-then-in_key c = record {
  few = tt;
  told = λ v x k hv hx hc.
      sized_refused layout.assignment (assign_key v k x (ap (in_key v) (sym hc.id) ∙ sym (c.in_key.ensures v hv) ∙ c.if-in_key.true));
}

pub column_ref_len-requires : goal.column_ref_len-requires
column_ref_len-requires c =
    let k = c.requires.1.1 in
    omega (arith, k.short)

pub overflow_add-result-2 : goal.overflow_add-result-2
overflow_add-result-2 c =
    let k = c.requires.1.1 in
    omega (arith, k.short, c.column_ref_len.ensures.0, c.in_ok-n.ensures.few)

pub returns : goal.returns
returns c =
    let k = c.requires.1.1 in
    let q = c.in_ok-n.was in record {
      few = omega (arith, k.short, c.column_ref_len.ensures.0, c.in_ok-n.ensures.few);
      told = λ v x d hv hx hc.
          let m = sized_is bound_expression (c.value_size.ensures.told v x d hv hx (sym hc.ty) (sym hc.nullable)) q in
          let out = ap (in_key v) (sym hc.id) ∙ sym (c.in_key.ensures v hv) ∙ c.if-in_key.false in
          sized_given layout.assignment (assign_is v d x out m.gives)
          (ap₂ (λ (y z : ℕ). 12 + y + z) (c.column_ref_len.ensures.1 d (sym (ap length hc.name))) m.long ∙ sym (assignment_length (assigned d m.value)));
    }

pub returns-in_err-n : goal.returns-in_err-n
returns-in_err-n c = record {
  few = IfOk-from_err _ _ c.from_residual.ensures.0;
  told = λ v x d hv hx hc.
      let out = ap (in_key v) (sym hc.id) ∙ sym (c.in_key.ensures v hv) ∙ c.if-in_key.false in
      sized_handed layout.assignment c.from_residual.ensures.1
      (assign_value v d x out (sized_off bound_expression (c.value_size.ensures.told v x d hv hx (sym hc.ty) (sym hc.nullable)) c.in_err-n.was));
}
