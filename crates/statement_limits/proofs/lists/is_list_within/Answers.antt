-- `statement_limits::lists::is_list_within` meets its contract.
use Rattle.std.specs.Prelude.{◌&&◌, Bool}
use Rattle.std.proofs.Common.{rules, sym, ap, ◌∙◌, le-leb}
use Rattle.std.proofs.lemmas.Bool.{lt-leb}
use Rattle.bytes_bundle.specs.Bundle.{parts_of}
use Rattle.rules.specs.Lists.{all}
use Rattle.rules.specs.Limits.{at_most}
use Rattle.statement_limits.specs.Within.{list_within}
use Rattle.statement_limits.specs.Lists.{each_callable, each_told}
use Rattle.statement_limits.proofs.lists.is_list_within.Goals as goal

pub all-requires-clause-callable : goal.all-requires-clause-callable
all-requires-clause-callable g c = each_callable g.F.Fn (search rules) (search rules) c.args.is_within _ _ c.iter.ensures c.requires.takes

pub returns-then-parts-most : goal.returns-then-parts-most
unfolding list_within
returns-then-parts-most g c = λ t k.
    each_told g.F.Fn (search rules) (search rules) c.args.is_within t _ _ c.iter.ensures k _ _ c.all.ensures.ran
    ∙ sym (ap (λ (b : Bool). b && all t (parts_of 2 c.args.s.now)) (ap (at_most c.args.most) (sym c.parts.ensures) ∙ le-leb _ _ c.if-parts-most.true))

pub returns-else-parts-most : goal.returns-else-parts-most
unfolding list_within
returns-else-parts-most g c = λ t k.
    let e = lt-leb _ _ c.if-parts-most.false in
    e ∙ sym (ap (λ (b : Bool). b && all t (parts_of 2 c.args.s.now)) (ap (at_most c.args.most) (sym c.parts.ensures) ∙ e))
