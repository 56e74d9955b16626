-- `statement_limits::names::is_relation_within` meets its contract.
use Rattle.bytes_bundle.specs.Looks.{Inside, inside_is, inside_says}
use Rattle.image_expression.specs.Names.{Within}
use Rattle.statement_limits.specs.Cases.{no_relation, relation_inside, is_direct_lem}
use Rattle.rules.specs.Limits.{object_names, relation_names}
use Rattle.rules.specs.Lists.{all}
use Rattle.image_parts.specs.Layout.{object_name, relation}
use mathlib.Core.Path.{sym, ap, ◌∙◌}
use Rattle.statement_limits.proofs.names.is_relation_within.Goals.{After-relation_name}
use Rattle.statement_limits.proofs.names.is_relation_within.Goals as goal

inner : (c : After-relation_name) → Inside relation object_name relation_names object_names c.args.s.now c.relation_name.result.now
inner c = relation_inside (λ v h. is_direct_lem v (sym (c.relation_code.ensures v h) ∙ c.if-relation_code-ne1.false)) c.relation_name.ensures

pub returns-then-relation_code-ne1 : goal.returns-then-relation_code-ne1
returns-then-relation_code-ne1 c = λ v h. sym (ap (all Within) (no_relation v (λ e. c.if-relation_code-ne1.true (c.relation_code.ensures v h ∙ e))))

pub relation_name-requires : goal.relation_name-requires
relation_name-requires c = record { there = c.requires.there; case = λ v h. is_direct_lem v (sym (c.relation_code.ensures v h) ∙ c.if-relation_code-ne1.false) }

pub is_object_name_within-requires : goal.is_object_name_within-requires
is_object_name_within-requires c = inside_is (inner (goal.at.is_object_name_within-requires c).After-relation_name) c.requires

pub returns : goal.returns
returns c = inside_says (inner (goal.at.returns c).After-relation_name) (all Within) c.is_object_name_within.ensures
