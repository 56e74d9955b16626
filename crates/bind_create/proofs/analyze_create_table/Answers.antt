-- `bind_create::analyze_create_table` meets its contract.
use mathlib.Core.Path.{sym, ◌∙◌}
use native.Mathlib.Omega.{arith}
use Rattle.image_bound.specs.Layout.{bound_statement}
use Rattle.bytes_bundle.specs.Held.{held, is_held}
use Rattle.image_catalogue.specs.Values.{catalogue_tables, catalogue_list}
use Rattle.bytes_format.proofs.Formats.{text}
use Rattle.bind_table.specs.Short.{create_short}
use Rattle.bind_table.specs.Steps.{sized_refused, sized_handed, sized_as, sized_is, sized_off}
use Rattle.image_parts.specs.Layout.{object_name}
use Rattle.bind_create.specs.Within.{short_table}
use Rattle.bind_create.proofs.Whole.{create_exists, create_query, create_feature, create_unnamed, create_named, new_short}
use Rattle.bind_create.proofs.analyze_create_table.Goals as goal

pub returns-then-if_not_exists : goal.returns-then-if_not_exists
returns-then-if_not_exists c = λ cat v hc h. sized_refused bound_statement (create_exists cat v (sym (c.if_not_exists.ensures v h) ∙ c.if-if_not_exists.true))

pub returns-then-as_query : goal.returns-then-as_query
returns-then-as_query c = λ cat v hc h. sized_refused bound_statement (create_query cat v (sym (c.if_not_exists.ensures v h) ∙ c.if-if_not_exists.false) (sym (c.as_query.ensures v h) ∙ c.if-as_query.true))

pub returns-then-other_feature : goal.returns-then-other_feature
returns-then-other_feature c = λ cat v hc h.
    sized_refused bound_statement (create_feature cat v (sym (c.if_not_exists.ensures v h) ∙ c.if-if_not_exists.false) (sym (c.as_query.ensures v h) ∙ c.if-as_query.false) (sym (c.other_feature.ensures v h) ∙ c.if-other_feature.true))

pub new_table_name-requires : goal.new_table_name-requires
new_table_name-requires c = (
  catalogue_list c.requires.0,
  (held c.requires.1.is (λ v h. is_held {f = object_name} (c.table_name.ensures v h)), short_table c.requires.1 c.table_name.ensures),
)

pub measure-requires : goal.measure-requires
measure-requires c = (
  c.requires.1,
  held c.requires.0 (λ cat hc. held c.requires.1.is (λ v h.
      let a = sized_is text (c.new_table_name.ensures cat v.name (catalogue_tables c.args.c.now hc) (c.table_name.ensures v h)) c.in_ok-name.was in
      omega (arith, a.long, new_short cat v.name (create_short v (c.requires.1.within v h)) a.gives))),
)

pub returns : goal.returns
returns c = λ cat v hc h.
    let a = sized_is text (c.new_table_name.ensures cat v.name (catalogue_tables c.args.c.now hc) (c.table_name.ensures v h)) c.in_ok-name.was in
    sized_as bound_statement (create_named cat v (sym (c.if_not_exists.ensures v h) ∙ c.if-if_not_exists.false) (sym (c.as_query.ensures v h) ∙ c.if-as_query.false) (sym (c.other_feature.ensures v h) ∙ c.if-other_feature.false) a.gives)
    (c.measure.ensures v a.value h (sym a.long))

pub returns-in_err-name : goal.returns-in_err-name
returns-in_err-name c = λ cat v hc h.
    let a = sized_off text (c.new_table_name.ensures cat v.name (catalogue_tables c.args.c.now hc) (c.table_name.ensures v h)) c.in_err-name.was in
    sized_handed bound_statement c.from_residual.ensures.1 (create_unnamed cat v (sym (c.if_not_exists.ensures v h) ∙ c.if-if_not_exists.false) (sym (c.as_query.ensures v h) ∙ c.if-as_query.false) (sym (c.other_feature.ensures v h) ∙ c.if-other_feature.false) a)
