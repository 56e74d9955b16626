-- `bind_create::measure` meets its contract.
use mathlib.Core.Path.{sym, ◌∙◌, subst}
use Rattle.image_bound.specs.Layout.{bound_statement}
use Rattle.bytes_bundle.specs.Held.{list_bundle, list_count}
use Rattle.bind_table.specs.Steps.{sized_refused, sized_handed, sized_as}
use Rattle.image_parts.specs.Layout.{column_definition}
use Rattle.bind_create.specs.Keys.{ReadsKey}
use Rattle.bind_create.specs.Within.{few_columns}
use Rattle.bind_create.proofs.Whole.{table_empty, table_off, table_on, columns_empty, columns_there, place_in, key_in}
use borrow.Author.Rules.{rules}
use Rattle.bind_create.proofs.measure.Goals as goal

pub parts-requires : goal.parts-requires
parts-requires c = (search rules, list_bundle column_definition (few_columns c.requires.0 c.columns-columns.ensures).short.is)

pub returns-then-parts-eq0 : goal.returns-then-parts-eq0
returns-then-parts-eq0 c = λ v t h e.
    let z = list_count column_definition c.columns-columns.result.now (c.columns-columns.ensures v h) ∙ sym c.parts.ensures ∙ c.if-parts-eq0.true in
    sized_refused bound_statement (table_empty v t (columns_empty v.columns z))

pub first_repeated-requires : goal.first_repeated-requires
first_repeated-requires c = (few_columns c.requires.0 c.columns-columns.ensures).short

pub find_key-requires : goal.find_key-requires
find_key-requires c = (c.requires.0.is, place_in c.columns-columns.result.now c.first_repeated.ensures c.columns-columns.ensures)

pub measure_keyed-requires : goal.measure_keyed-requires
measure_keyed-requires c = (c.requires.0, key_in c.find_key.ensures c.in_ok-key.was, c.requires.1)

pub returns : goal.returns
returns c = λ v t h e.
    let k = subst (ReadsKey v) c.in_ok-key.was (c.find_key.ensures v h) in
    let z = columns_there v.columns (λ q. c.if-parts-eq0.false (c.parts.ensures ∙ sym (list_count column_definition c.columns-columns.result.now (c.columns-columns.ensures v h)) ∙ q)) in
    sized_as bound_statement (table_on v t z k.gives) (c.measure_keyed.ensures v t k.names h e k.at)

pub returns-in_err-key : goal.returns-in_err-key
returns-in_err-key c = λ v t h e.
    let k = subst (ReadsKey v) c.in_err-key.was (c.find_key.ensures v h) in
    let z = columns_there v.columns (λ q. c.if-parts-eq0.false (c.parts.ensures ∙ sym (list_count column_definition c.columns-columns.result.now (c.columns-columns.ensures v h)) ∙ q)) in
    sized_handed bound_statement c.from_residual.ensures.1 (table_off v t z k)
