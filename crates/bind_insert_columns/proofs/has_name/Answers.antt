-- `bind_insert_columns::has_name` meets its contract. The invariant: what the names that are left decide.
use mathlib.Core.Path.{◌≡◌, sym, ◌∙◌}
use Rattle.bytes_bundle.specs.Bundle.{parts_of}
use Rattle.bytes_bundle.specs.Left.{parts_left}
use Rattle.bytes_bundle.specs.Held.{list_bundle}
use Rattle.bytes_bundle.specs.Ahead.{ahead, ahead_stop, ahead_on, ahead_end}
use Rattle.image_catalogue.specs.Entries.{any_hit, any_miss}
use Rattle.rules.specs.Lists.{same}
use Rattle.rules.specs.Names.{canonical}
use Rattle.rules.specs.Statements.{Name}
use Rattle.image_parts.specs.Layout.{name}
use Rattle.bind_insert_columns.specs.Columns.{names_left, name_here, names_behind}
use borrow.Author.Rules.{rules}
use Rattle.bind_insert_columns.proofs.has_name.Goals as goal

pub iter-part-items-requires : goal.iter-part-items-requires
iter-part-items-requires c = (search rules, list_bundle name c.requires.is)

pub loop-part-init : goal.loop-part-init
loop-part-init c =
    let e : parts_left c.into_iter-part-iterator.result ≡ parts_of 2 c.args.names.now = cc in
    (names_left c.requires e, ahead e)

pub calls-requires : goal.calls-requires
calls-requires c = name_here c.loop-part.invariant.0 c.in-Some.ensures.steps

pub returns-then-calls : goal.returns-then-calls
returns-then-calls c = λ ns h.
    sym (ahead_stop c.loop-part.invariant.1 c.in-Some.ensures.steps
    (λ m k g. any_hit (λ (m : Name). same c.args.other.now (canonical m)) m k (sym (c.calls.ensures m g) ∙ c.if-calls.true)) ns h)

pub loop-part-preserved : goal.loop-part-preserved
loop-part-preserved c =
    let d = c.in-Some.ensures.steps in (
      names_behind c.loop-part.invariant.0 d,
      ahead_on c.loop-part.invariant.1 d (λ m k g. any_miss (λ (m : Name). same c.args.other.now (canonical m)) m k (sym (c.calls.ensures m g) ∙ c.if-calls.false)),
    )

pub returns : goal.returns
returns c = λ ns h. sym (ahead_end c.loop-part.invariant.1 c.in-None.ensures.steps.0 ns h)
