-- `bind_repeats::are_alike` meets its contract.
use mathlib.Core.Path.{sym, ap, ◌∙◌}
use Rattle.bind_repeats.specs.Entries.{alike_names}
use Rattle.bind_repeats.specs.Short.{short_inside}
use Rattle.bind_repeats.proofs.Same.{alike_none, alike_inside, only_none, in_maybe}
use Rattle.bind_repeats.proofs.are_alike.Goals as goal

pub returns-then-a-eq0 : goal.returns-then-a-eq0
returns-then-a-eq0 c =
    let p = c.args.a.now in
    λ v w h k. ap (λ x. alike_names x w) (only_none p c.if-a-eq0.true h)

pub returns-then-b-eq0 : goal.returns-then-b-eq0
returns-then-b-eq0 c =
    let q = c.args.b.now in
    λ v w h k. sym (alike_none v) ∙ ap (alike_names v) (only_none q c.if-b-eq0.true k)

pub are_alike_names-requires : goal.are_alike_names-requires
are_alike_names-requires c =
    (short_inside c.requires.0 (in_maybe c.args.a.now c.if-a-eq0.false), short_inside c.requires.1 (in_maybe c.args.b.now c.if-b-eq0.false))

pub returns : goal.returns
returns c =
    let a = c.args in
    alike_inside (in_maybe a.a.now c.if-a-eq0.false) (in_maybe a.b.now c.if-b-eq0.false) c.are_alike_names.ensures
