-- `catalogue_repeats::first_repeat` meets its contract. The invariant: the first repeat is the first among the entries that are left.
use borrow.Author.Rules.{rules}
use Rattle.std.proofs.Common.{arith, sym, ap, ◌∙◌}
use Rattle.bytes_bundle.specs.Left.{parts_left}
use Rattle.bytes_bundle.specs.Numbered.{few_parts, reached, reached_part, reached_on}
use Rattle.catalogue_repeats.specs.Repeats.{alike_by, first_repeated, repeat_hit, repeat_pass, repeat_end, told_each, told_first, told_callable, any_left}
use Rattle.catalogue_repeats.proofs.first_repeat.Goals as goal

pub loop-entry-init : goal.loop-entry-init
loop-entry-init c = (reached c.iter-entries.ensures, told_each c.iter-entries.ensures c.requires.1, ap (first_repeated (alike_by c.args.by) 0) (sym c.iter-entries.ensures))

pub any-requires-clause-callable : goal.any-requires-clause-callable
any-requires-clause-callable c =
    let d = told_first c.loop-entry.invariant.1 c.in-Some.ensures.steps in
    told_callable (λ x b q k. search rules) c.args.by c.next.new.self d.1 (λ x i. let h = d.0 in search rules)

pub returns-then-any : goal.returns-then-any
returns-then-any c =
    let e = c.in-Some.entry.now in
    let found = any_left (alike_by c.args.by e) c.next.new.self _ _ c.any.ensures.ran (λ x b q k. search rules) in
    sym (c.loop-entry.invariant.2 ∙ ap (first_repeated (alike_by c.args.by) c.loop-entry.i) c.in-Some.ensures.steps
    ∙ repeat_hit (alike_by c.args.by) c.loop-entry.i e (parts_left c.next.new.self) (sym found ∙ c.if-any.true))

pub overflow_add-i : goal.overflow_add-i
overflow_add-i c =
    let d = reached_part c.loop-entry.invariant.0 c.in-Some.ensures.steps in
    omega (arith, d.few, few_parts (record { at = λ j. (c.type_inv.s j).fits }) c.requires.0)

pub loop-entry-preserved : goal.loop-entry-preserved
loop-entry-preserved c =
    let a = c.loop-entry.invariant in
    let s = c.in-Some.ensures.steps in
    let e = c.in-Some.entry.now in
    let found = any_left (alike_by c.args.by e) c.next.new.self _ _ c.any.ensures.ran (λ x b q k. search rules) in (
      reached_on a.0 s,
      (told_first a.1 s).1,
      a.2 ∙ ap (first_repeated (alike_by c.args.by) c.loop-entry.i) s
          ∙ repeat_pass (alike_by c.args.by) c.loop-entry.i e (parts_left c.next.new.self) (sym found ∙ c.if-any.false),
    )

pub returns : goal.returns
returns c =
    sym (c.loop-entry.invariant.2 ∙ ap (first_repeated (alike_by c.args.by) c.loop-entry.i) c.in_default.ensures.steps.0 ∙ repeat_end (alike_by c.args.by) c.loop-entry.i)
