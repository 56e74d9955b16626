-- `replay_walk::differs_in` meets its contract: each arm's function tells it for what the record is of.
use mathlib.Core.Path.{◌≡◌, sym, ap, ◌∙◌, subst}
use mathlib.Core.Bool.{true}
use Rattle.replay_record.specs.declared.Of.{Of}
use Rattle.replay_record.specs.Layout.{parts_of, is_case}
use Rattle.replay_walk.specs.Differs.{differs}
use Rattle.replay_walk.proofs.differs_in.Goals as goal

pub bind_differs-requires : goal.bind_differs-requires
bind_differs-requires c =
    (subst (λ (of : Of). is_case (parts_of of) c.args.s.now ≡ true) c.in-Binds.is c.requires.0, c.requires.1, c.requires.2)

pub run_differs-requires : goal.run_differs-requires
run_differs-requires c =
    (subst (λ (of : Of). is_case (parts_of of) c.args.s.now ≡ true) c.in-Runs.is c.requires.0, c.requires.1, c.requires.2)

pub returns-in-Binds : goal.returns-in-Binds
returns-in-Binds c =
    let s = c.args.s.now in
    c.bind_differs.ensures ∙ sym (ap (λ (of : Of). differs of s) c.in-Binds.is)

pub returns-in-Runs : goal.returns-in-Runs
returns-in-Runs c =
    let s = c.args.s.now in
    c.run_differs.ensures ∙ sym (ap (λ (of : Of). differs of s) c.in-Runs.is)
