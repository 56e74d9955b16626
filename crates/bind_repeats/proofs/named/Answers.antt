-- `bind_repeats::named` meets its contract.
use mathlib.Core.Path.{sym, subst}
use mathlib.Core.List.{List}
use Prim.Native.Nat.{ℕ}
use Rattle.bytes_bundle.specs.Held.{Is}
use Rattle.bind_repeats.specs.declared.Of.{Of}
use Rattle.bind_repeats.specs.Entries.{form, name_in, Named}
use Rattle.bind_repeats.specs.Short.{in_column, in_assignment}
use Rattle.bind_repeats.proofs.Same.{some_name, named_there, is_inside, named_inside}
use Rattle.bind_repeats.proofs.named.Goals as goal

abbrev Entered : List ℕ → Of → Type 0
Entered p o = Is (form o) p

abbrev Answers : List ℕ → List ℕ → Of → Type 0
Answers p q o = Named (form o) (name_in o) p q

pub column_name-requires : goal.column_name-requires
column_name-requires c = subst (Entered c.args.e.now) c.in-Columns.is c.requires

pub target_of-requires : goal.target_of-requires
target_of-requires c = subst (Entered c.args.e.now) c.in-Targets.is c.requires

pub target_named-requires : goal.target_named-requires
target_named-requires c =
    is_inside (in_assignment c.target_of.ensures) (subst (Entered c.args.e.now) c.in-Targets.is c.requires)

pub returns-in-Names : goal.returns-in-Names
returns-in-Names c =
    let p = c.args.e.now in
    subst (Answers p p) (sym c.in-Names.is) (record { is = λ v h. some_name p h })

pub returns-in-Columns : goal.returns-in-Columns
returns-in-Columns c =
    let p = c.args.e.now in
    subst (Answers p c.column_name.result.now) (sym c.in-Columns.is) (named_there (in_column c.column_name.ensures))

pub returns-in-Targets : goal.returns-in-Targets
returns-in-Targets c =
    let p = c.args.e.now in
    subst (Answers p c.target_named.result.now) (sym c.in-Targets.is) (named_inside (in_assignment c.target_of.ensures) c.target_named.ensures)
