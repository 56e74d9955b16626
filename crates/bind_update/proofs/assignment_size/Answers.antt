-- `bind_update::assignment_size` meets its contract.
use Rattle.bytes_bundle.specs.Held.{Holds, held}
use Rattle.image_bound.specs.Layout as layout
use Rattle.image_catalogue.specs.Layout.{table}
use Rattle.image_parts.specs.Layout.{assignment}
use Rattle.bind_table.specs.Steps.{sized_refused, sized_as}
use Rattle.rules.specs.Statements.{Assignment}
use Rattle.rules.specs.Tables.{TableSchema}
use Rattle.bind_update.specs.Targets.{target_column, ColumnGiven, targeted_is, targeted_off}
use Rattle.bind_update.proofs.Assigning.{judged_target, judged_repeated, judged_assigned}
use Rattle.bind_update.specs.Within.{assignment_target_lem, assignment_value}
use Rattle.bind_update.proofs.assignment_size.Goals.{In-Ok}
use Rattle.bind_update.proofs.assignment_size.Goals as goal

-- the column that was found
column : (c : In-Ok) (v : TableSchema) (x : Assignment) → Holds table c.args.t.now v
    → Holds assignment c.args.a.now x
    → ColumnGiven (target_column v x.target) c.in-Ok.c
column c v x hv hx =
    targeted_is _ (c.target_column.ensures v x.target hv (c.target_of.ensures x hx)) c.in-Ok.is

pub target_column-requires : goal.target_column-requires
target_column-requires c =
    let p = c.requires in
    (p.0, assignment_target_lem p.1 c.target_of.ensures)

pub returns-then-repeated : goal.returns-then-repeated
returns-then-repeated c = record { few = tt; told = λ v x hv hx. sized_refused layout.assignment (judged_repeated _ v x (column (goal.at.returns-then-repeated c).In-Ok v x hv hx).gives c.if-repeated.true) }

pub assign_size-requires : goal.assign_size-requires
assign_size-requires c =
    let p = c.requires in (
      p.0,
      (
        assignment_value p.1 c.value_of.ensures,
        held p.0 (λ v hv. held p.1.is (λ x hx. (column (goal.at.assign_size-requires c).In-Ok v x hv hx).column)),
      ),
    )

pub returns-else-repeated : goal.returns-else-repeated
returns-else-repeated c = record {
  few = c.assign_size.ensures.few;
  told = λ v x hv hx.
      let g = column (goal.at.returns-else-repeated c).In-Ok v x hv hx in
      sized_as layout.assignment (judged_assigned _ v x g.gives c.if-repeated.false)
      (c.assign_size.ensures.told v x.value g.column.value hv (c.value_of.ensures x hx) g.column.is);
}

pub returns-in-Err : goal.returns-in-Err
returns-in-Err c = record {
  few = tt;
  told = λ v x hv hx.
      sized_refused layout.assignment
      (judged_target c.args.repeated v x (targeted_off _ (c.target_column.ensures v x.target hv (c.target_of.ensures x hx)) c.in-Err.is));
}
