-- `run_plan::work_out` meets its contract.
use Rattle.bind_where.specs.Short.{known, short_names}
use Rattle.run_plan.proofs.work_out.Goals as goal

pub value-requires : goal.value-requires
value-requires c =
    let p = c.requires in
    (p.0.schema, ((p.1.is, short_names (known c.type_inv.e) p.1), p.0.obeys))
