-- `bind_create::measure_keyed` meets its contract.
use mathlib.Core.Path.{◌∙◌}
use Prim.Native.Nat.{◌≤◌}
use native.Mathlib.Omega.{arith}
use Rattle.bytes_bundle.specs.Held.{held}
use Rattle.bind_table.specs.Steps.{handed_on}
use Rattle.bind_create.specs.Defined.{schemas, key_of}
use Rattle.bind_create.specs.Within.{few_columns}
use Rattle.bind_create.proofs.Whole.{counted_is, counted_off, key_few, keyed_given, keyed_off}
use Rattle.bind_create.proofs.measure_keyed.Goals.{After-columns}
use Rattle.bind_create.proofs.measure_keyed.Goals as goal

-- how many ids there are
few : (c : After-columns) → c.in_ok-n.n ≤ 64
few c =
    let p = c.requires in
    held p.0.is (λ v h.
    let k = p.1.at v h in
    let a = counted_is (key_of (schemas 0 v.columns) k.0) (c.count_key.ensures v k.0 h k.1) c.in_ok-n.was in
    omega (arith, a.many, key_few v (p.0.within v h) k.1 a.gives))

pub count_key-requires : goal.count_key-requires
count_key-requires c = (c.requires.0, c.requires.1)

pub columns_len-requires : goal.columns_len-requires
columns_len-requires c = few_columns c.requires.0 c.columns.ensures

pub overflow_add-result-2 : goal.overflow_add-result-2
overflow_add-result-2 c = omega (arith, c.requires.2, c.columns_len.ensures.1)

pub ids_len-requires : goal.ids_len-requires
ids_len-requires c = omega (arith, few (goal.at.ids_len-requires c).After-columns)

pub overflow_add-result-3 : goal.overflow_add-result-3
overflow_add-result-3 c = omega (arith, few (goal.at.overflow_add-result-3 c).After-columns, c.ids_len.ensures.0, c.requires.2, c.columns_len.ensures.1)

pub returns : goal.returns
returns c = λ v t names h e k.
    let a = counted_is (key_of (schemas 0 v.columns) names) (c.count_key.ensures v names h k) c.in_ok-n.was in
    keyed_given t v.columns names a (omega (arith, e, c.ids_len.ensures.0, c.columns_len.ensures.0 v.columns (c.columns.ensures v h)))

pub returns-in_err-n : goal.returns-in_err-n
returns-in_err-n c = λ v t names h e k.
    handed_on c.from_residual.ensures.1
    ∙ keyed_off t v.columns names (counted_off (key_of (schemas 0 v.columns) names) (c.count_key.ensures v names h k) c.in_err-n.was)
