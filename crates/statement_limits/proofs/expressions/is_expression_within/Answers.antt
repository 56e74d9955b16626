-- `statement_limits::expressions::is_expression_within` meets its contract. The root is the last node.
use Prim.Native.Nat.{ℕ, ◌-◌}
use Rattle.bytes_bundle.specs.Decides.{stop, on, last, failed, passed}
use Rattle.image_expression.specs.Laws.{some_node, placed}
use Rattle.image_expression.specs.Place.{node_at, Root, IsImage}
use Rattle.statement_limits.specs.Within.{expression_within_lem, few_shallow}
use Rattle.bytes_wire.specs.Le.{Bytes}
use mathlib.Core.Path.{sym, subst}
use native.Mathlib.Omega.{arith}
use Rattle.statement_limits.proofs.expressions.is_expression_within.Goals.{After-nodes-n}
use Rattle.std.proofs.Common.{ap}
use Rattle.std.proofs.Common.{not}
use Rattle.statement_limits.proofs.expressions.is_expression_within.Goals as goal

bytes : (c : After-nodes-n) → Bytes c.args.e.now
bytes c = record { at = λ j. (c.type_inv.e j).fits }

pub returns-then-not-names_within : goal.returns-then-not-names_within
returns-then-not-names_within c = λ v h. stop (expression_within_lem v) (failed (c.names_within.ensures v h) (ap not c.if-not-names_within.true))

image : (c : After-nodes-n) → IsImage c.args.e.now
image c = record { reads = c.requires.there }

pub returns-then-n-le64 : goal.returns-then-n-le64
returns-then-n-le64 c = λ v h.
    let many = (placed (bytes (goal.at.returns-then-n-le64 c).After-nodes-n) h).1 in
    last (on (expression_within_lem v) (passed (c.names_within.ensures v h) (ap not c.if-not-names_within.false)))
    (few_shallow v (omega (arith, many, c.nodes-n.ensures, c.if-n-le64.true)))

pub overflow_sub-n : goal.overflow_sub-n
overflow_sub-n c = omega (arith, some_node (bytes (goal.at.overflow_sub-n c).After-nodes-n) (image (goal.at.overflow_sub-n c).After-nodes-n), c.nodes-n.ensures)

pub depth_at_most-requires : goal.depth_at_most-requires
depth_at_most-requires c = record { image = image (goal.at.depth_at_most-requires c).After-nodes-n; within = omega (arith, some_node (bytes (goal.at.depth_at_most-requires c).After-nodes-n) (image (goal.at.depth_at_most-requires c).After-nodes-n), c.nodes-n.ensures) }

pub returns : goal.returns
returns c = λ v h.
    let s = c.args.e.now in
    let root = subst (λ (n : ℕ). Root (node_at s) (n - 1) v) (sym c.nodes-n.ensures) (placed (bytes (goal.at.returns c).After-nodes-n) h).0 in
    last (on (expression_within_lem v) (passed (c.names_within.ensures v h) (ap not c.if-not-names_within.false))) (c.depth_at_most.ensures v root)
