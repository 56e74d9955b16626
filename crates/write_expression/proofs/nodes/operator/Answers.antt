-- `nodes::operator` meets its contract: in each arm the kind is known.
use mathlib.Core.Path.{◌≡◌}
use Prim.Native.Nat.{◌≤◌}
use Rattle.write_expression.proofs.Arms.{past, only}
use Rattle.image_expression.specs.Place.{bin_of}
use Rattle.write_expression.proofs.nodes.operator.Goals as goal

pub returns-in-16 : goal.returns-in-16
unfolding bin_of
returns-in-16 c = rw c.in-16.is

pub returns-in-17 : goal.returns-in-17
unfolding bin_of
returns-in-17 c = rw c.in-17.is

pub returns-in-18 : goal.returns-in-18
unfolding bin_of
returns-in-18 c = rw c.in-18.is

pub returns-in-19 : goal.returns-in-19
unfolding bin_of
returns-in-19 c = rw c.in-19.is

pub returns-in-20 : goal.returns-in-20
unfolding bin_of
returns-in-20 c = rw c.in-20.is

pub returns-in-21 : goal.returns-in-21
unfolding bin_of
returns-in-21 c = rw c.in-21.is

pub returns-in-22 : goal.returns-in-22
unfolding bin_of
returns-in-22 c = rw c.in-22.is

pub returns-in-23 : goal.returns-in-23
unfolding bin_of
returns-in-23 c = rw c.in-23.is

pub returns-in-24 : goal.returns-in-24
unfolding bin_of
returns-in-24 c = rw c.in-24.is

pub returns-in-25 : goal.returns-in-25
unfolding bin_of
returns-in-25 c = rw c.in-25.is

pub returns-in-26 : goal.returns-in-26
unfolding bin_of
returns-in-26 c = rw c.in-26.is

pub returns-in-27 : goal.returns-in-27
unfolding bin_of
returns-in-27 c = rw c.in-27.is

pub returns-in_default : goal.returns-in_default
unfolding bin_of
returns-in_default c =
    let n = c.in_default.in_default-own.rest in
    let lo : 28 ≤ c.args.k = past (past (past (past (past (past (past (past (past (past (past (past c.requires.0 n.0.0.0.0.0.0.0.0.0.0.0.1) n.0.0.0.0.0.0.0.0.0.0.1) n.0.0.0.0.0.0.0.0.0.1) n.0.0.0.0.0.0.0.0.1) n.0.0.0.0.0.0.0.1) n.0.0.0.0.0.0.1) n.0.0.0.0.0.1) n.0.0.0.0.1) n.0.0.0.1) n.0.0.1) n.0.1) n.1 in
    let e : c.args.k ≡ 28 = only lo c.requires.1 in
    rw e
