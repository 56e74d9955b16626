-- `image_statement::shape_ok` meets its contract: each answer is that of `shape_ok` after the same tests.
use mathlib.Core.Path.{sym}
use native.Mathlib.Omega.{arith}
use Rattle.image_expression.specs.Place.{node_at}
use Rattle.image_expression.specs.Reader.{shape_leaf, shape_high, shape_first, shape_one, shape_under, shape_two}
use Rattle.image_expression.proofs.reader.shape_ok.Goals as goal

pub returns-then-k-lt9 : goal.returns-then-k-lt9
returns-then-k-lt9 c =
    let a = c.args in
    rw c.span-n.ensures.0 (sym (shape_leaf (node_at a.s.now) a.i (omega arith)))

pub returns-then-k-ge30 : goal.returns-then-k-ge30
returns-then-k-ge30 c =
    let a = c.args in
    sym (shape_high (node_at a.s.now) a.i (omega arith))

pub returns-then-i-eq0 : goal.returns-then-i-eq0
returns-then-i-eq0 c =
    let a = c.args in
    sym (shape_first (node_at a.s.now) a.i (omega arith) (omega arith) c.if-i-eq0.true)

pub returns-then-k-lt16 : goal.returns-then-k-lt16
returns-then-k-lt16 c =
    let a = c.args in
    rw (c.span-n.ensures.0, c.span-right.ensures.0) (sym (shape_one (node_at a.s.now) a.i (omega arith) c.if-i-eq0.false (omega arith) (omega arith)))

pub returns-then-i-right : goal.returns-then-i-right
returns-then-i-right c =
    let a = c.args in
    sym (shape_under (node_at a.s.now) a.i (omega arith) c.if-i-eq0.false (omega arith) (omega arith))

pub returns : goal.returns
returns c =
    let a = c.args in
    rw (c.span-n.ensures.0, c.span-left.ensures.0, c.span-right.ensures.0) (sym (shape_two (node_at a.s.now) a.i (omega arith) c.if-i-eq0.false (omega arith) (omega arith)))
