-- `leaves::column` meets its contract.
use native.Mathlib.Omega.{arith}
use Rattle.text_names.specs.Compared.{named}
use Rattle.bind_expression.proofs.Looked.{column_long}
use Rattle.bind_expression.proofs.leaves.column.Goals as goal

pub column_ref_len-requires : goal.column_ref_len-requires
column_ref_len-requires c =
    let a = c.args in
    let l = column_long a.t.now (named a.quoted a.name.now) _ c.find_column.ensures c.requires.0 _ c.in-Some.is in
    omega (arith, l, c.requires.1)

pub one_leaf-requires : goal.one_leaf-requires
one_leaf-requires c =
    let a = c.args in
    let l = column_long a.t.now (named a.quoted a.name.now) _ c.find_column.ensures c.requires.0 _ c.in-Some.is in
    omega (arith, c.column_ref_len.ensures.0, l, c.requires.1)
