-- `leaves::put_content` meets its contract: in each arm the kind is known.
use mathlib.Core.Bool.{true, false}
use Prim.Native.Nat.{◌≤◌}
use native.Mathlib.Omega.{arith}
use Rattle.rules.specs.declared.ExpressionType.TheVariants as type
use Rattle.rules.specs.Bound.{Value.text, Value.bool, Value.null}
use Rattle.image_expression.specs.Place.{node_at, leaf_of}
use Rattle.image_bound.specs.Spelt.{text_length, bool_length, null_length}
use Rattle.write_expression.specs.Binds.{Ruled}
use Rattle.write_expression.proofs.Arms.{past, least}
use Rattle.write_expression.proofs.Contents.{
  literal_room,
  literal_puts,
  room_by,
  puts_by,
  name_rule,
  number_rule,
  string_rule,
  truth_rule,
  null_rule,
  never_ruled,
}
use Rattle.write_expression.proofs.leaves.put_content.Goals as goal

pub put_column-requires : goal.put_column-requires
unfolding leaf_of
put_column-requires c =
    record { name_len_bound = rw c.text.ensures (c.requires.names_within.0.short c.args.i c.requires.names_within.1.within (omega (arith, c.requires.k_value.0, c.in-0.is))); leaf_room = room_by (name_rule c.args.t.now false _ (rw (c.in-0.is, c.text.ensures))) c.requires.leaf_room }

pub put_column-requires-in-1 : goal.put_column-requires-in-1
unfolding leaf_of
put_column-requires-in-1 c =
    record { name_len_bound = rw c.text-in-1.ensures (c.requires.names_within.0.short c.args.i c.requires.names_within.1.within (omega (arith, c.requires.k_value.0, c.in-1.is))); leaf_room = room_by (name_rule c.args.t.now true _ (rw (c.in-1.is, c.text-in-1.ensures))) c.requires.leaf_room }

pub put_number-requires : goal.put_number-requires
unfolding leaf_of
put_number-requires c =
    room_by (number_rule c.args.t.now _ (rw (c.in-2.is, c.text-in-2.ensures))) c.requires.leaf_room

pub put_text-requires : goal.put_text-requires
unfolding leaf_of
put_text-requires c =
    rw (text_length c.text-in-3.result.now) at (literal_room (Ruled c.args.t.now (leaf_of c.args.k (node_at c.args.e.now c.args.i).text)) (text c.text-in-3.result.now) type.Text false (string_rule c.args.t.now c.text-in-3.result.now (rw (c.in-3.is, c.text-in-3.ensures))) c.requires.leaf_room)

pub put_bool-requires : goal.put_bool-requires
unfolding leaf_of
put_bool-requires c =
    rw (bool_length true) at (literal_room (Ruled c.args.t.now (leaf_of c.args.k (node_at c.args.e.now c.args.i).text)) (bool true) type.Bool false (truth_rule c.args.t.now true (rw c.in-4.is)) c.requires.leaf_room)

pub put_bool-requires-in-5 : goal.put_bool-requires-in-5
unfolding leaf_of
put_bool-requires-in-5 c =
    rw (bool_length false) at (literal_room (Ruled c.args.t.now (leaf_of c.args.k (node_at c.args.e.now c.args.i).text)) (bool false) type.Bool false (truth_rule c.args.t.now false (rw c.in-5.is)) c.requires.leaf_room)

pub put_null-requires : goal.put_null-requires
unfolding leaf_of
put_null-requires c =
    rw null_length at (literal_room (Ruled c.args.t.now (leaf_of c.args.k (node_at c.args.e.now c.args.i).text)) null type.Null true (null_rule c.args.t.now (rw c.in-6.is)) c.requires.leaf_room)

pub returns-in-0 : goal.returns-in-0
unfolding leaf_of
returns-in-0 c =
    puts_by (name_rule c.args.t.now false _ (rw (c.in-0.is, c.text.ensures))) c.put_column.ensures

pub returns-in-1 : goal.returns-in-1
unfolding leaf_of
returns-in-1 c =
    puts_by (name_rule c.args.t.now true _ (rw (c.in-1.is, c.text-in-1.ensures))) c.put_column-in-1.ensures

pub returns-in-2 : goal.returns-in-2
unfolding leaf_of
returns-in-2 c =
    puts_by (number_rule c.args.t.now _ (rw (c.in-2.is, c.text-in-2.ensures))) c.put_number.ensures

pub returns-in-3 : goal.returns-in-3
unfolding leaf_of
returns-in-3 c =
    literal_puts (Ruled c.args.t.now (leaf_of c.args.k (node_at c.args.e.now c.args.i).text)) (text _) type.Text false (string_rule c.args.t.now _ (rw (c.in-3.is, c.text-in-3.ensures))) c.literal.ensures c.put_text.ensures

pub returns-in-4 : goal.returns-in-4
unfolding leaf_of
returns-in-4 c =
    literal_puts (Ruled c.args.t.now (leaf_of c.args.k (node_at c.args.e.now c.args.i).text)) (bool true) type.Bool false (truth_rule c.args.t.now true (rw c.in-4.is)) c.literal-in-4.ensures c.put_bool.ensures

pub returns-in-5 : goal.returns-in-5
unfolding leaf_of
returns-in-5 c =
    literal_puts (Ruled c.args.t.now (leaf_of c.args.k (node_at c.args.e.now c.args.i).text)) (bool false) type.Bool false (truth_rule c.args.t.now false (rw c.in-5.is)) c.literal-in-5.ensures c.put_bool-in-5.ensures

pub returns-in-6 : goal.returns-in-6
unfolding leaf_of
returns-in-6 c =
    literal_puts (Ruled c.args.t.now (leaf_of c.args.k (node_at c.args.e.now c.args.i).text)) null type.Null true (null_rule c.args.t.now (rw c.in-6.is)) c.literal-in-6.ensures c.put_null.ensures

pub returns-in_default : goal.returns-in_default
unfolding leaf_of
returns-in_default c =
    let n = c.in_default.in_default-own.rest in
    let lo : 7 ≤ c.args.k = past (past (past (past (past (past (past (least c.args.k) n.0.0.0.0.0.0.1) n.0.0.0.0.0.1) n.0.0.0.0.1) n.0.0.0.1) n.0.0.1) n.0.1) n.1 in
    absurd (never_ruled c.args.t.now c.args.k _ lo c.requires.k_value.1 c.requires.leaf_room.label c.requires.leaf_room.rule)
