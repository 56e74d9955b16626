-- `write_create::put_table` meets its contract.
use mathlib.Core.Path.{ap, ◌∙◌, subst}
use Prim.Native.Nat.{ℕ}
use native.Mathlib.Omega.{arith}
use lib.ListN.{take}
use Rattle.bytes_bundle.specs.Held.{Holds}
use Rattle.image_parts.specs.Layout.{object_name}
use Rattle.bind_create.specs.Within.{few_columns}
use Rattle.write_create.proofs.Whole.{key_in, plain_name, name_end, columns_room, columns_end, table_wrote}
use Rattle.write_create.proofs.put_table.Goals as goal

pub key_ids-ids-requires : goal.key_ids-ids-requires
key_ids-ids-requires c = (c.requires.0, key_in c.requires.1)

pub key_len-n-requires : goal.key_len-n-requires
key_len-n-requires c = (c.requires.0, key_in c.requires.1)

pub put_name-columns-requires : goal.put_name-columns-requires
put_name-columns-requires c = plain_name c.requires.1 c.table_name.result.now c.table_name.ensures c.requires.0

pub put_columns-key_list-requires : goal.put_columns-key_list-requires
put_columns-key_list-requires c =
    let w = c.requires in
    let z = name_end w.1 c.table_name.result.now c.table_name.ensures c.put_name-columns.ensures in
    (few_columns w.0 c.columns.ensures, columns_room w.1 c.columns.result.now c.columns.ensures z.0 z.1, c.key_len-n.ensures.0)

pub put_ids-end-requires : goal.put_ids-end-requires
put_ids-end-requires c =
    let w = c.requires.1 in
    let n = c.key_len-n in
    let z = name_end w c.table_name.result.now c.table_name.ensures c.put_name-columns.ensures in
    let y = columns_end w c.columns.result.now c.columns.ensures (take n.result c.key_ids-ids.result) c.put_columns-key_list.ensures in
    let k = n.ensures.1 w.value w.names w.ids w.whole w.at w.gives in
    (n.ensures.0, omega (arith, k, z.0, z.1, y.0, y.1, w.fits))

pub overflow_sub-columns : goal.overflow_sub-columns
overflow_sub-columns c = let z = name_end c.requires.1 c.table_name.result.now c.table_name.ensures c.put_name-columns.ensures in omega (arith, z.0)

pub overflow_sub-key_list : goal.overflow_sub-key_list
overflow_sub-key_list c =
    let y = columns_end c.requires.1 c.columns.result.now c.columns.ensures (take c.key_len-n.result c.key_ids-ids.result) c.put_columns-key_list.ensures in
    omega (arith, y.0)

pub returns : goal.returns
returns c = λ v n names l h p k e.
    let ids = c.key_ids-ids in
    let i = ap (λ (m : ℕ). take m ids.result) (c.key_len-n.ensures.1 v names l h k e) ∙ ids.ensures v names l h k e in
    let o = subst (Holds object_name c.table_name.result.now) p (c.table_name.ensures v h) in
    table_wrote n v.columns i (c.put_name-columns.ensures n o) (c.put_columns-key_list.ensures v.columns (c.columns.ensures v h)) c.put_ids-end.ensures c.put_head3.ensures
