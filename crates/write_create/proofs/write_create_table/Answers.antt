-- `write_create::write_create_table` meets its contract.
use mathlib.Core.Path.{refl}
use native.Mathlib.Omega.{arith}
use Rattle.image_bound.specs.Beside.{wrote_long}
use Rattle.write_create.proofs.Whole.{place_in, key_read, writable, key_given, whole_wrote, never_refused}
use Rattle.write_create.proofs.write_create_table.Goals as goal

pub find_key-requires : goal.find_key-requires
find_key-requires c = (c.requires.0.is, place_in c.requires.1)

pub put_byte-requires : goal.put_byte-requires
put_byte-requires c = let w = writable c.requires.1 c.find_key.ensures c.in-Ok.is refl in omega (arith, w.fits)

pub put_table-requires : goal.put_table-requires
put_table-requires c = (c.requires.0, writable c.requires.1 c.find_key.ensures c.in-Ok.is (wrote_long c.put_byte.ensures))

pub returns-in-Ok : goal.returns-in-Ok
returns-in-Ok c = λ cat v b hc hv e.
    let k = key_given cat v e (key_read c.requires.1 c.find_key.ensures c.in-Ok.is v hv) in
    whole_wrote k c.put_byte.ensures (c.put_table.ensures v k.name k.names k.ids hv k.plainly k.at k.gives)

pub returns-in-Err : goal.returns-in-Err
returns-in-Err c = λ cat v b hc hv e. absurd (never_refused cat v e c.in-Err.is (c.find_key.ensures v hv))
