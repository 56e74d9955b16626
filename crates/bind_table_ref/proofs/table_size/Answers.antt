-- `bind_table_ref::table_size` meets its contract.
use mathlib.Core.Path.{ap, ◌∙◌}
use native.Mathlib.Omega.{arith}
use lib.ListN.{length}
use Rattle.bytes_bundle.specs.Held.{held}
use Rattle.bind_table_ref.specs.Small.{known, table_name_short}
use Rattle.bind_table_ref.specs.Room.{bound_table_length}
use Rattle.bind_table_ref.proofs.table_size.Goals as goal

pub table_ref_len-requires : goal.table_ref_len-requires
table_ref_len-requires c = held c.requires (λ v h.
    omega (arith, ap length (c.table_name-name.ensures v h), table_name_short (known c.type_inv.t) h))

pub returns : goal.returns
returns c = record {
  few = held c.requires (λ v h.
      omega (arith, ap length (c.table_name-name.ensures v h), table_name_short (known c.type_inv.t) h, c.table_ref_len.ensures.0));
  told = λ v h. c.table_ref_len.ensures.0 ∙ omega (arith, ap length (c.table_name-name.ensures v h), bound_table_length v);
}
