-- What a bound statement says of its table and of its columns. Counts have 4 bytes in a bound statement.
-- Assumes nothing.
use Rattle.std.specs.Prelude.{refl, Bool}
use Rattle.bytes_format.specs.Format.{Format, Fixed}
use Rattle.bytes_format.proofs.Formats.{text, number, mark, via, via_field, headed, both}
use Rattle.image_value.specs.Parts.{column_id, table_id, data_type}
use Rattle.rules.specs.declared.TableId.{TableId}
use Rattle.rules.specs.declared.ColumnId.{ColumnId}
use Rattle.rules.specs.declared.Ordinal.{Ordinal}
use Rattle.rules.specs.declared.DataType.{DataType}
use Rattle.rules.specs.Bound.{BoundTableRef, BoundColumnRef}

-- table id, schema version, then the name
unfoldable pub bound_table_ref : Format BoundTableRef
bound_table_ref =
    via (headed (both table_id (number 8)) (λ h. text))
    (λ p. record { table_id = p.0.0; name = p.1; version = p.0.1 })
    (λ t. ((t.table_id, t.version), t.name))
    (λ t. refl)
    (λ p h. refl)

abbrev pub ordinal : Fixed Ordinal
ordinal = via_field (number 8) (λ n. record { 0 = n }) (λ o. o.0) (λ o. refl) (λ n h. refl)

abbrev pub RefNumbers : Type 0
RefNumbers = TableId × (ColumnId × (Ordinal × (DataType × Bool)))

abbrev pub ref_numbers : Fixed RefNumbers
ref_numbers = both table_id (both column_id (both ordinal (both data_type mark)))

-- table id, column id, ordinal, type, nullable, then the name
unfoldable pub bound_column_ref : Format BoundColumnRef
bound_column_ref =
    via (headed ref_numbers (λ h. text))
    (λ p. record {
      table_id = p.0.0;
      column_id = p.0.1.0;
      ordinal = p.0.1.1.0;
      name = p.1;
      ty = p.0.1.1.1.0;
      nullable = p.0.1.1.1.1;
    })
    (λ r. ((r.table_id, (r.column_id, (r.ordinal, (r.ty, r.nullable)))), r.name))
    (λ r. refl)
    (λ p h. refl)
