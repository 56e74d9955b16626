-- `write_insert_rows::put_value` meets its contract: in each arm the literal is known, and there is room for it.
use mathlib.Core.Path.{ap, ◌∙◌}
use Rattle.std.specs.Prelude.{Ok}
use Rattle.write_insert_rows.specs.Values.{int_room, text_room, bool_room, null_room}
use Rattle.write_insert_rows.proofs.put_value.Goals as goal

pub put_int-requires : goal.put_int-requires
put_int-requires c = int_room c.args.e.now _ c.insert_literal.ensures c.requires _ (c.in-Ok-Int.is ∙ ap Ok c.in-Ok-Int.field-0-is)

pub put_text-requires : goal.put_text-requires
put_text-requires c = text_room c.args.e.now _ c.insert_literal.ensures c.requires _ (c.in-Ok-Text.is ∙ ap Ok c.in-Ok-Text.field-0-is) c.text_of.ensures.0

pub put_bool-requires : goal.put_bool-requires
put_bool-requires c = bool_room c.args.e.now _ c.insert_literal.ensures c.requires _ (c.in-Ok-Bool.is ∙ ap Ok c.in-Ok-Bool.field-0-is)

pub put_null-requires : goal.put_null-requires
put_null-requires c = null_room c.args.e.now _ c.insert_literal.ensures c.requires (c.in-Ok-Null.is ∙ ap Ok c.in-Ok-Null.field-0-is)
