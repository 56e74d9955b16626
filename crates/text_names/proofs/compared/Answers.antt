-- `text_names::compared` meets its contract.
use Rattle.std.proofs.Common.{map, ap, ◌∙◌, rules}
use Rattle.std.specs.Char.{to_ascii_lowercase}
use Rattle.std.proofs.lemmas.List.{take_at}
use Rattle.text_names.proofs.Laws.{kept, folded}
use Rattle.text_names.proofs.compared.Goals as goal

pub returns-then-not-quoted : goal.returns-then-not-quoted
returns-then-not-quoted c =
    take_at c.make_ascii_lowercase.new.self _ _ (search rules)
    ∙ c.make_ascii_lowercase.ensures.after
    ∙ ap (map to_ascii_lowercase) c.copy_from_slice.ensures.after
    ∙ folded c.args.quoted c.args.name.now (search rules)

pub returns-else-not-quoted : goal.returns-else-not-quoted
returns-else-not-quoted c =
    take_at c.copy_from_slice.new.self _ _ (search rules)
    ∙ c.copy_from_slice.ensures.after
    ∙ kept c.args.quoted c.args.name.now (search rules)
