-- `write_statement::write` meets its contract.
use mathlib.Core.Path.{◌≡◌, sym, ap, ◌∙◌}
use mathlib.Core.Bool.{Bool}
use Rattle.image_bound.specs.Statements.{show_transactions_coded}
use Rattle.bytes_bundle.specs.Held.{Holds}
use Rattle.rules.specs.Statements.{Statement}
use Rattle.rules.specs.Trimmed.{is_show_transactions}
use Rattle.image_parts.specs.Layout as layout
use Rattle.bind_statement.specs.Dispatch.{goes_by_kind}
use Rattle.write_statement.specs.Codes.{code_room, code_wrote, transactions_bound, kind_bindable}
use Rattle.write_statement.proofs.write.Goals.{After-is_show_transactions}
use Rattle.write_statement.proofs.write.Goals as goal

-- what the test of the raw text said
told : (c : After-is_show_transactions) (t : Bool) → c.is_show_transactions.result ≡ t → (v : Statement) → Holds layout.statement c.args.s.now v
    → is_show_transactions v.raw ≡ t
told c t e v h = sym (c.is_show_transactions.ensures ∙ ap is_show_transactions (c.raw_of.ensures v h)) ∙ e

pub put_byte-requires : goal.put_byte-requires
put_byte-requires c =
    code_room (transactions_bound (told (goal.at.put_byte-requires c).After-is_show_transactions _ c.if-is_show_transactions.true)) show_transactions_coded c.requires.1

pub returns-then-is_show_transactions : goal.returns-then-is_show_transactions
returns-then-is_show_transactions c = λ cat v b hc h g.
    code_wrote (transactions_bound (told (goal.at.returns-then-is_show_transactions c).After-is_show_transactions _ c.if-is_show_transactions.true)) show_transactions_coded c.put_byte.ensures cat v b h g

pub write_kind-requires : goal.write_kind-requires
write_kind-requires c =
    let p = c.requires in
    (p.0, kind_bindable (told (goal.at.write_kind-requires c).After-is_show_transactions _ c.if-is_show_transactions.false) p.1)

pub returns : goal.returns
returns c = λ cat v b hc h g.
    c.write_kind.ensures cat v b hc h (sym (goes_by_kind cat v (told (goal.at.returns c).After-is_show_transactions _ c.if-is_show_transactions.false v h)) ∙ g)
