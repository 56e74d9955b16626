-- `bind_insert_columns::is_lacking` meets its contract.
use mathlib.Core.Path.{◌≡◌, sym, ap, ◌∙◌}
use mathlib.Core.Bool.{Bool, not, ◌&&◌}
use mathlib.Core.List.{List, map}
use Prim.Native.Nat.{ℕ}
use Rattle.bytes_bundle.specs.Decides.{failed, passed}
use Rattle.rules.specs.Lists.{same, any}
use Rattle.rules.specs.Names.{canonical}
use Rattle.rules.specs.Analyze.{missing}
use Rattle.bind_insert_columns.specs.Columns.{is_among, among}
use Rattle.bind_insert_columns.proofs.is_lacking.Goals as goal

pub returns-then-not-is_needed : goal.returns-then-not-is_needed
returns-then-not-is_needed c = λ v w ns ht hw hs. sym (ap (λ (b : Bool). b && missing (map canonical ns) w) (failed (c.is_needed.ensures v w ht hw) (ap not c.if-not-is_needed.true)))

pub returns : goal.returns
returns c =
    λ v w ns ht hw hs.
    let a = c.args in
    let e : c.has_name.result ≡ any (same w.name) (map canonical ns) =
    c.has_name.ensures ns hs ∙ ap (λ (s : List ℕ). is_among s ns) (c.column_name.ensures w hw) ∙ among w.name ns in
    ap not e ∙ sym (ap (λ (b : Bool). b && missing (map canonical ns) w) (passed (c.is_needed.ensures v w ht hw) (ap not c.if-not-is_needed.false)))
