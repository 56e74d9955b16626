-- What the writer of a bound statement asks for: the statement is bound by its rule, and the output has room for its image.
-- Assumes nothing.
use Rattle.std.specs.Prelude.{◌≡◌, refl, List, ℕ, ◌≤◌, length, Ok}
use Rattle.std.proofs.Common.{arith}
use Rattle.bytes_format.specs.Format.{Format}
use Rattle.bytes_bundle.specs.Held.{Holds}
use Rattle.image_catalogue.specs.Layout.{catalogue}
use Rattle.rules.specs.Answers.{Answer, given}
use Rattle.rules.specs.Tables.{Catalogue}
use Rattle.bind_table.specs.Told.{sized}
use Rattle.bind_table.specs.Steps.{sized_is}

-- c holds a catalogue, s a statement of layout f; the rule gives its answer, and the image of that has room in o
pub record Bindable {A B : Type 0} (f : Format A) (g : Format B) (rule : Catalogue → A → Answer B) (c s o : List ℕ) : Type 0 where
  pub tables : Catalogue
  pub holds : Holds catalogue c tables
  pub statement : A
  pub reads : Holds f s statement
  pub value : B
  pub gives : rule tables statement ≡ given value
  pub room : length (g.write value) ≤ length o

-- what was measured, and has room, is bindable
pub bindable : {A B : Type 0} (f : Format A) (g : Format B) (rule : Catalogue → A → Answer B) {c s o : List ℕ} {n : ℕ} (cat : Catalogue) (v : A) → Holds catalogue c cat
    → Holds f s v → Ok n ≡ sized g (rule cat v) → n ≤ length o → Bindable f g rule c s o
bindable f g rule cat v hc hv m r =
    let z = sized_is g m refl in
    record { tables = cat; holds = hc; statement = v; reads = hv; value = z.value; gives = z.gives; room = omega (arith, z.long, r) }
