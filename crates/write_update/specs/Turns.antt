-- A loop over the bytes of the assignments that writes what they are bound to.
-- Assumes nothing.
use Rattle.std.specs.Prelude.{◌≡◌, List, [], ℕ, ◌+◌, ◌-◌, ◌*◌, ◌≤◌, length}
use Rattle.std.proofs.Common.{arith}
use Rattle.bytes_wire.specs.Le.{le}
use Rattle.bytes_wire.specs.Sets.{Wrote}
use Rattle.bytes_format.proofs.Formats.{list_of}
use Rattle.bytes_bundle.specs.Bundle.{parts_of}
use Rattle.bytes_bundle.specs.Held.{Holds, list_count}
use Rattle.bytes_bundle.specs.Numbered.{IsPart, valued}
use Rattle.image_bound.specs.Beside.{Listed, listed_none, listed_space, listed_more, listed_all, beside_long}
use Rattle.image_bound.specs.Bundles.{list_length}
use Rattle.image_bound.specs.Layout as layout
use Rattle.image_catalogue.specs.Layout.{table}
use Rattle.image_parts.specs.Layout.{assignment}
use Rattle.rules.specs.Answers.{given}
use Rattle.rules.specs.Analyze as analyze
use Rattle.rules.specs.Bound.{BoundAssignment}
use Rattle.rules.specs.Statements.{Assignment}
use Rattle.rules.specs.Tables.{TableSchema}
use Rattle.bind_update.specs.Within.{assignments_entry}
use Rattle.write_update.specs.Given.{AllGiven, AssignmentGiven, assignments_given, all_count, all_turn}
use Rattle.write_update.specs.Room.{AssignmentRoom, AssignmentsRoom}

-- the count and the place of the lengths have room
module _ {t s o : List ℕ} {at : ℕ} (r : AssignmentsRoom t s o at) {n : ℕ} (c : n ≡ length (parts_of 2 s)) where
  pub list_room : at + (4 + 4 * n) ≤ length o
  list_room =
      omega (arith, r.room, c, list_length layout.assignment r.values, all_count r.schema r.list r.values (assignments_given r.schema [] r.list r.gives), list_count assignment s r.reads)

  pub list_few : n ≤ 64
  list_few = omega (arith, c, r.names.few r.list r.reads, list_count assignment s r.reads)

-- the loop has written i assignments: their lengths up to `to`, their bytes up to `body`
pub record Writing (t s o : List ℕ) (lengths i to body : ℕ) (o' : List ℕ) : Type 0 where
  pub at : (v : TableSchema) (xs : List Assignment) (bs : List BoundAssignment) → Holds table t v → Holds (list_of 2 assignment) s xs → AllGiven v xs bs
      → Listed layout.assignment bs i o lengths to body o'

pub writing_none : {t s o : List ℕ} {lengths n : ℕ} → n ≡ length (parts_of 2 s) → Writing t s o lengths 0 lengths (lengths + 4 * n) o
writing_none {s = s} c = record { at = λ v xs bs hv hs g. listed_none (omega (arith, c, all_count v xs bs g, list_count assignment s hs)) }

module _ {t s o₁ o₂ : List ℕ} {lengths i to body : ℕ} (g : Writing t s o₁ lengths i to body o₂) {p : List ℕ} (d : IsPart 2 s i p) where
  -- in each turn there is room for the assignment, and then for its length
  module _ {o : List ℕ} {at : ℕ} (r : AssignmentsRoom t s o at) (b : lengths ≡ at + 4) (l : length o₁ ≡ length o) where
    pub turn_room : AssignmentRoom t p o₂ body
    turn_room =
        let a = assignments_given r.schema [] r.list r.gives in
        let x = valued assignment d r.reads in
        let y = all_turn r.schema i r.list r.values a x.rest in
        let z = listed_space (g.at r.schema r.list r.values r.holds r.reads a) y.rest in
        record {
          schema = r.schema;
          holds = r.holds;
          names = assignments_entry r.names d;
          tree = x.value;
          reads = x.holds;
          value = y.value;
          gives = y.gives;
          room = omega (arith, z.part, z.long, b, l, r.room, list_length layout.assignment r.values);
        }

    pub length_room : to + 4 ≤ length o₂
    length_room =
        let a = assignments_given r.schema [] r.list r.gives in
        let x = valued assignment d r.reads in
        let y = all_turn r.schema i r.list r.values a x.rest in
        let z = listed_space (g.at r.schema r.list r.values r.holds r.reads a) y.rest in
        omega (arith, z.entry, z.part, z.long, b, l, r.room, list_length layout.assignment r.values)

  pub writing_on : {o₃ o₄ : List ℕ} {to' after : ℕ}
      → ((v : TableSchema) (x : Assignment) (b : BoundAssignment) → Holds table t v → Holds assignment p x → AssignmentGiven v x b
      → Wrote o₂ body ((layout.assignment).write b) after o₃)
      → Wrote o₃ to (le 4 (after - body)) to' o₄ → Writing t s o₁ lengths (i + 1) to' after o₄
  writing_on w q = record {
    at = λ v xs bs hv hs a.
        let x = valued assignment d hs in
        let y = all_turn v i xs bs a x.rest in
        listed_more (g.at v xs bs hv hs a) y.rest (w v x.value y.value hv x.holds y.gives) q;
  }

-- no assignment is left
pub writing_end : {t s o o₁ o₂ : List ℕ} {at lengths i to body : ℕ} → Writing t s o₁ lengths i to body o₂ → {n : ℕ} → n ≡ length (parts_of 2 s) → length (parts_of 2 s) ≤ i
    → Wrote o at (le 4 n) lengths o₁ → (v : TableSchema) (xs : List Assignment) (bs : List BoundAssignment) → Holds table t v → Holds (list_of 2 assignment) s xs
    → analyze.assignments v [] xs ≡ given bs → Wrote o at ((list_of 4 layout.assignment).write bs) body o₂
writing_end {s = s} g q l w v xs bs hv hs h =
    let k = assignments_given v [] xs h in
    let c = all_count v xs bs k in
    listed_all (g.at v xs bs hv hs k) (omega (arith, l, c, list_count assignment s hs)) w (omega (arith, q, c, list_count assignment s hs))

-- and no byte moved
pub writing_long : {t s o o₁ o₂ : List ℕ} {at lengths i to body : ℕ} → AssignmentsRoom t s o at → Writing t s o₁ lengths i to body o₂ → length o₂ ≡ length o₁
writing_long r g =
    beside_long (g.at r.schema r.list r.values r.holds r.reads (assignments_given r.schema [] r.list r.gives)).beside
