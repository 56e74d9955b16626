-- What the value rules come to where an operand is a fault, where NULL is tested for, and where the operator is another one.
-- Assumes nothing.
use Rattle.std.specs.Prelude.{◌≡◌, Bool, true, false, not, ℕ}
use Rattle.std.proofs.Math.Path.{refl}
use Rattle.std.proofs.Math.Option.{Option, none, some}
use Rattle.image_expression.specs.Place.{bin_of}
use Rattle.rules.specs.Bound.{Value}
use Rattle.rules.specs.Evaluate.{is_null, binary_value, unary_value}
use Rattle.rules.specs.Statements.{Unary, null_test, Binary}
use Rattle.run_values.specs.Worths.{told, over_one, over_two}

-- ---- a fault in an operand is the whole's fault

pub fault_one : (o : Unary) {p : Option Value} → p ≡ none → none ≡ over_one o p
fault_one o h = rw h

pub fault_left : (o : Binary) {p : Option Value} (q : Option Value) → p ≡ none → none ≡ over_two o p q
fault_left o q h = rw h

pub fault_right : (o : Binary) (p : Option Value) {q : Option Value} → q ≡ none → none ≡ over_two o p q
fault_right o none h = refl
fault_right o (some u) h = rw h

-- ---- one operand

pub test_null : (n : Bool) → some (Value.bool (not n)) ≡ told (unary_value (null_test n) Value.null)
unfolding unary_value
test_null true = refl
test_null false = refl

pub test_other : (n : Bool) (v : Value) → is_null v ≡ false → some (Value.bool n) ≡ told (unary_value (null_test n) v)
unfolding unary_value
test_other true v h = rw h
test_other false v h = rw h

-- ---- another operator

pub other_binary_lem : {k : ℕ} → k ≡ 29 → (p q : Option Value) → none ≡ over_two (bin_of k) p q
unfolding bin_of binary_value
other_binary_lem h none q = refl
other_binary_lem h (some u) none = refl
other_binary_lem h (some u) (some v) = rw h
