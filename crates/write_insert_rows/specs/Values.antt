-- A value of a row by what its literal is taken as: room for its bytes, and the bytes.
-- Assumes nothing.
use Rattle.std.specs.Prelude.{◌≡◌, Bool, List, ℕ, ◌+◌, ◌≤◌, ℤ, length, Result, Ok, Err}
use Rattle.std.proofs.Common.{sym, ap, ◌∙◌}
use Rattle.bytes_wire.specs.Sets.{Wrote}
use Rattle.bytes_bundle.specs.Held.{Holds}
use Rattle.image_value.specs.Parts.{value}
use Rattle.image_expression.specs.Expression.{expression}
use Rattle.rules.specs.declared.Refusal.{Refusal}
use Rattle.rules.specs.Answers.{given}
use Rattle.rules.specs.Bound.{Value.int, Value.text, Value.bool, Value.null}
use Rattle.rules.specs.Statements.{Expr}
use Rattle.rules.specs.Analyze.{insert_literal}
use Rattle.image_bound.specs.Spelt.{int_length, text_length, bool_length, null_length}
use Rattle.bind_literal.specs.declared.Scalar.{Scalar}
use Rattle.bind_literal.specs.declared.Scalar.TheVariants as scalar
use Rattle.bind_literal.specs.Scalars.{value_of, text_in}
use Rattle.write_insert_rows.specs.Listing.{Gives, Puts, gives_room, gives_never, puts}

module _ (e : List ℕ) (r : Result Scalar Refusal) (says : (x : Expr) → Holds expression e x → insert_literal x ≡ value_of (text_in e) r) where
  taken : {a : Result Scalar Refusal} → r ≡ a → (x : Expr) → Holds expression e x → insert_literal x ≡ value_of (text_in e) a
  taken q x h = says x h ∙ ap (value_of (text_in e)) q

  module _ {o : List ℕ} {at : ℕ} (w : Gives expression e insert_literal value at o) where
    pub int_room : (z : ℤ) → r ≡ Ok (scalar.Int z) → at + 9 ≤ length o
    int_room z q = rw (int_length z) at (gives_room w {v = int z} (taken q))

    pub text_room : (s : List ℕ) → r ≡ Ok scalar.Text → s ≡ text_in e → at + (1 + length s) ≤ length o
    text_room s q k = rw (k, ← text_length (text_in e)) (gives_room w {v = text (text_in e)} (taken q))

    pub bool_room : (b : Bool) → r ≡ Ok (scalar.Bool b) → at + 2 ≤ length o
    bool_room b q = rw (bool_length b) at (gives_room w {v = bool b} (taken q))

    pub null_room : r ≡ Ok scalar.Null → at + 1 ≤ length o
    null_room q = rw null_length at (gives_room w {v = null} (taken q))

    pub literal_never : {k : Refusal} → r ≡ Err k → ⊥
    literal_never q = gives_never w (taken q)

  module _ {o o' : List ℕ} {at end : ℕ} where
    pub int_puts : (z : ℤ) → r ≡ Ok (scalar.Int z) → Wrote o at (value.write (int z)) end o' → Puts expression e insert_literal value o at end o'
    int_puts z q = puts {v = int z} (taken q)

    pub text_puts : (s : List ℕ) → r ≡ Ok scalar.Text → s ≡ text_in e → Wrote o at (value.write (text s)) end o' → Puts expression e insert_literal value o at end o'
    text_puts s q k = puts {v = text s} (λ x h. taken q x h ∙ ap (λ (t : List ℕ). given (text t)) (sym k))

    pub bool_puts : (b : Bool) → r ≡ Ok (scalar.Bool b) → Wrote o at (value.write (bool b)) end o' → Puts expression e insert_literal value o at end o'
    bool_puts b q = puts {v = bool b} (taken q)

    pub null_puts : r ≡ Ok scalar.Null → Wrote o at (value.write null) end o' → Puts expression e insert_literal value o at end o'
    null_puts q = puts {v = null} (taken q)
