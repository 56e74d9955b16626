-- What the analysis of a statement answers, as the code's Results.
-- Assumes nothing: these are definitions.
use Rattle.std.specs.Prelude.{◌≡◌, List, ℕ, length, Result, Ok, Err}
use Rattle.std.specs.Borrow.{Bor}
use Rattle.bytes_format.specs.Format.{Format}
use Rattle.image_catalogue.specs.Layout.{table}
use Rattle.bytes_bundle.specs.Held.{Holds}
use Rattle.rules.specs.declared.Refusal.{Refusal}
use Rattle.rules.specs.Answers.{Answer, given, refused}
use Rattle.rules.specs.Tables.{TableSchema}
use Rattle.rules.proofs.Theorems.Answered.{mapped}

abbrev pub told : Answer ℕ → Result ℕ Refusal
told (given n) = Ok n
told (refused r) = Err r

-- how long the image of what an answer gives is, or its refusal
unfoldable pub sized : {A : Type 0} → Format A → Answer A → Result ℕ Refusal
sized f a = told (mapped (λ v. length (f.write v)) a)

-- the bytes of the table that an answer gives, or the answer's refusal
abbrev pub ResolvedAs : Answer TableSchema → Result (Bor (List ℕ)) Refusal → Type 0
ResolvedAs a (Ok p) = (t : TableSchema) × (a ≡ given t) × Holds table p.now t
ResolvedAs a (Err r) = a ≡ refused r
