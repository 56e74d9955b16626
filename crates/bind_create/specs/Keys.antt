-- Where the key of a CREATE TABLE stands, and the names that it has there.
-- Assumes nothing.
use Rattle.std.specs.Prelude.{◌≡◌, refl, Bool, true, false, cond, List, [], ◌∷◌, map, ℕ, zero, suc, length, drop}
use Rattle.std.proofs.Common.{ap, arith}
use Rattle.std.proofs.Math.Option.{Option, none, some}
use Rattle.rules.specs.declared.Refusal.{Refusal}
use Rattle.rules.specs.declared.Class.{Class}
use Rattle.rules.specs.declared.Class.TheVariants.{ConstraintViolation, UnsupportedSql}
use Rattle.rules.specs.Lists.{Text, is_some, is_empty, find}
use Rattle.rules.specs.Answers.{Answer, given, refused, refuse, ◌>>=◌}
use Rattle.rules.specs.Tables.{ColumnSchema, column_named}
use Rattle.rules.specs.Names.{canonical}
use Rattle.rules.specs.Statements.{Name, ColumnDefinition, Constraint, primary_key, other_constraint, CreateTable}
use Rattle.rules.specs.Analyze.{Definition, define_columns, constraints}
use Rattle.rules.proofs.Theorems.Answered.{mapped}
use Rattle.bind_table.specs.Told.{told}
use Rattle.bind_create.specs.Defined.{schema, schemas, definition}
use Rattle.std.specs.Prelude as rust
use Rattle.bind_create.specs.declared.Key.{Key}
use Rattle.bind_create.specs.declared.Key.TheVariants.{Nowhere, Column, Constrained}
use Rattle.std.specs.Prelude.{Result, Ok, Err}

abbrev pub has_key : Key → Bool
has_key Nowhere = false
has_key (Column i) = true
has_key (Constrained j) = true

-- what an answer whether column i is the key makes of the key so far
abbrev pub inlined : ℕ → Key → Answer Bool → Result Key Class
inlined i key (given k) = Ok (cond k (Column i) key)
inlined i key (refused r) = Err r.class

-- what constraint j makes of it, where `has` says whether there is a key already
abbrev pub constrained : ℕ → Bool → Constraint → Result Key Class
constrained j has (primary_key marked names) =
    cond marked (Err UnsupportedSql) (cond (is_empty names) (Err ConstraintViolation) (cond has (Err ConstraintViolation) (Ok (Constrained j))))
constrained j has other_constraint = Err UnsupportedSql

-- the option of column i
pub record ByColumn (cs : List ColumnDefinition) (i : ℕ) (names : Option (List Text)) : Type 0 where
  pub column : ColumnDefinition
  pub rest : List ColumnDefinition
  pub here : drop i cs ≡ column ∷ rest
  pub is : names ≡ some (canonical column.name ∷ [])

-- constraint j
pub record ByConstraint (ds : List Constraint) (j : ℕ) (names : Option (List Text)) : Type 0 where
  pub marked : Bool
  pub list : List Name
  pub rest : List Constraint
  pub here : drop j ds ≡ primary_key marked list ∷ rest
  pub is : names ≡ some (map canonical list)

-- the names of the key, where the code says that it stands
abbrev pub NamedAt : List ColumnDefinition → List Constraint → Key → Option (List Text) → Type 0
NamedAt cs ds Nowhere names = names ≡ none
NamedAt cs ds (Column i) names = ByColumn cs i names
NamedAt cs ds (Constrained j) names = ByConstraint ds j names

pub record KeyAt (cs : List ColumnDefinition) (ds : List Constraint) (key : Key) (names : Option (List Text)) : Type 0 where
  pub named : NamedAt cs ds key names

pub key_there : {cs : List ColumnDefinition} {ds : List Constraint} {key : Key} {names : Option (List Text)} → KeyAt cs ds key names → is_some names ≡ has_key key
key_there {cs} {ds} {key} {names} k = go key k.named
  where
    go : (key : Key) → NamedAt cs ds key names → is_some names ≡ has_key key
    go Nowhere k = ap is_some k
    go (Column i) k = ap is_some k.is
    go (Constrained j) k = ap is_some k.is

-- a column's key is one whatever the constraints are
pub key_inline : {cs : List ColumnDefinition} (ds : List Constraint) {key : Key} {names : Option (List Text)} → KeyAt cs [] key names → KeyAt cs ds key names
key_inline {cs} ds {key} {names} k = record { named = go key k.named }
  where
    go : (key : Key) → NamedAt cs [] key names → NamedAt cs ds key names
    go Nowhere k = k
    go (Column i) k = k
    go (Constrained zero) k = absurd (omega (arith, ap length k.here))
    go (Constrained (suc j)) k = absurd (omega (arith, ap length k.here))

-- ---- what the code answers

-- the columns are read, and the key so far stands where it is said
pub record ColumnsRead (cs : List ColumnDefinition) (key : Key) : Type 0 where
  pub names : Option (List Text)
  pub gives : define_columns (definition [] none) cs ≡ given (definition (schemas 0 cs) names)
  pub at : KeyAt cs [] key names

abbrev pub ReadsColumns : List ColumnDefinition → Result Key Class → Type 0
ReadsColumns cs (Ok key) = ColumnsRead cs key
ReadsColumns cs (Err k) = define_columns (definition [] none) cs ≡ refuse k

-- the constraints are read too
pub record ConstraintsRead (cs : List ColumnDefinition) (ds : List Constraint) (before : Option (List Text)) (key : Key) : Type 0 where
  pub names : Option (List Text)
  pub gives : constraints before ds ≡ given names
  pub at : KeyAt cs ds key names

abbrev pub ReadsConstraints : List ColumnDefinition → List Constraint → Option (List Text) → Result Key Class → Type 0
ReadsConstraints cs ds before (Ok key) = ConstraintsRead cs ds before key
ReadsConstraints cs ds before (Err k) = constraints before ds ≡ refuse k

-- both: the columns that are made, and the names of the key
abbrev pub Read : Type 0
Read = List ColumnSchema × Option (List Text)

abbrev pub read_of : List ColumnSchema → Option (List Text) → Read
read_of cs names = (cs, names)

abbrev pub read_key : CreateTable → Answer Read
read_key c = do
  d ← define_columns (definition [] none) c.columns
  names ← constraints d.key c.constraints
  given (read_of d.columns names)

pub record KeyRead (c : CreateTable) (key : Key) : Type 0 where
  pub names : Option (List Text)
  pub gives : read_key c ≡ given (read_of (schemas 0 c.columns) names)
  pub at : KeyAt c.columns c.constraints key names

abbrev pub ReadsKey : CreateTable → Result Key Class → Type 0
ReadsKey c (Ok key) = KeyRead c key
ReadsKey c (Err k) = read_key c ≡ refuse k

pub read_joined : {B : Type 0} (c : CreateTable) (f : List ColumnSchema → Option (List Text) → Answer B)
    → (define_columns (definition [] none) c.columns >>= (λ d. constraints d.key c.constraints >>= (λ names. f d.columns names)))
    ≡ (read_key c >>= (λ p. f p.0 p.1))
read_joined c f = go (define_columns (definition [] none) c.columns)
  where
    next : (d : Definition) (a : Answer (Option (List Text))) → (a >>= (λ names. f d.columns names)) ≡ ((a >>= (λ names. given (read_of d.columns names))) >>= (λ p. f p.0 p.1))
    next d (given names) = refl
    next d (refused r) = refl

    go : (a : Answer Definition)
        → (a >>= (λ d. constraints d.key c.constraints >>= (λ names. f d.columns names)))
        ≡ ((a >>= (λ d. constraints d.key c.constraints >>= (λ names. given (read_of d.columns names)))) >>= (λ p. f p.0 p.1))
    go (given d) = next d (constraints d.key c.constraints)
    go (refused r) = refl

-- the number of what an answer gives, or its refusal
abbrev pub counted : {A : Type 0} → Answer (List A) → Result ℕ Refusal
counted a = told (mapped length a)

-- the first column of a name
pub record ColumnFound (cs : List ColumnDefinition) (name : Text) (i : ℕ) : Type 0 where
  pub column : ColumnDefinition
  pub rest : List ColumnDefinition
  pub here : drop i cs ≡ column ∷ rest
  pub is : find (column_named name) (schemas 0 cs) ≡ some (schema i column)

abbrev pub FindsColumn : List ColumnDefinition → Text → rust.Option ℕ → Type 0
FindsColumn cs name (rust.Some i) = ColumnFound cs name i
FindsColumn cs name rust.None = find (column_named name) (schemas 0 cs) ≡ none
