-- What has a name in a list: the kinds of entries, the name that each has, and what a search over a list's bytes answers.
-- Assumes nothing.
use Rattle.std.specs.Prelude.{◌≡◌, refl, Bool, true, List, [], ◌∷◌, map, ℕ, Option as Maybe}
use Rattle.std.proofs.Common.{ap}
use Rattle.std.proofs.Math.Option.{Option, none, some}
use Rattle.bytes_format.specs.Format.{Format}
use Rattle.bytes_format.proofs.Formats.{list_of, optional}
use Rattle.bytes_bundle.specs.Held.{Holds, Is}
use Rattle.rules.specs.Lists.{Text, all}
use Rattle.rules.specs.Names.{canonical}
use Rattle.rules.specs.Limits.{name_within}
use Rattle.rules.specs.Statements.{Name, ObjectName, plain, qualified, ColumnDefinition, Target, target, tuple, Assignment}
use Rattle.image_parts.specs.Layout.{name, column_definition, assignment}
use Rattle.bind_repeats.specs.declared.Of.{Of}
use Rattle.bind_repeats.specs.declared.Of.TheVariants as of
use Rattle.bind_repeats.specs.Repeats.{alike, first_repeated}

-- ---- the kinds of entries

abbrev pub Entry : Of → Type 0
Entry of.Names = Name
Entry of.Columns = ColumnDefinition
Entry of.Targets = Assignment

abbrev pub form : (o : Of) → Format (Entry o)
form of.Names = name
form of.Columns = column_definition
form of.Targets = assignment

abbrev pub object_in : ObjectName → Option Name
object_in (plain n) = some n
object_in qualified = none

abbrev pub target_in : Target → Option Name
target_in (target n) = object_in n
target_in tuple = none

-- the name of an entry, if it has one
abbrev pub name_in : (o : Of) → Entry o → Option Name
name_in of.Names n = some n
name_in of.Columns c = some c.name
name_in of.Targets a = target_in a.target

-- as it is compared
abbrev pub compared : Option Name → Option Text
compared none = none
compared (some n) = some (canonical n)

abbrev pub entry : (o : Of) → Entry o → Option Text
entry o v = compared (name_in o v)

abbrev pub alike_names : Option Name → Option Name → Bool
alike_names a b = alike (compared a) (compared b)

-- ---- the name that an entry has, as bytes

pub name_not_empty : name.read [] ≡ none
unfolding name
name_not_empty = refl

-- a name, or no byte where there is none
abbrev pub maybe_name : Format (Option Name)
maybe_name = optional name name_not_empty

-- q is the name of what p holds, or no byte where that has none
pub record Named {A : Type 0} (f : Format A) (g : A → Option Name) (p q : List ℕ) : Type 0 where
  pub is : (v : A) → Holds f p v → Holds maybe_name q (g v)

-- ---- what the code may rely on

abbrev pub short_name : Option Name → Bool
short_name none = true
short_name (some n) = name_within n.text

-- s holds an entry, and its name, if it has one, has at most 128 bytes
pub record ShortIn {A : Type 0} (f : Format A) (g : A → Option Name) (s : List ℕ) : Type 0 where
  pub is : Is f s
  pub short : (v : A) → Holds f s v → short_name (g v) ≡ true

-- s is a name of at most 128 bytes, or no byte
abbrev pub ShortName : List ℕ → Type 0
ShortName s = ShortIn maybe_name (λ n. n) s

-- s holds a list of such entries
pub record AllShort (o : Of) (s : List ℕ) : Type 0 where
  pub is : Is (list_of 2 (form o)) s
  pub short : (vs : List (Entry o)) → Holds (list_of 2 (form o)) s vs → all (λ v. short_name (name_in o v)) vs ≡ true

-- ---- what the search answers

-- whether the entries in p and q are alike
abbrev pub Compares : (o : Of) → List ℕ → List ℕ → Bool → Type 0
Compares o p q r = (v w : Entry o) → Holds (form o) p v → Holds (form o) q w → r ≡ alike_names (name_in o v) (name_in o w)

-- the same by the bytes of their names
abbrev pub ComparesNames : List ℕ → List ℕ → Bool → Type 0
ComparesNames p q r = (v w : Option Name) → Holds maybe_name p v → Holds maybe_name q w → r ≡ alike_names v w

-- the place of the first entry that repeats an earlier one
abbrev pub FindsRepeat : Of → List ℕ → Maybe ℕ → Type 0
FindsRepeat o s r = (vs : List (Entry o)) → Holds (list_of 2 (form o)) s vs → r ≡ first_repeated (map (entry o) vs)

-- ---- names that are all there

pub entries_plain : (ns : List Name) → map (entry of.Names) ns ≡ map some (map canonical ns)
entries_plain [] = refl
entries_plain (n ∷ ns) = ap (λ (l : List (Option Text)). some (canonical n) ∷ l) (entries_plain ns)
