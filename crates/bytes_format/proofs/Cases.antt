-- Small images, worked out: bytes that are written and read, and damaged ones that are read as none.
-- Assumes nothing.
use Rattle.std.specs.Prelude.{◌≡◌, refl, Bool, true, false, List, [], ◌∷◌, ℕ, ℤ, negsuc}
use Rattle.std.proofs.Math.Option.{Option, none, some}
use Rattle.bytes_utf8.specs.Decide.{is_utf8}
use Rattle.std.proofs.Math.ListN.{get_elem?}
use Rattle.tree.specs.Tree.{Tree, Tree.leaf, Tree.un, Tree.bin, size}
use Rattle.bytes_format.specs.Format.{Format, Enum, Coded}
use Rattle.bytes_format.proofs.Formats.{text, nothing, number, mark, alone, int64, optional, end, ◌and◌, list_of, record_of, via}
use Rattle.bytes_format.proofs.Sums.{Case, case, Some, nth, made, sum, choice, kinds}
use Rattle.bytes_format.proofs.Run.{run, labels, labels_with}

-- ---- lists and records

an_empty_list : (list_of 2 text).read (0 ∷ 0 ∷ []) ≡ some []
unfolding is_utf8
an_empty_list = refl

-- "ab" and "c"
two_texts : (list_of 2 text).write ((97 ∷ 98 ∷ []) ∷ (99 ∷ []) ∷ []) ≡ 2 ∷ 0 ∷ 2 ∷ 0 ∷ 1 ∷ 0 ∷ 97 ∷ 98 ∷ 99 ∷ []
two_texts = refl

two_texts_read : (list_of 2 text).read (2 ∷ 0 ∷ 2 ∷ 0 ∷ 1 ∷ 0 ∷ 97 ∷ 98 ∷ 99 ∷ []) ≡ some ((97 ∷ 98 ∷ []) ∷ (99 ∷ []) ∷ [])
unfolding is_utf8
two_texts_read = refl

-- a byte too many, and one too few
a_byte_behind : (list_of 2 text).read (2 ∷ 0 ∷ 2 ∷ 0 ∷ 1 ∷ 0 ∷ 97 ∷ 98 ∷ 99 ∷ 99 ∷ []) ≡ none
unfolding is_utf8
a_byte_behind = refl

cut_off : (list_of 2 text).read (2 ∷ 0 ∷ 2 ∷ 0 ∷ 1 ∷ 0 ∷ 97 ∷ 98 ∷ []) ≡ none
unfolding is_utf8
cut_off = refl

-- a record of a number, a mark and a text: it has exactly three parts
abbrev entry : Format (ℕ × (Bool × (List ℕ × Unit {0})))
entry = record_of 2 (alone (number 4) and alone mark and text and end)

an_entry : entry.read (3 ∷ 0 ∷ 4 ∷ 0 ∷ 1 ∷ 0 ∷ 1 ∷ 0 ∷ 7 ∷ 1 ∷ 0 ∷ 0 ∷ 1 ∷ 97 ∷ []) ≡ some (263, (true, (97 ∷ [], tt)))
unfolding is_utf8
an_entry = refl

a_mark_of_2 : entry.read (3 ∷ 0 ∷ 4 ∷ 0 ∷ 1 ∷ 0 ∷ 1 ∷ 0 ∷ 7 ∷ 1 ∷ 0 ∷ 0 ∷ 2 ∷ 97 ∷ []) ≡ none
unfolding is_utf8
a_mark_of_2 = refl

two_parts_of_three : entry.read (2 ∷ 0 ∷ 4 ∷ 0 ∷ 1 ∷ 0 ∷ 7 ∷ 1 ∷ 0 ∷ 0 ∷ 1 ∷ []) ≡ none
unfolding is_utf8
two_parts_of_three = refl

-- the same as a declared record
record Entry : Type 0 where
  id : ℕ
  open? : Bool
  name : List ℕ

abbrev entries : Format (List Entry)
entries = list_of 2 (via entry (λ p. record { id = p.0; open? = p.1.0; name = p.1.1.0 }) (λ e. (e.id, (e.open?, (e.name, tt)))) (λ e. refl) (λ p h. refl))

-- ---- a sum

data Value : Type 0 where
  Int : ℤ → Value
  Text : List ℕ → Value
  Truth : Bool → Value
  Null : Value

abbrev values : List (Case Value)
values = case (alone int64) Int ∷ case text Text ∷ case (alone mark) Truth ∷ case nothing (λ u. Null) ∷ []

abbrev which : Value → Some values
which (Int z) = nth values 0 z
which (Text s) = nth values 1 s
which (Truth b) = nth values 2 b
which Null = nth values 3 tt

made_which : (v : Value) → made values (which v) ≡ v
made_which (Int z) = refl
made_which (Text s) = refl
made_which (Truth b) = refl
made_which Null = refl

abbrev value : Format Value
value = choice (sum values which made_which refl) refl

minus_two : value.write (Int (negsuc 1)) ≡ 0 ∷ 254 ∷ 255 ∷ 255 ∷ 255 ∷ 255 ∷ 255 ∷ 255 ∷ 255 ∷ []
minus_two = refl

minus_two_read : value.read (0 ∷ 254 ∷ 255 ∷ 255 ∷ 255 ∷ 255 ∷ 255 ∷ 255 ∷ 255 ∷ []) ≡ some (Int (negsuc 1))
minus_two_read = refl

a_null : value.read (3 ∷ []) ≡ some Null
a_null = refl

no_such_code : value.read (4 ∷ []) ≡ none
no_such_code = refl

-- nothing at all, or a value
abbrev default : Format (Option Value)
default = optional value refl

no_default : default.read [] ≡ some none
no_default = refl

a_default : default.read (2 ∷ 1 ∷ []) ≡ some (some (Truth true))
a_default = refl

-- ---- runs

data Leaf : Type 0 where
  Name Digits : List ℕ → Leaf
  Nothing : Leaf

abbrev leafs : List (Case Leaf)
leafs = case text Name ∷ case text Digits ∷ case nothing (λ u. Nothing) ∷ []

abbrev leaf? : Leaf → Some leafs
leaf? (Name s) = nth leafs 0 s
leaf? (Digits s) = nth leafs 1 s
leaf? Nothing = nth leafs 2 tt

made_leaf : (l : Leaf) → made leafs (leaf? l) ≡ l
made_leaf (Name s) = refl
made_leaf (Digits s) = refl
made_leaf Nothing = refl

data Op : Type 0 where
  plus minus : Op

abbrev place : Op → ℕ
place plus = 0
place minus = 1

found_op : (o : Op) → get_elem? (plus ∷ minus ∷ []) (place o) ≡ some o
found_op plus = refl
found_op minus = refl

abbrev ops : Enum Op
ops = record { all = plus ∷ minus ∷ []; index = place; found = found_op; order = refl; few = refl }

-- kinds 0 to 2 are leaves, 3 and 4 have one operand, 5 and 6 two
abbrev leaf_codes : Coded Leaf
leaf_codes = sum leafs leaf? made_leaf refl

abbrev expression : Format (Tree Leaf Op Op)
expression = run 2 (labels leaf_codes (kinds ops) (kinds ops) refl)

-- nothing at all, or an expression
abbrev condition : Format (Option (Tree Leaf Op Op))
condition = optional expression refl

-- a + -1
abbrev sum_of_two : Tree Leaf Op Op
sum_of_two = bin plus (leaf (Name (97 ∷ []))) (un minus (leaf (Digits (49 ∷ []))))

-- four nodes (kind, span, end), and the contents "a" and "1"
abbrev its_run : List ℕ
its_run = 4 ∷ 0
    ∷ 0 ∷ 1 ∷ 0 ∷ 1 ∷ 0
    ∷ 1 ∷ 1 ∷ 0 ∷ 2 ∷ 0
    ∷ 4 ∷ 2 ∷ 0 ∷ 2 ∷ 0
    ∷ 5 ∷ 4 ∷ 0 ∷ 2 ∷ 0
    ∷ 97 ∷ 49 ∷ []

a_run : expression.write sum_of_two ≡ its_run
unfolding size
a_run = refl

a_run_read : expression.read its_run ≡ some sum_of_two
unfolding size is_utf8
a_run_read = refl

-- the root's span is 3: a node would be left over
a_wrong_span : expression.read (4 ∷ 0 ∷ 0 ∷ 1 ∷ 0 ∷ 1 ∷ 0 ∷ 1 ∷ 1 ∷ 0 ∷ 2 ∷ 0 ∷ 4 ∷ 2 ∷ 0 ∷ 2 ∷ 0 ∷ 5 ∷ 3 ∷ 0 ∷ 2 ∷ 0 ∷ 97 ∷ 49 ∷ []) ≡ none
unfolding size is_utf8
a_wrong_span = refl

-- two trees
two_roots : expression.read (2 ∷ 0 ∷ 2 ∷ 1 ∷ 0 ∷ 0 ∷ 0 ∷ 2 ∷ 1 ∷ 0 ∷ 0 ∷ 0 ∷ []) ≡ none
unfolding size is_utf8
two_roots = refl

no_node : expression.read (0 ∷ 0 ∷ []) ≡ none
unfolding size is_utf8
no_node = refl

-- ends that fall
ends_that_fall : expression.read (2 ∷ 0 ∷ 0 ∷ 1 ∷ 0 ∷ 1 ∷ 0 ∷ 4 ∷ 2 ∷ 0 ∷ 0 ∷ 0 ∷ 97 ∷ []) ≡ none
unfolding size is_utf8
ends_that_fall = refl

-- a node with an operand and content
content_of_minus : expression.read (2 ∷ 0 ∷ 2 ∷ 1 ∷ 0 ∷ 0 ∷ 0 ∷ 4 ∷ 2 ∷ 0 ∷ 1 ∷ 0 ∷ 97 ∷ []) ≡ none
unfolding size is_utf8
content_of_minus = refl

-- the same with a head of two bytes, a code and a mark, and counts of four bytes
abbrev marked : Format (Tree (Bool × Leaf) (Bool × Op) (Bool × Op))
marked = run 4 (labels_with leaf_codes (kinds ops) (kinds ops) mark refl)

a_marked_run : marked.write (un (true, plus) (leaf (false, Name (97 ∷ [])))) ≡
    2 ∷ 0 ∷ 0 ∷ 0 ∷ 0 ∷ 0 ∷ 1 ∷ 0 ∷ 0 ∷ 0 ∷ 1 ∷ 0 ∷ 0 ∷ 0 ∷ 3 ∷ 1 ∷ 2 ∷ 0 ∷ 0 ∷ 0 ∷ 1 ∷ 0 ∷ 0 ∷ 0 ∷ 97 ∷ []
unfolding size
a_marked_run = refl

a_marked_run_read : marked.read (2 ∷ 0 ∷ 0 ∷ 0 ∷ 0 ∷ 0 ∷ 1 ∷ 0 ∷ 0 ∷ 0 ∷ 1 ∷ 0 ∷ 0 ∷ 0 ∷ 3 ∷ 1 ∷ 2 ∷ 0 ∷ 0 ∷ 0 ∷ 1 ∷ 0 ∷ 0 ∷ 0 ∷ 97 ∷ [])
    ≡ some (un (true, plus) (leaf (false, Name (97 ∷ []))))
unfolding size is_utf8
a_marked_run_read = refl
