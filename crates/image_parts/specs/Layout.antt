-- The statement's image, as docs/IMAGES.md lays it out ("The statement"). Counts have 2 bytes.
-- Each `..Cases` is the list of a code's cases in the order of the codes; `which..` says which case a value is.
-- Assumes nothing.
use Rattle.std.specs.Prelude.{◌≡◌, refl, List, [], ◌∷◌, ℕ}
use Rattle.std.proofs.Math.Option.{Option, some}
use Rattle.std.proofs.Math.ListN.{get_elem?}
use Rattle.bytes_wire.specs.Le.{Bytes}
use Rattle.bytes_format.specs.Format.{Format, Fixed}
use Rattle.bytes_format.proofs.Formats.{text, nothing, code, mark, alone, via, headed, both, optional, end, ◌and◌, list_of, record_of}
use Rattle.bytes_format.proofs.Sums.{Case, case, Some, nth, made, sum, choice}
use Rattle.rules.specs.declared.DataType.TheVariants as data-type
use Rattle.rules.specs.Statements.{
  Name,
  ObjectName,
  plain,
  qualified,
  Expr,
  ColumnType,
  known,
  other_type,
  OptionKind,
  option_null,
  option_not_null,
  option_key,
  option_key_with_characteristics,
  other_option,
  ColumnOption,
  ColumnDefinition,
  Constraint,
  primary_key,
  other_constraint,
  CreateTable,
  SourceBody,
  values,
  not_values,
  Source,
  Insert,
  Relation,
  direct,
  indirect,
  TableWithJoins,
  Item,
  star,
  column,
  other_item,
  From,
  one,
  not_one,
  Select,
  QueryBody,
  plain_select,
  not_plain,
  Query,
  Target,
  target,
  tuple,
  Assignment,
  Update,
  DeleteFrom,
  from,
  no_keyword,
  Delete,
  Kind,
  create_table,
  insert,
  query,
  update,
  delete,
  begin,
  commit,
  rollback,
  show_tables,
  other_kind,
  Statement,
}
use Rattle.image_expression.specs.Expression.{expression, expression_not_empty}

-- ---- names

unfoldable pub name : Format Name
name = via (headed mark (λ q. text)) (λ p. record { quoted = p.0; text = p.1 }) (λ n. (n.quoted, n.text)) (λ n. refl) (λ p h. refl)

abbrev pub object_name_cases : List (Case ObjectName)
object_name_cases = case nothing (λ u. qualified) ∷ case name plain ∷ []

abbrev pub which_object_name : ObjectName → Some object_name_cases
which_object_name qualified = nth object_name_cases 0 tt
which_object_name (plain n) = nth object_name_cases 1 n

pub object_name_made : (o : ObjectName) → made object_name_cases (which_object_name o) ≡ o
object_name_made qualified = refl
object_name_made (plain n) = refl

unfoldable pub object_name : Format ObjectName
object_name = choice (sum object_name_cases which_object_name object_name_made refl) refl

-- ---- CREATE TABLE

abbrev pub column_types : List ColumnType
column_types = known data-type.Int ∷ known data-type.Text ∷ known data-type.Bool ∷ other_type ∷ []

abbrev pub column_type_no : ColumnType → ℕ
column_type_no (known data-type.Int) = 0
column_type_no (known data-type.Text) = 1
column_type_no (known data-type.Bool) = 2
column_type_no other_type = 3

pub column_type_found : (t : ColumnType) → get_elem? column_types (column_type_no t) ≡ some t
column_type_found (known data-type.Int) = refl
column_type_found (known data-type.Text) = refl
column_type_found (known data-type.Bool) = refl
column_type_found other_type = refl

abbrev pub column_type : Fixed ColumnType
column_type = code (record { all = column_types; index = column_type_no; found = column_type_found; order = refl; few = refl })

abbrev pub option_kinds : List OptionKind
option_kinds = option_null ∷ option_not_null ∷ option_key ∷ option_key_with_characteristics ∷ other_option ∷ []

abbrev pub option_kind_no : OptionKind → ℕ
option_kind_no option_null = 0
option_kind_no option_not_null = 1
option_kind_no option_key = 2
option_kind_no option_key_with_characteristics = 3
option_kind_no other_option = 4

pub option_kind_found : (k : OptionKind) → get_elem? option_kinds (option_kind_no k) ≡ some k
option_kind_found option_null = refl
option_kind_found option_not_null = refl
option_kind_found option_key = refl
option_kind_found option_key_with_characteristics = refl
option_kind_found other_option = refl

abbrev pub option_kind : Fixed OptionKind
option_kind = code (record { all = option_kinds; index = option_kind_no; found = option_kind_found; order = refl; few = refl })

unfoldable pub option : Format ColumnOption
option =
    via (alone (both mark option_kind)) (λ p. record { named = p.0; kind = p.1 }) (λ o. (o.named, o.kind)) (λ o. refl) (λ p h. refl)

unfoldable pub column_definition : Format ColumnDefinition
column_definition =
    via (record_of 2 (alone mark and name and list_of 2 option and alone column_type and end))
    (λ p. record { collation = p.0; name = p.1.0; options = p.1.1.0; ty = p.1.1.1.0 })
    (λ c. (c.collation, (c.name, (c.options, (c.ty, tt)))))
    (λ c. refl)
    (λ p h. refl)

abbrev pub constraint_cases : List (Case Constraint)
constraint_cases =
    case nothing (λ u. other_constraint) ∷ case (headed mark (λ m. list_of 2 name)) (λ p. primary_key p.0 p.1) ∷ []

abbrev pub which_constraint : Constraint → Some constraint_cases
which_constraint other_constraint = nth constraint_cases 0 tt
which_constraint (primary_key m names) = nth constraint_cases 1 (m, names)

pub constraint_made : (c : Constraint) → made constraint_cases (which_constraint c) ≡ c
constraint_made other_constraint = refl
constraint_made (primary_key m names) = refl

unfoldable pub constraint : Format Constraint
constraint = choice (sum constraint_cases which_constraint constraint_made refl) refl

unfoldable pub create : Format CreateTable
create =
    via (record_of 2 (alone (both mark (both mark mark)) and object_name and list_of 2 column_definition and list_of 2 constraint and end))
    (λ p. record {
      if_not_exists = p.0.0;
      as_query = p.0.1.0;
      other_feature = p.0.1.1;
      name = p.1.0;
      columns = p.1.1.0;
      constraints = p.1.1.1.0;
    })
    (λ c. ((c.if_not_exists, (c.as_query, c.other_feature)), (c.name, (c.columns, (c.constraints, tt)))))
    (λ c. refl)
    (λ p h. refl)

-- ---- INSERT

abbrev pub source_body_cases : List (Case SourceBody)
source_body_cases =
    case nothing (λ u. not_values) ∷ case (headed mark (λ m. list_of 2 (list_of 2 expression))) (λ p. values p.0 p.1) ∷ []

abbrev pub which_source_body : SourceBody → Some source_body_cases
which_source_body not_values = nth source_body_cases 0 tt
which_source_body (values m rows) = nth source_body_cases 1 (m, rows)

pub source_body_made : (b : SourceBody) → made source_body_cases (which_source_body b) ≡ b
source_body_made not_values = refl
source_body_made (values m rows) = refl

unfoldable pub source_body : Format SourceBody
source_body = choice (sum source_body_cases which_source_body source_body_made refl) refl

unfoldable pub source : Format Source
source = via (headed mark (λ m. source_body)) (λ p. record { clauses = p.0; body = p.1 }) (λ q. (q.clauses, q.body)) (λ q. refl) (λ p h. refl)

unfoldable pub insertion : Format Insert
unfolding source
insertion =
    via (record_of 2 (alone mark and object_name and list_of 2 name and optional source refl and end))
    (λ p. record { modified = p.0; name = p.1.0; columns = p.1.1.0; source = p.1.1.1.0 })
    (λ i. (i.modified, (i.name, (i.columns, (i.source, tt)))))
    (λ i. refl)
    (λ p h. refl)

-- ---- one table

abbrev pub relation_cases : List (Case Relation)
relation_cases = case nothing (λ u. indirect) ∷ case (headed mark (λ m. object_name)) (λ p. direct p.0 p.1) ∷ []

abbrev pub which_relation : Relation → Some relation_cases
which_relation indirect = nth relation_cases 0 tt
which_relation (direct m n) = nth relation_cases 1 (m, n)

pub relation_made : (r : Relation) → made relation_cases (which_relation r) ≡ r
relation_made indirect = refl
relation_made (direct m n) = refl

unfoldable pub relation : Format Relation
relation = choice (sum relation_cases which_relation relation_made refl) refl

unfoldable pub table_with_joins : Format TableWithJoins
table_with_joins =
    via (headed mark (λ m. relation)) (λ p. record { joins = p.0; relation = p.1 }) (λ t. (t.joins, t.relation)) (λ t. refl) (λ p h. refl)

-- ---- SELECT

abbrev pub item_cases : List (Case Item)
item_cases = case nothing (λ u. other_item) ∷ case nothing (λ u. star) ∷ case name column ∷ []

abbrev pub which_item : Item → Some item_cases
which_item other_item = nth item_cases 0 tt
which_item star = nth item_cases 1 tt
which_item (column n) = nth item_cases 2 n

pub item_made : (i : Item) → made item_cases (which_item i) ≡ i
item_made other_item = refl
item_made star = refl
item_made (column n) = refl

unfoldable pub item : Format Item
item = choice (sum item_cases which_item item_made refl) refl

abbrev pub from_cases : List (Case From)
from_cases = case nothing (λ u. not_one) ∷ case table_with_joins one ∷ []

abbrev pub which_from : From → Some from_cases
which_from not_one = nth from_cases 0 tt
which_from (one t) = nth from_cases 1 t

pub from_made : (f : From) → made from_cases (which_from f) ≡ f
from_made not_one = refl
from_made (one t) = refl

unfoldable pub select_from : Format From
select_from = choice (sum from_cases which_from from_made refl) refl

-- a condition: nothing at all, or an expression
abbrev pub condition : Format (Option Expr)
condition = optional expression expression_not_empty

unfoldable pub select : Format Select
select =
    via (record_of 2 (alone mark and select_from and list_of 2 item and condition and end))
    (λ p. record { features = p.0; from = p.1.0; items = p.1.1.0; condition = p.1.1.1.0 })
    (λ s. (s.features, (s.from, (s.items, (s.condition, tt)))))
    (λ s. refl)
    (λ p h. refl)

abbrev pub query_body_cases : List (Case QueryBody)
query_body_cases = case nothing (λ u. not_plain) ∷ case select plain_select ∷ []

abbrev pub which_query_body : QueryBody → Some query_body_cases
which_query_body not_plain = nth query_body_cases 0 tt
which_query_body (plain_select s) = nth query_body_cases 1 s

pub query_body_made : (b : QueryBody) → made query_body_cases (which_query_body b) ≡ b
query_body_made not_plain = refl
query_body_made (plain_select s) = refl

unfoldable pub query_body : Format QueryBody
query_body = choice (sum query_body_cases which_query_body query_body_made refl) refl

unfoldable pub selection : Format Query
selection = via (headed mark (λ m. query_body)) (λ p. record { clauses = p.0; body = p.1 }) (λ q. (q.clauses, q.body)) (λ q. refl) (λ p h. refl)

-- ---- UPDATE

abbrev pub target_cases : List (Case Target)
target_cases = case nothing (λ u. tuple) ∷ case object_name target ∷ []

abbrev pub which_target : Target → Some target_cases
which_target tuple = nth target_cases 0 tt
which_target (target n) = nth target_cases 1 n

pub target_made : (t : Target) → made target_cases (which_target t) ≡ t
target_made tuple = refl
target_made (target n) = refl

unfoldable pub assignment_target : Format Target
assignment_target = choice (sum target_cases which_target target_made refl) refl

unfoldable pub assignment : Format Assignment
assignment =
    via (record_of 2 (assignment_target and expression and end))
    (λ p. record { target = p.0; value = p.1.0 })
    (λ a. (a.target, (a.value, tt)))
    (λ a. refl)
    (λ p h. refl)

unfoldable pub updating : Format Update
updating =
    via (record_of 2 (alone (both mark (both mark mark)) and table_with_joins and list_of 2 assignment and condition and end))
    (λ p. record {
      from = p.0.0;
      returning = p.0.1.0;
      conflict = p.0.1.1;
      table = p.1.0;
      assignments = p.1.1.0;
      condition = p.1.1.1.0;
    })
    (λ u. ((u.from, (u.returning, u.conflict)), (u.table, (u.assignments, (u.condition, tt)))))
    (λ u. refl)
    (λ p h. refl)

-- ---- DELETE

abbrev pub delete_from_cases : List (Case DeleteFrom)
delete_from_cases = case nothing (λ u. no_keyword) ∷ case nothing (λ u. from not_one) ∷ case table_with_joins (λ t. from (one t)) ∷ []

abbrev pub which_delete_from : DeleteFrom → Some delete_from_cases
which_delete_from no_keyword = nth delete_from_cases 0 tt
which_delete_from (from not_one) = nth delete_from_cases 1 tt
which_delete_from (from (one t)) = nth delete_from_cases 2 t

pub delete_from_made : (f : DeleteFrom) → made delete_from_cases (which_delete_from f) ≡ f
delete_from_made no_keyword = refl
delete_from_made (from not_one) = refl
delete_from_made (from (one t)) = refl

unfoldable pub delete_from : Format DeleteFrom
delete_from = choice (sum delete_from_cases which_delete_from delete_from_made refl) refl

unfoldable pub deletion : Format Delete
deletion =
    via (record_of 2 (alone (both mark (both mark (both mark (both mark mark)))) and delete_from and condition and end))
    (λ p. record {
      tables = p.0.0;
      using_clause = p.0.1.0;
      returning = p.0.1.1.0;
      order_by = p.0.1.1.1.0;
      limit = p.0.1.1.1.1;
      from = p.1.0;
      condition = p.1.1.0;
    })
    (λ d. ((d.tables, (d.using_clause, (d.returning, (d.order_by, d.limit)))), (d.from, (d.condition, tt))))
    (λ d. refl)
    (λ p h. refl)

-- ---- the statement

abbrev pub kind_cases : List (Case Kind)
kind_cases =
    case create create_table ∷ case insertion insert ∷ case selection query ∷ case updating update ∷ case deletion delete ∷ case (alone mark) begin
    ∷ case (alone mark) commit ∷ case (alone (both mark mark)) (λ p. rollback p.0 p.1) ∷ case (alone mark) show_tables
    ∷ case nothing (λ u. other_kind) ∷ []

abbrev pub which_kind : Kind → Some kind_cases
which_kind (create_table c) = nth kind_cases 0 c
which_kind (insert i) = nth kind_cases 1 i
which_kind (query q) = nth kind_cases 2 q
which_kind (update u) = nth kind_cases 3 u
which_kind (delete d) = nth kind_cases 4 d
which_kind (begin m) = nth kind_cases 5 m
which_kind (commit m) = nth kind_cases 6 m
which_kind (rollback m n) = nth kind_cases 7 (m, n)
which_kind (show_tables m) = nth kind_cases 8 m
which_kind other_kind = nth kind_cases 9 tt

pub kind_made : (k : Kind) → made kind_cases (which_kind k) ≡ k
kind_made (create_table c) = refl
kind_made (insert i) = refl
kind_made (query q) = refl
kind_made (update u) = refl
kind_made (delete d) = refl
kind_made (begin m) = refl
kind_made (commit m) = refl
kind_made (rollback m n) = refl
kind_made (show_tables m) = refl
kind_made other_kind = refl

unfoldable pub kind : Format Kind
kind =
    choice
    (sum kind_cases which_kind kind_made refl)
    refl

unfoldable pub statement : Format Statement
statement =
    via (record_of 2 (text and kind and end)) (λ p. record { raw = p.0; kind = p.1.0 }) (λ s. (s.raw, (s.kind, tt))) (λ s. refl) (λ p h. refl)

-- ---- what a reader of the images wants to know

-- the one image of a statement, the statement that bytes stand for, and which statements have an image
unfoldable pub encode : Statement → List ℕ
encode = statement.write

unfoldable pub decode : List ℕ → Option Statement
decode = statement.read

unfoldable pub HasImage : Statement → Type 0
HasImage = statement.Ok

-- writing then reading gives the value back
pub decode_encode : (s : Statement) → HasImage s → decode (encode s) ≡ some s
unfolding encode decode HasImage
decode_encode = statement.there

-- what reads is what would be written
pub encode_decode : (b : List ℕ) (s : Statement) → Bytes b → decode b ≡ some s → (b ≡ encode s) × HasImage s
unfolding encode decode HasImage
encode_decode = statement.back
