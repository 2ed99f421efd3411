-- Rows that carry mappings.
use Rattle.std.specs.Prelude.{◌≡◌, ℕ, ◌+◌, ◌/◌, ◌%◌, ◌<◌, Bool, true, false, ◌==◌, List, [], ◌∷◌, map, Option, Some, None, pos, is_some}
use Rattle.std.specs.List.{list_any, AllByRecursion}
use Rattle.query_eval_meaning.specs.Mapping.{Mapping, width}
use Rattle.rdf_meaning.specs.Terms.{RdfTerm, same_term}
use Rattle.bags.specs.Bag.{SameBag}
use Rattle.table_meaning.specs.declared.cell.Cell.{Cell}
use Rattle.table_meaning.specs.declared.cell.Cell.TheVariants.{Null, Int}
use Rattle.sql_meaning.specs.declared.script.Core.{Core}
use Rattle.sql_rows_meaning.specs.Tables.{Relation, Relations}
use Rattle.sql_rows_meaning.specs.Selects.{select_rows}
use Rattle.sql_rows_meaning.specs.Rows.{body_names}

-- the name of a table, of an alias or of a column
abbrev pub Name : Type 0
Name = List ℕ

-- the column of a variable: v and two digits
unfoldable pub column : ℕ → Name
column v = 118 ∷ (48 + v / 10) ∷ (48 + v % 10) ∷ []

-- the first column, of ones
abbrev pub one : Name
one = 111 ∷ 110 ∷ 101 ∷ []

-- the numbers of terms
abbrev pub Ids : Type 0
Ids = RdfTerm → ℕ

abbrev pub id_cell : Ids → Option RdfTerm → Cell
id_cell ids None = Null
id_cell ids (Some t) = Int (pos (ids t))

-- a one, and then the id of each variable's term
abbrev pub carry : Ids → List ℕ → Mapping → List Cell
carry ids vs m = Int (pos 1) ∷ map (λ v. id_cell ids (m v)) vs

abbrev pub columns_of : List ℕ → List Name
columns_of vs = one ∷ map column vs

-- the mapping binds variables of the list alone, to terms that differ where their numbers do
pub record Over (vs : List ℕ) (known : RdfTerm → Bool) (m : Mapping) : Type 0 where
  pub bound : (v : ℕ) → list_any (λ w. w == v) vs ≡ false → m v ≡ None
  pub known_terms : (v : ℕ) (t : RdfTerm) → m v ≡ Some t → known t ≡ true

-- known terms have numbers of their own
abbrev pub Numbers : Ids → (RdfTerm → Bool) → Type 0
Numbers ids known = (s t : RdfTerm) → known s ≡ true → known t ≡ true → (ids s == ids t) ≡ same_term s t

-- a table stands for solutions
pub record Carries (ids : Ids) (known : RdfTerm → Bool) (vs : List ℕ) (ms : List Mapping) (t : Relation) : Type 0 where
  pub columns : t.columns ≡ columns_of vs
  pub rows : SameBag t.rows (map (carry ids vs) ms)
  pub fits : AllByRecursion (Over vs known) ms
  pub below : AllByRecursion (λ v. v < width) vs

-- the mapping binds these variables
abbrev pub Binds : List ℕ → Mapping → Type 0
Binds certain m = (v : ℕ) → list_any (λ w. w == v) certain ≡ true → is_some (m v) ≡ true

-- what a step of one SELECT gives
abbrev pub select_table : Relations → Core → Relation
select_table relations c = record { columns = body_names (c ∷ []); rows = select_rows relations c }
