-- The LEFT JOIN with the table of lists.
use Rattle.std.proofs.Common.{◌≡◌, ℕ, ◌+◌, ◌≤◌, Bool, true, false, cond, if◌then◌else◌, List, [], ◌∷◌, map, Option, Some, None, length, sym, refl, ap, ap₂, ◌∙◌, arith, eqb, ◌==◌, pos, negsuc, bytes_eq}
use Rattle.std.proofs.lemmas.Bool.{ne_eqb, false_from_ne_true}
use Rattle.std.proofs.lemmas.Bool.Decides.{Decides-int_eq, Decides-eqb}
use Rattle.std.proofs.lemmas.Slice.Eq.{bytes_eq-Decides}
use Rattle.std.specs.Bool.{one_answer}
use Rattle.std.specs.Ordering.{int_eq, nat_cmp}
use Rattle.std.specs.BTreeMap.{is_at}
use Rattle.std.specs.Map.{lookup}
use Rattle.std.specs.List.{filter, flat_map}
use Rattle.bags.specs.Bag.{total, SameBag}
use Rattle.bags.specs.BagLaws.{total-same, total-map, total-flat_map, total-filter, total-zero, total-one_each}
use Rattle.table_meaning.specs.declared.cell.Cell.{Cell}
use Rattle.table_meaning.specs.declared.cell.Cell.TheVariants.{Int}
use Rattle.sql_meaning.specs.declared.script.Source.{Source}
use Rattle.sql_meaning.specs.declared.script.JoinTo.{JoinTo}
use Rattle.sql_meaning.specs.declared.expression.SqlExpr.{SqlExpr}
use Rattle.sql_meaning.specs.declared.expression.SqlExpr.TheVariants as sql
use Rattle.sql_rows_meaning.specs.Cells.{equal_cells}
use Rattle.sql_rows_meaning.specs.Values.{Sight, value_of, is_true, first_cell}
use Rattle.sql_rows_meaning.specs.ValueLaws.{value_of-Name, value_of-Equal}
use Rattle.sql_rows_meaning.specs.Tables.{Relations, cell_under}
use Rattle.sql_rows_meaning.specs.Sources.{with_row, joined_to}
use Rattle.layout_meaning.specs.declared.value.Value.{Value}
use Rattle.layout_meaning.specs.declared.value.Value.TheVariants.{One, Many}
use Rattle.layout_meaning.specs.Side.{ValueLists, or_empty, elements_of}
use Rattle.layout_meaning.specs.Sound.{one_if, numbered}
use Rattle.layout_meaning.specs.Lists.{list_id}
use Rattle.layout_meaning.proofs.Maps.{at_true, at_itself}
use Rattle.layout_standing_meaning.specs.Contents.{element_cells}
use Rattle.sql_gen_step_laws.specs.Carried.{Name}
use Rattle.sql_gen_step_laws.specs.LeftStep.{total-or_nulls}
use Rattle.sql_gen_star_meaning.specs.Partials.{choices_of, HasChoice}
use Rattle.sql_gen_star_meaning.specs.SideTables.{lid_name, elm_name, list_columns, id_or_null, value_or_null}

abbrev pub element_row : ℕ → ℕ → List Cell
element_row n v = Int (list_id n) ∷ Int (pos v) ∷ []

below_same : (m n : ℕ) → negsuc m ≡ negsuc n → m ≡ n
below_same m n e = cc

same_list : (m n : ℕ) → int_eq (negsuc m) (negsuc n) ≡ (m == n)
same_list m n =
    one_answer {P = negsuc m ≡ negsuc n} (int_eq (negsuc m) (negsuc n)) (m == n) (Decides-int_eq (negsuc m) (negsuc n)) ((λ t. ap negsuc ((Decides-eqb m n).0 t)), (λ e. (Decides-eqb m n).1 (below_same m n e)))

unlike : (m v : ℕ) → negsuc m ≡ pos v → ⊥
unlike m v e = cc

no_list : (m v : ℕ) → int_eq (negsuc m) (pos v) ≡ false
no_list m v = false_from_ne_true _ (λ t. unlike m v ((Decides-int_eq (negsuc m) (pos v)).0 t))

-- the sum over the rows of lists that match a cell
abbrev pub matched : ValueLists → (List Cell → ℕ) → Option Value → ℕ
matched lists k None = 0
matched lists k (Some (One v)) = 0
matched lists k (Some (Many n)) = total (λ v. k (element_row n v)) (elements_of lists n)

none_numbered : (n : ℕ) (k : List Cell → ℕ) (lists : ValueLists) → numbered n lists ≤ 0 → total (λ (l : ℕ × List ℕ). total (λ v. cond (l.0 == n) (k (element_row l.0 v)) 0) l.1) lists ≡ 0
none_numbered n k [] h = refl
none_numbered n k (l ∷ lists) h = by (l.0 == n) refl h (none_numbered n k lists)
  where
    by : (b : Bool) → (l.0 == n) ≡ b → one_if b + numbered n lists ≤ 0 → (numbered n lists ≤ 0 → total (λ (l : ℕ × List ℕ). total (λ v. cond (l.0 == n) (k (element_row l.0 v)) 0) l.1) lists ≡ 0)
        → total (λ v. cond b (k (element_row l.0 v)) 0) l.1 + total (λ (l : ℕ × List ℕ). total (λ v. cond (l.0 == n) (k (element_row l.0 v)) 0) l.1) lists ≡ 0
    by true t h ih = absurd (omega arith)
    by false t h ih = let z : total (λ (v : ℕ). 0) l.1 ≡ 0 = total-zero l.1 in let i = ih (omega arith) in omega arith

listed : (n : ℕ) (k : List Cell → ℕ) (lists : ValueLists) → numbered n lists ≤ 1 → total (λ (l : ℕ × List ℕ). total (λ v. cond (l.0 == n) (k (element_row l.0 v)) 0) l.1) lists ≡ total (λ v. k (element_row n v)) (elements_of lists n)
listed n k [] once = refl
listed n k (l ∷ lists) once = by (l.0 == n) refl (is_at (nat_cmp n) l.0) refl once (listed n k lists)
  where
    by : (b : Bool) → (l.0 == n) ≡ b → (a : Bool) → is_at (nat_cmp n) l.0 ≡ a → one_if b + numbered n lists ≤ 1
        → (numbered n lists ≤ 1 → total (λ (l : ℕ × List ℕ). total (λ v. cond (l.0 == n) (k (element_row l.0 v)) 0) l.1) lists ≡ total (λ v. k (element_row n v)) (elements_of lists n))
        → total (λ v. cond b (k (element_row l.0 v)) 0) l.1 + total (λ (l : ℕ × List ℕ). total (λ v. cond (l.0 == n) (k (element_row l.0 v)) 0) l.1) lists
        ≡ total (λ v. k (element_row n v)) (or_empty (if a then Some l.1 else lookup (is_at (nat_cmp n)) lists))
    by true t true u once ih =
        let same : l.0 ≡ n = at_true n l.0 u in
        let z : total (λ (l : ℕ × List ℕ). total (λ v. cond (l.0 == n) (k (element_row l.0 v)) 0) l.1) lists ≡ 0 = none_numbered n k lists (omega arith) in
        let e : total (λ v. k (element_row l.0 v)) l.1 ≡ total (λ v. k (element_row n v)) l.1 = ap (λ (m : ℕ). total (λ v. k (element_row m v)) l.1) same in
        omega arith
    by true t false u once ih = let same : l.0 ≡ n = grind arith in let w : is_at (nat_cmp n) l.0 ≡ true = rw same (at_itself n) in cc
    by false t true u once ih = let same : l.0 ≡ n = at_true n l.0 u in let w : (l.0 == n) ≡ true = grind arith in cc
    by false t false u once ih = let z : total (λ (v : ℕ). 0) l.1 ≡ 0 = total-zero l.1 in let i = ih (omega arith) in omega arith

total-zero_each : {X : Type 0} (g : X → ℕ) → ((x : X) → g x ≡ 0) → (xs : List X) → total g xs ≡ 0
total-zero_each g e xs = total-same g (λ x. 0) e xs ∙ total-zero xs

pub total-matched : (lists : ValueLists) → ((n : ℕ) → numbered n lists ≤ 1) → (k : List Cell → ℕ) (o : Option Value) →
    total (λ row. cond (is_true (equal_cells (cell_under list_columns row lid_name) (value_or_null o))) (k row) 0) (flat_map element_cells lists) ≡ matched lists k o
total-matched lists once k o =
    total-flat_map (λ row. cond (is_true (equal_cells (cell_under list_columns row lid_name) (value_or_null o))) (k row) 0) element_cells lists
    ∙ total-same _ _ (λ (l : ℕ × List ℕ). total-map (λ row. cond (is_true (equal_cells (cell_under list_columns row lid_name) (value_or_null o))) (k row) 0) (λ v. element_row l.0 v) l.1) lists
    ∙ go o
  where
    go : (o : Option Value) → total (λ (l : ℕ × List ℕ). total (λ v. cond (is_true (equal_cells (Int (list_id l.0)) (value_or_null o))) (k (element_row l.0 v)) 0) l.1) lists ≡ matched lists k o
    go None = total-zero_each _ (λ (l : ℕ × List ℕ). total-zero l.1) lists
    go (Some (One v)) = total-zero_each _ (λ (l : ℕ × List ℕ). ap (λ (b : Bool). total (λ w. cond b (k (element_row l.0 w)) 0) l.1) (no_list l.0 v) ∙ total-zero l.1) lists
    go (Some (Many n)) = total-same _ _ (λ (l : ℕ × List ℕ). ap (λ (b : Bool). total (λ w. cond b (k (element_row l.0 w)) 0) l.1) (same_list l.0 n)) lists ∙ listed n k lists (once n)

-- what a cell gives: itself, null too, or the elements of its list
abbrev pub armed : ValueLists → (List Cell → ℕ) → Option Value → ℕ
armed lists k None = k []
armed lists k (Some (One v)) = k []
armed lists k (Some (Many n)) = total (λ v. k (element_row n v)) (elements_of lists n)

armed-is : (lists : ValueLists) (k : List Cell → ℕ) (o : Option Value) → HasChoice lists o → cond (eqb (matched lists (λ r. 1) o) 0) (k []) (matched lists k o) ≡ armed lists k o
armed-is lists k None n = refl
armed-is lists k (Some (One v)) n = refl
armed-is lists k (Some (Many m)) n =
    let e : total (λ (v : ℕ). 1) (elements_of lists m) ≡ length (elements_of lists m) = total-one_each (elements_of lists m) in
    rw (ne_eqb (total (λ v. 1) (elements_of lists m)) 0 (λ z. absurd (omega arith))) refl

own_row : (alias : Name) (columns : List Name) (row : List Cell) (sight : Sight) (c : Name) → with_row alias columns row sight alias c ≡ cell_under columns row c
own_row alias columns row sight c = let same : bytes_eq alias alias ≡ true = (bytes_eq-Decides alias alias).1 refl in rw same refl

abbrev pub lists_join : Name → Name → SqlExpr → JoinTo
lists_join name alias e = record { left = true; source = record { table = name; alias = alias }; on = sql.Equal (sql.Name alias lid_name) e }

-- a LEFT JOIN with the lists on an expression that gives a cell of values
pub total-lists : (relations : Relations) (name alias : Name) (lists : ValueLists) (e : SqlExpr) (env : Sight) (o : Option Value) (k : Sight → ℕ) →
    (relations name).columns ≡ list_columns → SameBag (relations name).rows (flat_map element_cells lists) → ((n : ℕ) → numbered n lists ≤ 1) → HasChoice lists o →
    ((row : List Cell) → value_of e (with_row alias list_columns row env) ≡ value_or_null o) →
    total k (joined_to relations (lists_join name alias e) env) ≡ armed lists (λ row. k (with_row alias list_columns row env)) o
total-lists relations name alias lists e env o k columns rows once n raw =
    let source : Source = record { table = name; alias = alias } in
    let on = sql.Equal (sql.Name alias lid_name) e in
    let beside : List Name → List Cell → Sight = λ cols row. with_row alias cols row env in
    let found = filter (λ s. is_true (value_of on s)) (map (beside (relations name).columns) (relations name).rows) in
    let test : (row : List Cell) → value_of on (beside list_columns row) ≡ equal_cells (cell_under list_columns row lid_name) (value_or_null o) =
    λ row. value_of-Equal (sql.Name alias lid_name) e (beside list_columns row) ∙ ap₂ equal_cells (value_of-Name alias lid_name (beside list_columns row) ∙ own_row alias list_columns row env lid_name) (raw row) in
    let each : (h : Sight → ℕ) → total h found ≡ matched lists (λ row. h (beside list_columns row)) o =
    λ h. total-filter h (λ s. is_true (value_of on s)) (map (beside (relations name).columns) (relations name).rows)
    ∙ total-map (λ s. cond (is_true (value_of on s)) (h s) 0) (beside (relations name).columns) (relations name).rows
    ∙ ap (λ (cols : List Name). total (λ row. cond (is_true (value_of on (beside cols row))) (h (beside cols row)) 0) (relations name).rows) columns
    ∙ rows.totals (λ row. cond (is_true (value_of on (beside list_columns row))) (h (beside list_columns row)) 0)
    ∙ total-same _ _ (λ row. ap (λ (c : Cell). cond (is_true c) (h (beside list_columns row)) 0) (test row)) (flat_map element_cells lists)
    ∙ total-matched lists once (λ row. h (beside list_columns row)) o in
    total-or_nulls k relations source env found
    ∙ ap₂ (λ m r. cond (eqb m 0) (k (with_row alias (relations name).columns [] env)) r) (each (λ s. 1)) (each k)
    ∙ ap (λ (cols : List Name). cond (eqb (matched lists (λ r. 1) o) 0) (k (with_row alias cols [] env)) (matched lists (λ row. k (beside list_columns row)) o)) columns
    ∙ armed-is lists (λ row. k (beside list_columns row)) o n

-- what the joined row and the cell give together is each choice
pub armed-choices : (lists : ValueLists) (k : List Cell → ℕ) (h : Option ℕ → ℕ) (o : Option Value) →
    ((row : List Cell) (x : Option ℕ) → first_cell (cell_under list_columns row elm_name ∷ value_or_null o ∷ []) ≡ id_or_null x → k row ≡ h x) → armed lists k o ≡ total h (choices_of lists o)
armed-choices lists k h None e = let a : k [] ≡ h None = e [] None refl in omega arith
armed-choices lists k h (Some (One v)) e = let a : k [] ≡ h (Some v) = e [] (Some v) refl in omega arith
armed-choices lists k h (Some (Many n)) e = total-same _ _ (λ v. e (element_row n v) (Some v) refl) (elements_of lists n) ∙ sym (total-map h (λ (x : ℕ). Some x) (elements_of lists n))
