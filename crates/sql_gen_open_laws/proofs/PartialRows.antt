-- Cells and items of rows of partial solutions.
use Rattle.std.proofs.Common.{◌≡◌, ℕ, ◌+◌, ◌/◌, ◌%◌, ◌⊎◌, true, false, if◌then◌else◌, ◌||◌, List, [], ◌∷◌, ◌++◌, map, sym, refl, ap, ap₂, ◌∙◌, subst, arith, eqb, inl, inr, ◌==◌, bytes_eq}
use Rattle.std.proofs.lemmas.Bool.{eqb-true, eq-eqb, ne_eqb, and_parts, cases_Bool, cases_eq, false_from_ne_true, or_left, or_right}
use Rattle.std.proofs.lemmas.List.{append-nil}
use Rattle.table_meaning.specs.declared.cell.Cell.{Cell}
use Rattle.sql_meaning.specs.declared.script.Item.{Item}
use Rattle.sql_meaning.specs.declared.expression.SqlExpr.{SqlExpr}
use Rattle.sql_rows_meaning.specs.Values.{Sight, value_of}
use Rattle.sql_rows_meaning.specs.Tables.{cell_under}
use Rattle.sql_rows_meaning.specs.Selects.{item_cells}
use Rattle.sql_gen_step_laws.specs.Carried.{Name, column, one}
use Rattle.sql_gen_step_laws.specs.StepSelects.{has}
use Rattle.sql_gen_step_laws.specs.Lookups.{same_column, one_column}
use Rattle.sql_gen_star_meaning.specs.Partials.{cell_name}

same_digits : (w v : ℕ) → 48 + w / 10 ≡ 48 + v / 10 → 48 + w % 10 ≡ 48 + v % 10 → w ≡ v
same_digits w v d r = omega arith

same_cell_name : (w v : ℕ) → bytes_eq (cell_name w) (cell_name v) ≡ (w == v)
unfolding cell_name
same_cell_name w v = go (cases_eq w v)
  where
    go : (w ≡ v) ⊎ (w ≡ v → ⊥) → bytes_eq (cell_name w) (cell_name v) ≡ (w == v)
    go (inl e) = rw (e, eq-eqb (48 + v / 10) (48 + v / 10) refl, eq-eqb (48 + v % 10) (48 + v % 10) refl, eq-eqb v v refl) refl
    go (inr ne) = false_from_ne_true _ (λ t.
        let p = and_parts (eqb (48 + w / 10) (48 + v / 10)) _ t in
        let q = and_parts (eqb (48 + w % 10) (48 + v % 10)) true p.1 in
        ne (same_digits w v (eqb-true _ _ p.0) (eqb-true _ _ q.0))) ∙ sym (ne_eqb w v ne)

one_cell_name : (v : ℕ) → bytes_eq one (cell_name v) ≡ false
unfolding cell_name
one_cell_name v = refl

column_cell_name : (w v : ℕ) → bytes_eq (column w) (cell_name v) ≡ false
unfolding column cell_name
column_cell_name w v = refl

-- a name of one kind, in a list of names of that kind
named_at : (name : ℕ → Name) → ((w v : ℕ) → bytes_eq (name w) (name v) ≡ (w == v)) → (F : ℕ → Cell) (vs : List ℕ) (columns : List Name) (cells : List Cell) (v : ℕ) → has vs v ≡ true →
    cell_under (map name vs ++ columns) (map F vs ++ cells) (name v) ≡ F v
named_at name same F [] columns cells v e = cc
named_at name same F (w ∷ vs) columns cells v e = rw (same w v) (go (cases_Bool (w == v)) (named_at name same F vs columns cells v))
  where
    go : ((w == v) ≡ true) ⊎ ((w == v) ≡ false) → (has vs v ≡ true → cell_under (map name vs ++ columns) (map F vs ++ cells) (name v) ≡ F v) →
        (if w == v then F w else cell_under (map name vs ++ columns) (map F vs ++ cells) (name v)) ≡ F v
    go (inl q) h = rw q (ap F (eqb-true w v q))
    go (inr q) h = let r : ((w == v) || has vs v) ≡ true = e in rw q (h (rw q at r))

-- names of another kind are passed over
passed_over : (name : ℕ → Name) (n : Name) → ((w : ℕ) → bytes_eq (name w) n ≡ false) → (F : ℕ → Cell) (vs : List ℕ) (columns : List Name) (cells : List Cell) →
    cell_under (map name vs ++ columns) (map F vs ++ cells) n ≡ cell_under columns cells n
passed_over name n other F [] columns cells = refl
passed_over name n other F (w ∷ vs) columns cells = rw (other w) (passed_over name n other F vs columns cells)

pub variable_at : (F G : ℕ → Cell) (vs is : List ℕ) (x : Cell) (v : ℕ) → has vs v ≡ true → cell_under (one ∷ (map column vs ++ map cell_name is)) (x ∷ (map F vs ++ map G is)) (column v) ≡ F v
variable_at F G vs is x v e = rw (one_column v) (named_at column same_column F vs (map cell_name is) (map G is) v e)

pub cell_found : (F G : ℕ → Cell) (vs is : List ℕ) (x : Cell) (i : ℕ) → has is i ≡ true → cell_under (one ∷ (map column vs ++ map cell_name is)) (x ∷ (map F vs ++ map G is)) (cell_name i) ≡ G i
cell_found F G vs is x i e =
    rw (one_cell_name i, passed_over column (cell_name i) (λ w. column_cell_name w i) F vs (map cell_name is) (map G is))
    (subst (λ (ns : List Name). cell_under ns (map G is) (cell_name i) ≡ G i) (append-nil (map cell_name is))
    (subst (λ (cs : List Cell). cell_under (map cell_name is ++ []) cs (cell_name i) ≡ G i) (append-nil (map G is)) (named_at cell_name same_cell_name G is [] [] i e)))

-- the items of one kind, each with its cell
abbrev pub items_of : (ℕ → SqlExpr) → (ℕ → Name) → List ℕ → List Item
items_of f name us = map (λ u. record { expr = f u; name = name u }) us

head_has : (u : ℕ) (us : List ℕ) → has (u ∷ us) u ≡ true
head_has u us = or_left _ _ (eq-eqb u u refl)

pub items_are : (f : ℕ → SqlExpr) (name : ℕ → Name) (F : ℕ → Cell) (env : Sight) (us : List ℕ) (rest : List Item) → ((u : ℕ) → has us u ≡ true → value_of (f u) env ≡ F u) →
    item_cells (items_of f name us ++ rest) env ≡ map F us ++ item_cells rest env
items_are f name F env [] rest h = refl
items_are f name F env (u ∷ us) rest h =
    ap₂ (λ (c : Cell) (cs : List Cell). c ∷ cs) (h u (head_has u us)) (items_are f name F env us rest (λ w e. h w (or_right (u == w) (has us w) e)))

pub last_items : (f : ℕ → SqlExpr) (name : ℕ → Name) (F : ℕ → Cell) (env : Sight) (us : List ℕ) → ((u : ℕ) → has us u ≡ true → value_of (f u) env ≡ F u) →
    item_cells (items_of f name us) env ≡ map F us
last_items f name F env [] h = refl
last_items f name F env (u ∷ us) h =
    ap₂ (λ (c : Cell) (cs : List Cell). c ∷ cs) (h u (head_has u us)) (last_items f name F env us (λ w e. h w (or_right (u == w) (has us w) e)))

pub names_are : (f : ℕ → SqlExpr) (name : ℕ → Name) (us : List ℕ) (rest : List Item) → map (λ (i : Item). i.name) (items_of f name us ++ rest) ≡ map name us ++ map (λ (i : Item). i.name) rest
names_are f name [] rest = refl
names_are f name (u ∷ us) rest = ap (λ (ns : List Name). name u ∷ ns) (names_are f name us rest)

pub last_names : (f : ℕ → SqlExpr) (name : ℕ → Name) (us : List ℕ) → map (λ (i : Item). i.name) (items_of f name us) ≡ map name us
last_names f name [] = refl
last_names f name (u ∷ us) = ap (λ (ns : List Name). name u ∷ ns) (last_names f name us)
