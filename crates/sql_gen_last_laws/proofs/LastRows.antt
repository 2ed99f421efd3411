-- The rows of the last SELECT are the answer.
use Rattle.std.specs.Prelude.{◌≡◌, ◌⊎◌, ℕ, zero, suc, ◌+◌, Bool, true, false, not, if◌then◌else◌, ◌==◌, List, [], ◌∷◌, ◌++◌, map, Option, Some, None, pos, drop, refl}
use Rattle.std.proofs.Common.{sym, ap, ap₂, ◌∙◌, subst, inl, inr, arith, ◌<◌}
use Rattle.std.proofs.lemmas.Bool.{cases_Bool, or_cases, or_parts, or_from, or_left, or_right, eq-eqb, eqb-true, ne_eqb}
use Rattle.std.proofs.lemmas.List.{take-map, drop-map}
use Rattle.std.proofs.lemmas.Simd.{map-map}
use Rattle.std.specs.List.{flat_map, list_any, AllByRecursion}
use Rattle.std.specs.declared.cmp.Ordering.{Ordering}
use Rattle.std.specs.Ordering.{is_le}
use Rattle.bags.specs.Bag.{total, SameBag}
use Rattle.bags.specs.BagLaws.{same-map, same-any, each-map, each-any, each-weaker}
use Rattle.bags.specs.Sort.{sort, by_items, same_items, rest_flags, first_flag}
use Rattle.bags.specs.SortLaws.{sort-same, sort-test, map-sort, each-sort}
use Rattle.bags.specs.ItemsLaws.{items_total, items_ties, same_items-is, same_items-self}
use Rattle.rdf_meaning.specs.Terms.{RdfTerm, is_term}
use Rattle.rdf_value_meaning.specs.Values.{class_of}
use Rattle.query_meaning.specs.declared.modifiers.Key.{Key}
use Rattle.query_meaning.specs.declared.modifiers.Modifiers.{Modifiers}
use Rattle.query_eval_meaning.specs.Mapping.{Mapping}
use Rattle.query_eval_meaning.specs.Answer.{Row, same_place, row_of, row_order, past, distinct_rows, up_to, sorted_rows, ordered_answer}
use Rattle.table_meaning.specs.declared.cell.Cell.{Cell}
use Rattle.table_meaning.specs.declared.cell.Cell.TheVariants.{Null, Int}
use Rattle.sql_meaning.specs.declared.script.SqlKey.{SqlKey}
use Rattle.sql_meaning.specs.declared.expression.SqlExpr.{SqlExpr}
use Rattle.sql_meaning.specs.declared.expression.SqlExpr.TheVariants as sql
use Rattle.sql_rows_meaning.specs.Cells.{cell_order, same_cell}
use Rattle.sql_rows_meaning.specs.Values.{Sight, value_of, first_cell}
use Rattle.sql_rows_meaning.specs.ValueLaws.{value_of-Int, value_of-Name, value_of-First}
use Rattle.sql_rows_meaning.specs.Tables.{Relations}
use Rattle.sql_rows_meaning.specs.Sources.{with_row, nothing_in_sight, all_joined}
use Rattle.sql_rows_meaning.specs.Selects.{key_cells, key_order, item_cells, unrepeated, dropped, kept, select_rows}
use Rattle.sql_rows_laws.specs.CellLaws.{cell_order_total, cell_order_ties, same_cell-Decides}
use Rattle.sql_rows_laws.specs.SelectLaws.{each-take, each-drop, each-firsts}
use Rattle.sql_gen_answer_meaning.specs.Decode.{decode}
use Rattle.sql_gen_step_laws.specs.Carried.{Name, Ids, Over, Carries}
use Rattle.sql_gen_step_laws.specs.StepSelects.{has, left_alias, one_item}
use Rattle.sql_gen_step_laws.specs.StepTests.{same_number}
use Rattle.sql_gen_step_laws.specs.UnionStep.{lone_env}
use Rattle.sql_gen_term_laws.specs.TermTable.{class_name, number_name, text_name, aux_name, HasTerms, own_test, term_alias, term_joins, with_terms, class_cell, number_cell, text_cell, aux_cell, Shows}
use Rattle.sql_gen_term_laws.specs.TermChain.{own_terms, shows_terms}
use Rattle.sql_gen_last_laws.specs.LastSelect.{once, class_key, four_keys, shown_items, keys_of, variables_of_keys, skip_of, last_core}
use Rattle.sql_gen_last_laws.proofs.PlaceOrder.{class_key_cell, keyed, class-positive, places-order, flags-are}
use Rattle.sql_gen_last_laws.proofs.Decoded.{three, shown_cells, IsRowOfTerms, decode-all, distinct-are}

-- ---- the items are a part of the keys

-- null in the place of the 0 of a key
abbrev shown_class : Cell → Cell
shown_class c = if same_cell c (Int (pos 0)) then Null else c

abbrev pick : List Cell → List Cell
pick (c ∷ n ∷ t ∷ a ∷ rest) = shown_class c ∷ t ∷ a ∷ pick rest
pick _ = []

abbrev beyond : List Key → List Cell → List Cell
beyond [] cells = cells
beyond (k ∷ ks) (c ∷ n ∷ t ∷ a ∷ rest) = beyond ks rest
beyond (k ∷ ks) _ = []

abbrev project : List Key → List Cell → List Cell
project ks cells = Int (pos 1) ∷ pick (beyond ks cells)

abbrev pub rising : ℕ → Key
rising v = record { var = v; down = false }

abbrev past_flags : List Key → List Bool → List Bool
past_flags [] flags = flags
past_flags (k ∷ ks) flags = past_flags ks (rest_flags flags)

beyond_row : (ks : List Key) (sures : List Bool) (row : Row) → beyond ks (keyed sures row) ≡ keyed (past_flags ks sures) (past ks row)
beyond_row [] sures row = refl
beyond_row (k ∷ ks) sures [] = refl
beyond_row (k ∷ ks) sures (x ∷ row) = beyond_row ks (rest_flags sures) row

class_shown : (sure : Bool) (x : Option RdfTerm) → shown_class (class_key_cell sure x) ≡ class_cell x
class_shown true None = refl
class_shown false None = refl
class_shown sure (Some t) =
    let l : 0 < class_of t = class-positive t in
    let other : same_cell (Int (pos (class_of t))) (Int (pos 0)) ≡ false = same_number (class_of t) 0 ∙ ne_eqb (class_of t) 0 (λ e. absurd (omega arith)) in
    rw other refl

pick_row : (sures : List Bool) (row : Row) → pick (keyed sures row) ≡ flat_map three row
pick_row sures [] = refl
pick_row sures (x ∷ row) = ap₂ (λ (c : Cell) (cs : List Cell). c ∷ text_cell x ∷ aux_cell x ∷ cs) (class_shown (first_flag sures) x) (pick_row (rest_flags sures) row)

project_row : (ks : List Key) (sures : List Bool) (row : Row) → project ks (keyed sures row) ≡ shown_cells (past ks row)
project_row ks sures row = ap (λ (cs : List Cell). Int (pos 1) ∷ cs) (ap pick (beyond_row ks sures row) ∙ pick_row (past_flags ks sures) (past ks row))

pub past-row : (ks : List Key) (shown : List ℕ) (m : Mapping) → past ks (row_of (ks ++ map rising shown) m) ≡ row_of (map rising shown) m
past-row [] shown m = refl
past-row (k ∷ ks) shown m = past-row ks shown m

-- ---- the keys of a carried row

has-once : (vs : List ℕ) (v : ℕ) → has vs v ≡ true → has (once vs) v ≡ true
has-once [] v e = cc
has-once (w ∷ vs) v e = go (cases_Bool (has vs w)) (or_cases (w == v) (has vs v) e) (has-once vs v)
  where
    go : (has vs w ≡ true) ⊎ (has vs w ≡ false) → ((w == v) ≡ true) ⊎ (has vs v ≡ true) → (has vs v ≡ true → has (once vs) v ≡ true) → has (once (w ∷ vs)) v ≡ true
    go (inl h) (inl q) r = rw h (r (subst (λ u. has vs u ≡ true) (eqb-true w v q) h))
    go (inl h) (inr q) r = rw h (r q)
    go (inr h) (inl q) r = rw h (or_left _ _ q)
    go (inr h) (inr q) r = rw h (or_right _ _ (r q))

abbrev pub InSight : List ℕ → List Key → Type 0
InSight us ks = AllByRecursion (λ (k : Key). has us k.var ≡ true) ks

in_own : (vs : List ℕ) (ks : List Key) → ((v : ℕ) → has (variables_of_keys ks) v ≡ true → has vs v ≡ true) → InSight vs ks
in_own vs [] f = tt
in_own vs (k ∷ ks) f = (f k.var (or_left _ _ (eq-eqb k.var k.var refl)), in_own vs ks (λ v e. f v (or_right _ _ e)))

pub all_in_sight : (ks : List Key) → InSight (once (variables_of_keys ks)) ks
all_in_sight ks = in_own (once (variables_of_keys ks)) ks (λ v e. has-once (variables_of_keys ks) v e)

later : (us : List ℕ) (ks ls : List Key) → InSight us (ks ++ ls) → InSight us ls
later us [] ls all = all
later us (k ∷ ks) ls all = later us ks ls all.1

-- the shown variables are among the keys
pub shown-in-sight : (q : Modifiers) → InSight (once (variables_of_keys (keys_of q))) (map rising q.shown)
shown-in-sight q = later (once (variables_of_keys (keys_of q))) q.keys (map rising q.shown) (all_in_sight (keys_of q))

class_is : (certain : List ℕ) (v : ℕ) (x : Option RdfTerm) (env : Sight) → env (term_alias v) class_name ≡ class_cell x → value_of (class_key certain v) env ≡ class_key_cell (has certain v) x
class_is certain v x env is = go (cases_Bool (has certain v))
  where
    name : SqlExpr
    name = sql.Name (term_alias v) class_name

    sure : (x : Option RdfTerm) → class_cell x ≡ class_key_cell true x
    sure None = refl
    sure (Some t) = refl

    unsure : (x : Option RdfTerm) → first_cell (class_cell x ∷ Int (pos 0) ∷ []) ≡ class_key_cell false x
    unsure None = refl
    unsure (Some t) = refl

    go : (has certain v ≡ true) ⊎ (has certain v ≡ false) → value_of (class_key certain v) env ≡ class_key_cell (has certain v) x
    go (inl e) = rw e (value_of-Name (term_alias v) class_name env ∙ is ∙ sure x)
    go (inr e) = rw e (value_of-First (name ∷ sql.Int (pos 0) ∷ []) env ∙ ap₂ (λ (c d : Cell). first_cell (c ∷ d ∷ [])) (value_of-Name (term_alias v) class_name env ∙ is) (value_of-Int (pos 0) env) ∙ unsure x)

abbrev pub sures_of : List ℕ → List Key → List Bool
sures_of certain ks = map (λ (k : Key). has certain k.var) ks

keys_of_row : (certain us : List ℕ) (ks : List Key) (m : Mapping) (env : Sight) → Shows us m env → InSight us ks → key_cells (flat_map (four_keys certain) ks) env ≡ keyed (sures_of certain ks) (row_of ks m)
keys_of_row certain us [] m env s all = refl
keys_of_row certain us (k ∷ ks) m env s all =
    let a = term_alias k.var in
    let rest : key_cells (flat_map (four_keys certain) ks) env ≡ keyed (sures_of certain ks) (row_of ks m) = keys_of_row certain us ks m env s all.1 in
    let c : value_of (class_key certain k.var) env ≡ class_key_cell (has certain k.var) (m k.var) = class_is certain k.var (m k.var) env (s.class k.var all.0) in
    let n : value_of (sql.Name a number_name) env ≡ number_cell (m k.var) = value_of-Name a number_name env ∙ s.number k.var all.0 in
    let t : value_of (sql.Name a text_name) env ≡ text_cell (m k.var) = value_of-Name a text_name env ∙ s.text k.var all.0 in
    let x : value_of (sql.Name a aux_name) env ≡ aux_cell (m k.var) = value_of-Name a aux_name env ∙ s.aux k.var all.0 in
    λ i. c i ∷ n i ∷ t i ∷ x i ∷ rest i

items_of_row : (us : List ℕ) (at : ℕ) (vs : List ℕ) (m : Mapping) (env : Sight) → Shows us m env → InSight us (map rising vs) → item_cells (shown_items at vs) env ≡ flat_map three (row_of (map rising vs) m)
items_of_row us at [] m env s all = refl
items_of_row us at (v ∷ vs) m env s all =
    let a = term_alias v in
    let rest : item_cells (shown_items (at + 1) vs) env ≡ flat_map three (row_of (map rising vs) m) = items_of_row us (at + 1) vs m env s all.1 in
    let c : value_of (sql.Name a class_name) env ≡ class_cell (m v) = value_of-Name a class_name env ∙ s.class v all.0 in
    let t : value_of (sql.Name a text_name) env ≡ text_cell (m v) = value_of-Name a text_name env ∙ s.text v all.0 in
    let x : value_of (sql.Name a aux_name) env ≡ aux_cell (m v) = value_of-Name a aux_name env ∙ s.aux v all.0 in
    λ i. c i ∷ t i ∷ x i ∷ rest i

-- ---- all rows of a bag pass a test that all rows of the other pass

passes : {X : Type 0} (p : X → Bool) (xs : List X) → list_any (λ x. not (p x)) xs ≡ false → AllByRecursion (λ x. p x ≡ true) xs
passes p [] e = tt
passes p (x ∷ xs) e = let h = or_parts (not (p x)) (list_any (λ y. not (p y)) xs) e in (yes (p x) h.0, passes p xs h.1)
  where
    yes : (b : Bool) → not b ≡ false → b ≡ true
    yes true e = refl
    yes false e = cc

passed_all : {X : Type 0} (p : X → Bool) (xs : List X) → AllByRecursion (λ x. p x ≡ true) xs → list_any (λ x. not (p x)) xs ≡ false
passed_all p [] all = refl
passed_all p (x ∷ xs) all = or_from _ _ (ap not all.0) (passed_all p xs all.1)

bag_passes : {X : Type 0} (p : X → Bool) (xs ys : List X) → SameBag xs ys → AllByRecursion (λ x. p x ≡ true) ys → AllByRecursion (λ x. p x ≡ true) xs
bag_passes p xs ys s all = passes p xs (same-any (λ x. not (p x)) xs ys s ∙ passed_all p ys all)

pub map-each : {X Y : Type 0} (P : X → Type 0) (f g : X → Y) → ((x : X) → P x → f x ≡ g x) → (xs : List X) → AllByRecursion P xs → map f xs ≡ map g xs
map-each P f g e [] all = refl
map-each {X} {Y} P f g e (x ∷ xs) all = ap₂ (λ (y : Y) (ys : List Y). y ∷ ys) (e x all.0) (map-each P f g e xs all.1)

pub cells-same : (xs ys : List Cell) → same_items same_cell xs ys ≡ true → xs ≡ ys
cells-same xs ys e = same_items-is same_cell (λ x y. (same_cell-Decides x y).0) xs ys e

same-cells : (xs ys : List Cell) → xs ≡ ys → same_items same_cell xs ys ≡ true
same-cells xs ys e = subst (λ (zs : List Cell). same_items same_cell xs zs ≡ true) e (same_items-self same_cell (λ x. (same_cell-Decides x x).1 refl) xs)

-- ---- all together

most_are : (n : Option ℕ) (rows : List Row) → kept n (map shown_cells rows) ≡ map shown_cells (up_to n rows)
most_are None rows = refl
most_are (Some n) rows = take-map shown_cells n rows

map-same : {X Y : Type 0} (xs : List X) (f g : X → Y) → ((x : X) → f x ≡ g x) → map f xs ≡ map g xs
map-same [] f g e = refl
map-same {X} {Y} (x ∷ xs) f g e = ap₂ (λ (y : Y) (ys : List Y). y ∷ ys) (e x) (map-same xs f g e)

skip_is : (n : ℕ) (rows : List (List Cell)) → dropped (skip_of n) rows ≡ drop n rows
skip_is zero rows = refl
skip_is (suc n) rows = rw (ne_eqb (suc n) 0 (λ e. absurd (omega arith))) refl

-- the cells of the last SELECT's rows are those of the answer's rows
pub last-cells : (ids : Ids) (known : RdfTerm → Bool) (relations : Relations) (a terms : Name) → HasTerms ids known (relations terms) → (vs certain : List ℕ) (ms : List Mapping) → Carries ids known vs ms (relations a) → (q : Modifiers) →
    select_rows relations (last_core a terms vs certain q) ≡ map shown_cells (ordered_answer q ms)
last-cells ids known relations a terms st vs certain ms c q =
    let ks = keys_of q in
    let keys = flat_map (four_keys certain) ks in
    let us = once (variables_of_keys ks) in
    let items = one_item ∷ shown_items 1 q.shown in
    let sights = all_joined relations (term_joins terms (own_test vs) us) (map (λ row. with_row left_alias (relations a).columns row nothing_in_sight) (relations a).rows) in
    let sight : Mapping → Sight = λ m. with_terms ids us m (lone_env ids vs m) in
    let shows : (m : Mapping) → Shows us m (sight m) = λ m. shows_terms ids us m (lone_env ids vs m) in
    let K : Sight → List Cell = key_cells keys in
    let F : Row → List Cell = keyed (sures_of certain ks) in
    let downs = map (λ (k : SqlKey). k.down) keys in
    let L : List Cell → List Cell → Ordering = by_items cell_order downs in
    let rows = map (row_of ks) ms in
    let joined : SameBag sights (map sight ms) = own_terms ids known relations a terms st vs us ms c in
    let keyed_are : (m : Mapping) → K (sight m) ≡ F (row_of ks m) = λ m. keys_of_row certain us ks m (sight m) (shows m) (all_in_sight ks) in
    let bag : SameBag (map K sights) (map F rows) = record {
      totals = λ g.
          (same-map K sights (map sight ms) joined).totals g
          ∙ ap (total g) (map-map K sight ms ∙ map-same ms (λ m. K (sight m)) (λ m. F (row_of ks m)) keyed_are ∙ sym (map-map F (row_of ks) ms));
    } in
    let tests : (r s : Row) → is_le (L (F r) (F s)) ≡ is_le (row_order ks r s) = λ r s.
    ap is_le (ap (λ (ds : List Bool). by_items cell_order ds (F r) (F s)) (flags-are certain ks) ∙ places-order (sures_of certain ks) (map (λ (k : Key). k.down) ks) r s) in
    let told : Sight → Bool = λ e. same_items same_cell (item_cells items e) (project q.keys (K e)) in
    let items_are : (m : Mapping) → item_cells items (sight m) ≡ project q.keys (K (sight m)) = λ m.
    ap₂ (λ (x : Cell) (xs : List Cell). x ∷ xs) (value_of-Int (pos 1) (sight m)) (items_of_row us 1 q.shown m (sight m) (shows m) (shown-in-sight q))
    ∙ ap shown_cells (sym (past-row q.keys q.shown m)) ∙ sym (ap (project q.keys) (keyed_are m) ∙ project_row q.keys (sures_of certain ks) (row_of ks m)) in
    let all_told : AllByRecursion (λ e. told e ≡ true) sights =
    bag_passes told sights (map sight ms) joined (each-map (λ e. told e ≡ true) sight ms (each-any (λ m. told (sight m) ≡ true) (λ m. same-cells _ _ (items_are m)) ms)) in
    let sorted : map (item_cells items) (sort (key_order keys) sights) ≡ map shown_cells (sorted_rows q.keys q.shown ms) =
    map-each (λ e. told e ≡ true) (item_cells items) (λ e. project q.keys (K e)) (λ e t. cells-same _ _ t) (sort (key_order keys) sights) (each-sort (key_order keys) (λ e. told e ≡ true) sights all_told)
    ∙ sym (map-map (project q.keys) K (sort (key_order keys) sights))
    ∙ ap (map (project q.keys)) (sym (map-sort L K sights) ∙ sort-same L (items_total cell_order cell_order_total downs) (items_ties cell_order cell_order_ties downs) (map K sights) (map F rows) bag
    ∙ map-sort L F rows ∙ ap (map F) (sort-test (λ r s. L (F r) (F s)) (row_order ks) tests rows))
    ∙ map-map (project q.keys) F (sort (row_order ks) rows)
    ∙ map-same (sort (row_order ks) rows) (λ r. project q.keys (F r)) (λ r. shown_cells (past q.keys r)) (project_row q.keys (sures_of certain ks))
    ∙ sym (map-map shown_cells (past q.keys) (sort (row_order ks) rows)) in
    ap (kept q.most) (skip_is q.skip (unrepeated q.distinct (map (item_cells items) (sort (key_order keys) sights)))
    ∙ ap (λ (rs : List (List Cell)). drop q.skip (unrepeated q.distinct rs)) sorted
    ∙ ap (drop q.skip) (distinct-are q.distinct (sorted_rows q.keys q.shown ms))
    ∙ drop-map shown_cells q.skip (distinct_rows q.distinct (sorted_rows q.keys q.shown ms)))
    ∙ most_are q.most (drop q.skip (distinct_rows q.distinct (sorted_rows q.keys q.shown ms)))

-- ---- the rows are of terms

row-terms : (known : RdfTerm → Bool) → ((t : RdfTerm) → known t ≡ true → is_term t.kind t.text t.aux ≡ true) → (vs : List ℕ) (ks : List Key) (m : Mapping) → Over vs known m → IsRowOfTerms (row_of ks m)
row-terms known forms vs [] m f = tt
row-terms known forms vs (k ∷ ks) m f = ((λ t e. forms t (f.known_terms k.var t e)), row-terms known forms vs ks m f)

past-terms : (ks : List Key) (row : Row) → IsRowOfTerms row → IsRowOfTerms (past ks row)
past-terms [] row all = all
past-terms (k ∷ ks) [] all = tt
past-terms (k ∷ ks) (x ∷ row) all = past-terms ks row all.1

distinct-terms : (d : Bool) (rows : List Row) → AllByRecursion IsRowOfTerms rows → AllByRecursion IsRowOfTerms (distinct_rows d rows)
distinct-terms true rows all = each-firsts IsRowOfTerms (same_items same_place) [] rows all
distinct-terms false rows all = all

most-terms : (n : Option ℕ) (rows : List Row) → AllByRecursion IsRowOfTerms rows → AllByRecursion IsRowOfTerms (up_to n rows)
most-terms None rows all = all
most-terms (Some n) rows all = each-take IsRowOfTerms n rows all

answer-terms : (known : RdfTerm → Bool) → ((t : RdfTerm) → known t ≡ true → is_term t.kind t.text t.aux ≡ true) → (vs : List ℕ) (ms : List Mapping) → AllByRecursion (Over vs known) ms → (q : Modifiers) → AllByRecursion IsRowOfTerms (ordered_answer q ms)
answer-terms known forms vs ms all q =
    let ks = keys_of q in
    most-terms q.most _ (each-drop IsRowOfTerms q.skip _ (distinct-terms q.distinct _
    (each-map IsRowOfTerms (past q.keys) (sort (row_order ks) (map (row_of ks) ms))
    (each-weaker IsRowOfTerms (λ r. IsRowOfTerms (past q.keys r)) (past-terms q.keys) (sort (row_order ks) (map (row_of ks) ms))
    (each-sort (row_order ks) IsRowOfTerms (map (row_of ks) ms)
    (each-map IsRowOfTerms (row_of ks) ms (each-weaker (Over vs known) (λ m. IsRowOfTerms (row_of ks m)) (row-terms known forms vs ks) ms all)))))))

-- and are read as the answer
pub last-answer : (ids : Ids) (known : RdfTerm → Bool) (relations : Relations) (a terms : Name) → HasTerms ids known (relations terms) → ((t : RdfTerm) → known t ≡ true → is_term t.kind t.text t.aux ≡ true) →
    (vs certain : List ℕ) (ms : List Mapping) → Carries ids known vs ms (relations a) → (q : Modifiers) → decode (select_rows relations (last_core a terms vs certain q)) ≡ Some (ordered_answer q ms)
last-answer ids known relations a terms st forms vs certain ms c q =
    ap decode (last-cells ids known relations a terms st vs certain ms c q) ∙ decode-all (ordered_answer q ms) (answer-terms known forms vs ms c.fits q)
