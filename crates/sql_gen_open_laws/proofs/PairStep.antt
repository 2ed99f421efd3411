-- A SELECT for each pair of columns gives each pair of each row once.
use Rattle.std.proofs.Common.{◌≡◌, ℕ, zero, suc, ◌+◌, ◌^◌, ◌≤◌, ◌<◌, ◌⊎◌, Bool, true, false, cond, if◌then◌else◌, ◌&&◌, ◌||◌, List, [], ◌∷◌, ◌++◌, map, Option, Some, None, length, sym, refl, ap, ap₂, ◌∙◌, arith, inl, inr, ◌==◌, pos}
use Rattle.std.proofs.Math.Bool.{and-true}
use Rattle.std.proofs.lemmas.Bool.{cases_Bool, eq-eqb, eqb-true}
use Rattle.std.specs.List.{flat_map, AllByRecursion}
use Rattle.bags.specs.Bag.{total}
use Rattle.bags.specs.BagLaws.{total-map, total-flat_map, total-each, total-zero, total-append, total-plus, each-flat_map, each-weaker}
use Rattle.table_meaning.specs.declared.cell.Cell.{Cell}
use Rattle.table_meaning.specs.declared.cell.Cell.TheVariants.{Truth}
use Rattle.sql_meaning.specs.declared.expression.SqlExpr.TheVariants as sql
use Rattle.sql_rows_meaning.specs.Cells.{is_null, equal_cells}
use Rattle.sql_rows_meaning.specs.Values.{value_of, is_true, not_cell}
use Rattle.sql_rows_meaning.specs.ValueLaws.{value_of-Name, value_of-Int, value_of-Equal, value_of-Not, value_of-IsNull}
use Rattle.sql_rows_meaning.specs.Tables.{Relations}
use Rattle.sql_rows_meaning.specs.Selects.{select_rows, item_cells}
use Rattle.sql_rows_meaning.specs.Rows.{body_relation}
use Rattle.layout_meaning.specs.Side.{Pair, Row, ValueLists}
use Rattle.layout_meaning.specs.Sound.{pair_at}
use Rattle.layout_meaning.specs.Rows.{NumberedRow}
use Rattle.layout_standing_meaning.specs.Contents.{SideContents}
use Rattle.sql_gen_step_laws.specs.Carried.{Name, column, one}
use Rattle.sql_gen_step_laws.specs.StepSelects.{has, one_item, variable_item}
use Rattle.layout_row_meaning.specs.Reading.{value_in, Gives, IsReadable}
use Rattle.sql_gen_star_meaning.proofs.Choices.{given}
use Rattle.sql_gen_star_meaning.specs.declared.arm.Asked.{Asked}
use Rattle.sql_gen_star_meaning.specs.declared.arm.Asked.TheVariants.{Constant, Again, New, Maybe}
use Rattle.sql_gen_star_meaning.specs.Asked.{unbound, is_number, accepts, then_bound, asked_vars, IsEntity, IsPredicate}
use Rattle.sql_gen_star_meaning.specs.SideTables.{pred_name, val_name, HoldsSide, id_or_null, value_or_null}
use Rattle.sql_gen_star_meaning.specs.Partials.{Partial, cell_name, partial_row, AllGive, HoldsPartials, entity_numbers, pair_partial, pair_partials, all_pairs, pred_of}
use Rattle.sql_gen_star_meaning.specs.StarSelects.{star_alias, entry_sql, entity_tests, cell_item}
use Rattle.sql_gen_star_meaning.specs.PairSelects.{pred_sql, val_sql, pred_tests, pair_sql, pair_core, pair_cores, pairs_body}
use Rattle.sql_gen_open_laws.proofs.Columns.{pred_at, val_at}
use Rattle.sql_gen_open_laws.proofs.PartialRows.{items_are, last_items, names_are}
use Rattle.sql_gen_open_laws.proofs.Tests.{all_hold, equal_numbers, some_number, has_before}
use Rattle.sql_gen_open_laws.proofs.AccessStep.{row_sight, entry_value, entry_is, entity_is, total-primary}

-- the entity's variable has the row's entity
entity_number : (entity : Asked) → IsEntity entity → (e v : ℕ) → has (asked_vars entity []) v ≡ true → entity_numbers entity e v ≡ Some e
entity_number (Constant n) ok e v h = cc
entity_number (New w) ok e v h = go (cases_Bool (w == v))
  where
    go : ((w == v) ≡ true) ⊎ ((w == v) ≡ false) → (if v == w then Some e else None) ≡ Some e
    go (inl q) = rw (eq-eqb v w (sym (eqb-true w v q))) refl
    go (inr q) = let s : ((w == v) || false) ≡ true = h in let t : false ≡ true = rw q at s in cc
entity_number (Again w) ok e v h = absurd ok
entity_number (Maybe w) ok e v h = absurd ok

module _ (k : ℕ) (few : k < 2 ^ 64) (c : ℕ) (inside : c < k) (entity predicate : Asked) (ie : IsEntity entity) (r : NumberedRow) (w : length r.pairs ≡ k) where
  pred_is : value_of (pred_sql c) (row_sight k r) ≡ id_or_null (pred_of (pair_at r.pairs c))
  pred_is = value_of-Name star_alias (pred_name c) (row_sight k r) ∙ pred_at r k c w few inside

  pred_test : (p : Asked) → IsPredicate entity p → all_hold (pred_tests c p) (row_sight k r) ≡ accepts p (entity_numbers entity r.entity) (pred_of (pair_at r.pairs c))
  pred_test (Constant n) ok = absurd ok
  pred_test (Maybe v) ok = absurd ok
  pred_test (New v) ok =
      and-true _
      ∙ ap is_true (value_of-Not (sql.IsNull (pred_sql c)) (row_sight k r) ∙ ap not_cell (value_of-IsNull (pred_sql c) (row_sight k r) ∙ ap (λ (x : Cell). Truth (is_null x)) pred_is))
      ∙ some_number (pred_of (pair_at r.pairs c))
  pred_test (Again v) ok =
      and-true _
      ∙ ap is_true (value_of-Equal (pred_sql c) entry_sql (row_sight k r) ∙ ap₂ equal_cells pred_is (entry_value k r))
      ∙ equal_numbers (pred_of (pair_at r.pairs c)) (Some r.entity)
      ∙ ap (is_number (pred_of (pair_at r.pairs c))) (sym (entity_number entity ie r.entity v ok))

  pair_bound : (p : Asked) → IsPredicate entity p → (v : ℕ) → has (asked_vars p (asked_vars entity [])) v ≡ true →
      value_of (pair_sql c p v) (row_sight k r) ≡ id_or_null (then_bound p (pred_of (pair_at r.pairs c)) (entity_numbers entity r.entity) v)
  pair_bound (Constant n) ok v h = absurd ok
  pair_bound (Maybe n) ok v h = absurd ok
  pair_bound (Again n) ok v h = entity_is k entity ie r v h
  pair_bound (New n) ok v h = go (cases_Bool (v == n))
    where
      go : ((v == n) ≡ true) ⊎ ((v == n) ≡ false) → value_of (if v == n then pred_sql c else entry_sql) (row_sight k r) ≡ id_or_null (if v == n then pred_of (pair_at r.pairs c) else entity_numbers entity r.entity v)
      go (inl q) = rw q pred_is
      go (inr q) = rw q (entity_is k entity ie r v (has_before (asked_vars entity []) n v h q))

  pair_row : IsPredicate entity predicate → item_cells (one_item ∷ (map (variable_item (pair_sql c predicate)) (asked_vars predicate (asked_vars entity [])) ++ map (cell_item (val_sql c)) (0 ∷ []))) (row_sight k r) ≡
      partial_row (asked_vars predicate (asked_vars entity [])) (0 ∷ []) (pair_partial entity predicate r.entity (pair_at r.pairs c))
  pair_row ok =
      let sight = row_sight k r in
      let us = asked_vars predicate (asked_vars entity []) in
      let F : ℕ → Cell = λ v. id_or_null (then_bound predicate (pred_of (pair_at r.pairs c)) (entity_numbers entity r.entity) v) in
      ap₂ (λ (x : Cell) (xs : List Cell). x ∷ xs) (value_of-Int (pos 1) sight)
      (items_are (pair_sql c predicate) column F sight us (map (cell_item (val_sql c)) (0 ∷ [])) (pair_bound predicate ok)
      ∙ ap (λ (xs : List Cell). map F us ++ xs) (last_items (val_sql c) cell_name (λ i. value_or_null (value_in (pair_at r.pairs c))) sight (0 ∷ []) (λ i e. value_of-Name star_alias (val_name c) sight ∙ val_at r k c w few inside)))

pair_tests : (k : ℕ) → k < 2 ^ 64 → (c : ℕ) → c < k → (entity predicate : Asked) → IsEntity entity → IsPredicate entity predicate → (r : NumberedRow) → length r.pairs ≡ k →
    all_hold (entity_tests entity ++ pred_tests c predicate) (row_sight k r) ≡ (accepts entity unbound (Some r.entity) && accepts predicate (entity_numbers entity r.entity) (pred_of (pair_at r.pairs c)))
pair_tests k few c inside (Constant n) predicate ie ok r w = ap₂ (λ (a b : Bool). a && b) (entry_is k n r) (pred_test k few c inside (Constant n) predicate ie r w predicate ok)
pair_tests k few c inside (New v) predicate ie ok r w = pred_test k few c inside (New v) predicate ie r w predicate ok
pair_tests k few c inside (Again v) predicate ie ok r w = absurd ie
pair_tests k few c inside (Maybe v) predicate ie ok r w = absurd ie

total-if : {X : Type 0} (b : Bool) (P : X → ℕ) (x : X) → total P (if b then x ∷ [] else []) ≡ cond b (P x) 0
total-if true P x = omega arith
total-if false P x = refl

-- one SELECT
total-pair_core : (g : List Cell → ℕ) (relations : Relations) (primary lists : Name) (k : ℕ) → k < 2 ^ 64 → (s : SideContents) → HoldsSide k s (relations primary) (relations lists) → IsReadable k s →
    (entity predicate : Asked) → IsEntity entity → IsPredicate entity predicate → (c : ℕ) → c < k →
    total g (select_rows relations (pair_core primary entity predicate c)) ≡ total (λ (r : NumberedRow). total (λ p. g (partial_row (asked_vars predicate (asked_vars entity [])) (0 ∷ []) p)) (pair_partials entity predicate r.entity (pair_at r.pairs c))) s.rows
total-pair_core g relations primary lists k few s st readable entity predicate ie ok c inside =
    let us = asked_vars predicate (asked_vars entity []) in
    let G : Partial → ℕ = λ p. g (partial_row us (0 ∷ []) p) in
    total-primary g relations primary lists k s st (one_item ∷ (map (variable_item (pair_sql c predicate)) us ++ map (cell_item (val_sql c)) (0 ∷ []))) (entity_tests entity ++ pred_tests c predicate)
    ∙ total-each _ _ (λ (r : NumberedRow). length r.pairs ≡ k) (λ r w.
    ap₂ (λ (b : Bool) (cs : List Cell). cond b (g cs) 0) (pair_tests k few c inside entity predicate ie ok r w) (pair_row k few c inside entity predicate ie r w ok)
    ∙ sym (total-if (accepts entity unbound (Some r.entity) && accepts predicate (entity_numbers entity r.entity) (pred_of (pair_at r.pairs c))) G
    (pair_partial entity predicate r.entity (pair_at r.pairs c)))) s.rows readable.wide

-- the sum over the columns from c on is the sum over the pairs
abbrev pub over_columns : (Option Pair → ℕ) → Row → ℕ → ℕ → ℕ
over_columns P pairs zero c = 0
over_columns P pairs (suc n) c = P (pair_at pairs c) + over_columns P pairs n (suc c)

columns-shift : (P : Option Pair → ℕ) (q : Option Pair) (pairs : Row) (n c : ℕ) → over_columns P (q ∷ pairs) n (suc c) ≡ over_columns P pairs n c
columns-shift P q pairs zero c = refl
columns-shift P q pairs (suc n) c = ap (λ (m : ℕ). P (pair_at pairs c) + m) (columns-shift P q pairs n (suc c))

columns-pairs : (P : Option Pair → ℕ) (pairs : Row) (n : ℕ) → length pairs ≡ n → over_columns P pairs n 0 ≡ total P pairs
columns-pairs P [] n e = rw (← e) refl
columns-pairs P (q ∷ pairs) zero e = absurd (omega arith)
columns-pairs P (q ∷ pairs) (suc n) e = let h : length pairs ≡ n = omega arith in ap (λ (m : ℕ). P q + m) (columns-shift P q pairs n 0 ∙ columns-pairs P pairs n h)

total-cores : (g : List Cell → ℕ) (relations : Relations) (primary lists : Name) (k : ℕ) → k < 2 ^ 64 → (s : SideContents) → HoldsSide k s (relations primary) (relations lists) → IsReadable k s →
    (entity predicate : Asked) → IsEntity entity → IsPredicate entity predicate → (n c : ℕ) → c + n ≤ k →
    total g (flat_map (select_rows relations) (pair_cores primary entity predicate n c)) ≡
    total (λ (r : NumberedRow). over_columns (λ q. total (λ p. g (partial_row (asked_vars predicate (asked_vars entity [])) (0 ∷ []) p)) (pair_partials entity predicate r.entity q)) r.pairs n c) s.rows
total-cores g relations primary lists k few s st readable entity predicate ie ok zero c l = sym (total-zero s.rows)
total-cores g relations primary lists k few s st readable entity predicate ie ok (suc n) c l =
    let P : NumberedRow → Option Pair → ℕ = λ r q. total (λ p. g (partial_row (asked_vars predicate (asked_vars entity [])) (0 ∷ []) p)) (pair_partials entity predicate r.entity q) in
    total-append g (select_rows relations (pair_core primary entity predicate c)) (flat_map (select_rows relations) (pair_cores primary entity predicate n (suc c)))
    ∙ ap₂ (λ (a b : ℕ). a + b) (total-pair_core g relations primary lists k few s st readable entity predicate ie ok c (omega arith)) (total-cores g relations primary lists k few s st readable entity predicate ie ok n (suc c) (omega arith))
    ∙ sym (total-plus (λ (r : NumberedRow). P r (pair_at r.pairs c)) (λ (r : NumberedRow). over_columns (P r) r.pairs n (suc c)) s.rows)

pair_gives : (lists : ValueLists) (entity predicate : Asked) (e : ℕ) (q : Option Pair) → Gives lists q → AllByRecursion (AllGive lists) (pair_partials entity predicate e q)
pair_gives lists entity predicate e q n = go (accepts entity unbound (Some e) && accepts predicate (entity_numbers entity e) (pred_of q))
  where
    go : (b : Bool) → AllByRecursion (AllGive lists) (if b then pair_partial entity predicate e q ∷ [] else [])
    go true = (λ i. given lists q n, tt)
    go false = tt

pub pair_step : (relations : Relations) (primary lists : Name) (k : ℕ) (s : SideContents) → 0 < k → k < 2 ^ 64 → HoldsSide k s (relations primary) (relations lists) → IsReadable k s →
    (entity predicate : Asked) → IsEntity entity → IsPredicate entity predicate →
    HoldsPartials s.lists (asked_vars predicate (asked_vars entity [])) (0 ∷ []) (all_pairs entity predicate s.rows) (body_relation relations (pairs_body primary entity predicate k))
pair_step relations primary lists zero s some few st readable entity predicate ie ok = absurd (omega arith)
pair_step relations primary lists (suc k) s some few st readable entity predicate ie ok =
    let us = asked_vars predicate (asked_vars entity []) in
    record {
      columns = ap (λ (ns : List Name). one ∷ ns) (names_are (pair_sql 0 predicate) column us (map (cell_item (val_sql 0)) (0 ∷ [])));
      rows = record {
        totals = λ g.
            let G : Partial → ℕ = λ p. g (partial_row us (0 ∷ []) p) in
            let P : NumberedRow → Option Pair → ℕ = λ r q. total G (pair_partials entity predicate r.entity q) in
            total-cores g relations primary lists (suc k) few s st readable entity predicate ie ok (suc k) 0 (omega arith)
            ∙ total-each _ _ (λ (r : NumberedRow). length r.pairs ≡ suc k) (λ r w. columns-pairs (P r) r.pairs (suc k) w ∙ sym (total-flat_map G (pair_partials entity predicate r.entity) r.pairs)) s.rows readable.wide
            ∙ sym (total-map g (partial_row us (0 ∷ [])) (all_pairs entity predicate s.rows) ∙ total-flat_map G (λ (r : NumberedRow). flat_map (pair_partials entity predicate r.entity) r.pairs) s.rows);
      };
      all_give = each-flat_map (AllGive s.lists) (λ (r : NumberedRow). flat_map (pair_partials entity predicate r.entity) r.pairs) s.rows
          (each-weaker (λ (r : NumberedRow). AllByRecursion (λ (q : Option Pair). Gives s.lists q) r.pairs) (λ (r : NumberedRow). AllByRecursion (AllGive s.lists) (flat_map (pair_partials entity predicate r.entity) r.pairs))
          (λ r all. each-flat_map (AllGive s.lists) (pair_partials entity predicate r.entity) r.pairs
          (each-weaker (λ (q : Option Pair). Gives s.lists q) (λ (q : Option Pair). AllByRecursion (AllGive s.lists) (pair_partials entity predicate r.entity q)) (λ q n. pair_gives s.lists entity predicate r.entity q n) r.pairs all)) s.rows readable.given);
    }
