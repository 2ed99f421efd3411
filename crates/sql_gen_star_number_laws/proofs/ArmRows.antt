-- All rows: every choice of values, for each item of the first arm.
use Rattle.std.proofs.Common.{◌≡◌, ◌⊎◌, inl, inr, ℕ, suc, Bool, true, false, cond, ◌&&◌, if◌then◌else◌, List, [], ◌∷◌, map, Option, Some, None, sym, refl, ap, ◌∙◌, subst, arith, ◌==◌}
use Rattle.std.proofs.lemmas.Bool.{cases_Bool}
use Rattle.std.specs.List.{flat_map, filter, AllByRecursion}
use Rattle.bags.specs.Bag.{total, SameBag}
use Rattle.bags.specs.BagLaws.{total-same, total-map, total-flat_map, total-filter, total-each, total-cond, each-any}
use Rattle.layout_meaning.specs.declared.value.Value.{Value}
use Rattle.layout_meaning.specs.Columns.{ColumnsOf}
use Rattle.layout_meaning.specs.Side.{Pair, Item, ValueLists, values_of, found_values, find_in_row}
use Rattle.layout_meaning.specs.Rows.{NumberedRow}
use Rattle.layout_standing_meaning.specs.Dictionary.{Entry}
use Rattle.layout_standing_meaning.specs.Contents.{SideContents, said}
use Rattle.layout_standing_meaning.specs.Standing.{SideStands, is_spilled_in}
use Rattle.layout_standing_meaning.proofs.Each.{each-two}
use Rattle.layout_table_laws.proofs.First.{first}
use Rattle.layout_row_meaning.specs.Reading.{found_in, Gives}
use Rattle.layout_table_laws.proofs.Readable.{readable}
use Rattle.sql_gen_star_meaning.proofs.Choices.{given_found}
use Rattle.sql_gen_star_meaning.specs.declared.arm.Asked.{Asked}
use Rattle.sql_gen_star_meaning.specs.declared.arm.Asked.TheVariants.{Constant, Again, New, Maybe}
use Rattle.sql_gen_star_meaning.specs.Asked.{IdMapping, unbound, accepts, then_bound, IsRequired}
use Rattle.sql_gen_star_meaning.specs.Partials.{Partial, choices_of, AccessArm, access_test, access_partial, access_partials, entity_numbers}
use Rattle.sql_gen_star_meaning.specs.declared.arm.StarArm.{StarArm}
use Rattle.sql_gen_star_meaning.specs.Openings.{openings_from, AccessHas, open_all, fill, item_numbers, ArmFinds, AreReadable}
use Rattle.sql_gen_star_number_laws.proofs.Sums.{each_once, said_term, each_behind}
use Rattle.sql_gen_star_number_laws.proofs.Fill.{open_all-each, open_one, CellsAre, cell_of_arm, row_cells_are, HasAll, fills}

pub never_none : (a : Asked) → IsRequired a → (m : IdMapping) → accepts a m None ≡ false
never_none (Constant n) ok m = refl
never_none (Again v) ok m = refl
never_none (New v) ok m = refl
never_none (Maybe v) ok m = absurd ok

choices_required : (lists : ValueLists) (G : Option ℕ → ℕ) → G None ≡ 0 → (o : Option Value) → total G (choices_of lists o) ≡ total (λ x. G (Some x)) (found_values lists o)
choices_required lists G e None = omega arith
choices_required lists G e (Some v) = total-map G (λ (x : ℕ). Some x) (values_of lists v)

-- the sum for one value of the first arm
abbrev pub value_term : SideContents → (IdMapping → ℕ) → Asked → StarArm → List StarArm → ℕ → ℕ → ℕ
value_term s K entity a rest e x =
    cond (accepts a.asked (entity_numbers entity e) (Some x)) (total K (fill s e rest (then_bound a.asked (Some x) (entity_numbers entity e)))) 0

abbrev pub entity_term : SideContents → (IdMapping → ℕ) → Asked → StarArm → List StarArm → ℕ → ℕ → ℕ
entity_term s K entity a rest e x = cond (accepts entity unbound (Some e)) (value_term s K entity a rest e x) 0

-- what is sure of each row, as the rows are read
abbrev pub Ready : SideContents → Bool → StarArm → List StarArm → NumberedRow → Type 0
Ready s true a rest r = ((r.spill == 0) ≡ true → AllByRecursion (HasAll s r) rest) × ((r.spill == 0) ≡ false → find_in_row a.pred r.pairs ≡ None)
Ready s false a rest r = rest ≡ []

record RowReady (s : SideContents) (first : Bool) (a : StarArm) (rest : List StarArm) (r : NumberedRow) : Type 0 where
  found : AllByRecursion (λ (b : StarArm). found_in b.pred r.pairs b.columns ≡ find_in_row b.pred r.pairs) (a ∷ rest)
  given : AllByRecursion (λ (q : Option Pair). Gives s.lists q) r.pairs
  ready : Ready s first a rest r

module _ (s : SideContents) (K : IdMapping → ℕ) (entity : Asked) (a : StarArm) (rest : List StarArm) (required : IsRequired a.asked) (access : ℕ → AccessArm) (i : ℕ) (has : AccessHas access i (a ∷ rest)) where
  opened_row : (r : NumberedRow) → found_in a.pred r.pairs a.columns ≡ find_in_row a.pred r.pairs →
      ((m : IdMapping) → total (λ (p : Partial). K p.numbers) (open_all s.lists (openings_from (suc i) rest) (record { numbers = m; cells = (access_partial entity access r).cells } ∷ [])) ≡ total K (fill s r.entity rest m)) →
      total (λ (p : Partial). K p.numbers) (open_all s.lists (openings_from i (a ∷ rest)) (access_partial entity access r ∷ [])) ≡ total (value_term s K entity a rest r.entity) (found_values s.lists (find_in_row a.pred r.pairs))
  opened_row r found is =
      let p = access_partial entity access r in
      let m : IdMapping = entity_numbers entity r.entity in
      let G : Option ℕ → ℕ = λ o. cond (accepts a.asked m o) (total K (fill s r.entity rest (then_bound a.asked o m))) 0 in
      open_one (λ (p : Partial). K p.numbers) s.lists i a.asked (openings_from (suc i) rest) p
      ∙ total-same _ _ (λ o. ap (λ (n : ℕ). cond (accepts a.asked m o) n 0) (is (then_bound a.asked o m))) (choices_of s.lists (p.cells i))
      ∙ ap (λ (o : Option Value). total G (choices_of s.lists o)) (ap (cell_of_arm r.pairs) has.0 ∙ found)
      ∙ choices_required s.lists G (ap (λ (b : Bool). cond b (total K (fill s r.entity rest (then_bound a.asked None m))) 0) (never_none a.asked required m)) (find_in_row a.pred r.pairs)

  one_row : (first : Bool) (r : NumberedRow) → RowReady s first a rest r →
      cond (access_test first entity r) (total (λ (p : Partial). K p.numbers) (open_all s.lists (openings_from i (a ∷ rest)) (access_partial entity access r ∷ []))) 0
      ≡ total (entity_term s K entity a rest r.entity) (found_values s.lists (find_in_row a.pred r.pairs))
  one_row false r h =
      ap (λ (n : ℕ). cond (accepts entity unbound (Some r.entity)) n 0)
      (opened_row r h.found.0 (subst (λ (arms : List StarArm). (m : IdMapping) → total (λ (p : Partial). K p.numbers) (open_all s.lists (openings_from (suc i) arms) (record { numbers = m; cells = (access_partial entity access r).cells } ∷ [])) ≡ total K (fill s r.entity arms m)) (sym h.ready) (λ m. refl)))
      ∙ sym (total-cond (accepts entity unbound (Some r.entity)) (value_term s K entity a rest r.entity) (found_values s.lists (find_in_row a.pred r.pairs)))
  one_row true r h = go (cases_Bool (r.spill == 0))
    where
      go : ((r.spill == 0) ≡ true) ⊎ ((r.spill == 0) ≡ false) →
          cond ((r.spill == 0) && accepts entity unbound (Some r.entity)) (total (λ (p : Partial). K p.numbers) (open_all s.lists (openings_from i (a ∷ rest)) (access_partial entity access r ∷ []))) 0
          ≡ total (entity_term s K entity a rest r.entity) (found_values s.lists (find_in_row a.pred r.pairs))
      go (inl e) =
          let cells : ℕ → Option Value = (access_partial entity access r).cells in
          let are : CellsAre r.pairs i (a ∷ rest) cells = row_cells_are r.pairs access i (a ∷ rest) has h.found in
          let is : (m : IdMapping) → total (λ (p : Partial). K p.numbers) (open_all s.lists (openings_from (suc i) rest) (record { numbers = m; cells = cells } ∷ [])) ≡ total K (fill s r.entity rest m) =
          λ m. fills s r (suc i) rest (h.ready.0 e) cells (λ j. given_found s.lists (access j).pred r.pairs h.given (access j).columns) are.1 K m in
          rw e (ap (λ (n : ℕ). cond (accepts entity unbound (Some r.entity)) n 0) (opened_row r h.found.0 is)
          ∙ sym (total-cond (accepts entity unbound (Some r.entity)) (value_term s K entity a rest r.entity) (found_values s.lists (find_in_row a.pred r.pairs))))
      go (inr e) = rw e (sym (ap (λ (o : Option Value). total (entity_term s K entity a rest r.entity) (found_values s.lists o)) (h.ready.1 e)))

-- ---- every row is ready

each_found : (s : SideContents) (arms : List StarArm) → AllByRecursion (ArmFinds s) arms → AllByRecursion (λ (r : NumberedRow). AllByRecursion (λ (b : StarArm). found_in b.pred r.pairs b.columns ≡ find_in_row b.pred r.pairs) arms) s.rows
each_found s [] h = each-any (λ (r : NumberedRow). Unit {0}) (λ r. tt) s.rows
each_found s (a ∷ arms) h =
    each-two (λ (r : NumberedRow). found_in a.pred r.pairs a.columns ≡ find_in_row a.pred r.pairs) (λ (r : NumberedRow). AllByRecursion (λ (b : StarArm). found_in b.pred r.pairs b.columns ≡ find_in_row b.pred r.pairs) arms)
    (λ (r : NumberedRow). AllByRecursion (λ (b : StarArm). found_in b.pred r.pairs b.columns ≡ find_in_row b.pred r.pairs) (a ∷ arms)) (λ r x y. (x, y)) s.rows h.0 (each_found s arms h.1)

each_has_all : (columns : ColumnsOf) (es : List Entry) (s : SideContents) → SideStands columns es s → (arms : List StarArm) → AllByRecursion (λ (b : StarArm). is_spilled_in b.pred s.rows ≡ false) arms →
    AllByRecursion (λ (r : NumberedRow). (r.spill == 0) ≡ true → AllByRecursion (HasAll s r) arms) s.rows
each_has_all columns es s st [] plain = each-any (λ (r : NumberedRow). (r.spill == 0) ≡ true → Unit {0}) (λ r e. tt) s.rows
each_has_all columns es s st (a ∷ arms) plain =
    each-two (λ (r : NumberedRow). (r.spill == 0) ≡ true → HasAll s r a) (λ (r : NumberedRow). (r.spill == 0) ≡ true → AllByRecursion (HasAll s r) arms)
    (λ (r : NumberedRow). (r.spill == 0) ≡ true → AllByRecursion (HasAll s r) (a ∷ arms)) (λ r x y e. (x e, y e)) s.rows (first columns es s st a.pred plain.0) (each_has_all columns es s st arms plain.1)

each_ready : (columns : ColumnsOf) (es : List Entry) (s : SideContents) → SideStands columns es s → (first : Bool) (a : StarArm) (rest : List StarArm) → AreReadable s first a rest → AllByRecursion (Ready s first a rest) s.rows
each_ready columns es s st true a rest ok =
    each-two (λ (r : NumberedRow). (r.spill == 0) ≡ true → AllByRecursion (HasAll s r) rest) (λ (r : NumberedRow). (r.spill == 0) ≡ false → find_in_row a.pred r.pairs ≡ None) (Ready s true a rest) (λ r x y. (x, y)) s.rows
    (each_has_all columns es s st rest ok.1) (each_behind a.pred s.rows ok.0)
each_ready columns es s st false a rest ok = each-any (Ready s false a rest) (λ r. ok) s.rows

each_row_ready : (columns : ColumnsOf) (es : List Entry) (s : SideContents) → SideStands columns es s → (first : Bool) (a : StarArm) (rest : List StarArm) → AreReadable s first a rest → AllByRecursion (ArmFinds s) (a ∷ rest) → AllByRecursion (RowReady s first a rest) s.rows
each_row_ready columns es s st first a rest ok finds =
    let found = each_found s (a ∷ rest) finds in
    let given = (readable columns es s st).given in
    each-two (λ (r : NumberedRow). AllByRecursion (λ (b : StarArm). found_in b.pred r.pairs b.columns ≡ find_in_row b.pred r.pairs) (a ∷ rest)) (λ (r : NumberedRow). AllByRecursion (λ (q : Option Pair). Gives s.lists q) r.pairs × Ready s first a rest r)
    (RowReady s first a rest) (λ r x y. record { found = x; given = y.0; ready = y.1 }) s.rows found
    (each-two (λ (r : NumberedRow). AllByRecursion (λ (q : Option Pair). Gives s.lists q) r.pairs) (Ready s first a rest) (λ (r : NumberedRow). AllByRecursion (λ (q : Option Pair). Gives s.lists q) r.pairs × Ready s first a rest r)
    (λ r x y. (x, y)) s.rows given (each_ready columns es s st first a rest ok))

-- ---- the law

pub if_three : (a b c : Bool) (K : IdMapping → ℕ) (ms : List IdMapping) → total K (if a && (b && c) then ms else []) ≡ cond a (cond b (cond c (total K ms) 0) 0) 0
if_three true true true K ms = refl
if_three true true false K ms = refl
if_three true false c K ms = refl
if_three false b c K ms = refl

pub choices : (columns : ColumnsOf) (es : List Entry) (s : SideContents) → SideStands columns es s → (first : Bool) (entity : Asked) (a : StarArm) (arms : List StarArm) → IsRequired a.asked →
    AreReadable s first a arms → AllByRecursion (ArmFinds s) (a ∷ arms) → (access : ℕ → AccessArm) (i : ℕ) → AccessHas access i (a ∷ arms) →
    SameBag (map (λ (p : Partial). p.numbers) (open_all s.lists (openings_from i (a ∷ arms)) (access_partials first entity access s.rows))) (flat_map (item_numbers s entity a arms) (said s))
choices columns es s st first entity a arms required ok finds access i has = record {
  totals = λ (K : IdMapping → ℕ).
      let KP : Partial → ℕ = λ (p : Partial). K p.numbers in
      total-map K (λ (p : Partial). p.numbers) (open_all s.lists (openings_from i (a ∷ arms)) (access_partials first entity access s.rows))
      ∙ open_all-each KP s.lists (openings_from i (a ∷ arms)) (access_partials first entity access s.rows)
      ∙ total-map (λ p. total KP (open_all s.lists (openings_from i (a ∷ arms)) (p ∷ []))) (access_partial entity access) (filter (access_test first entity) s.rows)
      ∙ total-filter (λ r. total KP (open_all s.lists (openings_from i (a ∷ arms)) (access_partial entity access r ∷ []))) (access_test first entity) s.rows
      ∙ total-each _ _ (RowReady s first a arms) (λ r h. one_row s K entity a arms required access i has first r h) s.rows (each_row_ready columns es s st first a arms ok finds)
      ∙ sym (said_term s a.pred (entity_term s K entity a arms) (each_once columns es s st a.pred))
      ∙ sym (total-flat_map K (item_numbers s entity a arms) (said s)
      ∙ total-same _ _ (λ (x : Item). if_three (x.pred == a.pred) (accepts entity unbound (Some x.entity)) (accepts a.asked (entity_numbers entity x.entity) (Some x.value)) K
      (fill s x.entity arms (then_bound a.asked (Some x.value) (entity_numbers entity x.entity)))) (said s));
}
