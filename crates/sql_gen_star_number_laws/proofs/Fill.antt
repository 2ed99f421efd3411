-- The arms of one row: every choice of its entity's values.
use Rattle.std.proofs.Common.{◌≡◌, ℕ, suc, ◌+◌, cond, List, [], ◌∷◌, ◌++◌, map, Option, Some, None, length, sym, refl, ap, ◌∙◌, subst, arith}
use Rattle.std.proofs.Math.Nat.{add-zero}
use Rattle.std.proofs.lemmas.List.{append-nil}
use Rattle.std.specs.List.{flat_map, filter, AllByRecursion}
use Rattle.bags.specs.Bag.{total, SameBag}
use Rattle.bags.specs.BagLaws.{total-same, total-map, total-flat_map, total-filter, same-empty, same-sym, same-length}
use Rattle.layout_meaning.specs.declared.value.Value.{Value}
use Rattle.layout_meaning.specs.Side.{Row, ValueLists, values_of, found_values, find_in_row}
use Rattle.layout_meaning.specs.Rows.{NumberedRow}
use Rattle.layout_standing_meaning.specs.Contents.{SideContents, held_values}
use Rattle.layout_row_meaning.specs.Reading.{found_in}
use Rattle.sql_gen_star_meaning.specs.declared.arm.Asked.{Asked}
use Rattle.sql_gen_star_meaning.specs.Asked.{IdMapping, accepts, then_bound}
use Rattle.sql_gen_star_meaning.specs.Partials.{Partial, choices_of, HasChoice, AccessArm, opened, open_arm}
use Rattle.sql_gen_star_meaning.specs.declared.arm.StarArm.{StarArm}
use Rattle.sql_gen_star_meaning.specs.Openings.{Opening, openings_from, access_arms, AccessHas, open_all, held_choices, fill}

-- openings may be summed one partial solution at a time
pub open_all-each : (K : Partial → ℕ) (lists : ValueLists) (arms : List Opening) (ps : List Partial) → total K (open_all lists arms ps) ≡ total (λ p. total K (open_all lists arms (p ∷ []))) ps
open_all-each K lists [] ps = total-same K (λ p. K p + 0) (λ p. omega arith) ps
open_all-each K lists (a ∷ arms) ps =
    let f = open_arm lists a.number a.asked in
    open_all-each K lists arms (flat_map f ps)
    ∙ total-flat_map (λ p. total K (open_all lists arms (p ∷ []))) f ps
    ∙ total-same _ _ (λ p. sym (open_all-each K lists arms (flat_map f (p ∷ []))
    ∙ total-flat_map (λ p. total K (open_all lists arms (p ∷ []))) f (p ∷ []) ∙ add-zero _)) ps

pub total-opened : (K : Partial → ℕ) (lists : ValueLists) (i : ℕ) (a : Asked) (p : Partial) → total K (open_arm lists i a p) ≡ total (λ o. cond (accepts a p.numbers o) (K (opened a p o)) 0) (choices_of lists (p.cells i))
total-opened K lists i a p =
    total-map K (opened a p) (filter (accepts a p.numbers) (choices_of lists (p.cells i)))
    ∙ total-filter (λ o. K (opened a p o)) (accepts a p.numbers) (choices_of lists (p.cells i))

pub open_one : (K : Partial → ℕ) (lists : ValueLists) (i : ℕ) (a : Asked) (arms : List Opening) (p : Partial) →
    total K (open_all lists (record { number = i; asked = a } ∷ arms) (p ∷ [])) ≡ total (λ o. cond (accepts a p.numbers o) (total K (open_all lists arms (opened a p o ∷ []))) 0) (choices_of lists (p.cells i))
open_one K lists i a arms p =
    ap (λ (ps : List Partial). total K (open_all lists arms ps)) (append-nil (open_arm lists i a p))
    ∙ open_all-each K lists arms (open_arm lists i a p)
    ∙ total-opened (λ q. total K (open_all lists arms (q ∷ []))) lists i a p

-- ---- the cells of a row

abbrev pub CellsAre : Row → ℕ → List StarArm → (ℕ → Option Value) → Type 0
CellsAre r i [] cells = Unit {0}
CellsAre r i (a ∷ arms) cells = (cells i ≡ find_in_row a.pred r) × CellsAre r (suc i) arms cells

abbrev pub cell_of_arm : Row → AccessArm → Option Value
cell_of_arm r a = found_in a.pred r a.columns

pub row_cells_are : (r : Row) (access : ℕ → AccessArm) (i : ℕ) (arms : List StarArm) → AccessHas access i arms → AllByRecursion (λ (a : StarArm). found_in a.pred r a.columns ≡ find_in_row a.pred r) arms →
    CellsAre r i arms (λ j. cell_of_arm r (access j))
row_cells_are r access i [] has found = tt
row_cells_are r access i (a ∷ arms) has found = (ap (cell_of_arm r) has.0 ∙ found.0, row_cells_are r access (suc i) arms has.1 found.1)

-- the arms of an access step that has others before and behind them
has_shifted : (b : StarArm) (all : List StarArm) (i : ℕ) (arms : List StarArm) → AccessHas (access_arms all) i arms → AccessHas (access_arms (b ∷ all)) (suc i) arms
has_shifted b all i [] h = tt
has_shifted b all i (a ∷ arms) h = (h.0, has_shifted b all (suc i) arms h.1)

has_first : (arms after : List StarArm) → AccessHas (access_arms (arms ++ after)) 0 arms
has_first [] after = tt
has_first (a ∷ arms) after = (refl, has_shifted a (arms ++ after) 0 arms (has_first arms after))

pub access_has : (before arms after : List StarArm) → AccessHas (access_arms (before ++ (arms ++ after))) (length before) arms
access_has [] arms after = has_first arms after
access_has (b ∷ before) arms after = has_shifted b (before ++ (arms ++ after)) (length before) arms (access_has before arms after)

-- ---- what is held

-- the cell gives what is held
pub choices_held : (lists : ValueLists) (xs : List ℕ) (o : Option Value) → HasChoice lists o → SameBag (found_values lists o) xs → (G : Option ℕ → ℕ) → total G (choices_of lists o) ≡ total G (held_choices xs)
choices_held lists xs None n same G = let e : xs ≡ [] = same-empty xs (same-sym same) in subst (λ (ys : List ℕ). total G (None ∷ []) ≡ total G (held_choices ys)) (sym e) refl
choices_held lists [] (Some v) n same G = let e : length (values_of lists v) ≡ 0 = same-length (values_of lists v) [] same in absurd (omega arith)
choices_held lists (x ∷ xs) (Some v) n same G = total-map G (λ (y : ℕ). Some y) (values_of lists v) ∙ same.totals (λ y. G (Some y)) ∙ sym (total-map G (λ (y : ℕ). Some y) (x ∷ xs))

-- a sum over what is filled, arm by arm
pub total-fill : (K : IdMapping → ℕ) (s : SideContents) (e : ℕ) (a : StarArm) (arms : List StarArm) (m : IdMapping) →
    total K (fill s e (a ∷ arms) m) ≡ total (λ o. cond (accepts a.asked m o) (total K (fill s e arms (then_bound a.asked o m))) 0) (held_choices (held_values s e a.pred))
total-fill K s e a arms m =
    total-flat_map K (fill s e arms) (map (λ o. then_bound a.asked o m) (filter (accepts a.asked m) (held_choices (held_values s e a.pred))))
    ∙ total-map (λ n. total K (fill s e arms n)) (λ o. then_bound a.asked o m) (filter (accepts a.asked m) (held_choices (held_values s e a.pred)))
    ∙ total-filter (λ o. total K (fill s e arms (then_bound a.asked o m))) (accepts a.asked m) (held_choices (held_values s e a.pred))

-- the row has all values that its entity has under an arm's predicate
abbrev pub HasAll : SideContents → NumberedRow → StarArm → Type 0
HasAll s r a = SameBag (found_values s.lists (find_in_row a.pred r.pairs)) (held_values s r.entity a.pred)

-- the openings give every choice of the entity's values
pub fills : (s : SideContents) (r : NumberedRow) (i : ℕ) (arms : List StarArm) → AllByRecursion (HasAll s r) arms → (cells : ℕ → Option Value) → ((i : ℕ) → HasChoice s.lists (cells i)) → CellsAre r.pairs i arms cells → (K : IdMapping → ℕ) (m : IdMapping) →
    total (λ (p : Partial). K p.numbers) (open_all s.lists (openings_from i arms) (record { numbers = m; cells = cells } ∷ [])) ≡ total K (fill s r.entity arms m)
fills s r i [] all cells gives are K m = refl
fills s r i (a ∷ arms) all cells gives are K m =
    let rest : Option ℕ → ℕ = λ o. total K (fill s r.entity arms (then_bound a.asked o m)) in
    open_one (λ (p : Partial). K p.numbers) s.lists i a.asked (openings_from (suc i) arms) (record { numbers = m; cells = cells })
    ∙ total-same _ _ (λ o. ap (λ (x : ℕ). cond (accepts a.asked m o) x 0) (fills s r (suc i) arms all.1 cells gives are.1 K (then_bound a.asked o m))) (choices_of s.lists (cells i))
    ∙ choices_held s.lists (held_values s r.entity a.pred) (cells i) (gives i) (subst (λ (o : Option Value). SameBag (found_values s.lists o) (held_values s r.entity a.pred)) (sym are.0) all.0) (λ o. cond (accepts a.asked m o) (rest o) 0)
    ∙ sym (total-fill K s r.entity a arms m)
