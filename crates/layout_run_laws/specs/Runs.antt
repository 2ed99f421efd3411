-- A side that is made run by run.
use Rattle.std.specs.Prelude.{◌≡◌, ℕ, List, [], ◌∷◌}
use Rattle.std.specs.declared.cmp.Ordering.TheVariants.{Less}
use Rattle.std.specs.Ordering.{nat_cmp}
use Rattle.std.specs.List.{fold, flat_map, AllByRecursion}
use Rattle.layout_meaning.specs.Side.{Item}
use Rattle.layout_meaning.specs.Columns.{ColumnsOf}
use Rattle.layout_meaning.specs.Rows.{SideOf}
use Rattle.layout_bulk_meaning.specs.Appended.{appended_side, IsAbove}
use Rattle.layout_bulk_meaning.specs.Bulk.{empty_side, placed_all}

-- each entity of the first items is below each of the later ones
abbrev pub StandBelow : List Item → List Item → Type 0
StandBelow xs ys = AllByRecursion (λ (x : Item). AllByRecursion (λ (y : Item). nat_cmp x.entity y.entity ≡ Less) ys) xs

-- the runs, one after another
abbrev pub joined : List (List Item) → List Item
joined runs = flat_map (λ run. run) runs

-- runs of rising entities, none of which stands in two runs
abbrev pub AreRuns : List (List Item) → Type 0
AreRuns [] = Unit {0}
AreRuns (run ∷ runs) = StandBelow run (joined runs) × AreRuns runs

-- the side of a run by itself
abbrev pub run_side : ColumnsOf → (ℕ → List ℕ) → List Item → SideOf
run_side columns iri_of run = placed_all iri_of (empty_side columns) run

-- the sides of runs, each behind those before it
abbrev pub appended_runs : ColumnsOf → (ℕ → List ℕ) → SideOf → List (List Item) → SideOf
appended_runs columns iri_of s runs = fold (λ side run. appended_side side (run_side columns iri_of run)) s runs

-- each of the sides is above those before it
abbrev pub AppendAbove : ColumnsOf → (ℕ → List ℕ) → SideOf → List (List Item) → Type 0
AppendAbove columns iri_of s [] = Unit {0}
AppendAbove columns iri_of s (run ∷ runs) =
    IsAbove s.state.entities (run_side columns iri_of run).state.entities × AppendAbove columns iri_of (appended_side s (run_side columns iri_of run)) runs
