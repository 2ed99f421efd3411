-- What holds of runs.
use Rattle.std.specs.Prelude.{◌≡◌, ℕ, ◌≤◌, List}
use Rattle.bags.specs.Sort.{sort}
use Rattle.layout_meaning.specs.Side.{Item}
use Rattle.layout_meaning.specs.Columns.{ColumnsOf}
use Rattle.layout_bulk_meaning.specs.Bulk.{by_entity, empty_side, bulk_side}
use Rattle.layout_bulk_meaning.specs.Appended.{appended_side}
use Rattle.layout_run_laws.specs.Runs.{joined, AreRuns, run_side, appended_runs, AppendAbove}
use Rattle.layout_run_laws.specs.Cuts.{runs_of}

-- runs placed apart and appended in order to an empty side are all items placed together and put behind an empty one
abbrev pub RunsGoTogether : Type 0
RunsGoTogether =
    (columns : ColumnsOf) (iri_of : ℕ → List ℕ) (runs : List (List Item)) → AreRuns runs
    → appended_runs columns iri_of (empty_side columns) runs ≡ appended_side (empty_side columns) (run_side columns iri_of (joined runs))

abbrev pub RunsStandAbove : Type 0
RunsStandAbove = (columns : ColumnsOf) (iri_of : ℕ → List ℕ) (runs : List (List Item)) → AreRuns runs → AppendAbove columns iri_of (empty_side columns) runs

-- the cut of sorted items gives runs, which are all of the items
abbrev pub CutsAreRuns : Type 0
CutsAreRuns = (pieces : ℕ) (items : List Item) → 1 ≤ pieces → AreRuns (runs_of pieces (sort by_entity items))

abbrev pub CutsAreWhole : Type 0
CutsAreWhole = (pieces : ℕ) (items : List Item) → 1 ≤ pieces → joined (runs_of pieces items) ≡ items

-- how many pieces there are changes nothing
abbrev pub PiecesChangeNothing : Type 0
PiecesChangeNothing =
    (columns : ColumnsOf) (iri_of : ℕ → List ℕ) (pieces : ℕ) (items : List Item) → 1 ≤ pieces
    → appended_runs columns iri_of (empty_side columns) (runs_of pieces (sort by_entity items)) ≡ bulk_side columns iri_of items
