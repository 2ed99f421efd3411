-- Sides that are made apart.
use Rattle.std.specs.Prelude.{◌≡◌, ℕ, ◌<◌, List, [], ◌∷◌, Option, Some, None, Result, Ok, Err, IfOk, slice_index_or}
use Rattle.layout_meaning.specs.Side.{Item}
use Rattle.layout_meaning.specs.Columns.{ColumnsOf}
use Rattle.layout_meaning.specs.Rows.{SideOf}
use Rattle.layout_bulk_meaning.specs.Appended.{appended_side, IsAbove}
use Rattle.layout_run_laws.specs.Runs.{run_side}
use Rattle.layout_run_laws.specs.Cuts.{run_at}

-- all sides appended in their order, or none where one of them failed
abbrev pub all_appended : {E : Type 0} → SideOf → List (Result SideOf E) → Option SideOf
all_appended s [] = Some s
all_appended s (Err e ∷ parts) = None
all_appended s (Ok t ∷ parts) = all_appended (appended_side s t) parts

-- each side, up to the first that failed, has the columns of those before it and stands above them
abbrev pub CanAppend : {E : Type 0} → SideOf → List (Result SideOf E) → Type 0
CanAppend s [] = Unit {0}
CanAppend s (Err e ∷ parts) = Unit {0}
CanAppend s (Ok t ∷ parts) = (t.columns ≡ s.columns) × IsAbove s.state.entities t.state.entities × CanAppend (appended_side s t) parts

-- each side that was made is that of the run with its number
abbrev pub EachIsRun : {E : Type 0} → ColumnsOf → (ℕ → List ℕ) → ℕ → List Item → List (Result SideOf E) → Type 0
EachIsRun {E} columns iri_of pieces items parts = (n : ℕ) (d : Result SideOf E) → n < pieces → IfOk (slice_index_or parts n d) (λ (side : SideOf). side ≡ run_side columns iri_of (run_at pieces items n))
