-- When columns are refused: this project's own rule.
use Rattle.std.specs.Prelude.{ℕ, ◌+◌, nat_le, nat_lt, nat_eq, ◌&&◌, List, [], ◌∷◌, ◌++◌, Option, Some, None, if◌then◌else◌, Bool}
use Rattle.std.specs.List.{list_any}
use Rattle.std.specs.Cmp.Lexicographic.{pointwise}
use Rattle.pred_columns.specs.declared.columns.ColourPair.{ColourPair}
use Rattle.pred_columns.specs.declared.columns.ColumnRefusal.{ColumnRefusal}
use Rattle.pred_columns.specs.declared.columns.ColumnRefusal.TheVariants.{BadCount, BadHashes, Repeated, OutOfRange}

abbrev pub known_of : ColourPair → List ℕ × ℕ
known_of p = (p.iri, p.column)

abbrev pub same_text : List ℕ → List ℕ → Bool
same_text = pointwise nat_eq

-- the fault of the first pair that is wrong: these IRIs came before it, and it is numbered from `at`
abbrev pub fault_from : ℕ → List (List ℕ) → List ColourPair → ℕ → Option ColumnRefusal
fault_from k seen [] at = None
fault_from k seen (p ∷ ps) at =
    if list_any (same_text p.iri) seen then Some (Repeated at)
    else if nat_lt p.column k then fault_from k (seen ++ p.iri ∷ []) ps (at + 1)
    else Some (OutOfRange at)

abbrev pub in_range : ℕ → ℕ → ℕ → Bool
in_range low high n = nat_le low n && nat_le n high

-- the refusal of columns, if there is one
abbrev pub refusal_of : ℕ → ℕ → List ColourPair → Option ColumnRefusal
refusal_of k hashes pairs =
    if in_range 1 32 k then (if in_range 1 4 hashes then fault_from k [] pairs 0 else Some BadHashes) else Some BadCount
