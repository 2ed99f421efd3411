-- Rows that are viewed one by one.
use Rattle.std.proofs.Common.{◌≡◌, ℕ, zero, suc, ◌+◌, ◌<◌, List, [], ◌∷◌, ◌++◌, map, take, length, get_or, refl, sym, ap, ◌∙◌, arith}
use Rattle.std.proofs.Math.Seq.{take-suc}
use Rattle.layout_meaning.specs.Side.{Row, Rows}
use Rattle.layout_meaning.specs.Rows.{NumberedRow, rows_from}
use Rattle.primary_rows.specs.declared.views.RowView.{RowView}
use Rattle.primary_rows.specs.Cells.{pair_of}
use Rattle.primary_rows.specs.Views.{seen_row}

map-push : (xs : List RowView) (v : RowView) → map seen_row (xs ++ v ∷ []) ≡ map seen_row xs ++ seen_row v ∷ []
map-push [] v = refl
map-push (x ∷ xs) v = ap (λ (l : List NumberedRow). seen_row x ∷ l) (map-push xs v)

from-push : (e n : ℕ) (rs : Rows) (r : Row) → rows_from e n (rs ++ r ∷ []) ≡ rows_from e n rs ++ record { entity = e; spill = n + length rs; pairs = r } ∷ []
from-push e n [] r = let k : n ≡ n + 0 = omega arith in ap (λ (m : ℕ). record { entity = e; spill = m; pairs = r } ∷ []) k
from-push e n (x ∷ rs) r =
    let k : n + 1 + length rs ≡ n + suc (length rs) = omega arith in
    ap (λ (l : List NumberedRow). record { entity = e; spill = n; pairs = x } ∷ l) (from-push e (n + 1) rs r ∙ ap (λ (m : ℕ). rows_from e (n + 1) rs ++ record { entity = e; spill = m; pairs = r } ∷ []) k)

length-take : (i : ℕ) (rs : Rows) → i < length rs → length (take i rs) ≡ i
length-take i [] l = absurd (omega arith)
length-take zero (r ∷ rs) l = refl
length-take (suc i) (r ∷ rs) l = ap suc (length-take i rs (omega arith))

append-turned : (a b c : List NumberedRow) → (a ++ b) ++ c ≡ a ++ (b ++ c)
append-turned [] b c = refl
append-turned (x ∷ a) b c = ap (λ (l : List NumberedRow). x ∷ l) (append-turned a b c)

pub viewed-next : (e i : ℕ) (rows : Rows) (row : Row) (v : RowView) (views new : List RowView) (old : List NumberedRow) → i < length rows → row ≡ get_or rows i row → map pair_of v.cells.now ≡ row
    → v.entity ≡ e → v.spill ≡ i → new ≡ views ++ v ∷ [] → map seen_row views ≡ old ++ rows_from e 0 (take i rows) → map seen_row new ≡ old ++ rows_from e 0 (take (i + 1) rows)
viewed-next e i rows row v views new old within at cells entity spill is before =
    let k : i + 1 ≡ suc i = omega arith in
    let z : 0 + length (take i rows) ≡ i = omega (arith, length-take i rows within) in
    let s : seen_row v ≡ record { entity = e; spill = i; pairs = row } = λ j. record { entity = entity j; spill = spill j; pairs = cells j } in
    let t : take (i + 1) rows ≡ take i rows ++ row ∷ [] = ap (λ (n : ℕ). take n rows) k ∙ take-suc rows i row within ∙ ap (λ (r : Row). take i rows ++ r ∷ []) (sym at) in
    let f : rows_from e 0 (take (i + 1) rows) ≡ rows_from e 0 (take i rows) ++ record { entity = e; spill = i; pairs = row } ∷ []
    = ap (rows_from e 0) t ∙ from-push e 0 (take i rows) row ∙ ap (λ (n : ℕ). rows_from e 0 (take i rows) ++ record { entity = e; spill = n; pairs = row } ∷ []) z in
    ap (map seen_row) is ∙ map-push views v ∙ ap (λ (l : List NumberedRow). l ++ seen_row v ∷ []) before ∙ ap (λ (r : NumberedRow). (old ++ rows_from e 0 (take i rows)) ++ r ∷ []) s
    ∙ append-turned old (rows_from e 0 (take i rows)) (record { entity = e; spill = i; pairs = row } ∷ []) ∙ sym (ap (λ (l : List NumberedRow). old ++ l) f)
