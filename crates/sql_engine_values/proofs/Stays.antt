-- Kept indexes stay right where one more relation, or one more index, comes behind.
use Rattle.std.proofs.Common.{◌≡◌, ℕ, zero, suc, ◌<◌, List, [], ◌∷◌, ◌++◌, length, length-append, append_assoc, subst, refl, sym, ap, ◌∙◌, arith}
use Rattle.std.specs.Prelude.{All, slice_index_or}
use Rattle.std.proofs.lemmas.List.Elements.{All-append}
use Rattle.table_meaning.specs.declared.cell.Cell.{Cell}
use Rattle.sql_bind_meaning.specs.Sources.{relation_rows}
use Rattle.sql_index.specs.Found.{IsIndexOf}
use Rattle.sql_engine_values.specs.declared.kept.KeptIndex.{KeptIndex}
use Rattle.sql_engine_values.specs.Kept.{IsKept}

rows_stay : (relations : List (List (List Cell))) (more : List (List Cell)) (n : ℕ) → n < length relations → relation_rows (relations ++ more ∷ []) n ≡ relation_rows relations n
rows_stay [] more n h = absurd (omega arith)
rows_stay (rows ∷ relations) more zero h = refl
rows_stay (rows ∷ relations) more (suc n) h = rows_stay relations more n (omega arith)

kept_stays : (relations : List (List (List Cell))) (more : List (List Cell)) (kept : KeptIndex) → IsKept relations kept → IsKept (relations ++ more ∷ []) kept
kept_stays relations more kept h = (
  omega (arith, h.0, length-append relations (more ∷ [])),
  subst (λ (rows : List (List Cell)). IsIndexOf kept.index rows kept.column) (sym (rows_stay relations more kept.relation h.0)) h.1,
)

-- with one more relation
pub all_stay : (relations : List (List (List Cell))) (more : List (List Cell)) (all : List KeptIndex) → All (IsKept relations) all → All (IsKept (relations ++ more ∷ [])) all
all_stay relations more all h = λ k d lt. kept_stays relations more (slice_index_or all k d) (h k d lt)

one : (relations : List (List (List Cell))) (kept : KeptIndex) → IsKept relations kept → All (IsKept relations) (kept ∷ [])
one relations kept h zero d lt = h
one relations kept h (suc k) d lt = absurd (omega arith)

-- with one more index
pub one_more : (relations : List (List (List Cell))) (all : List KeptIndex) (kept : KeptIndex) → All (IsKept relations) all → IsKept relations kept → All (IsKept relations) (all ++ kept ∷ [])
one_more relations all kept h k = All-append (IsKept relations) all (kept ∷ []) h (one relations kept k)

module _ (tables steps steps' : List (List (List Cell))) (more : List (List Cell)) (is : steps' ≡ steps ++ more ∷ []) where
  -- the relations with one more step
  pub with_step : (relations : List (List (List Cell))) → tables ++ steps ≡ relations → tables ++ steps' ≡ relations ++ more ∷ []
  with_step relations h =
      ap (λ (l : List (List (List Cell))). tables ++ l) is ∙ sym (append_assoc tables steps (more ∷ [])) ∙ ap (λ (l : List (List (List Cell))). l ++ more ∷ []) h

  pub all_kept : (all : List KeptIndex) → All (IsKept (tables ++ steps)) all → All (IsKept (tables ++ steps')) all
  all_kept all h = subst (λ (relations : List (List (List Cell))). All (IsKept relations) all) (sym (with_step (tables ++ steps) refl)) (all_stay (tables ++ steps) more all h)
