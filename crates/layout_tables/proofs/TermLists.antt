-- The terms of a dictionary under their ids, one after another.
use Rattle.std.proofs.Common.{◌≡◌, ℕ, zero, suc, ◌+◌, ◌-◌, List, [], ◌∷◌, ◌++◌, take, Some, slice_get, sym, ap, ◌∙◌, arith}
use Rattle.rdf_meaning.specs.Terms.{RdfTerm}
use Rattle.layout_standing_meaning.specs.Dictionary.{Entry, numbered_from}

-- one term more is numbered
more : (n i : ℕ) (ts : List RdfTerm) (t : RdfTerm) → slice_get ts i ≡ Some t → numbered_from n (take (suc i) ts) ≡ numbered_from n (take i ts) ++ record { id = n + i; term = t } ∷ []
more n i [] t h = cc
more n zero (x ∷ xs) t h =
    let e : x ≡ t = cc in
    let z : n ≡ n + 0 = omega arith in
    ap (λ (u : RdfTerm). record { id = n; term = u } ∷ []) e ∙ ap (λ (m : ℕ). record { id = m; term = t } ∷ []) z
more n (suc i) (x ∷ xs) t h =
    let z : n + 1 + i ≡ n + suc i = omega arith in
    ap (λ (es : List Entry). record { id = n; term = x } ∷ es)
    (more (n + 1) i xs t h ∙ ap (λ (m : ℕ). numbered_from (n + 1) (take i xs) ++ record { id = m; term = t } ∷ []) z)

-- and its row stands behind the others
pub row-on : (rows new : List Entry) (row : Entry) (ts : List RdfTerm) (i id : ℕ) (t : RdfTerm) → rows ≡ numbered_from 1 (take i ts) → new ≡ rows ++ row ∷ []
    → row ≡ record { id = id; term = t } → id ≡ i + 1 → slice_get ts (id - 1) ≡ Some t → new ≡ numbered_from 1 (take (i + 1) ts)
row-on rows new row ts i id t so pushed is numbered held =
    let at : id - 1 ≡ i = omega arith in
    let first : id ≡ 1 + i = omega arith in
    let next : i + 1 ≡ suc i = omega arith in
    pushed
    ∙ (λ j. so j ++ is j ∷ [])
    ∙ ap (λ (m : ℕ). numbered_from 1 (take i ts) ++ record { id = m; term = t } ∷ []) first
    ∙ sym (more 1 i ts t (ap (λ (m : ℕ). slice_get ts m) (sym at) ∙ held))
    ∙ ap (λ (m : ℕ). numbered_from 1 (take m ts)) (sym next)
