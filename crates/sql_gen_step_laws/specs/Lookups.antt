-- What a name means over a row that carries a mapping.
use Rattle.std.proofs.Common.{◌≡◌, ℕ, ◌+◌, ◌/◌, ◌%◌, ◌⊎◌, Bool, true, false, if◌then◌else◌, ◌||◌, List, [], ◌∷◌, map, sym, refl, ap, ◌∙◌, arith, eqb, inl, inr, ◌==◌, bytes_eq}
use Rattle.std.proofs.lemmas.Bool.{eqb-true, eq-eqb, ne_eqb, and_parts, or_parts, cases_Bool, cases_eq, false_from_ne_true}
use Rattle.query_eval_meaning.specs.Mapping.{Mapping}
use Rattle.rdf_meaning.specs.Terms.{RdfTerm}
use Rattle.table_meaning.specs.declared.cell.Cell.{Cell}
use Rattle.table_meaning.specs.declared.cell.Cell.TheVariants.{Null}
use Rattle.sql_rows_meaning.specs.Tables.{cell_under}
use Rattle.sql_gen_step_laws.specs.Carried.{column, one, Ids, id_cell, carry, columns_of, Over}
use Rattle.sql_gen_step_laws.specs.StepSelects.{has}

same_digits : (w v : ℕ) → 48 + w / 10 ≡ 48 + v / 10 → 48 + w % 10 ≡ 48 + v % 10 → w ≡ v
same_digits w v d r = omega arith

pub same_column : (w v : ℕ) → bytes_eq (column w) (column v) ≡ (w == v)
unfolding column
same_column w v = go (cases_eq w v)
  where
    go : (w ≡ v) ⊎ (w ≡ v → ⊥) → bytes_eq (column w) (column v) ≡ (w == v)
    go (inl e) = rw (e, eq-eqb (48 + v / 10) (48 + v / 10) refl, eq-eqb (48 + v % 10) (48 + v % 10) refl, eq-eqb v v refl) refl
    go (inr ne) = false_from_ne_true _ (λ t.
        let p = and_parts (eqb (48 + w / 10) (48 + v / 10)) _ t in
        let q = and_parts (eqb (48 + w % 10) (48 + v % 10)) true p.1 in
        ne (same_digits w v (eqb-true _ _ p.0) (eqb-true _ _ q.0))) ∙ sym (ne_eqb w v ne)

pub one_column : (v : ℕ) → bytes_eq one (column v) ≡ false
unfolding column
one_column v = refl

variable_step : (ids : Ids) (w v : ℕ) (m : Mapping) (rest : Cell) → (w == v) ≡ true ⊎ ((w == v) ≡ false) × (rest ≡ id_cell ids (m v)) → (if w == v then id_cell ids (m w) else rest) ≡ id_cell ids (m v)
variable_step ids w v m rest (inl q) = rw q (ap (λ u. id_cell ids (m u)) (eqb-true w v q))
variable_step ids w v m rest (inr q) = rw q.0 q.1

rest_has : (w : ℕ) (vs : List ℕ) (v : ℕ) → has (w ∷ vs) v ≡ true → (w == v) ≡ false → has vs v ≡ true
rest_has w vs v e q = let h : ((w == v) || has vs v) ≡ true = e in rw q at h

cell_under_variables : (ids : Ids) (vs : List ℕ) (m : Mapping) (v : ℕ) → has vs v ≡ true → cell_under (map column vs) (map (λ v. id_cell ids (m v)) vs) (column v) ≡ id_cell ids (m v)
cell_under_variables ids [] m v e = cc
cell_under_variables ids (w ∷ vs) m v e =
    rw (same_column w v) (variable_step ids w v m (cell_under (map column vs) (map (λ v. id_cell ids (m v)) vs) (column v))
    (split (cases_Bool (w == v)) (λ q. cell_under_variables ids vs m v (rest_has w vs v e q))))
  where
    split : ((w == v) ≡ true) ⊎ ((w == v) ≡ false) → ((w == v) ≡ false → cell_under (map column vs) (map (λ v. id_cell ids (m v)) vs) (column v) ≡ id_cell ids (m v)) →
        (w == v) ≡ true ⊎ ((w == v) ≡ false) × (cell_under (map column vs) (map (λ v. id_cell ids (m v)) vs) (column v) ≡ id_cell ids (m v))
    split (inl q) f = inl q
    split (inr q) f = inr (q, f q)

cell_under_others : (ids : Ids) (vs : List ℕ) (m : Mapping) (v : ℕ) → has vs v ≡ false → cell_under (map column vs) (map (λ v. id_cell ids (m v)) vs) (column v) ≡ Null
cell_under_others ids [] m v e = refl
cell_under_others ids (w ∷ vs) m v e =
    let h = or_parts (w == v) (has vs v) e in
    rw (same_column w v, h.0) (cell_under_others ids vs m v h.1)

-- each variable's cell, also where the row has none
pub cell_under_carry : (ids : Ids) (known : RdfTerm → Bool) (vs : List ℕ) (m : Mapping) (v : ℕ) → Over vs known m → cell_under (columns_of vs) (carry ids vs m) (column v) ≡ id_cell ids (m v)
cell_under_carry ids known vs m v f = rw (one_column v) (go (cases_Bool (has vs v)))
  where
    go : (has vs v ≡ true) ⊎ (has vs v ≡ false) → cell_under (map column vs) (map (λ v. id_cell ids (m v)) vs) (column v) ≡ id_cell ids (m v)
    go (inl e) = cell_under_variables ids vs m v e
    go (inr e) = cell_under_others ids vs m v e ∙ sym (ap (id_cell ids) (f.bound v e))
