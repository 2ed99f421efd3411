-- Rows of shown terms are read back.
use Rattle.std.specs.Prelude.{◌≡◌, ◌⊎◌, ℕ, Bool, true, false, if◌then◌else◌, ◌&&◌, ◌==◌, List, [], ◌∷◌, map, Option, Some, None, pos, refl}
use Rattle.std.proofs.Common.{sym, ap, ap₂, ◌∙◌, subst, inl, inr}
use Rattle.std.proofs.lemmas.Bool.{cases_Bool, false_from_ne_true, eqb-true}
use Rattle.std.specs.List.{flat_map, AllByRecursion}
use Rattle.std.specs.Str.{bytes_eq}
use Rattle.std.specs.Ordering.{int_eq}
use Rattle.std.proofs.lemmas.Bool.Decides.{Decides-int_eq}
use Rattle.std.proofs.lemmas.Slice.Eq.{bytes_eq-Decides}
use Rattle.bags.specs.Sort.{same_items}
use Rattle.bags.specs.SortLaws.{map-firsts}
use Rattle.rdf_meaning.specs.declared.kind.TermKind.{TermKind}
use Rattle.rdf_meaning.specs.declared.kind.TermKind.TheVariants.{Iri, Blank, Tagged, Typed}
use Rattle.rdf_meaning.specs.Terms.{RdfTerm, is_term, same_kind, same_term}
use Rattle.rdf_meaning.specs.TermLaws.{same_kind-is, same_kind-self}
use Rattle.rdf_value_meaning.specs.Values.{class_of, class_of_kind}
use Rattle.rdf_value_meaning.specs.OrderLaws.{kind_of_class}
use Rattle.query_eval_meaning.specs.Answer.{Row, same_place, distinct_rows}
use Rattle.table_meaning.specs.declared.cell.Cell.{Cell}
use Rattle.table_meaning.specs.declared.cell.Cell.TheVariants.{Int}
use Rattle.sql_rows_meaning.specs.Cells.{same_cell}
use Rattle.sql_rows_meaning.specs.Selects.{unrepeated}
use Rattle.sql_gen_step_laws.specs.StepTests.{same_bools}
use Rattle.sql_gen_answer_meaning.specs.Decode.{kind_of_number, term_from, place_from, then_place, decode_places, then_row, decode}
use Rattle.sql_gen_term_laws.specs.TermTable.{class_cell, text_cell, aux_cell}

-- one place of a row, as the cells of the last SELECT
abbrev pub three : Option RdfTerm → List Cell
three x = class_cell x ∷ text_cell x ∷ aux_cell x ∷ []

abbrev pub shown_cells : Row → List Cell
shown_cells row = Int (pos 1) ∷ flat_map three row

-- ---- the kind of a class

typed-kind : (n : ℕ) → (n ≡ 1 → ⊥) → (n ≡ 2 → ⊥) → (n ≡ 6 → ⊥) → kind_of_number n ≡ Typed
typed-kind n a b c =
    let one : (n == 1) ≡ false = false_from_ne_true _ (λ e. a (eqb-true n 1 e)) in
    let two : (n == 2) ≡ false = false_from_ne_true _ (λ e. b (eqb-true n 2 e)) in
    let six : (n == 6) ≡ false = false_from_ne_true _ (λ e. c (eqb-true n 6 e)) in
    rw (one, two, six) refl

kind-of : (k : TermKind) (text aux : List ℕ) → kind_of_number (class_of_kind k text aux) ≡ k
kind-of Iri text aux = refl
kind-of Blank text aux = refl
kind-of Tagged text aux = refl
kind-of Typed text aux =
    typed-kind (class_of_kind Typed text aux)
    (λ e. let no : Typed ≡ Blank = kind_of_class Typed Blank text aux e in cc)
    (λ e. let no : Typed ≡ Iri = kind_of_class Typed Iri text aux e in cc)
    (λ e. let no : Typed ≡ Tagged = kind_of_class Typed Tagged text aux e in cc)

-- ---- terms

-- a term that is one, or none
abbrev pub IsPlace : Option RdfTerm → Type 0
IsPlace x = (t : RdfTerm) → x ≡ Some t → is_term t.kind t.text t.aux ≡ true

abbrev pub IsRowOfTerms : Row → Type 0
IsRowOfTerms row = AllByRecursion IsPlace row

place-again : (x : Option RdfTerm) → IsPlace x → place_from (class_cell x) (text_cell x) (aux_cell x) ≡ Some x
place-again None h = refl
place-again (Some t) h =
    let same : term_from (class_of t) t.text t.aux ≡ t = λ i. record { kind = kind-of t.kind t.text t.aux i; text = t.text; aux = t.aux } in
    ap (λ (k : TermKind). if is_term k t.text t.aux then Some (Some (term_from (class_of t) t.text t.aux)) else None) (kind-of t.kind t.text t.aux)
    ∙ ap₂ (λ (b : Bool) (u : RdfTerm). if b then Some (Some u) else None) (h t refl) same

decode-row : (row : Row) → IsRowOfTerms row → decode_places (flat_map three row) ≡ Some row
decode-row [] all = refl
decode-row (x ∷ row) all = ap₂ then_place (place-again x all.0) (decode-row row all.1)

pub decode-all : (rows : List Row) → AllByRecursion IsRowOfTerms rows → decode (map shown_cells rows) ≡ Some rows
decode-all [] all = refl
decode-all (r ∷ rows) all = ap₂ then_row (decode-row r all.0) (decode-all rows all.1)

-- ---- DISTINCT on cells

pos-same : (m n : ℕ) → pos m ≡ pos n → m ≡ n
pos-same m n e = cc

same-class : (t u : RdfTerm) → t.text ≡ u.text → t.aux ≡ u.aux → int_eq (pos (class_of t)) (pos (class_of u)) ≡ same_kind t.kind u.kind
same-class t u x y = same_bools _ _
    (λ e.
    let classes : class_of_kind t.kind t.text t.aux ≡ class_of_kind u.kind u.text u.aux = pos-same _ _ ((Decides-int_eq (pos (class_of t)) (pos (class_of u))).0 e) in
    let moved : class_of_kind u.kind u.text u.aux ≡ class_of_kind u.kind t.text t.aux = λ i. class_of_kind u.kind (sym x i) (sym y i) in
    let kind : t.kind ≡ u.kind = kind_of_class t.kind u.kind t.text t.aux (classes ∙ moved) in
    subst (λ (k : TermKind). same_kind t.kind k ≡ true) kind (same_kind-self t.kind))
    (λ e.
    let kind : t.kind ≡ u.kind = same_kind-is t.kind u.kind e in
    let classes : class_of t ≡ class_of u = λ i. class_of_kind (kind i) (x i) (y i) in
    (Decides-int_eq (pos (class_of t)) (pos (class_of u))).1 (ap pos classes))

and-false : (a b : Bool) → (a && false) ≡ (b && false)
and-false true true = refl
and-false true false = refl
and-false false true = refl
and-false false false = refl

same-term : (t u : RdfTerm) (b : Bool) → (int_eq (pos (class_of t)) (pos (class_of u)) && (bytes_eq t.text u.text && (bytes_eq t.aux u.aux && b))) ≡ (same_term t u && b)
same-term t u b = go (cases_Bool (bytes_eq t.text u.text)) (cases_Bool (bytes_eq t.aux u.aux))
  where
    go : (bytes_eq t.text u.text ≡ true) ⊎ (bytes_eq t.text u.text ≡ false) → (bytes_eq t.aux u.aux ≡ true) ⊎ (bytes_eq t.aux u.aux ≡ false) →
        (int_eq (pos (class_of t)) (pos (class_of u)) && (bytes_eq t.text u.text && (bytes_eq t.aux u.aux && b))) ≡ (same_term t u && b)
    go (inl x) (inl y) =
        let kinds : int_eq (pos (class_of t)) (pos (class_of u)) ≡ same_kind t.kind u.kind = same-class t u ((bytes_eq-Decides t.text u.text).0 x) ((bytes_eq-Decides t.aux u.aux).0 y) in
        rw (x, y, kinds) (both_sides (same_kind t.kind u.kind) b)
      where
        both_sides : (k b : Bool) → (k && b) ≡ ((k && true) && b)
        both_sides true b = refl
        both_sides false b = refl
    go (inl x) (inr y) = rw (x, y) (none (int_eq (pos (class_of t)) (pos (class_of u))) (same_kind t.kind u.kind) b)
      where
        none : (i k b : Bool) → (i && false) ≡ ((k && false) && b)
        none true true b = refl
        none true false b = refl
        none false true b = refl
        none false false b = refl
    go (inr x) y = rw x (none (int_eq (pos (class_of t)) (pos (class_of u))) (same_kind t.kind u.kind) b)
      where
        none : (i k b : Bool) → (i && false) ≡ ((k && false) && b)
        none true true b = refl
        none true false b = refl
        none false true b = refl
        none false false b = refl

same-shown : (r s : Row) → same_items same_cell (flat_map three r) (flat_map three s) ≡ same_items same_place r s
same-shown [] [] = refl
same-shown [] (None ∷ s) = refl
same-shown [] (Some u ∷ s) = refl
same-shown (None ∷ r) [] = refl
same-shown (Some t ∷ r) [] = refl
same-shown (None ∷ r) (None ∷ s) = same-shown r s
same-shown (None ∷ r) (Some u ∷ s) = refl
same-shown (Some t ∷ r) (None ∷ s) = refl
same-shown (Some t ∷ r) (Some u ∷ s) =
    same-term t u (same_items same_cell (flat_map three r) (flat_map three s)) ∙ ap (λ (b : Bool). same_term t u && b) (same-shown r s)

pub distinct-are : (d : Bool) (rows : List Row) → unrepeated d (map shown_cells rows) ≡ map shown_cells (distinct_rows d rows)
distinct-are false rows = refl
distinct-are true rows = map-firsts (same_items same_place) (same_items same_cell) shown_cells same-shown [] rows
