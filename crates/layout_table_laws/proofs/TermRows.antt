-- The row of a term.
use Rattle.std.proofs.Common.{◌≡◌, ◌⊎◌, inl, inr, ℕ, ℤ, pos, ◌+◌, ◌≤◌, ◌<◌, ◌==◌, ◌||◌, Bool, true, false, cond, if◌then◌else◌, List, [], ◌∷◌, Option, Some, None, refl, sym, ap, ◌∙◌, arith, subst}
use Rattle.std.proofs.lemmas.Bool.{cases_lt, lt-ltb, le-ltb, eq-eqb, ne_eqb}
use Rattle.std.specs.Prelude.{codes}
use Rattle.std.specs.Ordering.{int_eq}
use Rattle.bags.specs.Bag.{total}
use Rattle.bags.specs.BagLaws.{total-map, total-same}
use Rattle.rdf_meaning.specs.Terms.{RdfTerm, same_term}
use Rattle.rdf_meaning.specs.TermLaws.{same_term-is}
use Rattle.rdf_value_meaning.specs.Values.{class_of, value_of}
use Rattle.layout_meaning.specs.Sound.{one_if}
use Rattle.table_meaning.specs.declared.cell.Cell.{Cell}
use Rattle.table_meaning.specs.declared.cell.Cell.TheVariants.{Int, Text}
use Rattle.table_meaning.specs.Tables.{NamedTable}
use Rattle.sql_rows_meaning.specs.Tables.{Relation, relations_of}
use Rattle.layout_standing_meaning.specs.Dictionary.{Entry, AreEntries, id_of, has_term}
use Rattle.layout_standing_meaning.specs.Schemas.{LayoutOf}
use Rattle.layout_standing_meaning.specs.Contents.{Contents, number_cell, term_cells}
use Rattle.layout_standing_meaning.specs.Standing.{AreTables}
use Rattle.sql_gen_term_laws.specs.TermTable.{value_cell, has_number, HasTerms, term_columns}
use Rattle.sql_gen_term_laws.specs.TermTable as steps
use Rattle.layout_facts_laws.proofs.Ids.{HasEachOnce, rest_once, not_first}

-- numbers are compared as ints are
same_numbers : (m n : ℕ) → int_eq (pos m) (pos n) ≡ (m == n)
same_numbers m n = go (cases_lt m n) (cases_lt n m)
  where
    go : (m < n) ⊎ (n ≤ m) → (n < m) ⊎ (m ≤ n) → int_eq (pos m) (pos n) ≡ (m == n)
    go (inl l) h = rw (lt-ltb m n l, ne_eqb m n (λ e. absurd (omega arith))) refl
    go (inr g) (inl h) = rw (le-ltb m n g, lt-ltb n m h, ne_eqb m n (λ e. absurd (omega arith))) refl
    go (inr g) (inr h) = rw (le-ltb m n g, le-ltb n m h, eq-eqb m n (omega arith)) refl

-- a row has the number of its entry
number_of : (e : Entry) (n : ℕ) → has_number n (term_cells e) ≡ (e.id == n)
number_of e n = same_numbers e.id n

-- both definitions write a value alike
same_value : (o : Option ℤ) → number_cell o ≡ value_cell o
same_value None = refl
same_value (Some n) = refl

-- both definitions give an entry the same cells
same_cells : (e : Entry) (t : RdfTerm) → e.term ≡ t → (ids : RdfTerm → ℕ) → ids t ≡ e.id → term_cells e ≡ steps.term_cells ids t
same_cells e t same ids id =
    ap (λ (c : Cell). Int (pos e.id) ∷ Int (pos (class_of e.term)) ∷ c ∷ Text e.term.text ∷ Text e.term.aux ∷ []) (same_value (value_of e.term))
    ∙ ap (λ (n : ℕ). Int (pos n) ∷ Int (pos (class_of e.term)) ∷ value_cell (value_of e.term) ∷ Text e.term.text ∷ Text e.term.aux ∷ []) (sym id)
    ∙ ap (λ (u : RdfTerm). Int (pos (ids t)) ∷ Int (pos (class_of u)) ∷ value_cell (value_of u) ∷ Text u.text ∷ Text u.aux ∷ []) same

-- no entry of the rest has the first one's id
none_else : (e : Entry) (es : List Entry) (k : Entry → ℕ) → HasEachOnce (e ∷ es) → total (λ (f : Entry). cond (f.id == e.id) (k f) 0) es ≡ 0
none_else e es k once = none es (let w = once e.id in let q : (e.id == e.id) ≡ true = grind arith in let s : one_if (e.id == e.id) ≡ 1 = ap one_if q in omega arith)
  where
    none : (fs : List Entry) → total (λ (f : Entry). one_if (f.id == e.id)) fs ≤ 0 → total (λ (f : Entry). cond (f.id == e.id) (k f) 0) fs ≡ 0
    none [] h = refl
    none (f ∷ fs) h = by (f.id == e.id) h (none fs)
      where
        by : (b : Bool) → one_if b + total (λ (g : Entry). one_if (g.id == e.id)) fs ≤ 0 → (total (λ (g : Entry). one_if (g.id == e.id)) fs ≤ 0 → total (λ (g : Entry). cond (g.id == e.id) (k g) 0) fs ≡ 0)
            → cond b (k f) 0 + total (λ (g : Entry). cond (g.id == e.id) (k g) 0) fs ≡ 0
        by true h rest = absurd (omega arith)
        by false h rest = let r = rest (omega arith) in omega arith

-- the one entry of a term under its id
own_entry : (es : List Entry) (t : RdfTerm) (k : Entry → ℕ) (want : ℕ) → HasEachOnce es → has_term es t ≡ true → ((e : Entry) → e.term ≡ t → id_of es t ≡ e.id → k e ≡ want)
    → total (λ (e : Entry). cond (e.id == id_of es t) (k e) 0) es ≡ want
own_entry [] t k want once there each = cc
own_entry (e ∷ es) t k want once there each = by (same_term e.term t) refl there each (own_entry es t k want (rest_once e es once))
  where
    first : (e.id == e.id) ≡ true
    first = grind arith

    OfRest : Type 0
    OfRest = has_term es t ≡ true → ((f : Entry) → f.term ≡ t → id_of es t ≡ f.id → k f ≡ want) → total (λ (f : Entry). cond (f.id == id_of es t) (k f) 0) es ≡ want

    by : (b : Bool) → same_term e.term t ≡ b → (b || has_term es t) ≡ true → ((f : Entry) → f.term ≡ t → (if b then e.id else id_of es t) ≡ f.id → k f ≡ want) → OfRest
        → cond (e.id == (if b then e.id else id_of es t)) (k e) 0 + total (λ (f : Entry). cond (f.id == (if b then e.id else id_of es t)) (k f) 0) es ≡ want
    by true s h each ih =
        let here : cond (e.id == e.id) (k e) 0 ≡ k e = ap (λ (c : Bool). cond c (k e) 0) first in
        let rest : total (λ (f : Entry). cond (f.id == e.id) (k f) 0) es ≡ 0 = none_else e es k once in
        let is : k e ≡ want = each e (same_term-is e.term t s) refl in
        omega arith
    by false s h each ih =
        let here : cond (e.id == id_of es t) (k e) 0 ≡ 0 = ap (λ (c : Bool). cond c (k e) 0) (not_first e es t once h) in
        let rest : total (λ (f : Entry). cond (f.id == id_of es t) (k f) 0) es ≡ want = ih h each in
        omega arith

-- the table of terms among the five
term_rows : (layout : LayoutOf) (c : Contents) (tables : List NamedTable) (h : AreTables layout c tables)
    → relations_of tables (codes "TERM") ≡ (let r : Relation = record { columns = term_columns; rows = h.rows.terms } in r)
term_rows layout c tables h = ap (λ (ts : List NamedTable). relations_of ts (codes "TERM")) h.five

own_row : (layout : LayoutOf) (c : Contents) (tables : List NamedTable) (h : AreTables layout c tables) → HasEachOnce c.terms → (t : RdfTerm) → has_term c.terms t ≡ true → (k : List Cell → ℕ)
    → total (λ (row : List Cell). cond (has_number (id_of c.terms t) row) (k row) 0) h.rows.terms ≡ k (steps.term_cells (id_of c.terms) t)
own_row layout c tables h once t there k =
    h.terms.totals (λ (row : List Cell). cond (has_number (id_of c.terms t) row) (k row) 0)
    ∙ total-map (λ (row : List Cell). cond (has_number (id_of c.terms t) row) (k row) 0) term_cells c.terms
    ∙ total-same _ _ (λ (e : Entry). ap (λ (b : Bool). cond b (k (term_cells e)) 0) (number_of e (id_of c.terms t))) c.terms
    ∙ own_entry c.terms t (λ (e : Entry). k (term_cells e)) (k (steps.term_cells (id_of c.terms) t)) once there
    (λ (e : Entry) (same : e.term ≡ t) (id : id_of c.terms t ≡ e.id). ap k (same_cells e t same (id_of c.terms) id))

pub terms_held : (layout : LayoutOf) (c : Contents) (tables : List NamedTable) → AreTables layout c tables → AreEntries c.terms → HasTerms (id_of c.terms) (has_term c.terms) (relations_of tables (codes "TERM"))
terms_held layout c tables h entries =
    subst (HasTerms (id_of c.terms) (has_term c.terms)) (sym (term_rows layout c tables h)) (record {
      columns = refl;
      own_row = λ (t : RdfTerm) (there : has_term c.terms t ≡ true) (k : List Cell → ℕ). own_row layout c tables h entries.own_id t there k;
    })
