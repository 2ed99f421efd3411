-- A row's value under a predicate is found in the predicate's columns.
use Rattle.std.proofs.Common.{◌≡◌, ◌⊎◌, inl, inr, ℕ, zero, suc, ◌+◌, ◌≤◌, ◌==◌, nat_eq, ◌||◌, Bool, true, false, if◌then◌else◌, List, [], ◌∷◌, Option, Some, None, refl, sym, ap, ◌∙◌, arith, subst}
use Rattle.std.proofs.lemmas.Bool.{cases_Bool}
use Rattle.std.specs.List.{list_any, AllByRecursion}
use Rattle.std.specs.Ordering.{nat_cmp}
use Rattle.std.specs.BTreeMap.{is_at}
use Rattle.bags.specs.Bag.{total}
use Rattle.bags.specs.BagLaws.{each-weaker}
use Rattle.rdf_meaning.specs.Terms.{RdfTerm, same_term}
use Rattle.rdf_meaning.specs.TermLaws.{same_term-is}
use Rattle.layout_meaning.specs.Columns.{ColumnsOf, candidates_of}
use Rattle.layout_meaning.specs.Side.{Pair, Row, is_pred, find_in_row}
use Rattle.layout_meaning.specs.Sound.{one_if, has_pred, pair_at, RowKeeps}
use Rattle.layout_meaning.specs.Rows.{NumberedRow, name_in, columns_by}
use Rattle.layout_meaning.proofs.Maps.{at_true, at_itself}
use Rattle.layout_standing_meaning.specs.Dictionary.{Entry, AreEntries, id_of, has_term, names_of}
use Rattle.layout_standing_meaning.specs.Contents.{SideContents}
use Rattle.layout_standing_meaning.specs.Standing.{SideStands, candidates_at}
use Rattle.layout_standing_meaning.proofs.Each.{each-part, each-two}
use Rattle.layout_row_meaning.specs.Reading.{value_in, found_in}
use Rattle.layout_facts_laws.proofs.Ids.{HasEachOnce, rest_once, not_first, id-none, zero-none}
use Rattle.layout_facts_laws.proofs.Spilled.{nowhere}

-- a column that has the predicate counts
counts : (p : ℕ) (r : Row) (c : ℕ) → is_pred p (pair_at r c) ≡ true → 1 ≤ total (has_pred p) r
counts p [] c h = cc
counts p (None ∷ r) zero h = cc
counts p (Some q ∷ r) zero h = let k : one_if (q.pred == p) ≡ 1 = ap one_if h in omega arith
counts p (o ∷ r) (suc c) h = let k = counts p r c h in omega arith

-- the value of the one column that has it
at-found : (p : ℕ) (r : Row) (c : ℕ) → total (has_pred p) r ≤ 1 → is_pred p (pair_at r c) ≡ true → value_in (pair_at r c) ≡ find_in_row p r
at-found p [] c once h = cc
at-found p (None ∷ r) zero once h = cc
at-found p (None ∷ r) (suc c) once h = at-found p r c (omega arith) h
at-found p (Some q ∷ r) zero once h = rw h refl
at-found p (Some q ∷ r) (suc c) once h = by (q.pred == p) once (at-found p r c) (counts p r c h)
  where
    by : (b : Bool) → one_if b + total (has_pred p) r ≤ 1 → (total (has_pred p) r ≤ 1 → is_pred p (pair_at r c) ≡ true → value_in (pair_at r c) ≡ find_in_row p r) → 1 ≤ total (has_pred p) r
        → value_in (pair_at r c) ≡ (if b then Some q.value else find_in_row p r)
    by true once ih some = absurd (omega arith)
    by false once ih some = ih (omega arith) h

in-columns : (p : ℕ) (r : Row) (c : ℕ) → total (has_pred p) r ≤ 1 → is_pred p (pair_at r c) ≡ true → (cs : List ℕ) → list_any (nat_eq c) cs ≡ true → found_in p r cs ≡ find_in_row p r
in-columns p r c once h [] a = cc
in-columns p r c once h (d ∷ cs) a = by (is_pred p (pair_at r d)) refl (nat_eq c d) refl a (in-columns p r c once h cs)
  where
    by : (b : Bool) → is_pred p (pair_at r d) ≡ b → (n : Bool) → nat_eq c d ≡ n → (n || list_any (nat_eq c) cs) ≡ true → (list_any (nat_eq c) cs ≡ true → found_in p r cs ≡ find_in_row p r)
        → (if b then value_in (pair_at r d) else found_in p r cs) ≡ find_in_row p r
    by true t n e a ih = at-found p r d once t
    by false t false e a ih = ih a
    by false t true e a ih = let k : c ≡ d = grind arith in let m : is_pred p (pair_at r d) ≡ true = subst (λ (x : ℕ). is_pred p (pair_at r x) ≡ true) k h in cc

-- where no pair has the predicate, nothing is found
pub none-has : (p : ℕ) (r : Row) → list_any (is_pred p) r ≡ false → (c : ℕ) → is_pred p (pair_at r c) ≡ false
none-has p [] z c = refl
none-has p (None ∷ r) z zero = refl
none-has p (Some q ∷ r) z zero = by (q.pred == p) z
  where
    by : (b : Bool) → (b || list_any (is_pred p) r) ≡ false → b ≡ false
    by true z = cc
    by false z = refl
none-has p (o ∷ r) z (suc c) = by (is_pred p o) z (none-has p r)
  where
    by : (b : Bool) → (b || list_any (is_pred p) r) ≡ false → (list_any (is_pred p) r ≡ false → (c : ℕ) → is_pred p (pair_at r c) ≡ false) → is_pred p (pair_at r c) ≡ false
    by true z ih = cc
    by false z ih = ih z c

pub none-found : (p : ℕ) (r : Row) → list_any (is_pred p) r ≡ false → (cs : List ℕ) → found_in p r cs ≡ None
none-found p r z [] = refl
none-found p r z (c ∷ cs) = rw (none-has p r z c) (none-found p r z cs)

pub none-in_row : (p : ℕ) (r : Row) → list_any (is_pred p) r ≡ false → find_in_row p r ≡ None
none-in_row p [] z = refl
none-in_row p (None ∷ r) z = none-in_row p r z
none-in_row p (Some q ∷ r) z = by (q.pred == p) z (none-in_row p r)
  where
    by : (b : Bool) → (b || list_any (is_pred p) r) ≡ false → (list_any (is_pred p) r ≡ false → find_in_row p r ≡ None) → (if b then Some q.value else find_in_row p r) ≡ None
    by true z ih = cc
    by false z ih = ih z

-- a column that has the predicate
record Place (p : ℕ) (r : Row) : Type 0 where
  column : ℕ
  has_it : is_pred p (pair_at r column) ≡ true

place : (p : ℕ) (r : Row) → list_any (is_pred p) r ≡ true → Place p r
place p [] h = cc
place p (o ∷ r) h = by (is_pred p o) refl h (place p r)
  where
    by : (b : Bool) → is_pred p o ≡ b → (b || list_any (is_pred p) r) ≡ true → (list_any (is_pred p) r ≡ true → Place p r) → Place p (o ∷ r)
    by true t h ih = record { column = 0; has_it = t }
    by false t h ih = let q = ih h in record { column = suc q.column; has_it = q.has_it }

pub row-found : (candidates : ℕ → List ℕ) (p : ℕ) (r : Row) → total (has_pred p) r ≤ 1 → RowKeeps candidates r → found_in p r (candidates p) ≡ find_in_row p r
row-found candidates p r once keeps = go (cases_Bool (list_any (is_pred p) r))
  where
    kept : (c : ℕ) (o : Option Pair) → pair_at r c ≡ o → is_pred p o ≡ true → list_any (nat_eq c) (candidates p) ≡ true
    kept c None e h = cc
    kept c (Some q) e h = let k : q.pred ≡ p = grind arith in subst (λ (n : ℕ). list_any (nat_eq c) (candidates n) ≡ true) k (keeps.in_columns c q e)

    go : (list_any (is_pred p) r ≡ true) ⊎ (list_any (is_pred p) r ≡ false) → found_in p r (candidates p) ≡ find_in_row p r
    go (inl h) = let q = place p r h in in-columns p r q.column once q.has_it (candidates p) (kept q.column (pair_at r q.column) refl q.has_it)
    go (inr h) = none-found p r h (candidates p) ∙ sym (none-in_row p r h)

-- ---- the columns of a term's id are those of its text

name-is : (es : List Entry) (t : RdfTerm) → HasEachOnce es → has_term es t ≡ true → name_in (names_of es) (id_of es t) ≡ Some t.text
name-is [] t once h = cc
name-is (e ∷ es) t once h = by (same_term e.term t) refl h (name-is es t (rest_once e es once))
  where
    by : (b : Bool) → same_term e.term t ≡ b → (b || has_term es t) ≡ true → (has_term es t ≡ true → name_in (names_of es) (id_of es t) ≡ Some t.text)
        → name_in (names_of (e ∷ es)) (if b then e.id else id_of es t) ≡ Some t.text
    by true s h ih = rw (at_itself e.id) (ap (λ (y : RdfTerm). Some y.text) (same_term-is e.term t s))
    by false s h ih = at (is_at (nat_cmp (id_of es t)) e.id) refl
      where
        at : (b : Bool) → is_at (nat_cmp (id_of es t)) e.id ≡ b → (if b then Some e.term.text else name_in (names_of es) (id_of es t)) ≡ Some t.text
        at true q =
            let k : e.id ≡ id_of es t = at_true (id_of es t) e.id q in
            let same : (e.id == id_of es t) ≡ true = grind arith in
            let differ : (e.id == id_of es t) ≡ false = not_first e es t once h in
            cc
        at false q = ih h

columns-are : (columns : ColumnsOf) (es : List Entry) (t : RdfTerm) → AreEntries es → has_term es t ≡ true → candidates_at columns es (id_of es t) ≡ candidates_of columns t.text
columns-are columns es t h there = ap (columns_by columns) (name-is es t h.own_id there)

-- ---- the law

pub finds : (columns : ColumnsOf) (es : List Entry) (s : SideContents) → AreEntries es → SideStands columns es s → (t : RdfTerm)
    → AllByRecursion (λ (r : NumberedRow). found_in (id_of es t) r.pairs (candidates_of columns t.text) ≡ find_in_row (id_of es t) r.pairs) s.rows
finds columns es s h st t = go (cases_Bool (has_term es t))
  where
    one_pair : AllByRecursion (λ (r : NumberedRow). (e : ℕ) → (if r.entity == e then total (has_pred (id_of es t)) r.pairs else 0) ≤ 1) s.rows
    one_pair = each-part (λ (e : ℕ) (r : NumberedRow). if r.entity == e then total (has_pred (id_of es t)) r.pairs else 0) (λ (e : ℕ). 1) s.rows (λ (e : ℕ). st.one_pair e (id_of es t))

    own : (r : NumberedRow) → (if r.entity == r.entity then total (has_pred (id_of es t)) r.pairs else 0) ≤ 1 → total (has_pred (id_of es t)) r.pairs ≤ 1
    own r a = let k : (r.entity == r.entity) ≡ true = grind arith in subst (λ (b : Bool). (if b then total (has_pred (id_of es t)) r.pairs else 0) ≤ 1) k a

    go : (has_term es t ≡ true) ⊎ (has_term es t ≡ false) → AllByRecursion (λ (r : NumberedRow). found_in (id_of es t) r.pairs (candidates_of columns t.text) ≡ find_in_row (id_of es t) r.pairs) s.rows
    go (inl e) =
        each-two (λ (r : NumberedRow). (e : ℕ) → (if r.entity == e then total (has_pred (id_of es t)) r.pairs else 0) ≤ 1) (λ (r : NumberedRow). RowKeeps (candidates_at columns es) r.pairs)
        (λ (r : NumberedRow). found_in (id_of es t) r.pairs (candidates_of columns t.text) ≡ find_in_row (id_of es t) r.pairs)
        (λ (r : NumberedRow) (a : (e : ℕ) → (if r.entity == e then total (has_pred (id_of es t)) r.pairs else 0) ≤ 1) (k : RowKeeps (candidates_at columns es) r.pairs).
        subst (λ (cs : List ℕ). found_in (id_of es t) r.pairs cs ≡ find_in_row (id_of es t) r.pairs) (columns-are columns es t h e) (row-found (candidates_at columns es) (id_of es t) r.pairs (own r (a r.entity)) k))
        s.rows one_pair st.in_columns
    go (inr e) =
        each-weaker (λ (r : NumberedRow). list_any (is_pred 0) r.pairs ≡ false) (λ (r : NumberedRow). found_in (id_of es t) r.pairs (candidates_of columns t.text) ≡ find_in_row (id_of es t) r.pairs)
        (λ (r : NumberedRow) (z : list_any (is_pred 0) r.pairs ≡ false).
        subst (λ (n : ℕ). found_in n r.pairs (candidates_of columns t.text) ≡ find_in_row n r.pairs) (sym (id-none es t e)) (none-found 0 r.pairs z (candidates_of columns t.text) ∙ sym (none-in_row 0 r.pairs z)))
        s.rows (nowhere columns es s st 0 (zero-none es h.least))
