-- DISTINCT before the order gives the same answer, where each key is a shown variable.
use Rattle.std.specs.Prelude.{◌≡◌, ◌⊎◌, ℕ, ◌==◌, Bool, true, List, [], ◌∷◌, ◌++◌, map, Option, drop, refl}
use Rattle.std.proofs.Common.{sym, ap, ap₂, ◌∙◌, subst, inl, inr}
use Rattle.std.proofs.lemmas.Bool.{and_parts, or_cases, eqb-true, eq-eqb, or_left, or_right}
use Rattle.std.proofs.lemmas.Simd.{map-map}
use Rattle.std.specs.List.{list_all, AllByRecursion}
use Rattle.bags.specs.BagLaws.{each-map, each-any}
use Rattle.bags.specs.Sort.{sort, same_items, firsts}
use Rattle.bags.specs.SortLaws.{each-sort}
use Rattle.bags.specs.ItemsLaws.{same_items-is, same_items-self}
use Rattle.rdf_meaning.specs.Terms.{RdfTerm}
use Rattle.query_meaning.specs.declared.modifiers.Key.{Key}
use Rattle.query_meaning.specs.declared.modifiers.Modifiers.{Modifiers}
use Rattle.query_eval_meaning.specs.Mapping.{Mapping}
use Rattle.query_eval_meaning.specs.Answer.{Row, same_place, row_of, row_order, past, up_to, sorted_rows, ordered_answer}
use Rattle.query_algebra_laws.specs.OrderedAnswer.{same_place-is, same_place-self, row_order_total, row_order_ties}
use Rattle.sql_gen_step_laws.specs.StepSelects.{has}
use Rattle.sql_gen_step_laws.specs.StepTests.{same_bools}
use Rattle.sql_gen_last_laws.specs.LastSelect.{keys_of}
use Rattle.sql_gen_last_laws.specs.DistinctSelect.{part, same_parts, distinct_parts, repeated, is_distinct_first}
use Rattle.sql_gen_last_laws.proofs.LastRows.{rising, past-row, map-each}
use Rattle.sql_gen_last_laws.proofs.Firsts.{firsts-mapped, firsts-sorted}
use Rattle.sql_gen_last_laws.proofs.DistinctRows.{part-same}

abbrev same_row : Row → Row → Bool
same_row = same_items same_place

row-is : (r s : Row) → same_row r s ≡ true → r ≡ s
row-is = same_items-is same_place same_place-is

is-row : (r s : Row) → r ≡ s → same_row r s ≡ true
is-row r s e = subst (λ (x : Row). same_row r x ≡ true) e (same_items-self same_place same_place-self r)

-- the keys' variables are shown
abbrev Shown : List ℕ → List Key → Type 0
Shown us ks = AllByRecursion (λ (k : Key). has us k.var ≡ true) ks

all-shown : (us : List ℕ) (ks : List Key) → list_all (λ (k : Key). has us k.var) ks ≡ true → Shown us ks
all-shown us [] e = tt
all-shown us (k ∷ ks) e = let h = and_parts (has us k.var) (list_all (λ (l : Key). has us l.var) ks) e in (h.0, all-shown us ks h.1)

shown-rising : (us vs : List ℕ) → ((v : ℕ) → has vs v ≡ true → has us v ≡ true) → Shown us (map rising vs)
shown-rising us [] f = tt
shown-rising us (v ∷ vs) f = (f v (or_left _ _ (eq-eqb v v refl)), shown-rising us vs (λ u e. f u (or_right _ _ e)))

shown-append : (us : List ℕ) (ks ls : List Key) → Shown us ks → Shown us ls → Shown us (ks ++ ls)
shown-append us [] ls a b = b
shown-append us (k ∷ ks) ls a b = (a.0, shown-append us ks ls a.1 b)

-- mappings that show the same terms bind each shown variable alike
alike-at : (us : List ℕ) (m n : Mapping) → map m us ≡ map n us → (v : ℕ) → has us v ≡ true → m v ≡ n v
alike-at [] m n e v h = cc
alike-at (u ∷ us) m n e v h = go (or_cases (u == v) (has us v) h) (alike-at us m n (ap rest e) v)
  where
    rest : Row → Row
    rest [] = []
    rest (x ∷ xs) = xs

    first : Row → Option RdfTerm
    first [] = m v
    first (x ∷ xs) = x

    go : ((u == v) ≡ true) ⊎ (has us v ≡ true) → (has us v ≡ true → m v ≡ n v) → m v ≡ n v
    go (inl q) r = subst (λ w. m w ≡ n w) (eqb-true u v q) (ap first e)
    go (inr q) r = r q

-- and so have one row
row-alike : (us : List ℕ) (ks : List Key) (m n : Mapping) → Shown us ks → map m us ≡ map n us → row_of ks m ≡ row_of ks n
row-alike us [] m n s e = refl
row-alike us (k ∷ ks) m n s e = ap₂ (λ (x : Option RdfTerm) (xs : Row). x ∷ xs) (alike-at us m n e k.var s.0) (row-alike us ks m n s.1 e)

shown-row : (shown : List ℕ) (m : Mapping) → row_of (map rising shown) m ≡ map m shown
shown-row [] m = refl
shown-row (v ∷ vs) m = ap (λ (xs : Row). m v ∷ xs) (shown-row vs m)

past-shown : (q : Modifiers) (m : Mapping) → past q.keys (row_of (keys_of q) m) ≡ map m q.shown
past-shown q m = past-row q.keys q.shown m ∙ shown-row q.shown m

-- ---- rows of mappings

abbrev IsRowOf : List Key → Row → Type 0
IsRowOf ks r = (m : Mapping) × (r ≡ row_of ks m)

-- sorted rows, of which the first of equal ones are kept, are the sorted rows of the different parts
sorted-firsts : (q : Modifiers) (ms : List Mapping) → Shown q.shown (keys_of q) →
    firsts same_row [] (sorted_rows q.keys q.shown ms) ≡ sorted_rows q.keys q.shown (distinct_parts q.shown ms)
sorted-firsts q ms s =
    let ks = keys_of q in
    let us = q.shown in
    let L = row_order ks in
    let R : Mapping → Row = row_of ks in
    let rows = map R ms in
    let parts = map (part us) ms in
    let same_row_of : (m : Mapping) → R (part us m) ≡ R m = λ m. row-alike us ks (part us m) m s (part-same us m) in
    let whole : (r t : Row) → IsRowOf ks r → IsRowOf ks t → same_row (past q.keys r) (past q.keys t) ≡ same_row r t = λ r t p o. same_bools _ _
    (λ e.
    let shown : map p.0 us ≡ map o.0 us = sym (ap (past q.keys) p.1 ∙ past-shown q p.0) ∙ row-is _ _ e ∙ (ap (past q.keys) o.1 ∙ past-shown q o.0) in
    is-row r t (p.1 ∙ row-alike us ks p.0 o.0 s shown ∙ sym o.1))
    (λ e. is-row _ _ (ap (past q.keys) (row-is r t e))) in
    let parted : (m n : Mapping) → same_row (R m) (R n) ≡ same_parts us m n = λ m n. same_bools _ _
    (λ e. is-row _ _ (sym (past-shown q m) ∙ ap (past q.keys) (row-is _ _ e) ∙ past-shown q n))
    (λ e. is-row _ _ (row-alike us ks m n s (row-is _ _ e))) in
    let all : AllByRecursion (IsRowOf ks) (sort L rows) = each-sort L (IsRowOf ks) rows (each-map (IsRowOf ks) R ms (each-any (λ m. IsRowOf ks (R m)) (λ m. (m, refl)) ms)) in
    firsts-mapped (IsRowOf ks) same_row same_row (past q.keys) whole [] (sort L rows) tt all
    ∙ ap (map (past q.keys)) (firsts-sorted same_row row-is L (row_order_total ks) (row_order_ties ks) rows)
    ∙ ap (λ (rs : List Row). map (past q.keys) (sort L (firsts same_row [] rs))) (sym (map-map R (part us) ms ∙ map-each (λ m. Unit {0}) (λ m. R (part us m)) R (λ m t. same_row_of m) ms (each-any (λ m. Unit {0}) (λ m. tt) ms)))
    ∙ ap (λ (rs : List Row). map (past q.keys) (sort L rs)) (firsts-mapped (λ m. Unit {0}) (same_parts us) same_row R (λ m n a b. parted m n) [] parts tt (each-any (λ m. Unit {0}) (λ m. tt) parts))

pub distinct-answer : (q : Modifiers) (ms : List Mapping) → is_distinct_first q ≡ true → ordered_answer (repeated q) (distinct_parts q.shown ms) ≡ ordered_answer q ms
distinct-answer q ms e =
    let h = and_parts q.distinct (list_all (λ (k : Key). has q.shown k.var) q.keys) e in
    let d : q.distinct ≡ true = h.0 in
    let s : Shown q.shown (keys_of q) = shown-append q.shown q.keys (map rising q.shown) (all-shown q.shown q.keys h.1) (shown-rising q.shown q.shown (λ v k. k)) in
    rw d (ap (λ (rs : List Row). up_to q.most (drop q.skip rs)) (sym (sorted-firsts q ms s)))
