-- Predicates that are listed as spilled are those that are spilled in the rows.
use Rattle.std.proofs.Common.{◌≡◌, ◌||◌, ◌&&◌, ℕ, ◌==◌, not, Bool, true, false, cond, if◌then◌else◌, List, [], ◌∷◌, ◌++◌, fold, Some, None, refl, sym, ap, ◌∙◌, arith, subst}
use Rattle.std.specs.List.{filter, list_any, AllByRecursion}
use Rattle.std.proofs.lemmas.List.Folds.{list_any-append}
use Rattle.bags.specs.BagLaws.{each-weaker}
use Rattle.rdf_meaning.specs.Terms.{RdfTerm, RdfTriple, same_term}
use Rattle.rdf_meaning.specs.TermLaws.{same_term-is, same_term-self}
use Rattle.table_meaning.specs.Tables.{NamedTable}
use Rattle.layout_meaning.specs.Facts.{FactsOf, IdOf}
use Rattle.layout_meaning.specs.Columns.{ColumnsOf}
use Rattle.layout_meaning.specs.Side.{Row, is_pred}
use Rattle.layout_meaning.specs.Rows.{NumberedRow}
use Rattle.layout_standing_meaning.specs.Dictionary.{Entry, AreEntries, id_of, has_term, is_id}
use Rattle.layout_standing_meaning.specs.Schemas.{LayoutOf}
use Rattle.layout_standing_meaning.specs.Contents.{SideContents}
use Rattle.layout_standing_meaning.specs.Standing.{SideStands, IsPair, is_spilled_in}
use Rattle.layout_standing_meaning.specs.Changes.{with_term}
use Rattle.layout_facts_meaning.specs.Facts.{HaveFacts, is_spilled_term, spilled_among, ids_told, terms_named}
use Rattle.layout_facts_laws.proofs.Ids.{id-none, zero-none}

-- ---- what has no id stands nowhere

no_pred : (es : List Entry) (n : ℕ) → is_id es n ≡ false → (r : Row) → AllByRecursion (IsPair es) r → list_any (is_pred n) r ≡ false
no_pred es n z [] all = refl
no_pred es n z (None ∷ r) all = no_pred es n z r all.1
no_pred es n z (Some q ∷ r) all = by (q.pred == n) refl (no_pred es n z r all.1)
  where
    by : (b : Bool) → (q.pred == n) ≡ b → list_any (is_pred n) r ≡ false → (b || list_any (is_pred n) r) ≡ false
    by true t ih = let k : q.pred ≡ n = grind arith in let m : is_id es n ≡ true = subst (λ (x : ℕ). is_id es x ≡ true) k all.0.0 in cc
    by false t ih = ih

pub nowhere : (columns : ColumnsOf) (es : List Entry) (s : SideContents) → SideStands columns es s → (n : ℕ) → is_id es n ≡ false → AllByRecursion (λ (r : NumberedRow). list_any (is_pred n) r.pairs ≡ false) s.rows
nowhere columns es s st n z =
    each-weaker (λ (r : NumberedRow). AllByRecursion (IsPair es) r.pairs) (λ (r : NumberedRow). list_any (is_pred n) r.pairs ≡ false) (λ (r : NumberedRow) (a : AllByRecursion (IsPair es) r.pairs). no_pred es n z r.pairs a) s.rows st.pairs

pub plain_none : (columns : ColumnsOf) (es : List Entry) (s : SideContents) → SideStands columns es s → (n : ℕ) → is_id es n ≡ false → is_spilled_in n s.rows ≡ false
plain_none columns es s st n z = all s.rows (nowhere columns es s st n z)
  where
    never : (b : Bool) → (b && false) ≡ false
    never true = refl
    never false = refl

    all : (rows : List NumberedRow) → AllByRecursion (λ (r : NumberedRow). list_any (is_pred n) r.pairs ≡ false) rows → is_spilled_in n rows ≡ false
    all [] a = refl
    all (r ∷ rows) a = let k : (not (r.spill == 0) && list_any (is_pred n) r.pairs) ≡ false = ap (λ (b : Bool). not (r.spill == 0) && b) a.0 ∙ never (not (r.spill == 0)) in rw k (all rows a.1)

-- a term is spilled where its id is
pub by_id : (columns : ColumnsOf) (es : List Entry) (s : SideContents) → AreEntries es → SideStands columns es s → (t : RdfTerm) → is_spilled_term es s t ≡ is_spilled_in (id_of es t) s.rows
by_id columns es s h st t = by (has_term es t) refl
  where
    by : (b : Bool) → has_term es t ≡ b → (b && is_spilled_in (id_of es t) s.rows) ≡ is_spilled_in (id_of es t) s.rows
    by true e = refl
    by false e = sym (ap (λ (n : ℕ). is_spilled_in n s.rows) (id-none es t e) ∙ plain_none columns es s st 0 (zero-none es h.least))

-- ---- the list

or_false : (b : Bool) → (b || false) ≡ b
or_false true = refl
or_false false = refl

or_assoc : (a b c : Bool) → ((a || b) || c) ≡ (a || (b || c))
or_assoc true b c = refl
or_assoc false b c = refl

-- a term put last unless it is there
any-with : (t x : RdfTerm) (ts : List RdfTerm) → list_any (same_term t) (with_term ts x) ≡ (list_any (same_term t) ts || same_term t x)
any-with t x ts = by (list_any (same_term x) ts) refl
  where
    there : (b : Bool) → same_term t x ≡ b → list_any (same_term x) ts ≡ true → list_any (same_term t) ts ≡ (list_any (same_term t) ts || b)
    there true e h = let k : list_any (same_term t) ts ≡ true = subst (λ (y : RdfTerm). list_any (same_term y) ts ≡ true) (sym (same_term-is t x e)) h in rw k refl
    there false e h = sym (or_false (list_any (same_term t) ts))

    by : (b : Bool) → list_any (same_term x) ts ≡ b → list_any (same_term t) (if b then ts else ts ++ x ∷ []) ≡ (list_any (same_term t) ts || same_term t x)
    by true h = there (same_term t x) refl h
    by false h = list_any-append (same_term t) ts (x ∷ []) ∙ ap (λ (b : Bool). list_any (same_term t) ts || b) (or_false (same_term t x))

any-fold : (t : RdfTerm) (xs ts : List RdfTerm) → list_any (same_term t) (fold with_term ts xs) ≡ (list_any (same_term t) ts || list_any (same_term t) xs)
any-fold t [] ts = sym (or_false (list_any (same_term t) ts))
any-fold t (x ∷ xs) ts =
    any-fold t xs (with_term ts x)
    ∙ ap (λ (b : Bool). b || list_any (same_term t) xs) (any-with t x ts)
    ∙ or_assoc (list_any (same_term t) ts) (same_term t x) (list_any (same_term t) xs)

any-filter : (p : RdfTerm → Bool) (t : RdfTerm) (xs : List RdfTerm) → list_any (same_term t) (filter p xs) ≡ (p t && list_any (same_term t) xs)
any-filter p t [] = by (p t)
  where
    by : (b : Bool) → false ≡ (b && false)
    by true = refl
    by false = refl
any-filter p t (x ∷ xs) = by (p x) refl (same_term t x) refl (any-filter p t xs)
  where
    by : (a : Bool) → p x ≡ a → (b : Bool) → same_term t x ≡ b → list_any (same_term t) (filter p xs) ≡ (p t && list_any (same_term t) xs)
        → list_any (same_term t) (cond a (x ∷ filter p xs) (filter p xs)) ≡ (p t && (b || list_any (same_term t) xs))
    by true e true s ih = let k : p t ≡ true = subst (λ (y : RdfTerm). p y ≡ true) (sym (same_term-is t x s)) e in rw (s, k) refl
    by true e false s ih = rw s ih
    by false e true s ih =
        let k : p t ≡ false = subst (λ (y : RdfTerm). p y ≡ false) (sym (same_term-is t x s)) e in
        ih ∙ ap (λ (b : Bool). b && list_any (same_term t) xs) k ∙ sym (ap (λ (b : Bool). b && true) k)
    by false e false s ih = ih

listed : (es : List Entry) (s : SideContents) (t : RdfTerm) (preds : List RdfTerm) → list_any (same_term t) (spilled_among es s preds) ≡ (is_spilled_term es s t && list_any (same_term t) preds)
listed es s t preds = any-fold t (filter (is_spilled_term es s) preds) [] ∙ any-filter (is_spilled_term es s) t preds

-- each named term is listed where its id is spilled
each-listed : (columns : ColumnsOf) (es : List Entry) (s : SideContents) → AreEntries es → SideStands columns es s → (preds ts : List RdfTerm) → AllByRecursion (λ (t : RdfTerm). list_any (same_term t) preds ≡ true) ts
    → AllByRecursion (λ (i : IdOf). list_any (same_term i.term) (spilled_among es s preds) ≡ is_spilled_in i.id s.rows) (ids_told es ts)
each-listed columns es s h st preds [] a = tt
each-listed columns es s h st preds (t ∷ ts) a = (
  listed es s t preds ∙ ap (λ (b : Bool). is_spilled_term es s t && b) a.0 ∙ and_true (is_spilled_term es s t) ∙ by_id columns es s h st t,
  each-listed columns es s h st preds ts a.1,
)
  where
    and_true : (b : Bool) → (b && true) ≡ b
    and_true true = refl
    and_true false = refl

each-among : (xs ys : List RdfTerm) → ((t : RdfTerm) → list_any (same_term t) ys ≡ true → list_any (same_term t) xs ≡ true) → AllByRecursion (λ (t : RdfTerm). list_any (same_term t) xs ≡ true) ys
each-among xs [] h = tt
each-among xs (y ∷ ys) h = (h y (ap (λ (b : Bool). b || list_any (same_term y) ys) (same_term-self y)), each-among xs ys (λ (t : RdfTerm) (k : list_any (same_term t) ys ≡ true). h t (later (same_term t y) (list_any (same_term t) ys) k)))
  where
    later : (a b : Bool) → b ≡ true → (a || b) ≡ true
    later true b k = refl
    later false b k = k

all-listed : (columns : ColumnsOf) (es : List Entry) (s : SideContents) → AreEntries es → SideStands columns es s → (ids : List IdOf) → ids ≡ ids_told es (terms_named ids) → (spilled : List RdfTerm) → spilled ≡ spilled_among es s (terms_named ids)
    → AllByRecursion (λ (i : IdOf). list_any (same_term i.term) spilled ≡ is_spilled_in i.id s.rows) ids
all-listed columns es s h st ids e spilled q =
    subst (λ (l : List RdfTerm). AllByRecursion (λ (i : IdOf). list_any (same_term i.term) l ≡ is_spilled_in i.id s.rows) ids) (sym q)
    (subst (λ (l : List IdOf). AllByRecursion (λ (i : IdOf). list_any (same_term i.term) (spilled_among es s (terms_named ids)) ≡ is_spilled_in i.id s.rows) l) (sym e)
    (each-listed columns es s h st (terms_named ids) (terms_named ids) (each-among (terms_named ids) (terms_named ids) (λ (t : RdfTerm) (k : list_any (same_term t) (terms_named ids) ≡ true). k))))

pub direct_listed : (layout : LayoutOf) (tables : List NamedTable) (g : List RdfTriple) (ids : List IdOf) (facts : FactsOf) (h : HaveFacts layout tables g ids facts)
    → AllByRecursion (λ (i : IdOf). list_any (same_term i.term) facts.spilled.direct ≡ is_spilled_in i.id h.contents.direct.rows) ids
direct_listed layout tables g ids facts h =
    all-listed layout.direct h.contents.terms h.contents.direct h.same_triples.own_terms h.same_triples.direct_side ids h.same_ids facts.spilled.direct (ap (λ (f : FactsOf). f.spilled.direct) h.same_facts)

pub reverse_listed : (layout : LayoutOf) (tables : List NamedTable) (g : List RdfTriple) (ids : List IdOf) (facts : FactsOf) (h : HaveFacts layout tables g ids facts)
    → AllByRecursion (λ (i : IdOf). list_any (same_term i.term) facts.spilled.reverse ≡ is_spilled_in i.id h.contents.reverse.rows) ids
reverse_listed layout tables g ids facts h =
    all-listed layout.reverse h.contents.terms h.contents.reverse h.same_triples.own_terms h.same_triples.reverse_side ids h.same_ids facts.spilled.reverse (ap (λ (f : FactsOf). f.spilled.reverse) h.same_facts)
