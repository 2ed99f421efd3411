-- What a dictionary tells of a term, and what a store tells of its tables.
use Rattle.std.proofs.Common.{◌≡◌, ◌&&◌, ◌||◌, ◌<◌, ◌+◌, ◌-◌, ℕ, Bool, true, false, if◌then◌else◌, cond, List, [], ◌∷◌, ◌++◌, Option, Some, None, fold, map, take, get_or, length, Contains, refl, sym, ap, ◌∙◌, subst, arith}
use Rattle.std.specs.Prelude.{unwrap_or}
use Rattle.std.specs.List.{filter, IsDistinct}
use Rattle.std.proofs.lemmas.List.{take_more, map_push}
use Rattle.std.proofs.lemmas.List.Sums.{fold-append}
use Rattle.std.proofs.lemmas.Map.Views.{Contains-from_any}
use Rattle.std.proofs.lemmas.Option.{slice_get_within}
use Rattle.bags.specs.BagLaws.{same-refl}
use Rattle.rdf_meaning.specs.Terms.{RdfTerm, iri, same_term}
use Rattle.rdf_meaning.specs.TermLaws.{same_term-is}
use Rattle.layout_meaning.specs.Side.{SideState}
use Rattle.layout_meaning.specs.Rows.{is_spilled, numbered_rows}
use Rattle.layout_meaning.specs.Facts.{IdOf}
use Rattle.term_book.specs.Book.{HasId}
use Rattle.layout_standing_meaning.specs.Dictionary.{Entry, id_of, has_term, numbered_from, entries_of}
use Rattle.layout_standing_meaning.specs.Contents.{side_contents, contents_of, rows_said}
use Rattle.layout_standing_meaning.specs.Standing.{AreTables, is_spilled_in}
use Rattle.layout_standing_meaning.specs.Stored.{StoreOf, IsStore, term_at, layout_of, tables_of, stored_triples}
use Rattle.layout_standing_meaning.specs.Changes.{with_term}
use Rattle.layout_standing_meaning.proofs.Terms.{id-numbered, term_at-has}
use Rattle.layout_store_laws.proofs.Same.{known-term}
use Rattle.layout_stats_laws.proofs.Counts.{spilled-same}
use Rattle.layout_stats_laws.proofs.Says.{says}
use Rattle.layout_facts_meaning.specs.Facts.{is_spilled_term, id_told, ids_told, terms_named, facts_told, AreFacts, AreIds, HaveFacts, store_facts, store_ids}

pub id-is : (terms : List RdfTerm) (t : RdfTerm) (n : ℕ) → IsDistinct same_term terms → HasId terms t n → n ≡ id_of (entries_of terms) t
id-is terms t n d h = (let a = h.0 in let k : 1 + (n - 1) ≡ n = omega arith in sym (id-numbered 1 (n - 1) t terms d h.1 ∙ k))

has-it : (terms : List RdfTerm) (t : RdfTerm) (n : ℕ) → HasId terms t n → has_term (entries_of terms) t ≡ true
has-it terms t n h =
    let within : n - 1 < length terms = slice_get_within terms (n - 1) t h.1 in
    let a = h.0 in
    let e : term_at terms n ≡ t = ap (λ (o : Option RdfTerm). unwrap_or o (iri [])) h.1 in
    subst (λ (u : RdfTerm). has_term (entries_of terms) u ≡ true) e (term_at-has terms n (a, omega arith))

lacks-it : (terms : List RdfTerm) (t : RdfTerm) → (¬ Contains terms t) → has_term (entries_of terms) t ≡ false
lacks-it terms t n = by (has_term (entries_of terms) t) refl
  where
    by : (b : Bool) → has_term (entries_of terms) t ≡ b → b ≡ false
    by true e = absurd (n (Contains-from_any same_term-is t terms (known-term 1 terms t e)))
    by false e = refl

-- a term that isn't there has the id 0
none-id : (n : ℕ) (terms : List RdfTerm) (t : RdfTerm) → has_term (numbered_from n terms) t ≡ false → id_of (numbered_from n terms) t ≡ 0
none-id n [] t h = refl
none-id n (x ∷ xs) t h = by (same_term x t) h (none-id (n + 1) xs t)
  where
    by : (b : Bool) → (b || has_term (numbered_from (n + 1) xs) t) ≡ false → (has_term (numbered_from (n + 1) xs) t ≡ false → id_of (numbered_from (n + 1) xs) t ≡ 0) → (if b then n else id_of (numbered_from (n + 1) xs) t) ≡ 0
    by true k ih = cc
    by false k ih = ih k

pub id-none : (terms : List RdfTerm) (t : RdfTerm) → (¬ Contains terms t) → 0 ≡ id_of (entries_of terms) t
id-none terms t n = sym (none-id 1 terms t (lacks-it terms t n))

spilled-some : (terms : List RdfTerm) (t : RdfTerm) (n : ℕ) (s : SideState) → IsDistinct same_term terms → HasId terms t n → is_spilled n s.entities ≡ is_spilled_term (entries_of terms) (side_contents s) t
spilled-some terms t n s d h =
    spilled-same n s.entities ∙ ap (λ (m : ℕ). is_spilled_in m (numbered_rows s.entities)) (id-is terms t n d h)
    ∙ ap (λ (b : Bool). b && is_spilled_in (id_of (entries_of terms) t) (numbered_rows s.entities)) (sym (has-it terms t n h))

spilled-none : (terms : List RdfTerm) (t : RdfTerm) (s : SideState) → (¬ Contains terms t) → false ≡ is_spilled_term (entries_of terms) (side_contents s) t
spilled-none terms t s n = ap (λ (b : Bool). b && is_spilled_in (id_of (entries_of terms) t) (numbered_rows s.entities)) (sym (lacks-it terms t n))

-- the id that is told where a predicate is spilled
pub spilled-id : (terms : List RdfTerm) (t : RdfTerm) (n m : ℕ) (s : SideState) (b : Bool) → IsDistinct same_term terms → HasId terms t n → m ≡ n → b ≡ is_spilled m s.entities
    → ◌≡◌ {A = Option ℕ} (if b then Some m else None) (if is_spilled_term (entries_of terms) (side_contents s) t then Some (id_of (entries_of terms) t) else None)
spilled-id terms t n m s b d h e f =
    let k : b ≡ is_spilled_term (entries_of terms) (side_contents s) t = f ∙ ap (λ (x : ℕ). is_spilled x s.entities) e ∙ spilled-some terms t n s d h in
    let l : m ≡ id_of (entries_of terms) t = e ∙ id-is terms t n d h in
    λ i. if k i then Some (l i) else None

pub spilled-no_id : (terms : List RdfTerm) (t : RdfTerm) (s : SideState) → (¬ Contains terms t) → ◌≡◌ {A = Option ℕ} None (if is_spilled_term (entries_of terms) (side_contents s) t then Some (id_of (entries_of terms) t) else None)
spilled-no_id terms t s n = ap (λ (b : Bool). if b then Some (id_of (entries_of terms) t) else None) (spilled-none terms t s n)

-- one predicate more
filter-push : (p : RdfTerm → Bool) (xs : List RdfTerm) (x : RdfTerm) → filter p (xs ++ x ∷ []) ≡ (if p x then filter p xs ++ x ∷ [] else filter p xs)
filter-push p [] x = refl
filter-push p (y ∷ ys) x = by (p y) (p x) (filter-push p ys x)
  where
    by : (b c : Bool) → filter p (ys ++ x ∷ []) ≡ (if c then filter p ys ++ x ∷ [] else filter p ys)
        → cond b (y ∷ filter p (ys ++ x ∷ [])) (filter p (ys ++ x ∷ [])) ≡ (if c then cond b (y ∷ filter p ys) (filter p ys) ++ x ∷ [] else cond b (y ∷ filter p ys) (filter p ys))
    by true true ih = ap (λ (l : List RdfTerm). y ∷ l) ih
    by true false ih = ap (λ (l : List RdfTerm). y ∷ l) ih
    by false true ih = ih
    by false false ih = ih

pub kept-more : (p : RdfTerm → Bool) (xs : List RdfTerm) (i : ℕ) (d : RdfTerm) (kept new : List RdfTerm) → i < length xs → kept ≡ fold with_term [] (filter p (take i xs)) → new ≡ (if p (get_or xs i d) then with_term kept (get_or xs i d) else kept)
    → new ≡ fold with_term [] (filter p (take (i + 1) xs))
kept-more p xs i d kept new l h n =
    n ∙ by (p (get_or xs i d)) refl ∙ ap (fold with_term []) (sym (filter-push p (take i xs) (get_or xs i d)) ∙ ap (filter p) (sym (take_more xs i d l)))
  where
    by : (b : Bool) → p (get_or xs i d) ≡ b → (if b then with_term kept (get_or xs i d) else kept) ≡ fold with_term [] (if b then filter p (take i xs) ++ get_or xs i d ∷ [] else filter p (take i xs))
    by true e = ap (λ (k : List RdfTerm). with_term k (get_or xs i d)) h ∙ sym (fold-append with_term [] (filter p (take i xs)) (get_or xs i d ∷ []))
    by false e = h

pub told-more : (es : List Entry) (xs : List RdfTerm) (i : ℕ) (d : RdfTerm) (kept : List IdOf) (x : IdOf) → i < length xs → kept ≡ ids_told es (take i xs) → x ≡ id_told es (get_or xs i d) → kept ++ x ∷ [] ≡ ids_told es (take (i + 1) xs)
told-more es xs i d kept x l h e =
    (λ j. h j ++ e j ∷ []) ∙ sym (map_push (id_told es) (take i xs) (get_or xs i d)) ∙ ap (map (id_told es)) (sym (take_more xs i d l))

-- ---- stores

tables : (s : StoreOf) → AreTables (layout_of s) (contents_of s.direct.state s.reverse.state s.terms) (tables_of s)
tables s = record {
  rows = rows_said (contents_of s.direct.state s.reverse.state s.terms);
  five = refl;
  direct = same-refl _;
  direct_lists = same-refl _;
  reverse = same-refl _;
  reverse_lists = same-refl _;
  terms = same-refl _;
}

pub facts-told : (s : StoreOf) (preds : List RdfTerm) → IsStore s → AreFacts (layout_of s) (tables_of s) (stored_triples s) preds (store_facts s preds)
facts-told s preds h = record { contents = contents_of s.direct.state s.reverse.state s.terms; exact_tables = tables s; same_triples = says s h; told = refl }

pub ids-told : (s : StoreOf) (terms : List RdfTerm) → IsStore s → AreIds (layout_of s) (tables_of s) (stored_triples s) terms (store_ids s terms)
ids-told s terms h = record { contents = contents_of s.direct.state s.reverse.state s.terms; exact_tables = tables s; same_triples = says s h; told = refl }

named : (es : List Entry) (terms : List RdfTerm) → terms_named (ids_told es terms) ≡ terms
named es [] = refl
named es (t ∷ terms) = ap (λ (l : List RdfTerm). t ∷ l) (named es terms)

pub both-told : (s : StoreOf) (terms : List RdfTerm) → IsStore s → HaveFacts (layout_of s) (tables_of s) (stored_triples s) (store_ids s terms) (store_facts s terms)
both-told s terms h = record {
  contents = contents_of s.direct.state s.reverse.state s.terms;
  exact_tables = tables s;
  same_triples = says s h;
  same_ids = ap (ids_told (entries_of s.terms)) (sym (named (entries_of s.terms) terms));
  same_facts = ap (facts_told (layout_of s) (contents_of s.direct.state s.reverse.state s.terms)) (sym (named (entries_of s.terms) terms));
}
