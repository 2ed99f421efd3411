-- Triples that are put into a dictionary and two sides.
use Rattle.std.proofs.Common.{◌≡◌, ◌≢◌, inl, inr, ℕ, ◌+◌, ◌-◌, ◌≤◌, ◌<◌, Bool, true, false, if◌then◌else◌, List, [], ◌∷◌, map, length, Contains, refl, sym, ap, ◌∙◌, arith, subst}
use Rattle.std.specs.List.{IsDistinct}
use Rattle.std.proofs.lemmas.Map.Views.{Contains-from_any}
use Rattle.bags.specs.Bag.{total}
use Rattle.bags.specs.BagLaws.{total-one_each}
use Rattle.rdf_meaning.specs.Terms.{RdfTerm, RdfTriple, same_term}
use Rattle.rdf_meaning.specs.TermLaws.{same_term-is}
use Rattle.layout_meaning.specs.Side.{Item, items, is_held}
use Rattle.term_book.specs.Book.{HasId}
use Rattle.layout_sides.specs.Items.{item_of}
use Rattle.layout_sides.specs.declared.sides.IdTriple.{IdTriple}
use Rattle.layout_standing_meaning.specs.Dictionary.{IsTriple, id_of, has_term, entries_of}
use Rattle.layout_standing_meaning.specs.Sides.{SidesOf, both_placed, both_taken}
use Rattle.layout_standing_meaning.specs.Stored.{StoreOf, IsStore, sides_of, triple_by, stored_triples}
use Rattle.layout_standing_meaning.specs.Changes.{with_terms, item_in, store_of, is_stored, stored_in, taken_out}
use Rattle.layout_standing_meaning.proofs.Terms.{id-numbered}
use Rattle.layout_standing_meaning.proofs.Present.{stored-held, held-terms}
use Rattle.layout_standing_meaning.proofs.Changed.{held-in}
use Rattle.layout_standing_meaning.proofs.Growth.{grown-triple}
use Rattle.layout_standing_meaning.proofs.Steps.{both-held, both-free}
use Rattle.term_book.specs.declared.refusal.BookRefusal.{BookRefusal}
use Rattle.term_book.specs.declared.refusal.BookRefusal.TheVariants as book
use Rattle.primary_rows.specs.declared.side.SideRefusal.{SideRefusal}
use Rattle.primary_rows.specs.declared.side.SideRefusal.TheVariants as of
use Rattle.layout_store_laws.proofs.Same.{known-term, stored-fits}
use Rattle.rdf_layout.specs.declared.refusal.StoreRefusal.{StoreRefusal}
use Rattle.rdf_layout.specs.declared.refusal.StoreRefusal.TheVariants.{Triples, Terms, Lists, NoMemory}
use Rattle.rdf_layout.specs.Refused.{Refuses, PassesLists, of_book, of_side}
use Rattle.std.proofs.Common.{nat_le}
use Rattle.layout_ids.specs.Noted.{HaveIds, LacksTerm}

id-is : (terms : List RdfTerm) (t : RdfTerm) (n : ℕ) → IsDistinct same_term terms → HasId terms t n → n ≡ id_of (entries_of terms) t
id-is terms t n d h = (let a = h.0 in let k : 1 + (n - 1) ≡ n = omega arith in sym (id-numbered 1 (n - 1) t terms d h.1 ∙ k))

pub ids-item : (terms : List RdfTerm) (t : RdfTriple) (ids : IdTriple) → IsDistinct same_term terms → HaveIds terms t ids → item_of ids ≡ item_in terms t
ids-item terms t ids d h =
    let a = id-is terms t.s ids.subject d h.subject in
    let b = id-is terms t.p ids.predicate d h.predicate in
    let c = id-is terms t.o ids.object d h.object in
    λ i. record { entity = a i; pred = b i; value = c i }

-- a triple whose terms pass the limit isn't stored
pub passes-new : (s : StoreOf) (t : RdfTriple) → IsStore s → length s.terms ≤ 4000000 → 4000000 < length (with_terms s.terms t) → is_stored s t ≡ false
passes-new s t h few l = by (is_stored s t) refl
  where
    by : (b : Bool) → is_stored s t ≡ b → b ≡ false
    by false e = refl
    by true e = let k : length (with_terms s.terms t) ≡ length s.terms = ap (λ (w : List RdfTerm). length w) (stored-fits s t h e) in absurd (omega arith)

-- how many triples are stored
pub count-is : (s : StoreOf) → total (λ (x : Item). 1) (items s.direct.state) ≡ length (stored_triples s)
count-is s = total-one_each (items s.direct.state) ∙ by (items s.direct.state)
  where
    by : (xs : List Item) → length xs ≡ length (map (triple_by s.terms) xs)
    by [] = refl
    by (x ∷ xs) = omega (arith, by xs)

-- the item of a triple by the ids that its terms got
pub noted-item : (s : StoreOf) (t : RdfTriple) (terms : List RdfTerm) (ids : IdTriple) → IsStore s → IsTriple t → terms ≡ with_terms s.terms t → HaveIds terms t ids → item_of ids ≡ item_in (with_terms s.terms t) t
noted-item s t terms ids h form e k =
    let g = grown-triple s t h form in
    ids-item (with_terms s.terms t) t ids g.distinct (subst (λ (l : List RdfTerm). HaveIds l t ids) e k)

pub noted-held : (s : StoreOf) (t : RdfTriple) (terms : List RdfTerm) (ids : IdTriple) → IsStore s → IsTriple t → terms ≡ with_terms s.terms t → HaveIds terms t ids → is_held (item_of ids) s.direct.state ≡ is_stored s t
noted-held s t terms ids h form e k = ap (λ (x : Item). is_held x s.direct.state) (noted-item s t terms ids h form e k) ∙ held-in s t h form

-- a stored triple is put in again
pub stored-again : (s : StoreOf) (t : RdfTriple) (terms : List RdfTerm) → IsStore s → IsTriple t → terms ≡ with_terms s.terms t → is_stored s t ≡ true → store_of terms (sides_of s) ≡ stored_in s t
stored-again s t terms h form e there =
    ap (λ (l : List RdfTerm). store_of l (sides_of s)) e
    ∙ ap (λ (w : SidesOf). store_of (with_terms s.terms t) w) (sym (both-held (sides_of s) t.p.text (item_in (with_terms s.terms t) t) h.sides (held-in s t h form ∙ there)))

-- a triple is placed by its ids
pub stored-placed : (s : StoreOf) (t : RdfTriple) (terms : List RdfTerm) (ids : IdTriple) (new : SidesOf) → IsStore s → IsTriple t → terms ≡ with_terms s.terms t → HaveIds terms t ids
    → new ≡ both_placed (sides_of s) t.p.text (item_of ids) → store_of terms new ≡ stored_in s t
stored-placed s t terms ids new h form e k n =
    (λ i. store_of (e i) (n i)) ∙ ap (λ (x : Item). store_of (with_terms s.terms t) (both_placed (sides_of s) t.p.text x)) (noted-item s t terms ids h form e k)

-- the refusals
pub noted-passes : (t : RdfTriple) (terms : List RdfTerm) (refusal : BookRefusal) (full : Bool) → (refusal ≡ book.Full → 4000000 < length (with_terms terms t)) → of_book refusal full ≢ NoMemory
    → (of_book refusal full ≡ (if full then Triples else Terms)) × (4000000 < length (with_terms terms t))
noted-passes t terms book.NoMemory full passes n = absurd (n refl)
noted-passes t terms book.Full full passes n = (refl, passes refl)

book-refuses : (s : StoreOf) (t : RdfTriple) (full : Bool) (count : ℕ) → IsStore s → length s.terms ≤ 4000000 → 4000000 < length (with_terms s.terms t) → full ≡ nat_le 1000000 count → count ≡ length (stored_triples s)
    → Refuses (if full then Triples else Terms) s t
book-refuses s t true count h few l f c = (passes-new s t h few l, (let k : 1000000 ≤ count = grind arith in omega arith))
book-refuses s t false count h few l f c = (passes-new s t h few l, (let k : count < 1000000 = grind arith in omega arith), l)

pub refused-book : (s : StoreOf) (t : RdfTriple) (e : StoreRefusal) (full : Bool) (count : ℕ) → IsStore s → length s.terms ≤ 4000000 → (e ≢ NoMemory → (e ≡ (if full then Triples else Terms)) × (4000000 < length (with_terms s.terms t)))
    → full ≡ nat_le 1000000 count → count ≡ length (stored_triples s) → Refuses e s t
refused-book s t e full count h few passes f c = by e passes
  where
    on : (r : StoreRefusal) → (r ≡ (if full then Triples else Terms)) × (4000000 < length (with_terms s.terms t)) → Refuses r s t
    on r p = subst (λ (q : StoreRefusal). Refuses q s t) (sym p.0) (book-refuses s t full count h few p.1 f c)

    by : (r : StoreRefusal) → (r ≢ NoMemory → (r ≡ (if full then Triples else Terms)) × (4000000 < length (with_terms s.terms t))) → Refuses r s t
    by NoMemory p = tt
    by Triples p = on Triples (p (λ m. cc))
    by Terms p = on Terms (p (λ m. cc))
    by Lists p = on Lists (p (λ m. cc))

pub refused-side : (s : StoreOf) (t : RdfTriple) (refusal : SideRefusal) (count : ℕ) → is_stored s t ≡ false → count < 1000000 → count ≡ length (stored_triples s) → length (with_terms s.terms t) ≤ 4000000
    → (refusal ≡ of.ListsFull → PassesLists s t) → Refuses (of_side refusal) s t
refused-side s t of.NoMemory count new f c room passes = tt
refused-side s t of.ListsFull count new f c room passes = (new, omega arith, room, passes refl)

pub is-full : (s : StoreOf) (count : ℕ) → 1000000 ≤ count → count ≡ length (stored_triples s) → 1000000 ≤ length (stored_triples s)
is-full s count f c = omega arith

pub isnt-full : (s : StoreOf) (count : ℕ) → count < 1000000 → count ≡ length (stored_triples s) → length (stored_triples s) < 1000000
isnt-full s count f c = omega arith

-- both sides after a triple was placed by its ids, under the text of its predicate
pub placed-same : (s : StoreOf) (t : RdfTriple) (terms : List RdfTerm) (ids : IdTriple) (text : List ℕ) → IsStore s → IsTriple t → terms ≡ with_terms s.terms t → HaveIds terms t ids → text ≡ t.p.text
    → both_placed (sides_of s) text (item_of ids) ≡ both_placed (sides_of s) t.p.text (item_in (with_terms s.terms t) t)
placed-same s t terms ids text h form e k w = ap (λ (l : List ℕ). both_placed (sides_of s) l (item_of ids)) w ∙ ap (λ (x : Item). both_placed (sides_of s) t.p.text x) (noted-item s t terms ids h form e k)

-- a triple that lacks an id isn't stored
contained : (terms : List RdfTerm) (t : RdfTerm) → has_term (entries_of terms) t ≡ true → Contains terms t
contained terms t h = Contains-from_any same_term-is t terms (known-term 1 terms t h)

pub lacks-new : (s : StoreOf) (t : RdfTriple) → IsStore s → LacksTerm s.terms t → is_stored s t ≡ false
lacks-new s t h lacks = by (is_stored s t) refl lacks
  where
    by : (b : Bool) → is_stored s t ≡ b → LacksTerm s.terms t → b ≡ false
    by false e l = refl
    by true e (inl n) = absurd (n (contained s.terms t.s (held-terms s t h (sym (stored-held s t h) ∙ e)).subject))
    by true e (inr (inl n)) = absurd (n (contained s.terms t.p (held-terms s t h (sym (stored-held s t h) ∙ e)).predicate))
    by true e (inr (inr n)) = absurd (n (contained s.terms t.o (held-terms s t h (sym (stored-held s t h) ∙ e)).object))

pub taken-none : (s : StoreOf) (t : RdfTriple) → IsStore s → is_stored s t ≡ false → store_of s.terms (sides_of s) ≡ taken_out s t
taken-none s t h new = ap (λ (w : SidesOf). store_of s.terms w) (sym (both-free (sides_of s) (item_in s.terms t) h.sides (sym (stored-held s t h) ∙ new)))

pub taken-found : (s : StoreOf) (t : RdfTriple) (ids : IdTriple) (new : SidesOf) → IsStore s → HaveIds s.terms t ids → new ≡ both_taken (sides_of s) (item_of ids) → store_of s.terms new ≡ taken_out s t
taken-found s t ids new h k e = ap (λ (w : SidesOf). store_of s.terms w) e ∙ ap (λ (x : Item). store_of s.terms (both_taken (sides_of s) x)) (ids-item s.terms t ids h.distinct k)

pub found-held : (s : StoreOf) (t : RdfTriple) (ids : IdTriple) → IsStore s → HaveIds s.terms t ids → is_held (item_of ids) s.direct.state ≡ is_stored s t
found-held s t ids h k = ap (λ (x : Item). is_held x s.direct.state) (ids-item s.terms t ids h.distinct k) ∙ sym (stored-held s t h)
