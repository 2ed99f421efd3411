-- Triples of numbers and what they stand for: equal numbers and equal terms tell the same.
use Rattle.std.proofs.Common.{◌≡◌, ◌⊎◌, Bool, true, false, ◌&&◌, ℕ, ◌-◌, ◌<◌, ◌≤◌, length, length-append, arith, List, [], ◌∷◌, ◌++◌, get_or, slice_get, Some, refl, sym, ap, ◌∙◌, inl, inr, subst}
use Rattle.std.specs.Prelude.{Contains, Option, unwrap_or, nat_eq}
use Rattle.std.specs.List.{list_any, IsDistinct, AllByRecursion}
use Rattle.std.specs.Bool.{Decides, one_answer}
use Rattle.std.specs.Cmp.{first_so, second_so}
use Rattle.std.proofs.lemmas.Bool.{cases_Bool, cases_order, eqb-true, eq-eqb, true≢false}
use Rattle.std.proofs.lemmas.List.{get_or_append_left}
use Rattle.std.proofs.lemmas.Option.{slice_get_within, slice_get-get_or, get_or_from_slice_get, unwrap_or-slice_get}
use Rattle.std.proofs.lemmas.Map.Keys.{apart_from_distinct}
use Rattle.bags.specs.BagLaws.{each-map, each-weaker}
use Rattle.rdf_meaning.specs.Terms.{RdfTerm, RdfTriple, iri, same_term, same_triple}
use Rattle.rdf_meaning.specs.TermLaws.{same_term-self, same_triple-is, same_triple-self}
use Rattle.term_book.specs.Book.{HasId}
use Rattle.rdf_triples.specs.declared.ids.IdTriple.{IdTriple}
use Rattle.rdf_triples.specs.Held.{term_of, triple_of, triples_of, HasIds, LacksTerm, IsIdBelow, AreIds, Grows}
use Rattle.rdf_triples.proofs.Bags.{none_among}

-- the test of triples of numbers
abbrev pub same_ids : IdTriple → IdTriple → Bool
same_ids a b = nat_eq a.subject b.subject && (nat_eq a.predicate b.predicate && nat_eq a.object b.object)

pub same_ids-is : (a b : IdTriple) → same_ids a b ≡ true → a ≡ b
same_ids-is a b h =
    let s : a.subject ≡ b.subject = eqb-true a.subject b.subject (first_so _ _ h) in
    let p : a.predicate ≡ b.predicate = eqb-true a.predicate b.predicate (first_so _ _ (second_so _ _ h)) in
    let o : a.object ≡ b.object = eqb-true a.object b.object (second_so _ _ (second_so _ _ h)) in
    λ i. record { subject = s i; predicate = p i; object = o i }

pub same_ids-self : (a : IdTriple) → same_ids a a ≡ true
same_ids-self a = rw (eq-eqb a.subject a.subject refl, eq-eqb a.predicate a.predicate refl, eq-eqb a.object a.object refl) refl

-- ---- one term

term_is : (terms : List RdfTerm) (t : RdfTerm) (id : ℕ) → HasId terms t id → term_of terms id ≡ t
term_is terms t id h = ap (λ (o : Option RdfTerm). unwrap_or o (iri [])) h.1

term_at : (terms : List RdfTerm) (id : ℕ) → IsIdBelow (length terms) id → HasId terms (term_of terms id) id
term_at terms id h =
    let within : id - 1 < length terms = omega (arith, h.0, h.1) in
    (h.0, slice_get-get_or terms (id - 1) (iri []) within ∙ ap Some (sym (unwrap_or-slice_get terms (id - 1) (iri []))))

id_below : (terms : List RdfTerm) (t : RdfTerm) (id : ℕ) → HasId terms t id → IsIdBelow (length terms) id
id_below terms t id h = let within : id - 1 < length terms = slice_get_within terms (id - 1) t h.1 in (h.0, omega (arith, h.0, within))

among : (terms : List RdfTerm) (t : RdfTerm) (id : ℕ) → HasId terms t id → Contains terms t
among terms t id h = (id - 1, slice_get_within terms (id - 1) t h.1, get_or_from_slice_get terms (id - 1) t t h.1)

-- two places of one term
not_apart : (terms : List RdfTerm) (t : RdfTerm) (m n : ℕ) → IsDistinct same_term terms → slice_get terms m ≡ Some t → slice_get terms n ≡ Some t → ¬ (m < n)
not_apart terms t m n d h k less =
    let first : get_or terms m t ≡ t = get_or_from_slice_get terms m t t h in
    let second : get_or terms n t ≡ t = get_or_from_slice_get terms n t t k in
    let apart : same_term (get_or terms m t) (get_or terms n t) ≡ false = apart_from_distinct same_term terms m n t d less (slice_get_within terms n t k) in
    let no : same_term t t ≡ false = rw (first, second) at apart in
    true≢false (sym (same_term-self t) ∙ no)

one_id : (terms : List RdfTerm) (t : RdfTerm) (i j : ℕ) → IsDistinct same_term terms → HasId terms t i → HasId terms t j → i ≡ j
one_id terms t i j d h k = go (cases_order (i - 1) (j - 1))
  where
    go : (i - 1 ≡ j - 1) ⊎ ((i - 1 < j - 1) ⊎ (j - 1 < i - 1)) → i ≡ j
    go (inl e) = omega (arith, h.0, k.0, e)
    go (inr (inl l)) = absurd (not_apart terms t (i - 1) (j - 1) d h.1 k.1 l)
    go (inr (inr l)) = absurd (not_apart terms t (j - 1) (i - 1) d k.1 h.1 l)

-- ---- one triple

pub triple_is : (terms : List RdfTerm) (t : RdfTriple) (ids : IdTriple) → HasIds terms t ids → triple_of terms ids ≡ t
triple_is terms t ids h =
    let s : term_of terms ids.subject ≡ t.s = term_is terms t.s ids.subject h.subject in
    let p : term_of terms ids.predicate ≡ t.p = term_is terms t.p ids.predicate h.predicate in
    let o : term_of terms ids.object ≡ t.o = term_is terms t.o ids.object h.object in
    λ i. record { s = s i; p = p i; o = o i }

triple_at : (terms : List RdfTerm) (ids : IdTriple) → AreIds (length terms) ids → HasIds terms (triple_of terms ids) ids
triple_at terms ids h = record { subject = term_at terms ids.subject h.subject; predicate = term_at terms ids.predicate h.predicate; object = term_at terms ids.object h.object }

pub ids_below : (terms : List RdfTerm) (t : RdfTriple) (ids : IdTriple) → HasIds terms t ids → AreIds (length terms) ids
ids_below terms t ids h = record {
  subject = id_below terms t.s ids.subject h.subject;
  predicate = id_below terms t.p ids.predicate h.predicate;
  object = id_below terms t.o ids.object h.object;
}

one_triple : (terms : List RdfTerm) (t : RdfTriple) (a b : IdTriple) → IsDistinct same_term terms → HasIds terms t a → HasIds terms t b → a ≡ b
one_triple terms t a b d h k =
    let s : a.subject ≡ b.subject = one_id terms t.s a.subject b.subject d h.subject k.subject in
    let p : a.predicate ≡ b.predicate = one_id terms t.p a.predicate b.predicate d h.predicate k.predicate in
    let o : a.object ≡ b.object = one_id terms t.o a.object b.object d h.object k.object in
    λ i. record { subject = s i; predicate = p i; object = o i }

-- the test of numbers and the test of triples tell the same
pub alike : (terms : List RdfTerm) → IsDistinct same_term terms → (t : RdfTriple) (ids : IdTriple) → HasIds terms t ids → (k : IdTriple) → AreIds (length terms) k → same_ids ids k ≡ same_triple t (triple_of terms k)
alike terms d t ids h k below = one_answer (same_ids ids k) (same_triple t (triple_of terms k)) by_numbers by_terms
  where
    by_numbers : Decides (same_ids ids k) (ids ≡ k)
    by_numbers = (same_ids-is ids k, λ e. subst (λ (x : IdTriple). same_ids ids x ≡ true) e (same_ids-self ids))

    from : same_triple t (triple_of terms k) ≡ true → ids ≡ k
    from e = one_triple terms t ids k d h (subst (λ (u : RdfTriple). HasIds terms u k) (sym (same_triple-is t (triple_of terms k) e)) (triple_at terms k below))

    to : ids ≡ k → same_triple t (triple_of terms k) ≡ true
    to e = subst (λ (u : RdfTriple). same_triple t u ≡ true) (sym (triple_is terms t ids h) ∙ ap (triple_of terms) e) (same_triple-self t)

    by_terms : Decides (same_triple t (triple_of terms k)) (ids ≡ k)
    by_terms = (from, to)

-- a triple of which a term isn't held is none of these
pub lacking : (terms : List RdfTerm) (t : RdfTriple) → LacksTerm terms t → (present : List IdTriple) → AllByRecursion (AreIds (length terms)) present → list_any (same_triple t) (triples_of terms present) ≡ false
lacking terms t lacks present all =
    none_among (same_triple t) (triples_of terms present) (each-map (λ u. same_triple t u ≡ false) (triple_of terms) present (each-weaker (AreIds (length terms)) (λ k. same_triple t (triple_of terms k) ≡ false) other present all))
  where
    never : LacksTerm terms t → (k : IdTriple) → HasIds terms t k → ⊥
    never (inl n) k h = n (among terms t.s k.subject h.subject)
    never (inr (inl n)) k h = n (among terms t.p k.predicate h.predicate)
    never (inr (inr n)) k h = n (among terms t.o k.object h.object)

    other : (k : IdTriple) → AreIds (length terms) k → same_triple t (triple_of terms k) ≡ false
    other k below = go (cases_Bool (same_triple t (triple_of terms k)))
      where
        go : (same_triple t (triple_of terms k) ≡ true) ⊎ (same_triple t (triple_of terms k) ≡ false) → same_triple t (triple_of terms k) ≡ false
        go (inl e) = absurd (never lacks k (subst (λ (u : RdfTriple). HasIds terms u k) (sym (same_triple-is t (triple_of terms k) e)) (triple_at terms k below)))
        go (inr e) = e

-- ---- terms that are put last change nothing

term_stays : (terms more : List RdfTerm) (id : ℕ) → IsIdBelow (length terms) id → term_of (terms ++ more) id ≡ term_of terms id
term_stays terms more id h =
    let within : id - 1 < length terms = omega (arith, h.0, h.1) in
    unwrap_or-slice_get (terms ++ more) (id - 1) (iri []) ∙ get_or_append_left terms more (iri []) (id - 1) within ∙ sym (unwrap_or-slice_get terms (id - 1) (iri []))

triple_stays : (terms more : List RdfTerm) (k : IdTriple) → AreIds (length terms) k → triple_of (terms ++ more) k ≡ triple_of terms k
triple_stays terms more k h =
    let s = term_stays terms more k.subject h.subject in
    let p = term_stays terms more k.predicate h.predicate in
    let o = term_stays terms more k.object h.object in
    λ i. record { s = s i; p = p i; o = o i }

triples_stay : (terms more : List RdfTerm) (present : List IdTriple) → AllByRecursion (AreIds (length terms)) present → triples_of (terms ++ more) present ≡ triples_of terms present
triples_stay terms more [] all = refl
triples_stay terms more (k ∷ present) all = rw (triple_stays terms more k all.0, triples_stay terms more present all.1) refl

pub triples_grown : (old new : List RdfTerm) → Grows old new → (present : List IdTriple) → AllByRecursion (AreIds (length old)) present → triples_of new present ≡ triples_of old present
triples_grown old new g present all = ap (λ (terms : List RdfTerm). triples_of terms present) g.is ∙ triples_stay old g.more present all

wider : (m n : ℕ) → m ≤ n → (id : ℕ) → IsIdBelow m id → IsIdBelow n id
wider m n le id h = (h.0, omega (arith, le, h.1))

pub ids_grown : (old new : List RdfTerm) → Grows old new → (present : List IdTriple) → AllByRecursion (AreIds (length old)) present → AllByRecursion (AreIds (length new)) present
ids_grown old new g present all = each-weaker (AreIds (length old)) (AreIds (length new)) wide present all
  where
    le : length old ≤ length new
    le = let more = length-append old g.more in let e = ap (λ (ts : List RdfTerm). length ts) g.is in omega (arith, more, e)

    wide : (k : IdTriple) → AreIds (length old) k → AreIds (length new) k
    wide k h = record {
      subject = wider (length old) (length new) le k.subject h.subject;
      predicate = wider (length old) (length new) le k.predicate h.predicate;
      object = wider (length old) (length new) le k.object h.object;
    }
