-- A store after a triple was put in, taken out or refused.
use Rattle.std.proofs.Common.{◌≡◌, inl, inr, ℕ, Bool, true, false, if◌then◌else◌, List, ◌∷◌, map, refl, sym, ap, ◌∙◌, subst}
use Rattle.std.specs.List.{list_any}
use Rattle.bags.specs.Bag.{SameBag}
use Rattle.bags.specs.BagLaws.{same-map, same-refl}
use Rattle.rdf_meaning.specs.Terms.{RdfTerm, RdfTriple, same_triple}
use Rattle.layout_meaning.specs.Side.{Item, items, is_held}
use Rattle.layout_meaning.specs.Rows.{placed_in, taken_from}
use Rattle.layout_standing_meaning.specs.Dictionary.{IsTriple}
use Rattle.layout_standing_meaning.specs.Sides.{SidesOf, both_placed}
use Rattle.layout_standing_meaning.specs.Stored.{StoreOf, IsStore, sides_of, triple_by, stored_triples}
use Rattle.layout_standing_meaning.specs.Changes.{with_term, with_terms, item_in, store_of, is_stored, stored_in, taken_out, AreSomeNoted, IsRefused}
use Rattle.layout_standing_meaning.proofs.Steps.{both-held, both-free}
use Rattle.layout_standing_meaning.proofs.Growth.{grown, grown-triple, placed-bag, taken-bag, store-placed, store-taken, store-before}
use Rattle.layout_standing_meaning.proofs.Present.{stored-one, terms-noted, term-there, triple-there, item-there, stored-held, held-terms}

-- a dictionary that grows changes no stored triple
pub stored-grown_one : (s : StoreOf) (t : RdfTerm) → IsStore s → stored_triples (store_of (with_term s.terms t) (sides_of s)) ≡ stored_triples s
stored-grown_one s t h = stored-one s.terms t (items s.direct.state) h.each_item

pub stored-grown : (s : StoreOf) (t : RdfTriple) → IsStore s → IsTriple t → stored_triples (store_of (with_terms s.terms t) (sides_of s)) ≡ stored_triples s
stored-grown s t h form =
    let a = grown s t.s h form.subject_form in
    let b = grown (store_of (with_term s.terms t.s) (sides_of s)) t.p a form.predicate_form in
    stored-grown_one (store_of (with_term (with_term s.terms t.s) t.p) (sides_of s)) t.o b ∙ stored-grown_one (store_of (with_term s.terms t.s) (sides_of s)) t.p a ∙ stored-grown_one s t.s h

-- after a triple was put in
pub store-in : (s : StoreOf) (t : RdfTriple) → IsStore s → IsTriple t → IsStore (stored_in s t)
store-in s t h form =
    let terms : List RdfTerm = with_terms s.terms t in
    let there = terms-noted s.terms t in
    subst (λ (text : List ℕ). IsStore (store_of terms (both_placed (sides_of s) text (item_in terms t)))) (ap (λ (u : RdfTerm). u.text) (term-there terms t.p there.predicate))
    (store-placed (store_of terms (sides_of s)) (item_in terms t) (grown-triple s t h form) (item-there terms t there form))

pub held-in : (s : StoreOf) (t : RdfTriple) → IsStore s → IsTriple t → is_held (item_in (with_terms s.terms t) t) s.direct.state ≡ is_stored s t
held-in s t h form = sym (stored-held (store_of (with_terms s.terms t) (sides_of s)) t (grown-triple s t h form)) ∙ ap (λ (l : List RdfTriple). list_any (same_triple t) l) (stored-grown s t h form)

pub triples-in : (s : StoreOf) (t : RdfTriple) → IsStore s → IsTriple t → SameBag (stored_triples (stored_in s t)) (if is_stored s t then stored_triples s else t ∷ stored_triples s)
triples-in s t h form = by (is_stored s t) (held-in s t h form)
  where
    terms : List RdfTerm
    terms = with_terms s.terms t

    x : Item
    x = item_in (with_terms s.terms t) t

    by : (b : Bool) → is_held (item_in (with_terms s.terms t) t) s.direct.state ≡ b → SameBag (stored_triples (stored_in s t)) (if b then stored_triples s else t ∷ stored_triples s)
    by true e =
        let k : stored_triples (stored_in s t) ≡ stored_triples s = ap (λ (w : SidesOf). stored_triples (store_of (with_terms s.terms t) w)) (both-held (sides_of s) t.p.text (item_in (with_terms s.terms t) t) h.sides e) ∙ stored-grown s t h form in
        subst (λ (l : List RdfTriple). SameBag l (stored_triples s)) (sym k) (same-refl (stored_triples s))
    by false e =
        let m = same-map (triple_by (with_terms s.terms t)) (items (placed_in s.direct t.p.text (item_in (with_terms s.terms t) t)).state) (item_in (with_terms s.terms t) t ∷ items s.direct.state) (placed-bag (sides_of s) t.p.text (item_in (with_terms s.terms t) t) h.sides e) in
        let a : triple_by (with_terms s.terms t) (item_in (with_terms s.terms t) t) ≡ t = triple-there (with_terms s.terms t) t (terms-noted s.terms t) in
        subst (λ (l : List RdfTriple). SameBag (stored_triples (stored_in s t)) (t ∷ l)) (stored-grown s t h form)
        (subst (λ (u : RdfTriple). SameBag (stored_triples (stored_in s t)) (u ∷ map (triple_by (with_terms s.terms t)) (items s.direct.state))) a m)

-- after a triple was taken out
pub store-out : (s : StoreOf) (t : RdfTriple) → IsStore s → IsStore (taken_out s t)
store-out s t h = store-taken s (item_in s.terms t) h

pub triples-out : (s : StoreOf) (t : RdfTriple) → IsStore s → SameBag (if is_stored s t then t ∷ stored_triples (taken_out s t) else stored_triples (taken_out s t)) (stored_triples s)
triples-out s t h = by (is_stored s t) (sym (stored-held s t h))
  where
    by : (b : Bool) → is_held (item_in s.terms t) s.direct.state ≡ b → SameBag (if b then t ∷ stored_triples (taken_out s t) else stored_triples (taken_out s t)) (stored_triples s)
    by true e =
        let m = same-map (triple_by s.terms) (item_in s.terms t ∷ items (taken_from s.direct (item_in s.terms t)).state) (items s.direct.state) (taken-bag (sides_of s) (item_in s.terms t) h.sides e) in
        subst (λ (u : RdfTriple). SameBag (u ∷ stored_triples (taken_out s t)) (stored_triples s)) (triple-there s.terms t (held-terms s t h e)) m
    by false e =
        let k : stored_triples (taken_out s t) ≡ stored_triples s = ap (λ (w : SidesOf). stored_triples (store_of s.terms w)) (both-free (sides_of s) (item_in s.terms t) h.sides e) in
        subst (λ (l : List RdfTriple). SameBag l (stored_triples s)) (sym k) (same-refl (stored_triples s))

-- after a refusal
noted-store : (s : StoreOf) (t : RdfTriple) (terms : List RdfTerm) → IsStore s → IsTriple t → AreSomeNoted s.terms t terms → IsStore (store_of terms (sides_of s)) × (stored_triples (store_of terms (sides_of s)) ≡ stored_triples s)
noted-store s t terms h form (inl e) = subst (λ (l : List RdfTerm). IsStore (store_of l (sides_of s)) × (stored_triples (store_of l (sides_of s)) ≡ stored_triples s)) (sym e) (h, refl)
noted-store s t terms h form (inr (inl e)) = subst (λ (l : List RdfTerm). IsStore (store_of l (sides_of s)) × (stored_triples (store_of l (sides_of s)) ≡ stored_triples s)) (sym e) (grown s t.s h form.subject_form, stored-grown_one s t.s h)
noted-store s t terms h form (inr (inr (inl e))) =
    let a = grown s t.s h form.subject_form in
    subst (λ (l : List RdfTerm). IsStore (store_of l (sides_of s)) × (stored_triples (store_of l (sides_of s)) ≡ stored_triples s)) (sym e)
    (grown (store_of (with_term s.terms t.s) (sides_of s)) t.p a form.predicate_form, stored-grown_one (store_of (with_term s.terms t.s) (sides_of s)) t.p a ∙ stored-grown_one s t.s h)
noted-store s t terms h form (inr (inr (inr e))) = subst (λ (l : List RdfTerm). IsStore (store_of l (sides_of s)) × (stored_triples (store_of l (sides_of s)) ≡ stored_triples s)) (sym e) (grown-triple s t h form, stored-grown s t h form)

pub store-refused : (s : StoreOf) (t : RdfTriple) (new : StoreOf) → IsStore s → IsTriple t → IsRefused s t new → IsStore new
store-refused s t new h form r =
    let a = noted-store s t new.terms h form r.terms in
    store-before (store_of new.terms (sides_of s)) (sides_of new) a.0 r.sides

pub triples-refused : (s : StoreOf) (t : RdfTriple) (new : StoreOf) → IsStore s → IsTriple t → IsRefused s t new → stored_triples new ≡ stored_triples s
triples-refused s t new h form r =
    let a = noted-store s t new.terms h form r.terms in
    let d = r.sides.direct_rows in let l = r.sides.direct_lists in
    (λ i. map (triple_by new.terms) (items (record { entities = d i; lists = l i; next = new.direct.state.next }))) ∙ a.1
