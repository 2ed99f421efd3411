-- What changes nothing in a store.
use Rattle.std.proofs.Common.{◌≡◌, ℕ, ◌+◌, ◌||◌, Bool, true, false, if◌then◌else◌, List, [], ◌∷◌, ◌++◌, refl, sym, ap, ◌∙◌, subst}
use Rattle.std.specs.List.{list_any}
use Rattle.rdf_meaning.specs.Terms.{RdfTerm, RdfTriple, same_term}
use Rattle.rdf_meaning.specs.TermLaws.{same_term-is, same_term-self}
use Rattle.layout_standing_meaning.specs.Dictionary.{IsTriple, has_term, numbered_from, entries_of}
use Rattle.layout_standing_meaning.specs.Sides.{SidesOf}
use Rattle.layout_standing_meaning.specs.Stored.{StoreOf, IsStore, sides_of}
use Rattle.layout_standing_meaning.specs.Changes.{with_term, with_terms, item_in, store_of, is_stored, stored_in, taken_out}
use Rattle.layout_standing_meaning.proofs.Steps.{both-held, both-free}
use Rattle.layout_standing_meaning.proofs.Present.{stored-held, held-terms}
use Rattle.layout_standing_meaning.proofs.Changed.{held-in}

-- a term that has an id is there
pub known-term : (n : ℕ) (terms : List RdfTerm) (t : RdfTerm) → has_term (numbered_from n terms) t ≡ true → list_any (same_term t) terms ≡ true
known-term n [] t h = cc
known-term n (x ∷ xs) t h = by (same_term x t) refl h (known-term (n + 1) xs t)
  where
    or_right : (a : Bool) → list_any (same_term t) xs ≡ true → (a || list_any (same_term t) xs) ≡ true
    or_right true h = refl
    or_right false h = h

    by : (b : Bool) → same_term x t ≡ b → (b || has_term (numbered_from (n + 1) xs) t) ≡ true → (has_term (numbered_from (n + 1) xs) t ≡ true → list_any (same_term t) xs ≡ true) → (same_term t x || list_any (same_term t) xs) ≡ true
    by true e h ih = let k : same_term t x ≡ true = subst (λ (y : RdfTerm). same_term t y ≡ true) (sym (same_term-is x t e)) (same_term-self t) in ap (λ (b : Bool). b || list_any (same_term t) xs) k
    by false e h ih = or_right (same_term t x) (ih h)

needs-none : (terms : List RdfTerm) (t : RdfTerm) → has_term (entries_of terms) t ≡ true → with_term terms t ≡ terms
needs-none terms t h = ap (λ (b : Bool). if b then terms else terms ++ t ∷ []) (known-term 1 terms t h)

-- a triple that is stored needs no term
pub stored-fits : (s : StoreOf) (t : RdfTriple) → IsStore s → is_stored s t ≡ true → with_terms s.terms t ≡ s.terms
stored-fits s t h e =
    let k = held-terms s t h (sym (stored-held s t h) ∙ e) in
    let a = needs-none s.terms t.s k.subject in
    let b = needs-none s.terms t.p k.predicate in
    let c = needs-none s.terms t.o k.object in
    ap (λ (l : List RdfTerm). with_term (with_term l t.p) t.o) a ∙ ap (λ (l : List RdfTerm). with_term l t.o) b ∙ c

pub there-unchanged : (s : StoreOf) (t : RdfTriple) → IsStore s → IsTriple t → is_stored s t ≡ true → stored_in s t ≡ s
there-unchanged s t h form there =
    ap (λ (w : SidesOf). store_of (with_terms s.terms t) w) (both-held (sides_of s) t.p.text (item_in (with_terms s.terms t) t) h.sides (held-in s t h form ∙ there))
    ∙ ap (λ (l : List RdfTerm). store_of l (sides_of s)) (stored-fits s t h there)

pub absent-unchanged : (s : StoreOf) (t : RdfTriple) → IsStore s → is_stored s t ≡ false → taken_out s t ≡ s
absent-unchanged s t h absent = ap (λ (w : SidesOf). store_of s.terms w) (both-free (sides_of s) (item_in s.terms t) h.sides (sym (stored-held s t h) ∙ absent))
