-- Triples in another order have the same counts.
use Rattle.std.proofs.Common.{◌≡◌, ◌||◌, Bool, true, false, cond, List, [], ◌∷◌, map, refl, sym, ap, ◌∙◌, subst}
use Rattle.std.specs.List.{list_any, AllByRecursion, IsDistinct}
use Rattle.std.specs.Set.{unique_keys, distinct_count, is_member}
use Rattle.std.proofs.lemmas.Map.Keys.{IsDistinct-cons}
use Rattle.std.proofs.lemmas.Map.Made.{length-from_keys}
use Rattle.bags.specs.Bag.{SameBag}
use Rattle.bags.specs.BagLaws.{same-length, same-map, same-any}
use Rattle.rdf_meaning.specs.Terms.{RdfTerm, RdfTriple, same_term}
use Rattle.rdf_meaning.specs.TermLaws.{same_term-is, same_term_equiv}
use Rattle.layout_meaning.specs.Facts.{CountOf}
use Rattle.layout_meaning.specs.Sound.{one_if}
use Rattle.layout_counts_meaning.specs.Counts.{count_of, counts_over}

-- no item passes
each-none : (p : RdfTerm → Bool) (xs : List RdfTerm) → list_any p xs ≡ false → AllByRecursion (λ y. p y ≡ false) xs
each-none p [] h = tt
each-none p (x ∷ xs) h = by (p x) refl h (each-none p xs)
  where
    by : (b : Bool) → p x ≡ b → (b || list_any p xs) ≡ false → (list_any p xs ≡ false → AllByRecursion (λ y. p y ≡ false) xs) → (p x ≡ false) × AllByRecursion (λ y. p y ≡ false) xs
    by true t h rest = cc
    by false t h rest = (t, rest h)

-- each term once: as many terms, and the same ones
member-unique : (xs : List RdfTerm) (q : RdfTerm) → is_member same_term (unique_keys same_term xs) q ≡ is_member same_term xs q
member-unique [] q = refl
member-unique (x ∷ xs) q = by (is_member same_term xs x) refl (member-unique xs q)
  where
    there : (b : Bool) → same_term q x ≡ b → is_member same_term xs x ≡ true → is_member same_term xs q ≡ (b || is_member same_term xs q)
    there true e h = subst (λ (y : RdfTerm). is_member same_term xs y ≡ true) (sym (same_term-is q x e)) h
    there false e h = refl

    by : (b : Bool) → is_member same_term xs x ≡ b → is_member same_term (unique_keys same_term xs) q ≡ is_member same_term xs q
        → is_member same_term (cond b (unique_keys same_term xs) (x ∷ unique_keys same_term xs)) q ≡ (same_term q x || is_member same_term xs q)
    by true t ih = ih ∙ there (same_term q x) refl t
    by false t ih = ap (λ (b : Bool). same_term q x || b) ih

distinct-none : IsDistinct same_term []
unfolding IsDistinct
distinct-none = tt

distinct-unique : (xs : List RdfTerm) → IsDistinct same_term (unique_keys same_term xs)
distinct-unique [] = distinct-none
distinct-unique (x ∷ xs) = by (is_member same_term xs x) refl (distinct-unique xs)
  where
    by : (b : Bool) → is_member same_term xs x ≡ b → IsDistinct same_term (unique_keys same_term xs) → IsDistinct same_term (cond b (unique_keys same_term xs) (x ∷ unique_keys same_term xs))
    by true t ih = ih
    by false t ih = IsDistinct-cons same_term x (unique_keys same_term xs) (each-none (same_term x) (unique_keys same_term xs) (member-unique xs x ∙ t)) ih

-- terms in another order have as many distinct ones
pub same-distinct : (xs ys : List RdfTerm) → SameBag xs ys → distinct_count same_term xs ≡ distinct_count same_term ys
same-distinct xs ys same =
    length-from_keys same_term_equiv (unique_keys same_term xs) ys (distinct-unique xs) (λ (q : RdfTerm). member-unique xs q ∙ same-any (same_term q) xs ys same)

same-count : (g h : List RdfTriple) → SameBag g h → (t : RdfTerm) → count_of g t ≡ count_of h t
same-count g h same t =
    let s = same.totals (λ (x : RdfTriple). one_if (same_term x.s t)) in
    let o = same.totals (λ (x : RdfTriple). one_if (same_term x.o t)) in
    λ i. record { term = t; as_subject = s i; as_object = o i }

map-same : (f g : RdfTerm → CountOf) → ((t : RdfTerm) → f t ≡ g t) → (ts : List RdfTerm) → map f ts ≡ map g ts
map-same f g e [] = refl
map-same f g e (t ∷ ts) = ap (λ (c : CountOf). c ∷ map f ts) (e t) ∙ ap (λ (cs : List CountOf). g t ∷ cs) (map-same f g e ts)

pub counted-same : (g h : List RdfTriple) (terms : List RdfTerm) → SameBag g h → counts_over g terms ≡ counts_over h terms
counted-same g h terms same =
    let n = same-length g h same in
    let s = same-distinct (map (λ (x : RdfTriple). x.s) g) (map (λ (x : RdfTriple). x.s) h) (same-map (λ (x : RdfTriple). x.s) g h same) in
    let o = same-distinct (map (λ (x : RdfTriple). x.o) g) (map (λ (x : RdfTriple). x.o) h) (same-map (λ (x : RdfTriple). x.o) g h same) in
    let c = map-same (count_of g) (count_of h) (same-count g h same) terms in
    λ i. record { triples = n i; subjects = s i; objects = o i; constants = c i }
