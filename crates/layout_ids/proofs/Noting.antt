-- Terms that are noted one after another.
use Rattle.std.proofs.Common.{◌≡◌, inl, inr, ℕ, zero, suc, ◌+◌, ◌-◌, ◌≤◌, ◌<◌, ◌==◌, Bool, true, false, if◌then◌else◌, List, [], ◌∷◌, ◌++◌, Some, length, slice_get, Contains, refl, sym, ap, ◌∙◌, arith}
use Rattle.std.specs.List.{list_any}
use Rattle.std.proofs.lemmas.List.{length_push}
use Rattle.std.proofs.lemmas.Map.Views.{list_any-from_Contains, Contains-from_any}
use Rattle.rdf_meaning.specs.Terms.{RdfTerm, RdfTriple, same_term}
use Rattle.rdf_meaning.specs.TermLaws.{same_term_equiv, same_term-is}
use Rattle.term_book.specs.Book.{HasId, IsNoted, IsFull}
use Rattle.layout_standing_meaning.specs.Changes.{with_term, with_terms}

new-term : (terms : List RdfTerm) (t : RdfTerm) → (¬ Contains terms t) → list_any (same_term t) terms ≡ false
new-term terms t n = by (list_any (same_term t) terms) refl
  where
    by : (b : Bool) → list_any (same_term t) terms ≡ b → b ≡ false
    by true e = absurd (n (Contains-from_any same_term-is t terms e))
    by false e = refl

pub noted_term : (old : List RdfTerm) (t : RdfTerm) (new : List RdfTerm) → IsNoted old t new → new ≡ with_term old t
noted_term old t new (inl h) = h.1 ∙ ap (λ (b : Bool). if b then old else old ++ t ∷ []) (sym (list_any-from_Contains same_term_equiv t old h.0))
noted_term old t new (inr h) = h.1 ∙ ap (λ (b : Bool). if b then old else old ++ t ∷ []) (sym (new-term old t h.0))

pub longer : (terms : List RdfTerm) (t : RdfTerm) → length terms ≤ length (with_term terms t)
longer terms t = by (list_any (same_term t) terms)
  where
    by : (b : Bool) → length terms ≤ length (if b then terms else terms ++ t ∷ [])
    by true = omega arith
    by false = (let e = length_push terms t in omega arith)

pub full_term : (terms : List RdfTerm) (t : RdfTerm) → IsFull terms t → 4000000 < length (with_term terms t)
full_term terms t h =
    let e : with_term terms t ≡ terms ++ t ∷ [] = ap (λ (b : Bool). if b then terms else terms ++ t ∷ []) (new-term terms t h.1) in
    let k : length (with_term terms t) ≡ length (terms ++ t ∷ []) = ap (λ (l : List RdfTerm). length l) e in
    (let p = length_push terms t in let q = h.0 in omega arith)

pub room_term : (terms : List RdfTerm) (t : RdfTerm) → length terms ≤ 4000000 → (¬ IsFull terms t) → length (with_term terms t) ≤ 4000000
room_term terms t few n = by (list_any (same_term t) terms) refl
  where
    absent : list_any (same_term t) terms ≡ false → ¬ Contains terms t
    absent e c = true_false (sym (list_any-from_Contains same_term_equiv t terms c) ∙ e)
      where
        true_false : true ≡ false → ⊥
        true_false h = cc

    less : (m : ℕ) → m ≤ 4000000 → (m == 4000000) ≡ false → m < 4000000
    less m l q = grind arith

    last : list_any (same_term t) terms ≡ false → (b : Bool) → (length terms == 4000000) ≡ b → length (terms ++ t ∷ []) ≤ 4000000
    last e true q = let k : length terms ≡ 4000000 = grind arith in absurd (n (k, absent e))
    last e false q = (let k = less (length terms) few q in let p = length_push terms t in omega arith)

    by : (b : Bool) → list_any (same_term t) terms ≡ b → length (if b then terms else terms ++ t ∷ []) ≤ 4000000
    by true e = few
    by false e = last e (length terms == 4000000) refl

-- an id stays when a term is noted
id-front : (i : ℕ) (ts us : List RdfTerm) (t : RdfTerm) → slice_get ts i ≡ Some t → slice_get (ts ++ us) i ≡ Some t
id-front i [] us t h = cc
id-front zero (x ∷ xs) us t h = h
id-front (suc i) (x ∷ xs) us t h = id-front i xs us t h

pub id-still : (terms : List RdfTerm) (u t : RdfTerm) (n : ℕ) → HasId terms t n → HasId (with_term terms u) t n
id-still terms u t n h = (h.0, by (list_any (same_term u) terms))
  where
    by : (b : Bool) → slice_get (if b then terms else terms ++ u ∷ []) (n - 1) ≡ Some t
    by true = h.1
    by false = id-front (n - 1) terms (u ∷ []) t h.1

-- the terms of a triple, one after another
pub three-full_first : (terms : List RdfTerm) (t : RdfTriple) → 4000000 < length (with_term terms t.s) → 4000000 < length (with_terms terms t)
three-full_first terms t h = (let a = longer (with_term terms t.s) t.p in let b = longer (with_term (with_term terms t.s) t.p) t.o in omega arith)

pub three-full_second : (terms : List RdfTerm) (t : RdfTriple) → 4000000 < length (with_term (with_term terms t.s) t.p) → 4000000 < length (with_terms terms t)
three-full_second terms t h = (let b = longer (with_term (with_term terms t.s) t.p) t.o in omega arith)
