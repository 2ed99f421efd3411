-- The triples that changes name.
use Rattle.std.proofs.Common.{◌≡◌, ◌⊎◌, Bool, true, false, List, [], ◌∷◌, ◌++◌, map, fold, refl, sym, ◌∙◌, ap, inl, inr}
use Rattle.std.specs.List.{list_any, IsDistinct}
use Rattle.std.proofs.lemmas.Bool.{cases_Bool, true≢false}
use Rattle.std.proofs.lemmas.List.Folds.{list_any-append}
use Rattle.std.proofs.lemmas.List.Sums.{fold-append}
use Rattle.std.proofs.lemmas.List.{map-append}
use Rattle.std.proofs.lemmas.Map.Keys.{IsDistinct-push}
use Rattle.rdf_meaning.specs.Terms.{RdfTriple, same_triple}
use Rattle.rdf_meaning.specs.TermLaws.{same_triple-is, same_triple-self, same_triple_equiv}
use Rattle.line_change_meaning.specs.declared.change.Change.{Change}
use Rattle.line_change_meaning.specs.Present.{named, says_of, with_triple, all_named}

any_left : {X : Type 0} (p : X → Bool) (xs ys : List X) → list_any p xs ≡ true → list_any p (xs ++ ys) ≡ true
any_left p xs ys e = rw (list_any-append p xs ys, e) refl

any_last : {X : Type 0} (p : X → Bool) (xs : List X) (x : X) → p x ≡ true → list_any p (xs ++ x ∷ []) ≡ true
any_last p [] x h = rw h refl
any_last p (y ∷ xs) x h = go (cases_Bool (p y)) (any_last p xs x h)
  where
    go : (p y ≡ true) ⊎ (p y ≡ false) → list_any p (xs ++ x ∷ []) ≡ true → list_any p ((y ∷ xs) ++ x ∷ []) ≡ true
    go (inl e) rest = rw e refl
    go (inr e) rest = rw e rest

named_keeps : (t x : RdfTriple) (ts : List RdfTriple) → list_any (same_triple t) ts ≡ true → list_any (same_triple t) (with_triple ts x) ≡ true
named_keeps t x ts h = go (cases_Bool (list_any (same_triple x) ts))
  where
    go : (list_any (same_triple x) ts ≡ true) ⊎ (list_any (same_triple x) ts ≡ false) → list_any (same_triple t) (with_triple ts x) ≡ true
    go (inl e) = rw e h
    go (inr e) = rw e (any_left (same_triple t) ts (x ∷ []) h)

pub named_has : (t : RdfTriple) (ts : List RdfTriple) → list_any (same_triple t) (with_triple ts t) ≡ true
named_has t ts = go (cases_Bool (list_any (same_triple t) ts))
  where
    go : (list_any (same_triple t) ts ≡ true) ⊎ (list_any (same_triple t) ts ≡ false) → list_any (same_triple t) (with_triple ts t) ≡ true
    go (inl e) = rw e e
    go (inr e) = rw e (any_last (same_triple t) ts t (same_triple-self t))

all_named_keep : (t : RdfTriple) (ts : List RdfTriple) (cs : List Change) → list_any (same_triple t) ts ≡ true → list_any (same_triple t) (fold with_triple ts (map named cs)) ≡ true
all_named_keep t ts [] h = h
all_named_keep t ts (c ∷ cs) h = all_named_keep t (with_triple ts (named c)) cs (named_keeps t (named c) ts h)

-- a triple that no change names isn't present
pub unnamed : (t : RdfTriple) (ts : List RdfTriple) (cs : List Change) → list_any (same_triple t) (fold with_triple ts (map named cs)) ≡ false → fold (says_of t) false cs ≡ false
unnamed t ts [] h = refl
unnamed t ts (c ∷ cs) h = go (cases_Bool (same_triple (named c) t)) (unnamed t (with_triple ts (named c)) cs h)
  where
    go : (same_triple (named c) t ≡ true) ⊎ (same_triple (named c) t ≡ false) → fold (says_of t) false cs ≡ false → fold (says_of t) false (c ∷ cs) ≡ false
    go (inl e) rest =
        let same : named c ≡ t = same_triple-is (named c) t e in
        let there : list_any (same_triple t) (with_triple ts (named c)) ≡ true = rw same (named_has t ts) in
        absurd (true≢false (sym (all_named_keep t (with_triple ts (named c)) cs there) ∙ h))
    go (inr e) rest = rw e rest

-- the triples that are named stand once each
stays_distinct : (ts : List RdfTriple) (x : RdfTriple) → IsDistinct same_triple ts → IsDistinct same_triple (with_triple ts x)
stays_distinct ts x d = go (cases_Bool (list_any (same_triple x) ts))
  where
    go : (list_any (same_triple x) ts ≡ true) ⊎ (list_any (same_triple x) ts ≡ false) → IsDistinct same_triple (with_triple ts x)
    go (inl e) = rw e d
    go (inr e) = rw e (IsDistinct-push same_triple_equiv ts x d e)

pub once_distinct : (ts more : List RdfTriple) → IsDistinct same_triple ts → IsDistinct same_triple (fold with_triple ts more)
once_distinct ts [] d = d
once_distinct ts (t ∷ more) d = once_distinct (with_triple ts t) more (stays_distinct ts t d)

pub nothing_distinct : IsDistinct same_triple []
unfolding IsDistinct
nothing_distinct = tt

pub named_distinct : (cs : List Change) → IsDistinct same_triple (all_named cs)
named_distinct cs = once_distinct [] (map named cs) nothing_distinct

-- one change more
pub named_next : (before : List Change) (c : Change) → all_named (before ++ c ∷ []) ≡ with_triple (all_named before) (named c)
named_next before c = ap (λ (ts : List RdfTriple). fold with_triple [] ts) (map-append named before (c ∷ [])) ∙ fold-append with_triple [] (map named before) (named c ∷ [])
