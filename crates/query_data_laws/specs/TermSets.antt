-- The terms that stand in triples, as a bag, rest on which triples there are.
use Rattle.std.specs.Prelude.{◌≡◌, ◌⊎◌, ℕ, Bool, true, false, cond, ◌||◌, List, [], ◌∷◌, refl}
use Rattle.std.proofs.Common.{sym, ap, ◌∙◌, subst, inl, inr, arith}
use Rattle.std.proofs.lemmas.Bool.{cases_Bool}
use Rattle.std.specs.List.{list_any, AllByRecursion}
use Rattle.bags.specs.Bag.{total, SameBag}
use Rattle.bags.specs.BagLaws.{total-same, total-each, total-none, total-swap}
use Rattle.rdf_meaning.specs.Terms.{RdfTerm, RdfTriple, same_term, same_triple}
use Rattle.rdf_meaning.specs.TermLaws.{same_term-is, same_term_equiv, same_triple-is, same_triple-self}
use Rattle.query_eval_meaning.specs.Leaf.{with_term, terms_of}
use Rattle.query_algebra_laws.specs.Choices.{Apart}
use Rattle.query_algebra_laws.specs.Assignments.{terms-apart}
use Rattle.query_algebra_laws.specs.TreeSolutions.{members}
use Rattle.query_data_laws.specs.SameTriples.{HasSameTriples}
use Rattle.query_data_laws.specs.SetLaws.{any-same_members}

-- ---- membership

abbrev stands_in : RdfTerm → RdfTriple → Bool
stands_in t r = same_term t r.s || (same_term t r.p || same_term t r.o)

with_term-any : (t u : RdfTerm) (ts : List RdfTerm) → list_any (same_term t) (with_term u ts) ≡ (same_term t u || list_any (same_term t) ts)
with_term-any t u ts = go (cases_Bool (list_any (same_term u) ts)) (cases_Bool (same_term t u))
  where
    go : (list_any (same_term u) ts ≡ true) ⊎ (list_any (same_term u) ts ≡ false) → (same_term t u ≡ true) ⊎ (same_term t u ≡ false) → list_any (same_term t) (with_term u ts) ≡ (same_term t u || list_any (same_term t) ts)
    go (inl e) (inl s) = let same : t ≡ u = same_term-is t u s in rw (e, s) (subst (λ (x : RdfTerm). list_any (same_term x) ts ≡ true) (sym same) e)
    go (inl e) (inr s) = rw (e, s) refl
    go (inr e) s = rw e refl

turned : (a b c d : Bool) → (a || (b || (c || d))) ≡ ((a || (b || c)) || d)
turned true b c d = refl
turned false true c d = refl
turned false false true d = refl
turned false false false d = refl

terms_of-any : (t : RdfTerm) (g : List RdfTriple) → list_any (same_term t) (terms_of g) ≡ list_any (stands_in t) g
terms_of-any t [] = refl
terms_of-any t (r ∷ g) =
    with_term-any t r.s (with_term r.p (with_term r.o (terms_of g)))
    ∙ ap (λ (b : Bool). same_term t r.s || b) (with_term-any t r.p (with_term r.o (terms_of g))
    ∙ ap (λ (b : Bool). same_term t r.p || b) (with_term-any t r.o (terms_of g) ∙ ap (λ (b : Bool). same_term t r.o || b) (terms_of-any t g)))
    ∙ turned (same_term t r.s) (same_term t r.p) (same_term t r.o) (list_any (stands_in t) g)

-- ---- lists of distinct terms with the same members

-- a sum over the one item that is the same
total-one : (s : RdfTerm) (n : ℕ) (us : List RdfTerm) → Apart us → total (λ u. cond (same_term s u) n 0) us ≡ cond (list_any (same_term s) us) n 0
total-one s n [] a = refl
total-one s n (u ∷ us) a = go (cases_Bool (same_term s u)) (total-one s n us a.1)
  where
    go : (same_term s u ≡ true) ⊎ (same_term s u ≡ false) → total (λ u. cond (same_term s u) n 0) us ≡ cond (list_any (same_term s) us) n 0 → total (λ u. cond (same_term s u) n 0) (u ∷ us) ≡ cond (list_any (same_term s) (u ∷ us)) n 0
    go (inl e) ih =
        let none : list_any (same_term s) us ≡ false = subst (λ (x : RdfTerm). list_any (same_term x) us ≡ false) (sym (same_term-is s u e)) a.0 in
        let rest : total (λ u. cond (same_term s u) n 0) us ≡ 0 = total-none (same_term s) (λ u. n) us none in
        rw (e, rest) (omega arith)
    go (inr e) ih = rw (e, ih) (omega arith)

same_turned : (f : RdfTerm → ℕ) (s u : RdfTerm) → cond (same_term s u) (f s) 0 ≡ cond (same_term u s) (f u) 0
same_turned f s u = go (cases_Bool (same_term s u))
  where
    go : (same_term s u ≡ true) ⊎ (same_term s u ≡ false) → cond (same_term s u) (f s) 0 ≡ cond (same_term u s) (f u) 0
    go (inl e) = rw (e, sym (same_term_equiv.symm s u) ∙ e) (ap f (same_term-is s u e))
    go (inr e) = rw (e, sym (same_term_equiv.symm s u) ∙ e) refl

-- a sum over items that all stand in another list of distinct terms
total-among : (f : RdfTerm → ℕ) (ts us : List RdfTerm) → Apart us → AllByRecursion (λ s. list_any (same_term s) us ≡ true) ts → total f ts ≡ total (λ s. total (λ u. cond (same_term s u) (f s) 0) us) ts
total-among f ts us a all =
    total-each f (λ s. total (λ u. cond (same_term s u) (f s) 0) us) (λ s. list_any (same_term s) us ≡ true) (λ s e. sym (total-one s (f s) us a ∙ ap (λ (b : Bool). cond b (f s) 0) e)) ts all

each_moved : (ts us vs : List RdfTerm) → ((t : RdfTerm) → list_any (same_term t) us ≡ list_any (same_term t) vs) → AllByRecursion (λ s. list_any (same_term s) us ≡ true) ts → AllByRecursion (λ s. list_any (same_term s) vs ≡ true) ts
each_moved [] us vs m all = tt
each_moved (t ∷ ts) us vs m all = (sym (m t) ∙ all.0, each_moved ts us vs m all.1)

apart-same : (ts us : List RdfTerm) → Apart ts → Apart us → ((t : RdfTerm) → list_any (same_term t) ts ≡ list_any (same_term t) us) → SameBag ts us
apart-same ts us a b m = record {
  totals = λ f.
      total-among f ts us b (each_moved ts ts us m (members ts))
      ∙ total-swap (λ s u. cond (same_term s u) (f s) 0) ts us
      ∙ total-same _ _ (λ u. total-same (λ s. cond (same_term s u) (f s) 0) (λ s. cond (same_term u s) (f u) 0) (λ s. same_turned f s u) ts) us
      ∙ sym (total-among f us ts a (each_moved us us ts (λ t. sym (m t)) (members us)));
}

-- the same triples have the same terms
pub same-terms : (g h : List RdfTriple) → HasSameTriples g h → SameBag (terms_of g) (terms_of h)
same-terms g h m =
    apart-same (terms_of g) (terms_of h) (terms-apart g) (terms-apart h)
    (λ t. terms_of-any t g ∙ any-same_members same_triple same_triple-is same_triple-self (stands_in t) g h m.members ∙ sym (terms_of-any t h))
