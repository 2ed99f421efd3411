-- The triples that are present after changes stand once each.
use Rattle.std.proofs.Common.{◌≡◌, ◌⊎◌, Bool, true, false, List, [], ◌∷◌, map, filter, fold, inl, inr}
use Rattle.std.specs.List.{list_any, IsDistinct}
use Rattle.std.proofs.lemmas.Bool.{cases_Bool}
use Rattle.std.proofs.lemmas.Map.Keys.{IsDistinct-push, IsDistinct-head, IsDistinct-tail, IsDistinct-cons}
use Rattle.bags.specs.BagLaws.{each-filter}
use Rattle.rdf_meaning.specs.Terms.{RdfTriple, same_triple}
use Rattle.rdf_meaning.specs.TermLaws.{same_triple_equiv}
use Rattle.line_change_meaning.specs.declared.change.Change.{Change}
use Rattle.line_change_meaning.specs.Present.{named, is_present, with_triple, all_named, present}

stays_distinct : (ts : List RdfTriple) (x : RdfTriple) → IsDistinct same_triple ts → IsDistinct same_triple (with_triple ts x)
stays_distinct ts x d = go (cases_Bool (list_any (same_triple x) ts))
  where
    go : (list_any (same_triple x) ts ≡ true) ⊎ (list_any (same_triple x) ts ≡ false) → IsDistinct same_triple (with_triple ts x)
    go (inl e) = rw e d
    go (inr e) = rw e (IsDistinct-push same_triple_equiv ts x d e)

all_distinct : (ts : List RdfTriple) (cs : List Change) → IsDistinct same_triple ts → IsDistinct same_triple (fold with_triple ts (map named cs))
all_distinct ts [] d = d
all_distinct ts (c ∷ cs) d = all_distinct (with_triple ts (named c)) cs (stays_distinct ts (named c) d)

pub nothing_distinct : IsDistinct same_triple []
unfolding IsDistinct
nothing_distinct = tt

filter_distinct : (p : RdfTriple → Bool) (ts : List RdfTriple) → IsDistinct same_triple ts → IsDistinct same_triple (filter p ts)
filter_distinct p [] d = d
filter_distinct p (t ∷ ts) d = go (cases_Bool (p t)) (filter_distinct p ts (IsDistinct-tail same_triple t ts d))
  where
    go : (p t ≡ true) ⊎ (p t ≡ false) → IsDistinct same_triple (filter p ts) → IsDistinct same_triple (filter p (t ∷ ts))
    go (inl e) rest = rw e (IsDistinct-cons same_triple t (filter p ts) (each-filter (λ u. same_triple t u ≡ false) p ts (IsDistinct-head same_triple t ts d)) rest)
    go (inr e) rest = rw e rest

-- each triple that is present stands once
pub present_distinct : (cs : List Change) → IsDistinct same_triple (present cs)
present_distinct cs = filter_distinct (is_present cs) (all_named cs) (all_distinct [] cs nothing_distinct)
