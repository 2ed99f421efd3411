-- Solutions rest on which triples there are.
use Rattle.std.specs.Prelude.{◌≡◌, ℕ, zero, suc, Bool, true, false, List, [], ◌∷◌, map, Some, None, refl}
use Rattle.std.proofs.Common.{subst}
use Rattle.std.proofs.Math.Path.{fun_ext}
use Rattle.std.specs.List.{list_any, list_all, filter}
use Rattle.bags.specs.Bag.{SameBag}
use Rattle.bags.specs.BagLaws.{same-refl, same-map, same-filter, same-flat_map}
use Rattle.rdf_meaning.specs.Terms.{RdfTerm, RdfTriple, same_triple}
use Rattle.rdf_meaning.specs.TermLaws.{same_triple-is, same_triple-self}
use Rattle.query_meaning.specs.declared.pattern.Pattern.{Pattern}
use Rattle.query_meaning.specs.declared.query.Query.{Query}
use Rattle.query_meaning.specs.declared.tree.Tree.{Tree}
use Rattle.query_eval_meaning.specs.Mapping.{Mapping, set, width}
use Rattle.query_eval_meaning.specs.Leaf.{in_pattern, choices, assignments, instance_is, holds, terms_of, leaf}
use Rattle.query_eval_meaning.specs.Eval.{solutions, answer_of}
use Rattle.query_algebra_laws.specs.OrderedAnswer.{order-same}
use Rattle.query_algebra_laws.specs.TreeSolutions.{eval-same}
use Rattle.query_data_laws.specs.SameTriples.{HasSameTriples}
use Rattle.query_data_laws.specs.SetLaws.{any-same_members}
use Rattle.query_data_laws.specs.TermSets.{same-terms}

same-choices : (b : Bool) (ts us : List RdfTerm) → SameBag ts us → SameBag (choices b ts) (choices b us)
same-choices true ts us s = same-map (λ (t : RdfTerm). Some t) ts us s
same-choices false ts us s = same-refl (None ∷ [])

same-assignments : (o : ℕ → Bool) (ts us : List RdfTerm) → SameBag ts us → (n : ℕ) → SameBag (assignments o ts n) (assignments o us n)
same-assignments o ts us s zero = same-refl _
same-assignments o ts us s (suc n) =
    same-flat_map (λ m. map (λ t. set n t m) (choices (o n) ts)) (λ m. map (λ t. set n t m) (choices (o n) us)) (assignments o ts n) (assignments o us n) (same-assignments o ts us s n)
    (λ m. same-map (λ t. set n t m) (choices (o n) ts) (choices (o n) us) (same-choices (o n) ts us s))

all_hold : (g h : List RdfTriple) → HasSameTriples g h → (m : Mapping) (ps : List Pattern) → list_all (holds g m) ps ≡ list_all (holds h m) ps
all_hold g h s m [] = refl
all_hold g h s m (p ∷ ps) =
    let here : holds g m p ≡ holds h m p = any-same_members same_triple same_triple-is same_triple-self (instance_is m p) g h s.members in
    rw (here, all_hold g h s m ps) refl

same-leaf : (g h : List RdfTriple) → HasSameTriples g h → (ps : List Pattern) → SameBag (leaf ps g) (leaf ps h)
same-leaf g h s ps =
    let o : ℕ → Bool = λ v. list_any (in_pattern v) ps in
    let moved : SameBag (leaf ps g) (filter (λ m. list_all (holds g m) ps) (assignments o (terms_of h) width)) =
    same-filter (λ m. list_all (holds g m) ps) (assignments o (terms_of g) width) (assignments o (terms_of h) width) (same-assignments o (terms_of g) (terms_of h) (same-terms g h s) width) in
    subst (λ (p : Mapping → Bool). SameBag (leaf ps g) (filter p (assignments o (terms_of h) width))) (fun_ext (λ m. all_hold g h s m ps)) moved

pub same-solutions : (tree : Tree (List Pattern)) (g h : List RdfTriple) → HasSameTriples g h → SameBag (solutions tree g) (solutions tree h)
same-solutions tree g h s = eval-same (λ ps. leaf ps g) (λ ps. leaf ps h) (same-leaf g h s) tree

pub same-answer : (q : Query) (g h : List RdfTriple) → HasSameTriples g h → answer_of q g ≡ answer_of q h
same-answer q g h s = order-same q.modifiers (solutions q.tree g) (solutions q.tree h) (same-solutions q.tree g h s)
