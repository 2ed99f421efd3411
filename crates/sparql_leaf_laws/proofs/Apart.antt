-- Patterns that are numbered one after the other are numbered apart in each leaf.
use Rattle.std.specs.Prelude.{◌≡◌, ◌<◌, ◌≤◌, ◌⊎◌, ℕ, suc, ◌+◌, ◌==◌, ◌&&◌, ◌||◌, Bool, true, false, not, List, [], ◌∷◌, ◌++◌, length, refl}
use Rattle.std.proofs.Common.{sym, ap, ◌∙◌, subst, arith}
use Rattle.std.proofs.lemmas.Bool.{and_from, or_from}
use Rattle.std.specs.List.{list_any}
use Rattle.query_meaning.specs.declared.pattern.Pattern.{Pattern}
use Rattle.query_meaning.specs.declared.query.Query.{Query}
use Rattle.query_meaning.specs.declared.tree.Tree.{Tree}
use Rattle.query_algebra_laws.specs.TreeInduction.{tree_induction}
use Rattle.query_plan_meaning.specs.Plans.{every_leaf}
use Rattle.query_plan_meaning.specs.PlanLaws.{every-Leaf, every-Join, every-LeftJoin, every-Union, every-Filter}
use Rattle.query_flow_meaning.specs.Flow.{same_number}
use Rattle.query_flow_meaning.specs.Planned.{are_numbered_apart}
use Rattle.sparql_translation_laws.specs.TreePatterns.{tree_patterns, patterns-Leaf, patterns-Join, patterns-LeftJoin, patterns-Union, patterns-Filter}
use Rattle.sparql_fragment_laws.specs.Numbers.{NumberedFrom}

other-number : (m n : ℕ) → m < n → (m == n) ≡ false
other-number m n l = grind (arith, l)

-- a lesser number than the first one stands nowhere
stands-nowhere : (p : Pattern) (n : ℕ) (ps : List Pattern) → p.number < n → NumberedFrom n ps → list_any (same_number p) ps ≡ false
stands-nowhere p n [] l h = refl
stands-nowhere p n (q ∷ ps) l h =
    or_from (same_number p q) (list_any (same_number p) ps) (other-number p.number q.number (subst (λ (m : ℕ). p.number < m) (sym h.0) l)) (stands-nowhere p (suc n) ps (omega arith) h.1)

leaf-apart : (n : ℕ) (ps : List Pattern) → NumberedFrom n ps → are_numbered_apart ps ≡ true
leaf-apart n [] h = refl
leaf-apart n (p ∷ ps) h =
    let less : p.number < suc n = subst (λ (m : ℕ). m < suc n) (sym h.0) (omega arith) in
    and_from (not (list_any (same_number p) ps)) (are_numbered_apart ps) (ap not (stands-nowhere p (suc n) ps less h.1)) (leaf-apart (suc n) ps h.1)

front : (n : ℕ) (ps qs : List Pattern) → NumberedFrom n (ps ++ qs) → NumberedFrom n ps
front n [] qs h = tt
front n (p ∷ ps) qs h = (h.0, front (suc n) ps qs h.1)

back : (n : ℕ) (ps qs : List Pattern) → NumberedFrom n (ps ++ qs) → NumberedFrom (n + length ps) qs
back n [] qs h = subst (λ (m : ℕ). NumberedFrom m qs) (let e : n ≡ n + 0 = omega arith in e) h
back n (p ∷ ps) qs h = subst (λ (m : ℕ). NumberedFrom m qs) (let e : suc n + length ps ≡ n + suc (length ps) = omega arith in e) (back (suc n) ps qs h.1)

tree-apart : (t : Tree (List Pattern)) (n : ℕ) → NumberedFrom n (tree_patterns t) → every_leaf are_numbered_apart t ≡ true
tree-apart =
    let ok : List Pattern → Bool = are_numbered_apart in
    tree_induction (λ t. (n : ℕ) → NumberedFrom n (tree_patterns t) → every_leaf are_numbered_apart t ≡ true)
    (λ ps n h. every-Leaf ok ps ∙ leaf-apart n ps (subst (NumberedFrom n) (patterns-Leaf ps) h))
    (λ a b p q n h.
    let k = subst (NumberedFrom n) (patterns-Join a b) h in
    every-Join ok a b ∙ and_from (every_leaf ok a) (every_leaf ok b) (p n (front n (tree_patterns a) (tree_patterns b) k)) (q (n + length (tree_patterns a)) (back n (tree_patterns a) (tree_patterns b) k)))
    (λ a b c p q n h.
    let k = subst (NumberedFrom n) (patterns-LeftJoin a b c) h in
    every-LeftJoin ok a b c ∙ and_from (every_leaf ok a) (every_leaf ok b) (p n (front n (tree_patterns a) (tree_patterns b) k)) (q (n + length (tree_patterns a)) (back n (tree_patterns a) (tree_patterns b) k)))
    (λ a b p q n h.
    let k = subst (NumberedFrom n) (patterns-Union a b) h in
    every-Union ok a b ∙ and_from (every_leaf ok a) (every_leaf ok b) (p n (front n (tree_patterns a) (tree_patterns b) k)) (q (n + length (tree_patterns a)) (back n (tree_patterns a) (tree_patterns b) k)))
    (λ c a p n h. every-Filter ok c a ∙ p n (subst (NumberedFrom n) (patterns-Filter c a) h))

pub query-apart : (q : Query) → NumberedFrom 1 (tree_patterns q.tree) → every_leaf are_numbered_apart q.tree ≡ true
query-apart q h = tree-apart q.tree 1 h
