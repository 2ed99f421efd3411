-- The patterns of a query have the numbers from 1 on, in order of the text.
use Rattle.std.specs.Prelude.{◌≡◌, ℕ, Bool, suc, ◌+◌, List, [], ◌∷◌, ◌++◌, length, map, refl}
use Rattle.std.proofs.Common.{sym, ap, ◌∙◌, subst, arith}
use Rattle.std.specs.List.{AllByRecursion}
use Rattle.query_meaning.specs.declared.pattern.Pattern.{Pattern}
use Rattle.query_meaning.specs.declared.expression.TruthExpr.{TruthExpr}
use Rattle.query_meaning.specs.declared.query.Element.{Element, fold-Element}
use Rattle.query_meaning.specs.declared.query.Element.TheFolds.{fold-roll-Element}
use Rattle.query_meaning.specs.declared.query.Element.TheVariants as v
use Rattle.query_meaning.specs.declared.query.Element.TheOpen as layer
use Rattle.query_meaning.specs.declared.query.Group.{Group, fold-Group, fold_out-Group}
use Rattle.query_meaning.specs.declared.query.Query.{Query}
use Rattle.sparql_grammar_meaning.specs.Grammar.{group_of}
use Rattle.sparql_meaning.specs.declared.gathered.Gathered.{Gathered}
use Rattle.sparql_meaning.specs.Translation.{Part, part, group, take_part, take_parts, nothing_yet, whole}
use Rattle.sparql_query_meaning.specs.declared.refusal.QueryLimit.{QueryLimit}
use Rattle.sparql_query_meaning.specs.Queries.{Numbered, numbered, Numbering, made_by, number_patterns, number_all, number_element, number_group, numbered_group, IsQueryWithin, is_query}
use Rattle.sparql_translation_laws.specs.Parts.{part-Triples, part-Optional, part-Unions, part-Condition, group_opened}
use Rattle.sparql_translation_laws.specs.GroupInduction.{OfGroup, IsPassedUp, every_group}
use Rattle.sparql_translation_laws.specs.TreePatterns.{tree_patterns, patterns-Leaf, gathered_patterns, all_gathered, part_patterns, patterns-take, patterns-whole}

-- the first pattern has this number, and each other one the next
abbrev pub NumberedFrom : ℕ → List Pattern → Type 0
NumberedFrom n [] = Unit {0}
NumberedFrom n (p ∷ ps) = (p.number ≡ n) × NumberedFrom (suc n) ps

-- up to before the second number
abbrev pub Numbers : ℕ → List Pattern → ℕ → Type 0
Numbers n [] m = n ≡ m
Numbers n (p ∷ ps) m = (p.number ≡ n) × Numbers (suc n) ps m

numbers-from : (n m : ℕ) (ps : List Pattern) → Numbers n ps m → NumberedFrom n ps
numbers-from n m [] h = tt
numbers-from n m (p ∷ ps) h = (h.0, numbers-from (suc n) m ps h.1)

numbers-append : (n m k : ℕ) (ps qs : List Pattern) → Numbers n ps m → Numbers m qs k → Numbers n (ps ++ qs) k
numbers-append n m k [] qs e h = subst (λ x. Numbers x qs k) (sym e) h
numbers-append n m k (p ∷ ps) qs e h = (e.0, numbers-append (suc n) m k ps qs e.1 h)

numbers-patterns : (n : ℕ) (ps : List Pattern) → Numbers n (number_patterns n ps) (n + length ps)
numbers-patterns n [] = omega arith
numbers-patterns n (p ∷ ps) =
    let e : suc n + length ps ≡ n + length (p ∷ ps) = omega arith in
    (refl, subst (λ m. Numbers (suc n) (number_patterns (suc n) ps) m) e (numbers-patterns (suc n) ps))

-- ---- numbering, by the constructor

abbrev pub number : Element → Numbering Element
number x = fold-Element (Numbering Element) (Numbering Group) number_element number_group x

abbrev pub number_in : Group → Numbering Group
number_in g = fold-Group (Numbering Element) (Numbering Group) number_element number_group g

pub number-Triples : (ps : List Pattern) (n : ℕ) → number (v.Triples ps) n ≡ numbered (v.Triples (number_patterns n ps)) (n + length ps)
number-Triples ps n = ap (λ x. number x n) (sym (v.rolls-Triples ps)) ∙ ap (λ (f : Numbering Element). f n) (fold-roll-Element (Numbering Element) (Numbering Group) number_element number_group (layer.Triples ps))

pub number-Optional : (g : Group) (n : ℕ) → number (v.Optional g) n ≡ made_by v.Optional (number_in g n)
number-Optional g n = ap (λ x. number x n) (sym (v.rolls-Optional g)) ∙ ap (λ (f : Numbering Element). f n) (fold-roll-Element (Numbering Element) (Numbering Group) number_element number_group (layer.Optional g))

pub number-Unions : (gs : List Group) (n : ℕ) → number (v.Unions gs) n ≡ made_by v.Unions (number_all (map number_in gs) n)
number-Unions gs n = ap (λ x. number x n) (sym (v.rolls-Unions gs)) ∙ ap (λ (f : Numbering Element). f n) (fold-roll-Element (Numbering Element) (Numbering Group) number_element number_group (layer.Unions gs))

pub number-Condition : (c : TruthExpr) (n : ℕ) → number (v.Condition c) n ≡ numbered (v.Condition c) n
number-Condition c n = ap (λ x. number x n) (sym (v.rolls-Condition c)) ∙ ap (λ (f : Numbering Element). f n) (fold-roll-Element (Numbering Element) (Numbering Group) number_element number_group (layer.Condition c))

pub number_in-opened : (g : Group) (n : ℕ) → number_in g n ≡ made_by group_of (number_all (map number g.elements) n)
number_in-opened g n = ap (λ (f : Numbering Group). f n) (fold_out-Group (Numbering Element) (Numbering Group) number_element number_group g)

-- ---- an element's patterns have the numbers that its numbering uses up

pub record Counted (x : Element) : Type 0 where
  pub numbers : (n : ℕ) → Numbers n (part_patterns (part (number x n).made)) (number x n).after

counted_list : (es : List Element) → AllByRecursion Counted es → (n start : ℕ) (before : Gathered) → Numbers start (gathered_patterns before) n →
    Numbers start (gathered_patterns (take_parts before (map part (number_all (map number es) n).made))) (number_all (map number es) n).after
counted_list [] c n start before h = h
counted_list (e ∷ es) c n start before h =
    counted_list es c.1 (number e n).after start (take_part before (part (number e n).made))
    (subst (λ (ps : List Pattern). Numbers start ps (number e n).after) (sym (patterns-take before (part (number e n).made)))
    (numbers-append start n (number e n).after (gathered_patterns before) (part_patterns (part (number e n).made)) h (c.0.numbers n)))

none_yet : (n : ℕ) → Numbers n (gathered_patterns nothing_yet) n
none_yet n = subst (λ (ps : List Pattern). Numbers n (ps ++ []) n) (sym (patterns-Leaf [])) refl

pub counted_group : (g : Group) → OfGroup Counted g → (n : ℕ) → Numbers n (gathered_patterns (group (number_in g n).made)) (number_in g n).after
counted_group g c n =
    subst (λ (y : Numbered Group). Numbers n (gathered_patterns (group y.made)) y.after) (sym (number_in-opened g n))
    (subst (λ (x : Gathered). Numbers n (gathered_patterns x) (number_all (map number g.elements) n).after) (sym (group_opened (group_of (number_all (map number g.elements) n).made)))
    (counted_list g.elements c n n nothing_yet (none_yet n)))

counted_groups : (gs : List Group) → AllByRecursion (OfGroup Counted) gs → (n : ℕ) → Numbers n (all_gathered (map group (number_all (map number_in gs) n).made)) (number_all (map number_in gs) n).after
counted_groups [] c n = refl
counted_groups (g ∷ gs) c n =
    numbers-append n (number_in g n).after (number_all (map number_in gs) (number_in g n).after).after (gathered_patterns (group (number_in g n).made))
    (all_gathered (map group (number_all (map number_in gs) (number_in g n).after).made)) (counted_group g c.0 n) (counted_groups gs c.1 (number_in g n).after)

made_numbers : (x : Element) (n : ℕ) (y : Numbered Element) (q : Part) → number x n ≡ y → part y.made ≡ q → Numbers n (part_patterns q) y.after → Numbers n (part_patterns (part (number x n).made)) (number x n).after
made_numbers x n y q e f h =
    subst (λ (z : Numbered Element). Numbers n (part_patterns (part z.made)) z.after) (sym e) (subst (λ (z : Part). Numbers n (part_patterns z) y.after) (sym f) h)

pub counted : IsPassedUp Counted
counted = record {
  triples = λ ps. record { numbers = λ n. made_numbers (v.Triples ps) n _ _ (number-Triples ps n) (part-Triples (number_patterns n ps)) (numbers-patterns n ps) };
  optional = λ g c. record { numbers = λ n. made_numbers (v.Optional g) n _ _ (number-Optional g n) (part-Optional (number_in g n).made) (counted_group g c n) };
  unions = λ gs c. record { numbers = λ n. made_numbers (v.Unions gs) n _ _ (number-Unions gs n) (part-Unions (number_all (map number_in gs) n).made) (counted_groups gs c n) };
  condition = λ c. record { numbers = λ n. made_numbers (v.Condition c) n _ _ (number-Condition c n) (part-Condition c) refl };
}

-- ---- the whole query

numbered_whole : (g : Group) → NumberedFrom 1 (tree_patterns (whole (group (numbered_group g))))
numbered_whole g =
    subst (λ (ps : List Pattern). NumberedFrom 1 ps) (sym (patterns-whole (group (numbered_group g))))
    (numbers-from 1 (number_in g 1).after (gathered_patterns (group (numbered_group g))) (counted_group g (every_group Counted counted g) 1))

pub query_numbered : (counts : QueryLimit → Bool) (bytes : List ℕ) (q : Query) → IsQueryWithin counts bytes q → NumberedFrom 1 (tree_patterns q.tree)
query_numbered counts bytes q (is_query ts w long cut quiet reads e) =
    subst (λ (x : Query). NumberedFrom 1 (tree_patterns x.tree)) (sym e) (numbered_whole (group_of w.elements))
