-- Numbering, element by element.
use Rattle.std.proofs.Common.{ℕ, suc, ◌+◌, ◌≡◌, List, [], ◌∷◌, ◌++◌, length, map, sym, ap, ◌∙◌, append_assoc, arith}
use Rattle.std.proofs.lemmas.List.{append-nil}
use Rattle.query_meaning.specs.declared.pattern.Pattern.{Pattern}
use Rattle.query_meaning.specs.declared.expression.TruthExpr.{TruthExpr}
use Rattle.query_meaning.specs.declared.query.Element.{Element, fold-Element, fold-roll-Element}
use Rattle.query_meaning.specs.declared.query.Element.TheVariants as e
use Rattle.query_meaning.specs.declared.query.Element.TheOpen as layer
use Rattle.query_meaning.specs.declared.query.Group.{Group, fold-Group, fold_out-Group}
use Rattle.sparql_grammar_meaning.specs.Grammar.{group_of}
use Rattle.sparql_query_meaning.specs.Queries.{Numbered, numbered, with_number, number_patterns, Numbering, made_by, first_of, number_all, number_element, number_group}

abbrev pub number_part : Element → Numbering Element
number_part x = fold-Element (Numbering Element) (Numbering Group) number_element number_group x

abbrev pub number_whole : Group → Numbering Group
number_whole g = fold-Group (Numbering Element) (Numbering Group) number_element number_group g

pub number-Triples : (ps : List Pattern) (n : ℕ) → number_part (e.Triples ps) n ≡ numbered (e.Triples (number_patterns n ps)) (n + length ps)
number-Triples ps n = ap (λ x. number_part x n) (sym (e.rolls-Triples ps)) ∙ ap (λ f. f n) (fold-roll-Element (Numbering Element) (Numbering Group) number_element number_group (layer.Triples ps))

pub number-Optional : (g : Group) (n : ℕ) → number_part (e.Optional g) n ≡ made_by e.Optional (number_whole g n)
number-Optional g n = ap (λ x. number_part x n) (sym (e.rolls-Optional g)) ∙ ap (λ f. f n) (fold-roll-Element (Numbering Element) (Numbering Group) number_element number_group (layer.Optional g))

pub number-Unions : (gs : List Group) (n : ℕ) → number_part (e.Unions gs) n ≡ made_by e.Unions (number_all (map number_whole gs) n)
number-Unions gs n = ap (λ x. number_part x n) (sym (e.rolls-Unions gs)) ∙ ap (λ f. f n) (fold-roll-Element (Numbering Element) (Numbering Group) number_element number_group (layer.Unions gs))

pub number-Condition : (c : TruthExpr) (n : ℕ) → number_part (e.Condition c) n ≡ numbered (e.Condition c) n
number-Condition c n = ap (λ x. number_part x n) (sym (e.rolls-Condition c)) ∙ ap (λ f. f n) (fold-roll-Element (Numbering Element) (Numbering Group) number_element number_group (layer.Condition c))

pub number-Group : (g : Group) (n : ℕ) → number_whole g n ≡ made_by group_of (number_all (map number_part g.elements) n)
number-Group g n = ap (λ f. f n) (fold_out-Group (Numbering Element) (Numbering Group) number_element number_group g)

-- ---- loops

-- behind those that have their numbers
abbrev pub behind : {X : Type 0} → List X → Numbered (List X) → Numbered (List X)
behind xs r = numbered (xs ++ r.made) r.after

pub one_more : {X : Type 0} (xs : List X) (x : X) (r : Numbered (List X)) → behind xs (first_of x r) ≡ behind (xs ++ x ∷ []) r
one_more xs x r = ap (λ (l : List _). numbered l r.after) (sym (append_assoc xs (x ∷ []) r.made))

pub none_left : {X : Type 0} (xs : List X) (n : ℕ) → behind xs (number_all [] n) ≡ numbered xs n
none_left xs n = ap (λ (l : List _). numbered l n) (append-nil xs)

-- patterns in the same way
abbrev pub all_patterns : ℕ → List Pattern → Numbered (List Pattern)
all_patterns n ps = numbered (number_patterns n ps) (n + length ps)

pub one_pattern : (xs : List Pattern) (p : Pattern) (ps : List Pattern) (n : ℕ) → behind xs (all_patterns n (p ∷ ps)) ≡ behind (xs ++ with_number n p ∷ []) (all_patterns (n + 1) ps)
one_pattern xs p ps n = let i : suc n ≡ n + 1 = omega arith in let j : n + suc (length ps) ≡ n + 1 + length ps = omega arith in
    ap (λ (l : List Pattern). numbered l (n + suc (length ps))) (sym (append_assoc xs (with_number n p ∷ []) (number_patterns (suc n) ps)))
    ∙ ap (λ (m : ℕ). numbered ((xs ++ with_number n p ∷ []) ++ number_patterns m ps) (n + suc (length ps))) i
    ∙ ap (λ (m : ℕ). numbered ((xs ++ with_number n p ∷ []) ++ number_patterns (n + 1) ps) m) j

pub no_pattern : (xs : List Pattern) (n : ℕ) → behind xs (all_patterns n []) ≡ numbered xs n
no_pattern xs n = let i : n + 0 ≡ n = omega arith in ap (λ (l : List Pattern). numbered l (n + 0)) (append-nil xs) ∙ ap (numbered xs) i

pub ruleset number_laws = (number-Triples, number-Optional, number-Unions, number-Condition, number-Group, one_more, none_left, one_pattern, no_pattern)
