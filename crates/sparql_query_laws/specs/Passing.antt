-- Tests that all patterns and all expressions of a tree pass, and what of a group passes with its translation.
use Rattle.std.specs.Prelude.{◌≡◌, ℕ, suc, Bool, true, false, ◌&&◌, if◌then◌else◌, List, [], ◌∷◌, map, Option, Some, None, refl}
use Rattle.std.specs.List.{list_all, AllByRecursion}
use Rattle.std.proofs.Common.{sym, ap, ◌∙◌, subst}
use Rattle.bags.specs.BagLaws.{each-append}
use Rattle.query_meaning.specs.declared.pattern.Pattern.{Pattern}
use Rattle.query_meaning.specs.declared.expression.TruthExpr.{TruthExpr}
use Rattle.query_meaning.specs.declared.tree.Tree.{Tree, fold-Tree}
use Rattle.query_meaning.specs.declared.tree.Tree.TheVariants as trees
use Rattle.query_meaning.specs.declared.tree.Tree.TheOpen as layer
use Rattle.query_meaning.specs.declared.tree.Tree.TheOpen.{Tree-F}
use Rattle.query_meaning.specs.declared.tree.Tree.TheFolds.{fold-roll-Tree}
use Rattle.query_meaning.specs.declared.tree.Tree.TheViews as views
use Rattle.query_meaning.specs.declared.query.Element.{Element}
use Rattle.query_meaning.specs.declared.query.Element.TheVariants as v
use Rattle.query_meaning.specs.declared.query.Group.{Group}
use Rattle.sparql_grammar_meaning.specs.Grammar.{group_of}
use Rattle.sparql_meaning.specs.declared.gathered.Gathered.{Gathered}
use Rattle.sparql_meaning.specs.Translation.{Leaf, is_empty, joined, with_patterns, conjunction, under, bare, whole, Part, patterns, optional, unions, condition, union_from, take_part, take_parts, nothing_yet, part, group}
use Rattle.sparql_query_meaning.specs.Queries.{Numbered, with_number, number_patterns, number_all, numbered_group}
use Rattle.sparql_translation_laws.specs.Parts.{part-Triples, part-Optional, part-Unions, part-Condition, group_opened}
use Rattle.sparql_fragment_laws.specs.Numbers.{number, number_in, number-Triples, number-Optional, number-Unions, number-Condition, number_in-opened}

pub both_true : {a b : Bool} → a ≡ true → b ≡ true → (a && b) ≡ true
both_true {b = b} e f = ap (λ (z : Bool). z && b) e ∙ f

abbrev pub condition_passes : (TruthExpr → Bool) → Option TruthExpr → Bool
condition_passes test None = true
condition_passes test (Some e) = test e

abbrev pub passes_step : (Pattern → Bool) → (TruthExpr → Bool) → Tree-F Leaf Bool → Bool
passes_step p test (layer.Leaf ps) = list_all p ps
passes_step p test (layer.Join a b) = a && b
passes_step p test (layer.LeftJoin a b e) = (a && b) && condition_passes test e
passes_step p test (layer.Union a b) = a && b
passes_step p test (layer.Filter e a) = test e && a

-- each pattern of the tree passes the first test, and each expression the second
abbrev pub tree_passes : (Pattern → Bool) → (TruthExpr → Bool) → Tree Leaf → Bool
tree_passes p test = fold-Tree Leaf Bool (passes_step p test)

-- ---- by the constructor

module _ (p : Pattern → Bool) (test : TruthExpr → Bool) where
  pub passes-Leaf : (ps : Leaf) → tree_passes p test (trees.Leaf ps) ≡ list_all p ps
  passes-Leaf ps = ap (tree_passes p test) (sym (views.rolls-Leaf ps)) ∙ fold-roll-Tree Leaf Bool (passes_step p test) (layer.Leaf ps)

  pub passes-Join : (a b : Tree Leaf) → tree_passes p test (trees.Join a b) ≡ (tree_passes p test a && tree_passes p test b)
  passes-Join a b = ap (tree_passes p test) (sym (views.rolls-Join a b)) ∙ fold-roll-Tree Leaf Bool (passes_step p test) (layer.Join a b)

  pub passes-LeftJoin : (a b : Tree Leaf) (e : Option TruthExpr) → tree_passes p test (trees.LeftJoin a b e) ≡ ((tree_passes p test a && tree_passes p test b) && condition_passes test e)
  passes-LeftJoin a b e = ap (tree_passes p test) (sym (views.rolls-LeftJoin a b e)) ∙ fold-roll-Tree Leaf Bool (passes_step p test) (layer.LeftJoin a b e)

  pub passes-Union : (a b : Tree Leaf) → tree_passes p test (trees.Union a b) ≡ (tree_passes p test a && tree_passes p test b)
  passes-Union a b = ap (tree_passes p test) (sym (views.rolls-Union a b)) ∙ fold-roll-Tree Leaf Bool (passes_step p test) (layer.Union a b)

  pub passes-Filter : (e : TruthExpr) (a : Tree Leaf) → tree_passes p test (trees.Filter e a) ≡ (test e && tree_passes p test a)
  passes-Filter e a = ap (tree_passes p test) (sym (views.rolls-Filter e a)) ∙ fold-roll-Tree Leaf Bool (passes_step p test) (layer.Filter e a)

-- ---- what is translated: a group's own conditions pass a test, and their conjunction one of the tree

pub record Tests : Type 0 where
  pub pattern : Pattern → Bool
  pub own : TruthExpr → Bool
  pub joint : TruthExpr → Bool
  -- the number of a pattern doesn't count
  pub unnumbered : (n : ℕ) (q : Pattern) → pattern (with_number n q) ≡ pattern q
  pub conjoined : (es : List TruthExpr) → AllByRecursion (λ e. own e ≡ true) es → condition_passes joint (conjunction es) ≡ true

abbrev pub TreePasses : Tests → Tree Leaf → Type 0
TreePasses x t = tree_passes x.pattern x.joint t ≡ true

abbrev pub PatternPasses : Tests → Pattern → Type 0
PatternPasses x q = x.pattern q ≡ true

abbrev pub OwnPasses : Tests → TruthExpr → Type 0
OwnPasses x e = x.own e ≡ true

pub record GatheredPasses (x : Tests) (g : Gathered) : Type 0 where
  pub tree : TreePasses x g.tree
  pub patterns : AllByRecursion (PatternPasses x) g.patterns
  pub conditions : AllByRecursion (OwnPasses x) g.conditions

abbrev pub PartPasses : Tests → Part → Type 0
PartPasses x (patterns ps) = AllByRecursion (PatternPasses x) ps
PartPasses x (optional g) = GatheredPasses x g
PartPasses x (unions gs) = AllByRecursion (GatheredPasses x) gs
PartPasses x (condition e) = OwnPasses x e

pub all_pass : {X : Type 0} (f : X → Bool) (xs : List X) → AllByRecursion (λ y. f y ≡ true) xs → list_all f xs ≡ true
all_pass f [] h = refl
all_pass f (x ∷ xs) h = both_true h.0 (all_pass f xs h.1)

module _ (x : Tests) where
  leaf_passes : (ps : Leaf) → AllByRecursion (PatternPasses x) ps → TreePasses x (trees.Leaf ps)
  leaf_passes ps h = passes-Leaf x.pattern x.joint ps ∙ all_pass x.pattern ps h

  chosen : (b : Bool) (before t : Tree Leaf) → TreePasses x before → TreePasses x t → TreePasses x (if b then t else trees.Join before t)
  chosen true before t h k = k
  chosen false before t h k = passes-Join x.pattern x.joint before t ∙ both_true h k

  joined_passes : (before t : Tree Leaf) → TreePasses x before → TreePasses x t → TreePasses x (joined before t)
  joined_passes before t h k = chosen (is_empty before) before t h k

  with_passes : (before : Tree Leaf) (ps : Leaf) → TreePasses x before → AllByRecursion (PatternPasses x) ps → TreePasses x (with_patterns before ps)
  with_passes before [] h k = h
  with_passes before (q ∷ qs) h k = joined_passes before (trees.Leaf (q ∷ qs)) h (leaf_passes (q ∷ qs) k)

  under_passes : (c : Option TruthExpr) (t : Tree Leaf) → condition_passes x.joint c ≡ true → TreePasses x t → TreePasses x (under c t)
  under_passes None t h k = k
  under_passes (Some e) t h k = passes-Filter x.pattern x.joint e t ∙ both_true h k

  bare_passes : (g : Gathered) → GatheredPasses x g → TreePasses x (bare g)
  bare_passes g h = with_passes g.tree g.patterns h.tree h.patterns

  pub whole_passes : (g : Gathered) → GatheredPasses x g → TreePasses x (whole g)
  whole_passes g h = under_passes (conjunction g.conditions) (bare g) (x.conjoined g.conditions h.conditions) (bare_passes g h)

  union_passes : (t : Tree Leaf) (gs : List Gathered) → TreePasses x t → AllByRecursion (GatheredPasses x) gs → TreePasses x (union_from t gs)
  union_passes t [] h k = h
  union_passes t (g ∷ gs) h k = union_passes (trees.Union t (whole g)) gs (passes-Union x.pattern x.joint t (whole g) ∙ both_true h (whole_passes g k.0)) k.1

  take_passes : (g : Gathered) (q : Part) → GatheredPasses x g → PartPasses x q → GatheredPasses x (take_part g q)
  take_passes g (patterns ps) h k = record { tree = h.tree; patterns = each-append (PatternPasses x) g.patterns ps h.patterns k; conditions = h.conditions }
  take_passes g (optional o) h k =
      record {
        tree = passes-LeftJoin x.pattern x.joint (bare g) (bare o) (conjunction o.conditions)
            ∙ both_true (both_true (bare_passes g h) (bare_passes o k)) (x.conjoined o.conditions k.conditions);
        patterns = tt;
        conditions = h.conditions;
      }
  take_passes g (unions []) h k = h
  take_passes g (unions (u ∷ us)) h k =
      record {
        tree = joined_passes (bare g) (union_from (whole u) us) (bare_passes g h) (union_passes (whole u) us (whole_passes u k.0) k.1);
        patterns = tt;
        conditions = h.conditions;
      }
  take_passes g (condition e) h k = record { tree = h.tree; patterns = h.patterns; conditions = each-append (OwnPasses x) g.conditions (e ∷ []) h.conditions (k, tt) }

  none_passes : GatheredPasses x nothing_yet
  none_passes = record { tree = leaf_passes [] tt; patterns = tt; conditions = tt }

  -- ---- elements and groups, whatever their numbers

  pub record ElementPasses (e : Element) : Type 0 where
    pub made : (n : ℕ) → PartPasses x (part (number e n).made)

  pub record GroupPasses (g : Group) : Type 0 where
    pub made : (n : ℕ) → GatheredPasses x (group (number_in g n).made)

  part_is : (e : Element) (n : ℕ) (y : Numbered Element) (q : Part) → number e n ≡ y → part y.made ≡ q → PartPasses x q → PartPasses x (part (number e n).made)
  part_is e n y q i j h = subst (λ (z : Numbered Element). PartPasses x (part z.made)) (sym i) (subst (PartPasses x) (sym j) h)

  numbered_pass : (n : ℕ) (ps : List Pattern) → AllByRecursion (PatternPasses x) ps → AllByRecursion (PatternPasses x) (number_patterns n ps)
  numbered_pass n [] h = tt
  numbered_pass n (q ∷ qs) h = (x.unnumbered n q ∙ h.0, numbered_pass (suc n) qs h.1)

  all_numbered : (gs : List Group) (n : ℕ) → AllByRecursion GroupPasses gs → AllByRecursion (GatheredPasses x) (map group (number_all (map number_in gs) n).made)
  all_numbered [] n h = tt
  all_numbered (g ∷ gs) n h = (h.0.made n, all_numbered gs (number_in g n).after h.1)

  pub triples_pass : (ps : List Pattern) → AllByRecursion (PatternPasses x) ps → ElementPasses (v.Triples ps)
  triples_pass ps h = record { made = λ n. part_is (v.Triples ps) n _ _ (number-Triples ps n) (part-Triples (number_patterns n ps)) (numbered_pass n ps h) }

  pub optional_passes : (g : Group) → GroupPasses g → ElementPasses (v.Optional g)
  optional_passes g h = record { made = λ n. part_is (v.Optional g) n _ _ (number-Optional g n) (part-Optional (number_in g n).made) (h.made n) }

  pub unions_pass : (gs : List Group) → AllByRecursion GroupPasses gs → ElementPasses (v.Unions gs)
  unions_pass gs h = record { made = λ n. part_is (v.Unions gs) n _ _ (number-Unions gs n) (part-Unions (number_all (map number_in gs) n).made) (all_numbered gs n h) }

  pub condition_pass : (c : TruthExpr) → OwnPasses x c → ElementPasses (v.Condition c)
  condition_pass c h = record { made = λ n. part_is (v.Condition c) n _ _ (number-Condition c n) (part-Condition c) h }

  all_taken : (es : List Element) (n : ℕ) (before : Gathered) → AllByRecursion ElementPasses es → GatheredPasses x before → GatheredPasses x (take_parts before (map part (number_all (map number es) n).made))
  all_taken [] n before h k = k
  all_taken (e ∷ es) n before h k = all_taken es (number e n).after (take_part before (part (number e n).made)) h.1 (take_passes before (part (number e n).made) k (h.0.made n))

  pub group_passes : (es : List Element) → AllByRecursion ElementPasses es → GroupPasses (group_of es)
  group_passes es h = record {
    made = λ n.
        subst (λ (y : Numbered Group). GatheredPasses x (group y.made)) (sym (number_in-opened (group_of es) n))
        (subst (GatheredPasses x) (sym (group_opened (group_of (number_all (map number es) n).made))) (all_taken es n nothing_yet h none_passes));
  }

  -- the tree of a query
  pub translated_passes : (es : List Element) → AllByRecursion ElementPasses es → TreePasses x (whole (group (numbered_group (group_of es))))
  translated_passes es h = whole_passes (group (numbered_group (group_of es))) ((group_passes es h).made 1)
