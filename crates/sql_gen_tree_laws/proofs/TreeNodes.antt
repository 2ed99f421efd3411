-- The out of a tree stands for the tree.
use Rattle.std.specs.Prelude.{◌&&◌, ◌++◌, ◌+◌, ◌∷◌, ◌≡◌, ◌≤◌, pos, refl, Bool, List, None, Option, Some, [], true, ℕ}
use Rattle.std.proofs.Common.{◌∙◌, ap, ap₂, arith, subst, sym}
use Rattle.std.proofs.lemmas.Bool.{and_from, and_parts, leb-true}
use Rattle.std.proofs.lemmas.List.{append-nil, append_assoc}
use Rattle.std.proofs.lemmas.List.Folds.{list_all-append}
use Rattle.std.specs.List.{AllByRecursion, list_all}
use Rattle.bags.specs.Bag.{total}
use Rattle.table_meaning.specs.Ints.{is_wide_int}
use Rattle.layout_meaning.specs.Facts.{FactsOf, IdOf}
use Rattle.query_meaning.specs.declared.expression.TruthExpr.{TruthExpr}
use Rattle.query_meaning.specs.declared.tree.Tree.{Tree}
use Rattle.query_meaning.specs.declared.tree.Tree.TheVariants as trees
use Rattle.query_algebra_laws.specs.TreeInduction.{tree_induction}
use Rattle.query_plan_meaning.specs.declared.plan.Plan.{Plan}
use Rattle.query_plan_meaning.specs.declared.star.Star.{Star}
use Rattle.query_plan_meaning.specs.Stars.{star_in_width}
use Rattle.query_plan_meaning.specs.Plans.{every_leaf, expressions_of, leaf_fits, present}
use Rattle.query_plan_meaning.specs.PlanLaws.{every-Filter, every-Join, every-Leaf, every-LeftJoin, every-Union, expressions-Filter, expressions-Join, expressions-LeftJoin, expressions-Union}
use Rattle.query_merging_meaning.specs.Accesses.{accesses, star_accesses}
use Rattle.query_merging_meaning.specs.Merging.{is_plain_where_several}
use Rattle.query_merging_meaning.proofs.AccessLaws.{accesses-Filter, accesses-Join, accesses-Leaf, accesses-LeftJoin, accesses-Union}
use Rattle.sql_meaning.specs.Scripts.{most_levels}
use Rattle.sql_gen_filter_meaning.specs.Connectives.{connectives}
use Rattle.sql_gen_filter_meaning.specs.ConditionVariables.{condition_variables, truth_variables}
use Rattle.sql_gen_filter_meaning.specs.Filters.{filter_sql}
use Rattle.sql_gen_filter_meaning.specs.Leaves.{truth_names}
use Rattle.sql_gen_filter_laws.proofs.Whole.{filter_means}
use Rattle.sql_gen_filter_form_laws.specs.Written.{is_written}
use Rattle.sql_gen_filter_form_laws.proofs.ConditionNames.{are_variables, condition_named, once}
use Rattle.sql_gen_filter_form_laws.proofs.Forms.{forms_hold}
use Rattle.sql_gen_filter_form_laws.proofs.TruthKinds.{kinds_hold}
use Rattle.sql_gen_filter_form_laws.proofs.Whole.{filter_holds}
use Rattle.sql_gen_form_laws.specs.Fits.{ExprFits}
use Rattle.query_eval_meaning.specs.Mapping.{width}
use Rattle.sql_gen_meaning.specs.Compilable.{AreColumns, Compilable, has_few_arms, is_shallow, star_is_told}
use Rattle.sql_gen_out_laws.specs.Outs.{Out, StandsForNode}
use Rattle.sql_gen_node_laws.specs.Nodes.{IsCondition, filtered_out, joined_out, united_out}
use Rattle.sql_gen_node_laws.proofs.BothNodes.{join-of_nodes, optional-of_nodes, union-of_nodes}
use Rattle.sql_gen_node_laws.proofs.Conditional.{conditional-of_nodes}
use Rattle.sql_gen_node_laws.proofs.Leaves.{join-of_leaves}
use Rattle.sql_gen_node_laws.proofs.LoneNodes.{empty-leaf, filter-of_nodes}
use Rattle.sql_gen_star_out_laws.specs.StarOuts.{star_out}
use Rattle.sql_gen_star_out_laws.proofs.StarNodes.{stars-stand}
use Rattle.sql_gen_tree_laws.specs.TreeOuts.{leaf_out, left_joined_out, stars_out, tree_out}
use Rattle.sql_gen_tree_laws.proofs.TreeLevels.{tree-Filter, tree-Join, tree-Leaf, tree-LeftJoin, tree-Union}

-- a condition that can be written and isn't too deep, in SQL
is-condition : (f : TruthExpr) → is_written f ≡ true → is_shallow f ≡ true → IsCondition f (condition_variables f) (filter_sql f)
is-condition f written shallow = record {
  means = filter_means (condition_variables f) f named;
  once = once (truth_variables f) width;
  in_width = are_variables (truth_variables f);
  truth = λ s seen. filter_holds (kinds_hold (condition_variables f) s seen) f named;
  fits = let h : ExprFits (9 + connectives f) (filter_sql f) = filter_holds forms_hold f written in record { form = h.form; depth = deep (connectives f) _ (leb-true (connectives f) 97 shallow) h.depth };
}
  where
    named : truth_names (condition_variables f) f ≡ true
    named = condition_named f written

    deep : (n d : ℕ) → n ≤ 97 → d ≤ 9 + n → d ≤ most_levels
    deep n d l k = omega arith

module _ (facts : FactsOf) (ids : List IdOf) where
  abbrev Stands : List Star → ℕ → Out → Type 0
  Stands stars p x = StandsForNode facts ids (trees.Leaf stars) p x

  moved : (ss ts : List Star) (p q : ℕ) (x : Out) → ss ≡ ts → p ≡ q → Stands ss p x → Stands ts q x
  moved ss ts p q x e h s = subst (λ (n : ℕ). Stands ts n x) h (subst (λ (l : List Star). Stands l p x) e s)

  abbrev EachStands : List Star → Type 0
  EachStands stars = AllByRecursion (λ (star : Star). StandsForNode facts ids (trees.Leaf (star ∷ [])) (star_accesses facts star) (star_out facts ids star)) stars

  -- stars behind those of which an out is made
  further-stand : (ss more : List Star) (x : Out) (p : ℕ) → list_all star_in_width ss ≡ true → list_all star_in_width more ≡ true → Stands ss p x → EachStands more → Stands (ss ++ more) (p + total (star_accesses facts) more) (stars_out facts ids x more)
  further-stand ss [] x p v w s all = moved ss (ss ++ []) p (p + 0) x (sym (append-nil ss)) (omega arith) s
  further-stand ss (star ∷ more) x p v w s all =
      moved ((ss ++ (star ∷ [])) ++ more) (ss ++ (star ∷ more)) (p + star_accesses facts star + 0 + total (star_accesses facts) more) (p + (star_accesses facts star + total (star_accesses facts) more))
      (stars_out facts ids (joined_out x (star_out facts ids star)) more) (append_assoc ss (star ∷ []) more) (omega arith)
      (further-stand (ss ++ (star ∷ [])) more (joined_out x (star_out facts ids star)) (p + star_accesses facts star + 0) wide parts.1
      (join-of_leaves facts ids ss (star ∷ []) x (star_out facts ids star) p (star_accesses facts star) wide s all.0) all.1)
    where
      parts : (star_in_width star ≡ true) × (list_all star_in_width more ≡ true)
      parts = and_parts (star_in_width star) (list_all star_in_width more) w

      wide : list_all star_in_width (ss ++ (star ∷ [])) ≡ true
      wide = list_all-append star_in_width ss (star ∷ []) ∙ and_from (list_all star_in_width ss) (list_all star_in_width (star ∷ [])) v (and_from (star_in_width star) true parts.0 refl)

  leaf-stands : (stars : List Star) → list_all star_in_width stars ≡ true → EachStands stars → Stands stars (total (star_accesses facts) stars) (leaf_out facts ids stars)
  leaf-stands [] w all = empty-leaf facts ids
  leaf-stands (star ∷ stars) w all =
      let parts = and_parts (star_in_width star) (list_all star_in_width stars) w in
      further-stand (star ∷ []) stars (star_out facts ids star) (star_accesses facts star) (and_from (star_in_width star) true parts.0 refl) parts.1 all.0 all.1

  abbrev Node : Tree (List Star) → ℕ → Out → Type 0
  Node t p x = StandsForNode facts ids t p x

  moved-node : (t : Tree (List Star)) (p q : ℕ) (x y : Out) → p ≡ q → x ≡ y → Node t p x → Node t q y
  moved-node t p q x y e h s = subst (λ (z : Out). Node t q z) h (subst (λ (n : ℕ). Node t n x) e s)

  -- what is asked of a tree
  record IsAskedTree (t : Tree (List Star)) : Type 0 where
    pub fits : every_leaf leaf_fits t ≡ true
    pub in_width : every_leaf (list_all star_in_width) t ≡ true
    pub told : every_leaf (list_all (star_is_told ids)) t ≡ true
    pub plain : every_leaf (list_all (is_plain_where_several facts.spilled)) t ≡ true
    pub few_arms : every_leaf (list_all has_few_arms) t ≡ true
    pub shallow : list_all is_shallow (expressions_of t) ≡ true
    pub written : list_all is_written (expressions_of t) ≡ true

  -- what is asked of a tree of two parts is asked of both
  both-asked : (n a b : Tree (List Star)) → ((p : List Star → Bool) → every_leaf p n ≡ (every_leaf p a && every_leaf p b)) →
      ((q : TruthExpr → Bool) → list_all q (expressions_of n) ≡ true → (list_all q (expressions_of a) ≡ true) × (list_all q (expressions_of b) ≡ true)) → IsAskedTree n → IsAskedTree a × IsAskedTree b
  both-asked n a b leaves conditions asked =
      let fits = split leaf_fits asked.fits in
      let wide = split (list_all star_in_width) asked.in_width in
      let told = split (list_all (star_is_told ids)) asked.told in
      let plain = split (list_all (is_plain_where_several facts.spilled)) asked.plain in
      let few = split (list_all has_few_arms) asked.few_arms in
      let shallow = conditions is_shallow asked.shallow in
      let written = conditions is_written asked.written in (
        record { fits = fits.0; in_width = wide.0; told = told.0; plain = plain.0; few_arms = few.0; shallow = shallow.0; written = written.0 },
        record { fits = fits.1; in_width = wide.1; told = told.1; plain = plain.1; few_arms = few.1; shallow = shallow.1; written = written.1 },
      )
    where
      split : (p : List Star → Bool) → every_leaf p n ≡ true → (every_leaf p a ≡ true) × (every_leaf p b ≡ true)
      split p e = and_parts (every_leaf p a) (every_leaf p b) (sym (leaves p) ∙ e)

  two-lists : (q : TruthExpr → Bool) (es fs gs : List TruthExpr) → es ≡ fs ++ gs → list_all q es ≡ true → (list_all q fs ≡ true) × (list_all q gs ≡ true)
  two-lists q es fs gs is e = and_parts (list_all q fs) (list_all q gs) (sym (list_all-append q fs gs) ∙ sym (ap (list_all q) is) ∙ e)

  join-asked : (a b : Tree (List Star)) → IsAskedTree (trees.Join a b) → IsAskedTree a × IsAskedTree b
  join-asked a b =
      both-asked (trees.Join a b) a b (λ p. every-Join p a b) (λ q. two-lists q (expressions_of (trees.Join a b)) (expressions_of a) (expressions_of b) (expressions-Join a b))

  union-asked : (a b : Tree (List Star)) → IsAskedTree (trees.Union a b) → IsAskedTree a × IsAskedTree b
  union-asked a b =
      both-asked (trees.Union a b) a b (λ p. every-Union p a b) (λ q. two-lists q (expressions_of (trees.Union a b)) (expressions_of a) (expressions_of b) (expressions-Union a b))

  -- the condition comes last
  optional-parts : (a b : Tree (List Star)) (f : Option TruthExpr) (q : TruthExpr → Bool) → list_all q (expressions_of (trees.LeftJoin a b f)) ≡ true →
      (list_all q (expressions_of a) ≡ true) × ((list_all q (expressions_of b) ≡ true) × (list_all q (present f) ≡ true))
  optional-parts a b f q e =
      let first = two-lists q (expressions_of (trees.LeftJoin a b f)) (expressions_of a ++ expressions_of b) (present f) (expressions-LeftJoin a b f) e in
      let second = two-lists q (expressions_of a ++ expressions_of b) (expressions_of a) (expressions_of b) refl first.0 in
      (second.0, (second.1, first.1))

  optional-asked : (a b : Tree (List Star)) (f : Option TruthExpr) → IsAskedTree (trees.LeftJoin a b f) → IsAskedTree a × IsAskedTree b
  optional-asked a b f = both-asked (trees.LeftJoin a b f) a b (λ p. every-LeftJoin p a b f) (λ q e. let parts = optional-parts a b f q e in (parts.0, parts.1.0))

  filter-parts : (f : TruthExpr) (a : Tree (List Star)) (q : TruthExpr → Bool) → list_all q (expressions_of (trees.Filter f a)) ≡ true → (list_all q (expressions_of a) ≡ true) × (q f ≡ true)
  filter-parts f a q e =
      let parts = two-lists q (expressions_of (trees.Filter f a)) (expressions_of a) (f ∷ []) (expressions-Filter f a) e in
      (parts.0, (and_parts (q f) true parts.1).0)

  filter-asked : (f : TruthExpr) (a : Tree (List Star)) → IsAskedTree (trees.Filter f a) → IsAskedTree a
  filter-asked f a asked = record {
    fits = sym (every-Filter leaf_fits f a) ∙ asked.fits;
    in_width = sym (every-Filter (list_all star_in_width) f a) ∙ asked.in_width;
    told = sym (every-Filter (list_all (star_is_told ids)) f a) ∙ asked.told;
    plain = sym (every-Filter (list_all (is_plain_where_several facts.spilled)) f a) ∙ asked.plain;
    few_arms = sym (every-Filter (list_all has_few_arms) f a) ∙ asked.few_arms;
    shallow = (filter-parts f a is_shallow asked.shallow).0;
    written = (filter-parts f a is_written asked.written).0;
  }

  module _ (direct : AreColumns facts.direct) (reverse : AreColumns facts.reverse) (wide : list_all (λ (i : IdOf). is_wide_int (pos i.id)) ids ≡ true) where
    abbrev IsRight : Tree (List Star) → Type 0
    IsRight t = IsAskedTree t → Node t (accesses facts t) (tree_out facts ids t)

    leaf-node : (stars : List Star) → IsRight (trees.Leaf stars)
    leaf-node stars asked =
        moved-node (trees.Leaf stars) (total (star_accesses facts) stars) (accesses facts (trees.Leaf stars)) (leaf_out facts ids stars) (tree_out facts ids (trees.Leaf stars))
        (sym (accesses-Leaf facts stars)) (sym (tree-Leaf facts ids stars))
        (leaf-stands stars w
        (stars-stand facts ids (record { direct = direct; reverse = reverse; wide = wide }) stars (here leaf_fits asked.fits) w (here (list_all (star_is_told ids)) asked.told)
        (here (list_all (is_plain_where_several facts.spilled)) asked.plain) (here (list_all has_few_arms) asked.few_arms)))
      where
        here : (p : List Star → Bool) → every_leaf p (trees.Leaf stars) ≡ true → p stars ≡ true
        here p e = sym (every-Leaf p stars) ∙ e

        w : list_all star_in_width stars ≡ true
        w = here (list_all star_in_width) asked.in_width

    join-node : (a b : Tree (List Star)) → IsRight a → IsRight b → IsRight (trees.Join a b)
    join-node a b p q asked =
        let both = join-asked a b asked in
        let x = tree_out facts ids a in
        let y = tree_out facts ids b in
        moved-node (trees.Join a b) (accesses facts a + accesses facts b + 0) (accesses facts (trees.Join a b)) (joined_out x y) (tree_out facts ids (trees.Join a b))
        (omega (arith, accesses-Join facts a b)) (sym (tree-Join facts ids a b)) (join-of_nodes facts ids a b x y (accesses facts a) (accesses facts b) (p both.0) (q both.1))

    union-node : (a b : Tree (List Star)) → IsRight a → IsRight b → IsRight (trees.Union a b)
    union-node a b p q asked =
        let both = union-asked a b asked in
        let x = tree_out facts ids a in
        let y = tree_out facts ids b in
        moved-node (trees.Union a b) (accesses facts a + accesses facts b + 0) (accesses facts (trees.Union a b)) (united_out x y) (tree_out facts ids (trees.Union a b))
        (omega (arith, accesses-Union facts a b)) (sym (tree-Union facts ids a b)) (union-of_nodes facts ids a b x y (accesses facts a) (accesses facts b) (p both.0) (q both.1))

    left_joined : (a b : Tree (List Star)) (f : Option TruthExpr) (x y : Out) → list_all is_written (present f) ≡ true → list_all is_shallow (present f) ≡ true →
        Node a (accesses facts a) x → Node b (accesses facts b) y → Node (trees.LeftJoin a b f) (accesses facts a + accesses facts b + 0) (left_joined_out x y f)
    left_joined a b None x y written shallow p q = optional-of_nodes facts ids a b x y (accesses facts a) (accesses facts b) p q
    left_joined a b (Some f) x y written shallow p q =
        conditional-of_nodes facts ids a b f x y (condition_variables f) (filter_sql f) (accesses facts a) (accesses facts b)
        (is-condition f (and_parts (is_written f) true written).0 (and_parts (is_shallow f) true shallow).0) p q

    optional-node : (a b : Tree (List Star)) (f : Option TruthExpr) → IsRight a → IsRight b → IsRight (trees.LeftJoin a b f)
    optional-node a b f p q asked =
        let both = optional-asked a b f asked in
        let x = tree_out facts ids a in
        let y = tree_out facts ids b in
        moved-node (trees.LeftJoin a b f) (accesses facts a + accesses facts b + 0) (accesses facts (trees.LeftJoin a b f)) (left_joined_out x y f) (tree_out facts ids (trees.LeftJoin a b f))
        (omega (arith, accesses-LeftJoin facts a b f)) (sym (tree-LeftJoin facts ids a b f))
        (left_joined a b f x y (optional-parts a b f is_written asked.written).1.1 (optional-parts a b f is_shallow asked.shallow).1.1 (p both.0) (q both.1))

    filter-node : (f : TruthExpr) (a : Tree (List Star)) → IsRight a → IsRight (trees.Filter f a)
    filter-node f a p asked =
        let x = tree_out facts ids a in
        let condition = is-condition f (filter-parts f a is_written asked.written).1 (filter-parts f a is_shallow asked.shallow).1 in
        moved-node (trees.Filter f a) (accesses facts a + 0) (accesses facts (trees.Filter f a)) (filtered_out x (condition_variables f) (filter_sql f)) (tree_out facts ids (trees.Filter f a))
        (omega (arith, accesses-Filter facts f a)) (sym (tree-Filter facts ids f a)) (filter-of_nodes facts ids a f x (condition_variables f) (filter_sql f) (accesses facts a) condition (p (filter-asked f a asked)))

    tree-stands : (t : Tree (List Star)) → IsAskedTree t → Node t (accesses facts t) (tree_out facts ids t)
    tree-stands = tree_induction IsRight leaf-node join-node optional-node union-node filter-node

-- so it does for a plan that may be compiled
pub plan-stands : (plan : Plan) (facts : FactsOf) (ids : List IdOf) → Compilable plan facts ids → list_all (λ (i : IdOf). is_wide_int (pos i.id)) ids ≡ true → list_all is_written (expressions_of plan.tree) ≡ true →
    StandsForNode facts ids plan.tree (accesses facts plan.tree) (tree_out facts ids plan.tree)
plan-stands plan facts ids c wide written =
    tree-stands facts ids c.direct c.reverse wide plan.tree
    (record { fits = c.fits; in_width = c.in_width; told = c.told; plain = c.plain; few_arms = c.few_arms; shallow = c.shallow; written = written })
