-- What the compiler makes of each kind of tree, by the tree's first level.
use Rattle.std.specs.Prelude.{◌≡◌, true, ◌++◌, ◌∷◌, [], refl, List, Option, Some, None, ℕ}
use Rattle.std.proofs.Common.{sym, ap, ap₂, ◌∙◌}
use Rattle.std.proofs.lemmas.Bool.{and_from}
use Rattle.std.proofs.lemmas.List.Folds.{list_all-append}
use Rattle.std.specs.List.{list_all}
use Rattle.layout_meaning.specs.Facts.{FactsOf, IdOf}
use Rattle.query_meaning.specs.declared.expression.TruthExpr.{TruthExpr}
use Rattle.query_meaning.specs.declared.tree.Tree.{Tree, out-Tree, fold_out-Tree, map-Tree}
use Rattle.query_meaning.specs.declared.tree.Tree.TheVariants as trees
use Rattle.query_meaning.specs.declared.tree.Tree.TheOpen as layer
use Rattle.query_meaning.specs.declared.tree.Tree.TheOpen.{Tree-F}
use Rattle.query_plan_meaning.specs.declared.star.Star.{Star}
use Rattle.query_plan_meaning.specs.Plans.{expressions_of, expressions_step, present}
use Rattle.sql_meaning.specs.declared.expression.SqlExpr.{SqlExpr}
use Rattle.sql_gen_filter_meaning.specs.ConditionVariables.{condition_variables}
use Rattle.sql_gen_filter_meaning.specs.Filters.{filter_sql}
use Rattle.sql_gen_filter_form_laws.specs.Written.{is_written}
use Rattle.sql_gen_out_laws.specs.Outs.{Out as Told}
use Rattle.sql_gen_node_laws.specs.Nodes.{joined_out, optional_out, united_out, filtered_out, conditional_out}
use Rattle.sql_gen_outs.specs.Told.{out_of}
use Rattle.sql_gen_outs.specs.declared.out.Out.{Out}
use Rattle.sql_gen_tree_laws.specs.TreeOuts.{leaf_out, left_joined_out}
use Rattle.sql_gen_tree_laws.proofs.TreeLevels.{tree_at-Leaf, tree_at-Join, tree_at-LeftJoin, tree_at-Union, tree_at-Filter}
use Rattle.sql_gen.specs.TreeOuts.{IsOutFor}

abbrev Stars : Type 0
Stars = Tree (List Star)

-- the conditions of a tree by its first level
opened : (n : Stars) (d : Tree-F (List Star) Stars) → out-Tree (List Star) n ≡ d → expressions_of n ≡ expressions_step (map-Tree (List Star) Stars (List TruthExpr) expressions_of d)
opened n d is = fold_out-Tree (List Star) (List TruthExpr) expressions_step n ∙ ap (λ (e : Tree-F (List Star) Stars). expressions_step (map-Tree (List Star) Stars (List TruthExpr) expressions_of e)) is

-- the condition of an optional part, if it has one
abbrev condition_of : Tree-F (List Star) Stars → Option TruthExpr
condition_of (layer.Leaf l) = None
condition_of (layer.Join a b) = None
condition_of (layer.LeftJoin a b c) = c
condition_of (layer.Union a b) = None
condition_of (layer.Filter c a) = Some c

-- it is the one that the tree was made with
pub same_condition : (n a b f g : Stars) (c d e : Option TruthExpr) → out-Tree (List Star) n ≡ layer.LeftJoin a b c → n ≡ trees.LeftJoin f g d → d ≡ e → out-Tree (List Star) n ≡ layer.LeftJoin a b e
unfolding out-Tree denote.Hole.Carrier.out
same_condition n a b f g c d e is made which =
    let same : c ≡ d = ap condition_of (sym is ∙ ap (out-Tree (List Star)) made) in
    is ∙ ap (λ (x : Option TruthExpr). layer.LeftJoin a b x) (same ∙ which)

all-written : (es fs gs : List TruthExpr) → es ≡ fs ++ gs → list_all is_written fs ≡ true → list_all is_written gs ≡ true → list_all is_written es ≡ true
all-written es fs gs is p q = ap (list_all is_written) is ∙ list_all-append is_written fs gs ∙ and_from (list_all is_written fs) (list_all is_written gs) p q

module _ (facts : FactsOf) (ids : List IdOf) where
  pub out-Leaf : (n : Stars) (stars : List Star) (x : Out) → out-Tree (List Star) n ≡ layer.Leaf stars → out_of x ≡ leaf_out facts ids stars → IsOutFor facts ids x n
  out-Leaf n stars x is h = record {
    same = h ∙ sym (tree_at-Leaf facts ids n stars is);
    written = ap (list_all is_written) (opened n (layer.Leaf stars) is);
  }

  pub out-Join : (n a b : Stars) (x y z : Out) → out-Tree (List Star) n ≡ layer.Join a b → IsOutFor facts ids x a → IsOutFor facts ids y b → out_of z ≡ joined_out (out_of x) (out_of y) → IsOutFor facts ids z n
  out-Join n a b x y z is p q h = record {
    same = h ∙ ap₂ joined_out p.same q.same ∙ sym (tree_at-Join facts ids n a b is);
    written = all-written (expressions_of n) (expressions_of a) (expressions_of b) (opened n (layer.Join a b) is) p.written q.written;
  }

  pub out-Union : (n a b : Stars) (x y z : Out) → out-Tree (List Star) n ≡ layer.Union a b → IsOutFor facts ids x a → IsOutFor facts ids y b → out_of z ≡ united_out (out_of x) (out_of y) → IsOutFor facts ids z n
  out-Union n a b x y z is p q h = record {
    same = h ∙ ap₂ united_out p.same q.same ∙ sym (tree_at-Union facts ids n a b is);
    written = all-written (expressions_of n) (expressions_of a) (expressions_of b) (opened n (layer.Union a b) is) p.written q.written;
  }

  left_joined : (n a b : Stars) (c : Option TruthExpr) (x y z : Out) → out-Tree (List Star) n ≡ layer.LeftJoin a b c → IsOutFor facts ids x a → IsOutFor facts ids y b → list_all is_written (present c) ≡ true →
      out_of z ≡ left_joined_out (out_of x) (out_of y) c → IsOutFor facts ids z n
  left_joined n a b c x y z is p q w h = record {
    same = h ∙ ap₂ (λ (s t : Told). left_joined_out s t c) p.same q.same ∙ sym (tree_at-LeftJoin facts ids n a b c is);
    written = all-written (expressions_of n) (expressions_of a ++ expressions_of b) (present c) (opened n (layer.LeftJoin a b c) is)
        (all-written (expressions_of a ++ expressions_of b) (expressions_of a) (expressions_of b) refl p.written q.written) w;
  }

  pub out-LeftJoin : (n a b : Stars) (x y z : Out) → out-Tree (List Star) n ≡ layer.LeftJoin a b None → IsOutFor facts ids x a → IsOutFor facts ids y b → out_of z ≡ optional_out (out_of x) (out_of y) → IsOutFor facts ids z n
  out-LeftJoin n a b x y z is p q h = left_joined n a b None x y z is p q refl h

  pub out-conditional : (n a b : Stars) (f : TruthExpr) (us : List ℕ) (e : SqlExpr) (x y z : Out) → out-Tree (List Star) n ≡ layer.LeftJoin a b (Some f) → IsOutFor facts ids x a → IsOutFor facts ids y b → is_written f ≡ true →
      us ≡ condition_variables f → e ≡ filter_sql f → out_of z ≡ conditional_out (out_of x) (out_of y) us e → IsOutFor facts ids z n
  out-conditional n a b f us e x y z is p q w variables sql h =
      left_joined n a b (Some f) x y z is p q (and_from (is_written f) true w refl) (h ∙ ap₂ (conditional_out (out_of x) (out_of y)) variables sql)

  pub out-Filter : (n a : Stars) (f : TruthExpr) (us : List ℕ) (e : SqlExpr) (x z : Out) → out-Tree (List Star) n ≡ layer.Filter f a → IsOutFor facts ids x a → is_written f ≡ true → us ≡ condition_variables f → e ≡ filter_sql f →
      out_of z ≡ filtered_out (out_of x) us e → IsOutFor facts ids z n
  out-Filter n a f us e x z is p w variables sql h = record {
    same = h ∙ ap₂ (filtered_out (out_of x)) variables sql ∙ ap (λ (t : Told). filtered_out t (condition_variables f) (filter_sql f)) p.same ∙ sym (tree_at-Filter facts ids n a f is);
    written = all-written (expressions_of n) (expressions_of a) (f ∷ []) (opened n (layer.Filter f a) is) p.written (and_from (is_written f) true w refl);
  }

pub ruleset out_laws = (out-Leaf, out-Join, out-LeftJoin, out-conditional, out-Union, out-Filter)
