-- What the compiler makes of a tree (this project's own).
use Rattle.std.specs.Prelude.{◌≡◌, true, List}
use Rattle.std.specs.List.{list_all}
use Rattle.layout_meaning.specs.Facts.{FactsOf, IdOf}
use Rattle.query_meaning.specs.declared.tree.Tree.{Tree}
use Rattle.query_plan_meaning.specs.declared.star.Star.{Star}
use Rattle.query_plan_meaning.specs.Plans.{expressions_of}
use Rattle.query_tree_fold.specs.Trees.{Made, of_tree}
use Rattle.sql_gen_filter_form_laws.specs.Written.{is_written}
use Rattle.sql_gen_outs.specs.Told.{out_of}
use Rattle.sql_gen_outs.specs.declared.out.Out.{Out}
use Rattle.sql_gen_tree_laws.specs.TreeOuts.{tree_out}

-- the out of the tree, whose conditions can be written
pub record IsOutFor (facts : FactsOf) (ids : List IdOf) (out : Out) (tree : Tree (List Star)) : Type 0 where
  pub same : out_of out ≡ tree_out facts ids tree
  pub written : list_all is_written (expressions_of tree) ≡ true

-- the same as what a visitor makes of a tree
abbrev pub IsOut : FactsOf → List IdOf → Made Out (List Star) → Type 0
IsOut facts ids (of_tree out tree) = IsOutFor facts ids out tree
