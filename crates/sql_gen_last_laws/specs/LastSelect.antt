-- The last SELECT of a compiled query: the terms of the shown variables, in the order of the keys (SPARQL 1.1 Query, section 15).
use Rattle.std.specs.Prelude.{ℕ, ◌+◌, ◌==◌, if◌then◌else◌, List, [], ◌∷◌, map, Option, Some, None, pos, codes}
use Rattle.std.specs.List.{flat_map}
use Rattle.query_meaning.specs.declared.modifiers.Key.{Key}
use Rattle.query_meaning.specs.declared.modifiers.Modifiers.{Modifiers}
use Rattle.query_eval_meaning.specs.Answer.{all_keys}
use Rattle.sql_meaning.specs.declared.script.Item.{Item}
use Rattle.sql_meaning.specs.declared.script.SqlKey.{SqlKey}
use Rattle.sql_meaning.specs.declared.script.Core.{Core}
use Rattle.sql_meaning.specs.declared.expression.SqlExpr.{SqlExpr}
use Rattle.sql_meaning.specs.declared.expression.SqlExpr.TheVariants as sql
use Rattle.sql_gen_answer_meaning.specs.Columns.{place_name}
use Rattle.sql_gen_step_laws.specs.Carried.{Name}
use Rattle.sql_gen_step_laws.specs.StepSelects.{has, left_alias, one_item}
use Rattle.sql_gen_term_laws.specs.TermTable.{class_name, number_name, text_name, aux_name, own_test, term_alias, term_joins}

-- each once
abbrev pub once : List ℕ → List ℕ
once [] = []
once (v ∷ vs) = if has vs v then once vs else v ∷ once vs

-- the class; classes begin with 1, and 0 is written where a variable may be unbound, so that it stands first
abbrev pub class_key : List ℕ → ℕ → SqlExpr
class_key certain v = if has certain v then sql.Name (term_alias v) class_name else sql.First (sql.Name (term_alias v) class_name ∷ sql.Int (pos 0) ∷ [])

abbrev pub key_by : Key → SqlExpr → SqlKey
key_by k e = record { expr = e; down = k.down }

-- class, value, text, and tag or datatype: the order of terms
abbrev pub four_keys : List ℕ → Key → List SqlKey
four_keys certain k =
    key_by k (class_key certain k.var) ∷ key_by k (sql.Name (term_alias k.var) number_name) ∷ key_by k (sql.Name (term_alias k.var) text_name) ∷ key_by k (sql.Name (term_alias k.var) aux_name) ∷ []

-- a letter and the place of the shown variable, from 1
abbrev pub item_of : ℕ → ℕ → List ℕ → Name → Item
item_of at v letter column = record { expr = sql.Name (term_alias v) column; name = place_name letter at }

-- class, text, and tag or datatype of each shown variable
abbrev pub shown_items : ℕ → List ℕ → List Item
shown_items at [] = []
shown_items at (v ∷ vs) = item_of at v (codes "c") class_name ∷ item_of at v (codes "t") text_name ∷ item_of at v (codes "a") aux_name ∷ shown_items (at + 1) vs

abbrev pub keys_of : Modifiers → List Key
keys_of q = all_keys q.keys q.shown

abbrev pub variables_of_keys : List Key → List ℕ
variables_of_keys keys = map (λ (k : Key). k.var) keys

-- no OFFSET where nothing is skipped
abbrev pub skip_of : ℕ → Option ℕ
skip_of n = if n == 0 then None else Some n

-- over a step a with columns for the variables vs, of which `certain` are bound in each row
abbrev pub last_core : Name → Name → List ℕ → List ℕ → Modifiers → Core
last_core a terms vs certain q = record {
  distinct = q.distinct;
  items = one_item ∷ shown_items 1 q.shown;
  from = Some (record { table = a; alias = left_alias });
  joins = term_joins terms (own_test vs) (once (variables_of_keys (keys_of q)));
  condition = None;
  keys = flat_map (four_keys certain) (keys_of q);
  most = q.most;
  skip = skip_of q.skip;
}
