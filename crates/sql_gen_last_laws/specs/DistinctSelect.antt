-- DISTINCT over the numbers of terms, in a step before the last SELECT: the quicker way where all keys are shown, since
-- rows have equal numbers exactly where they have equal terms.
use Rattle.std.specs.Prelude.{ℕ, Bool, true, false, if◌then◌else◌, ◌&&◌, List, [], ◌∷◌, map, Some, None}
use Rattle.std.specs.List.{list_all}
use Rattle.bags.specs.Sort.{same_items, firsts}
use Rattle.query_meaning.specs.declared.modifiers.Key.{Key}
use Rattle.query_meaning.specs.declared.modifiers.Modifiers.{Modifiers}
use Rattle.query_eval_meaning.specs.Mapping.{Mapping}
use Rattle.query_eval_meaning.specs.Answer.{same_place}
use Rattle.sql_meaning.specs.declared.script.Core.{Core}
use Rattle.sql_gen_step_laws.specs.Carried.{Name}
use Rattle.sql_gen_step_laws.specs.StepSelects.{left_alias, has, one_item, variable_item, own_sql}

-- the different rows of a step, with the columns of the variables us
abbrev pub distinct_core : Name → List ℕ → List ℕ → Core
distinct_core a vs us = record {
  distinct = true;
  items = one_item ∷ map (variable_item (own_sql vs)) us;
  from = Some (record { table = a; alias = left_alias });
  joins = [];
  condition = None;
  keys = [];
  most = None;
  skip = None;
}

-- what a mapping binds of these variables
abbrev pub part : List ℕ → Mapping → Mapping
part us m v = if has us v then m v else None

-- whether two mappings bind these variables to the same terms
abbrev pub same_parts : List ℕ → Mapping → Mapping → Bool
same_parts us m n = same_items same_place (map m us) (map n us)

-- the parts that differ, each at its first place
abbrev pub distinct_parts : List ℕ → List Mapping → List Mapping
distinct_parts us ms = firsts (same_parts us) [] (map (part us) ms)

-- whether DISTINCT may be taken before the order: it is asked, and each key is a shown variable
abbrev pub is_distinct_first : Modifiers → Bool
is_distinct_first q = q.distinct && list_all (λ (k : Key). has q.shown k.var) q.keys

-- the same without DISTINCT
abbrev pub repeated : Modifiers → Modifiers
repeated q = record { shown = q.shown; distinct = false; keys = q.keys; skip = q.skip; most = q.most }
