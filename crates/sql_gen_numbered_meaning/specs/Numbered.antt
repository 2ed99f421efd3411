-- Steps that hold numbers in place of names (this project's own). The number of a step is its place in the list.
use Rattle.std.specs.Prelude.{ℕ, ◌+◌, true, false, not, List, [], ◌∷◌, map, None, codes}
use Rattle.rdf_meaning.specs.declared.side.SideName.{SideName}
use Rattle.rdf_meaning.specs.declared.side.SideName.TheVariants.{Direct, Reverse}
use Rattle.sql_meaning.specs.declared.script.Core.{Core}
use Rattle.sql_meaning.specs.declared.script.Body.{Body}
use Rattle.sql_meaning.specs.declared.script.Step.{Step}
use Rattle.sql_meaning.specs.declared.expression.SqlExpr.TheVariants as sql
use Rattle.sql_gen_step_laws.specs.Carried.{Name}
use Rattle.sql_gen_step_laws.specs.StepSelects.{one_item, both, join_core, union_body}
use Rattle.sql_gen_term_laws.specs.Filters.{filter_core}
use Rattle.sql_gen_optional_laws.specs.MatchRows.{matches_core, optional_body}
use Rattle.sql_gen_matched_laws.specs.PassedSelect.{passed_core}
use Rattle.sql_gen_last_laws.specs.DistinctSelect.{distinct_core}
use Rattle.sql_gen_star_meaning.specs.StarSelects.{access_core, open_core}
use Rattle.sql_gen_star_meaning.specs.PairSelects.{pairs_body}
use Rattle.sql_gen_star_meaning.specs.Openings.{openings_from, access_arms, cells_of}
use Rattle.sql_gen_numbered_meaning.specs.declared.numbered.NumberedBody.{NumberedBody}
use Rattle.sql_gen_numbered_meaning.specs.declared.numbered.NumberedBody.TheVariants.{Single, Access, Pairs, Open, Joined, United, Filtered, Matched, Passed, Optional, Distinct}

-- the two tables of a side
abbrev pub primary_name : SideName → Name
primary_name Direct = codes "DPH"
primary_name Reverse = codes "RPH"

abbrev pub lists_name : SideName → Name
lists_name Direct = codes "DS"
lists_name Reverse = codes "RS"

-- the table of terms
abbrev pub terms_name : Name
terms_name = codes "TERM"

-- one row that binds nothing
abbrev pub single_core : Core
single_core = record {
  distinct = false;
  items = one_item ∷ [];
  from = None;
  joins = [];
  condition = None;
  keys = [];
  most = None;
  skip = None;
}

-- all pairs that fit, without a look at their terms
abbrev pub pairs_core : Name → Name → List ℕ → List ℕ → List ℕ → Core
pairs_core a b vs ws certain = matches_core a b terms_name vs ws [] certain (sql.Truth true)

abbrev pub lone : Core → Body
lone c = record { cores = c ∷ [] }

-- the SELECTs of a step under a naming
abbrev pub body_under : (ℕ → Name) → NumberedBody → Body
body_under name Single = lone single_core
body_under name (Access side spilled entity arms) = lone (access_core (primary_name side) (not spilled) entity (access_arms arms) (cells_of (openings_from 0 arms)))
body_under name (Pairs side entity predicate columns) = pairs_body (primary_name side) entity predicate columns
body_under name (Open side a vs arm later asked) = lone (open_core (name a) (lists_name side) vs arm later asked)
body_under name (Joined left a b vs ws certain) = lone (join_core left (name a) (name b) vs ws certain)
body_under name (United a b vs ws) = union_body (name a) (name b) vs ws
body_under name (Filtered a vs ts condition) = lone (filter_core (name a) terms_name vs ts condition)
body_under name (Matched a b vs ws certain) = lone (pairs_core (name a) (name b) vs ws certain)
body_under name (Passed m vs ws ts condition) = lone (passed_core (name m) terms_name vs (both vs ws) ts condition)
body_under name (Optional a m vs ws certain) = optional_body (name a) (name m) vs ws certain
body_under name (Distinct a vs us) = lone (distinct_core (name a) vs us)

-- the steps from a number on
abbrev pub written_from : (ℕ → Name) → ℕ → List NumberedBody → List Step
written_from name n [] = []
written_from name n (b ∷ bs) = record { name = name n; body = body_under name b } ∷ written_from name (n + 1) bs

-- the steps from 0 on
abbrev pub written : (ℕ → Name) → List NumberedBody → List Step
written name bs = written_from name 0 bs

-- a step whose earlier steps stand k places further on
abbrev pub shift : ℕ → NumberedBody → NumberedBody
shift k Single = Single
shift k (Access side spilled entity arms) = Access side spilled entity arms
shift k (Pairs side entity predicate columns) = Pairs side entity predicate columns
shift k (Open side a vs arm later asked) = Open side (k + a) vs arm later asked
shift k (Joined left a b vs ws certain) = Joined left (k + a) (k + b) vs ws certain
shift k (United a b vs ws) = United (k + a) (k + b) vs ws
shift k (Filtered a vs ts condition) = Filtered (k + a) vs ts condition
shift k (Matched a b vs ws certain) = Matched (k + a) (k + b) vs ws certain
shift k (Passed m vs ws ts condition) = Passed (k + m) vs ws ts condition
shift k (Optional a m vs ws certain) = Optional (k + a) (k + m) vs ws certain
shift k (Distinct a vs us) = Distinct (k + a) vs us

abbrev pub shifted : ℕ → List NumberedBody → List NumberedBody
shifted k bs = map (shift k) bs

-- the naming that begins at k
abbrev pub on_from : ℕ → (ℕ → Name) → ℕ → Name
on_from k name n = name (k + n)
