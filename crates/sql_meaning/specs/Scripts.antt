-- What a script has: its depth, its primary references, and the forms that its text can have.
use Rattle.std.specs.Prelude.{Bool, true, false, not, ◌&&◌, ◌||◌, nat_le, nat_lt, List, [], ◌∷◌, ℕ, suc, ◌+◌, ◌-◌, ◌^◌, max, min, length, map, Option, Some, None, is_none, bytes_eq, codes, if◌then◌else◌}
use Rattle.std.specs.Str.{is_utf8}
use Rattle.table_meaning.specs.Ints.{is_wide_int}
use Rattle.table_meaning.specs.Names.{is_name}
use Rattle.sql_meaning.specs.declared.expression.SqlExpr.{SqlExpr, fold-SqlExpr}
use Rattle.sql_meaning.specs.declared.expression.SqlExpr.TheOpen as o
use Rattle.sql_meaning.specs.declared.expression.SqlExpr.TheOpen.{SqlExpr-F}
use Rattle.sql_meaning.specs.declared.expression.Branch.{Branch-F}
use Rattle.sql_meaning.specs.declared.script.Script.{Script}
use Rattle.sql_meaning.specs.declared.script.Step.{Step}
use Rattle.sql_meaning.specs.declared.script.Body.{Body}
use Rattle.sql_meaning.specs.declared.script.Core.{Core}
use Rattle.sql_meaning.specs.declared.script.Item.{Item}
use Rattle.sql_meaning.specs.declared.script.Source.{Source}
use Rattle.sql_meaning.specs.declared.script.JoinTo.{JoinTo}
use Rattle.sql_meaning.specs.declared.script.SqlKey.{SqlKey}

-- the largest number of a list
abbrev pub largest : List ℕ → ℕ
largest [] = 0
largest (n ∷ ns) = max n (largest ns)

abbrev pub total : List ℕ → ℕ
total [] = 0
total (n ∷ ns) = n + total ns

abbrev pub all_of : {A : Type 0} → (A → Bool) → List A → Bool
all_of p [] = true
all_of p (x ∷ xs) = p x && all_of p xs

-- a leaf has depth 1, another expression 1 more than its deepest part
abbrev pub depth_step : SqlExpr-F ℕ ℕ → ℕ
depth_step (o.Name a c) = 1
depth_step (o.Int n) = 1
depth_step (o.Text s) = 1
depth_step (o.Truth b) = 1
depth_step (o.Null k) = 1
depth_step (o.Equal a b) = suc (max a b)
depth_step (o.Less a b) = suc (max a b)
depth_step (o.All es) = suc (largest es)
depth_step (o.Any es) = suc (largest es)
depth_step (o.Not a) = suc a
depth_step (o.IsNull a) = suc a
depth_step (o.Case bs last) = suc (max (largest bs) last)
depth_step (o.First es) = suc (largest es)

abbrev pub branch_depth : Branch-F ℕ ℕ → ℕ
branch_depth b = max b.test b.value

abbrev pub expr_depth : SqlExpr → ℕ
expr_depth e = fold-SqlExpr ℕ ℕ depth_step branch_depth e

abbrev pub condition_depth : Option SqlExpr → ℕ
condition_depth None = 0
condition_depth (Some e) = expr_depth e

abbrev pub item_depth : Item → ℕ
item_depth i = expr_depth i.expr

abbrev pub join_depth : JoinTo → ℕ
join_depth j = expr_depth j.on

abbrev pub key_depth : SqlKey → ℕ
key_depth k = expr_depth k.expr

abbrev pub core_depth : Core → ℕ
core_depth c = max (largest (map item_depth c.items)) (max (largest (map join_depth c.joins)) (max (condition_depth c.condition) (largest (map key_depth c.keys))))

abbrev pub body_depth : Body → ℕ
body_depth b = largest (map core_depth b.cores)

abbrev pub step_depth : Step → ℕ
step_depth s = body_depth s.body

-- the depth of the deepest expression
abbrev pub depth_of : Script → ℕ
depth_of s = max (largest (map step_depth s.steps)) (body_depth s.last)

-- a source is a primary table
abbrev pub is_primary : List ℕ → Bool
is_primary name = bytes_eq name (codes "DPH") || bytes_eq name (codes "RPH")

abbrev pub source_refs : Source → ℕ
source_refs s = if is_primary s.table then 1 else 0

abbrev pub from_refs : Option Source → ℕ
from_refs None = 0
from_refs (Some s) = source_refs s

abbrev pub join_refs : JoinTo → ℕ
join_refs j = source_refs j.source

abbrev pub core_refs : Core → ℕ
core_refs c = from_refs c.from + total (map join_refs c.joins)

abbrev pub body_refs : Body → ℕ
body_refs b = total (map core_refs b.cores)

abbrev pub step_refs : Step → ℕ
step_refs s = body_refs s.body

-- how often a primary table is named as a source
abbrev pub refs_of : Script → ℕ
refs_of s = total (map step_refs s.steps) + body_refs s.last

-- the last value of a type stands for all larger numbers
abbrev pub up_to : ℕ → ℕ → ℕ
up_to bits n = min n (2 ^ bits - 1)

-- names are names, ints are within 128 bits, texts are UTF-8, and lists have the lengths that their texts have
abbrev pub form_step : SqlExpr-F Bool Bool → Bool
form_step (o.Name a c) = is_name a && is_name c
form_step (o.Int n) = is_wide_int n
form_step (o.Text s) = is_utf8 s
form_step (o.Truth b) = true
form_step (o.Null k) = true
form_step (o.Equal a b) = a && b
form_step (o.Less a b) = a && b
form_step (o.All es) = nat_le 2 (length es) && all_of (λ b. b) es
form_step (o.Any es) = nat_le 2 (length es) && all_of (λ b. b) es
form_step (o.Not a) = a
form_step (o.IsNull a) = a
form_step (o.Case bs last) = nat_le 1 (length bs) && all_of (λ b. b) bs && last
form_step (o.First es) = nat_le 2 (length es) && all_of (λ b. b) es

abbrev pub branch_form : Branch-F Bool Bool → Bool
branch_form b = b.test && b.value

abbrev pub expr_form : SqlExpr → Bool
expr_form e = fold-SqlExpr Bool Bool form_step branch_form e

abbrev pub condition_form : Option SqlExpr → Bool
condition_form None = true
condition_form (Some e) = expr_form e

abbrev pub item_form : Item → Bool
item_form i = expr_form i.expr && is_name i.name

abbrev pub source_form : Source → Bool
source_form s = is_name s.table && is_name s.alias

abbrev pub join_form : JoinTo → Bool
join_form j = source_form j.source && expr_form j.on

abbrev pub key_form : SqlKey → Bool
key_form k = expr_form k.expr

-- joins stand behind a first source
abbrev pub sources_form : Option Source → List JoinTo → Bool
sources_form None [] = true
sources_form None (j ∷ js) = false
sources_form (Some s) js = source_form s && all_of join_form js

-- up to 18 digits
abbrev pub count_form : Option ℕ → Bool
count_form None = true
count_form (Some n) = nat_lt n 1000000000000000000

abbrev pub core_form : Core → Bool
core_form c =
    nat_le 1 (length c.items) && all_of item_form c.items && sources_form c.from c.joins && condition_form c.condition && all_of key_form c.keys
    && count_form c.most && count_form c.skip

-- a core without DISTINCT, ORDER BY, LIMIT and OFFSET
abbrev pub is_plain : Core → Bool
is_plain c = not c.distinct && nat_le (length c.keys) 0 && is_none c.most && is_none c.skip

-- one core, or several plain ones
abbrev pub cores_form : List Core → Bool
cores_form [] = false
cores_form (c ∷ []) = core_form c
cores_form (c ∷ d ∷ cs) = all_of core_form (c ∷ d ∷ cs) && all_of is_plain (c ∷ d ∷ cs)

abbrev pub body_form : Body → Bool
body_form b = cores_form b.cores

abbrev pub step_form : Step → Bool
step_form s = is_name s.name && body_form s.body

abbrev pub script_form : Script → Bool
script_form s = all_of step_form s.steps && body_form s.last

-- the largest depth of a script that can be read
abbrev pub most_levels : ℕ
most_levels = 1024

-- a script that has a text: of the forms of the grammar, and of at most 1,024 levels
abbrev pub is_writable : Script → Bool
is_writable s = nat_le (depth_of s) most_levels && script_form s
