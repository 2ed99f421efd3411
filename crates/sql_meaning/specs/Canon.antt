-- The canonical spelling of a script.
use Rattle.std.specs.Prelude.{Bool, true, false, not, ◌&&◌, ◌||◌, ◌==◌, if◌then◌else◌, List, [], ◌∷◌, ◌++◌, ℕ, pos, map, Option, Some, None}
use Rattle.std.specs.Fmt.{signed_decimal}
use Rattle.table_meaning.specs.declared.kind.Kind.{Kind as ColumnKind}
use Rattle.table_meaning.specs.declared.kind.Kind.TheVariants as column
use Rattle.sql_meaning.specs.Marks.{mark_bytes, mark_code}
use Rattle.sql_meaning.specs.declared.token.Mark.{Mark}
use Rattle.sql_meaning.specs.declared.token.Mark.TheVariants as m
use Rattle.sql_meaning.specs.declared.token.Token.{Token}
use Rattle.sql_meaning.specs.declared.token.Token.TheVariants as t
use Rattle.sql_meaning.specs.declared.expression.SqlExpr.{SqlExpr, fold-SqlExpr}
use Rattle.sql_meaning.specs.declared.expression.SqlExpr.TheOpen as o
use Rattle.sql_meaning.specs.declared.expression.SqlExpr.TheOpen.{SqlExpr-F}
use Rattle.sql_meaning.specs.declared.expression.Branch.{Branch-F}
use Rattle.sql_meaning.specs.declared.script.Script.{Script}
use Rattle.sql_meaning.specs.declared.script.Step.{Step}
use Rattle.sql_meaning.specs.declared.script.Body.{Body}
use Rattle.sql_meaning.specs.declared.script.Core.{Core}
use Rattle.sql_meaning.specs.declared.script.Item.{Item}
use Rattle.sql_meaning.specs.declared.script.Source.{Source}
use Rattle.sql_meaning.specs.declared.script.JoinTo.{JoinTo}
use Rattle.sql_meaning.specs.declared.script.SqlKey.{SqlKey}

abbrev pub Tokens : Type 0
Tokens = List Token

abbrev pub the : Mark → Tokens
the x = t.Mark x ∷ []

abbrev pub name_tokens : List ℕ → Tokens
name_tokens s = t.Name s ∷ []

-- each part behind the mark
abbrev pub each_behind : Mark → List Tokens → Tokens
each_behind x [] = []
each_behind x (p ∷ ps) = (the x ++ p) ++ each_behind x ps

-- the parts with the mark between them
abbrev pub between : Mark → List Tokens → Tokens
between x [] = []
between x (p ∷ ps) = p ++ each_behind x ps

abbrev pub all_tokens : List Tokens → Tokens
all_tokens [] = []
all_tokens (p ∷ ps) = p ++ all_tokens ps

abbrev pub in_brackets : Tokens → Tokens
in_brackets p = the m.Open ++ (p ++ the m.Close)

abbrev pub kind_mark : ColumnKind → Mark
kind_mark column.Int = m.Int
kind_mark column.Text = m.Text
kind_mark column.Truth = m.Truth

abbrev pub expr_step : SqlExpr-F Tokens Tokens → Tokens
expr_step (o.Name a c) = name_tokens a ++ (the m.Dot ++ name_tokens c)
expr_step (o.Int n) = t.Int n ∷ []
expr_step (o.Text s) = t.Text s ∷ []
expr_step (o.Truth true) = the m.True
expr_step (o.Truth false) = the m.False
expr_step (o.Null k) = the m.Cast ++ in_brackets (the m.Null ++ (the m.As ++ the (kind_mark k)))
expr_step (o.Equal a b) = in_brackets (a ++ (the m.Equal ++ b))
expr_step (o.Less a b) = in_brackets (a ++ (the m.Less ++ b))
expr_step (o.All es) = in_brackets (between m.And es)
expr_step (o.Any es) = in_brackets (between m.Or es)
expr_step (o.Not a) = in_brackets (the m.Not ++ a)
expr_step (o.IsNull a) = in_brackets (a ++ (the m.Is ++ the m.Null))
expr_step (o.Case bs last) = the m.Case ++ (all_tokens bs ++ (the m.Else ++ (last ++ the m.End)))
expr_step (o.First es) = the m.Coalesce ++ in_brackets (between m.Comma es)

abbrev pub branch_step : Branch-F Tokens Tokens → Tokens
branch_step b = the m.When ++ (b.test ++ (the m.Then ++ b.value))

abbrev pub expr_tokens : SqlExpr → Tokens
expr_tokens e = fold-SqlExpr Tokens Tokens expr_step branch_step e

abbrev pub item_tokens : Item → Tokens
item_tokens i = expr_tokens i.expr ++ (the m.As ++ name_tokens i.name)

abbrev pub source_tokens : Source → Tokens
source_tokens s = name_tokens s.table ++ (the m.As ++ name_tokens s.alias)

abbrev pub join_mark_tokens : Bool → Tokens
join_mark_tokens true = the m.Left ++ the m.Join
join_mark_tokens false = the m.Join

abbrev pub join_tokens : JoinTo → Tokens
join_tokens j = join_mark_tokens j.left ++ (source_tokens j.source ++ (the m.On ++ expr_tokens j.on))

abbrev pub from_tokens : Option Source → List JoinTo → Tokens
from_tokens None js = []
from_tokens (Some s) js = the m.From ++ (source_tokens s ++ all_tokens (map join_tokens js))

abbrev pub where_tokens : Option SqlExpr → Tokens
where_tokens None = []
where_tokens (Some e) = the m.Where ++ expr_tokens e

abbrev pub down_tokens : Bool → Tokens
down_tokens true = the m.Desc
down_tokens false = []

abbrev pub key_tokens : SqlKey → Tokens
key_tokens k = expr_tokens k.expr ++ down_tokens k.down

abbrev pub order_tokens : List SqlKey → Tokens
order_tokens [] = []
order_tokens (k ∷ ks) = the m.Order ++ (the m.By ++ between m.Comma (map key_tokens (k ∷ ks)))

abbrev pub count_tokens : Mark → Option ℕ → Tokens
count_tokens x None = []
count_tokens x (Some n) = the x ++ (t.Int (pos n) ∷ [])

abbrev pub distinct_tokens : Bool → Tokens
distinct_tokens true = the m.Distinct
distinct_tokens false = []

abbrev pub core_tokens : Core → Tokens
core_tokens c =
    the m.Select ++ (distinct_tokens c.distinct ++ (between m.Comma (map item_tokens c.items) ++ (from_tokens c.from c.joins ++ (where_tokens c.condition
    ++ (order_tokens c.keys ++ (count_tokens m.Limit c.most ++ count_tokens m.Offset c.skip))))))

abbrev pub union_tokens : Core → Tokens
union_tokens c = the m.Union ++ (the m.All ++ core_tokens c)

abbrev pub cores_tokens : List Core → Tokens
cores_tokens [] = []
cores_tokens (c ∷ cs) = core_tokens c ++ all_tokens (map union_tokens cs)

abbrev pub body_tokens : Body → Tokens
body_tokens b = cores_tokens b.cores

abbrev pub step_tokens : Step → Tokens
step_tokens s = name_tokens s.name ++ (the m.As ++ in_brackets (body_tokens s.body))

abbrev pub steps_tokens : List Step → Tokens
steps_tokens [] = []
steps_tokens (s ∷ ss) = the m.With ++ between m.Comma (map step_tokens (s ∷ ss))

abbrev pub script_tokens : Script → Tokens
script_tokens s = steps_tokens s.steps ++ body_tokens s.last

-- a quote is doubled
abbrev pub doubled : List ℕ → List ℕ
doubled [] = []
doubled (b ∷ bs) = if b == 39 then 39 ∷ 39 ∷ doubled bs else b ∷ doubled bs

abbrev pub token_bytes : Token → List ℕ
token_bytes (t.Mark x) = mark_bytes x
token_bytes (t.Name s) = s
token_bytes (t.Int n) = signed_decimal n
token_bytes (t.Text s) = 39 ∷ (doubled s ++ (39 ∷ []))
token_bytes t.Broken = []

abbrev pub is_mark : Mark → Token → Bool
is_mark x (t.Mark y) = mark_code x == mark_code y
is_mark x _ = false

-- no space stands behind the token
abbrev pub is_open : Token → Bool
is_open x = is_mark m.Dot x || is_mark m.Open x

-- no space stands before the token
abbrev pub is_close : Token → Bool
is_close x = is_mark m.Comma x || is_mark m.Dot x || is_mark m.Close x

-- a bracket stands directly behind these words
abbrev pub is_caller : Token → Bool
is_caller x = is_mark m.Cast x || is_mark m.Coalesce x

abbrev pub has_gap : Token → Token → Bool
has_gap x y = not (is_open x || is_close y || is_caller x && is_mark m.Open y)

abbrev pub gap : Option Token → Token → List ℕ
gap None y = []
gap (Some x) y = if has_gap x y then 32 ∷ [] else []

-- one space between tokens, but for those places
abbrev pub spaced : Option Token → Tokens → List ℕ
spaced x [] = []
spaced x (y ∷ ys) = (gap x y ++ token_bytes y) ++ spaced (Some y) ys

-- the canonical spelling
abbrev pub canon : Script → List ℕ
canon s = spaced None (script_tokens s)
