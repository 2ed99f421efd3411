-- The canonical spelling of a script, made of pieces with the blanks between them.
use Rattle.std.specs.Prelude.{Bool, true, false, List, [], ◌∷◌, ◌++◌, ℕ, pos, map, codes, Option, Some, None, IsTrue, ◌≡◌}
use Rattle.std.specs.List.{flat_map}
use Rattle.table_meaning.specs.Ints.{int_text}
use Rattle.sql_meaning.specs.Marks.{mark_bytes}
use Rattle.sql_meaning.specs.Canon.{canon, doubled, kind_mark}
use Rattle.sql_meaning.specs.Scripts.{script_form}
use Rattle.sql_meaning.specs.declared.expression.SqlExpr.{SqlExpr, fold-SqlExpr}
use Rattle.sql_meaning.specs.declared.expression.SqlExpr.TheOpen as o
use Rattle.sql_meaning.specs.declared.expression.SqlExpr.TheOpen.{SqlExpr-F}
use Rattle.sql_meaning.specs.declared.expression.Branch.{Branch-F}
use Rattle.sql_meaning.specs.declared.script.Script.{Script}
use Rattle.sql_meaning.specs.declared.script.Step.{Step}
use Rattle.sql_meaning.specs.declared.script.Body.{Body}
use Rattle.sql_meaning.specs.declared.script.Core.{Core}
use Rattle.sql_meaning.specs.declared.script.Item.{Item}
use Rattle.sql_meaning.specs.declared.script.Source.{Source}
use Rattle.sql_meaning.specs.declared.script.JoinTo.{JoinTo}
use Rattle.sql_meaning.specs.declared.script.SqlKey.{SqlKey}

abbrev pub Bytes : Type 0
Bytes = List ℕ

-- each piece behind the separator
abbrev pub behind : Bytes → List Bytes → Bytes
behind separator pieces = flat_map (λ piece. separator ++ piece) pieces

-- the pieces with the separator between them
abbrev pub joined : Bytes → List Bytes → Bytes
joined separator [] = []
joined separator (piece ∷ pieces) = piece ++ behind separator pieces

abbrev pub quoted_text : Bytes → Bytes
quoted_text text = 39 ∷ (doubled text ++ (39 ∷ []))

abbrev pub truth_piece : Bool → Bytes
truth_piece true = codes "TRUE"
truth_piece false = codes "FALSE"

abbrev pub pair_piece : Bytes → Bytes → Bytes → Bytes
pair_piece left sign right = codes "(" ++ (left ++ (sign ++ (right ++ codes ")")))

-- what opens, the pieces with the separator between them, and what closes
abbrev pub list_piece : Bytes → Bytes → List Bytes → Bytes
list_piece opening separator pieces = opening ++ (joined separator pieces ++ codes ")")

abbrev pub expr_step : SqlExpr-F Bytes Bytes → Bytes
expr_step (o.Name a c) = a ++ (codes "." ++ c)
expr_step (o.Int n) = int_text n
expr_step (o.Text s) = quoted_text s
expr_step (o.Truth b) = truth_piece b
expr_step (o.Null k) = codes "CAST(NULL AS " ++ (mark_bytes (kind_mark k) ++ codes ")")
expr_step (o.Equal a b) = pair_piece a (codes " = ") b
expr_step (o.Less a b) = pair_piece a (codes " < ") b
expr_step (o.All es) = list_piece (codes "(") (codes " AND ") es
expr_step (o.Any es) = list_piece (codes "(") (codes " OR ") es
expr_step (o.Not a) = codes "(NOT " ++ (a ++ codes ")")
expr_step (o.IsNull a) = codes "(" ++ (a ++ codes " IS NULL)")
expr_step (o.Case bs last) = codes "CASE" ++ (behind (codes " ") bs ++ (codes " ELSE " ++ (last ++ codes " END")))
expr_step (o.First es) = list_piece (codes "COALESCE(") (codes ", ") es

abbrev pub branch_step : Branch-F Bytes Bytes → Bytes
branch_step b = codes "WHEN " ++ (b.test ++ (codes " THEN " ++ b.value))

abbrev pub expr_piece : SqlExpr → Bytes
expr_piece e = fold-SqlExpr Bytes Bytes expr_step branch_step e

abbrev pub item_piece : Item → Bytes
item_piece i = expr_piece i.expr ++ (codes " AS " ++ i.name)

abbrev pub source_piece : Source → Bytes
source_piece s = s.table ++ (codes " AS " ++ s.alias)

abbrev pub join_word : Bool → Bytes
join_word true = codes "LEFT JOIN "
join_word false = codes "JOIN "

abbrev pub join_piece : JoinTo → Bytes
join_piece j = join_word j.left ++ (source_piece j.source ++ (codes " ON " ++ expr_piece j.on))

abbrev pub from_piece : Option Source → List JoinTo → Bytes
from_piece None js = []
from_piece (Some s) js = codes " FROM " ++ (source_piece s ++ behind (codes " ") (map join_piece js))

abbrev pub where_piece : Option SqlExpr → Bytes
where_piece None = []
where_piece (Some e) = codes " WHERE " ++ expr_piece e

abbrev pub down_piece : Bool → Bytes
down_piece true = codes " DESC"
down_piece false = []

abbrev pub key_piece : SqlKey → Bytes
key_piece k = expr_piece k.expr ++ down_piece k.down

abbrev pub order_piece : List SqlKey → Bytes
order_piece [] = []
order_piece (k ∷ ks) = codes " ORDER BY " ++ joined (codes ", ") (map key_piece (k ∷ ks))

-- a word with blanks around it before a count
abbrev pub count_piece : Bytes → Option ℕ → Bytes
count_piece word None = []
count_piece word (Some n) = word ++ int_text (pos n)

abbrev pub distinct_piece : Bool → Bytes
distinct_piece true = codes "DISTINCT "
distinct_piece false = []

abbrev pub items_piece : Core → Bytes
items_piece c = distinct_piece c.distinct ++ joined (codes ", ") (map item_piece c.items)

-- what follows the items of a core
abbrev pub rest_piece : Core → Bytes
rest_piece c = from_piece c.from c.joins ++ (where_piece c.condition ++ (order_piece c.keys ++ (count_piece (codes " LIMIT ") c.most ++ count_piece (codes " OFFSET ") c.skip)))

abbrev pub core_piece : Core → Bytes
core_piece c = codes "SELECT " ++ (items_piece c ++ rest_piece c)

abbrev pub body_piece : Body → Bytes
body_piece b = joined (codes " UNION ALL ") (map core_piece b.cores)

abbrev pub step_piece : Step → Bytes
step_piece s = s.name ++ (codes " AS (" ++ (body_piece s.body ++ codes ")"))

abbrev pub steps_piece : List Step → Bytes
steps_piece [] = []
steps_piece (s ∷ ss) = codes "WITH " ++ (joined (codes ", ") (map step_piece (s ∷ ss)) ++ codes " ")

abbrev pub script_piece : Script → Bytes
script_piece s = steps_piece s.steps ++ body_piece s.last

-- the pieces of a script are its canonical spelling
abbrev pub PiecesAreCanonical : Type 0
PiecesAreCanonical = (s : Script) → IsTrue (script_form s) → canon s ≡ script_piece s
