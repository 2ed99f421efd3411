-- The grammar of scripts, by its rules.
-- A symbol of expressions says inside how many expressions its own stands. A limit tells at which of these numbers an expression may stand.
use Rattle.std.specs.Prelude.{Bool, true, false, if◌then◌else◌, List, [], ◌∷◌, ℕ, pos, ◌+◌, Option, Some, None, nat_lt}
use Rattle.grammar_meaning.specs.Grammar.{Form, one, call, ◌⨾◌, ◌∣◌, many, maybe, Node, Nil, Leaf, Pair, Made, Grammar}
use Rattle.sql_meaning.specs.Kinds.{Kind, a_mark, a_name, a_count, an_int, a_text, kind, is, among}
use Rattle.sql_meaning.specs.Scripts.{most_levels}
use Rattle.table_meaning.specs.declared.kind.Kind.{Kind as ColumnKind}
use Rattle.table_meaning.specs.declared.kind.Kind.TheVariants as column
use Rattle.sql_meaning.specs.declared.token.Mark.{Mark}
use Rattle.sql_meaning.specs.declared.token.Mark.TheVariants as m
use Rattle.sql_meaning.specs.declared.token.Separator.{Separator}
use Rattle.sql_meaning.specs.declared.token.Separator.TheVariants as sep
use Rattle.sql_meaning.specs.declared.token.Token.{Token}
use Rattle.sql_meaning.specs.declared.token.Token.TheVariants as t
use Rattle.sql_meaning.specs.declared.token.Placed.{Placed}
use Rattle.sql_meaning.specs.declared.expression.SqlExpr.{SqlExpr}
use Rattle.sql_meaning.specs.declared.expression.SqlExpr.TheVariants as v
use Rattle.sql_meaning.specs.declared.expression.Branch.{Branch}
use Rattle.sql_meaning.specs.declared.script.Script.{Script}
use Rattle.sql_meaning.specs.declared.script.Step.{Step}
use Rattle.sql_meaning.specs.declared.script.Body.{Body}
use Rattle.sql_meaning.specs.declared.script.Core.{Core}
use Rattle.sql_meaning.specs.declared.script.Item.{Item}
use Rattle.sql_meaning.specs.declared.script.Source.{Source}
use Rattle.sql_meaning.specs.declared.script.JoinTo.{JoinTo}
use Rattle.sql_meaning.specs.declared.script.SqlKey.{SqlKey}

pub data Symbol : Type 0 where
  WholeScript : Symbol
  Steps : Symbol
  OneStep : Symbol
  OneBody : Symbol
  Unions : Symbol
  Plain : Symbol
  Parts : Symbol
  Ending : Symbol
  ItemList : Symbol
  OneItem : Symbol
  Sources : Symbol
  OneSource : Symbol
  OneJoin : Symbol
  Condition : Symbol
  KeyList : Symbol
  OneKey : Symbol
  Most : Symbol
  Skip : Symbol
  Expr : ℕ → Symbol
  Simple : Symbol
  NullOf : Symbol
  Inner : ℕ → Symbol
  More : Separator → ℕ → Symbol
  Cases : ℕ → Symbol
  Branches : ℕ → Symbol
  OneBranch : ℕ → Symbol
  Firsts : ℕ → Symbol

abbrev pub mark : Mark → Form Symbol Kind
mark a = one (is (a_mark a))

abbrev pub name : Form Symbol Kind
name = one (is a_name)

abbrev pub count : Form Symbol Kind
count = one (is a_count)

abbrev pub number : Form Symbol Kind
number = one (among (a_count ∷ an_int ∷ []))

abbrev pub string : Form Symbol Kind
string = one (is a_text)

abbrev pub separator_mark : Separator → Mark
separator_mark sep.And = m.And
separator_mark sep.Or = m.Or
separator_mark sep.Comma = m.Comma

abbrev pub Limit : Type 0
Limit = ℕ → Bool

-- an expression whose parts stand inside n expressions
abbrev pub forms : ℕ → Form Symbol Kind
forms n = call Simple ∣ (call NullOf ∣ ((mark m.Open ⨾ call (Inner n) ⨾ mark m.Close) ∣ (call (Cases n) ∣ call (Firsts n))))

-- what stands in brackets behind a first expression
abbrev pub tails : ℕ → Form Symbol Kind
tails n = (mark m.Equal ⨾ call (Expr n)) ∣ ((mark m.Less ⨾ call (Expr n)) ∣ (call (More sep.And n) ∣ (call (More sep.Or n) ∣ (mark m.Is ⨾ mark m.Null))))

abbrev pub rule : Limit → Symbol → Form Symbol Kind
rule c WholeScript = maybe (call Steps) ⨾ call OneBody
rule c Steps = mark m.With ⨾ call OneStep ⨾ many (mark m.Comma ⨾ call OneStep)
rule c OneStep = name ⨾ mark m.As ⨾ mark m.Open ⨾ call OneBody ⨾ mark m.Close
-- one core, or several without DISTINCT, ORDER BY, LIMIT and OFFSET
rule c OneBody = mark m.Select ⨾ ((mark m.Distinct ⨾ call Parts ⨾ call Ending) ∣ (call Parts ⨾ (call Unions ∣ call Ending)))
rule c Unions = call Plain ⨾ many (call Plain)
rule c Plain = mark m.Union ⨾ mark m.All ⨾ mark m.Select ⨾ call Parts
rule c Parts = call ItemList ⨾ maybe (call Sources) ⨾ maybe (call Condition)
rule c Ending = maybe (call KeyList) ⨾ maybe (call Most) ⨾ maybe (call Skip)
rule c ItemList = call OneItem ⨾ many (mark m.Comma ⨾ call OneItem)
rule c OneItem = call (Expr 0) ⨾ mark m.As ⨾ name
rule c Sources = mark m.From ⨾ call OneSource ⨾ many (call OneJoin)
rule c OneSource = name ⨾ mark m.As ⨾ name
rule c OneJoin = maybe (mark m.Left) ⨾ mark m.Join ⨾ call OneSource ⨾ mark m.On ⨾ call (Expr 0)
rule c Condition = mark m.Where ⨾ call (Expr 0)
rule c KeyList = mark m.Order ⨾ mark m.By ⨾ call OneKey ⨾ many (mark m.Comma ⨾ call OneKey)
rule c OneKey = call (Expr 0) ⨾ maybe (mark m.Desc)
rule c Most = mark m.Limit ⨾ count
rule c Skip = mark m.Offset ⨾ count
rule c (Expr n) = if c n then forms (n + 1) else one (λ k. false)
rule c Simple = (name ⨾ mark m.Dot ⨾ name) ∣ (number ∣ (string ∣ (mark m.True ∣ mark m.False)))
rule c NullOf = mark m.Cast ⨾ mark m.Open ⨾ mark m.Null ⨾ mark m.As ⨾ (mark m.Int ∣ (mark m.Text ∣ mark m.Truth)) ⨾ mark m.Close
-- what stands in brackets
rule c (Inner n) = (mark m.Not ⨾ call (Expr n)) ∣ (call (Expr n) ⨾ tails n)
rule c (More s n) = mark (separator_mark s) ⨾ call (Expr n) ⨾ many (mark (separator_mark s) ⨾ call (Expr n))
rule c (Cases n) = mark m.Case ⨾ call (Branches n) ⨾ mark m.Else ⨾ call (Expr n) ⨾ mark m.End
rule c (Branches n) = call (OneBranch n) ⨾ many (call (OneBranch n))
rule c (OneBranch n) = mark m.When ⨾ call (Expr n) ⨾ mark m.Then ⨾ call (Expr n)
rule c (Firsts n) = mark m.Coalesce ⨾ mark m.Open ⨾ call (Expr n) ⨾ call (More sep.Comma n) ⨾ mark m.Close

-- the trees of all symbols
pub data Tree : Type 0 where
  no_tree : Tree
  a_script : Script → Tree
  step_list : List Step → Tree
  a_step : Step → Tree
  a_body : Body → Tree
  core_list : List Core → Tree
  a_core : Core → Tree
  parts : List Item → Option Source → List JoinTo → Option SqlExpr → Tree
  ending : List SqlKey → Option ℕ → Option ℕ → Tree
  item_list : List Item → Tree
  an_item : Item → Tree
  sources : Source → List JoinTo → Tree
  a_source : Source → Tree
  a_join : JoinTo → Tree
  key_list : List SqlKey → Tree
  a_key : SqlKey → Tree
  a_number : ℕ → Tree
  an_expr : SqlExpr → Tree
  expr_list : Separator → List SqlExpr → Tree
  a_branch : Branch → Tree
  branch_list : List Branch → Tree

abbrev pub Parsed : Type 0
Parsed = Node Placed Tree

abbrev pub token_name : Token → List ℕ
token_name (t.Name s) = s
token_name _ = []

abbrev pub named : Parsed → List ℕ
named (Leaf p) = token_name p.token
named _ = []

abbrev pub token_count : Token → ℕ
token_count (t.Int (pos n)) = n
token_count _ = 0

abbrev pub counted : Parsed → ℕ
counted (Leaf p) = token_count p.token
counted _ = 0

abbrev pub token_kind : Token → ColumnKind
token_kind (t.Mark m.Int) = column.Int
token_kind (t.Mark m.Text) = column.Text
token_kind _ = column.Truth

abbrev pub kinded : Parsed → ColumnKind
kinded (Leaf p) = token_kind p.token
kinded _ = column.Truth

abbrev pub no_expr : SqlExpr
no_expr = v.Truth false

abbrev pub expr_in : Parsed → SqlExpr
expr_in (Made (an_expr e)) = e
expr_in _ = no_expr

abbrev pub exprs_in : Parsed → List SqlExpr
exprs_in (Made (expr_list s es)) = es
exprs_in _ = []

-- separator Expr separator Expr ..
abbrev pub parts_in : Parsed → List SqlExpr
parts_in (Pair (Pair s e) more) = expr_in e ∷ parts_in more
parts_in _ = []

abbrev pub source_in : Parsed → Source
source_in (Made (a_source s)) = s
source_in _ = record { table = []; alias = [] }

abbrev pub join_in : Parsed → JoinTo
join_in (Made (a_join j)) = j
join_in n = record { left = false; source = source_in n; on = no_expr }

abbrev pub joins_in : Parsed → List JoinTo
joins_in (Pair j more) = join_in j ∷ joins_in more
joins_in _ = []

abbrev pub item_in : Parsed → Item
item_in (Made (an_item i)) = i
item_in _ = record { expr = no_expr; name = [] }

-- "," Item "," Item ..
abbrev pub items_in : Parsed → List Item
items_in (Pair (Pair c i) more) = item_in i ∷ items_in more
items_in _ = []

abbrev pub key_in : Parsed → SqlKey
key_in (Made (a_key k)) = k
key_in _ = record { expr = no_expr; down = false }

abbrev pub keys_in : Parsed → List SqlKey
keys_in (Pair (Pair c k) more) = key_in k ∷ keys_in more
keys_in _ = []

abbrev pub branch_in : Parsed → Branch
branch_in (Made (a_branch b)) = b
branch_in _ = record { test = no_expr; value = no_expr }

abbrev pub branches_in : Parsed → List Branch
branches_in (Pair b more) = branch_in b ∷ branches_in more
branches_in _ = []

-- a core of its parts and its ending
abbrev pub core_of : Bool → Tree → Tree → Core
core_of distinct (parts is from js cond) (ending ks most skip) = record { distinct = distinct; items = is; from = from; joins = js; condition = cond; keys = ks; most = most; skip = skip }
core_of distinct (parts is from js cond) _ = record { distinct = distinct; items = is; from = from; joins = js; condition = cond; keys = []; most = None; skip = None }
core_of distinct _ _ = record { distinct = distinct; items = []; from = None; joins = []; condition = None; keys = []; most = None; skip = None }

abbrev pub plain_core : Tree → Core
plain_core x = core_of false x no_tree

abbrev pub tree_in : Parsed → Tree
tree_in (Made x) = x
tree_in _ = no_tree

abbrev pub core_in : Parsed → Core
core_in (Made (a_core c)) = c
core_in _ = plain_core no_tree

abbrev pub cores_in : Parsed → List Core
cores_in (Pair c more) = core_in c ∷ cores_in more
cores_in _ = []

abbrev pub body_in : Parsed → Body
body_in (Made (a_body b)) = b
body_in _ = record { cores = [] }

abbrev pub step_in : Parsed → Step
step_in (Made (a_step s)) = s
step_in _ = record { name = []; body = record { cores = [] } }

-- "," Step "," Step ..
abbrev pub steps_in : Parsed → List Step
steps_in (Pair (Pair c s) more) = step_in s ∷ steps_in more
steps_in _ = []

-- the tree of an optional part
abbrev pub steps_of : Parsed → List Step
steps_of (Made (step_list ss)) = ss
steps_of _ = []

abbrev pub keys_of : Parsed → List SqlKey
keys_of (Made (key_list ks)) = ks
keys_of _ = []

abbrev pub number_of : Parsed → Option ℕ
number_of (Made (a_number n)) = Some n
number_of _ = None

abbrev pub items_of : Parsed → List Item
items_of (Made (item_list is)) = is
items_of _ = []

abbrev pub from_of : Parsed → Option Source
from_of (Made (sources s js)) = Some s
from_of _ = None

abbrev pub joins_of : Parsed → List JoinTo
joins_of (Made (sources s js)) = js
joins_of _ = []

abbrev pub condition_of : Parsed → Option SqlExpr
condition_of (Made (an_expr e)) = Some e
condition_of _ = None

abbrev pub branches_of : Parsed → List Branch
branches_of (Made (branch_list bs)) = bs
branches_of _ = []

abbrev pub is_there : Parsed → Bool
is_there Nil = false
is_there _ = true

-- a SELECT without DISTINCT, with what stands behind its parts: more cores, or its ending
abbrev pub cores_of : Tree → Tree → List Core
cores_of x (core_list cs) = plain_core x ∷ cs
cores_of x y = core_of false x y ∷ []

abbrev pub body_of : List Core → Body
body_of cs = record { cores = cs }

abbrev pub join_of : Bool → Source → SqlExpr → JoinTo
join_of left s e = record { left = left; source = s; on = e }

abbrev pub compared : Token → SqlExpr → SqlExpr → SqlExpr
compared (t.Mark m.Less) e d = v.Less e d
compared _ e d = v.Equal e d

-- what stands in brackets, from its first expression and what stands behind that
abbrev pub joined : SqlExpr → Parsed → SqlExpr
joined e (Pair (Leaf p) (Made (an_expr d))) = compared p.token e d
joined e (Made (expr_list sep.Or es)) = v.Any (e ∷ es)
joined e (Made (expr_list s es)) = v.All (e ∷ es)
joined e _ = v.IsNull e

abbrev pub constant : Token → SqlExpr
constant (t.Int n) = v.Int n
constant (t.Text s) = v.Text s
constant (t.Mark m.True) = v.Truth true
constant _ = v.Truth false

abbrev pub build : Symbol → Parsed → Tree
build WholeScript (Pair ss b) = a_script (record { steps = steps_of ss; last = body_in b })
build Steps (Pair w (Pair s more)) = step_list (step_in s ∷ steps_in more)
build OneStep (Pair n (Pair a (Pair o (Pair b c)))) = a_step (record { name = named n; body = body_in b })
build OneBody (Pair s (Pair (Leaf d) (Pair x y))) = a_body (body_of (core_of true (tree_in x) (tree_in y) ∷ []))
build OneBody (Pair s (Pair x y)) = a_body (body_of (cores_of (tree_in x) (tree_in y)))
build Unions (Pair c more) = core_list (core_in c ∷ cores_in more)
build Plain (Pair u (Pair a (Pair s x))) = a_core (plain_core (tree_in x))
build Parts (Pair is (Pair from cond)) = parts (items_of is) (from_of from) (joins_of from) (condition_of cond)
build Ending (Pair ks (Pair most skip)) = ending (keys_of ks) (number_of most) (number_of skip)
build ItemList (Pair i more) = item_list (item_in i ∷ items_in more)
build OneItem (Pair e (Pair a n)) = an_item (record { expr = expr_in e; name = named n })
build Sources (Pair f (Pair s js)) = sources (source_in s) (joins_in js)
build OneSource (Pair x (Pair a y)) = a_source (record { table = named x; alias = named y })
build OneJoin (Pair left (Pair j (Pair s (Pair o e)))) = a_join (join_of (is_there left) (source_in s) (expr_in e))
build Condition (Pair w e) = tree_in e
build KeyList (Pair o (Pair b (Pair k more))) = key_list (key_in k ∷ keys_in more)
build OneKey (Pair e down) = a_key (record { expr = expr_in e; down = is_there down })
build Most (Pair l n) = a_number (counted n)
build Skip (Pair o n) = a_number (counted n)
build (Expr n) (Pair o (Pair x c)) = tree_in x
build (Expr n) x = tree_in x
build Simple (Pair a (Pair d b)) = an_expr (v.Name (named a) (named b))
build Simple (Leaf p) = an_expr (constant p.token)
build NullOf (Pair a (Pair b (Pair c (Pair d (Pair k e))))) = an_expr (v.Null (kinded k))
build (Inner n) (Pair (Leaf p) e) = an_expr (v.Not (expr_in e))
build (Inner n) (Pair e more) = an_expr (joined (expr_in e) more)
build (More s n) (Pair x (Pair e more)) = expr_list s (expr_in e ∷ parts_in more)
build (Cases n) (Pair c (Pair bs (Pair e (Pair last d)))) = an_expr (v.Case (branches_of bs) (expr_in last))
build (Branches n) (Pair b more) = branch_list (branch_in b ∷ branches_in more)
build (OneBranch n) (Pair w (Pair x (Pair h y))) = a_branch (record { test = expr_in x; value = expr_in y })
build (Firsts n) (Pair c (Pair o (Pair e (Pair more x)))) = an_expr (v.First (expr_in e ∷ exprs_in more))
build _ _ = no_tree

abbrev pub grammar : Limit → Grammar
grammar c = record { Symbol = Symbol; Kind = Kind; Token = Placed; Tree = Tree; kind = λ p. kind p.token; rule = rule c; build = build }

-- expressions inside any number of others
abbrev pub unlimited : Limit
unlimited n = true

-- expressions inside fewer than 1,024 others
abbrev pub limited : Limit
limited n = nat_lt n most_levels

abbrev pub full : Grammar
full = grammar unlimited

abbrev pub shallow : Grammar
shallow = grammar limited
