-- What a form's text means, by its parts: their forms, and inside how many expressions the deepest of them stands.
use Rattle.std.specs.Prelude.{Bool, true, IsTrue, nat_lt, List, ◌∷◌, ◌≡◌, ℕ, suc, ◌+◌, max, map, Option}
use Rattle.grammar_meaning.specs.Grammar.{Form, nothing, one, call, ◌⨾◌, ◌∣◌, many, Nil, Leaf, Pair, Made}
use Rattle.sql_meaning.specs.Kinds.{Kind, kind}
use Rattle.sql_meaning.specs.Grammar.{Symbol, WholeScript, Steps, OneStep, OneBody, Unions, Plain, Parts, Ending, ItemList, OneItem, Sources, OneSource, OneJoin, Condition, KeyList, OneKey, Most, Skip, Expr, Simple, NullOf, Inner, More, Cases, Branches, OneBranch, Firsts}
use Rattle.sql_meaning.specs.Grammar.{Tree, a_script, step_list, a_step, a_body, core_list, a_core, parts, ending, item_list, an_item, sources, a_source, a_join, key_list, a_key, a_number, an_expr, expr_list, a_branch, branch_list, Parsed}
use Rattle.sql_meaning.specs.Scripts.{all_of, form_step, branch_form, depth_step, branch_depth, expr_form, expr_depth, item_form, item_depth, source_form, sources_form, join_form, join_depth, key_form, key_depth, condition_form, condition_depth, count_form, core_form, core_depth, is_plain, body_form, body_depth, step_form, step_depth, script_form, depth_of, largest}
use Rattle.sql_meaning.specs.declared.token.Separator.{Separator}
use Rattle.sql_meaning.specs.declared.token.Placed.{Placed}
use Rattle.sql_meaning.specs.declared.expression.SqlExpr.{SqlExpr}
use Rattle.sql_meaning.specs.declared.expression.Branch.{Branch, fold-Branch}
use Rattle.sql_meaning.specs.declared.script.Script.{Script}
use Rattle.sql_meaning.specs.declared.script.Step.{Step}
use Rattle.sql_meaning.specs.declared.script.Body.{Body}
use Rattle.sql_meaning.specs.declared.script.Core.{Core}
use Rattle.sql_meaning.specs.declared.script.Item.{Item}
use Rattle.sql_meaning.specs.declared.script.Source.{Source}
use Rattle.sql_meaning.specs.declared.script.JoinTo.{JoinTo}
use Rattle.sql_meaning.specs.declared.script.SqlKey.{SqlKey}
use Rattle.sql_text_reading_laws.specs.TokenForms.{token_form}

abbrev pub of_branch : Branch → Bool
of_branch b = fold-Branch Bool Bool form_step branch_form b

abbrev pub branch_levels : Branch → ℕ
branch_levels b = fold-Branch ℕ ℕ depth_step branch_depth b

-- all of them have their forms
abbrev pub exprs_form : List SqlExpr → Bool
exprs_form es = all_of (λ b. b) (map expr_form es)

abbrev pub branches_form : List Branch → Bool
branches_form bs = all_of (λ b. b) (map of_branch bs)

abbrev pub exprs_depth : List SqlExpr → ℕ
exprs_depth es = largest (map expr_depth es)

abbrev pub branches_depth : List Branch → ℕ
branches_depth bs = largest (map branch_levels bs)

-- The tree has its form. The number is the largest of those of levels, each that of an expression's own level and of the
-- expressions around it; where the tree is one that stands inside some expressions, these count too.
pub data Built : Symbol → Tree → ℕ → Type 0 where
  built_script : (s : Script) (k : ℕ) → script_form s ≡ true → k ≡ depth_of s → Built WholeScript (a_script s) k
  built_steps : (s : Step) (ss : List Step) (k : ℕ) → all_of step_form (s ∷ ss) ≡ true → k ≡ largest (map step_depth (s ∷ ss)) → Built Steps (step_list (s ∷ ss)) k
  built_step : (s : Step) (k : ℕ) → step_form s ≡ true → k ≡ step_depth s → Built OneStep (a_step s) k
  built_body : (b : Body) (k : ℕ) → body_form b ≡ true → k ≡ body_depth b → Built OneBody (a_body b) k
  built_unions : (c : Core) (cs : List Core) (k : ℕ) → all_of core_form (c ∷ cs) ≡ true → all_of is_plain (c ∷ cs) ≡ true → k ≡ largest (map core_depth (c ∷ cs)) → Built Unions (core_list (c ∷ cs)) k
  built_plain : (c : Core) (k : ℕ) → core_form c ≡ true → is_plain c ≡ true → k ≡ core_depth c → Built Plain (a_core c) k
  built_parts : (i : Item) (is : List Item) (from : Option Source) (js : List JoinTo) (e : Option SqlExpr) (k : ℕ)
      → all_of item_form (i ∷ is) ≡ true → sources_form from js ≡ true → condition_form e ≡ true
      → k ≡ max (largest (map item_depth (i ∷ is))) (max (largest (map join_depth js)) (condition_depth e)) → Built Parts (parts (i ∷ is) from js e) k
  built_ending : (ks : List SqlKey) (most skip : Option ℕ) (k : ℕ) → all_of key_form ks ≡ true → count_form most ≡ true → count_form skip ≡ true → k ≡ largest (map key_depth ks) → Built Ending (ending ks most skip) k
  built_items : (i : Item) (is : List Item) (k : ℕ) → all_of item_form (i ∷ is) ≡ true → k ≡ largest (map item_depth (i ∷ is)) → Built ItemList (item_list (i ∷ is)) k
  built_item : (i : Item) (k : ℕ) → item_form i ≡ true → k ≡ item_depth i → Built OneItem (an_item i) k
  built_sources : (s : Source) (js : List JoinTo) (k : ℕ) → source_form s ≡ true → all_of join_form js ≡ true → k ≡ largest (map join_depth js) → Built Sources (sources s js) k
  built_source : (s : Source) (k : ℕ) → source_form s ≡ true → k ≡ 0 → Built OneSource (a_source s) k
  built_join : (j : JoinTo) (k : ℕ) → join_form j ≡ true → k ≡ join_depth j → Built OneJoin (a_join j) k
  built_condition : (e : SqlExpr) (k : ℕ) → expr_form e ≡ true → k ≡ expr_depth e → Built Condition (an_expr e) k
  built_keys : (x : SqlKey) (xs : List SqlKey) (k : ℕ) → all_of key_form (x ∷ xs) ≡ true → k ≡ largest (map key_depth (x ∷ xs)) → Built KeyList (key_list (x ∷ xs)) k
  built_key : (x : SqlKey) (k : ℕ) → key_form x ≡ true → k ≡ key_depth x → Built OneKey (a_key x) k
  built_most : (n k : ℕ) → nat_lt n 1000000000000000000 ≡ true → k ≡ 0 → Built Most (a_number n) k
  built_skip : (n k : ℕ) → nat_lt n 1000000000000000000 ≡ true → k ≡ 0 → Built Skip (a_number n) k
  built_expr : (m : ℕ) (e : SqlExpr) (k : ℕ) → expr_form e ≡ true → k ≡ m + expr_depth e → Built (Expr m) (an_expr e) k
  built_simple : (e : SqlExpr) (k : ℕ) → expr_form e ≡ true → expr_depth e ≡ 1 → k ≡ 0 → Built Simple (an_expr e) k
  built_null : (e : SqlExpr) (k : ℕ) → expr_form e ≡ true → expr_depth e ≡ 1 → k ≡ 0 → Built NullOf (an_expr e) k
  built_inner : (m : ℕ) (e : SqlExpr) (d k : ℕ) → expr_form e ≡ true → expr_depth e ≡ suc d → k ≡ m + d → Built (Inner m) (an_expr e) k
  built_more : (s : Separator) (m : ℕ) (e : SqlExpr) (es : List SqlExpr) (k : ℕ) → exprs_form (e ∷ es) ≡ true → k ≡ m + exprs_depth (e ∷ es) → Built (More s m) (expr_list s (e ∷ es)) k
  built_cases : (m : ℕ) (e : SqlExpr) (d k : ℕ) → expr_form e ≡ true → expr_depth e ≡ suc d → k ≡ m + d → Built (Cases m) (an_expr e) k
  built_branches : (m : ℕ) (b : Branch) (bs : List Branch) (k : ℕ) → branches_form (b ∷ bs) ≡ true → k ≡ m + branches_depth (b ∷ bs) → Built (Branches m) (branch_list (b ∷ bs)) k
  built_branch : (m : ℕ) (b : Branch) (k : ℕ) → of_branch b ≡ true → k ≡ m + branch_levels b → Built (OneBranch m) (a_branch b) k
  built_firsts : (m : ℕ) (e : SqlExpr) (d k : ℕ) → expr_form e ≡ true → expr_depth e ≡ suc d → k ≡ m + d → Built (Firsts m) (an_expr e) k

-- so are the parts of a form's text
pub data Holds : Form Symbol Kind → Parsed → ℕ → Type 0 where
  holds_nothing : Holds nothing Nil 0
  holds_one : {p : Kind → Bool} {t : Placed} → IsTrue (p (kind t.token)) → token_form t.token ≡ true → Holds (one p) (Leaf t) 0
  holds_call : {s : Symbol} {x : Tree} {k : ℕ} → Built s x k → Holds (call s) (Made x) k
  holds_both : {f g : Form Symbol Kind} {n m : Parsed} {j k : ℕ} → Holds f n j → Holds g m k → Holds (f ⨾ g) (Pair n m) (max j k)
  holds_left : {f g : Form Symbol Kind} {n : Parsed} {k : ℕ} → Holds f n k → Holds (f ∣ g) n k
  holds_right : {f g : Form Symbol Kind} {n : Parsed} {k : ℕ} → Holds g n k → Holds (f ∣ g) n k
  holds_many : {f : Form Symbol Kind} {n : Parsed} {k : ℕ} → Holds ((f ⨾ many f) ∣ nothing) n k → Holds (many f) n k
