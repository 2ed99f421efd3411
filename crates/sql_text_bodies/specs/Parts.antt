-- The steps of the readers of a SELECT's parts and of its ending.
use Rattle.std.proofs.Common.{Bool, true, false, IsTrue, List, [], ◌∷◌, ◌≡◌, ℕ, pos, negsuc, length, refl, subst, sym, ◌∙◌, Option, Some, None}
use Rattle.std.specs.Prelude.{nat_lt}
use Rattle.grammar_meaning.specs.Grammar.{call, Nil, Leaf, Made}
use Rattle.grammar_meaning.specs.Outcome.{Got}
use Rattle.grammar_meaning.specs.Exact.{got_one, got_call, got_then, broke_none}
use Rattle.grammar_meaning.specs.Parts.{got_wide}
use Rattle.grammar_path_laws.specs.Paths.{here, in_call, in_first, in_rest, in_wide}
use Rattle.sql_meaning.specs.Kinds.{a_mark, a_count, kind, is, among}
use Rattle.sql_meaning.specs.Tokens.{placed}
use Rattle.sql_meaning.specs.Grammar.{Symbol, ItemList, Sources, Condition, KeyList, Most, Skip, Parts, Ending, Parsed, item_list, sources, key_list, an_expr, a_number, parts, ending, from_of, joins_of, condition_of, keys_of, number_of, counted, count, grammar}
use Rattle.sql_meaning.specs.declared.token.Mark.TheVariants as m
use Rattle.sql_meaning.specs.declared.token.Token.{Token}
use Rattle.sql_meaning.specs.declared.token.Token.TheVariants as t
use Rattle.sql_meaning.specs.declared.token.Placed.{Placed}
use Rattle.sql_meaning.specs.declared.expression.SqlExpr.{SqlExpr}
use Rattle.sql_meaning.specs.declared.script.Item.{Item}
use Rattle.sql_meaning.specs.declared.script.Source.{Source}
use Rattle.sql_meaning.specs.declared.script.JoinTo.{JoinTo}
use Rattle.sql_meaning.specs.declared.script.SqlKey.{SqlKey}
use Rattle.sql_text_cursor.specs.Table.{look, NoneOf, SomeOf}
use Rattle.sql_text_cursor.specs.Outcomes.{first_is, reading, got, Fault, fault_memory, fault_at, handed, Gets, Stops, MayGet, MayStop}
use Rattle.sql_text_cursor.specs.Steps.{absent, the, may_some, may_none, may_stops}
use Rattle.sql_text_cursor.specs.declared.refusal.Refusal.{Refusal}
use Rattle.sql_text_cursor.specs.declared.refusal.Refusal.TheVariants.{Syntax}
use Rattle.sql_text_clauses.specs.Keys.{count_of, CountMay, count_none, count_some, CountStops, count_stops}

-- sources that may be left out
pub data FromAt : List Placed → Option Source → List JoinTo → List Placed → Type 0 where
  from_at : {ts us : List Placed} (o : Parsed) → MayGet Sources ts o us → FromAt ts (from_of o) (joins_of o) us

pub from_some : (ts us : List Placed) (s : Source) (js : List JoinTo) → SomeOf (a_mark m.From ∷ []) ts → Gets Sources ts (sources s js) us → FromAt ts (Some s) js us
from_some ts us s js h a = from_at (Made (sources s js)) (may_some Sources ts us (sources s js) h a)

pub from_none : (ts : List Placed) (js : List JoinTo) → NoneOf (a_mark m.From ∷ []) ts → js ≡ [] → FromAt ts None js ts
from_none ts js h e = subst (λ (l : List JoinTo). FromAt ts None l ts) (sym e) (from_at Nil (may_none Sources ts refl h))

pub from_stops : (ts : List Placed) (r : Refusal) → SomeOf (a_mark m.From ∷ []) ts → Stops Sources ts r → MayStop Sources ts r
from_stops ts r h a = may_stops Sources ts r h a

pub ruleset from_steps = (fault_memory, from_some, from_none, from_stops)

-- a condition that may be left out
pub data WhereAt : List Placed → Option SqlExpr → List Placed → Type 0 where
  where_at : {ts us : List Placed} (o : Parsed) → MayGet Condition ts o us → WhereAt ts (condition_of o) us

pub where_some : (ts us : List Placed) (e : SqlExpr) → SomeOf (a_mark m.Where ∷ []) ts → Gets Condition ts (an_expr e) us → WhereAt ts (Some e) us
where_some ts us e h a = where_at (Made (an_expr e)) (may_some Condition ts us (an_expr e) h a)

pub where_none : (ts : List Placed) → NoneOf (a_mark m.Where ∷ []) ts → WhereAt ts None ts
where_none ts h = where_at Nil (may_none Condition ts refl h)

pub where_stops : (ts : List Placed) (r : Refusal) → SomeOf (a_mark m.Where ∷ []) ts → Stops Condition ts r → MayStop Condition ts r
where_stops ts r h a = may_stops Condition ts r h a

pub ruleset where_steps = (fault_memory, where_some, where_none, where_stops)

-- items, sources and a condition
pub parts_got : (ts us vs ws : List Placed) (is : List Item) (s : Option Source) (js : List JoinTo) (e : Option SqlExpr) → Gets ItemList ts (item_list is) us → FromAt us s js vs → WhereAt vs e ws → Gets Parts ts (parts is s js e) ws
parts_got ts us vs ws is s js e a (from_at o b) (where_at q d) = reading (λ c h. got_call Parts (got_then (look c) refl (got a c h) (got_then (look c) refl (got b c h) (got_wide (look c) refl (got d c h)))))

pub parts_items_stops : (ts : List Placed) (r : Refusal) → Stops ItemList ts r → Stops Parts ts r
parts_items_stops ts r a = handed (λ c h. in_call Parts (in_first (look c) refl here)) a

pub parts_from_stops : (ts us : List Placed) (is : List Item) (r : Refusal) → Gets ItemList ts (item_list is) us → MayStop Sources us r → Stops Parts ts r
parts_from_stops ts us is r b a = handed (λ c h. in_call Parts (in_rest (look c) refl (got b c h) (in_first (look c) refl here))) a

pub parts_where_stops : (ts us vs : List Placed) (is : List Item) (s : Option Source) (js : List JoinTo) (r : Refusal) → Gets ItemList ts (item_list is) us → FromAt us s js vs → MayStop Condition vs r → Stops Parts ts r
parts_where_stops ts us vs is s js r b (from_at o d) a = handed (λ c h. in_call Parts (in_rest (look c) refl (got b c h) (in_rest (look c) refl (got d c h) (in_wide (look c) refl here)))) a

pub ruleset parts_steps = (fault_memory, parts_got, parts_items_stops, parts_from_stops, parts_where_stops)

-- keys that may be left out
pub data KeysAt : List Placed → List SqlKey → List Placed → Type 0 where
  keys_at : {ts us : List Placed} (o : Parsed) → MayGet KeyList ts o us → KeysAt ts (keys_of o) us

pub keys_some : (ts us : List Placed) (ks : List SqlKey) → SomeOf (a_mark m.Order ∷ []) ts → Gets KeyList ts (key_list ks) us → KeysAt ts ks us
keys_some ts us ks h a = keys_at (Made (key_list ks)) (may_some KeyList ts us (key_list ks) h a)

pub keys_none : (ts : List Placed) (ks : List SqlKey) → NoneOf (a_mark m.Order ∷ []) ts → ks ≡ [] → KeysAt ts ks ts
keys_none ts ks h e = subst (λ (l : List SqlKey). KeysAt ts l ts) (sym e) (keys_at Nil (may_none KeyList ts refl h))

pub keys_stops : (ts : List Placed) (r : Refusal) → SomeOf (a_mark m.Order ∷ []) ts → Stops KeyList ts r → MayStop KeyList ts r
keys_stops ts r h a = may_stops KeyList ts r h a

pub ruleset may_keys_steps = (fault_memory, keys_some, keys_none, keys_stops)

-- a count's token
record Counts (x : Token) (n : ℕ) : Type 0 where
  there : IsTrue (is a_count (kind x))
  same : (i : ℕ) → counted (Leaf (placed i x)) ≡ n

some_of : (k n : ℕ) → Some k ≡ Some n → k ≡ n
some_of k n h = cc

no_some : (n : ℕ) → None ≡ Some n → ⊥
no_some n h = cc

counts : (x : Token) (n : ℕ) → count_of x ≡ Some n → Counts x n
counts (t.Int (pos k)) n h = by (nat_lt k 1000000000000000000) refl
  where
    by : (b : Bool) → nat_lt k 1000000000000000000 ≡ b → Counts (t.Int (pos k)) n
    by true e = let g : count_of (t.Int (pos k)) ≡ Some k = rw e refl in record { there = rw e refl; same = λ i. some_of k n (sym g ∙ h) }
    by false e = let g : count_of (t.Int (pos k)) ≡ None = rw e refl in absurd (no_some n (sym g ∙ h))
counts (t.Int (negsuc k)) n h = absurd (no_some n h)
counts (t.Mark k) n h = absurd (no_some n h)
counts (t.Name s) n h = absurd (no_some n h)
counts (t.Text s) n h = absurd (no_some n h)
counts t.Broken n h = absurd (no_some n h)

-- LIMIT and OFFSET
data NumberAt (s : Symbol) (ts : List Placed) : Option ℕ → List Placed → Type 0 where
  number_at : {us : List Placed} (o : Parsed) → MayGet s ts o us → NumberAt s ts (number_of o) us

most_at : (ts us : List Placed) (n : Option ℕ) → CountMay m.Limit ts n us → NumberAt Most ts n us
most_at ts us n (count_none h) = number_at Nil (may_none Most ts refl h)
most_at ts us n (count_some {x = x} {n = k} (first_is i) (first_is j) h) =
    number_at (Made (a_number k)) (may_some Most ts us (a_number k) refl (reading (λ c z. subst (λ (l : ℕ). Got (grammar c) (among []) (call Most) ts (Made (a_number l)) us) ((counts x k h).same j)
    (got_call Most (got_then (look c) refl (the c m.Limit i _) (got_one {G = grammar c} (among []) (is a_count) (placed j x) us ((counts x k h).there)))))))

skip_at : (ts us : List Placed) (n : Option ℕ) → CountMay m.Offset ts n us → NumberAt Skip ts n us
skip_at ts us n (count_none h) = number_at Nil (may_none Skip ts refl h)
skip_at ts us n (count_some {x = x} {n = k} (first_is i) (first_is j) h) =
    number_at (Made (a_number k)) (may_some Skip ts us (a_number k) refl (reading (λ c z. subst (λ (l : ℕ). Got (grammar c) (among []) (call Skip) ts (Made (a_number l)) us) ((counts x k h).same j)
    (got_call Skip (got_then (look c) refl (the c m.Offset i _) (got_one {G = grammar c} (among []) (is a_count) (placed j x) us ((counts x k h).there)))))))

count_fault : (us : List Placed) → NoneOf (a_count ∷ []) us → Fault [] count us (Syntax (length us))
count_fault us h = fault_at us (λ c i. broke_none (look c) (among []) refl (absent c (a_count ∷ []) count us refl h))

most_fault : (ts : List Placed) (r : Refusal) → CountStops m.Limit ts r → MayStop Most ts r
most_fault ts r (count_stops us (first_is i) h) = may_stops Most ts r refl (handed (λ c z. in_call Most (in_rest (look c) refl (the c m.Limit i us) here)) (count_fault us h))

skip_fault : (ts : List Placed) (r : Refusal) → CountStops m.Offset ts r → MayStop Skip ts r
skip_fault ts r (count_stops us (first_is i) h) = may_stops Skip ts r refl (handed (λ c z. in_call Skip (in_rest (look c) refl (the c m.Offset i us) here)) (count_fault us h))

ending_by : (ts us vs ws : List Placed) (ks : List SqlKey) (n k : Option ℕ) → KeysAt ts ks us → NumberAt Most us n vs → NumberAt Skip vs k ws → Gets Ending ts (ending ks n k) ws
ending_by ts us vs ws ks n k (keys_at o a) (number_at p b) (number_at q d) = reading (λ c h. got_call Ending (got_then (look c) refl (got a c h) (got_then (look c) refl (got b c h) (got_wide (look c) refl (got d c h)))))

pub ending_got : (ts us vs ws : List Placed) (ks : List SqlKey) (n k : Option ℕ) → KeysAt ts ks us → CountMay m.Limit us n vs → CountMay m.Offset vs k ws → Gets Ending ts (ending ks n k) ws
ending_got ts us vs ws ks n k a b d = ending_by ts us vs ws ks n k a (most_at us vs n b) (skip_at vs ws k d)

pub ending_keys_stops : (ts : List Placed) (r : Refusal) → MayStop KeyList ts r → Stops Ending ts r
ending_keys_stops ts r a = handed (λ c h. in_call Ending (in_first (look c) refl here)) a

pub ending_most_stops : (ts us : List Placed) (ks : List SqlKey) (r : Refusal) → KeysAt ts ks us → CountStops m.Limit us r → Stops Ending ts r
ending_most_stops ts us ks r (keys_at o b) a = handed (λ c h. in_call Ending (in_rest (look c) refl (got b c h) (in_first (look c) refl here))) (most_fault us r a)

ending_skip_by : (ts us vs : List Placed) (ks : List SqlKey) (n : Option ℕ) (r : Refusal) → KeysAt ts ks us → NumberAt Most us n vs → CountStops m.Offset vs r → Stops Ending ts r
ending_skip_by ts us vs ks n r (keys_at o b) (number_at p d) a = handed (λ c h. in_call Ending (in_rest (look c) refl (got b c h) (in_rest (look c) refl (got d c h) (in_wide (look c) refl here)))) (skip_fault vs r a)

pub ending_skip_stops : (ts us vs : List Placed) (ks : List SqlKey) (n : Option ℕ) (r : Refusal) → KeysAt ts ks us → CountMay m.Limit us n vs → CountStops m.Offset vs r → Stops Ending ts r
ending_skip_stops ts us vs ks n r b d a = ending_skip_by ts us vs ks n r b (most_at us vs n d) a

pub ruleset ending_steps = (fault_memory, ending_got, ending_keys_stops, ending_most_stops, ending_skip_stops)
