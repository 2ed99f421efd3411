-- The steps of the readers of items and sources.
use Rattle.std.proofs.Common.{Bool, true, false, IsTrue, List, [], ◌∷◌, ◌++◌, ◌≡◌, ℕ, refl, subst, sym, ap, ◌∙◌, append_assoc}
use Rattle.std.proofs.lemmas.List.{append-nil}
use Rattle.grammar_meaning.specs.Grammar.{Form, call, ◌⨾◌, many, maybe, Nil, Leaf, Made}
use Rattle.grammar_meaning.specs.Outcome.{Begins, NotBegun, Got, or, implies}
use Rattle.grammar_meaning.specs.Exact.{got_call, got_then}
use Rattle.grammar_meaning.specs.Parts.{got_some, got_skip}
use Rattle.grammar_path_laws.specs.Paths.{here, in_call, in_first, in_rest, loop_step, loop_end, in_loop}
use Rattle.sql_meaning.specs.Kinds.{Kind, a_mark, kind, is, among, kinds}
use Rattle.sql_meaning.specs.Tokens.{placed}
use Rattle.sql_meaning.specs.Grammar.{Symbol, ItemList, OneItem, Sources, OneSource, OneJoin, Expr, Limit, Parsed, item_list, an_item, sources, a_source, a_join, an_expr, items_in, joins_in, is_there, mark, name, grammar}
use Rattle.sql_meaning.specs.declared.token.Mark.{Mark}
use Rattle.sql_meaning.specs.declared.token.Mark.TheVariants as m
use Rattle.sql_meaning.specs.declared.token.Token.TheVariants as t
use Rattle.sql_meaning.specs.declared.token.Placed.{Placed}
use Rattle.sql_meaning.specs.declared.expression.SqlExpr.{SqlExpr}
use Rattle.sql_meaning.specs.declared.script.Item.{Item}
use Rattle.sql_meaning.specs.declared.script.Source.{Source}
use Rattle.sql_meaning.specs.declared.script.JoinTo.{JoinTo}
use Rattle.sql_text_cursor.specs.Table.{look, NoneOf, SomeOf, after}
use Rattle.sql_text_cursor.specs.Outcomes.{First, first_is, Reading, reading, got, Fault, fault_memory, handed, Looping, Gets, Stops}
use Rattle.sql_text_cursor.specs.Steps.{absent, ahead, the, last, the_name, begins_mark, every_from, none_both}
use Rattle.sql_text_cursor.specs.declared.refusal.Refusal.{Refusal}

-- an expression, AS and a name
pub item_got : (ts us vs ws : List Placed) (e : SqlExpr) (s : List ℕ) → Gets (Expr 0) ts (an_expr e) us → First us (t.Mark m.As) vs → First vs (t.Name s) ws → Gets OneItem ts (an_item (record { expr = e; name = s })) ws
item_got ts us vs ws e s a (first_is i) (first_is j) = reading (λ c h. got_call OneItem (got_then (look c) refl (got a c h) (got_then (look c) refl (the c m.As i _) (the_name c s j ws))))

pub item_expr_stops : (ts : List Placed) (r : Refusal) → Stops (Expr 0) ts r → Stops OneItem ts r
item_expr_stops ts r a = handed (λ c h. in_call OneItem (in_first (look c) refl here)) a

pub item_as_stops : (ts us : List Placed) (e : SqlExpr) (r : Refusal) → Gets (Expr 0) ts (an_expr e) us → Fault [] (mark m.As) us r → Stops OneItem ts r
item_as_stops ts us e r b a = handed (λ c h. in_call OneItem (in_rest (look c) refl (got b c h) (in_first (look c) refl here))) a

pub item_name_stops : (ts us vs : List Placed) (e : SqlExpr) (r : Refusal) → Gets (Expr 0) ts (an_expr e) us → First us (t.Mark m.As) vs → Fault [] name vs r → Stops OneItem ts r
item_name_stops ts us vs e r b (first_is i) a = handed (λ c h. in_call OneItem (in_rest (look c) refl (got b c h) (in_rest (look c) refl (the c m.As i _) here))) a

pub ruleset item_steps = (fault_memory, item_got, item_expr_stops, item_as_stops, item_name_stops)

abbrev pub next_item : Form Symbol Kind
next_item = mark m.Comma ⨾ call OneItem

-- a loop over items
pub data ItemLoop (ts : List Placed) (is : List Item) (us : List Placed) : Type 0 where
  item_loop : Looping (a_mark m.Comma ∷ []) next_item (a_mark m.Comma ∷ []) (call ItemList) ts (λ o. Made (item_list (is ++ items_in o))) us → ItemLoop ts is us

items_start : (ts us : List Placed) (x : Item) → Gets OneItem ts (an_item x) us → ItemLoop ts (x ∷ []) us
items_start ts us x a = item_loop (λ c h. record {
  more = λ o vs r. got_call ItemList (got_then (look c) refl (got a c h) r);
  path = in_call ItemList (in_rest (look c) refl (got a c h) here);
})

items_step : (ts us vs ws : List Placed) (is : List Item) (x : Item) → ItemLoop ts is us → First us (t.Mark m.Comma) vs → Gets OneItem vs (an_item x) ws → ItemLoop ts (is ++ (x ∷ [])) ws
items_step ts us vs ws is x (item_loop a) (first_is i) b = item_loop (λ c h.
    loop_step (look c) (λ o. Made (item_list ((is ++ (x ∷ [])) ++ items_in o))) refl (λ o. ap (λ l. Made (item_list l)) (sym (append_assoc is (x ∷ []) (items_in o)))) (begins_mark c m.Comma i vs) (a c h)
    (got_then (look c) refl (the c m.Comma i vs) (got b c h)))

pub items_made : (ts us : List Placed) (x : Item) (is none : List Item) → Gets OneItem ts (an_item x) us → none ≡ [] → is ≡ none ++ (x ∷ []) → ItemLoop ts is us
items_made ts us x is none a e h = subst (λ (l : List Item). ItemLoop ts l us) (sym (h ∙ ap (λ l. l ++ (x ∷ [])) e)) (items_start ts us x a)

pub items_added : (ts us vs ws : List Placed) (is all : List Item) (x : Item) → ItemLoop ts is us → First us (t.Mark m.Comma) vs → Gets OneItem vs (an_item x) ws → all ≡ is ++ (x ∷ []) → ItemLoop ts all ws
items_added ts us vs ws is all x a f b h = subst (λ (l : List Item). ItemLoop ts l ws) (sym h) (items_step ts us vs ws is x a f b)

pub items_end : (ts us : List Placed) (is : List Item) → ItemLoop ts is us → NoneOf (a_mark m.Comma ∷ []) us → Gets ItemList ts (item_list is) us
items_end ts us is (item_loop a) none = reading (λ c h. subst (λ l. Got (grammar c) (among (after ItemList)) (call ItemList) ts (Made (item_list l)) us) (append-nil is)
    (loop_end (look c) refl (absent c (a_mark m.Comma ∷ []) (next_item ⨾ many next_item) us refl none) (a c h)))

pub items_first_stops : (ts : List Placed) (r : Refusal) → Stops OneItem ts r → Stops ItemList ts r
items_first_stops ts r a = handed (λ c h. in_call ItemList (in_first (look c) refl here)) a

pub items_later_stops : (ts us vs : List Placed) (is : List Item) (r : Refusal) → ItemLoop ts is us → First us (t.Mark m.Comma) vs → Stops OneItem vs r → Stops ItemList ts r
items_later_stops ts us vs is r (item_loop b) (first_is i) a = handed (λ c h. in_loop (look c) refl (begins_mark c m.Comma i vs) (b c h) (in_rest (look c) refl (the c m.Comma i vs) here)) a

pub ruleset items_steps = (fault_memory, items_made, items_added, items_end, items_first_stops, items_later_stops)

-- a table or a step, AS and its alias
pub source_got : (ts us vs ws : List Placed) (a b : List ℕ) → First ts (t.Name a) us → First us (t.Mark m.As) vs → First vs (t.Name b) ws → Gets OneSource ts (a_source (record { table = a; alias = b })) ws
source_got ts us vs ws a b (first_is i) (first_is j) (first_is k) = reading (λ c h. got_call OneSource (got_then (look c) refl (the_name c a i _) (got_then (look c) refl (the c m.As j _) (the_name c b k ws))))

pub source_name_stops : (ts : List Placed) (r : Refusal) → Fault [] name ts r → Stops OneSource ts r
source_name_stops ts r a = handed (λ c h. in_call OneSource (in_first (look c) refl here)) a

pub source_as_stops : (ts us : List Placed) (s : List ℕ) (r : Refusal) → First ts (t.Name s) us → Fault [] (mark m.As) us r → Stops OneSource ts r
source_as_stops ts us s r (first_is i) a = handed (λ c h. in_call OneSource (in_rest (look c) refl (the_name c s i _) (in_first (look c) refl here))) a

pub source_alias_stops : (ts us vs : List Placed) (s : List ℕ) (r : Refusal) → First ts (t.Name s) us → First us (t.Mark m.As) vs → Fault [] name vs r → Stops OneSource ts r
source_alias_stops ts us vs s r (first_is i) (first_is j) a = handed (λ c h. in_call OneSource (in_rest (look c) refl (the_name c s i _) (in_rest (look c) refl (the c m.As j _) here))) a

pub ruleset source_steps = (fault_memory, source_got, source_name_stops, source_as_stops, source_alias_stops)

not_first : (a : Bool) → IsTrue (implies a (or a false))
not_first true = refl
not_first false = refl

not_marked : (c : Limit) (k : Mark) (ts : List Placed) → NoneOf (a_mark k ∷ []) ts → NotBegun (grammar c) (look c) (mark k) ts
not_marked c k ts h = absent c (a_mark k ∷ []) (mark k) ts (every_from kinds (λ j. not_first (is (a_mark k) j))) h

-- a mark that may be left out, and whether it is there
pub data MarkMay (k : Mark) : List Placed → Bool → List Placed → Type 0 where
  mark_may : {ts us : List Placed} {b : Bool} (o : Parsed) → Reading (a_mark k ∷ []) (maybe (mark k)) ts o us → is_there o ≡ b → MarkMay k ts b us

pub mark_there : (k : Mark) (ts us : List Placed) → First ts (t.Mark k) us → MarkMay k ts true us
mark_there k ts us (first_is i) = mark_may (Leaf (placed i (t.Mark k))) (reading (λ c h. got_some (begins_mark c k i us) (last c (a_mark k ∷ []) k i us))) refl

pub mark_missing : (k : Mark) (ts : List Placed) → NoneOf (a_mark k ∷ []) ts → MarkMay k ts false ts
mark_missing k ts h = mark_may Nil (reading (λ c i. got_skip (look c) (among (a_mark k ∷ [])) refl (not_marked c k ts h))) refl

pub ruleset mark_steps = (mark_there, mark_missing)

-- a join's kind, and its source
pub join_got : (ts us vs ws xs ys : List Placed) (b : Bool) (s : Source) (e : SqlExpr) → MarkMay m.Left ts b us → First us (t.Mark m.Join) vs → Gets OneSource vs (a_source s) ws → First ws (t.Mark m.On) xs → Gets (Expr 0) xs (an_expr e) ys → Gets OneJoin ts (a_join (record { left = b; source = s; on = e })) ys
join_got ts us vs ws xs ys b s e (mark_may o a same) (first_is i) d (first_is j) f = subst (λ (z : Bool). Gets OneJoin ts (a_join (record { left = z; source = s; on = e })) ys) same
    (reading (λ c h. got_call OneJoin (got_then (look c) refl (got a c h) (got_then (look c) refl (the c m.Join i _) (got_then (look c) refl (got d c h) (got_then (look c) refl (the c m.On j _) (got f c h)))))))

pub join_word_stops : (ts us : List Placed) (b : Bool) (r : Refusal) → MarkMay m.Left ts b us → Fault [] (mark m.Join) us r → Stops OneJoin ts r
join_word_stops ts us b r (mark_may o d same) a = handed (λ c h. in_call OneJoin (in_rest (look c) refl (got d c h) (in_first (look c) refl here))) a

pub join_source_stops : (ts us vs : List Placed) (b : Bool) (r : Refusal) → MarkMay m.Left ts b us → First us (t.Mark m.Join) vs → Stops OneSource vs r → Stops OneJoin ts r
join_source_stops ts us vs b r (mark_may o d same) (first_is i) a = handed (λ c h. in_call OneJoin (in_rest (look c) refl (got d c h) (in_rest (look c) refl (the c m.Join i _) (in_first (look c) refl here)))) a

pub join_on_stops : (ts us vs ws : List Placed) (b : Bool) (s : Source) (r : Refusal) → MarkMay m.Left ts b us → First us (t.Mark m.Join) vs → Gets OneSource vs (a_source s) ws → Fault [] (mark m.On) ws r → Stops OneJoin ts r
join_on_stops ts us vs ws b s r (mark_may o d same) (first_is i) f a = handed (λ c h. in_call OneJoin (in_rest (look c) refl (got d c h) (in_rest (look c) refl (the c m.Join i _) (in_rest (look c) refl (got f c h) (in_first (look c) refl here))))) a

pub join_expr_stops : (ts us vs ws xs : List Placed) (b : Bool) (s : Source) (r : Refusal) → MarkMay m.Left ts b us → First us (t.Mark m.Join) vs → Gets OneSource vs (a_source s) ws → First ws (t.Mark m.On) xs → Stops (Expr 0) xs r → Stops OneJoin ts r
join_expr_stops ts us vs ws xs b s r (mark_may o d same) (first_is i) f (first_is j) a =
    handed (λ c h. in_call OneJoin (in_rest (look c) refl (got d c h) (in_rest (look c) refl (the c m.Join i _) (in_rest (look c) refl (got f c h) (in_rest (look c) refl (the c m.On j _) here))))) a

pub ruleset join_steps = (fault_memory, join_got, join_word_stops, join_source_stops, join_on_stops, join_expr_stops)

-- a join is ahead
pub join_yes : (ts : List Placed) → SomeOf (a_mark m.Join ∷ []) ts → SomeOf (a_mark m.Left ∷ a_mark m.Join ∷ []) ts
join_yes [] h = h
join_yes (p ∷ ps) h = by (is (a_mark m.Left) (kind p.token)) (or (is (a_mark m.Join) (kind p.token)) false) h
  where
    by : (a b : Bool) → IsTrue b → IsTrue (or a b)
    by true b h = refl
    by false b h = h

pub left_yes : (ts : List Placed) → SomeOf (a_mark m.Left ∷ []) ts → SomeOf (a_mark m.Left ∷ a_mark m.Join ∷ []) ts
left_yes [] h = h
left_yes (p ∷ ps) h = by (is (a_mark m.Left) (kind p.token)) (or (is (a_mark m.Join) (kind p.token)) false) h
  where
    by : (a b : Bool) → IsTrue (or a false) → IsTrue (or a b)
    by true b h = refl
    by false b h = cc

pub join_no : (ts : List Placed) → NoneOf (a_mark m.Left ∷ []) ts → NoneOf (a_mark m.Join ∷ []) ts → NoneOf (a_mark m.Left ∷ a_mark m.Join ∷ []) ts
join_no ts h i = none_both (a_mark m.Left) (a_mark m.Join ∷ []) ts h i

pub ruleset ahead_steps = (join_yes, left_yes, join_no)

-- a loop over joins
pub data SourceLoop (s : Source) (ts : List Placed) (js : List JoinTo) (us : List Placed) : Type 0 where
  source_loop : Looping (a_mark m.Left ∷ a_mark m.Join ∷ []) (call OneJoin) (a_mark m.Left ∷ a_mark m.Join ∷ []) (call Sources) ts (λ o. Made (sources s (js ++ joins_in o))) us → SourceLoop s ts js us

sources_begin : (ts us vs : List Placed) (s : Source) → First ts (t.Mark m.From) us → Gets OneSource us (a_source s) vs → SourceLoop s ts [] vs
sources_begin ts us vs s (first_is i) a = source_loop (λ c h. record {
  more = λ o ws r. got_call Sources (got_then (look c) refl (the c m.From i us) (got_then (look c) refl (got a c h) r));
  path = in_call Sources (in_rest (look c) refl (the c m.From i us) (in_rest (look c) refl (got a c h) here));
})

pub sources_start : (ts us vs : List Placed) (s : Source) (js : List JoinTo) → First ts (t.Mark m.From) us → Gets OneSource us (a_source s) vs → js ≡ [] → SourceLoop s ts js vs
sources_start ts us vs s js f a e = subst (λ (l : List JoinTo). SourceLoop s ts l vs) (sym e) (sources_begin ts us vs s f a)

joins_ahead : (c : Limit) (us : List Placed) → SomeOf (a_mark m.Left ∷ a_mark m.Join ∷ []) us → Begins (grammar c) (among (a_mark m.Left ∷ a_mark m.Join ∷ [])) us
joins_ahead c us s = ahead c (a_mark m.Left ∷ a_mark m.Join ∷ []) (a_mark m.Left ∷ a_mark m.Join ∷ []) us refl s

sources_step : (ts us vs : List Placed) (s : Source) (js : List JoinTo) (j : JoinTo) → SourceLoop s ts js us → SomeOf (a_mark m.Left ∷ a_mark m.Join ∷ []) us → Gets OneJoin us (a_join j) vs → SourceLoop s ts (js ++ (j ∷ [])) vs
sources_step ts us vs s js j (source_loop a) h b = source_loop (λ c i.
    loop_step (look c) (λ o. Made (sources s ((js ++ (j ∷ [])) ++ joins_in o))) refl (λ o. ap (λ l. Made (sources s l)) (sym (append_assoc js (j ∷ []) (joins_in o)))) (joins_ahead c us h) (a c i) (got b c i))

pub sources_added : (ts us vs : List Placed) (s : Source) (js all : List JoinTo) (j : JoinTo) → SourceLoop s ts js us → SomeOf (a_mark m.Left ∷ a_mark m.Join ∷ []) us → Gets OneJoin us (a_join j) vs → all ≡ js ++ (j ∷ []) → SourceLoop s ts all vs
sources_added ts us vs s js all j a h b e = subst (λ (l : List JoinTo). SourceLoop s ts l vs) (sym e) (sources_step ts us vs s js j a h b)

pub sources_end : (ts us : List Placed) (s : Source) (js : List JoinTo) → SourceLoop s ts js us → NoneOf (a_mark m.Left ∷ a_mark m.Join ∷ []) us → Gets Sources ts (sources s js) us
sources_end ts us s js (source_loop a) none = reading (λ c h. subst (λ l. Got (grammar c) (among (after Sources)) (call Sources) ts (Made (sources s l)) us) (append-nil js)
    (loop_end (look c) refl (absent c (a_mark m.Left ∷ a_mark m.Join ∷ []) (call OneJoin ⨾ many (call OneJoin)) us refl none) (a c h)))

pub sources_from_stops : (ts : List Placed) (r : Refusal) → Fault [] (mark m.From) ts r → Stops Sources ts r
sources_from_stops ts r a = handed (λ c h. in_call Sources (in_first (look c) refl here)) a

pub sources_first_stops : (ts us : List Placed) (r : Refusal) → First ts (t.Mark m.From) us → Stops OneSource us r → Stops Sources ts r
sources_first_stops ts us r (first_is i) a = handed (λ c h. in_call Sources (in_rest (look c) refl (the c m.From i us) (in_first (look c) refl here))) a

pub sources_later_stops : (ts us : List Placed) (s : Source) (js : List JoinTo) (r : Refusal) → SourceLoop s ts js us → SomeOf (a_mark m.Left ∷ a_mark m.Join ∷ []) us → Stops OneJoin us r → Stops Sources ts r
sources_later_stops ts us s js r (source_loop b) h a = handed (λ c i. in_loop (look c) refl (joins_ahead c us h) (b c i) here) a

pub ruleset sources_steps = (fault_memory, sources_start, sources_added, sources_end, sources_from_stops, sources_first_stops, sources_later_stops)
