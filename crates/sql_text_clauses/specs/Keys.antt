-- The steps of the readers of conditions, keys and counts.
use Rattle.std.proofs.Common.{Bool, true, false, List, [], ◌∷◌, ◌++◌, ◌≡◌, ℕ, pos, negsuc, length, refl, subst, sym, ap, ◌∙◌, append_assoc, Option, Some, None}
use Rattle.std.proofs.lemmas.List.{append-nil}
use Rattle.grammar_meaning.specs.Grammar.{Form, call, ◌⨾◌, many, Made}
use Rattle.grammar_meaning.specs.Outcome.{Begins, Got}
use Rattle.grammar_meaning.specs.Exact.{got_call, got_then}
use Rattle.grammar_path_laws.specs.Paths.{here, in_call, in_first, in_rest, loop_step, loop_end, in_loop}
use Rattle.sql_meaning.specs.Kinds.{Kind, a_mark, a_count, kind, is, among}
use Rattle.sql_meaning.specs.Tokens.{placed}
use Rattle.sql_meaning.specs.Grammar.{Symbol, Condition, KeyList, OneKey, Expr, Limit, key_list, a_key, an_expr, keys_in, mark, count, grammar}
use Rattle.sql_meaning.specs.declared.token.Mark.{Mark}
use Rattle.sql_meaning.specs.declared.token.Mark.TheVariants as m
use Rattle.sql_meaning.specs.declared.token.Token.{Token}
use Rattle.sql_meaning.specs.declared.token.Token.TheVariants as t
use Rattle.sql_meaning.specs.declared.token.Placed.{Placed}
use Rattle.sql_meaning.specs.declared.expression.SqlExpr.{SqlExpr}
use Rattle.sql_meaning.specs.declared.script.SqlKey.{SqlKey}
use Rattle.sql_text_cursor.specs.Table.{look, NoneOf, after}
use Rattle.sql_text_cursor.specs.Outcomes.{First, first_is, reading, got, Fault, fault_memory, handed, Looping, Gets, Stops}
use Rattle.sql_text_cursor.specs.Steps.{absent, the}
use Rattle.sql_text_cursor.specs.declared.refusal.Refusal.{Refusal}
use Rattle.sql_text_cursor.specs.declared.refusal.Refusal.TheVariants.{Syntax}
use Rattle.sql_text_clauses.specs.Rows.{MarkMay, mark_may}
use Rattle.std.specs.Prelude.{nat_lt, if◌then◌else◌}
use Rattle.sql_text_cursor.specs.Tests.{none_left, kind_of}

-- WHERE and an expression
pub condition_got : (ts us vs : List Placed) (e : SqlExpr) → First ts (t.Mark m.Where) us → Gets (Expr 0) us (an_expr e) vs → Gets Condition ts (an_expr e) vs
condition_got ts us vs e (first_is i) a = reading (λ c h. got_call Condition (got_then (look c) refl (the c m.Where i us) (got a c h)))

pub condition_word_stops : (ts : List Placed) (r : Refusal) → Fault [] (mark m.Where) ts r → Stops Condition ts r
condition_word_stops ts r a = handed (λ c h. in_call Condition (in_first (look c) refl here)) a

pub condition_expr_stops : (ts us : List Placed) (r : Refusal) → First ts (t.Mark m.Where) us → Stops (Expr 0) us r → Stops Condition ts r
condition_expr_stops ts us r (first_is i) a = handed (λ c h. in_call Condition (in_rest (look c) refl (the c m.Where i us) here)) a

pub ruleset condition_steps = (fault_memory, condition_got, condition_word_stops, condition_expr_stops)

-- an expression, and whether DESC stands behind it
pub key_got : (ts us vs : List Placed) (e : SqlExpr) (b : Bool) → Gets (Expr 0) ts (an_expr e) us → MarkMay m.Desc us b vs → Gets OneKey ts (a_key (record { expr = e; down = b })) vs
key_got ts us vs e b a (mark_may o d same) = subst (λ (z : Bool). Gets OneKey ts (a_key (record { expr = e; down = z })) vs) same
    (reading (λ c h. got_call OneKey (got_then (look c) refl (got a c h) (got d c h))))

pub key_expr_stops : (ts : List Placed) (r : Refusal) → Stops (Expr 0) ts r → Stops OneKey ts r
key_expr_stops ts r a = handed (λ c h. in_call OneKey (in_first (look c) refl here)) a

pub ruleset key_steps = (fault_memory, key_got, key_expr_stops)

abbrev pub next_key : Form Symbol Kind
next_key = mark m.Comma ⨾ call OneKey

-- a loop over keys
pub data KeyLoop (ts : List Placed) (ks : List SqlKey) (us : List Placed) : Type 0 where
  key_loop : Looping (a_mark m.Comma ∷ a_mark m.Desc ∷ []) next_key (a_mark m.Comma ∷ a_mark m.Desc ∷ []) (call KeyList) ts (λ o. Made (key_list (ks ++ keys_in o))) us → KeyLoop ts ks us

keys_start : (ts us vs ws : List Placed) (k : SqlKey) → First ts (t.Mark m.Order) us → First us (t.Mark m.By) vs → Gets OneKey vs (a_key k) ws → KeyLoop ts (k ∷ []) ws
keys_start ts us vs ws k (first_is i) (first_is j) a = key_loop (λ c h. record {
  more = λ o xs r. got_call KeyList (got_then (look c) refl (the c m.Order i _) (got_then (look c) refl (the c m.By j _) (got_then (look c) refl (got a c h) r)));
  path = in_call KeyList (in_rest (look c) refl (the c m.Order i _) (in_rest (look c) refl (the c m.By j vs) (in_rest (look c) refl (got a c h) here)));
})

comma_ahead : (c : Limit) (i : ℕ) (us : List Placed) → Begins (grammar c) (among (a_mark m.Comma ∷ a_mark m.Desc ∷ [])) (placed i (t.Mark m.Comma) ∷ us)
comma_ahead c i us = refl

keys_step : (ts us vs ws : List Placed) (ks : List SqlKey) (k : SqlKey) → KeyLoop ts ks us → First us (t.Mark m.Comma) vs → Gets OneKey vs (a_key k) ws → KeyLoop ts (ks ++ (k ∷ [])) ws
keys_step ts us vs ws ks k (key_loop a) (first_is i) b = key_loop (λ c h.
    loop_step (look c) (λ o. Made (key_list ((ks ++ (k ∷ [])) ++ keys_in o))) refl (λ o. ap (λ l. Made (key_list l)) (sym (append_assoc ks (k ∷ []) (keys_in o)))) (comma_ahead c i vs) (a c h)
    (got_then (look c) refl (the c m.Comma i vs) (got b c h)))

pub keys_made : (ts us vs ws : List Placed) (k : SqlKey) (ks none : List SqlKey) → First ts (t.Mark m.Order) us → First us (t.Mark m.By) vs → Gets OneKey vs (a_key k) ws → none ≡ [] → ks ≡ none ++ (k ∷ []) → KeyLoop ts ks ws
keys_made ts us vs ws k ks none f g a e h = subst (λ (l : List SqlKey). KeyLoop ts l ws) (sym (h ∙ ap (λ l. l ++ (k ∷ [])) e)) (keys_start ts us vs ws k f g a)

pub keys_added : (ts us vs ws : List Placed) (ks all : List SqlKey) (k : SqlKey) → KeyLoop ts ks us → First us (t.Mark m.Comma) vs → Gets OneKey vs (a_key k) ws → all ≡ ks ++ (k ∷ []) → KeyLoop ts all ws
keys_added ts us vs ws ks all k a f b h = subst (λ (l : List SqlKey). KeyLoop ts l ws) (sym h) (keys_step ts us vs ws ks k a f b)

pub keys_end : (ts us : List Placed) (ks : List SqlKey) → KeyLoop ts ks us → NoneOf (a_mark m.Comma ∷ []) us → Gets KeyList ts (key_list ks) us
keys_end ts us ks (key_loop a) none = reading (λ c h. subst (λ l. Got (grammar c) (among (after KeyList)) (call KeyList) ts (Made (key_list l)) us) (append-nil ks)
    (loop_end (look c) refl (absent c (a_mark m.Comma ∷ []) (next_key ⨾ many next_key) us refl none) (a c h)))

pub keys_order_stops : (ts : List Placed) (r : Refusal) → Fault [] (mark m.Order) ts r → Stops KeyList ts r
keys_order_stops ts r a = handed (λ c h. in_call KeyList (in_first (look c) refl here)) a

pub keys_by_stops : (ts us : List Placed) (r : Refusal) → First ts (t.Mark m.Order) us → Fault [] (mark m.By) us r → Stops KeyList ts r
keys_by_stops ts us r (first_is i) a = handed (λ c h. in_call KeyList (in_rest (look c) refl (the c m.Order i us) (in_first (look c) refl here))) a

pub keys_first_stops : (ts us vs : List Placed) (r : Refusal) → First ts (t.Mark m.Order) us → First us (t.Mark m.By) vs → Stops OneKey vs r → Stops KeyList ts r
keys_first_stops ts us vs r (first_is i) (first_is j) a = handed (λ c h. in_call KeyList (in_rest (look c) refl (the c m.Order i _) (in_rest (look c) refl (the c m.By j vs) (in_first (look c) refl here)))) a

pub keys_later_stops : (ts us vs : List Placed) (ks : List SqlKey) (r : Refusal) → KeyLoop ts ks us → First us (t.Mark m.Comma) vs → Stops OneKey vs r → Stops KeyList ts r
keys_later_stops ts us vs ks r (key_loop b) (first_is i) a = handed (λ c h. in_loop (look c) refl (comma_ahead c i vs) (b c h) (in_rest (look c) refl (the c m.Comma i vs) here)) a

pub ruleset keys_steps = (fault_memory, keys_made, keys_added, keys_end, keys_order_stops, keys_by_stops, keys_first_stops, keys_later_stops)

-- the count that a token writes: up to 18 digits
abbrev pub count_of : Token → Option ℕ
count_of (t.Int (pos n)) = if nat_lt n 1000000000000000000 then Some n else None
count_of (t.Int (negsuc n)) = None
count_of (t.Mark k) = None
count_of (t.Name s) = None
count_of (t.Text s) = None
count_of t.Broken = None

-- the form of LIMIT and OFFSET
abbrev pub counted_form : Mark → Form Symbol Kind
counted_form k = mark k ⨾ count

-- a count behind a mark, or neither
pub data CountMay (k : Mark) : List Placed → Option ℕ → List Placed → Type 0 where
  count_none : {ts : List Placed} → NoneOf (a_mark k ∷ []) ts → CountMay k ts None ts
  count_some : {ts us vs : List Placed} {x : Token} {n : ℕ} → First ts (t.Mark k) us → First us x vs → count_of x ≡ Some n → CountMay k ts (Some n) vs

-- the mark is there, and no count behind it
pub data CountStops (k : Mark) (ts : List Placed) : Refusal → Type 0 where
  count_stops : (us : List Placed) → First ts (t.Mark k) us → NoneOf (a_count ∷ []) us → CountStops k ts (Syntax (length us))

pub count_nothing : (k : Mark) (ts us : List Placed) → First ts (t.Mark k) us → us ≡ [] → CountStops k ts (Syntax (length us))
count_nothing k ts us f e = count_stops us f (none_left (a_count ∷ []) us e)

mark_no_count : (k : Mark) → is a_count (a_mark k) ≡ false
mark_no_count k = by (is a_count (a_mark k)) refl
  where
    other : a_count ≡ a_mark k → ⊥
    other h = cc

    by : (b : Bool) → is a_count (a_mark k) ≡ b → is a_count (a_mark k) ≡ false
    by true e = absurd (other (kind_of a_count (a_mark k) e))
    by false e = e

no_count : (x : Token) → count_of x ≡ None → among (a_count ∷ []) (kind x) ≡ false
no_count (t.Int (pos n)) h = by (nat_lt n 1000000000000000000) refl
  where
    some_none : (k : ℕ) → Some k ≡ None → ⊥
    some_none k h = cc

    by : (b : Bool) → nat_lt n 1000000000000000000 ≡ b → among (a_count ∷ []) (kind (t.Int (pos n))) ≡ false
    by true e = absurd (some_none n (let i : count_of (t.Int (pos n)) ≡ Some n = rw e refl in sym i ∙ h))
    by false e = rw e refl
no_count (t.Int (negsuc n)) h = refl
no_count (t.Mark k) h = rw (mark_no_count k) refl
no_count (t.Name s) h = refl
no_count (t.Text s) h = refl
no_count t.Broken h = refl

pub count_other : (k : Mark) (ts us vs : List Placed) (x : Token) → First ts (t.Mark k) us → First us x vs → count_of x ≡ None → CountStops k ts (Syntax (length us))
count_other k ts us vs x f g h = count_stops us f (by us g)
  where
    by : (us : List Placed) → First us x vs → NoneOf (a_count ∷ []) us
    by us (first_is i) = no_count x h

pub ruleset count_steps = (count_none, count_some, count_nothing, count_other)
