-- The steps of the readers of expressions: by their first token, in brackets, and the deep ones.
use Rattle.std.proofs.Common.{Bool, true, false, IsTrue, List, [], ◌∷◌, ◌≡◌, ℕ, length, refl, subst, sym, ◌+◌, ◌⊎◌, inl, inr}
use Rattle.std.specs.Prelude.{nat_lt}
use Rattle.grammar_meaning.specs.Grammar.{Form, call, ◌⨾◌, ◌∣◌, Leaf, Pair, Made, Front, front_one, front_rule, front_first, front_left, front_right}
use Rattle.grammar_meaning.specs.Outcome.{Got, or}
use Rattle.grammar_meaning.specs.Exact.{got_call, got_then, broke_none, broke_call}
use Rattle.grammar_meaning.specs.Parts.{got_left_only, got_right_only, got_wide}
use Rattle.grammar_path_laws.specs.Paths.{Path, here, in_call, in_first, in_rest, in_left, in_right, in_wide}
use Rattle.sql_meaning.specs.Kinds.{Kind, a_mark, a_name, a_count, an_int, a_text, kind, is, among}
use Rattle.sql_meaning.specs.Tokens.{placed}
use Rattle.sql_meaning.specs.Scripts.{most_levels}
use Rattle.sql_meaning.specs.Grammar.{Symbol, Expr, Simple, NullOf, Inner, More, Cases, Firsts, Limit, Tree, Parsed, an_expr, expr_list, tree_in, joined, forms, tails, rule, mark, grammar, unlimited, limited, full}
use Rattle.sql_meaning.specs.declared.token.Mark.TheVariants as m
use Rattle.sql_meaning.specs.declared.token.Separator.TheVariants as sep
use Rattle.sql_meaning.specs.declared.token.Token.TheVariants as t
use Rattle.sql_meaning.specs.declared.token.Placed.{Placed}
use Rattle.sql_meaning.specs.declared.expression.SqlExpr.{SqlExpr}
use Rattle.sql_meaning.specs.declared.expression.SqlExpr.TheVariants as v
use Rattle.sql_text_cursor.specs.Table.{look, NoneOf, SomeOf, leaf_kinds, expr_kinds}
use Rattle.sql_text_cursor.specs.Outcomes.{First, first_is, Reading, reading, got, Fault, fault_memory, fault_deep, fault_at, handed, Lead, Gets, Stops, Allows}
use Rattle.sql_text_cursor.specs.Steps.{apart, absent, the, last, none_stops, none_both}
use Rattle.sql_text_cursor.specs.declared.refusal.Refusal.{Refusal}
use Rattle.sql_text_cursor.specs.declared.refusal.Refusal.TheVariants.{Deep, Syntax}
use Rattle.sql_text_expressions.specs.Starts.{start_kinds}
use Rattle.sql_text_expressions.specs.Lists.{MoreAt, more_at}
use Rattle.sql_text_expressions.specs.declared.start.Start.{Start}
use Rattle.sql_text_expressions.specs.declared.start.Start.TheVariants as st

-- an expression may stand inside n others
abbrev pub Fits : ℕ → Type 0
Fits n = IsTrue (nat_lt n most_levels)

abbrev pub brackets : ℕ → Form Symbol Kind
brackets n = mark m.Open ⨾ call (Inner n) ⨾ mark m.Close

abbrev pub from_cases : ℕ → Form Symbol Kind
from_cases n = call (Cases n) ∣ call (Firsts n)

abbrev pub from_brackets : ℕ → Form Symbol Kind
from_brackets n = brackets n ∣ from_cases n

abbrev pub from_null : ℕ → Form Symbol Kind
from_null n = call NullOf ∣ from_brackets n

expr_rule : (c : Limit) (n : ℕ) → IsTrue (c n) → rule c (Expr n) ≡ forms (n + 1)
expr_rule c n h = rw h refl

expr_got : (n : ℕ) (ts us : List Placed) (e : SqlExpr) (x : Parsed) → Fits n → tree_in x ≡ an_expr e → ((c : Limit) → Allows c → Got (grammar c) (among []) (forms (n + 1)) ts (Made (tree_in x)) us) → Gets (Expr n) ts (an_expr e) us
expr_got n ts us e x w same a = reading (λ c h. subst (λ (z : Tree). Got (grammar c) (among []) (call (Expr n)) ts (Made z) us) same
    (got_call (Expr n) (subst (λ (f : Form Symbol Kind). Got (grammar c) (among []) f ts (Made (tree_in x)) us) (sym (expr_rule c n (h n w))) (a c h))))

in_expr : (n : ℕ) (e : List Kind) (f : Form Symbol Kind) (ts us : List Placed) → Fits n → Lead e f us [] (forms (n + 1)) ts → Lead e f us [] (call (Expr n)) ts
in_expr n e f ts us w p = λ c h. in_call (Expr n) (subst (λ (g : Form Symbol Kind). Path (grammar c) (among e) f us (among []) g ts) (sym (expr_rule c n (h n w))) (p c h))

-- a leaf
pub expr_simple : (n : ℕ) (ts us : List Placed) (e : SqlExpr) → Fits n → SomeOf leaf_kinds ts → Gets Simple ts (an_expr e) us → Gets (Expr n) ts (an_expr e) us
expr_simple n ts us e w s a = expr_got n ts us e (Made (an_expr e)) w refl (λ c h. got_left_only (look c) refl (apart c leaf_kinds (from_null (n + 1)) ts refl s) (got a c h))

pub expr_simple_stops : (n : ℕ) (ts : List Placed) (r : Refusal) → Fits n → SomeOf leaf_kinds ts → Stops Simple ts r → Stops (Expr n) ts r
expr_simple_stops n ts r w s a = handed (in_expr n [] (call Simple) ts ts w (λ c h. in_left (look c) refl (apart c leaf_kinds (from_null (n + 1)) ts refl s) here)) a

-- a null
pub expr_null : (n : ℕ) (ts us : List Placed) (e : SqlExpr) → Fits n → SomeOf (a_mark m.Cast ∷ []) ts → Gets NullOf ts (an_expr e) us → Gets (Expr n) ts (an_expr e) us
expr_null n ts us e w s a = expr_got n ts us e (Made (an_expr e)) w refl (λ c h. got_right_only (look c) refl (apart c (a_mark m.Cast ∷ []) (call Simple) ts refl s)
    (got_left_only (look c) refl (apart c (a_mark m.Cast ∷ []) (from_brackets (n + 1)) ts refl s) (got a c h)))

pub expr_null_stops : (n : ℕ) (ts : List Placed) (r : Refusal) → Fits n → SomeOf (a_mark m.Cast ∷ []) ts → Stops NullOf ts r → Stops (Expr n) ts r
expr_null_stops n ts r w s a = handed (in_expr n [] (call NullOf) ts ts w (λ c h. in_right (look c) refl (apart c (a_mark m.Cast ∷ []) (call Simple) ts refl s)
    (in_left (look c) refl (apart c (a_mark m.Cast ∷ []) (from_brackets (n + 1)) ts refl s) here))) a

-- brackets
pub data BracketsAt (n : ℕ) : List Placed → SqlExpr → List Placed → Type 0 where
  brackets_at : {ts us vs ws : List Placed} {e : SqlExpr} → First ts (t.Mark m.Open) us → Gets (Inner n) us (an_expr e) vs → First vs (t.Mark m.Close) ws → BracketsAt n ts e ws

pub expr_brackets : (n : ℕ) (ts us : List Placed) (e : SqlExpr) → Fits n → BracketsAt (n + 1) ts e us → Gets (Expr n) ts (an_expr e) us
expr_brackets n ts us e w (brackets_at (first_is i) a (first_is j)) =
    reading (λ c h. got_call (Expr n) (subst (λ (f : Form Symbol Kind). Got (grammar c) (among []) f ts (Pair (Leaf (placed i (t.Mark m.Open))) (Pair (Made (an_expr e)) (Leaf (placed j (t.Mark m.Close))))) us) (sym (expr_rule c n (h n w)))
    (got_right_only (look c) refl refl (got_right_only (look c) refl refl (got_left_only (look c) refl refl (got_then (look c) refl (the c m.Open i _) (got_then (look c) refl (got a c h) (last c [] m.Close j us))))))))

pub expr_brackets_stops : (n : ℕ) (ts : List Placed) (r : Refusal) → Fits n → SomeOf (a_mark m.Open ∷ []) ts → Fault [] (brackets (n + 1)) ts r → Stops (Expr n) ts r
expr_brackets_stops n ts r w s a = handed (in_expr n [] (brackets (n + 1)) ts ts w (λ c h. in_right (look c) refl (apart c (a_mark m.Open ∷ []) (call Simple) ts refl s)
    (in_right (look c) refl (apart c (a_mark m.Open ∷ []) (call NullOf) ts refl s) (in_left (look c) refl (apart c (a_mark m.Open ∷ []) (from_cases (n + 1)) ts refl s) here)))) a

pub brackets_open_stops : (n : ℕ) (ts : List Placed) (r : Refusal) → Fault [] (mark m.Open) ts r → Fault [] (brackets n) ts r
brackets_open_stops n ts r a = handed (λ c h. in_first (look c) refl here) a

pub brackets_inner_stops : (n : ℕ) (ts us : List Placed) (r : Refusal) → First ts (t.Mark m.Open) us → Stops (Inner n) us r → Fault [] (brackets n) ts r
brackets_inner_stops n ts us r (first_is i) a = handed (λ c h. in_rest (look c) refl (the c m.Open i _) (in_first (look c) refl here)) a

pub brackets_close_stops : (n : ℕ) (ts us vs : List Placed) (e : SqlExpr) (r : Refusal) → First ts (t.Mark m.Open) us → Gets (Inner n) us (an_expr e) vs → Fault [] (mark m.Close) vs r → Fault [] (brackets n) ts r
brackets_close_stops n ts us vs e r (first_is i) b a = handed (λ c h. in_rest (look c) refl (the c m.Open i _) (in_rest (look c) refl (got b c h) here)) a

pub ruleset brackets_steps = (fault_memory, brackets_at, brackets_open_stops, brackets_inner_stops, brackets_close_stops)

-- CASE
pub expr_cases : (n : ℕ) (ts us : List Placed) (e : SqlExpr) → Fits n → SomeOf (a_mark m.Case ∷ []) ts → Gets (Cases (n + 1)) ts (an_expr e) us → Gets (Expr n) ts (an_expr e) us
expr_cases n ts us e w s a = expr_got n ts us e (Made (an_expr e)) w refl (λ c h. got_right_only (look c) refl (apart c (a_mark m.Case ∷ []) (call Simple) ts refl s)
    (got_right_only (look c) refl (apart c (a_mark m.Case ∷ []) (call NullOf) ts refl s) (got_right_only (look c) refl (apart c (a_mark m.Case ∷ []) (brackets (n + 1)) ts refl s)
    (got_left_only (look c) refl (apart c (a_mark m.Case ∷ []) (call (Firsts (n + 1))) ts refl s) (got a c h)))))

pub expr_cases_stops : (n : ℕ) (ts : List Placed) (r : Refusal) → Fits n → SomeOf (a_mark m.Case ∷ []) ts → Stops (Cases (n + 1)) ts r → Stops (Expr n) ts r
expr_cases_stops n ts r w s a = handed (in_expr n [] (call (Cases (n + 1))) ts ts w (λ c h. in_right (look c) refl (apart c (a_mark m.Case ∷ []) (call Simple) ts refl s)
    (in_right (look c) refl (apart c (a_mark m.Case ∷ []) (call NullOf) ts refl s) (in_right (look c) refl (apart c (a_mark m.Case ∷ []) (brackets (n + 1)) ts refl s)
    (in_left (look c) refl (apart c (a_mark m.Case ∷ []) (call (Firsts (n + 1))) ts refl s) here))))) a

-- COALESCE
pub expr_firsts : (n : ℕ) (ts us : List Placed) (e : SqlExpr) → Fits n → SomeOf (a_mark m.Coalesce ∷ []) ts → Gets (Firsts (n + 1)) ts (an_expr e) us → Gets (Expr n) ts (an_expr e) us
expr_firsts n ts us e w s a = expr_got n ts us e (Made (an_expr e)) w refl (λ c h. got_right_only (look c) refl (apart c (a_mark m.Coalesce ∷ []) (call Simple) ts refl s)
    (got_right_only (look c) refl (apart c (a_mark m.Coalesce ∷ []) (call NullOf) ts refl s) (got_right_only (look c) refl (apart c (a_mark m.Coalesce ∷ []) (brackets (n + 1)) ts refl s)
    (got_right_only (look c) refl (apart c (a_mark m.Coalesce ∷ []) (call (Cases (n + 1))) ts refl s) (got a c h)))))

pub expr_firsts_stops : (n : ℕ) (ts : List Placed) (r : Refusal) → Fits n → SomeOf (a_mark m.Coalesce ∷ []) ts → Stops (Firsts (n + 1)) ts r → Stops (Expr n) ts r
expr_firsts_stops n ts r w s a = handed (in_expr n [] (call (Firsts (n + 1))) ts ts w (λ c h. in_right (look c) refl (apart c (a_mark m.Coalesce ∷ []) (call Simple) ts refl s)
    (in_right (look c) refl (apart c (a_mark m.Coalesce ∷ []) (call NullOf) ts refl s) (in_right (look c) refl (apart c (a_mark m.Coalesce ∷ []) (brackets (n + 1)) ts refl s)
    (in_right (look c) refl (apart c (a_mark m.Coalesce ∷ []) (call (Cases (n + 1))) ts refl s) here))))) a

-- no expression
pub expr_none : (n : ℕ) (ts : List Placed) → NoneOf expr_kinds ts → Stops (Expr n) ts (Syntax (length ts))
expr_none n ts h = none_stops (Expr n) ts refl h

-- a token that begins an expression begins one without a limit
either : (a b : Bool) → IsTrue (or a b) → IsTrue a ⊎ IsTrue b
either true b h = inl refl
either false b h = inr h

alone : (a : Bool) → IsTrue (or a false) → IsTrue a
alone true h = refl
alone false h = cc

leaf_front : (p : Placed) (ps : List Placed) → IsTrue (among leaf_kinds (kind p.token)) → Front full (rule unlimited Simple) (p ∷ ps) ps
leaf_front p ps h =
    elim (either (is a_name (kind p.token)) (among (a_count ∷ an_int ∷ a_text ∷ a_mark m.True ∷ a_mark m.False ∷ []) (kind p.token)) h) [
      | inl i ↦ front_left (front_first (front_one i))
      | inr i ↦ elim (either (is a_count (kind p.token)) (among (an_int ∷ a_text ∷ a_mark m.True ∷ a_mark m.False ∷ []) (kind p.token)) i) [
        | inl j ↦ front_right (front_left (front_one (count_number (kind p.token) j)))
        | inr j ↦ elim (either (is an_int (kind p.token)) (among (a_text ∷ a_mark m.True ∷ a_mark m.False ∷ []) (kind p.token)) j) [
          | inl k ↦ front_right (front_left (front_one (int_number (kind p.token) k)))
          | inr k ↦ elim (either (is a_text (kind p.token)) (among (a_mark m.True ∷ a_mark m.False ∷ []) (kind p.token)) k) [
            | inl l ↦ front_right (front_right (front_left (front_one l)))
            | inr l ↦ elim (either (is (a_mark m.True) (kind p.token)) (among (a_mark m.False ∷ []) (kind p.token)) l) [
              | inl q ↦ front_right (front_right (front_right (front_left (front_one q))))
              | inr q ↦ front_right (front_right (front_right (front_right (front_one (alone (is (a_mark m.False) (kind p.token)) q)))))
            ]
          ]
        ]
      ]
    ]
  where
    or_yes : (a b : Bool) → IsTrue a → IsTrue (or a b)
    or_yes true b h = refl
    or_yes false b h = cc

    or_no : (a b : Bool) → IsTrue b → IsTrue (or a b)
    or_no true b h = refl
    or_no false b h = h

    count_number : (k : Kind) → IsTrue (is a_count k) → IsTrue (among (a_count ∷ an_int ∷ []) k)
    count_number k h = or_yes (is a_count k) (or (is an_int k) false) h

    int_number : (k : Kind) → IsTrue (is an_int k) → IsTrue (among (a_count ∷ an_int ∷ []) k)
    int_number k h = or_no (is a_count k) (or (is an_int k) false) (or_yes (is an_int k) false h)

start_front : (s : Start) (n : ℕ) (p : Placed) (ps : List Placed) → IsTrue (among (start_kinds s) (kind p.token)) → Front full (forms n) (p ∷ ps) ps
start_front st.Leaf n p ps h = front_left (front_rule (leaf_front p ps h))
start_front st.Null n p ps h = front_right (front_left (front_rule (front_first (front_one (alone (is (a_mark m.Cast) (kind p.token)) h)))))
start_front st.Brackets n p ps h = front_right (front_right (front_left (front_first (front_one (alone (is (a_mark m.Open) (kind p.token)) h)))))
start_front st.Case n p ps h = front_right (front_right (front_right (front_left (front_rule (front_first (front_one (alone (is (a_mark m.Case) (kind p.token)) h)))))))
start_front st.First n p ps h = front_right (front_right (front_right (front_right (front_rule (front_first (front_one (alone (is (a_mark m.Coalesce) (kind p.token)) h)))))))

-- inside 1,024 expressions one may begin where there is no limit, and none where there is one
pub expr_deep : (n : ℕ) (s : Start) (ts : List Placed) → n ≡ most_levels → SomeOf (start_kinds s) ts → Stops (Expr n) ts Deep
expr_deep n s [] e h = absurd h
expr_deep n s (p ∷ ps) e h = subst (λ (k : ℕ). Stops (Expr k) (p ∷ ps) Deep) (sym e) (fault_deep (record {
  token = p;
  behind = ps;
  breaks = broke_call (Expr most_levels) (broke_none (look limited) (among []) refl refl);
  front = front_rule (start_front s (most_levels + 1) p ps h);
}))

-- by the form that the first token tells
pub expr_leaf_told : (n : ℕ) (s : Start) (ts us : List Placed) (e : SqlExpr) → Fits n → SomeOf (start_kinds s) ts → s ≡ st.Leaf → Gets Simple ts (an_expr e) us → Gets (Expr n) ts (an_expr e) us
expr_leaf_told n s ts us e w h is a = expr_simple n ts us e w (subst (λ (z : Start). SomeOf (start_kinds z) ts) is h) a

pub expr_null_told : (n : ℕ) (s : Start) (ts us : List Placed) (e : SqlExpr) → Fits n → SomeOf (start_kinds s) ts → s ≡ st.Null → Gets NullOf ts (an_expr e) us → Gets (Expr n) ts (an_expr e) us
expr_null_told n s ts us e w h is a = expr_null n ts us e w (subst (λ (z : Start). SomeOf (start_kinds z) ts) is h) a

pub expr_case_told : (n : ℕ) (s : Start) (ts us : List Placed) (e : SqlExpr) → Fits n → SomeOf (start_kinds s) ts → s ≡ st.Case → Gets (Cases (n + 1)) ts (an_expr e) us → Gets (Expr n) ts (an_expr e) us
expr_case_told n s ts us e w h is a = expr_cases n ts us e w (subst (λ (z : Start). SomeOf (start_kinds z) ts) is h) a

pub expr_first_told : (n : ℕ) (s : Start) (ts us : List Placed) (e : SqlExpr) → Fits n → SomeOf (start_kinds s) ts → s ≡ st.First → Gets (Firsts (n + 1)) ts (an_expr e) us → Gets (Expr n) ts (an_expr e) us
expr_first_told n s ts us e w h is a = expr_firsts n ts us e w (subst (λ (z : Start). SomeOf (start_kinds z) ts) is h) a

pub ruleset expr_steps = (fault_memory, expr_simple, expr_simple_stops, expr_null, expr_null_stops, expr_brackets, expr_brackets_stops, expr_cases, expr_cases_stops, expr_firsts, expr_firsts_stops, expr_none, expr_deep)

-- what stands in brackets
pub data Tail (n : ℕ) (ts : List Placed) (e : SqlExpr) : SqlExpr → List Placed → Type 0 where
  tail : {x : SqlExpr} {us : List Placed} (o : Parsed) → Reading (a_mark m.And ∷ a_mark m.Or ∷ []) (tails n) ts o us → joined e o ≡ x → Tail n ts e x us

abbrev pub TailStops : ℕ → List Placed → Refusal → Type 0
TailStops n ts r = Fault (a_mark m.And ∷ a_mark m.Or ∷ []) (tails n) ts r

pub inner_not : (n : ℕ) (ts us vs : List Placed) (e : SqlExpr) → First ts (t.Mark m.Not) us → Gets (Expr n) us (an_expr e) vs → Gets (Inner n) ts (an_expr (v.Not e)) vs
inner_not n ts us vs e (first_is i) a = reading (λ c h. got_call (Inner n) (got_left_only (look c) refl refl (got_then (look c) refl (the c m.Not i _) (got_wide (look c) refl (got a c h)))))

pub inner_not_stops : (n : ℕ) (ts us : List Placed) (r : Refusal) → First ts (t.Mark m.Not) us → Stops (Expr n) us r → Stops (Inner n) ts r
inner_not_stops n ts us r (first_is i) a = handed (λ c h. in_call (Inner n) (in_left (look c) refl refl (in_rest (look c) refl (the c m.Not i _) (in_wide (look c) refl here)))) a

pub inner_tail : (n : ℕ) (ts us vs : List Placed) (e x : SqlExpr) → NoneOf (a_mark m.Not ∷ []) ts → Gets (Expr n) ts (an_expr e) us → Tail n us e x vs → Gets (Inner n) ts (an_expr x) vs
inner_tail n ts us vs e x none a (tail o b same) = subst (λ (z : SqlExpr). Gets (Inner n) ts (an_expr z) vs) same
    (reading (λ c h. got_call (Inner n) (got_right_only (look c) refl (absent c (a_mark m.Not ∷ []) (mark m.Not ⨾ call (Expr n)) ts refl none) (got_then (look c) refl (got a c h) (got b c h)))))

pub inner_first_stops : (n : ℕ) (ts : List Placed) (r : Refusal) → NoneOf (a_mark m.Not ∷ []) ts → Stops (Expr n) ts r → Stops (Inner n) ts r
inner_first_stops n ts r none a = handed (λ c h. in_call (Inner n) (in_right (look c) refl (absent c (a_mark m.Not ∷ []) (mark m.Not ⨾ call (Expr n)) ts refl none) (in_first (look c) refl here))) a

pub inner_tail_stops : (n : ℕ) (ts us : List Placed) (e : SqlExpr) (r : Refusal) → NoneOf (a_mark m.Not ∷ []) ts → Gets (Expr n) ts (an_expr e) us → TailStops n us r → Stops (Inner n) ts r
inner_tail_stops n ts us e r none b a = handed (λ c h. in_call (Inner n) (in_right (look c) refl (absent c (a_mark m.Not ∷ []) (mark m.Not ⨾ call (Expr n)) ts refl none) (in_rest (look c) refl (got b c h) here))) a

pub ruleset inner_steps = (fault_memory, inner_not, inner_not_stops, inner_tail, inner_first_stops, inner_tail_stops)

abbrev pub from_more_or : ℕ → Form Symbol Kind
from_more_or n = call (More sep.Or n) ∣ (mark m.Is ⨾ mark m.Null)

abbrev pub from_more_and : ℕ → Form Symbol Kind
from_more_and n = call (More sep.And n) ∣ from_more_or n

abbrev pub equals : ℕ → Form Symbol Kind
equals n = mark m.Equal ⨾ call (Expr n)

abbrev pub lesses : ℕ → Form Symbol Kind
lesses n = mark m.Less ⨾ call (Expr n)

pub tail_equal : (n : ℕ) (ts us vs : List Placed) (e d : SqlExpr) → First ts (t.Mark m.Equal) us → Gets (Expr n) us (an_expr d) vs → Tail n ts e (v.Equal e d) vs
tail_equal n ts us vs e d (first_is i) a = tail (Pair (Leaf (placed i (t.Mark m.Equal))) (Made (an_expr d))) (reading (λ c h. got_left_only (look c) refl refl (got_then (look c) refl (the c m.Equal i _) (got_wide (look c) refl (got a c h))))) refl

pub tail_less : (n : ℕ) (ts us vs : List Placed) (e d : SqlExpr) → First ts (t.Mark m.Less) us → Gets (Expr n) us (an_expr d) vs → Tail n ts e (v.Less e d) vs
tail_less n ts us vs e d (first_is i) a = tail (Pair (Leaf (placed i (t.Mark m.Less))) (Made (an_expr d))) (reading (λ c h. got_right_only (look c) refl refl (got_left_only (look c) refl refl (got_then (look c) refl (the c m.Less i _) (got_wide (look c) refl (got a c h)))))) refl

pub tail_is : (n : ℕ) (ts us vs : List Placed) (e : SqlExpr) → First ts (t.Mark m.Is) us → First us (t.Mark m.Null) vs → Tail n ts e (v.IsNull e) vs
tail_is n ts us vs e (first_is i) (first_is j) = tail (Pair (Leaf (placed i (t.Mark m.Is))) (Leaf (placed j (t.Mark m.Null))))
    (reading (λ c h. got_right_only (look c) refl refl (got_right_only (look c) refl refl (got_right_only (look c) refl refl (got_right_only (look c) refl refl (got_then (look c) refl (the c m.Is i _) (last c (a_mark m.And ∷ a_mark m.Or ∷ []) m.Null j vs))))))) refl

pub tail_and : (n : ℕ) (ts us : List Placed) (e : SqlExpr) (es : List SqlExpr) → SomeOf (a_mark m.And ∷ []) ts → MoreAt sep.And n e ts es us → Tail n ts e (v.All es) us
tail_and n ts us e es s (more_at ds a) = tail (Made (expr_list sep.And ds)) (reading (λ c h. got_right_only (look c) refl (apart c (a_mark m.And ∷ []) (equals n) ts refl s)
    (got_right_only (look c) refl (apart c (a_mark m.And ∷ []) (lesses n) ts refl s) (got_left_only (look c) refl (apart c (a_mark m.And ∷ []) (from_more_or n) ts refl s) (got_wide (look c) refl (got a c h)))))) refl

pub tail_or : (n : ℕ) (ts us : List Placed) (e : SqlExpr) (es : List SqlExpr) → SomeOf (a_mark m.Or ∷ []) ts → MoreAt sep.Or n e ts es us → Tail n ts e (v.Any es) us
tail_or n ts us e es s (more_at ds a) = tail (Made (expr_list sep.Or ds)) (reading (λ c h. got_right_only (look c) refl (apart c (a_mark m.Or ∷ []) (equals n) ts refl s)
    (got_right_only (look c) refl (apart c (a_mark m.Or ∷ []) (lesses n) ts refl s) (got_right_only (look c) refl (apart c (a_mark m.Or ∷ []) (call (More sep.And n)) ts refl s)
    (got_left_only (look c) refl (apart c (a_mark m.Or ∷ []) (mark m.Is ⨾ mark m.Null) ts refl s) (got_wide (look c) refl (got a c h))))))) refl

pub tail_equal_stops : (n : ℕ) (ts us : List Placed) (r : Refusal) → First ts (t.Mark m.Equal) us → Stops (Expr n) us r → TailStops n ts r
tail_equal_stops n ts us r (first_is i) a = handed (λ c h. in_left (look c) refl refl (in_rest (look c) refl (the c m.Equal i _) (in_wide (look c) refl here))) a

pub tail_less_stops : (n : ℕ) (ts us : List Placed) (r : Refusal) → First ts (t.Mark m.Less) us → Stops (Expr n) us r → TailStops n ts r
tail_less_stops n ts us r (first_is i) a = handed (λ c h. in_right (look c) refl refl (in_left (look c) refl refl (in_rest (look c) refl (the c m.Less i _) (in_wide (look c) refl here)))) a

pub tail_is_stops : (n : ℕ) (ts us : List Placed) (r : Refusal) → First ts (t.Mark m.Is) us → Fault [] (mark m.Null) us r → TailStops n ts r
tail_is_stops n ts us r (first_is i) a = handed (λ c h. in_right (look c) refl refl (in_right (look c) refl refl (in_right (look c) refl refl (in_right (look c) refl refl (in_rest (look c) refl (the c m.Is i _) (in_wide (look c) refl here)))))) a

pub tail_and_stops : (n : ℕ) (ts : List Placed) (r : Refusal) → SomeOf (a_mark m.And ∷ []) ts → Stops (More sep.And n) ts r → TailStops n ts r
tail_and_stops n ts r s a = handed (λ c h. in_right (look c) refl (apart c (a_mark m.And ∷ []) (equals n) ts refl s)
    (in_right (look c) refl (apart c (a_mark m.And ∷ []) (lesses n) ts refl s) (in_left (look c) refl (apart c (a_mark m.And ∷ []) (from_more_or n) ts refl s) (in_wide (look c) refl here)))) a

pub tail_or_stops : (n : ℕ) (ts : List Placed) (r : Refusal) → SomeOf (a_mark m.Or ∷ []) ts → Stops (More sep.Or n) ts r → TailStops n ts r
tail_or_stops n ts r s a = handed (λ c h. in_right (look c) refl (apart c (a_mark m.Or ∷ []) (equals n) ts refl s)
    (in_right (look c) refl (apart c (a_mark m.Or ∷ []) (lesses n) ts refl s) (in_right (look c) refl (apart c (a_mark m.Or ∷ []) (call (More sep.And n)) ts refl s)
    (in_left (look c) refl (apart c (a_mark m.Or ∷ []) (mark m.Is ⨾ mark m.Null) ts refl s) (in_wide (look c) refl here))))) a

abbrev pub tail_kinds : List Kind
tail_kinds = a_mark m.And ∷ a_mark m.Or ∷ a_mark m.Equal ∷ a_mark m.Less ∷ a_mark m.Is ∷ []

pub tail_none : (n : ℕ) (ts : List Placed) → NoneOf (a_mark m.And ∷ []) ts → NoneOf (a_mark m.Or ∷ []) ts → NoneOf (a_mark m.Equal ∷ []) ts → NoneOf (a_mark m.Less ∷ []) ts → NoneOf (a_mark m.Is ∷ []) ts → TailStops n ts (Syntax (length ts))
tail_none n ts a b d e f = fault_at ts (λ c i. broke_none (look c) (among (a_mark m.And ∷ a_mark m.Or ∷ [])) refl (absent c tail_kinds (tails n) ts refl
    (none_both (a_mark m.And) (a_mark m.Or ∷ a_mark m.Equal ∷ a_mark m.Less ∷ a_mark m.Is ∷ []) ts a (none_both (a_mark m.Or) (a_mark m.Equal ∷ a_mark m.Less ∷ a_mark m.Is ∷ []) ts b
    (none_both (a_mark m.Equal) (a_mark m.Less ∷ a_mark m.Is ∷ []) ts d (none_both (a_mark m.Less) (a_mark m.Is ∷ []) ts e f))))))

pub ruleset pair_steps = (fault_memory, tail_equal, tail_less, tail_is, tail_equal_stops, tail_less_stops, tail_is_stops, tail_none)

pub ruleset tail_steps = (fault_memory, tail_and, tail_or, tail_and_stops, tail_or_stops)
