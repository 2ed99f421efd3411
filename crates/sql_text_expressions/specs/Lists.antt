-- The steps of the readers of lists of expressions.
use Rattle.std.proofs.Common.{Bool, true, false, IsTrue, List, [], ◌∷◌, ◌++◌, ◌≡◌, ℕ, refl, subst, sym, ap, ◌∙◌, append_assoc}
use Rattle.std.proofs.lemmas.List.{append-nil}
use Rattle.grammar_meaning.specs.Grammar.{Form, call, ◌⨾◌, many, Made}
use Rattle.grammar_meaning.specs.Outcome.{Begins, Got, or, implies}
use Rattle.grammar_meaning.specs.Exact.{got_call, got_then}
use Rattle.grammar_path_laws.specs.Paths.{here, in_call, in_first, in_rest, loop_step, loop_end, in_loop}
use Rattle.sql_meaning.specs.Kinds.{Kind, a_mark, is, among, kinds}
use Rattle.sql_meaning.specs.Grammar.{Symbol, Expr, More, Cases, Branches, OneBranch, Firsts, Limit, an_expr, expr_list, a_branch, branch_list, parts_in, branches_in, mark, separator_mark, grammar}
use Rattle.sql_meaning.specs.declared.token.Mark.TheVariants as m
use Rattle.sql_meaning.specs.declared.token.Separator.{Separator}
use Rattle.sql_meaning.specs.declared.token.Separator.TheVariants as sep
use Rattle.sql_meaning.specs.declared.token.Token.TheVariants as t
use Rattle.sql_meaning.specs.declared.token.Placed.{Placed}
use Rattle.sql_meaning.specs.declared.expression.SqlExpr.{SqlExpr}
use Rattle.sql_meaning.specs.declared.expression.SqlExpr.TheVariants as v
use Rattle.sql_meaning.specs.declared.expression.Branch.{Branch}
use Rattle.sql_text_cursor.specs.Table.{look, NoneOf, SomeOf, after}
use Rattle.sql_text_cursor.specs.Outcomes.{First, first_is, reading, got, Fault, fault_memory, handed, Looping, Gets, Stops}
use Rattle.sql_text_cursor.specs.Steps.{absent, ahead, the, last, begins_mark, every_from}
use Rattle.sql_text_cursor.specs.declared.refusal.Refusal.{Refusal}

-- a separator and an expression
abbrev pub part : Separator → ℕ → Form Symbol Kind
part s n = mark (separator_mark s) ⨾ call (Expr n)

-- behind e stand more expressions, each behind the separator
pub data MoreAt (s : Separator) (n : ℕ) (e : SqlExpr) (ts : List Placed) : List SqlExpr → List Placed → Type 0 where
  more_at : {us : List Placed} (ds : List SqlExpr) → Gets (More s n) ts (expr_list s ds) us → MoreAt s n e ts (e ∷ ds) us

-- a loop over them
pub data MoreLoop (s : Separator) (n : ℕ) (e : SqlExpr) (ts : List Placed) : List SqlExpr → List Placed → Type 0 where
  more_loop : {us : List Placed} (ds : List SqlExpr) → Looping (a_mark (separator_mark s) ∷ []) (part s n) (a_mark (separator_mark s) ∷ []) (call (More s n)) ts (λ o. Made (expr_list s (ds ++ parts_in o))) us → MoreLoop s n e ts (e ∷ ds) us

pub more_start : (s : Separator) (n : ℕ) (ts us vs : List Placed) (e d : SqlExpr) → First ts (t.Mark (separator_mark s)) us → Gets (Expr n) us (an_expr d) vs → MoreLoop s n e ts (e ∷ d ∷ []) vs
more_start s n ts us vs e d (first_is i) a = more_loop (d ∷ []) (λ c h. record {
  more = λ o ws r. got_call (More s n) (got_then (look c) refl (the c (separator_mark s) i _) (got_then (look c) refl (got a c h) r));
  path = in_call (More s n) (in_rest (look c) refl (the c (separator_mark s) i _) (in_rest (look c) refl (got a c h) here));
})

pub more_step : (s : Separator) (n : ℕ) (ts us vs ws : List Placed) (e d : SqlExpr) (es : List SqlExpr) → MoreLoop s n e ts es us → First us (t.Mark (separator_mark s)) vs → Gets (Expr n) vs (an_expr d) ws → MoreLoop s n e ts (es ++ (d ∷ [])) ws
more_step s n ts us vs ws e d es (more_loop ds a) (first_is i) b = more_loop (ds ++ (d ∷ [])) (λ c h.
    loop_step (look c) (λ o. Made (expr_list s ((ds ++ (d ∷ [])) ++ parts_in o))) refl (λ o. ap (λ l. Made (expr_list s l)) (sym (append_assoc ds (d ∷ []) (parts_in o)))) (begins_mark c (separator_mark s) i vs) (a c h)
    (got_then (look c) refl (the c (separator_mark s) i _) (got b c h)))

no_part : (a : Bool) → IsTrue (implies (or (or a false) false) (or a false))
no_part true = refl
no_part false = refl

pub more_end : (s : Separator) (n : ℕ) (ts us : List Placed) (e : SqlExpr) (es : List SqlExpr) → MoreLoop s n e ts es us → NoneOf (a_mark (separator_mark s) ∷ []) us → MoreAt s n e ts es us
more_end s n ts us e es (more_loop ds a) none = more_at ds (reading (λ c h. subst (λ l. Got (grammar c) (among (after (More s n))) (call (More s n)) ts (Made (expr_list s l)) us) (append-nil ds)
    (loop_end (look c) refl (absent c (a_mark (separator_mark s) ∷ []) (part s n ⨾ many (part s n)) us (every_from kinds (λ k. no_part (is (a_mark (separator_mark s)) k))) none) (a c h))))

pub more_first_stops : (s : Separator) (n : ℕ) (ts : List Placed) (r : Refusal) → Fault [] (mark (separator_mark s)) ts r → Stops (More s n) ts r
more_first_stops s n ts r a = handed (λ c h. in_call (More s n) (in_first (look c) refl here)) a

pub more_second_stops : (s : Separator) (n : ℕ) (ts us : List Placed) (r : Refusal) → First ts (t.Mark (separator_mark s)) us → Stops (Expr n) us r → Stops (More s n) ts r
more_second_stops s n ts us r (first_is i) a = handed (λ c h. in_call (More s n) (in_rest (look c) refl (the c (separator_mark s) i _) (in_first (look c) refl here))) a

pub more_later_stops : (s : Separator) (n : ℕ) (ts us vs : List Placed) (e : SqlExpr) (es : List SqlExpr) (r : Refusal) → MoreLoop s n e ts es us → First us (t.Mark (separator_mark s)) vs → Stops (Expr n) vs r → Stops (More s n) ts r
more_later_stops s n ts us vs e es r (more_loop ds b) (first_is i) a = handed (λ c h. in_loop (look c) refl (begins_mark c (separator_mark s) i vs) (b c h) (in_rest (look c) refl (the c (separator_mark s) i _) here)) a

pub ruleset more_steps = (fault_memory, more_start, more_step, more_end, more_first_stops, more_second_stops, more_later_stops)

-- WHEN, a test, THEN, a value
pub branch_got : (n : ℕ) (ts us vs ws xs : List Placed) (e d : SqlExpr) → First ts (t.Mark m.When) us → Gets (Expr n) us (an_expr e) vs → First vs (t.Mark m.Then) ws → Gets (Expr n) ws (an_expr d) xs → Gets (OneBranch n) ts (a_branch (record { test = e; value = d })) xs
branch_got n ts us vs ws xs e d (first_is i) a (first_is j) b = reading (λ c h. got_call (OneBranch n) (got_then (look c) refl (the c m.When i _) (got_then (look c) refl (got a c h) (got_then (look c) refl (the c m.Then j _) (got b c h)))))

pub branch_when_stops : (n : ℕ) (ts : List Placed) (r : Refusal) → Fault [] (mark m.When) ts r → Stops (OneBranch n) ts r
branch_when_stops n ts r a = handed (λ c h. in_call (OneBranch n) (in_first (look c) refl here)) a

pub branch_test_stops : (n : ℕ) (ts us : List Placed) (r : Refusal) → First ts (t.Mark m.When) us → Stops (Expr n) us r → Stops (OneBranch n) ts r
branch_test_stops n ts us r (first_is i) a = handed (λ c h. in_call (OneBranch n) (in_rest (look c) refl (the c m.When i _) (in_first (look c) refl here))) a

pub branch_then_stops : (n : ℕ) (ts us vs : List Placed) (e : SqlExpr) (r : Refusal) → First ts (t.Mark m.When) us → Gets (Expr n) us (an_expr e) vs → Fault [] (mark m.Then) vs r → Stops (OneBranch n) ts r
branch_then_stops n ts us vs e r (first_is i) b a = handed (λ c h. in_call (OneBranch n) (in_rest (look c) refl (the c m.When i _) (in_rest (look c) refl (got b c h) (in_first (look c) refl here)))) a

pub branch_value_stops : (n : ℕ) (ts us vs ws : List Placed) (e : SqlExpr) (r : Refusal) → First ts (t.Mark m.When) us → Gets (Expr n) us (an_expr e) vs → First vs (t.Mark m.Then) ws → Stops (Expr n) ws r → Stops (OneBranch n) ts r
branch_value_stops n ts us vs ws e r (first_is i) b (first_is j) a = handed (λ c h. in_call (OneBranch n) (in_rest (look c) refl (the c m.When i _) (in_rest (look c) refl (got b c h) (in_rest (look c) refl (the c m.Then j _) here)))) a

pub ruleset branch_steps = (fault_memory, branch_got, branch_when_stops, branch_test_stops, branch_then_stops, branch_value_stops)

-- a loop over branches
pub data BranchLoop (n : ℕ) (ts : List Placed) (bs : List Branch) (us : List Placed) : Type 0 where
  branch_loop : Looping (a_mark m.When ∷ []) (call (OneBranch n)) (a_mark m.When ∷ []) (call (Branches n)) ts (λ o. Made (branch_list (bs ++ branches_in o))) us → BranchLoop n ts bs us

pub branches_start : (n : ℕ) (ts us : List Placed) (b : Branch) → Gets (OneBranch n) ts (a_branch b) us → BranchLoop n ts (b ∷ []) us
branches_start n ts us b a = branch_loop (λ c h. record {
  more = λ o ws r. got_call (Branches n) (got_then (look c) refl (got a c h) r);
  path = in_call (Branches n) (in_rest (look c) refl (got a c h) here);
})

when_ahead : (c : Limit) (us : List Placed) → SomeOf (a_mark m.When ∷ []) us → Begins (grammar c) (among (a_mark m.When ∷ [])) us
when_ahead c us s = ahead c (a_mark m.When ∷ []) (a_mark m.When ∷ []) us refl s

pub branches_step : (n : ℕ) (ts us vs : List Placed) (bs : List Branch) (b : Branch) → BranchLoop n ts bs us → SomeOf (a_mark m.When ∷ []) us → Gets (OneBranch n) us (a_branch b) vs → BranchLoop n ts (bs ++ (b ∷ [])) vs
branches_step n ts us vs bs b (branch_loop a) s x = branch_loop (λ c h.
    loop_step (look c) (λ o. Made (branch_list ((bs ++ (b ∷ [])) ++ branches_in o))) refl (λ o. ap (λ l. Made (branch_list l)) (sym (append_assoc bs (b ∷ []) (branches_in o)))) (when_ahead c us s) (a c h) (got x c h))

pub branches_end : (n : ℕ) (ts us : List Placed) (bs : List Branch) → BranchLoop n ts bs us → NoneOf (a_mark m.When ∷ []) us → Gets (Branches n) ts (branch_list bs) us
branches_end n ts us bs (branch_loop a) none = reading (λ c h. subst (λ l. Got (grammar c) (among (after (Branches n))) (call (Branches n)) ts (Made (branch_list l)) us) (append-nil bs)
    (loop_end (look c) refl (absent c (a_mark m.When ∷ []) (call (OneBranch n) ⨾ many (call (OneBranch n))) us refl none) (a c h)))

pub branches_first_stops : (n : ℕ) (ts : List Placed) (r : Refusal) → Stops (OneBranch n) ts r → Stops (Branches n) ts r
branches_first_stops n ts r a = handed (λ c h. in_call (Branches n) (in_first (look c) refl here)) a

pub branches_later_stops : (n : ℕ) (ts us : List Placed) (bs : List Branch) (r : Refusal) → BranchLoop n ts bs us → SomeOf (a_mark m.When ∷ []) us → Stops (OneBranch n) us r → Stops (Branches n) ts r
branches_later_stops n ts us bs r (branch_loop b) s a = handed (λ c h. in_loop (look c) refl (when_ahead c us s) (b c h) here) a

-- the same for a list that grew by one
pub branches_made : (n : ℕ) (ts us : List Placed) (b : Branch) (bs none : List Branch) → Gets (OneBranch n) ts (a_branch b) us → none ≡ [] → bs ≡ none ++ (b ∷ []) → BranchLoop n ts bs us
branches_made n ts us b bs none a e h = subst (λ (l : List Branch). BranchLoop n ts l us) (sym (h ∙ ap (λ l. l ++ (b ∷ [])) e)) (branches_start n ts us b a)

pub branches_added : (n : ℕ) (ts us vs : List Placed) (bs all : List Branch) (b : Branch) → BranchLoop n ts bs us → SomeOf (a_mark m.When ∷ []) us → Gets (OneBranch n) us (a_branch b) vs → all ≡ bs ++ (b ∷ []) → BranchLoop n ts all vs
branches_added n ts us vs bs all b a s x h = subst (λ (l : List Branch). BranchLoop n ts l vs) (sym h) (branches_step n ts us vs bs b a s x)

pub ruleset branches_steps = (fault_memory, branches_start, branches_step, branches_end, branches_first_stops, branches_later_stops)

-- CASE, branches, ELSE, a value, END
pub cases_got : (n : ℕ) (ts us vs ws xs ys : List Placed) (bs : List Branch) (e : SqlExpr) → First ts (t.Mark m.Case) us → Gets (Branches n) us (branch_list bs) vs → First vs (t.Mark m.Else) ws → Gets (Expr n) ws (an_expr e) xs → First xs (t.Mark m.End) ys → Gets (Cases n) ts (an_expr (v.Case bs e)) ys
cases_got n ts us vs ws xs ys bs e (first_is i) a (first_is j) b (first_is k) =
    reading (λ c h. got_call (Cases n) (got_then (look c) refl (the c m.Case i _) (got_then (look c) refl (got a c h) (got_then (look c) refl (the c m.Else j _) (got_then (look c) refl (got b c h) (last c [] m.End k ys))))))

pub cases_case_stops : (n : ℕ) (ts : List Placed) (r : Refusal) → Fault [] (mark m.Case) ts r → Stops (Cases n) ts r
cases_case_stops n ts r a = handed (λ c h. in_call (Cases n) (in_first (look c) refl here)) a

pub cases_branches_stops : (n : ℕ) (ts us : List Placed) (r : Refusal) → First ts (t.Mark m.Case) us → Stops (Branches n) us r → Stops (Cases n) ts r
cases_branches_stops n ts us r (first_is i) a = handed (λ c h. in_call (Cases n) (in_rest (look c) refl (the c m.Case i _) (in_first (look c) refl here))) a

pub cases_else_stops : (n : ℕ) (ts us vs : List Placed) (bs : List Branch) (r : Refusal) → First ts (t.Mark m.Case) us → Gets (Branches n) us (branch_list bs) vs → Fault [] (mark m.Else) vs r → Stops (Cases n) ts r
cases_else_stops n ts us vs bs r (first_is i) b a = handed (λ c h. in_call (Cases n) (in_rest (look c) refl (the c m.Case i _) (in_rest (look c) refl (got b c h) (in_first (look c) refl here)))) a

-- up to the last value
pub data CasesAt (n : ℕ) : List Placed → List Branch → List Placed → Type 0 where
  cases_at : {ts us vs ws : List Placed} {bs : List Branch} → First ts (t.Mark m.Case) us → Gets (Branches n) us (branch_list bs) vs → First vs (t.Mark m.Else) ws → CasesAt n ts bs ws

pub cases_whole : (n : ℕ) (ts us vs ws : List Placed) (bs : List Branch) (e : SqlExpr) → CasesAt n ts bs us → Gets (Expr n) us (an_expr e) vs → First vs (t.Mark m.End) ws → Gets (Cases n) ts (an_expr (v.Case bs e)) ws
cases_whole n ts us vs ws bs e (cases_at x a y) b z = cases_got n ts _ _ us vs ws bs e x a y b z

pub cases_last_stops : (n : ℕ) (ts us : List Placed) (bs : List Branch) (r : Refusal) → CasesAt n ts bs us → Stops (Expr n) us r → Stops (Cases n) ts r
cases_last_stops n ts us bs r (cases_at (first_is i) b (first_is j)) a = handed (λ c h. in_call (Cases n) (in_rest (look c) refl (the c m.Case i _) (in_rest (look c) refl (got b c h) (in_rest (look c) refl (the c m.Else j _) (in_first (look c) refl here))))) a

pub cases_end_stops : (n : ℕ) (ts us vs : List Placed) (bs : List Branch) (e : SqlExpr) (r : Refusal) → CasesAt n ts bs us → Gets (Expr n) us (an_expr e) vs → Fault [] (mark m.End) vs r → Stops (Cases n) ts r
cases_end_stops n ts us vs bs e r (cases_at (first_is i) b (first_is j)) d a =
    handed (λ c h. in_call (Cases n) (in_rest (look c) refl (the c m.Case i _) (in_rest (look c) refl (got b c h) (in_rest (look c) refl (the c m.Else j _) (in_rest (look c) refl (got d c h) here))))) a

pub ruleset tests_steps = (fault_memory, cases_at, cases_case_stops, cases_branches_stops, cases_else_stops)

pub ruleset cases_steps = (fault_memory, cases_whole, cases_last_stops, cases_end_stops)

-- COALESCE ( and a first expression
pub data FirstsAt (n : ℕ) : List Placed → SqlExpr → List Placed → Type 0 where
  firsts_at : {ts us vs ws : List Placed} {e : SqlExpr} → First ts (t.Mark m.Coalesce) us → First us (t.Mark m.Open) vs → Gets (Expr n) vs (an_expr e) ws → FirstsAt n ts e ws

pub firsts_word_stops : (n : ℕ) (ts : List Placed) (r : Refusal) → Fault [] (mark m.Coalesce) ts r → Stops (Firsts n) ts r
firsts_word_stops n ts r a = handed (λ c h. in_call (Firsts n) (in_first (look c) refl here)) a

pub firsts_open_stops : (n : ℕ) (ts us : List Placed) (r : Refusal) → First ts (t.Mark m.Coalesce) us → Fault [] (mark m.Open) us r → Stops (Firsts n) ts r
firsts_open_stops n ts us r (first_is i) a = handed (λ c h. in_call (Firsts n) (in_rest (look c) refl (the c m.Coalesce i _) (in_first (look c) refl here))) a

pub firsts_first_stops : (n : ℕ) (ts us vs : List Placed) (r : Refusal) → First ts (t.Mark m.Coalesce) us → First us (t.Mark m.Open) vs → Stops (Expr n) vs r → Stops (Firsts n) ts r
firsts_first_stops n ts us vs r (first_is i) (first_is j) a = handed (λ c h. in_call (Firsts n) (in_rest (look c) refl (the c m.Coalesce i _) (in_rest (look c) refl (the c m.Open j _) (in_first (look c) refl here)))) a

pub ruleset first_steps = (fault_memory, firsts_at, firsts_word_stops, firsts_open_stops, firsts_first_stops)

pub firsts_got : (n : ℕ) (ts us vs ws : List Placed) (e : SqlExpr) (es : List SqlExpr) → FirstsAt n ts e us → MoreAt sep.Comma n e us es vs → First vs (t.Mark m.Close) ws → Gets (Firsts n) ts (an_expr (v.First es)) ws
firsts_got n ts us vs ws e es (firsts_at (first_is i) (first_is j) a) (more_at ds b) (first_is k) =
    reading (λ c h. got_call (Firsts n) (got_then (look c) refl (the c m.Coalesce i _) (got_then (look c) refl (the c m.Open j _) (got_then (look c) refl (got a c h) (got_then (look c) refl (got b c h) (last c [] m.Close k ws))))))

pub firsts_more_stops : (n : ℕ) (ts us : List Placed) (e : SqlExpr) (r : Refusal) → FirstsAt n ts e us → Stops (More sep.Comma n) us r → Stops (Firsts n) ts r
firsts_more_stops n ts us e r (firsts_at (first_is i) (first_is j) b) a =
    handed (λ c h. in_call (Firsts n) (in_rest (look c) refl (the c m.Coalesce i _) (in_rest (look c) refl (the c m.Open j _) (in_rest (look c) refl (got b c h) (in_first (look c) refl here))))) a

pub firsts_close_stops : (n : ℕ) (ts us vs : List Placed) (e : SqlExpr) (es : List SqlExpr) (r : Refusal) → FirstsAt n ts e us → MoreAt sep.Comma n e us es vs → Fault [] (mark m.Close) vs r → Stops (Firsts n) ts r
firsts_close_stops n ts us vs e es r (firsts_at (first_is i) (first_is j) b) (more_at ds d) a =
    handed (λ c h. in_call (Firsts n) (in_rest (look c) refl (the c m.Coalesce i _) (in_rest (look c) refl (the c m.Open j _) (in_rest (look c) refl (got b c h) (in_rest (look c) refl (got d c h) here))))) a

pub ruleset firsts_steps = (fault_memory, firsts_got, firsts_more_stops, firsts_close_stops)

pub ruleset boxed_steps = (fault_memory)
