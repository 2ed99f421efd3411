-- A refusal behind the first part: the law of that step, at what was read before and at the callee's refusal.
use Rattle.std.proofs.Common.{rules, arith, []}
use Rattle.sql_meaning.specs.Grammar.{OneBranch, Inner, Cases, Branches}
use Rattle.sql_text_cursor.specs.Outcomes.{Fault, Stops}
use Rattle.sql_text_expressions.specs.Exprs as exprs
use Rattle.sql_text_expressions.specs.Lists as lists
use Rattle.std.proofs.lemmas.Result.{IfOk-weaker}
use Rattle.sql_text_expressions.proofs.exprs.+exprs.Goals as goal

pub read_brackets-returns-in_err-rest-2-clause-refuses : goal.read_brackets-returns-in_err-rest-2-clause-refuses
read_brackets-returns-in_err-rest-2-clause-refuses t c =
    let h : Fault [] (exprs.brackets c.args.level) c.args.tokens.now c.in_err-rest-2.field-0.0 = exprs.brackets_close_stops _ _ _ _ _ _ c.in_ok-rest.ensures.reads c.in_ok-inner.ensures.reads c.in_err-rest-2.ensures.refuses in
    search rules

pub read_branch-returns-in_err-rest-2-clause-refuses : goal.read_branch-returns-in_err-rest-2-clause-refuses
read_branch-returns-in_err-rest-2-clause-refuses t c =
    let h : Stops (OneBranch c.args.level) c.args.tokens.now c.in_err-rest-2.field-0.0 = lists.branch_then_stops _ _ _ _ _ _ c.in_ok-rest.ensures.reads c.in_ok-test.ensures.reads c.in_err-rest-2.ensures.refuses in
    search rules

pub read_branch-returns-in_err-value-clause-refuses : goal.read_branch-returns-in_err-value-clause-refuses
read_branch-returns-in_err-value-clause-refuses t c =
    let h : Stops (OneBranch c.args.level) c.args.tokens.now c.in_err-value.field-0.0 = lists.branch_value_stops _ _ _ _ _ _ _ c.in_ok-rest.ensures.reads c.in_ok-test.ensures.reads c.in_ok-rest-2.ensures.reads c.in_err-value.ensures.refuses in
    search rules

pub read_branch-returns-clause-reads : goal.read_branch-returns-clause-reads
read_branch-returns-clause-reads t c =
    lists.branch_got _ _ _ _ _ _ _ _ c.in_ok-rest.ensures.reads c.in_ok-test.ensures.reads c.in_ok-rest-2.ensures.reads c.in_ok-value.ensures.reads

pub read_branches-branches-init : goal.read_branches-branches-init
read_branches-branches-init t c =
    (lists.branches_made _ _ _ _ _ _ c.in_ok-branch.ensures.reads c.new-branches.ensures c.in_ok-push.ensures.ok, c.in_ok-branch.ensures.shorter)

pub read_branches-returns-in_err-branch-2-clause-refuses : goal.read_branches-returns-in_err-branch-2-clause-refuses
read_branches-returns-in_err-branch-2-clause-refuses t c =
    let h : Stops (Branches c.args.level) c.args.tokens.now c.in_err-branch-2.field-0.0 = lists.branches_later_stops _ _ _ _ _ c.branches.invariant.0 (c.stands.ensures.yes c.branches-test.true) c.in_err-branch-2.ensures.refuses in
    search rules

pub read_branches-branches-preserved : goal.read_branches-branches-preserved
read_branches-branches-preserved t c =
    let k = c.in_ok-branch-2.ensures.shorter in
    (lists.branches_added _ _ _ _ _ _ _ c.branches.invariant.0 (c.stands.ensures.yes c.branches-test.true) c.in_ok-branch-2.ensures.reads c.in_ok-push-2.ensures.ok, omega (arith, k, c.branches.invariant.1))

pub read_branches-returns-clause-reads : goal.read_branches-returns-clause-reads
read_branches-returns-clause-reads t c =
    lists.branches_end _ _ _ _ c.branches.invariant.0 (c.stands.ensures.no c.branches-test.false)

pub read_cases-returns-in_err-rest-clause-refuses : goal.read_cases-returns-in_err-rest-clause-refuses
read_cases-returns-in_err-rest-clause-refuses t c =
    let h : Stops (Cases c.args.level) c.args.tokens.now c.in_err-rest.field-0.0 = lists.cases_end_stops _ _ _ _ _ _ _ c.in_ok-branches.ensures.reads c.in_ok-last.ensures.reads c.in_err-rest.ensures.refuses in
    search rules

pub read_cases-returns-clause-reads : goal.read_cases-returns-clause-reads
read_cases-returns-clause-reads t c =
    lists.cases_whole _ _ _ _ _ _ _ c.in_ok-branches.ensures.reads c.in_ok-last.ensures.reads c.in_ok-rest.ensures.reads

pub read_expr-returns-in-Leaf-clause-reads : goal.read_expr-returns-in-Leaf-clause-reads
read_expr-returns-in-Leaf-clause-reads t c =
    let w : exprs.Fits c.args.level = search rules in
    IfOk-weaker c.read_simple.result _ _ (λ x a. exprs.expr_leaf_told _ _ _ _ _ w c.in-Some.ensures c.in-Leaf.is a) c.read_simple.ensures.reads

pub read_expr-returns-in-Null-clause-reads : goal.read_expr-returns-in-Null-clause-reads
read_expr-returns-in-Null-clause-reads t c =
    let w : exprs.Fits c.args.level = search rules in
    IfOk-weaker c.read_null.result _ _ (λ x a. exprs.expr_null_told _ _ _ _ _ w c.in-Some.ensures c.in-Null.is a) c.read_null.ensures.reads

pub read_expr-returns-in-Case-clause-reads : goal.read_expr-returns-in-Case-clause-reads
read_expr-returns-in-Case-clause-reads t c =
    let w : exprs.Fits c.args.level = search rules in
    IfOk-weaker c.read_cases.result _ _ (λ x a. exprs.expr_case_told _ _ _ _ _ w c.in-Some.ensures c.in-Case.is a) c.read_cases.ensures.reads

pub read_expr-returns-in-First-clause-reads : goal.read_expr-returns-in-First-clause-reads
read_expr-returns-in-First-clause-reads t c =
    let w : exprs.Fits c.args.level = search rules in
    IfOk-weaker c.read_firsts.result _ _ (λ x a. exprs.expr_first_told _ _ _ _ _ w c.in-Some.ensures c.in-First.is a) c.read_firsts.ensures.reads

pub read_inner-returns-in-Some-clause-reads : goal.read_inner-returns-in-Some-clause-reads
read_inner-returns-in-Some-clause-reads t c =
    let h = exprs.inner_not _ _ _ _ _ c.in-Some.ensures.first c.in_ok-part.ensures.reads in
    search rules

pub read_inner-returns-in_err-whole-clause-refuses : goal.read_inner-returns-in_err-whole-clause-refuses
read_inner-returns-in_err-whole-clause-refuses t c =
    let h : Stops (Inner c.args.level) c.args.tokens.now c.in_err-whole.field-0.0 = exprs.inner_tail_stops _ _ _ _ _ c.in_default.ensures.first c.in_ok-first.ensures.reads c.in_err-whole.ensures.refuses in
    search rules

pub read_inner-returns-clause-reads : goal.read_inner-returns-clause-reads
read_inner-returns-clause-reads t c =
    exprs.inner_tail _ _ _ _ _ _ c.in_default.ensures.first c.in_ok-first.ensures.reads c.in_ok-whole.ensures.reads

pub read_tests-returns-in_err-rest-2-clause-refuses : goal.read_tests-returns-in_err-rest-2-clause-refuses
read_tests-returns-in_err-rest-2-clause-refuses t c =
    let h : Stops (Cases c.args.level) c.args.tokens.now c.in_err-rest-2.field-0.0 = lists.cases_else_stops _ _ _ _ _ _ c.in_ok-rest.ensures.reads c.in_ok-branches.ensures.reads c.in_err-rest-2.ensures.refuses in
    search rules
