-- A refusal behind the first part: the law of that step, at what was read before and at the callee's refusal.
use Rattle.std.proofs.Common.{rules, arith, subst, sym, ap, ◌∙◌, ◌++◌, ◌∷◌, [], length}
use Rattle.sparql_grammar_meaning.specs.Grammar.{group_of}
use Rattle.sparql_groups.specs.GroupSteps.{PartStops, part_dot_stops, part_plain_stops, other_unions}
use Rattle.sparql_groups.specs.UnionSteps.{UnionsAlong, UnionsStop, unions_start, unions_step, unions_end, unions_later_stops}
use Rattle.sparql_groups.proofs.groups.+groups.Goals as goal

pub read_part-returns-in_err-patterns-in-Some-clause-refuses : goal.read_part-returns-in_err-patterns-in-Some-clause-refuses
read_part-returns-in_err-patterns-in-Some-clause-refuses t c =
    let h : PartStops c.args.tokens.now c.in_err-patterns-in-Some.field-0.0 = part_dot_stops _ _ _ _ (rw c.in-Some.ensures at c.in_ok-element.ensures.reads) c.in_err-patterns-in-Some.ensures.refuses in
    search rules

pub read_part-returns-in_err-patterns-in-None-clause-refuses : goal.read_part-returns-in_err-patterns-in-None-clause-refuses
read_part-returns-in_err-patterns-in-None-clause-refuses t c =
    let h : PartStops c.args.tokens.now c.in_err-patterns-in-None.field-0.0 = part_plain_stops _ _ _ _ c.in_ok-element.ensures.reads c.in-None.ensures c.in_err-patterns-in-None.ensures.refuses in
    search rules

pub read_other-returns-clause-reads : goal.read_other-returns-clause-reads
read_other-returns-clause-reads t c = other_unions _ _ _ c.in_default.ensures c.in_default-after_sign.ensures c.in_ok-groups.ensures.reads

pub read_unions-loop-after-init : goal.read_unions-loop-after-init
read_unions-loop-after-init t c =
    let is = c.in_ok-push.ensures.ok ∙ ap (λ z. z ++ (group_of c.in_ok-elements.elements ∷ [])) c.new-groups.ensures in
    (subst (λ z. UnionsAlong c.args.tokens.now z c.in_ok-elements.rest.now) (sym is) (unions_start _ _ _ c.in_ok-elements.ensures.reads), c.in_ok-elements.ensures.shorter)

pub read_unions-loop-after-preserved : goal.read_unions-loop-after-preserved
read_unions-loop-after-preserved t c =
    let h = unions_step _ _ _ _ _ (rw c.in-Some.ensures at c.loop-after.invariant.0) c.in_ok-elements-2.ensures.reads in
    let i = c.in_ok-elements-2.ensures.shorter in
    let j = ap length c.in-Some.ensures in
    let k = c.loop-after.invariant.1 in
    (subst (λ z. UnionsAlong c.args.tokens.now z c.in_ok-elements-2.after.now) (sym c.in_ok-push-2.ensures.ok) h, omega arith)

pub read_unions-returns-clause-reads : goal.read_unions-returns-clause-reads
read_unions-returns-clause-reads t c = unions_end _ _ _ c.loop-after.invariant.0 c.in_default.ensures

pub read_unions-returns-in_err-elements-2-clause-refuses : goal.read_unions-returns-in_err-elements-2-clause-refuses
read_unions-returns-in_err-elements-2-clause-refuses t c =
    let h : UnionsStop c.args.tokens.now c.in_err-elements-2.field-0.0 = unions_later_stops _ _ _ _ (rw c.in-Some.ensures at c.loop-after.invariant.0) c.in_err-elements-2.ensures.refuses in
    search rules
