use Rattle.std.proofs.Common.{rules, arith, subst, sym, ap, ◌∙◌, ◌++◌, ◌∷◌, [], ◌≡◌, ◌<◌, length, suc}
use Rattle.sparql_values.specs.ListSteps.{MembersAlong, MembersStops, members_start, members_step, members_end, members_later_stops}
use Rattle.sparql_values.proofs.lists.read_members.Goals as goal

pub loop-after-init : goal.loop-after-init
loop-after-init c =
    let is = c.in_ok-push.ensures.ok ∙ ap (λ z. z ++ (c.in_ok-first.first ∷ [])) c.new-values.ensures in
    (subst (λ z. MembersAlong c.args.tokens.now z c.in_ok-first.rest.now) (sym is) (members_start _ _ _ c.in_ok-first.ensures.reads), c.in_ok-first.ensures.shorter)

pub loop-after-preserved : goal.loop-after-preserved
loop-after-preserved c =
    let h = members_step _ _ _ _ _ (rw c.in-Some.ensures at c.loop-after.invariant.0) c.in_ok-value.ensures.reads in
    let i = c.in_ok-value.ensures.shorter in
    let j = ap length c.in-Some.ensures in
    let k = c.loop-after.invariant.1 in
    (subst (λ z. MembersAlong c.args.tokens.now z c.in_ok-value.after.now) (sym c.in_ok-push-2.ensures.ok) h, omega arith)

pub returns-clause-reads : goal.returns-clause-reads
returns-clause-reads c = members_end _ _ _ c.loop-after.invariant.0 c.in_default.ensures

pub returns-in_err-value-clause-refuses : goal.returns-in_err-value-clause-refuses
returns-in_err-value-clause-refuses c =
    let h : MembersStops c.args.tokens.now c.in_err-value.field-0.0 = members_later_stops _ _ _ _ (rw c.in-Some.ensures at c.loop-after.invariant.0) c.in_err-value.ensures.refuses in
    search rules
