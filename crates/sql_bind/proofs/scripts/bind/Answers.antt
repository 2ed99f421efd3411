-- What each part gave makes the bound script, or its first fault.
use Rattle.std.proofs.lemmas.Result.{err_from_is_err_and}
use Rattle.sql_bind.proofs.ScriptSteps.{whole_bound, whole_rows, whole_stops}
use Rattle.sql_bind.proofs.scripts.bind.Goals as goal

pub returns-in_err-steps-clause-refused : goal.returns-in_err-steps-clause-refused
returns-in_err-steps-clause-refused c =
    let p = err_from_is_err_and c.from_residual.result c.from_residual.ensures.1 in
    let stop = rw c.as_slice.ensures at c.in_err-steps.ensures.refused in
    rw (p.1, p.2) (λ f q. whole_stops c.args.s.now c.args.schemas.now f (stop f q))

pub new-requires-2 : goal.new-requires-2
new-requires-2 c =
    let steps = rw c.as_slice.ensures at c.in_ok-steps.ensures.bound in
    let fine = rw c.as_slice-3.ensures at c.in_ok-last.ensures.fine in
    let body = rw c.as_slice-3.ensures at c.in_ok-last.ensures.body in
    rw c.new.ensures (λ given all are. whole_rows c.args.s.now c.args.schemas.now _ c.in_ok-tables.tables.items _ _ _ _ given steps fine body c.in_ok-tables.ensures all are)

pub returns-clause-bound : goal.returns-clause-bound
returns-clause-bound c =
    let steps = rw c.as_slice.ensures at c.in_ok-steps.ensures.bound in
    let fine = rw c.as_slice-3.ensures at c.in_ok-last.ensures.fine in
    let body = rw c.as_slice-3.ensures at c.in_ok-last.ensures.body in
    let made = rw c.new.ensures at c.new-2.ensures in
    whole_bound c.args.s.now c.args.schemas.now _ c.in_ok-tables.tables.items _ _ _ _ c.new-2.result steps fine body c.in_ok-tables.ensures made
