use Rattle.std.proofs.Common.{subst}
use Rattle.std.specs.Option.{option_copied}
use Rattle.sparql_faults.specs.declared.faults.Step.{Step}
use Rattle.sparql_faults.specs.Faults.{IsStep, started, broken, went_on, ended}
use Rattle.sparql_faults.proofs.faults.first_fault.Goals as goal

pub tokens-init : goal.tokens-init
tokens-init c = started _ _ c.new-state.ensures

pub returns-in-Broke : goal.returns-in-Broke
returns-in-Broke c =
    broken _ _ _ _ _ _ _ c.in-Broke.fault c.tokens.invariant c.in-Some.ensures.cases.0 c.next_kind.ensures
    (subst (λ (z : Step). IsStep c.tokens.state c.in-Some.token.now.kind (option_copied c.next_kind.result) z) c.in-Broke.is c.in_ok-fault.ensures)

pub tokens-preserved : goal.tokens-preserved
tokens-preserved c =
    went_on _ _ _ _ _ _ _ _ c.tokens.invariant c.in-Some.ensures.cases.0 c.next_kind.ensures
    (subst (λ (z : Step). IsStep c.tokens.state c.in-Some.token.now.kind (option_copied c.next_kind.result) z) c.in-On.is c.in_ok-fault.ensures)

pub returns : goal.returns
returns c = ended _ _ _ _ c.tokens.invariant c.in_default.ensures.cases
