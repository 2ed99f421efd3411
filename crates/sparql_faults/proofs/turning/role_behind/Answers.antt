use Rattle.std.proofs.Common.{ap, sym, ◌∙◌}
use Rattle.std.specs.Option.{option_copied}
use Rattle.sparql_query_meaning.specs.Limits.{role_behind, behind_part, behind_object}
use Rattle.sparql_faults.specs.declared.role.Role.{Role}
use Rattle.sparql_faults.specs.Roles.{place_of, role_of, begins}
use Rattle.sparql_faults.proofs.turning.role_behind.Goals as goal

pub returns-in-Some : goal.returns-in-Some
returns-in-Some c =
    begins _ _ _ (behind_part (place_of c.in-Next.place) c.args.kind.now (option_copied c.args.ahead)) c.between.ensures c.in-Some.is
    ∙ ap (λ (z : Role). role_behind (role_of z) c.args.kind.now (option_copied c.args.ahead)) (sym c.in-Next.is)

pub returns-in-Some-between : goal.returns-in-Some-between
returns-in-Some-between c =
    begins _ _ _ behind_object c.between-in-BehindObject.ensures c.in-Some-between.is
    ∙ ap (λ (z : Role). role_behind (role_of z) c.args.kind.now (option_copied c.args.ahead)) (sym c.in-BehindObject.is)
