use Rattle.std.proofs.Common.{◌∙◌}
use Rattle.indexmap.proofs.CallerLemmas.{Drains-YieldsInOrder}
use Rattle.sparql_constants.proofs.kept.Kept.into_terms.Goals as goal

pub returns : goal.returns
returns c =
    let ran = c.in_ok-terms.ensures.ran in
    let last = ran.3.2 tt in
    ran.4.0 ∙ Drains-YieldsInOrder _ _ ran.0 ran.1 ran.2.2 (last.0, (ran.3.0, ran.3.1, last.1)) ∙ ran.2.0 ∙ c.self.view_is
