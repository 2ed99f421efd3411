use Rattle.sql_text_bodies.specs.Bodies as bodies
use Rattle.sql_text_bodies.proofs.bodies.read_plain.Goals as goal

pub returns-clause-reads : goal.returns-clause-reads
returns-clause-reads c =
    bodies.plain_made _ _ _ _ _ _ _ c.in_ok-rest.ensures.reads c.in_ok-rest-2.ensures.reads c.in_ok-rest-3.ensures.reads c.in_ok-parts.ensures.reads c.plain_core.ensures
