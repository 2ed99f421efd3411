use Rattle.sql_text_bodies.specs.Bodies as bodies
use Rattle.sql_text_bodies.proofs.bodies.read_body.Goals as goal

pub returns-in-Some-clause-reads : goal.returns-in-Some-clause-reads
returns-in-Some-clause-reads c =
    bodies.body_distinct _ _ _ _ _ c.in_ok-rest.ensures.reads c.in-Some.ensures.first c.in_ok-cores.ensures.reads

pub returns-clause-reads : goal.returns-clause-reads
returns-clause-reads c =
    bodies.body_plain _ _ _ _ c.in_ok-rest.ensures.reads c.in_default.ensures.first c.in_ok-cores-2.ensures.reads
