use Rattle.std.proofs.Common.{◌<◌, length}
use Rattle.sql_text_bodies.specs.Bodies.{UnionLoop}
use Rattle.sql_text_bodies.proofs.bodies.read_unions.Given as goal

abbrev pub invariant-cores : goal.invariant-cores
invariant-cores l = UnionLoop l.fn.first l.fn.tokens l.cores l.rest × (length l.rest < length l.fn.tokens)

abbrev pub decreases-cores : goal.decreases-cores
decreases-cores l = length l.rest
