use Rattle.std.proofs.Common.{arith}
use Rattle.sparql_tokens.proofs.NameLaws.{part_step}
use Rattle.sparql_tokens.proofs.names.name_len.Goals as goal

pub parts-preserved : goal.parts-preserved
parts-preserved c = record {
  value = rw c.split_at.ensures.back (part_step c.args.local c.parts.end c.parts.at c.in-Some.first.now c.part_len-n.result _ c.parts.rest.now c.in-Some.after.now c.parts.invariant.value c.in-Some.ensures.cases.0 c.if-first-eq46.false c.part_len-n.ensures.value c.part_len-n.ensures.within c.if-n-eq0.false);
  order = omega arith;
  count = omega arith;
}
