use Rattle.std.proofs.Common.{◌++◌, ◌∷◌, [], List, sym, ap₂, ◌∙◌}
use Rattle.sql_meaning.specs.declared.script.Core.{Core}
use Rattle.sql_gen_stars.proofs.Parts.{one_more}
use Rattle.sql_gen_stars.proofs.pairs.pairs_body.Goals as goal

pub loop-pair-preserved : goal.loop-pair-preserved
loop-pair-preserved c =
    c.in_ok-push.ensures.ok
    ∙ ap₂ (λ (cores : List Core) (core : Core). cores ++ core ∷ []) c.loop-pair.invariant c.in_ok-pair_core.ensures
    ∙ sym (one_more c.args.primary.now c.args.entity c.args.predicate c.loop-pair.pair)
