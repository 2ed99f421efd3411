use Rattle.sql_gen_star_out_laws.proofs.StarNodes.{stars-stand}
use Rattle.sql_gen_star_out_laws.proofs.star_outs_stand.Goals as goal

-- src/lib.rt
pub returns : goal.returns
returns c = λ facts ids direct reverse wide leaf fits in_width told plain few. stars-stand facts ids (record { direct = direct; reverse = reverse; wide = wide }) leaf fits in_width told plain few
