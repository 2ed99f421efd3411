use Rattle.rdf_layout.proofs.bulk.have_candidates.Goals as goal

pub returns : goal.returns
returns c = record { some = c.count.ensures.some; first = c.count.ensures.first }
