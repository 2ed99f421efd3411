-- The status of changes that aren't held.
use Rattle.rdf_triples.specs.declared.refusal.LoadRefusal.{LoadRefusal}
use Rattle.rdf_triples.specs.declared.refusal.LoadRefusal.TheVariants as load
use Rattle.run_meaning.specs.declared.status.Status.{Status}
use Rattle.run_meaning.specs.declared.status.Status.TheVariants.{Limit, NoMemory}

-- the limit that they pass, or want of memory
abbrev pub load_status : LoadRefusal → Status
load_status load.NoMemory = NoMemory
load_status (load.Limit which) = Limit which
