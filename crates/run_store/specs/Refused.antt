-- What the refusal of a store is for changes.
use Rattle.std.specs.Prelude.{Option, Some, None}
use Rattle.run_meaning.specs.declared.which.Which.TheVariants as which
use Rattle.rdf_layout.specs.declared.refusal.StoreRefusal.{StoreRefusal}
use Rattle.rdf_layout.specs.declared.refusal.StoreRefusal.TheVariants.{Triples, Terms, Lists, NoMemory}
use Rattle.rdf_triples.specs.declared.refusal.LoadRefusal.{LoadRefusal}
use Rattle.rdf_triples.specs.declared.refusal.LoadRefusal.TheVariants as load

-- no limit of changes stands for want of list ids
abbrev pub load_refusal_of : StoreRefusal → Option LoadRefusal
load_refusal_of NoMemory = Some load.NoMemory
load_refusal_of Triples = Some (load.Limit which.Triples)
load_refusal_of Terms = Some (load.Limit which.Terms)
load_refusal_of Lists = None
