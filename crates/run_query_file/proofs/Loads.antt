-- Changes that are held are within the limits, and others are refused for the limit that they pass.
use Rattle.std.proofs.Common.{◌≡◌, List, ap, refl, sym, ◌∙◌}
use Rattle.std.specs.Prelude.{Result, Ok, Err, Option, Some, None}
use Rattle.line_change_meaning.specs.declared.change.Change.{Change}
use Rattle.rdf_triples.specs.Refusals.{Refuses}
use Rattle.rdf_triples.specs.declared.refusal.LoadRefusal.{LoadRefusal}
use Rattle.rdf_triples.specs.declared.refusal.LoadRefusal.TheVariants as load
use Rattle.run_meaning.specs.declared.status.Status.{Status}
use Rattle.run_meaning.specs.declared.which.Which.{Which}
use Rattle.run_meaning.specs.Limits.{passed_limit}
use Rattle.run_files_meaning.specs.Files.{judged_work, unless_passed}
use Rattle.run_files_meaning.specs.Refusal.{RefusedAs}
use Rattle.run_query_file.specs.Loaded.{load_status}

pub load_within : {W : Type 0} (changes : List Change) (work : W) → passed_limit changes ≡ None → judged_work changes work ≡ Ok work
load_within changes work e = ap (unless_passed work) e

pub load_refused : {W : Type 0} (changes : List Change) (work : W) (e : LoadRefusal) → Refuses e (passed_limit changes) → RefusedAs (load_status e) (λ s. judged_work changes work ≡ Err s)
load_refused changes work load.NoMemory r = tt
load_refused changes work (load.Limit which) r = ap (unless_passed work) r
