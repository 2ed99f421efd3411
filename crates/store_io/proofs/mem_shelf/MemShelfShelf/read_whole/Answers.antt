use Rattle.std.proofs.Common.{ℕ, List, ◌<◌, ap, subst}
use Rattle.store_io.specs.Reading.{CountsFaults}
use Rattle.store_io.specs.Shelves.{ShelfState, faults_among}
use Rattle.store_io.proofs.Counts.{counted}
use Rattle.store_io.proofs.mem_shelf.MemShelfShelf.read_whole.Goals as goal

pub returns-clause-counts : goal.returns-clause-counts
returns-clause-counts c =
    subst (λ (old : List (List ℕ)). CountsFaults (faults_among old) (faults_among c.note.new.self) c.args.name.now)
    (ap (λ (s : ShelfState). s.failed) c.self.view_is) (counted _ _ _ c.in_ok-note.ensures.ok).0

pub returns-clause-failed : goal.returns-clause-failed
returns-clause-failed c = λ _.
    subst (λ (old : List (List ℕ)). faults_among old c.args.name.now < faults_among c.note.new.self c.args.name.now)
    (ap (λ (s : ShelfState). s.failed) c.self.view_is) (counted _ _ _ c.in_ok-note.ensures.ok).1
