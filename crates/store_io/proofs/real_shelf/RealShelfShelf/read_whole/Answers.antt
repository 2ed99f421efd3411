use Rattle.store_io.proofs.Counts.{counted}
use Rattle.store_io.proofs.real_shelf.RealShelfShelf.read_whole.Goals as goal

pub returns-clause-counts : goal.returns-clause-counts
returns-clause-counts g c = (counted _ _ _ c.in_ok-note.ensures.ok).0

pub returns-clause-failed : goal.returns-clause-failed
returns-clause-failed g c = λ _. (counted _ _ _ c.in_ok-note.ensures.ok).1
