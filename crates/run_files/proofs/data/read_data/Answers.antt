use Rattle.std.proofs.Common.{ℕ, ◌+◌, List, ◌∷◌, drop, refl, ap, ◌∙◌, arith, rules}
use Rattle.run_files_meaning.specs.Files.{data_behind, data_read}
use Rattle.run_files_meaning.proofs.Leads.{leads_on}
use Rattle.run_files_meaning.proofs.Takes.{leads_same, later_stops}
use Rattle.run_files.proofs.Files.{none_taken, none_long, next_named}
use Rattle.run_files.proofs.data.read_data.Goals as goal

pub files-init : goal.files-init
files-init g c =
    (none_taken (g.F.Shelf.content c.args.shelf.now) c.args.names.now c.new-changes.result.items c.new-changes.ensures.items, refl, none_long c.new-changes.result.items c.new-changes.ensures.items, λ other. refl, λ other. omega arith)

pub returns-in_err-left-clause-taken : goal.returns-in_err-left-clause-taken
returns-in_err-left-clause-taken g c =
    later_stops (λ changes. changes.items) c.from_residual.result c.in_err-left.field-0.0 (data_read c.args.names.now)
    (data_behind c.files.file c.files.left c.files.changes.items (c.as_str.result.now ∷ drop (c.files.name-index + 1) c.args.names.now))
    (g.F.Shelf.content c.args.shelf.now) (g.F.Shelf.content c.files.shelf) (g.F.Shelf.faults c.args.shelf.now) (g.F.Shelf.faults c.files.shelf) (g.F.Shelf.faults c.read_more.new.shelf)
    c.from_residual.ensures.1
    (next_named (g.F.Shelf.content c.args.shelf.now) (data_read c.args.names.now) c.files.file c.files.left c.files.changes.items c.args.names.now c.files.name-index c.as_str.result.now c.name-item.result (search rules) c.as_str.ensures c.name-item.is c.files.invariant.0)
    c.files.invariant.3 c.files.invariant.4 (c.in_err-left.ensures.stops (drop (c.files.name-index + 1) c.args.names.now))

pub files-preserved : goal.files-preserved
files-preserved g c = (
  leads_on
      (next_named (g.F.Shelf.content c.args.shelf.now) (data_read c.args.names.now) c.files.file c.files.left c.files.changes.items c.args.names.now c.files.name-index c.as_str.result.now c.name-item.result (search rules) c.as_str.ensures c.name-item.is c.files.invariant.0)
      (leads_same c.files.invariant.3 (c.in_ok-left.ensures.taken (drop (c.files.name-index + 1) c.args.names.now))),
  ap (λ (n : ℕ). n + 1) c.files.invariant.1,
  omega (arith, c.in_ok-left.ensures.few, c.files.invariant.2),
  λ (other : List ℕ). c.in_ok-left.ensures.content other ∙ c.files.invariant.3 other,
  λ (other : List ℕ). omega (arith, c.files.invariant.4 other, c.in_ok-left.ensures.counts other),
)
