-- What a read of one file says of its text.
use Rattle.std.proofs.Common.{◌≡◌, ℕ, ◌+◌, ◌<◌, ◌≤◌, List, [], ◌++◌, length, refl, sym, subst, arith}
use Rattle.std.specs.Prelude.{Option, Some, None, IfSome}
use Rattle.store_io.specs.declared.shelf.Taken.{Taken}
use Rattle.store_io.specs.declared.shelf.Taken.TheVariants.{All, Longer}
use Rattle.store_io.specs.Reading.{TakesWhole, IsLonger, Reads}
use Rattle.run_meaning.specs.declared.status.Status.TheVariants.{Limit}
use Rattle.run_meaning.specs.declared.which.Which.{Which}
use Rattle.run_files_meaning.specs.Intake.{Contents, Intake, gives, refuses, Leads, here, IsReached}
use Rattle.run_files_meaning.specs.Files.{text_read}
use Rattle.run_files_meaning.proofs.Leads.{short_leads, longer_leads}

whole : (contents : Contents) (most : ℕ) (which : Which) (name new : List ℕ) → TakesWhole (contents name) most [] new → Leads contents (text_read most which name) (gives new)
whole contents most which name new t = let within : length new ≤ 0 + most = t.within in short_leads contents most which name new (omega (arith, within)) t.told

pub all_given : (contents : Contents) (most : ℕ) (which : Which) (name old new : List ℕ) (taken : Taken) → old ≡ [] → taken ≡ All → Reads (contents name) most old new taken
    → Leads contents (text_read most which name) (gives new)
all_given contents most which name old new taken none all r =
    let t : Reads (contents name) most old new All = subst (λ (x : Taken). Reads (contents name) most old new x) all r in
    whole contents most which name new (subst (λ (x : List ℕ). TakesWhole (contents name) most x new) none t)

pub longer_refused : (contents : Contents) (most : ℕ) (which : Which) (name old new : List ℕ) (taken : Taken) → taken ≡ Longer → Reads (contents name) most old new taken
    → Leads contents (text_read most which name) (refuses (Limit which))
longer_refused contents most which name old new taken longer r =
    let l : Reads (contents name) most old new Longer = subst (λ (x : Taken). Reads (contents name) most old new x) longer r in
    longer_leads contents most which name l.told

pub read_failed : (contents : Contents) (most : ℕ) (which : Which) (name failed : List ℕ) (before after : List ℕ → ℕ) → failed ≡ name → before name < after name
    → (before failed < after failed) × IsReached failed (text_read most which name) contents
read_failed contents most which name failed before after same rose =
    let here_reached : IsReached name (text_read most which name) contents = record { judge = _; leads = here } in
    subst (λ (n : List ℕ). (before n < after n) × IsReached n (text_read most which name) contents) (sym same) (rose, here_reached)
