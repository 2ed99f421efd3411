-- Intakes lead from one to another, and stop.
use Rattle.std.proofs.Common.{◌≡◌, ℕ, ◌+◌, ◌<◌, ◌≤◌, List, true, false, refl, subst, arith, sym, ◌∙◌, ap}
use Rattle.std.specs.Prelude.{Option, Some, None, Result, Ok, Err, IfSome, nat_lt, length}
use Rattle.std.proofs.lemmas.Bool.{lt-ltb, le-ltb}
use Rattle.std.proofs.Math.ListN.{replicate}
use Rattle.std.proofs.lemmas.List.{length-replicate}
use Rattle.run_meaning.specs.declared.status.Status.{Status}
use Rattle.run_meaning.specs.declared.status.Status.TheVariants.{Limit}
use Rattle.run_meaning.specs.declared.which.Which.{Which}
use Rattle.run_files_meaning.specs.Intake.{Contents, Intake, gives, refuses, reads, settled, behind, Leads, here, past, IsReached, IsTold}
use Rattle.run_files_meaning.specs.Files.{text_read}

pub leads_on : {X : Type 0} {contents : Contents} {a b c : Intake X} → Leads contents a b → Leads contents b c → Leads contents a c
leads_on here k = k
leads_on (past text told h) k = past text told (leads_on h k)

pub leads_behind : {X Y : Type 0} {contents : Contents} {a b : Intake X} (next : X → Intake Y) → Leads contents a b → Leads contents (behind a next) (behind b next)
leads_behind next here = here
leads_behind next (past text told h) = past text told (leads_behind next h)

-- what leads to a reached file reaches it
pub reached_later : {X : Type 0} {name : List ℕ} {contents : Contents} {a b : Intake X} → Leads contents a b → IsReached name b contents → IsReached name a contents
reached_later h r = record { judge = r.judge; leads = leads_on h r.leads }

pub reached_behind : {X Y : Type 0} {name : List ℕ} {contents : Contents} {a : Intake X} (next : X → Intake Y) → IsReached name a contents → IsReached name (behind a next) contents
reached_behind next r = record { judge = λ text. behind (r.judge text) next; leads = leads_behind next r.leads }

-- ---- one file

-- a text that isn't too long is given
pub short_leads : (contents : Contents) (most : ℕ) (which : Which) (name text : List ℕ) → length text ≤ most → IfSome (contents name) (λ told. text ≡ told)
    → Leads contents (text_read most which name) (gives text)
short_leads contents most which name text short told = past text told (rw (le-ltb most (length text) short) here)

long_leads : (contents : Contents) (most : ℕ) (which : Which) (name text : List ℕ) → most < length text → IfSome (contents name) (λ told. text ≡ told)
    → Leads contents (text_read most which name) (refuses (Limit which))
long_leads contents most which name text long told = past text told (rw (lt-ltb most (length text) long) here)

-- a text that is told, or any other, is refused where it is too long
pub longer_leads : (contents : Contents) (most : ℕ) (which : Which) (name : List ℕ) → IfSome (contents name) (λ told. most < length told)
    → Leads contents (text_read most which name) (refuses (Limit which))
longer_leads contents most which name h = by (contents name) refl h
  where
    by : (content : Option (List ℕ)) → contents name ≡ content → IfSome content (λ told. most < length told) → Leads contents (text_read most which name) (refuses (Limit which))
    by None e long =
        let text : List ℕ = replicate (most + 1) 0 in
        let n : length text ≡ most + 1 = length-replicate (most + 1) 0 in
        long_leads contents most which name text (omega (arith, n)) (rw e tt)
    by (Some told) e long = long_leads contents most which name told long (rw e refl)

-- ---- where each file is told, an intake leads to one end

-- a text that is told is the one that is held
held : (content : Option (List ℕ)) (text told : List ℕ) → content ≡ Some told → IfSome content (λ t. text ≡ t) → text ≡ told
held content text told e is = rw e at is

next_leads : {X : Type 0} {contents : Contents} {name : List ℕ} {judge : List ℕ → Intake X} (told : List ℕ) → contents name ≡ Some told
    → (r : Result X Status) → Leads contents (reads name judge) (settled r) → Leads contents (judge told) (settled r)
next_leads {X} {contents} {name} {judge} told e (Ok x) (past text is h) = subst (λ (t : List ℕ). Leads contents (judge t) (gives x)) (held (contents name) text told e is) h
next_leads {X} {contents} {name} {judge} told e (Err status) (past text is h) = subst (λ (t : List ℕ). Leads contents (judge t) (refuses status)) (held (contents name) text told e is) h

pub one_end : {X : Type 0} (contents : Contents) (a : Intake X) → IsTold a contents → (r s : Result X Status) → Leads contents a (settled r) → Leads contents a (settled s) → r ≡ s
one_end contents (gives x) t (Ok y) (Ok z) here here = refl
one_end contents (gives x) t (Ok y) (Err z) h k = elim k [ ]
one_end contents (gives x) t (Err y) s h k = elim h [ ]
one_end contents (refuses status) t (Err y) (Err z) here here = refl
one_end contents (refuses status) t (Err y) (Ok z) h k = elim k [ ]
one_end contents (refuses status) t (Ok y) s h k = elim h [ ]
one_end contents (reads name judge) t r s h k = one_end contents (judge t.0) t.2 r s (next_leads t.0 t.1 r h) (next_leads t.0 t.1 s k)

-- and to some end
pub some_end : {X : Type 0} (contents : Contents) (a : Intake X) → IsTold a contents → (r : Result X Status) × Leads contents a (settled r)
some_end contents (gives x) t = (Ok x, here)
some_end contents (refuses status) t = (Err status, here)
some_end contents (reads name judge) t = let end = some_end contents (judge t.0) t.2 in (end.0, past t.0 (rw t.1 refl) end.1)
