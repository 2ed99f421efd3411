-- What was taken of one intake is taken of the whole that it stands in.
use Rattle.std.proofs.Common.{◌≡◌, ℕ, ◌<◌, ◌≤◌, List, refl, sym, subst, arith}
use Rattle.std.specs.Prelude.{Option, Some, None, Result, Ok, Err, IfSome, IfOk, IfErr, IsErrAnd}
use Rattle.run_meaning.specs.declared.status.Status.{Status}
use Rattle.run_files_meaning.specs.Intake.{Contents, Intake, gives, refuses, reads, settled, behind, Leads, here, past, IsReached}
use Rattle.run_files_meaning.specs.Refusal.{Ending, whole, broken, unread, no_memory, refused, ending_of, RefusedFor, RefusedAs}
use Rattle.run_files_meaning.specs.Taken.{StopsBy, Stops, Takes}
use Rattle.run_files_meaning.proofs.Leads.{leads_on, leads_behind, reached_later, reached_behind}

-- a refusal for one reason is one for another that follows from it
pub refused_map : (status : Status) (P Q : Status → Type 0) → ((s : Status) → P s → Q s) → RefusedAs status P → RefusedAs status Q
refused_map status P Q f r = by (ending_of status) (P status) (Q status) (f status) r
  where
    by : (end : Ending) (P Q : Type 0) → (P → Q) → RefusedFor end P → RefusedFor end Q
    by whole P Q f r = absurd r
    by broken P Q f r = absurd r
    by (unread name) P Q f r = absurd r
    by no_memory P Q f r = tt
    by refused P Q f r = f r

-- what is held by one shelf is held by another with the same contents
pub leads_same : {X : Type 0} {contents other : Contents} {a b : Intake X} → ((name : List ℕ) → contents name ≡ other name) → Leads contents a b → Leads other a b
leads_same same here = here
leads_same {X} {contents} {other} same (past {name} text told h) =
    let P : Option (List ℕ) → Type 0 = λ content. IfSome content (λ t. text ≡ t) in
    past text (subst P (same name) told) (leads_same same h)

pub stops_behind : {X Y : Type 0} (status : Status) (intake : Intake X) (next : X → Intake Y) (contents : Contents) (before after : List ℕ → ℕ)
    → Stops status intake contents before after → Stops status (behind intake next) contents before after
stops_behind {X} {Y} status intake next contents before after s = by (ending_of status) s
  where
    by : (end : Ending) → StopsBy end status intake contents before after → StopsBy end status (behind intake next) contents before after
    by whole s = absurd s
    by broken s = absurd s
    by (unread name) s = (s.0, reached_behind next s.1)
    by no_memory s = tt
    by refused s = leads_behind next s

pub stops_later : {X : Type 0} (status : Status) (intake later : Intake X) (contents other : Contents) (before middle after : List ℕ → ℕ)
    → Leads contents intake later → ((name : List ℕ) → other name ≡ contents name) → ((name : List ℕ) → before name ≤ middle name)
    → Stops status later other middle after → Stops status intake contents before after
stops_later {X} status intake later contents other before middle after leads same le s = by (ending_of status) s
  where
    by : (end : Ending) → StopsBy end status later other middle after → StopsBy end status intake contents before after
    by whole s = absurd s
    by broken s = absurd s
    by (unread name) s =
        let rose : before name < after name = let l = le name in omega (arith, s.0, l) in
        (rose, reached_later leads (record { judge = s.1.judge; leads = leads_same same s.1.leads }))
    by no_memory s = tt
    by refused s = leads_on leads (leads_same same s)

-- what is taken behind what the intake leads to
pub takes_later : {X Y : Type 0} (view : X → Y) (made : Result X Status) (intake later : Intake Y) (contents other : Contents) (before middle after : List ℕ → ℕ)
    → Leads contents intake later → ((name : List ℕ) → other name ≡ contents name) → ((name : List ℕ) → before name ≤ middle name)
    → Takes view made later other middle after → Takes view made intake contents before after
takes_later view (Ok x) intake later contents other before middle after leads same le t = leads_on leads (leads_same same t)
takes_later view (Err status) intake later contents other before middle after leads same le t = stops_later status intake later contents other before middle after leads same le t

-- ---- a text that is judged

pub settles : {X : Type 0} (judged : Result X Status) (status : Status) (contents : Contents) (before after : List ℕ → ℕ)
    → RefusedAs status (λ s. judged ≡ Err s) → Stops status (settled judged) contents before after
settles {X} judged status contents before after r = by (ending_of status) r
  where
    led : judged ≡ Err status → Leads contents (settled judged) (refuses status)
    led e = rw e here

    by : (end : Ending) → RefusedFor end (judged ≡ Err status) → StopsBy end status (settled judged) contents before after
    by whole r = absurd r
    by broken r = absurd r
    by (unread name) r = absurd r
    by no_memory r = tt
    by refused r = led r

-- what is judged behind what was taken is taken
pub judged_behind : {X Y Z : Type 0} (view : X → Z) (made : Result X Status) (intake : Intake Y) (judge : Y → Result Z Status) (taken given : Y) (contents : Contents) (before after : List ℕ → ℕ)
    → given ≡ taken → Leads contents intake (gives taken) → IfOk made (λ x. judge given ≡ Ok (view x)) → IfErr made (λ status. RefusedAs status (λ s. judge given ≡ Err s))
    → Takes view made (behind intake (λ y. settled (judge y))) contents before after
judged_behind {X} {Y} {Z} view made intake judge taken given contents before after same leads ok err = by made ok err
  where
    led : Leads contents (behind intake (λ y. settled (judge y))) (settled (judge given))
    led = subst (λ (y : Y). Leads contents (behind intake (λ y. settled (judge y))) (settled (judge y))) (sym same) (leads_behind (λ y. settled (judge y)) leads)

    by : (made : Result X Status) → IfOk made (λ x. judge given ≡ Ok (view x)) → IfErr made (λ status. RefusedAs status (λ s. judge given ≡ Err s))
        → Takes view made (behind intake (λ y. settled (judge y))) contents before after
    by (Ok x) ok err = subst (λ (o : Result Z Status). Leads contents (behind intake (λ y. settled (judge y))) (settled o)) ok led
    by (Err status) ok err =
        stops_later status (behind intake (λ y. settled (judge y))) (settled (judge given)) contents contents before before after led (λ name. refl) (λ name. omega arith)
        (settles (judge given) status contents before after err)

-- where the first files stop a run, nothing is taken
pub first_stops : {X Y Z : Type 0} (view : X → Z) (made : Result X Status) (status : Status) (intake : Intake Y) (next : Y → Intake Z) (contents : Contents) (before after : List ℕ → ℕ)
    → IsErrAnd made (λ s. s ≡ status) → Stops status intake contents before after → Takes view made (behind intake next) contents before after
first_stops view (Ok x) status intake next contents before after e s = absurd e
first_stops view (Err other) status intake next contents before after e s =
    subst (λ (t : Status). Stops t (behind intake next) contents before after) (sym e) (stops_behind status intake next contents before after s)

-- where later files do
pub later_stops : {X Y : Type 0} (view : X → Y) (made : Result X Status) (status : Status) (intake later : Intake Y) (contents other : Contents) (before middle after : List ℕ → ℕ)
    → IsErrAnd made (λ s. s ≡ status) → Leads contents intake later → ((name : List ℕ) → other name ≡ contents name) → ((name : List ℕ) → before name ≤ middle name)
    → Stops status later other middle after → Takes view made intake contents before after
later_stops view (Ok x) status intake later contents other before middle after e leads same le s = absurd e
later_stops view (Err again) status intake later contents other before middle after e leads same le s =
    subst (λ (t : Status). Stops t intake contents before after) (sym e) (stops_later status intake later contents other before middle after leads same le s)
