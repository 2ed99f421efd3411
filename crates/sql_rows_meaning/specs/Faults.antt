-- Checks one after another, of which the first fault is answered (this project's own).
use Rattle.std.specs.Prelude.{ℕ, Bool, true, false, List, [], ◌∷◌, Option, Some, None, Result, Ok, Err}
use Rattle.sql_rows_meaning.specs.declared.fault.FaultKind.{FaultKind}
use Rattle.sql_rows_meaning.specs.declared.fault.Fault.{Fault}

-- what was found well bound, or the first fault
abbrev pub Checked : Type 0 → Type 0 → Type 0
Checked F X = Result X F

-- one check, and then another where the first found no fault
abbrev pub and_then : {F X Y : Type 0} → Checked F X → (X → Checked F Y) → Checked F Y
and_then (Ok x) f = f x
and_then (Err e) f = Err e

-- a fault, where the test is true
abbrev pub unless : {F X : Type 0} → Bool → F → X → Checked F X
unless true e x = Err e
unless false e x = Ok x

-- a fault, where there is none
abbrev pub found : {F X : Type 0} → F → Option X → Checked F X
found e None = Err e
found e (Some x) = Ok x

-- a list of checks, in order
abbrev pub all_fine : {F X : Type 0} → List (Checked F X) → Checked F (List X)
all_fine [] = Ok []
all_fine (c ∷ cs) = and_then c (λ x. and_then (all_fine cs) (λ xs. Ok (x ∷ xs)))

-- the number of the SELECT in which a fault stands
abbrev pub in_select : {X : Type 0} → ℕ → Checked FaultKind X → Checked Fault X
in_select n (Ok x) = Ok x
in_select n (Err e) = Err (record { kind = e; select = n })
