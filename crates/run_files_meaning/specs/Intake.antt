-- Files that are read one after another.
use Rattle.std.specs.Prelude.{◌≡◌, ℕ, List, Option, Some, IfSome, Result, Ok, Err}
use Rattle.run_meaning.specs.declared.status.Status.{Status}

-- what each name holds, where that is told
abbrev pub Contents : Type 0
Contents = List ℕ → Option (List ℕ)

-- What files give in the end, or the status that refuses one of them. Each is read by its name, and judged before the next.
pub data Intake (X : Type 0) : Type 0 where
  gives : X → Intake X
  refuses : Status → Intake X
  reads : List ℕ → (List ℕ → Intake X) → Intake X

abbrev pub settled : {X : Type 0} → Result X Status → Intake X
settled (Ok x) = gives x
settled (Err status) = refuses status

-- what is read behind what other files give
abbrev pub behind : {X Y : Type 0} → Intake X → (X → Intake Y) → Intake Y
behind (gives x) next = next x
behind (refuses status) next = refuses status
behind (reads name judge) next = reads name (λ text. behind (judge text) next)

-- With these contents an intake leads to another, the same or a later one: each file on the way holds a text, which is the
-- one that is told, where one is told.
pub data Leads {X : Type 0} (contents : Contents) : Intake X → Intake X → Type 0 where
  here : {intake : Intake X} → Leads contents intake intake
  past : {name : List ℕ} {judge : List ℕ → Intake X} {later : Intake X} (text : List ℕ) → IfSome (contents name) (λ told. text ≡ told) → Leads contents (judge text) later
      → Leads contents (reads name judge) later

-- the file of this name is reached: every file before it was accepted
pub record IsReached {X : Type 0} (name : List ℕ) (intake : Intake X) (contents : Contents) : Type 0 where
  pub judge : List ℕ → Intake X
  pub leads : Leads contents intake (reads name judge)

-- each file that is reached is told
abbrev pub IsTold : {X : Type 0} → Intake X → Contents → Type 0
IsTold (gives x) contents = Unit {0}
IsTold (refuses status) contents = Unit {0}
IsTold (reads name judge) contents = (text : List ℕ) × (contents name ≡ Some text) × IsTold (judge text) contents
