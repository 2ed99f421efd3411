-- Steps whose arms have names (this project's own).
use Rattle.std.specs.Prelude.{ℕ, ◌<◌, ◌≤◌, List, length}
use Rattle.std.specs.List.{AllByRecursion}
use Rattle.sql_gen_numbered_meaning.specs.declared.numbered.NumberedBody.{NumberedBody}
use Rattle.sql_gen_numbered_meaning.specs.declared.numbered.NumberedBody.TheVariants.{Single, Access, Pairs, Open, Joined, United, Filtered, Matched, Passed, Optional, Distinct}

-- an access step has at most 100 arms, and a step opens and keeps arms among the first 100: their cells are told apart by two digits
abbrev pub HasNamedArms : NumberedBody → Type 0
HasNamedArms (Access side spilled entity arms) = length arms ≤ 100
HasNamedArms (Open side a vs arm later asked) = (arm < 100) × AllByRecursion (λ i. i < 100) later
HasNamedArms Single = Unit {0}
HasNamedArms (Pairs side entity predicate columns) = Unit {0}
HasNamedArms (Joined left a b vs ws certain) = Unit {0}
HasNamedArms (United a b vs ws) = Unit {0}
HasNamedArms (Filtered a vs ts condition) = Unit {0}
HasNamedArms (Matched a b vs ws certain) = Unit {0}
HasNamedArms (Passed m vs ws ts condition) = Unit {0}
HasNamedArms (Optional a m vs ws certain) = Unit {0}
HasNamedArms (Distinct a vs us) = Unit {0}

abbrev pub HaveNamedArms : List NumberedBody → Type 0
HaveNamedArms bs = AllByRecursion HasNamedArms bs
