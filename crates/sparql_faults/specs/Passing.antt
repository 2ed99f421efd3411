-- The first of the limits that are passed.
use Rattle.std.proofs.Common.{ℕ, ◌≡◌, Bool, true, false, ◌&&◌, nat_lt, List, [], ◌∷◌, ◌++◌, length, Option, None, Some, refl, if◌then◌else◌}
use Rattle.sparql_meaning.specs.declared.token.TokenKind.{TokenKind}
use Rattle.sparql_query_meaning.specs.declared.refusal.QueryLimit.{QueryLimit}
use Rattle.sparql_query_meaning.specs.declared.refusal.QueryLimit.TheVariants.{Patterns, Variables, Groups, Blocks, Depth, Keys, Digits}
use Rattle.sparql_query_meaning.specs.Limits.{all_limits, State, Fault, limit, first_limit, passed, depth_of, has_long_count}
use Rattle.sparql_faults.specs.declared.limits.Counts.{Counts}

abbrev pub first_of : Bool → QueryLimit → Option QueryLimit → Option QueryLimit
first_of true q later = Some q
first_of false q later = later

abbrev pub passes : ℕ → ℕ → ℕ → Bool
passes most before after = nat_lt most after && nat_lt before after

abbrev pub limit_of : Counts → Counts → Bool → Bool → Option QueryLimit
limit_of before after deep long =
    first_of (passes 48 before.patterns after.patterns) Patterns
    (first_of (passes 64 before.keys after.keys) Keys
    (first_of (passes 64 before.variables after.variables) Variables
    (first_of (passes 24 before.groups after.groups) Groups
    (first_of (passes 512 before.blocks after.blocks) Blocks
    (first_of deep Depth
    (first_of long Digits None))))))

abbrev pub fault_of_limit : Option QueryLimit → Option Fault
fault_of_limit None = None
fault_of_limit (Some q) = Some (limit q)

first_in : (b : Bool) (q : QueryLimit) (qs : List QueryLimit) (later : Option QueryLimit) → first_limit qs ≡ fault_of_limit later → first_limit ((if b then q ∷ [] else []) ++ qs) ≡ fault_of_limit (first_of b q later)
first_in true q qs later h = refl
first_in false q qs later h = h

last_in : (b : Bool) (q : QueryLimit) → first_limit (if b then q ∷ [] else []) ≡ fault_of_limit (first_of b q None)
last_in true q = refl
last_in false q = refl

abbrev pub counts_in : State → Counts
counts_in st = record { patterns = st.patterns; variables = length st.names; groups = st.groups; blocks = st.blocks; keys = st.keys }

pub first_passed : (before after : State) (t : TokenKind) → first_limit (passed all_limits before after t) ≡ fault_of_limit (limit_of (counts_in before) (counts_in after) (nat_lt 48 (depth_of before.role t)) (has_long_count before.role t))
first_passed before after t =
    first_in (passes 48 before.patterns after.patterns) Patterns _ _
    (first_in (passes 64 before.keys after.keys) Keys _ _
    (first_in (passes 64 (length before.names) (length after.names)) Variables _ _
    (first_in (passes 24 before.groups after.groups) Groups _ _
    (first_in (passes 512 before.blocks after.blocks) Blocks _ _
    (first_in (nat_lt 48 (depth_of before.role t)) Depth _ _
    (last_in (has_long_count before.role t) Digits))))))
