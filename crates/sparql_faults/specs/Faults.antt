-- The first fault: what one token comes to, and what a loop over tokens keeps.
use Rattle.std.proofs.Common.{ℕ, zero, suc, ◌≡◌, ◌+◌, ◌<◌, ◌≤◌, ◌^◌, Bool, true, false, List, [], ◌∷◌, length, Option, None, Some, refl, sym, ap, ◌∙◌, arith, nat_lt, if◌then◌else◌}
use Rattle.sparql_meaning.specs.declared.token.Token.{Token}
use Rattle.sparql_meaning.specs.declared.token.TokenKind.{TokenKind}
use Rattle.sparql_query_meaning.specs.declared.refusal.QueryLimit.{QueryLimit}
use Rattle.sparql_query_meaning.specs.Prefixes.{Declared, declared}
use Rattle.sparql_query_meaning.specs.Limits as limits
use Rattle.sparql_query_meaning.specs.Limits.{all_limits, State, state_after, unknown_prefix, limit, fault_at, fault_or, fault_from, one_later, next_kind, first_fault, first_limit, passed, depth_of, has_long_count}
use Rattle.sparql_lexemes.specs.Declarings.{declaring_of}
use Rattle.sparql_lexemes.specs.Scopes.{StandFor}
use Rattle.sparql_faults.specs.declared.state.State.{State as Kept}
use Rattle.sparql_faults.specs.declared.faults.Fault.{Fault}
use Rattle.sparql_faults.specs.declared.faults.Fault.TheVariants as f
use Rattle.sparql_faults.specs.declared.faults.FaultAt.{FaultAt}
use Rattle.sparql_faults.specs.declared.faults.Step.{Step}
use Rattle.sparql_faults.specs.declared.faults.Step.TheVariants as step
use Rattle.sparql_faults.specs.Roles.{role_of}
use Rattle.sparql_faults.specs.Passing.{limit_of, fault_of_limit, first_passed}
use Rattle.sparql_faults.specs.States.{state_of, counts_of, HasRoom, IsFirst, is_first, IsNext, is_next, IsUnknown, is_unknown}

abbrev pub fault_of : Fault → limits.Fault
fault_of f.UnknownPrefix = unknown_prefix
fault_of (f.Limit q) = limit q

abbrev pub fault_at_of : FaultAt → limits.FaultAt
fault_at_of x = record { before = x.before; fault = fault_of x.fault }

-- what a token comes to, with the next one known
pub data IsStep (s : Kept) (t : TokenKind) (ahead : Option TokenKind) : Step → Type 0 where
  breaks : (x : Fault) → ((ds : List Declared) → StandFor s.scope.prefixes ds → fault_at all_limits (state_of s ds) t ahead ≡ Some (fault_of x)) → IsStep s t ahead (step.Broke x)
  goes : (n : Kept) → ((ds : List Declared) → StandFor s.scope.prefixes ds → fault_at all_limits (state_of s ds) t ahead ≡ None) → IsNext s t ahead n → IsStep s t ahead (step.On n)

pub unknown_step : (s : Kept) (t : TokenKind) (ahead : Option TokenKind) (b : Bool) → IsUnknown s.scope t b → b ≡ true → IsStep s t ahead (step.Broke f.UnknownPrefix)
unknown_step s t ahead b (is_unknown u) e =
    breaks f.UnknownPrefix (λ ds h.
    let there : limits.is_unknown (state_of s ds) (declaring_of s.scope.declaring) t ≡ true = sym (u (state_of s ds) h) ∙ e in
    ap (λ (z : Bool). if z then Some unknown_prefix else first_limit (passed all_limits (state_of s ds) (state_after (state_of s ds) t ahead) t)) there)

by_limits : (s n : Kept) (t : TokenKind) (ahead : Option TokenKind) (b deep long : Bool) (r : Option QueryLimit) → IsUnknown s.scope t b → b ≡ false → IsNext s t ahead n
    → deep ≡ nat_lt 48 (depth_of (role_of s.role) t) → long ≡ has_long_count (role_of s.role) t → r ≡ limit_of (counts_of s) (counts_of n) deep long
    → (ds : List Declared) → StandFor s.scope.prefixes ds → fault_at all_limits (state_of s ds) t ahead ≡ fault_of_limit r
by_limits s n t ahead b deep long r (is_unknown u) e (is_next c q near) d l k ds h =
    let st : State = state_of s ds in
    let later : State = state_of n (declared (declaring_of s.scope.declaring) t ds) in
    let there : limits.is_unknown st (declaring_of s.scope.declaring) t ≡ false = sym (u st h) ∙ e in
    ap (λ (z : Bool). if z then Some unknown_prefix else first_limit (passed all_limits st (state_after st t ahead) t)) there
    ∙ ap (λ (z : State). first_limit (passed all_limits st z t)) (sym (q ds)) ∙ first_passed st later t
    ∙ ap (λ (z : Bool). fault_of_limit (limit_of (counts_of s) (counts_of n) z (has_long_count (role_of s.role) t))) (sym d)
    ∙ ap (λ (z : Bool). fault_of_limit (limit_of (counts_of s) (counts_of n) deep z)) (sym l)
    ∙ ap fault_of_limit (sym k)

pub limit_step : (s n : Kept) (t : TokenKind) (ahead : Option TokenKind) (b deep long : Bool) (r : Option QueryLimit) (q : QueryLimit) → IsUnknown s.scope t b → b ≡ false → IsNext s t ahead n
    → deep ≡ nat_lt 48 (depth_of (role_of s.role) t) → long ≡ has_long_count (role_of s.role) t → r ≡ limit_of (counts_of s) (counts_of n) deep long → r ≡ Some q → IsStep s t ahead (step.Broke (f.Limit q))
limit_step s n t ahead b deep long r q u e x d l k i = breaks (f.Limit q) (λ ds h. by_limits s n t ahead b deep long r u e x d l k ds h ∙ ap fault_of_limit i)

pub free_step : (s n : Kept) (t : TokenKind) (ahead : Option TokenKind) (b deep long : Bool) (r : Option QueryLimit) → IsUnknown s.scope t b → b ≡ false → IsNext s t ahead n
    → deep ≡ nat_lt 48 (depth_of (role_of s.role) t) → long ≡ has_long_count (role_of s.role) t → r ≡ limit_of (counts_of s) (counts_of n) deep long → r ≡ None → IsStep s t ahead (step.On n)
free_step s n t ahead b deep long r u e x d l k i = goes n (λ ds h. by_limits s n t ahead b deep long r u e x d l k ds h ∙ ap fault_of_limit i) x

pub ruleset step_paths = (unknown_step, limit_step, free_step)

-- ---- the loop

abbrev pub later : ℕ → Option limits.FaultAt → Option limits.FaultAt
later zero x = x
later (suc n) x = later n (one_later x)

later_some : (n m : ℕ) (x : limits.Fault) → later n (Some (record { before = m; fault = x })) ≡ Some (record { before = n + m; fault = x })
later_some zero m x = ap (λ (z : ℕ). Some (record { before = z; fault = x })) (omega arith)
later_some (suc n) m x = later_some n (1 + m) x ∙ ap (λ (z : ℕ). Some (record { before = z; fault = x })) (omega arith)

later_none : (n : ℕ) → later n None ≡ None
later_none zero = refl
later_none (suc n) = later_none n

-- no count is greater than the count of tokens
abbrev pub IsBelow : Kept → ℕ → Type 0
IsBelow s n = (s.patterns ≤ n) × (s.groups ≤ n) × (s.blocks ≤ n) × (s.keys ≤ n)

-- the faults of the tokens that are left come behind so many tokens without one
pub data Along (ts : List Token) (n : ℕ) (s : Kept) (rest : List Token) : Type 0 where
  along : (ds : List Declared) → StandFor s.scope.prefixes ds → first_fault ts ≡ later n (fault_from all_limits (state_of s ds) rest) → n + length rest ≡ length ts → IsBelow s n → Along ts n s rest

none_yet : (s : Kept) → state_of s [] ≡ limits.nothing_yet → IsBelow s 0
none_yet s e =
    let p : s.patterns ≡ 0 = ap (λ (z : State). z.patterns) e in
    let g : s.groups ≡ 0 = ap (λ (z : State). z.groups) e in
    let b : s.blocks ≡ 0 = ap (λ (z : State). z.blocks) e in
    let k : s.keys ≡ 0 = ap (λ (z : State). z.keys) e in
    (omega (arith, p), omega (arith, g), omega (arith, b), omega (arith, k))

pub started : (ts : List Token) (s : Kept) → IsFirst s → Along ts 0 s ts
started ts s (is_first c e) = along [] c (ap (λ (z : State). fault_from all_limits z ts) (sym e)) (omega arith) (none_yet s e)

pub room : (ts rest after : List Token) (t : Token) (n : ℕ) (s : Kept) → Along ts n s rest → rest ≡ t ∷ after → length ts < 2 ^ 64 → HasRoom s
room ts rest after t n s (along ds c e l b) r h =
    let k : length rest ≡ suc (length after) = ap length r in
    (omega (arith, k, l, h, b.0), omega (arith, k, l, h, b.1), omega (arith, k, l, h, b.2), omega (arith, k, l, h, b.3))

pub broken : (ts rest after : List Token) (t : Token) (n : ℕ) (s : Kept) (ahead : Option TokenKind) (x : Fault) → Along ts n s rest → rest ≡ t ∷ after → ahead ≡ next_kind after → IsStep s t.kind ahead (step.Broke x)
    → Some (record { before = n; fault = fault_of x }) ≡ first_fault ts
broken ts rest after t n s ahead x (along ds c e l b) r i (breaks y h) =
    let st : State = state_of s ds in
    let k : fault_at all_limits st t.kind (next_kind after) ≡ Some (fault_of x) = ap (fault_at all_limits st t.kind) (sym i) ∙ h ds c in
    sym (e ∙ ap (λ (z : List Token). later n (fault_from all_limits st z)) r
    ∙ ap (λ (z : Option limits.Fault). later n (fault_or z (fault_from all_limits (state_after st t.kind (next_kind after)) after))) k
    ∙ later_some n 0 (fault_of x) ∙ ap (λ (z : ℕ). Some (record { before = z; fault = fault_of x })) (omega arith))

pub went_on : (ts rest after : List Token) (t : Token) (n : ℕ) (s m : Kept) (ahead : Option TokenKind) → Along ts n s rest → rest ≡ t ∷ after → ahead ≡ next_kind after → IsStep s t.kind ahead (step.On m) → Along ts (n + 1) m after
went_on ts rest after t n s m ahead (along ds c e l b) r i (goes m' h (is_next d q near)) =
    let st : State = state_of s ds in
    let es : List Declared = declared (declaring_of s.scope.declaring) t.kind ds in
    let k : fault_at all_limits st t.kind (next_kind after) ≡ None = ap (fault_at all_limits st t.kind) (sym i) ∙ h ds c in
    let w : state_after st t.kind (next_kind after) ≡ state_of m es = ap (state_after st t.kind) (sym i) ∙ sym (q ds) in
    let len : length rest ≡ suc (length after) = ap length r in
    let one : n + 1 ≡ suc n = omega arith in
    along es (d ds c)
    (e ∙ ap (λ (z : List Token). later n (fault_from all_limits st z)) r
    ∙ ap (λ (z : Option limits.Fault). later n (fault_or z (fault_from all_limits (state_after st t.kind (next_kind after)) after))) k
    ∙ ap (λ (z : State). later n (one_later (fault_from all_limits z after))) w
    ∙ ap (λ (z : ℕ). later z (fault_from all_limits (state_of m es) after)) (sym one))
    (omega (arith, len, l))
    (omega (arith, b.0, near.0), omega (arith, b.1, near.1), omega (arith, b.2, near.2), omega (arith, b.3, near.3))

pub ended : (ts rest : List Token) (n : ℕ) (s : Kept) → Along ts n s rest → length rest ≡ 0 → None ≡ first_fault ts
ended ts [] n s (along ds c e l b) r = sym (e ∙ later_none n)
ended ts (t ∷ rest) n s a r = absurd (omega arith)

pub ruleset fault_paths = (started, room, broken, went_on, ended)
