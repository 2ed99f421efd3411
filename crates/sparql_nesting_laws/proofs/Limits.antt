-- The limits on depth and on open groups refuse what nests deeper, and nothing else.
use Rattle.std.specs.Prelude.{◌≡◌, ◌≤◌, ℕ, Bool, true, ◌&&◌, nat_lt, if◌then◌else◌, List, [], ◌∷◌, ◌++◌, length, Option, Some, None, Ok, refl}
use Rattle.std.proofs.Common.{sym, ap, ◌∙◌, subst, arith}
use Rattle.std.proofs.lemmas.Bool.{le-ltb}
use Rattle.std.proofs.Math.Bool.{and-false}
use Rattle.query_meaning.specs.declared.query.Query.{Query}
use Rattle.sparql_meaning.specs.declared.token.Token.{Token}
use Rattle.sparql_meaning.specs.declared.token.TokenKind.{TokenKind}
use Rattle.sparql_meaning.specs.Cut.{cut}
use Rattle.sparql_query_meaning.specs.declared.refusal.QueryLimit.{QueryLimit}
use Rattle.sparql_query_meaning.specs.declared.refusal.QueryLimit.TheVariants as limits
use Rattle.sparql_query_meaning.specs.Limits.{State, nothing_yet, state_after, next_kind, depth_of, has_long_count, passed, unknown_prefix, FaultAt, is_unknown, first_limit, fault_at, fault_or, fault_from}
use Rattle.sparql_query_meaning.specs.Queries.{IsQueryWithin, is_query}
use Rattle.sparql_fragment_laws.specs.Within.{Within, within_parts, nothing_passed, quiet_now, quiet_later, at_first}
use Rattle.sparql_query_laws.specs.Limits.{same_tokens}
use Rattle.sparql_query_laws.specs.Places.{depth_passed}
use Rattle.sparql_nesting_laws.specs.Nesting.{expression_depth, group_depth, depth_reached, groups_reached, without_depth, without_groups, NestsWithin, LimitsAre}
use Rattle.sparql_nesting_laws.proofs.Spots.{Spot, least}
use Rattle.sparql_nesting_laws.proofs.Groups.{groups_only}
use Rattle.sparql_nesting_laws.proofs.Expressions.{depth_only}
use Rattle.sparql_nesting_laws.proofs.Depths.{query_depths}

-- ---- a limit that isn't passed may be left out

module _ (counts : QueryLimit → Bool) (before after : State) (t : TokenKind) where
  same_but_depth : depth_of before.role t ≤ 48 → passed counts before after t ≡ passed (without_depth counts) before after t
  same_but_depth few = ap (λ (deep : Bool).
      (if counts limits.Patterns && (nat_lt 48 after.patterns && nat_lt before.patterns after.patterns) then limits.Patterns ∷ [] else [])
      ++ ((if counts limits.Keys && (nat_lt 64 after.keys && nat_lt before.keys after.keys) then limits.Keys ∷ [] else [])
      ++ ((if counts limits.Variables && (nat_lt 64 (length after.names) && nat_lt (length before.names) (length after.names)) then limits.Variables ∷ [] else [])
      ++ ((if counts limits.Groups && (nat_lt 24 after.groups && nat_lt before.groups after.groups) then limits.Groups ∷ [] else [])
      ++ ((if counts limits.Blocks && (nat_lt 512 after.blocks && nat_lt before.blocks after.blocks) then limits.Blocks ∷ [] else [])
      ++ ((if deep then limits.Depth ∷ [] else [])
      ++ (if counts limits.Digits && has_long_count before.role t then limits.Digits ∷ [] else [])))))))
      (ap (λ (b : Bool). counts limits.Depth && b) (le-ltb 48 (depth_of before.role t) few) ∙ and-false (counts limits.Depth))

  same_but_groups : after.groups ≤ 24 → passed counts before after t ≡ passed (without_groups counts) before after t
  same_but_groups few = ap (λ (wide : Bool).
      (if counts limits.Patterns && (nat_lt 48 after.patterns && nat_lt before.patterns after.patterns) then limits.Patterns ∷ [] else [])
      ++ ((if counts limits.Keys && (nat_lt 64 after.keys && nat_lt before.keys after.keys) then limits.Keys ∷ [] else [])
      ++ ((if counts limits.Variables && (nat_lt 64 (length after.names) && nat_lt (length before.names) (length after.names)) then limits.Variables ∷ [] else [])
      ++ ((if wide then limits.Groups ∷ [] else [])
      ++ ((if counts limits.Blocks && (nat_lt 512 after.blocks && nat_lt before.blocks after.blocks) then limits.Blocks ∷ [] else [])
      ++ ((if counts limits.Depth && nat_lt 48 (depth_of before.role t) then limits.Depth ∷ [] else [])
      ++ (if counts limits.Digits && has_long_count before.role t then limits.Digits ∷ [] else [])))))))
      (ap (λ (b : Bool). counts limits.Groups && (b && nat_lt before.groups after.groups)) (le-ltb 24 after.groups few) ∙ and-false (counts limits.Groups))

-- the same limits passed at the first token, and the same fault later
same_fault : (counts others : QueryLimit → Bool) (st : State) (t : Token) (ts : List Token)
    → passed counts st (state_after st t.kind (next_kind ts)) t.kind ≡ passed others st (state_after st t.kind (next_kind ts)) t.kind
    → fault_from counts (state_after st t.kind (next_kind ts)) ts ≡ fault_from others (state_after st t.kind (next_kind ts)) ts → fault_from counts st (t ∷ ts) ≡ fault_from others st (t ∷ ts)
same_fault counts others st t ts e h =
    ap (λ (qs : List QueryLimit). fault_or (if is_unknown st st.declaring t.kind then Some unknown_prefix else first_limit qs) (fault_from counts (state_after st t.kind (next_kind ts)) ts)) e
    ∙ ap (λ (later : Option FaultAt). fault_or (fault_at others st t.kind (next_kind ts)) later) h

same_depth : (counts : QueryLimit → Bool) (st : State) (ts : List Token) → depth_reached st ts ≤ 48 → fault_from counts st ts ≡ fault_from (without_depth counts) st ts
same_depth counts st [] few = refl
same_depth counts st (t ∷ ts) few =
    same_fault counts (without_depth counts) st t ts (same_but_depth counts st (state_after st t.kind (next_kind ts)) t.kind (omega (arith, few)))
    (same_depth counts (state_after st t.kind (next_kind ts)) ts (omega (arith, few)))

same_groups : (counts : QueryLimit → Bool) (st : State) (ts : List Token) → groups_reached st ts ≤ 24 → fault_from counts st ts ≡ fault_from (without_groups counts) st ts
same_groups counts st [] few = refl
same_groups counts st (t ∷ ts) few =
    let after : Spot = record { state = state_after st t.kind (next_kind ts); tokens = ts } in
    let now = least after in
    same_fault counts (without_groups counts) st t ts (same_but_groups counts st (state_after st t.kind (next_kind ts)) t.kind (omega (arith, few, now)))
    (same_groups counts (state_after st t.kind (next_kind ts)) ts (omega (arith, few)))

-- ---- a limit that counts is kept

few_deep : (counts : QueryLimit → Bool) → counts limits.Depth ≡ true → (st : State) (ts : List Token) → fault_from counts st ts ≡ None → depth_reached st ts ≤ 48
few_deep counts deep st [] quiet = omega arith
few_deep counts deep st (t ∷ ts) quiet =
    let now = depth_passed counts deep st (state_after st t.kind (next_kind ts)) t.kind (nothing_passed counts st t.kind (next_kind ts) (quiet_now _ _ quiet)) in
    let later = few_deep counts deep (state_after st t.kind (next_kind ts)) ts (quiet_later _ _ quiet) in
    omega (arith, now, later)

few_open : (counts : QueryLimit → Bool) → counts limits.Groups ≡ true → (st : State) (ts : List Token) → Within counts st → fault_from counts st ts ≡ None → groups_reached st ts ≤ 24
few_open counts wide st [] w quiet = w.groups wide
few_open counts wide st (t ∷ ts) w quiet =
    let now = w.groups wide in
    let after = within_parts counts st (state_after st t.kind (next_kind ts)) t.kind w (nothing_passed counts st t.kind (next_kind ts) (quiet_now _ _ quiet)) in
    let later = few_open counts wide (state_after st t.kind (next_kind ts)) ts after (quiet_later _ _ quiet) in
    omega (arith, now, later)

-- ---- queries

module _ (counts : QueryLimit → Bool) (bytes : List ℕ) (ts : List Token) (c : cut bytes ≡ Ok ts) where
  quiet_of : (others : QueryLimit → Bool) (us : List Token) → cut bytes ≡ Ok us → fault_from others nothing_yet us ≡ None → fault_from others nothing_yet ts ≡ None
  quiet_of others us h quiet = subst (λ (z : List Token). fault_from others nothing_yet z ≡ None) (same_tokens h c) quiet

  quiet_back : (others : QueryLimit → Bool) (us : List Token) → cut bytes ≡ Ok us → fault_from others nothing_yet ts ≡ None → fault_from others nothing_yet us ≡ None
  quiet_back others us h quiet = subst (λ (z : List Token). fault_from others nothing_yet z ≡ None) (same_tokens c h) quiet

  keeps_depth : counts limits.Depth ≡ true → (q : Query) → IsQueryWithin counts bytes q → IsQueryWithin (without_depth counts) bytes q × NestsWithin expression_depth ts 48
  keeps_depth deep q (is_query us w long h quiet reads e) =
      let none = quiet_of counts us h quiet in
      let few = few_deep counts deep nothing_yet ts none in
      let exact = (query_depths counts bytes ts q (is_query us w long h quiet reads e) c).expressions in
      (is_query us w long h (quiet_back (without_depth counts) us h (sym (same_depth counts nothing_yet ts few) ∙ none)) reads e, record { reached = depth_reached nothing_yet ts; reads = exact.is; few = few })

  only_depth : (q : Query) → IsQueryWithin (without_depth counts) bytes q → NestsWithin expression_depth ts 48 → IsQueryWithin counts bytes q
  only_depth q (is_query us w long h quiet reads e) n =
      let same = depth_only ts n.reached n.reads in
      let most = n.few in
      let few : depth_reached nothing_yet ts ≤ 48 = omega (arith, same, most) in
      is_query us w long h (quiet_back counts us h (same_depth counts nothing_yet ts few ∙ quiet_of (without_depth counts) us h quiet)) reads e

  keeps_groups : counts limits.Groups ≡ true → (q : Query) → IsQueryWithin counts bytes q → IsQueryWithin (without_groups counts) bytes q × NestsWithin group_depth ts 24
  keeps_groups wide q (is_query us w long h quiet reads e) =
      let none = quiet_of counts us h quiet in
      let few = few_open counts wide nothing_yet ts (at_first counts) none in
      let exact = (query_depths counts bytes ts q (is_query us w long h quiet reads e) c).groups in
      (is_query us w long h (quiet_back (without_groups counts) us h (sym (same_groups counts nothing_yet ts few) ∙ none)) reads e, record { reached = groups_reached nothing_yet ts; reads = exact.is; few = few })

  only_groups : (q : Query) → IsQueryWithin (without_groups counts) bytes q → NestsWithin group_depth ts 24 → IsQueryWithin counts bytes q
  only_groups q (is_query us w long h quiet reads e) n =
      let same = groups_only ts n.reached n.reads in
      let most = n.few in
      let few : groups_reached nothing_yet ts ≤ 24 = omega (arith, same, most) in
      is_query us w long h (quiet_back counts us h (same_groups counts nothing_yet ts few ∙ quiet_of (without_groups counts) us h quiet)) reads e

pub query_limits : (counts : QueryLimit → Bool) (bytes : List ℕ) (ts : List Token) → cut bytes ≡ Ok ts → LimitsAre counts bytes ts
query_limits counts bytes ts c = record {
  depth = λ deep. record { keeps = keeps_depth counts bytes ts c deep; only = only_depth counts bytes ts c };
  groups = λ wide. record { keeps = keeps_groups counts bytes ts c wide; only = only_groups counts bytes ts c };
}
