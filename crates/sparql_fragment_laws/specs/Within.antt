-- A text without a fault stays within the limits that count.
use Rattle.std.specs.Prelude.{◌≡◌, ℕ, ◌≤◌, ◌⊎◌, Bool, true, false, ◌&&◌, nat_lt, if◌then◌else◌, List, [], ◌∷◌, ◌++◌, length, Option, Some, None, is_some, refl}
use Rattle.std.proofs.Common.{sym, ap, ◌∙◌, subst, arith, inl, inr}
use Rattle.std.proofs.lemmas.Bool.{true≢false, false≢true, and_cases, ltb-false}
use Rattle.rdf_meaning.specs.Terms.{is_empty}
use Rattle.query_meaning.specs.declared.query.Query.{Query}
use Rattle.sparql_meaning.specs.declared.token.Token.{Token}
use Rattle.sparql_meaning.specs.declared.token.TokenKind.{TokenKind}
use Rattle.sparql_query_meaning.specs.declared.refusal.QueryLimit.{QueryLimit}
use Rattle.sparql_query_meaning.specs.declared.refusal.QueryLimit.TheVariants as limits
use Rattle.sparql_query_meaning.specs.Lexemes.{names_from}
use Rattle.sparql_query_meaning.specs.Limits.{all_limits, all_but_length_and_blocks, State, nothing_yet, state_after, next_kind, Fault, FaultAt, fault_at, fault_or, fault_from, one_later, first_limit, passed, is_unknown}
use Rattle.sparql_query_meaning.specs.Queries.{IsQueryWithin, is_query}

-- no number that counts is passed
pub record Within (counts : QueryLimit → Bool) (st : State) : Type 0 where
  pub patterns : counts limits.Patterns ≡ true → st.patterns ≤ 48
  pub keys : counts limits.Keys ≡ true → st.keys ≤ 64
  pub names : counts limits.Variables ≡ true → length st.names ≤ 64
  pub groups : counts limits.Groups ≡ true → st.groups ≤ 24
  pub blocks : counts limits.Blocks ≡ true → st.blocks ≤ 512

-- what the bounds of a query rest on: all limits count, but perhaps those on its bytes and its groups in all
pub record CountsMost (counts : QueryLimit → Bool) : Type 0 where
  pub patterns : counts limits.Patterns ≡ true
  pub keys : counts limits.Keys ≡ true
  pub names : counts limits.Variables ≡ true
  pub depth : counts limits.Depth ≡ true

pub all_count : CountsMost all_limits
all_count = record { patterns = refl; keys = refl; names = refl; depth = refl }

pub most_count : CountsMost all_but_length_and_blocks
most_count = record { patterns = refl; keys = refl; names = refl; depth = refl }

-- behind all tokens
abbrev pub state_behind : State → List Token → State
state_behind st [] = st
state_behind st (t ∷ ts) = state_behind (state_after st t.kind (next_kind ts)) ts

-- ---- where there is no fault there is none at the first token, and none later

none_later : (f : Option FaultAt) → one_later f ≡ None → f ≡ None
none_later None e = refl
none_later (Some f) e = absurd (true≢false (ap is_some e))

pub quiet_now : (f : Option Fault) (later : Option FaultAt) → fault_or f later ≡ None → f ≡ None
quiet_now None later e = refl
quiet_now (Some f) later e = absurd (true≢false (ap is_some e))

pub quiet_later : (f : Option Fault) (later : Option FaultAt) → fault_or f later ≡ None → later ≡ None
quiet_later None later e = none_later later e
quiet_later (Some f) later e = absurd (true≢false (ap is_some e))

otherwise : (b : Bool) (f : Fault) (o : Option Fault) → (if b then Some f else o) ≡ None → o ≡ None
otherwise true f o e = absurd (true≢false (ap is_some e))
otherwise false f o e = e

no_limit : (qs : List QueryLimit) → first_limit qs ≡ None → qs ≡ []
no_limit [] e = refl
no_limit (q ∷ qs) e = absurd (true≢false (ap is_some e))

-- ---- a number that isn't passed just now stays within

pub not_passed : (b : Bool) (q : QueryLimit) (qs : List QueryLimit) → (if b then q ∷ [] else []) ++ qs ≡ [] → (b ≡ false) × (qs ≡ [])
not_passed true q qs e = absurd (false≢true (ap is_empty e))
not_passed false q qs e = (refl, e)

pub counted_now : (counted passes : Bool) → (counted && passes) ≡ false → counted ≡ true → passes ≡ false
counted_now counted passes e k = ap (λ (z : Bool). z && passes) (sym k) ∙ e

still : (counted : Bool) (most before after : ℕ) → (counted && (nat_lt most after && nat_lt before after)) ≡ false → (counted ≡ true → before ≤ most) → counted ≡ true → after ≤ most
still counted most before after e w k = go (and_cases (nat_lt most after) (nat_lt before after) (counted_now counted (nat_lt most after && nat_lt before after) e k))
  where
    go : (nat_lt most after ≡ false) ⊎ (nat_lt before after ≡ false) → after ≤ most
    go (inl l) = ltb-false most after l
    go (inr r) = let b : after ≤ before = ltb-false before after r in let a = w k in omega (arith, a, b)

pub nothing_passed : (counts : QueryLimit → Bool) (st : State) (t : TokenKind) (ahead : Option TokenKind) → fault_at counts st t ahead ≡ None → passed counts st (state_after st t ahead) t ≡ []
nothing_passed counts st t ahead e = no_limit _ (otherwise (is_unknown st st.declaring t) _ _ e)

pub within_parts : (counts : QueryLimit → Bool) (before after : State) (t : TokenKind) → Within counts before → passed counts before after t ≡ [] → Within counts after
within_parts counts before after t w none =
    let patterns = not_passed (counts limits.Patterns && (nat_lt 48 after.patterns && nat_lt before.patterns after.patterns)) limits.Patterns _ none in
    let keys = not_passed (counts limits.Keys && (nat_lt 64 after.keys && nat_lt before.keys after.keys)) limits.Keys _ patterns.1 in
    let names = not_passed (counts limits.Variables && (nat_lt 64 (length after.names) && nat_lt (length before.names) (length after.names))) limits.Variables _ keys.1 in
    let groups = not_passed (counts limits.Groups && (nat_lt 24 after.groups && nat_lt before.groups after.groups)) limits.Groups _ names.1 in
    let blocks = not_passed (counts limits.Blocks && (nat_lt 512 after.blocks && nat_lt before.blocks after.blocks)) limits.Blocks _ groups.1 in
    record {
      patterns = still (counts limits.Patterns) 48 before.patterns after.patterns patterns.0 w.patterns;
      keys = still (counts limits.Keys) 64 before.keys after.keys keys.0 w.keys;
      names = still (counts limits.Variables) 64 (length before.names) (length after.names) names.0 w.names;
      groups = still (counts limits.Groups) 24 before.groups after.groups groups.0 w.groups;
      blocks = still (counts limits.Blocks) 512 before.blocks after.blocks blocks.0 w.blocks;
    }

-- ---- the whole text

pub within_behind : (counts : QueryLimit → Bool) (st : State) (ts : List Token) → Within counts st → fault_from counts st ts ≡ None → Within counts (state_behind st ts)
within_behind counts st [] w e = w
within_behind counts st (t ∷ ts) w e =
    within_behind counts (state_after st t.kind (next_kind ts)) ts
    (within_parts counts st (state_after st t.kind (next_kind ts)) t.kind w (nothing_passed counts st t.kind (next_kind ts) (quiet_now _ _ e)))
    (quiet_later _ _ e)

pub names_behind : (st : State) (ts : List Token) → (state_behind st ts).names ≡ names_from st.names ts
names_behind st [] = refl
names_behind st (t ∷ ts) = names_behind (state_after st t.kind (next_kind ts)) ts

pub at_first : (counts : QueryLimit → Bool) → Within counts nothing_yet
at_first counts = record { patterns = λ k. omega arith; keys = λ k. omega arith; names = λ k. omega arith; groups = λ k. omega arith; blocks = λ k. omega arith }

pub within_text : (counts : QueryLimit → Bool) (ts : List Token) → fault_from counts nothing_yet ts ≡ None → Within counts (state_behind nothing_yet ts)
within_text counts ts quiet = within_behind counts nothing_yet ts (at_first counts) quiet

pub few_names : (counts : QueryLimit → Bool) → CountsMost counts → (bytes : List ℕ) (q : Query) → IsQueryWithin counts bytes q → length q.names ≤ 64
few_names counts most bytes q (is_query ts w long cut quiet reads e) =
    subst (λ (x : Query). length x.names ≤ 64) (sym e)
    (subst (λ (ns : List (List ℕ)). length ns ≤ 64) (names_behind nothing_yet ts) ((within_text counts ts quiet).names most.names))
