-- A query of the fragment, and why and where a text is none.
use Rattle.std.specs.Prelude.{Bool, true, false, ◌≡◌, ◌≤◌, ◌<◌, ◌==◌, ℕ, zero, suc, ◌+◌, if◌then◌else◌, List, [], ◌∷◌, ◌++◌, length, Option, Some, None, Ok, Err}
use Rattle.std.specs.List.{list_any}
use Rattle.grammar_meaning.specs.Grammar.{call, Made, Reads, Front}
use Rattle.grammar_meaning.specs.Parts.{BreaksFirst}
use Rattle.query_meaning.specs.declared.pattern.Slot.{Slot}
use Rattle.query_meaning.specs.declared.pattern.Slot.TheVariants as slot
use Rattle.query_meaning.specs.declared.pattern.Pattern.{Pattern}
use Rattle.query_meaning.specs.declared.query.Element.{Element}
use Rattle.query_meaning.specs.declared.query.Element.TheVariants as e
use Rattle.query_meaning.specs.declared.query.Element.TheOpen as layer
use Rattle.query_meaning.specs.declared.query.Element.TheOpen.{Element-F}
use Rattle.query_meaning.specs.declared.query.Group.{Group, Group-F, fold-Group}
use Rattle.query_meaning.specs.declared.query.Syntax.{Syntax}
use Rattle.query_meaning.specs.declared.query.Query.{Query}
use Rattle.sparql_meaning.specs.declared.token.Token.{Token}
use Rattle.sparql_meaning.specs.declared.token.TokenKind.{TokenKind}
use Rattle.sparql_meaning.specs.declared.word.Feature.{Feature}
use Rattle.sparql_meaning.specs.Cut.{cut}
use Rattle.sparql_meaning.specs.Translation.{translated}
use Rattle.sparql_grammar_meaning.specs.declared.lexeme.Lexeme.{Lexeme}
use Rattle.sparql_grammar_meaning.specs.Grammar.{Query_, grammar, a_query, Written, group_of}
use Rattle.sparql_query_meaning.specs.declared.refusal.QueryLimit.{QueryLimit}
use Rattle.sparql_query_meaning.specs.declared.refusal.QueryLimit.TheVariants as limits
use Rattle.sparql_query_meaning.specs.declared.refusal.QueryRefusal.{QueryRefusal}
use Rattle.sparql_query_meaning.specs.declared.refusal.QueryRefusal.TheVariants.{NotInFragment, UnknownPrefix, Limit}
use Rattle.sparql_query_meaning.specs.declared.refusal.QueryRefusal.TheVariants as refusal
use Rattle.sparql_query_meaning.specs.Lexemes.{lexemes, names}
use Rattle.sparql_query_meaning.specs.Limits.{all_limits, Fault, unknown_prefix, limit, FaultAt, nothing_yet, fault_from, first_fault}
use Rattle.sparql_query_meaning.specs.Features.{feature}

abbrev pub most_bytes : ℕ
most_bytes = 65536

-- ---- from what the grammar made to a query as it is written

-- patterns get their numbers from 1 in order of the text: what is numbered, and the next number
pub record Numbered (X : Type 0) : Type 0 where
  pub made : X
  pub after : ℕ

abbrev pub numbered : {X : Type 0} → X → ℕ → Numbered X
numbered x n = record { made = x; after = n }

abbrev pub with_number : ℕ → Pattern → Pattern
with_number n p = record { number = n; s = p.s; p = p.p; o = p.o }

abbrev pub number_patterns : ℕ → List Pattern → List Pattern
number_patterns n [] = []
number_patterns n (p ∷ ps) = with_number n p ∷ number_patterns (suc n) ps

abbrev pub Numbering : Type 0 → Type 0
Numbering X = ℕ → Numbered X

abbrev pub made_by : {X Y : Type 0} → (X → Y) → Numbered X → Numbered Y
made_by f x = numbered (f x.made) x.after

abbrev pub first_of : {X : Type 0} → X → Numbered (List X) → Numbered (List X)
first_of x xs = numbered (x ∷ xs.made) xs.after

abbrev pub number_all : {X : Type 0} → List (Numbering X) → Numbering (List X)
number_all [] n = numbered [] n
number_all (f ∷ fs) n = first_of (f n).made (number_all fs (f n).after)

abbrev pub number_element : Element-F (Numbering Element) (Numbering Group) → Numbering Element
number_element (layer.Triples ps) n = numbered (e.Triples (number_patterns n ps)) (n + length ps)
number_element (layer.Optional g) n = made_by e.Optional (g n)
number_element (layer.Unions gs) n = made_by e.Unions (number_all gs n)
number_element (layer.Condition c) n = numbered (e.Condition c) n

abbrev pub number_group : Group-F (Numbering Element) (Numbering Group) → Numbering Group
number_group g n = made_by group_of (number_all g.elements n)

abbrev pub numbered_group : Group → Group
numbered_group g = (fold-Group (Numbering Element) (Numbering Group) number_element number_group g 1).made

-- each variable at its first place
abbrev pub once : List ℕ → List ℕ → List ℕ
once seen [] = seen
once seen (v ∷ vs) = once (if list_any (λ x. x == v) seen then seen else seen ++ v ∷ []) vs

abbrev pub slot_variables : Slot → List ℕ
slot_variables (slot.Var v) = v ∷ []
slot_variables (slot.Const t) = []

abbrev pub pattern_variables : Pattern → List ℕ
pattern_variables p = slot_variables p.s ++ (slot_variables p.p ++ slot_variables p.o)

abbrev pub patterns_variables : List Pattern → List ℕ
patterns_variables [] = []
patterns_variables (p ∷ ps) = pattern_variables p ++ patterns_variables ps

abbrev pub joined_lists : List (List ℕ) → List ℕ
joined_lists [] = []
joined_lists (xs ∷ xss) = xs ++ joined_lists xss

-- the variables of triple patterns, in order of the text
abbrev pub element_variables : Element-F (List ℕ) (List ℕ) → List ℕ
element_variables (layer.Triples ps) = patterns_variables ps
element_variables (layer.Optional g) = g
element_variables (layer.Unions gs) = joined_lists gs
element_variables (layer.Condition c) = []

abbrev pub group_variables : Group-F (List ℕ) (List ℕ) → List ℕ
group_variables g = joined_lists g.elements

abbrev pub variables_of : Group → List ℕ
variables_of g = fold-Group (List ℕ) (List ℕ) element_variables group_variables g

-- `*` shows the variables of triple patterns
abbrev pub shown_of : Option (List ℕ) → Group → List ℕ
shown_of None g = once [] (variables_of g)
shown_of (Some vs) g = once [] vs

abbrev pub syntax_of : List (List ℕ) → Written → Syntax
syntax_of ns w = record {
  names = ns;
  group = numbered_group (group_of w.elements);
  modifiers = record { shown = shown_of w.shown (group_of w.elements); distinct = w.distinct; keys = w.keys; skip = w.cut.skip; most = w.cut.most };
}

-- ---- queries

-- the text isn't too long, where its length counts
abbrev pub HasLength : Bool → List ℕ → Type 0
HasLength true bytes = length bytes ≤ most_bytes
HasLength false bytes = Unit {0}

-- the text is cut into tokens that the grammar reads, each prefix is declared before its use, and no limit that counts is passed
pub data IsQueryWithin (counts : QueryLimit → Bool) (bytes : List ℕ) (q : Query) : Type 0 where
  is_query : (ts : List Token) (w : Written) → HasLength (counts limits.Query) bytes → cut bytes ≡ Ok ts → fault_from counts nothing_yet ts ≡ None
      → Reads grammar (call Query_) (lexemes ts) (Made (a_query w)) [] → q ≡ translated (syntax_of (names ts) w) → IsQueryWithin counts bytes q

-- the text is this query: all limits count
abbrev pub IsQuery : List ℕ → Query → Type 0
IsQuery bytes q = IsQueryWithin all_limits bytes q

-- the text is this query, and no other
pub record IsTheQuery (bytes : List ℕ) (q : Query) : Type 0 where
  pub is : IsQuery bytes q
  pub only : (p : Query) → IsQuery bytes p → p ≡ q

-- ---- refusals

-- where the token stands behind so many others, or the end of the text
abbrev pub place_behind : List ℕ → List Token → ℕ → ℕ
place_behind bytes [] n = length bytes
place_behind bytes (t ∷ ts) zero = t.from
place_behind bytes (t ∷ ts) (suc n) = place_behind bytes ts n

abbrev pub kind_behind : List Token → ℕ → Option TokenKind
kind_behind [] n = None
kind_behind (t ∷ ts) zero = Some t.kind
kind_behind (t ∷ ts) (suc n) = kind_behind ts n

abbrev pub kind_before : List Token → ℕ → Option TokenKind
kind_before ts zero = None
kind_before ts (suc n) = kind_behind ts n

abbrev pub named_or_syntax : Option Feature → ℕ → QueryRefusal
named_or_syntax None at = refusal.Syntax at
named_or_syntax (Some f) at = NotInFragment f at

-- the end of the text has no feature
abbrev pub feature_behind : List Token → ℕ → Option TokenKind → Option Feature
feature_behind ts n None = None
feature_behind ts n (Some k) = feature (kind_before ts n) k

abbrev pub broken_at : List ℕ → List Token → ℕ → QueryRefusal
broken_at bytes ts n = named_or_syntax (feature_behind ts n (kind_behind ts n)) (place_behind bytes ts n)

abbrev pub faulty_at : List ℕ → List Token → FaultAt → Fault → QueryRefusal
faulty_at bytes ts f unknown_prefix = UnknownPrefix (place_behind bytes ts f.before)
faulty_at bytes ts f (limit q) = Limit q

-- no fault comes before so many tokens
abbrev pub NoFaultBefore : Option FaultAt → ℕ → Type 0
NoFaultBefore None n = Unit {0}
NoFaultBefore (Some f) n = n ≤ f.before

-- the refusal of a text that is no query
pub data QueryRefused (bytes : List ℕ) : QueryRefusal → Type 0 where
  too_long : most_bytes < length bytes → QueryRefused bytes (Limit limits.Query)
  bad_place : (at : ℕ) → length bytes ≤ most_bytes → cut bytes ≡ Err at → QueryRefused bytes (refusal.Syntax at)
  -- the tokens up to this one begin no query: the grammar goes before a prefix and a limit at the same token
  broken : (ts : List Token) (n : ℕ) (us : List Lexeme) → length bytes ≤ most_bytes → cut bytes ≡ Ok ts → BreaksFirst grammar (call Query_) (lexemes ts) us → n + length us ≡ length ts
      → NoFaultBefore (first_fault ts) n → QueryRefused bytes (broken_at bytes ts n)
  -- the tokens up to this one begin a query
  faulty : (ts : List Token) (f : FaultAt) (us : List Lexeme) → length bytes ≤ most_bytes → cut bytes ≡ Ok ts → first_fault ts ≡ Some f
      → Front grammar (call Query_) (lexemes ts) us → 1 + f.before + length us ≡ length ts → QueryRefused bytes (faulty_at bytes ts f f.fault)
