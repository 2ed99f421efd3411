-- The limits of a query, and names whose prefix isn't declared, by their places. A token is judged as it stands in a text whose tokens
-- up to it begin a query of the grammar.
use Rattle.std.specs.Prelude.{ℕ, zero, suc, ◌+◌, ◌-◌, Bool, true, false, not, ◌&&◌, nat_lt, if◌then◌else◌, List, [], ◌∷◌, ◌++◌, length, Option, Some, None}
use Rattle.sparql_meaning.specs.declared.token.Token.{Token}
use Rattle.sparql_meaning.specs.declared.token.TokenKind.{TokenKind}
use Rattle.sparql_meaning.specs.declared.token.TokenKind.TheVariants as k
use Rattle.sparql_meaning.specs.declared.token.Mark.TheVariants as m
use Rattle.sparql_meaning.specs.declared.word.Word.TheVariants as w
use Rattle.sparql_query_meaning.specs.declared.refusal.QueryLimit.{QueryLimit}
use Rattle.sparql_query_meaning.specs.declared.refusal.QueryLimit.TheVariants.{Query, Patterns, Variables, Groups, Blocks, Depth, Keys, Digits}
use Rattle.sparql_query_meaning.specs.Prefixes.{Declared, is_declared, Declaring, nothing, begun, declaring, declared}
use Rattle.sparql_query_meaning.specs.Lexemes.{named_by, is_long}

-- ---- where a token stands

-- the places of a triple
pub data Place : Type 0 where
  subject : Place
  predicate : Place
  object : Place

pub data Role : Type 0 where
  -- before the group of the query
  head : Role
  -- a part of a triple is next, or something else of a group
  next : Place → Role
  -- behind a text to which a tag or a datatype belongs
  text_of : Place → Role
  -- behind `^^`
  type_of : Place → Role
  behind_object : Role
  -- in a filter: the open brackets, the last one first, each with whether a `!` stands before it; and whether a `!` waits for its operand
  filter : List Bool → Bool → Role
  -- behind the group of the query
  end : Role
  -- behind ORDER
  order : Role
  -- behind LIMIT or OFFSET
  slice : Role

-- a tag, or `^^`, is next
abbrev pub goes_on : Option TokenKind → Bool
goes_on (Some (k.Tag t)) = true
goes_on (Some (k.Mark m.TwoCarets)) = true
goes_on _ = false

abbrev pub is_text : TokenKind → Bool
is_text (k.Text t) = true
is_text _ = false

-- behind a part of a triple
abbrev pub done : Place → Role
done subject = next predicate
done predicate = next object
done object = behind_object

-- behind a token that begins a part of a triple
abbrev pub behind_part : Place → TokenKind → Option TokenKind → Role
behind_part p t ahead = if is_text t && goes_on ahead then text_of p else done p

abbrev pub behind_text : Place → TokenKind → Role
behind_text p (k.Tag t) = done p
behind_text p _ = type_of p

abbrev pub one_if : Bool → ℕ
one_if true = 1
one_if false = 0

-- how many brackets and `!` are open
abbrev pub open_now : List Bool → Bool → ℕ
open_now [] waits = one_if waits
open_now (b ∷ bs) waits = 1 + one_if b + open_now bs waits

-- in front of a bracket that belongs to it
abbrev pub takes_brackets : TokenKind → Bool
takes_brackets (k.Word w.Str) = true
takes_brackets (k.Word w.Lang) = true
takes_brackets (k.Word w.Datatype) = true
takes_brackets (k.Word w.Bound) = true
takes_brackets (k.Word w.SameTerm) = true
takes_brackets (k.Word w.IsIri) = true
takes_brackets (k.Word w.IsBlank) = true
takes_brackets (k.Word w.IsLiteral) = true
takes_brackets _ = false

-- a filter ends with its last bracket
abbrev pub behind_bracket : List Bool → Role
behind_bracket [] = next subject
behind_bracket (b ∷ []) = next subject
behind_bracket (b ∷ c ∷ bs) = filter (c ∷ bs) false

abbrev pub in_filter : List Bool → Bool → TokenKind → Role
in_filter bs waits (k.Mark m.OpenBracket) = filter (waits ∷ bs) false
in_filter bs waits (k.Mark m.CloseBracket) = behind_bracket bs
in_filter bs waits (k.Mark m.Not) = filter bs true
in_filter bs waits t = filter bs (waits && takes_brackets t)

-- what may stand between triples and parts of triples
abbrev pub between : TokenKind → Option Role
between (k.Mark m.Dot) = Some (next subject)
between (k.Mark m.Semicolon) = Some (next predicate)
between (k.Mark m.Comma) = Some (next object)
between (k.Word w.Optional) = Some (next subject)
between (k.Word w.Union) = Some (next subject)
between (k.Word w.Filter) = Some (filter [] false)
between _ = None

abbrev pub or_else : Option Role → Role → Role
or_else None r = r
or_else (Some r) s = r

-- behind the group of the query
abbrev pub in_end : TokenKind → Role → Role
in_end (k.Word w.Order) r = order
in_end (k.Word w.Limit) r = slice
in_end (k.Word w.Offset) r = slice
in_end _ r = r

-- behind a token that is no brace; the next token is known
abbrev pub role_behind : Role → TokenKind → Option TokenKind → Role
role_behind head t ahead = head
role_behind (next p) t ahead = or_else (between t) (behind_part p t ahead)
role_behind (text_of p) t ahead = behind_text p t
role_behind (type_of p) t ahead = done p
role_behind behind_object t ahead = or_else (between t) behind_object
role_behind (filter bs waits) t ahead = in_filter bs waits t
role_behind end t ahead = in_end t end
role_behind order t ahead = in_end t order
role_behind slice t ahead = in_end t slice

-- ---- what is counted

pub record State : Type 0 where
  pub role : Role
  pub declaring : Declaring
  pub prefixes : List Declared
  pub names : List (List ℕ)
  pub patterns : ℕ
  -- open ones
  pub groups : ℕ
  -- all of them
  pub blocks : ℕ
  pub keys : ℕ

abbrev pub nothing_yet : State
nothing_yet = record { role = head; declaring = nothing; prefixes = []; names = []; patterns = 0; groups = 0; blocks = 0; keys = 0 }

abbrev pub is_object : Role → Bool
is_object (next object) = true
is_object (text_of object) = true
is_object (type_of object) = true
is_object _ = false

abbrev pub is_behind_object : Role → Bool
is_behind_object behind_object = true
is_behind_object _ = false

-- a pattern is counted at the last token of its object
abbrev pub completes : Role → Role → Bool
completes before after = is_object before && is_behind_object after

-- behind the last brace the group of the query ends
abbrev pub behind_brace : ℕ → Role
behind_brace zero = end
behind_brace (suc n) = next subject

abbrev pub role_after : State → TokenKind → Option TokenKind → Role
role_after st (k.Mark m.OpenBrace) ahead = next subject
role_after st (k.Mark m.CloseBrace) ahead = behind_brace (st.groups - 1)
role_after st t ahead = role_behind st.role t ahead

abbrev pub groups_after : ℕ → TokenKind → ℕ
groups_after n (k.Mark m.OpenBrace) = n + 1
groups_after n (k.Mark m.CloseBrace) = n - 1
groups_after n t = n

abbrev pub blocks_after : ℕ → TokenKind → ℕ
blocks_after n (k.Mark m.OpenBrace) = n + 1
blocks_after n t = n

abbrev pub keys_after : Role → ℕ → TokenKind → ℕ
keys_after order n (k.Variable v) = n + 1
keys_after r n t = n

abbrev pub state_after : State → TokenKind → Option TokenKind → State
state_after st t ahead = record {
  role = role_after st t ahead;
  declaring = declaring st.declaring t;
  prefixes = declared st.declaring t st.prefixes;
  names = named_by st.names t;
  patterns = st.patterns + one_if (completes st.role (role_after st t ahead));
  groups = groups_after st.groups t;
  blocks = blocks_after st.blocks t;
  keys = keys_after st.role st.keys t;
}

-- ---- which limits count

-- those of a text that is read
abbrev pub all_limits : QueryLimit → Bool
all_limits q = true

-- What a text would spell but for the limits on its bytes and on its groups in all: what is made of a query rests on the others alone.
abbrev pub all_but_length_and_blocks : QueryLimit → Bool
all_but_length_and_blocks Query = false
all_but_length_and_blocks Blocks = false
all_but_length_and_blocks q = true

-- ---- what is passed

pub data Fault : Type 0 where
  unknown_prefix : Fault
  limit : QueryLimit → Fault

-- a name whose prefix isn't declared before it, but for the name of a declaration
abbrev pub is_unknown : State → Declaring → TokenKind → Bool
is_unknown st begun (k.Named p local) = false
is_unknown st d (k.Named p local) = not (is_declared st.prefixes p)
is_unknown st d t = false

-- the depth counts at a bracket and at `!`
abbrev pub depth_of : Role → TokenKind → ℕ
depth_of (filter bs waits) (k.Mark m.OpenBracket) = open_now (waits ∷ bs) false
depth_of (filter bs waits) (k.Mark m.Not) = open_now bs true
depth_of r t = 0

abbrev pub has_long_count : Role → TokenKind → Bool
has_long_count slice (k.Integer text) = is_long text
has_long_count r t = false

-- the numbers that count and were just passed, the first one first where several are
abbrev pub passed : (QueryLimit → Bool) → State → State → TokenKind → List QueryLimit
passed counts before st t =
    (if counts Patterns && (nat_lt 48 st.patterns && nat_lt before.patterns st.patterns) then Patterns ∷ [] else [])
    ++ ((if counts Keys && (nat_lt 64 st.keys && nat_lt before.keys st.keys) then Keys ∷ [] else [])
    ++ ((if counts Variables && (nat_lt 64 (length st.names) && nat_lt (length before.names) (length st.names)) then Variables ∷ [] else [])
    ++ ((if counts Groups && (nat_lt 24 st.groups && nat_lt before.groups st.groups) then Groups ∷ [] else [])
    ++ ((if counts Blocks && (nat_lt 512 st.blocks && nat_lt before.blocks st.blocks) then Blocks ∷ [] else [])
    ++ ((if counts Depth && nat_lt 48 (depth_of before.role t) then Depth ∷ [] else [])
    ++ (if counts Digits && has_long_count before.role t then Digits ∷ [] else []))))))

abbrev pub first_limit : List QueryLimit → Option Fault
first_limit [] = None
first_limit (q ∷ qs) = Some (limit q)

-- a prefix goes before a limit
abbrev pub fault_at : (QueryLimit → Bool) → State → TokenKind → Option TokenKind → Option Fault
fault_at counts st t ahead = if is_unknown st st.declaring t then Some unknown_prefix else first_limit (passed counts st (state_after st t ahead) t)

abbrev pub next_kind : List Token → Option TokenKind
next_kind [] = None
next_kind (t ∷ ts) = Some t.kind

-- the first fault, and how many tokens stand before it
pub record FaultAt : Type 0 where
  pub before : ℕ
  pub fault : Fault

abbrev pub one_later : Option FaultAt → Option FaultAt
one_later None = None
one_later (Some f) = Some (record { before = 1 + f.before; fault = f.fault })

abbrev pub fault_or : Option Fault → Option FaultAt → Option FaultAt
fault_or None later = one_later later
fault_or (Some f) later = Some (record { before = 0; fault = f })

abbrev pub fault_from : (QueryLimit → Bool) → State → List Token → Option FaultAt
fault_from counts st [] = None
fault_from counts st (t ∷ ts) = fault_or (fault_at counts st t.kind (next_kind ts)) (fault_from counts (state_after st t.kind (next_kind ts)) ts)

-- where all limits count
abbrev pub first_fault : List Token → Option FaultAt
first_fault ts = fault_from all_limits nothing_yet ts
