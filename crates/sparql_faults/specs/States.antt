-- What was counted before a token, as the definition has it.
use Rattle.std.proofs.Common.{ℕ, ◌≡◌, ◌+◌, ◌<◌, ◌≤◌, ◌^◌, Bool, true, false, ◌&&◌, List, [], length, Option, refl, ap, ◌∙◌, arith}
use Rattle.sparql_meaning.specs.declared.token.TokenKind.{TokenKind}
use Rattle.sparql_meaning.specs.declared.token.TokenKind.TheVariants as k
use Rattle.sparql_meaning.specs.declared.token.Mark.TheVariants as m
use Rattle.sparql_query_meaning.specs.Prefixes.{Declared, declaring, declared}
use Rattle.sparql_query_meaning.specs.Lexemes.{named_by}
use Rattle.sparql_query_meaning.specs.Limits.{Role, State, nothing_yet, state_after, role_after, groups_after, blocks_after, keys_after, is_object, is_behind_object, completes, one_if}
use Rattle.sparql_query_meaning.specs.Limits as limits
use Rattle.sparql_lexemes.specs.declared.scope.Scope.{Scope}
use Rattle.sparql_lexemes.specs.Declarings.{declaring_of}
use Rattle.sparql_lexemes.specs.Scopes.{StandFor}
use Rattle.sparql_faults.specs.declared.limits.Counts.{Counts}
use Rattle.sparql_faults.specs.declared.state.State.{State as Kept}
use Rattle.sparql_faults.specs.Roles.{role_of, role_at}

-- with these declarations
abbrev pub state_of : Kept → List Declared → State
state_of s ds = record { role = role_of s.role; declaring = declaring_of s.scope.declaring; prefixes = ds; names = s.scope.names; patterns = s.patterns; groups = s.groups; blocks = s.blocks; keys = s.keys }

abbrev pub counts_of : Kept → Counts
counts_of s = record { patterns = s.patterns; variables = length s.scope.names; groups = s.groups; blocks = s.blocks; keys = s.keys }

-- another token can be counted
abbrev pub HasRoom : Kept → Type 0
HasRoom s = (s.patterns + 1 < 2 ^ 64) × (s.groups + 1 < 2 ^ 64) × (s.blocks + 1 < 2 ^ 64) × (s.keys + 1 < 2 ^ 64)

-- no count rises by more than one
abbrev pub IsNear : Kept → Kept → Type 0
IsNear s n = (n.patterns ≤ s.patterns + 1) × (n.groups ≤ s.groups + 1) × (n.blocks ≤ s.blocks + 1) × (n.keys ≤ s.keys + 1)

pub data IsFirst (s : Kept) : Type 0 where
  is_first : StandFor s.scope.prefixes [] → state_of s [] ≡ nothing_yet → IsFirst s

-- behind the token
pub data IsNext (s : Kept) (t : TokenKind) (ahead : Option TokenKind) (n : Kept) : Type 0 where
  is_next : ((ds : List Declared) → StandFor s.scope.prefixes ds → StandFor n.scope.prefixes (declared (declaring_of s.scope.declaring) t ds))
      → ((ds : List Declared) → state_of n (declared (declaring_of s.scope.declaring) t ds) ≡ state_after (state_of s ds) t ahead) → IsNear s n → IsNext s t ahead n

role_same : (s : State) (t : TokenKind) (ahead : Option TokenKind) → role_at s.role s.groups t ahead ≡ role_after s t ahead
role_same s (k.Mark m.OpenBrace) ahead = refl
role_same s (k.Mark m.CloseBrace) ahead = refl
role_same s (k.Mark m.OpenBracket) ahead = refl
role_same s (k.Mark m.CloseBracket) ahead = refl
role_same s (k.Mark m.OpenSquare) ahead = refl
role_same s (k.Mark m.CloseSquare) ahead = refl
role_same s (k.Mark m.Dot) ahead = refl
role_same s (k.Mark m.Semicolon) ahead = refl
role_same s (k.Mark m.Comma) ahead = refl
role_same s (k.Mark m.Star) ahead = refl
role_same s (k.Mark m.Slash) ahead = refl
role_same s (k.Mark m.Plus) ahead = refl
role_same s (k.Mark m.Minus) ahead = refl
role_same s (k.Mark m.Equal) ahead = refl
role_same s (k.Mark m.NotEqual) ahead = refl
role_same s (k.Mark m.Less) ahead = refl
role_same s (k.Mark m.Greater) ahead = refl
role_same s (k.Mark m.LessEqual) ahead = refl
role_same s (k.Mark m.GreaterEqual) ahead = refl
role_same s (k.Mark m.Not) ahead = refl
role_same s (k.Mark m.And) ahead = refl
role_same s (k.Mark m.Or) ahead = refl
role_same s (k.Mark m.Pipe) ahead = refl
role_same s (k.Mark m.Caret) ahead = refl
role_same s (k.Mark m.TwoCarets) ahead = refl
role_same s (k.Mark m.Question) ahead = refl
role_same s (k.Iri i) ahead = refl
role_same s (k.Named p n) ahead = refl
role_same s (k.Variable n) ahead = refl
role_same s (k.Text t) ahead = refl
role_same s (k.LongText t) ahead = refl
role_same s (k.Tag t) ahead = refl
role_same s (k.Blank b) ahead = refl
role_same s (k.Integer t) ahead = refl
role_same s (k.Decimal t) ahead = refl
role_same s (k.Double t) ahead = refl
role_same s (k.Word w) ahead = refl

groups_near : (n : ℕ) (t : TokenKind) (x : ℕ) → x ≡ groups_after n t → x ≤ n + 1
groups_near n t x h = grind (arith, h)

blocks_near : (n : ℕ) (t : TokenKind) (x : ℕ) → x ≡ blocks_after n t → x ≤ n + 1
blocks_near n t x h = grind (arith, h)

keys_near : (r : Role) (n : ℕ) (t : TokenKind) (x : ℕ) → x ≡ keys_after r n t → x ≤ n + 1
keys_near r n t x h = grind (arith, h)

one_near : (b : Bool) (n x : ℕ) → x ≡ n + one_if b → x ≤ n + 1
one_near true n x h = omega (arith, h)
one_near false n x h = omega (arith, h)

pub next_state : (s n : Kept) (t : TokenKind) (ahead : Option TokenKind)
    → role_of n.role ≡ role_at (role_of s.role) s.groups t ahead → declaring_of n.scope.declaring ≡ declaring (declaring_of s.scope.declaring) t
    → ((ds : List Declared) → StandFor s.scope.prefixes ds → StandFor n.scope.prefixes (declared (declaring_of s.scope.declaring) t ds)) → n.scope.names ≡ named_by s.scope.names t
    → n.patterns ≡ s.patterns + one_if (is_object (role_of s.role) && is_behind_object (role_of n.role)) → n.groups ≡ groups_after s.groups t → n.blocks ≡ blocks_after s.blocks t → n.keys ≡ keys_after (role_of s.role) s.keys t
    → IsNext s t ahead n
next_state s n t ahead a b c d e f g h =
    is_next c
    (λ ds. let st : State = state_of s ds in
    let r : role_of n.role ≡ role_after st t ahead = a ∙ role_same st t ahead in
    let q : n.patterns ≡ s.patterns + one_if (completes (role_of s.role) (role_after st t ahead)) = e ∙ ap (λ (z : Role). s.patterns + one_if (is_object (role_of s.role) && is_behind_object z)) r in
    λ i. record { role = r i; declaring = b i; prefixes = declared (declaring_of s.scope.declaring) t ds; names = d i; patterns = q i; groups = f i; blocks = g i; keys = h i })
    (one_near (is_object (role_of s.role) && is_behind_object (role_of n.role)) s.patterns n.patterns e, groups_near s.groups t n.groups f, blocks_near s.blocks t n.blocks g, keys_near (role_of s.role) s.keys t n.keys h)

-- a name whose prefix isn't declared
pub data IsUnknown (s : Scope) (t : TokenKind) (b : Bool) : Type 0 where
  is_unknown : ((st : State) → StandFor s.prefixes st.prefixes → b ≡ limits.is_unknown st (declaring_of s.declaring) t) → IsUnknown s t b
