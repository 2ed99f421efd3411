-- The tokens of a query as the grammar sees them: names by the IRIs that they stand for, variables by their numbers in order of
-- their first places, numbers and booleans as literals. A name without a declaration, and a variable too many, are refused by their
-- places elsewhere; here they stand for some IRI and some variable.
use Rattle.std.specs.Prelude.{ℕ, ◌+◌, ◌*◌, ◌-◌, Bool, true, false, ◌==◌, nat_lt, if◌then◌else◌, List, [], ◌∷◌, ◌++◌, length, Option, Some, None, codes}
use Rattle.std.specs.List.{list_any}
use Rattle.std.specs.Str.{bytes_eq}
use Rattle.rdf_meaning.specs.Characters.{is_digit}
use Rattle.rdf_meaning.specs.Terms.{RdfTerm, typed}
use Rattle.rdf_meaning.specs.declared.text.KnownDatatype.TheVariants as known
use Rattle.rdf_meaning.specs.Known.{known_bytes}
use Rattle.query_meaning.specs.declared.expression.CompareOp.TheVariants as op
use Rattle.query_meaning.specs.declared.expression.TermTest.TheVariants as term_test
use Rattle.sparql_meaning.specs.declared.token.Token.{Token}
use Rattle.sparql_meaning.specs.declared.token.TokenKind.{TokenKind}
use Rattle.sparql_meaning.specs.declared.token.TokenKind.TheVariants as k
use Rattle.sparql_meaning.specs.declared.token.Mark.{Mark}
use Rattle.sparql_meaning.specs.declared.token.Mark.TheVariants as m
use Rattle.sparql_meaning.specs.declared.word.Word.{Word}
use Rattle.sparql_meaning.specs.declared.word.Word.TheVariants as w
use Rattle.sparql_grammar_meaning.specs.declared.lexeme.Lexeme.{Lexeme}
use Rattle.sparql_grammar_meaning.specs.declared.lexeme.Lexeme.TheVariants as l
use Rattle.sparql_grammar_meaning.specs.declared.lexeme.Sign.TheVariants as s
use Rattle.sparql_grammar_meaning.specs.declared.lexeme.Function.TheVariants as f
use Rattle.sparql_query_meaning.specs.Prefixes.{Declared, iri_of, Declaring, nothing, declaring, declared}

-- ---- variables

abbrev pub with_name : List (List ℕ) → List ℕ → List (List ℕ)
with_name names n = if list_any (bytes_eq n) names then names else names ++ n ∷ []

-- with the variable of this token
abbrev pub named_by : List (List ℕ) → TokenKind → List (List ℕ)
named_by names (k.Variable n) = with_name names n
named_by names t = names

-- the names behind those known before, in order of their first places
abbrev pub names_from : List (List ℕ) → List Token → List (List ℕ)
names_from names [] = names
names_from names (t ∷ ts) = names_from (named_by names t.kind) ts

abbrev pub place_of : List (List ℕ) → List ℕ → ℕ
place_of [] n = 0
place_of (x ∷ xs) n = if bytes_eq x n then 0 else 1 + place_of xs n

-- a number below 64
abbrev pub variable_number : List (List ℕ) → List ℕ → ℕ
variable_number names n = if nat_lt (place_of names n) 64 then place_of names n else 0

-- ---- numbers

-- what is no digit counts as the digit 0: no integer has such a character behind its sign
abbrev pub digit : ℕ → ℕ
digit c = if is_digit c then c - 48 else 0

abbrev pub decimal : ℕ → List ℕ → ℕ
decimal n [] = n
decimal n (c ∷ cs) = decimal (10 * n + digit c) cs

abbrev pub without_zeros : List ℕ → List ℕ
without_zeros [] = []
without_zeros (c ∷ cs) = if c == 48 then without_zeros cs else c ∷ cs

abbrev pub most_digits : ℕ
most_digits = 18

abbrev pub is_long : List ℕ → Bool
is_long text = nat_lt most_digits (length (without_zeros text))

-- the number of a text of digits that isn't too long
abbrev pub number_of : List ℕ → ℕ
number_of text = if is_long text then 0 else decimal 0 text

abbrev pub integer : List ℕ → RdfTerm
integer text = typed text (known_bytes known.Integer)

abbrev pub boolean : List ℕ → RdfTerm
boolean text = typed text (known_bytes known.Boolean)

-- an integer without a sign can be a count
abbrev pub integer_lexeme : List ℕ → Lexeme
integer_lexeme [] = l.Literal (integer [])
integer_lexeme (c ∷ cs) = if is_digit c then l.Count (integer (c ∷ cs)) (number_of (c ∷ cs)) else l.Literal (integer (c ∷ cs))

-- ---- words and marks

abbrev pub word_lexeme : Word → Lexeme
word_lexeme w.Prefix = l.Sign s.Prefix
word_lexeme w.Select = l.Sign s.Select
word_lexeme w.Distinct = l.Sign s.Distinct
word_lexeme w.Where = l.Sign s.Where
word_lexeme w.Optional = l.Sign s.Optional
word_lexeme w.Union = l.Sign s.Union
word_lexeme w.Filter = l.Sign s.Filter
word_lexeme w.A = l.Sign s.A
word_lexeme w.True = l.Literal (boolean (codes "true"))
word_lexeme w.False = l.Literal (boolean (codes "false"))
word_lexeme w.Not = l.Sign s.Not
word_lexeme w.In = l.Sign s.In
word_lexeme w.Str = l.Function f.Str
word_lexeme w.Lang = l.Function f.Lang
word_lexeme w.Datatype = l.Function f.Datatype
word_lexeme w.Bound = l.Sign s.Bound
word_lexeme w.SameTerm = l.Sign s.SameTerm
word_lexeme w.IsIri = l.Test term_test.Iri
word_lexeme w.IsBlank = l.Test term_test.Blank
word_lexeme w.IsLiteral = l.Test term_test.Literal
word_lexeme w.Order = l.Sign s.Order
word_lexeme w.By = l.Sign s.By
word_lexeme w.Asc = l.Direction false
word_lexeme w.Desc = l.Direction true
word_lexeme w.Limit = l.Sign s.Limit
word_lexeme w.Offset = l.Sign s.Offset
word_lexeme (w.LeftOut x) = l.Sign s.Other
word_lexeme w.Unknown = l.Sign s.Other

abbrev pub mark_lexeme : Mark → Lexeme
mark_lexeme m.OpenBrace = l.Sign s.OpenBrace
mark_lexeme m.CloseBrace = l.Sign s.CloseBrace
mark_lexeme m.OpenBracket = l.Sign s.OpenBracket
mark_lexeme m.CloseBracket = l.Sign s.CloseBracket
mark_lexeme m.Dot = l.Sign s.Dot
mark_lexeme m.Semicolon = l.Sign s.Semicolon
mark_lexeme m.Comma = l.Sign s.Comma
mark_lexeme m.Star = l.Sign s.Star
mark_lexeme m.Equal = l.Compare op.Equal
mark_lexeme m.NotEqual = l.Compare op.NotEqual
mark_lexeme m.Less = l.Compare op.Less
mark_lexeme m.Greater = l.Compare op.Greater
mark_lexeme m.LessEqual = l.Compare op.LessEqual
mark_lexeme m.GreaterEqual = l.Compare op.GreaterEqual
mark_lexeme m.Not = l.Sign s.Bang
mark_lexeme m.And = l.Sign s.And
mark_lexeme m.Or = l.Sign s.Or
mark_lexeme m.TwoCarets = l.Sign s.TwoCarets
mark_lexeme _ = l.Sign s.Other

-- ---- tokens

abbrev pub named_lexeme : List ℕ → List ℕ → Lexeme
named_lexeme i [] = l.PrefixName i
named_lexeme i (c ∷ cs) = l.Named (i ++ c ∷ cs)

-- of a prefix without a declaration the empty text
abbrev pub or_nothing : Option (List ℕ) → List ℕ
or_nothing None = []
or_nothing (Some i) = i

abbrev pub base_of : List Declared → List ℕ → List ℕ
base_of ds p = or_nothing (iri_of ds p)

abbrev pub lexeme : List Declared → List (List ℕ) → TokenKind → Lexeme
lexeme ds names (k.Iri i) = l.Iri i
lexeme ds names (k.Named p local) = named_lexeme (base_of ds p) local
lexeme ds names (k.Variable n) = l.Variable (variable_number names n)
lexeme ds names (k.Text t) = l.Text t
lexeme ds names (k.LongText t) = l.Sign s.Other
lexeme ds names (k.Tag t) = l.Tag t
lexeme ds names (k.Blank b) = l.Sign s.Other
lexeme ds names (k.Integer t) = integer_lexeme t
lexeme ds names (k.Decimal t) = l.Literal (typed t (known_bytes known.Decimal))
lexeme ds names (k.Double t) = l.Sign s.Other
lexeme ds names (k.Word x) = word_lexeme x
lexeme ds names (k.Mark x) = mark_lexeme x

abbrev pub lexemes_from : Declaring → List Declared → List (List ℕ) → List Token → List Lexeme
lexemes_from d ds names [] = []
lexemes_from d ds names (t ∷ ts) = lexeme ds (named_by names t.kind) t.kind ∷ lexemes_from (declaring d t.kind) (declared d t.kind ds) (named_by names t.kind) ts

abbrev pub lexemes : List Token → List Lexeme
lexemes ts = lexemes_from nothing [] [] ts

abbrev pub names : List Token → List (List ℕ)
names ts = names_from [] ts
