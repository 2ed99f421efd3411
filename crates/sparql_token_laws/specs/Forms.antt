-- The forms of tokens (SPARQL 1.1 Query, section 19.8): one case a kind of token, which says what characters spell it.
use Rattle.std.specs.Prelude.{◌≡◌, ◌⊎◌, ℕ, ◌+◌, ◌*◌, Bool, true, false, List, [], ◌∷◌, ◌++◌, length, map, encode_utf8_all, ◌||◌, ◌==◌}
use Rattle.std.specs.Char.{to_ascii_lowercase}
use Rattle.rdf_meaning.specs.Characters.{is_digit, is_letter, is_base}
use Rattle.line_meaning.specs.Grammar.{Each}
use Rattle.sparql_meaning.specs.declared.token.TokenKind.{TokenKind}
use Rattle.sparql_meaning.specs.declared.token.TokenKind.TheVariants as k
use Rattle.sparql_meaning.specs.declared.token.Mark.{Mark}
use Rattle.sparql_meaning.specs.declared.token.Mark.TheVariants as m
use Rattle.sparql_meaning.specs.declared.token.Quoting.{Quoting}
use Rattle.sparql_meaning.specs.declared.token.Quoting.TheVariants as q
use Rattle.sparql_meaning.specs.declared.word.Word.{Word}
use Rattle.sparql_meaning.specs.Classes.{is_start, is_variable_part, is_part, is_word_part, is_iri_part, is_text_part, is_hex, is_kept}
use Rattle.sparql_meaning.specs.Words.{word_of}
use Rattle.sparql_meaning.specs.Tokens.{hex_value, is_scalar, short_escape, starts_with, closing, has_short_escapes, stands, is_tag_part}

-- at least one character, each of which passes the test
abbrev pub AtLeastOne : (ℕ → Bool) → List ℕ → Type 0
AtLeastOne p [] = ⊥
AtLeastOne p (c ∷ cs) = (p c ≡ true) × Each p cs

-- ---- texts between marks

-- a character that stands for itself
pub record SpellsRaw (form : Quoting) (written : List ℕ) (c : ℕ) : Type 0 where
  pub raw : stands form c ≡ true
  pub whole : written ≡ c ∷ []

-- a backslash and a letter (ECHAR), in texts alone
pub record SpellsShort (form : Quoting) (written : List ℕ) (c : ℕ) : Type 0 where
  pub letter : ℕ
  pub in_text : has_short_escapes form ≡ true
  pub short : short_escape letter ≡ c
  pub some : c ≡ 0 → ⊥
  pub whole : written ≡ 92 ∷ letter ∷ []

-- the number that digits of base sixteen write behind those of n
abbrev pub hex_from : ℕ → List ℕ → ℕ
hex_from n [] = n
hex_from n (c ∷ cs) = hex_from (16 * n + hex_value c) cs

-- what such digits may stand for: what could stand there by itself, and anything in a long text
abbrev pub may_be_coded : Quoting → ℕ → Bool
may_be_coded q.Iri c = is_iri_part c
may_be_coded (q.Text quote) c = is_text_part quote c
may_be_coded (q.Long quote) c = true

-- `u` and four digits, or `U` and eight
abbrev pub IsCodeMark : ℕ → ℕ → Type 0
IsCodeMark mark count = ((mark ≡ 117) × (count ≡ 4)) ⊎ ((mark ≡ 85) × (count ≡ 8))

-- a backslash, `u` or `U` and four or eight digits (UCHAR), for a character that is no surrogate
pub record SpellsCode (form : Quoting) (written : List ℕ) (c : ℕ) : Type 0 where
  pub mark : ℕ
  pub digits : List ℕ
  pub count : IsCodeMark mark (length digits)
  pub hex : Each is_hex digits
  pub number : hex_from 0 digits ≡ c
  pub scalar : is_scalar c ≡ true
  pub fits : may_be_coded form c ≡ true
  pub whole : written ≡ 92 ∷ mark ∷ digits

abbrev pub SpellsCharacter : Quoting → List ℕ → ℕ → Type 0
SpellsCharacter form written c = SpellsRaw form written c ⊎ (SpellsShort form written c ⊎ SpellsCode form written c)

-- one character after the other, and the closing marks: no character begins where the closing marks stand, so the first ones close
abbrev pub SpellsBody : Quoting → List ℕ → List ℕ → Type 0
SpellsBody form written [] = written ≡ closing form
SpellsBody form written (c ∷ cs) =
    (front : List ℕ) × (back : List ℕ) × (written ≡ front ++ back) × (starts_with (closing form) written ≡ false) × SpellsCharacter form front c × SpellsBody form back cs

-- behind the opening marks, a text and its closing marks
pub record Encloses (form : Quoting) (opening text written : List ℕ) : Type 0 where
  pub body : List ℕ
  pub meant : List ℕ
  pub spelled : SpellsBody form body meant
  pub text_is : text ≡ encode_utf8_all meant
  pub whole : written ≡ opening ++ body

abbrev pub IsQuote : ℕ → Type 0
IsQuote c = (c ≡ 34) ⊎ (c ≡ 39)

abbrev pub SpellsText : List ℕ → List ℕ → Type 0
SpellsText text written = (quote : ℕ) × IsQuote quote × Encloses (q.Text quote) (quote ∷ []) text written

abbrev pub SpellsLongText : List ℕ → List ℕ → Type 0
SpellsLongText text written = (quote : ℕ) × IsQuote quote × Encloses (q.Long quote) (quote ∷ quote ∷ quote ∷ []) text written

-- ---- names

-- `?` or `$`, a letter, `_` or a digit, and more of a name (VAR1, VAR2)
pub record SpellsVariable (text written : List ℕ) : Type 0 where
  pub mark : ℕ
  pub first : ℕ
  pub others : List ℕ
  pub is_mark : (mark ≡ 63) ⊎ (mark ≡ 36)
  pub begins : (is_start first || is_digit first) ≡ true
  pub goes_on : Each is_variable_part others
  pub text_is : text ≡ encode_utf8_all (first ∷ others)
  pub whole : written ≡ mark ∷ first ∷ others

-- a character of a name by itself; in a local name also `:`
abbrev pub stands_in_name : Bool → ℕ → Bool
stands_in_name true c = is_part c || c == 58
stands_in_name false c = is_part c

-- what a name goes on with, and what it stands for: single characters, full stops of which none is last, and in a local name
-- `%` with two hex digits, kept as they are, and a backslash before what it keeps (PLX)
pub data GoesOn : Bool → List ℕ → List ℕ → Type 0 where
  name_ends : {local : Bool} → GoesOn local [] []
  part : {local : Bool} {c : ℕ} {cs text : List ℕ} → stands_in_name local c ≡ true → GoesOn local cs text → GoesOn local (c ∷ cs) (c ∷ text)
  full_stop : {local : Bool} {c : ℕ} {cs text : List ℕ} → GoesOn local (c ∷ cs) text → GoesOn local (46 ∷ c ∷ cs) (46 ∷ text)
  percent : {a b : ℕ} {cs text : List ℕ} → is_hex a ≡ true → is_hex b ≡ true → GoesOn true cs text → GoesOn true (37 ∷ a ∷ b ∷ cs) (37 ∷ a ∷ b ∷ text)
  backslash : {c : ℕ} {cs text : List ℕ} → is_kept c ≡ true → GoesOn true cs text → GoesOn true (92 ∷ c ∷ cs) (c ∷ text)

-- a name with a first character of its own
pub record IsName (first : ℕ → Bool) (written : List ℕ) : Type 0 where
  pub begin : ℕ
  pub others : List ℕ
  pub begins : first begin ≡ true
  pub goes_on : GoesOn false others others
  pub whole : written ≡ begin ∷ others

abbrev pub begins_label : ℕ → Bool
begins_label c = is_start c || is_digit c

-- `_:` and a label (BLANK_NODE_LABEL)
pub record SpellsBlank (text written : List ℕ) : Type 0 where
  pub label : List ℕ
  pub fine : IsName begins_label label
  pub text_is : text ≡ encode_utf8_all label
  pub whole : written ≡ 95 ∷ 58 ∷ label

-- a local name begins with a letter, `_`, `:`, a digit or an escape (PN_LOCAL)
abbrev pub BeginsLocal : List ℕ → Type 0
BeginsLocal [] = ⊥
BeginsLocal (c ∷ cs) = (is_start c || c == 58 || is_digit c || c == 37 || c == 92) ≡ true

-- a local name, and what it stands for; it may be empty
abbrev pub IsLocal : List ℕ → List ℕ → Type 0
IsLocal text written = ((written ≡ []) × (text ≡ [])) ⊎ (BeginsLocal written × GoesOn true written text)

-- a prefix (PN_PREFIX); it may be empty
abbrev pub IsPrefix : List ℕ → Type 0
IsPrefix written = (written ≡ []) ⊎ IsName is_base written

-- a prefix, `:` and a local name (PNAME_LN, PNAME_NS)
pub record SpellsNamed (prefix name written : List ℕ) : Type 0 where
  pub front : List ℕ
  pub back : List ℕ
  pub text : List ℕ
  pub is_prefix : IsPrefix front
  pub is_local : IsLocal text back
  pub prefix_is : prefix ≡ encode_utf8_all front
  pub name_is : name ≡ encode_utf8_all text
  pub whole : written ≡ front ++ 58 ∷ back

-- later parts of a tag: a dash and at least one letter or digit
pub data LaterParts : List ℕ → Type 0 where
  no_part : LaterParts []
  one_part : (part rest : List ℕ) → AtLeastOne is_tag_part part → LaterParts rest → LaterParts (45 ∷ (part ++ rest))

-- `@` and a tag in any case, which counts in lower case (LANGTAG)
pub record SpellsTag (text written : List ℕ) : Type 0 where
  pub first : List ℕ
  pub others : List ℕ
  pub letters : AtLeastOne is_letter first
  pub parts : LaterParts others
  pub text_is : text ≡ encode_utf8_all (map to_ascii_lowercase (first ++ others))
  pub whole : written ≡ 64 ∷ (first ++ others)

-- ---- numbers

-- nothing, `+` or `-`
abbrev pub IsSign : List ℕ → Type 0
IsSign sign = (sign ≡ []) ⊎ ((sign ≡ 43 ∷ []) ⊎ (sign ≡ 45 ∷ []))

pub record SpellsInteger (text written : List ℕ) : Type 0 where
  pub sign : List ℕ
  pub whole_digits : List ℕ
  pub is_sign : IsSign sign
  pub digits : AtLeastOne is_digit whole_digits
  pub text_is : text ≡ encode_utf8_all written
  pub whole : written ≡ sign ++ whole_digits

-- digits that may be left out, a full stop and digits
pub record SpellsDecimal (text written : List ℕ) : Type 0 where
  pub sign : List ℕ
  pub whole_digits : List ℕ
  pub fraction : List ℕ
  pub is_sign : IsSign sign
  pub digits : Each is_digit whole_digits
  pub fraction_digits : AtLeastOne is_digit fraction
  pub text_is : text ≡ encode_utf8_all written
  pub whole : written ≡ sign ++ (whole_digits ++ 46 ∷ fraction)

-- `e`, a sign that may be left out, and digits (EXPONENT)
pub record IsExponent (written : List ℕ) : Type 0 where
  pub mark : ℕ
  pub sign : List ℕ
  pub power : List ℕ
  pub is_mark : (mark ≡ 101) ⊎ (mark ≡ 69)
  pub is_sign : IsSign sign
  pub digits : AtLeastOne is_digit power
  pub whole : written ≡ mark ∷ (sign ++ power)

-- digits, or digits with a full stop, at least one on one of its sides
abbrev pub IsMantissa : List ℕ → Type 0
IsMantissa written =
    AtLeastOne is_digit written
    ⊎ ((whole_digits : List ℕ) × (fraction : List ℕ) × Each is_digit whole_digits × Each is_digit fraction
    × (AtLeastOne is_digit whole_digits ⊎ AtLeastOne is_digit fraction) × (written ≡ whole_digits ++ 46 ∷ fraction))

pub record SpellsDouble (text written : List ℕ) : Type 0 where
  pub sign : List ℕ
  pub mantissa : List ℕ
  pub exponent : List ℕ
  pub is_sign : IsSign sign
  pub is_mantissa : IsMantissa mantissa
  pub is_exponent : IsExponent exponent
  pub text_is : text ≡ encode_utf8_all written
  pub whole : written ≡ sign ++ (mantissa ++ exponent)

-- ---- words and marks

-- a letter, and letters, digits and `_`
pub record SpellsWord (word : Word) (written : List ℕ) : Type 0 where
  pub first : ℕ
  pub others : List ℕ
  pub begins : is_letter first ≡ true
  pub goes_on : Each is_word_part others
  pub word_is : word ≡ word_of written
  pub whole : written ≡ first ∷ others

abbrev pub mark_text : Mark → List ℕ
mark_text m.OpenBrace = 123 ∷ []
mark_text m.CloseBrace = 125 ∷ []
mark_text m.OpenBracket = 40 ∷ []
mark_text m.CloseBracket = 41 ∷ []
mark_text m.OpenSquare = 91 ∷ []
mark_text m.CloseSquare = 93 ∷ []
mark_text m.Dot = 46 ∷ []
mark_text m.Semicolon = 59 ∷ []
mark_text m.Comma = 44 ∷ []
mark_text m.Star = 42 ∷ []
mark_text m.Slash = 47 ∷ []
mark_text m.Plus = 43 ∷ []
mark_text m.Minus = 45 ∷ []
mark_text m.Equal = 61 ∷ []
mark_text m.NotEqual = 33 ∷ 61 ∷ []
mark_text m.Less = 60 ∷ []
mark_text m.Greater = 62 ∷ []
mark_text m.LessEqual = 60 ∷ 61 ∷ []
mark_text m.GreaterEqual = 62 ∷ 61 ∷ []
mark_text m.Not = 33 ∷ []
mark_text m.And = 38 ∷ 38 ∷ []
mark_text m.Or = 124 ∷ 124 ∷ []
mark_text m.Pipe = 124 ∷ []
mark_text m.Caret = 94 ∷ []
mark_text m.TwoCarets = 94 ∷ 94 ∷ []
mark_text m.Question = 63 ∷ []

-- ---- what characters spell a token of each kind
abbrev pub Spells : TokenKind → List ℕ → Type 0
Spells (k.Iri text) written = Encloses q.Iri (60 ∷ []) text written
Spells (k.Named prefix name) written = SpellsNamed prefix name written
Spells (k.Variable text) written = SpellsVariable text written
Spells (k.Text text) written = SpellsText text written
Spells (k.LongText text) written = SpellsLongText text written
Spells (k.Tag text) written = SpellsTag text written
Spells (k.Blank text) written = SpellsBlank text written
Spells (k.Integer text) written = SpellsInteger text written
Spells (k.Decimal text) written = SpellsDecimal text written
Spells (k.Double text) written = SpellsDouble text written
Spells (k.Word word) written = SpellsWord word written
Spells (k.Mark mark) written = written ≡ mark_text mark
