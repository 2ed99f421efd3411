-- The tokens of a query (SPARQL 1.1 Query, sections 19.2 and 19.8): which token begins at a place, at its longest.
-- Texts are read as their characters here, and the texts in tokens are bytes.
use Rattle.std.specs.Prelude.{ℕ, zero, suc, ◌+◌, ◌-◌, ◌*◌, Bool, true, false, not, ◌&&◌, ◌||◌, ◌==◌, nat_le, if◌then◌else◌, List, [], ◌∷◌, ◌++◌, map, length, take, drop, Option, Some, None, encode_utf8_all}
use Rattle.std.specs.List.{filter, prefix_len}
use Rattle.std.specs.Char.{encode_utf8, to_ascii_lowercase}
use Rattle.rdf_meaning.specs.Characters.{is_digit, is_letter, is_base}
use Rattle.rdf_meaning.specs.Terms.{is_tag}
use Rattle.sparql_meaning.specs.declared.token.TokenKind.{TokenKind}
use Rattle.sparql_meaning.specs.declared.token.TokenKind.TheVariants as k
use Rattle.sparql_meaning.specs.declared.token.Mark.{Mark}
use Rattle.sparql_meaning.specs.declared.token.Mark.TheVariants as m
use Rattle.sparql_meaning.specs.declared.token.Quoting.{Quoting}
use Rattle.sparql_meaning.specs.declared.token.Quoting.TheVariants as q
use Rattle.sparql_meaning.specs.declared.token.Found.{Found}
use Rattle.sparql_meaning.specs.declared.token.Escape.{Escape}
use Rattle.sparql_meaning.specs.declared.token.Body.{Body}
use Rattle.sparql_meaning.specs.Classes.{is_start, is_variable_part, is_part, is_word_part, is_iri_part, is_text_part, is_hex, is_kept}
use Rattle.sparql_meaning.specs.Words.{word_of}

abbrev pub found : TokenKind → ℕ → Option Found
found kind n = Some (record { kind = kind; chars = n })

-- the first character, or 0
abbrev pub head : List ℕ → ℕ
head [] = 0
head (c ∷ cs) = c

-- ---- escapes

abbrev pub hex_value : ℕ → ℕ
hex_value c = if is_digit c then c - 48 else (if nat_le c 70 then c - 55 else c - 87)

-- the number of so many hex digits in front, behind those read before; numbers above 10FFFF are none
abbrev pub hex_number : ℕ → ℕ → List ℕ → Option ℕ
hex_number zero number cs = Some number
hex_number (suc n) number [] = None
hex_number (suc n) number (c ∷ cs) = if is_hex c && nat_le number 0x10FFFF then hex_number n (16 * number + hex_value c) cs else None

-- a number that is a character's
abbrev pub is_scalar : ℕ → Bool
is_scalar c = nat_le c 0xD7FF || (nat_le 0xE000 c && nat_le c 0x10FFFF)

abbrev pub scalar_escape : ℕ → Option ℕ → Option Escape
scalar_escape n None = None
scalar_escape n (Some c) = if is_scalar c then Some (record { value = c; chars = n }) else None

-- what a backslash and this character stand for (ECHAR), or 0
abbrev pub short_escape : ℕ → ℕ
short_escape c =
    if c == 116 then 9 else (if c == 98 then 8 else (if c == 110 then 10 else (if c == 114 then 13 else (if c == 102 then 12
    else (if c == 34 || c == 39 || c == 92 then c else 0)))))

-- behind a backslash: `u` and four hex digits, `U` and eight (UCHAR), or one character (ECHAR) where these are allowed
unfoldable pub escape_at : Bool → List ℕ → Option Escape
escape_at short [] = None
escape_at short (c ∷ cs) =
    if c == 117 then scalar_escape 5 (hex_number 4 0 cs)
    else (if c == 85 then scalar_escape 9 (hex_number 8 0 cs)
    else (if short && not (short_escape c == 0) then Some (record { value = short_escape c; chars = 1 }) else None))

-- ---- texts between marks

abbrev pub starts_with : List ℕ → List ℕ → Bool
starts_with [] cs = true
starts_with (a ∷ as_) [] = false
starts_with (a ∷ as_) (c ∷ cs) = a == c && starts_with as_ cs

abbrev pub closing : Quoting → List ℕ
closing q.Iri = 62 ∷ []
closing (q.Text quote) = quote ∷ []
closing (q.Long quote) = quote ∷ quote ∷ quote ∷ []

abbrev pub has_short_escapes : Quoting → Bool
has_short_escapes q.Iri = false
has_short_escapes (q.Text quote) = true
has_short_escapes (q.Long quote) = true

-- what stands there by itself
abbrev pub stands : Quoting → ℕ → Bool
stands q.Iri c = is_iri_part c
stands (q.Text quote) c = is_text_part quote c
stands (q.Long quote) c = not (c == 92)

-- what `\u` may stand for: what could stand there by itself, and anything in a long text
abbrev pub may_stand_for : Quoting → Escape → Bool
may_stand_for q.Iri e = is_iri_part e.value
may_stand_for (q.Text quote) e = e.chars == 1 || is_text_part quote e.value
may_stand_for (q.Long quote) e = true

-- a piece of a text, and then the rest of it
abbrev pub behind : List ℕ → ℕ → Option Body → Option Body
behind text n None = None
behind text n (Some b) = Some (record { text = text ++ b.text; chars = n + b.chars })

abbrev pub allowed : Quoting → Option Escape → Option Escape
allowed form None = None
allowed form (Some e) = if may_stand_for form e then Some e else None

abbrev pub escape_chars : Option Escape → ℕ
escape_chars None = 0
escape_chars (Some e) = e.chars

-- an escape, and then the rest of the text
abbrev pub escaped : Option Escape → Option Body → Option Body
escaped None rest = None
escaped (Some e) rest = behind (encode_utf8 e.value) (1 + e.chars) rest

abbrev pub escape_in : Quoting → List ℕ → Option Escape
escape_in form cs = allowed form (escape_at (has_short_escapes form) cs)

-- reading goes on behind so many characters of an escape
abbrev pub body_from : Quoting → ℕ → List ℕ → Option Body
body_from form n [] = None
body_from form (suc n) (c ∷ cs) = body_from form n cs
body_from form zero (c ∷ cs) =
    if starts_with (closing form) (c ∷ cs) then Some (record { text = []; chars = length (closing form) })
    else (if c == 92 then escaped (escape_in form cs) (body_from form (escape_chars (escape_in form cs)) cs)
    else (if stands form c then behind (encode_utf8 c) 1 (body_from form zero cs) else None))

unfoldable pub body_at : Quoting → List ℕ → Option Body
body_at form cs = body_from form 0 cs

abbrev pub iri_of : Option Body → Option Found
iri_of None = None
iri_of (Some b) = found (k.Iri b.text) (1 + b.chars)

abbrev pub text_of : Option Body → Option Found
text_of None = None
text_of (Some b) = found (k.Text b.text) (1 + b.chars)

-- three quotes that open no text are an empty one between two of them
abbrev pub long_text_of : Option Body → Option Found
long_text_of None = found (k.Text []) 2
long_text_of (Some b) = found (k.LongText b.text) (3 + b.chars)

-- behind a quote
unfoldable pub quoted_at : ℕ → List ℕ → Option Found
quoted_at quote cs = if starts_with (quote ∷ quote ∷ []) cs then long_text_of (body_at (q.Long quote) (drop 2 cs)) else text_of (body_at (q.Text quote) cs)

-- ---- variables, tags

-- how many characters the name of a variable has
abbrev pub variable_len : List ℕ → ℕ
variable_len [] = 0
variable_len (c ∷ cs) = if is_start c || is_digit c then 1 + prefix_len is_variable_part cs else 0

-- behind `?` or `$`
unfoldable pub variable_at : List ℕ → Option Found
variable_at cs = if variable_len cs == 0 then None else found (k.Variable (encode_utf8_all (take (variable_len cs) cs))) (1 + variable_len cs)

abbrev pub is_tag_part : ℕ → Bool
is_tag_part c = is_letter c || is_digit c

-- the later parts of a tag: a dash counts where a letter or digit follows it
abbrev pub later_tag_len : List ℕ → ℕ
later_tag_len [] = 0
later_tag_len (c ∷ cs) = if is_tag_part c then 1 + later_tag_len cs else (if c == 45 && is_tag_part (head cs) then 1 + later_tag_len cs else 0)

abbrev pub first_tag_len : List ℕ → ℕ
first_tag_len cs = prefix_len is_letter cs

abbrev pub tag_tail_len : List ℕ → ℕ
tag_tail_len cs = if head cs == 45 then later_tag_len cs else 0

unfoldable pub tag_len : List ℕ → ℕ
tag_len cs = first_tag_len cs + tag_tail_len (drop (first_tag_len cs) cs)

abbrev pub lower : List ℕ → List ℕ
lower cs = encode_utf8_all (map to_ascii_lowercase cs)

-- behind `@`: a tag is put into lower case
unfoldable pub tag_at : List ℕ → Option Found
tag_at cs = if is_tag (lower (take (tag_len cs) cs)) then found (k.Tag (lower (take (tag_len cs) cs))) (1 + tag_len cs) else None

-- ---- names

-- `%` and two hex digits, or a backslash and a character that it keeps (PLX), or 0
abbrev pub escaped_len : List ℕ → ℕ
escaped_len [] = 0
escaped_len (c ∷ cs) =
    if c == 37 then (if is_hex (head cs) && is_hex (head (drop 1 cs)) then 3 else 0)
    else (if c == 92 && is_kept (head cs) then 2 else 0)

-- the length of what a name goes on with, or 0; in a local name `:` and escapes too
abbrev pub part_len : Bool → List ℕ → ℕ
part_len local [] = 0
part_len local (c ∷ cs) = if is_part c || (local && c == 58) then 1 else (if local then escaped_len (c ∷ cs) else 0)

-- a full stop counts where something of the name follows it
abbrev pub name_from : Bool → ℕ → List ℕ → ℕ
name_from local n [] = 0
name_from local (suc n) (c ∷ cs) = 1 + name_from local n cs
name_from local zero (c ∷ cs) =
    if c == 46 then (if name_from local zero cs == 0 then 0 else 1 + name_from local zero cs)
    else (if part_len local (c ∷ cs) == 0 then 0 else 1 + name_from local (part_len local (c ∷ cs) - 1) cs)

-- how many characters a name goes on with
unfoldable pub name_len : Bool → List ℕ → ℕ
name_len local cs = name_from local 0 cs

-- behind `_:` (BLANK_NODE_LABEL)
abbrev pub label_len : List ℕ → ℕ
label_len [] = 0
label_len (c ∷ cs) = if is_start c || is_digit c then 1 + name_len false cs else 0

-- behind `_`
unfoldable pub blank_at : List ℕ → Option Found
blank_at [] = None
blank_at (c ∷ cs) = if c == 58 && not (label_len cs == 0) then found (k.Blank (encode_utf8_all (take (label_len cs) cs))) (2 + label_len cs) else None

-- a local name (PN_LOCAL)
abbrev pub local_len : List ℕ → ℕ
local_len [] = 0
local_len (c ∷ cs) = if is_start c || c == 58 || is_digit c || not (escaped_len (c ∷ cs) == 0) then name_len true (c ∷ cs) else 0

abbrev pub is_no_backslash : ℕ → Bool
is_no_backslash c = not (c == 92)

-- a local name's text: a backslash stands only before what it keeps
abbrev pub local_text : List ℕ → List ℕ
local_text cs = encode_utf8_all (filter is_no_backslash (take (local_len cs) cs))

-- a prefix and its colon, behind which the local name stands
unfoldable pub named_at : List ℕ → List ℕ → Option Found
named_at prefix cs = found (k.Named (encode_utf8_all prefix) (local_text cs)) (length prefix + 1 + local_len cs)

-- how many characters of a prefix stand before its colon: a full stop isn't the last one (PN_PREFIX)
abbrev pub one_more : Option ℕ → Option ℕ
one_more None = None
one_more (Some n) = Some (1 + n)

abbrev pub to_colon : List ℕ → Option ℕ
to_colon [] = None
to_colon (c ∷ cs) =
    if c == 58 then Some 0
    else (if is_part c || (c == 46 && not (head cs == 58)) then one_more (to_colon cs) else None)

-- a word is the longest run of letters, digits and `_`
unfoldable pub word_at : List ℕ → Option Found
word_at cs = found (k.Word (word_of (take (prefix_len is_word_part cs) cs))) (prefix_len is_word_part cs)

abbrev pub name_or_word : List ℕ → Option ℕ → Option Found
name_or_word cs (Some n) = named_at (take n cs) (drop (n + 1) cs)
name_or_word cs None = if is_letter (head cs) then word_at cs else None

-- ---- numbers

abbrev pub sign_len : List ℕ → ℕ
sign_len cs = if head cs == 43 || head cs == 45 then 1 else 0

abbrev pub digits_len : List ℕ → ℕ
digits_len cs = prefix_len is_digit cs

-- `e`, a sign that may be left out, and digits (EXPONENT), or 0
unfoldable pub exponent_len : List ℕ → ℕ
exponent_len [] = 0
exponent_len (c ∷ cs) =
    if (c == 101 || c == 69) && not (digits_len (drop (sign_len cs) cs) == 0) then 1 + sign_len cs + digits_len (drop (sign_len cs) cs) else 0

abbrev pub number : (List ℕ → TokenKind) → ℕ → List ℕ → Option Found
number kind n cs = found (kind (encode_utf8_all (take n cs))) n

-- behind a sign and so many whole digits, where a full stop follows: so many digits behind it, and an exponent of this length
abbrev pub with_point : (whole fraction exponent at : ℕ) → List ℕ → Option Found
with_point whole fraction exponent at cs =
    if not (whole + fraction == 0) && not (exponent == 0) then number (λ t. k.Double t) (at + 1 + fraction + exponent) cs
    else (if not (fraction == 0) then number (λ t. k.Decimal t) (at + 1 + fraction) cs
    else (if not (whole == 0) then number (λ t. k.Integer t) at cs else None))

abbrev pub without_point : (whole exponent at : ℕ) → List ℕ → Option Found
without_point whole exponent at cs =
    if whole == 0 then None else (if exponent == 0 then number (λ t. k.Integer t) at cs else number (λ t. k.Double t) (at + exponent) cs)

abbrev pub number_behind : ℕ → ℕ → List ℕ → List ℕ → Option Found
number_behind at whole [] cs = without_point whole 0 at cs
number_behind at whole (c ∷ rest) cs =
    if c == 46 then with_point whole (digits_len rest) (exponent_len (drop (digits_len rest) rest)) at cs
    else without_point whole (exponent_len (c ∷ rest)) at cs

-- an integer, a decimal or a double
unfoldable pub number_at : List ℕ → Option Found
number_at cs =
    let whole = digits_len (drop (sign_len cs) cs) in
    number_behind (sign_len cs + whole) whole (drop (sign_len cs + whole) cs) cs

-- ---- marks

abbrev pub mark_of_two : ℕ → ℕ → Option Mark
mark_of_two c d =
    if c == 33 && d == 61 then Some m.NotEqual else (if c == 60 && d == 61 then Some m.LessEqual
    else (if c == 62 && d == 61 then Some m.GreaterEqual else (if c == 38 && d == 38 then Some m.And
    else (if c == 124 && d == 124 then Some m.Or else (if c == 94 && d == 94 then Some m.TwoCarets else None)))))

abbrev pub mark_of_one : ℕ → Option Mark
mark_of_one c =
    if c == 123 then Some m.OpenBrace else (if c == 125 then Some m.CloseBrace else (if c == 40 then Some m.OpenBracket
    else (if c == 41 then Some m.CloseBracket else (if c == 91 then Some m.OpenSquare else (if c == 93 then Some m.CloseSquare
    else (if c == 46 then Some m.Dot else (if c == 59 then Some m.Semicolon else (if c == 44 then Some m.Comma
    else (if c == 42 then Some m.Star else (if c == 47 then Some m.Slash else (if c == 43 then Some m.Plus
    else (if c == 45 then Some m.Minus else (if c == 61 then Some m.Equal else (if c == 60 then Some m.Less
    else (if c == 62 then Some m.Greater else (if c == 33 then Some m.Not else (if c == 124 then Some m.Pipe
    else (if c == 94 then Some m.Caret else (if c == 63 then Some m.Question else None)))))))))))))))))))

abbrev pub marked : ℕ → Option Mark → Option Found
marked n None = None
marked n (Some mark) = found (k.Mark mark) n

abbrev pub or_else : Option Found → Option Found → Option Found
or_else (Some f) g = Some f
or_else None g = g

-- the longest mark
unfoldable pub mark_at : List ℕ → Option Found
mark_at cs = or_else (marked 2 (mark_of_two (head cs) (head (drop 1 cs)))) (marked 1 (mark_of_one (head cs)))

-- ---- the token that begins in front, at its longest, where one does: its first character tells its kind, or that it is one of two
-- of which the first is the longer one
unfoldable pub token_at : List ℕ → Option Found
token_at [] = None
token_at (c ∷ cs) =
    if c == 60 then or_else (iri_of (body_at q.Iri cs)) (mark_at (c ∷ cs))
    else (if c == 34 || c == 39 then quoted_at c cs
    else (if c == 63 || c == 36 then or_else (variable_at cs) (mark_at (c ∷ cs))
    else (if c == 64 then tag_at cs
    else (if c == 58 then named_at [] cs
    else (if c == 95 then blank_at cs
    else (if is_base c then name_or_word (c ∷ cs) (to_colon (c ∷ cs))
    else or_else (number_at (c ∷ cs)) (mark_at (c ∷ cs))))))))
