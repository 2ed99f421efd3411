-- What a line of data file n says, found from its front.
use Rattle.std.specs.Prelude.{ℕ, zero, suc, ◌+◌, Bool, true, false, List, [], ◌∷◌, ◌++◌, length, take, drop, Option, Some, None, ◌==◌, ◌||◌, if◌then◌else◌, option_map, map, reverse, nat_le, encode_utf8, encode_utf8_all}
use Rattle.std.specs.List.{prefix_len}
use Rattle.std.specs.Str.{is_utf8, chars}
use Rattle.rdf_meaning.specs.declared.text.KnownDatatype.TheVariants.{String}
use Rattle.rdf_meaning.specs.Known.{known_bytes}
use Rattle.rdf_meaning.specs.Characters.{is_label_part}
use Rattle.rdf_meaning.specs.Terms.{RdfTerm, RdfTriple, iri, typed, tagged, is_label_of, is_tag}
use Rattle.line_meaning.specs.declared.enclosure.Enclosure.{Enclosure}
use Rattle.line_meaning.specs.declared.enclosure.Enclosure.TheVariants.{Iri, Text}
use Rattle.line_meaning.specs.Characters.{is_blank, close_of, stands_raw, short_escape, hex_from, is_scalar, digits_of_mark, is_tag_part, lower}
use Rattle.line_meaning.specs.Labels.{blank_in}
use Rattle.line_meaning.specs.Lines.{Reading, Nothing, Adds, Deletes}

infixl 10 ◌>>=◌
abbrev pub ◌>>=◌ : {A B : Type 0} → Option A → (A → Option B) → Option B
None >>= f = None
(Some x) >>= f = f x

abbrev pub after_blanks : List ℕ → List ℕ
after_blanks cs = drop (prefix_len is_blank cs) cs

-- what follows this character
abbrev pub after_char : ℕ → List ℕ → Option (List ℕ)
after_char c [] = None
after_char c (d ∷ cs) = if d == c then Some cs else None

-- a number that is a character's
abbrev pub scalar_of : Option ℕ → Option ℕ
scalar_of None = None
scalar_of (Some c) = if is_scalar c then Some c else None

-- the character that so many digits at the front stand for
unfoldable pub code_at : ℕ → List ℕ → Option ℕ
code_at n cs = if nat_le n (length cs) then scalar_of (hex_from 0 (take n cs)) else None

-- a character and how many of those that follow the first belong to it
abbrev pub with_count : ℕ → Option ℕ → Option (ℕ × ℕ)
with_count n None = None
with_count n (Some c) = Some (c, n)

abbrev pub coded_at : Enclosure → ℕ → List ℕ → Option ℕ → Option (ℕ × ℕ)
coded_at form c cs (Some n) = with_count (n + 1) (code_at n cs)
coded_at form c cs None = with_count 1 (short_escape form c)

-- what an escape stands for, behind its backslash
unfoldable pub escape_at : Enclosure → List ℕ → Option (ℕ × ℕ)
escape_at form [] = None
escape_at form (c ∷ cs) = coded_at form c cs (digits_of_mark c)

-- what the front stands for between two marks
unfoldable pub piece_at : Enclosure → ℕ → List ℕ → Option (ℕ × ℕ)
piece_at form c cs = if c == 92 then escape_at form cs else (if stands_raw form c then Some (c, 0) else None)

-- a text before what was read
abbrev pub onto : List ℕ → Option (List ℕ × List ℕ) → Option (List ℕ × List ℕ)
onto front None = None
onto front (Some x) = Some (front ++ x.0, x.1)

-- The text up to the mark that closes it, and what follows the mark; the first n characters belong to what was read before.
abbrev pub text_behind : Enclosure → ℕ → List ℕ → Option (List ℕ × List ℕ)
text_behind form n [] = None
text_behind form (suc n) (c ∷ cs) = text_behind form n cs
text_behind form zero (c ∷ cs) = if c == close_of form then Some ([], cs) else (piece_at form c cs >>= λ piece. onto (encode_utf8 piece.0) (text_behind form piece.1 cs))

unfoldable pub text_at : Enclosure → List ℕ → Option (List ℕ × List ℕ)
text_at form cs = text_behind form 0 cs

-- an IRI in brackets, and what follows
unfoldable pub iri_at : List ℕ → Option (List ℕ × List ℕ)
iri_at cs = after_char 60 cs >>= λ inner. text_at Iri inner

abbrev pub iri_term_at : List ℕ → Option (RdfTerm × List ℕ)
iri_term_at cs = option_map (λ x. (iri x.0, x.1)) (iri_at cs)

abbrev pub is_label_or_dot : ℕ → Bool
is_label_or_dot c = is_label_part c || c == 46

abbrev pub is_dot : ℕ → Bool
is_dot c = c == 46

abbrev pub without_last_dots : List ℕ → List ℕ
without_last_dots cs = reverse (drop (prefix_len is_dot (reverse cs)) (reverse cs))

-- the longest text that may be a label: full stops that stand last are none of it
abbrev pub label_run : List ℕ → List ℕ
label_run cs = without_last_dots (take (prefix_len is_label_or_dot cs) cs)

-- a label, and what follows
unfoldable pub label_at : List ℕ → Option (List ℕ × List ℕ)
label_at cs = if is_label_of (label_run cs) then Some (encode_utf8_all (label_run cs), drop (length (label_run cs)) cs) else None

unfoldable pub blank_at : ℕ → List ℕ → Option (RdfTerm × List ℕ)
blank_at n cs = do
  rest ← after_char 95 cs
  rest ← after_char 58 rest
  label ← label_at rest
  Some (blank_in n label.0, label.1)

-- whether this character stands in front
abbrev pub starts : ℕ → List ℕ → Bool
starts c [] = false
starts c (d ∷ cs) = d == c

unfoldable pub subject_at : ℕ → List ℕ → Option (RdfTerm × List ℕ)
subject_at n cs = if starts 60 cs then iri_term_at cs else blank_at n cs

-- the longest text that may be a tag, in lower case
abbrev pub tag_run : List ℕ → List ℕ
tag_run cs = encode_utf8_all (map lower (take (prefix_len is_tag_part cs) cs))

-- a literal of this text with a tag
unfoldable pub tagged_at : List ℕ → List ℕ → Option (RdfTerm × List ℕ)
tagged_at text cs = if is_tag (tag_run cs) then Some (tagged text (tag_run cs), drop (prefix_len is_tag_part cs) cs) else None

-- a literal of this text with a datatype
unfoldable pub typed_at : List ℕ → List ℕ → Option (RdfTerm × List ℕ)
typed_at text cs = do
  rest ← after_char 94 cs
  datatype ← iri_at rest
  Some (typed text datatype.0, datatype.1)

-- what follows the text of a literal
unfoldable pub literal_of : List ℕ → List ℕ → Option (RdfTerm × List ℕ)
literal_of text [] = Some (typed text (known_bytes String), [])
literal_of text (c ∷ cs) =
    if c == 64 then tagged_at text cs
    else (if c == 94 then typed_at text cs else Some (typed text (known_bytes String), c ∷ cs))

unfoldable pub literal_at : List ℕ → Option (RdfTerm × List ℕ)
literal_at cs = do
  inner ← after_char 34 cs
  text ← text_at Text inner
  literal_of text.0 text.1

unfoldable pub object_at : ℕ → List ℕ → Option (RdfTerm × List ℕ)
object_at n cs = if starts 34 cs then literal_at cs else subject_at n cs

-- a triple with its full stop, and what follows
unfoldable pub triple_at : ℕ → List ℕ → Option (RdfTriple × List ℕ)
triple_at n cs = do
  s ← subject_at n cs
  p ← iri_term_at (after_blanks s.1)
  o ← object_at n (after_blanks p.1)
  rest ← after_char 46 (after_blanks o.1)
  Some (record { s = s.0; p = p.0; o = o.0 }, rest)

-- nothing, or a comment
abbrev pub is_end : List ℕ → Bool
is_end [] = true
is_end (c ∷ cs) = c == 35

-- a triple that goes to the end of the line
unfoldable pub last_triple : ℕ → List ℕ → Option RdfTriple
last_triple n cs = triple_at n cs >>= λ x. if is_end (after_blanks x.1) then Some x.0 else None

-- behind at least one blank
unfoldable pub after_gap : List ℕ → Option (List ℕ)
after_gap [] = None
after_gap (c ∷ cs) = if is_blank c then Some (after_blanks cs) else None

abbrev pub marked : ℕ → (RdfTriple → Reading) → List ℕ → Option Reading
marked n says cs = option_map says (after_gap cs >>= last_triple n)

-- what stands behind the first blanks of a line
unfoldable pub content : ℕ → List ℕ → Option Reading
content n [] = Some Nothing
content n (c ∷ cs) =
    if c == 35 then Some Nothing else (if c == 65 then marked n Adds cs else (if c == 68 then marked n Deletes cs else option_map Adds (last_triple n (c ∷ cs))))

-- what the characters of a line say
abbrev pub chars_reading : ℕ → List ℕ → Option Reading
chars_reading n cs = content n (after_blanks cs)

-- what a line of bytes says
unfoldable pub reading_of : ℕ → List ℕ → Option Reading
reading_of n line = if is_utf8 line then chars_reading n (chars line) else None
