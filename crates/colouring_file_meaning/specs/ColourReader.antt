-- What a line of a colouring file says, found from its front, and what a text says.
use Rattle.std.specs.Prelude.{ℕ, zero, suc, ℤ, pos, negsuc, Bool, false, ◌==◌, nat_lt, if◌then◌else◌, List, [], ◌∷◌, ◌++◌, length, Option, Some, None, option_map, Result, Ok, Err, encode_utf8_all}
use Rattle.std.specs.List.{list_any}
use Rattle.std.specs.Str.{is_utf8, chars}
use Rattle.rdf_meaning.specs.declared.side.SideName.{SideName}
use Rattle.rdf_meaning.specs.declared.side.SideName.TheVariants.{Direct, Reverse}
use Rattle.table_meaning.specs.Ints.{int_of}
use Rattle.line_meaning.specs.Lines.{Line, lines_of}
use Rattle.line_meaning.specs.Reader.{◌>>=◌, after_blanks, after_char, is_end, iri_at}
use Rattle.line_meaning.specs.Changes.{Refused, TooLong, Bad}
use Rattle.colouring_file_meaning.specs.ColourLines.{ColourOf, columns_on, same_place, given_by}

-- the side that a letter names, and what follows
abbrev pub side_at : List ℕ → Option (SideName × List ℕ)
side_at [] = None
side_at (c ∷ cs) = if c == 68 then Some (Direct, cs) else (if c == 82 then Some (Reverse, cs) else None)

-- a column below the count, by its number from 1 on
abbrev pub column_of_number : ℕ → ℤ → Option ℕ
column_of_number count (pos zero) = None
column_of_number count (pos (suc n)) = if nat_lt n count then Some n else None
column_of_number count (negsuc n) = None

abbrev pub column_in : ℕ → List ℕ → Option ℕ
column_in count bytes = int_of bytes >>= column_of_number count

-- a line that is a colour
unfoldable pub colour_at : ℕ → ℕ → List ℕ → Option ColourOf
colour_at direct reverse cs = do
  side ← side_at cs
  rest ← after_char 32 side.1
  iri ← iri_at rest
  digits ← after_char 32 iri.1
  column ← column_in (columns_on direct reverse side.0) (encode_utf8_all digits)
  Some (record { side = side.0; iri = iri.0; column = column })

-- a line that is nothing, or a colour
abbrev pub colour_content : ℕ → ℕ → List ℕ → Option (Option ColourOf)
colour_content direct reverse cs = if is_end (after_blanks cs) then Some None else option_map (λ c. Some c) (colour_at direct reverse cs)

unfoldable pub colour_reading_of : ℕ → ℕ → List ℕ → Option (Option ColourOf)
colour_reading_of direct reverse line = if is_utf8 line then colour_content direct reverse (chars line) else None

-- whether a side and an IRI stand twice
abbrev pub is_repeated : List ColourOf → Option ColourOf → Bool
is_repeated seen None = false
is_repeated seen (Some c) = list_any (same_place c) seen

-- the colours after a line, by what it says
abbrev pub with_reading : ℕ → List ColourOf → Option (Option ColourOf) → Result (List ColourOf) Refused
with_reading n seen None = Err (Bad n)
with_reading n seen (Some o) = if is_repeated seen o then Err (Bad n) else Ok (seen ++ given_by o)

abbrev pub with_line : ℕ → ℕ → List ColourOf → Line → Result (List ColourOf) Refused
with_line direct reverse seen line =
    if nat_lt 65536 (length line.text) then Err (TooLong line.number) else with_reading line.number seen (colour_reading_of direct reverse line.text)

-- the colours after all lines
abbrev pub with_lines : ℕ → ℕ → Result (List ColourOf) Refused → List Line → Result (List ColourOf) Refused
with_lines direct reverse (Err why) lines = Err why
with_lines direct reverse (Ok seen) [] = Ok seen
with_lines direct reverse (Ok seen) (line ∷ lines) = with_lines direct reverse (with_line direct reverse seen line) lines

abbrev pub colours_of : ℕ → ℕ → List ℕ → Result (List ColourOf) Refused
colours_of direct reverse bytes = with_lines direct reverse (Ok []) (lines_of bytes)
