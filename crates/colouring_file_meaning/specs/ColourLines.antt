-- The lines of a colouring file (this project's own; an IRI is that of N-Triples 1.1, IRIREF).
use Rattle.std.specs.Prelude.{◌≡◌, ◌≤◌, ◌<◌, ◌⊎◌, ◌+◌, ◌&&◌, ℕ, pos, Bool, true, false, nat_eq, List, [], ◌∷◌, ◌++◌, length, Option, Some, None, encode_utf8_all}
use Rattle.std.specs.List.{list_any, AllByRecursion, IsDistinct}
use Rattle.std.specs.Str.{IsUtf8, chars}
use Rattle.std.specs.Cmp.Lexicographic.{pointwise}
use Rattle.rdf_meaning.specs.declared.side.SideName.{SideName}
use Rattle.rdf_meaning.specs.declared.side.SideName.TheVariants.{Direct, Reverse}
use Rattle.table_meaning.specs.Ints.{SpellsInt}
use Rattle.line_meaning.specs.declared.enclosure.Enclosure.TheVariants.{Iri}
use Rattle.line_meaning.specs.Grammar.{Encloses, SpellsNothing}
use Rattle.line_meaning.specs.Lines.{Line}
use Rattle.line_meaning.specs.Changes.{Refused, TooLong, Bad}

-- the column, counted from 0, that a predicate with this IRI has on a side
pub record ColourOf : Type 0 where
  pub side : SideName
  pub iri : List ℕ
  pub column : ℕ

abbrev pub letter_of : SideName → ℕ
letter_of Direct = 68
letter_of Reverse = 82

-- `D` or `R`, one space, an IRI, one space, and the column's number from 1 on in decimal without leading zero
pub record SpellsColour (cs : List ℕ) (c : ColourOf) : Type 0 where
  pub written : List ℕ
  pub digits : List ℕ
  pub enclosed : Encloses Iri written c.iri
  pub number : SpellsInt (encode_utf8_all digits) (pos (c.column + 1))
  pub whole : cs ≡ letter_of c.side ∷ 32 ∷ (written ++ 32 ∷ digits)

-- what the characters of a line say: a colour, or nothing
abbrev pub ColourCharacters : List ℕ → Option ColourOf → Type 0
ColourCharacters cs None = SpellsNothing cs
ColourCharacters cs (Some c) = SpellsColour cs c

abbrev pub ColourLineReads : List ℕ → Option ColourOf → Type 0
ColourLineReads line o = IsUtf8 line × ColourCharacters (chars line) o

-- how many columns a side has
abbrev pub columns_on : ℕ → ℕ → SideName → ℕ
columns_on direct reverse Direct = direct
columns_on direct reverse Reverse = reverse

abbrev pub same_side : SideName → SideName → Bool
same_side Direct Direct = true
same_side Direct Reverse = false
same_side Reverse Direct = false
same_side Reverse Reverse = true

-- the same side and the same IRI
abbrev pub same_place : ColourOf → ColourOf → Bool
same_place a b = same_side a.side b.side && pointwise nat_eq a.iri b.iri

abbrev pub given_by : Option ColourOf → List ColourOf
given_by None = []
given_by (Some c) = c ∷ []

-- the side has the column, and no line before has the side and the IRI; these are the colours of those lines
abbrev pub Fits : ℕ → ℕ → List ColourOf → Option ColourOf → Type 0
Fits direct reverse seen None = Unit {0}
Fits direct reverse seen (Some c) = (c.column < columns_on direct reverse c.side) × (list_any (same_place c) seen ≡ false)

pub record ColourReadsAs (direct reverse : ℕ) (seen : List ColourOf) (line : Line) (o : Option ColourOf) : Type 0 where
  pub within : length line.text ≤ 65536
  pub reads : ColourLineReads line.text o
  pub fits : Fits direct reverse seen o

-- each line reads, and these are the colours in their order
abbrev pub ColourLinesRead : ℕ → ℕ → List ColourOf → List Line → List ColourOf → Type 0
ColourLinesRead direct reverse seen [] colours = colours ≡ []
ColourLinesRead direct reverse seen (line ∷ lines) colours =
    (o : Option ColourOf) × (others : List ColourOf) × ColourReadsAs direct reverse seen line o × ColourLinesRead direct reverse (seen ++ given_by o) lines others
    × (colours ≡ given_by o ++ others)

-- why a line is refused: it is too long, or else it reads as nothing that fits
abbrev pub IsColourRefusedFor : ℕ → ℕ → List ColourOf → Line → Refused → Type 0
IsColourRefusedFor direct reverse seen line (TooLong n) = (n ≡ line.number) × (65536 < length line.text)
IsColourRefusedFor direct reverse seen line (Bad n) =
    (n ≡ line.number) × (length line.text ≤ 65536) × ((o : Option ColourOf) → ColourLineReads line.text o → Fits direct reverse seen o → ⊥)

-- the first line that is refused, behind lines that read
abbrev pub FirstColourRefused : ℕ → ℕ → List ColourOf → List Line → Refused → Type 0
FirstColourRefused direct reverse seen [] refused = ⊥
FirstColourRefused direct reverse seen (line ∷ lines) refused =
    IsColourRefusedFor direct reverse seen line refused
    ⊎ ((o : Option ColourOf) × ColourReadsAs direct reverse seen line o × FirstColourRefused direct reverse (seen ++ given_by o) lines refused)

-- what columns of both sides ask of known ones: each is below its side's count, and no side has an IRI twice
pub record AreFit (direct reverse : ℕ) (colours : List ColourOf) : Type 0 where
  pub below : AllByRecursion (λ c. c.column < columns_on direct reverse c.side) colours
  pub once : IsDistinct same_place colours
