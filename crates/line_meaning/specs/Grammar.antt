-- The grammar of the lines of data file n, on the characters of a line (N-Triples 1.1, section 7; the marks of changes, the case of
-- tags, what escapes may stand for and how files keep their labels apart are this project's own).
use Rattle.std.specs.Prelude.{◌≡◌, ◌⊎◌, ℕ, Bool, true, List, [], ◌∷◌, ◌++◌, length, map, Some, encode_utf8_all}
use Rattle.std.specs.Str.{IsUtf8, chars}
use Rattle.rdf_meaning.specs.declared.text.KnownDatatype.TheVariants.{String}
use Rattle.rdf_meaning.specs.Known.{known_bytes}
use Rattle.rdf_meaning.specs.Terms.{RdfTerm, RdfTriple, iri, typed, tagged, is_label_of, is_tag}
use Rattle.line_meaning.specs.declared.enclosure.Enclosure.{Enclosure}
use Rattle.line_meaning.specs.declared.enclosure.Enclosure.TheVariants.{Iri, Text}
use Rattle.line_meaning.specs.Characters.{is_blank, close_of, stands_raw, short_escape, hex_from, is_scalar, digits_of_mark, lower}
use Rattle.line_meaning.specs.Labels.{blank_in}
use Rattle.line_meaning.specs.Lines.{Reading, Nothing, Adds, Deletes}

-- each character passes the test
abbrev pub Each : (ℕ → Bool) → List ℕ → Type 0
Each p [] = Unit {0}
Each p (c ∷ cs) = (p c ≡ true) × Each p cs

-- a character that stands for itself
pub record SpellsRaw (form : Enclosure) (written : List ℕ) (c : ℕ) : Type 0 where
  pub raw : stands_raw form c ≡ true
  pub whole : written ≡ c ∷ []

-- a backslash and a letter (ECHAR)
pub record SpellsShort (form : Enclosure) (written : List ℕ) (c : ℕ) : Type 0 where
  pub letter : ℕ
  pub short : short_escape form letter ≡ Some c
  pub whole : written ≡ 92 ∷ letter ∷ []

-- a backslash, `u` or `U` and four or eight digits (UCHAR), for a character that is no surrogate
pub record SpellsCode (written : List ℕ) (c : ℕ) : Type 0 where
  pub mark : ℕ
  pub digits : List ℕ
  pub count : digits_of_mark mark ≡ Some (length digits)
  pub number : hex_from 0 digits ≡ Some c
  pub scalar : is_scalar c ≡ true
  pub whole : written ≡ 92 ∷ mark ∷ digits

abbrev pub SpellsCharacter : Enclosure → List ℕ → ℕ → Type 0
SpellsCharacter form written c = SpellsRaw form written c ⊎ (SpellsShort form written c ⊎ SpellsCode written c)

-- one character after the other
abbrev pub SpellsCharacters : Enclosure → List ℕ → List ℕ → Type 0
SpellsCharacters form written [] = written ≡ []
SpellsCharacters form written (c ∷ cs) =
    (front : List ℕ) × (back : List ℕ) × (written ≡ front ++ back) × SpellsCharacter form front c × SpellsCharacters form back cs

abbrev pub open_of : Enclosure → ℕ
open_of Iri = 60
open_of Text = 34

-- a text between its two marks (IRIREF, STRING_LITERAL_QUOTE)
pub record Encloses (form : Enclosure) (written text : List ℕ) : Type 0 where
  pub inner : List ℕ
  pub meant : List ℕ
  pub spelled : SpellsCharacters form inner meant
  pub text_is : text ≡ encode_utf8_all meant
  pub whole : written ≡ open_of form ∷ (inner ++ close_of form ∷ [])

-- an IRI
pub record SpellsIri (written : List ℕ) (t : RdfTerm) : Type 0 where
  pub text : List ℕ
  pub enclosed : Encloses Iri written text
  pub term : t ≡ iri text

-- `_:` and a label (BLANK_NODE_LABEL), which belongs to file n
pub record SpellsBlank (n : ℕ) (written : List ℕ) (t : RdfTerm) : Type 0 where
  pub label : List ℕ
  pub fine : is_label_of label ≡ true
  pub whole : written ≡ 95 ∷ 58 ∷ label
  pub term : t ≡ blank_in n (encode_utf8_all label)

-- a text alone, which has the type xsd:string
pub record SpellsPlain (written : List ℕ) (t : RdfTerm) : Type 0 where
  pub text : List ℕ
  pub enclosed : Encloses Text written text
  pub term : t ≡ typed text (known_bytes String)

-- a text and a tag in any case, which counts in lower case (LANGTAG)
pub record SpellsTagged (written : List ℕ) (t : RdfTerm) : Type 0 where
  pub front : List ℕ
  pub text : List ℕ
  pub tag : List ℕ
  pub enclosed : Encloses Text front text
  pub fine : is_tag (map lower tag) ≡ true
  pub whole : written ≡ front ++ 64 ∷ tag
  pub term : t ≡ tagged text (map lower tag)

-- a text, `^^` and an IRI
pub record SpellsTyped (written : List ℕ) (t : RdfTerm) : Type 0 where
  pub front : List ℕ
  pub back : List ℕ
  pub text : List ℕ
  pub datatype : List ℕ
  pub enclosed : Encloses Text front text
  pub typed_by : Encloses Iri back datatype
  pub whole : written ≡ front ++ 94 ∷ 94 ∷ back
  pub term : t ≡ typed text datatype

abbrev pub SpellsSubject : ℕ → List ℕ → RdfTerm → Type 0
SpellsSubject n written t = SpellsIri written t ⊎ SpellsBlank n written t

abbrev pub SpellsLiteral : List ℕ → RdfTerm → Type 0
SpellsLiteral written t = SpellsPlain written t ⊎ (SpellsTagged written t ⊎ SpellsTyped written t)

abbrev pub SpellsObject : ℕ → List ℕ → RdfTerm → Type 0
SpellsObject n written t = SpellsSubject n written t ⊎ SpellsLiteral written t

-- subject, predicate, object and a full stop, with or without blanks between them
pub record SpellsTriple (n : ℕ) (written : List ℕ) (triple : RdfTriple) : Type 0 where
  pub s : List ℕ
  pub after_s : List ℕ
  pub p : List ℕ
  pub after_p : List ℕ
  pub o : List ℕ
  pub after_o : List ℕ
  pub subject : SpellsSubject n s triple.s
  pub after_s_blank : Each is_blank after_s
  pub predicate : SpellsIri p triple.p
  pub after_p_blank : Each is_blank after_p
  pub object : SpellsObject n o triple.o
  pub after_o_blank : Each is_blank after_o
  pub whole : written ≡ s ++ (after_s ++ (p ++ (after_p ++ (o ++ (after_o ++ 46 ∷ [])))))

-- nothing, or a comment
abbrev pub IsComment : List ℕ → Type 0
IsComment written = (written ≡ []) ⊎ ((rest : List ℕ) × (written ≡ 35 ∷ rest))

-- blanks and a comment
pub record SpellsNothing (written : List ℕ) : Type 0 where
  pub before : List ℕ
  pub comment : List ℕ
  pub before_blank : Each is_blank before
  pub is_comment : IsComment comment
  pub whole : written ≡ before ++ comment

-- blanks, a mark, a triple, blanks and a comment
pub record SpellsChange (n : ℕ) (mark written : List ℕ) (triple : RdfTriple) : Type 0 where
  pub before : List ℕ
  pub body : List ℕ
  pub after : List ℕ
  pub comment : List ℕ
  pub before_blank : Each is_blank before
  pub spelled : SpellsTriple n body triple
  pub after_blank : Each is_blank after
  pub is_comment : IsComment comment
  pub whole : written ≡ before ++ (mark ++ (body ++ (after ++ comment)))

-- a letter and at least one blank
pub record IsMark (letter : ℕ) (mark : List ℕ) : Type 0 where
  pub first : ℕ
  pub others : List ℕ
  pub first_blank : is_blank first ≡ true
  pub others_blank : Each is_blank others
  pub whole : mark ≡ letter ∷ first ∷ others

-- a change behind a mark
abbrev pub SpellsMarked : ℕ → ℕ → List ℕ → RdfTriple → Type 0
SpellsMarked n letter written triple = (mark : List ℕ) × IsMark letter mark × SpellsChange n mark written triple

-- what the characters of a line say
abbrev pub CharactersRead : ℕ → List ℕ → Reading → Type 0
CharactersRead n cs Nothing = SpellsNothing cs
CharactersRead n cs (Adds triple) = SpellsChange n [] cs triple ⊎ SpellsMarked n 65 cs triple
CharactersRead n cs (Deletes triple) = SpellsMarked n 68 cs triple

-- what a line of bytes says in file n: it is UTF-8, and its characters are in the grammar
abbrev pub LineReads : ℕ → List ℕ → Reading → Type 0
LineReads n line r = IsUtf8 line × CharactersRead n (chars line) r
