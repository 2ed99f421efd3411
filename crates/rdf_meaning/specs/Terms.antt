-- Terms and triples (RDF 1.1 Concepts, section 3), as contracts see them.
use Rattle.std.specs.Prelude.{ℕ, Bool, true, false, ◌&&◌, ◌||◌, ◌==◌, not, if◌then◌else◌, List, [], ◌∷◌}
use Rattle.std.specs.Str.{chars, bytes_eq}
use Rattle.rdf_meaning.specs.declared.kind.TermKind.{TermKind}
use Rattle.rdf_meaning.specs.declared.kind.TermKind.TheVariants.{Iri, Blank, Tagged, Typed}
use Rattle.rdf_meaning.specs.Characters.{is_label_start, is_label_part, is_digit, is_small_letter}

-- a term: its kind, its text, and its tag or the IRI of its datatype
pub record RdfTerm : Type 0 where
  pub kind : TermKind
  pub text : List ℕ
  pub aux : List ℕ

-- subject, predicate, object
pub record RdfTriple : Type 0 where
  pub s : RdfTerm
  pub p : RdfTerm
  pub o : RdfTerm

abbrev pub is_empty : {X : Type 0} → List X → Bool
is_empty [] = true
is_empty (x ∷ xs) = false

-- the characters of a label behind its first one: a full stop doesn't stand last
abbrev pub goes_on_as_label : List ℕ → Bool
goes_on_as_label [] = true
goes_on_as_label (c ∷ cs) = if c == 46 then not (is_empty cs) && goes_on_as_label cs else is_label_part c && goes_on_as_label cs

-- the characters of a label (N-Triples 1.1, BLANK_NODE_LABEL)
abbrev pub is_label_of : List ℕ → Bool
is_label_of [] = false
is_label_of (c ∷ cs) = (is_label_start c || is_digit c) && goes_on_as_label cs

-- the label of a blank node
unfoldable pub is_label : List ℕ → Bool
is_label bytes = is_label_of (chars bytes)

-- The rest of a tag in lower case: a first part of letters, later parts of letters and digits, a dash before each of these.
-- `first` tells that the first part goes on, `some` that the running part isn't empty.
abbrev pub goes_on_as_tag : (first some : Bool) → List ℕ → Bool
goes_on_as_tag first some [] = some
goes_on_as_tag first some (b ∷ bs) =
    if b == 45 then some && goes_on_as_tag false false bs
    else (is_small_letter b || (not first && is_digit b)) && goes_on_as_tag first true bs

-- a language tag in lower case (N-Triples 1.1, LANGTAG)
abbrev pub is_tag : List ℕ → Bool
is_tag bytes = goes_on_as_tag true false bytes

-- what the parts of a term keep to
abbrev pub is_term : TermKind → List ℕ → List ℕ → Bool
is_term Iri text aux = is_empty aux
is_term Blank text aux = is_empty aux && is_label text
is_term Tagged text aux = is_tag aux
is_term Typed text aux = true

abbrev pub can_be_subject : TermKind → Bool
can_be_subject Iri = true
can_be_subject Blank = true
can_be_subject Tagged = false
can_be_subject Typed = false

abbrev pub can_be_predicate : TermKind → Bool
can_be_predicate Iri = true
can_be_predicate Blank = false
can_be_predicate Tagged = false
can_be_predicate Typed = false

abbrev pub iri : List ℕ → RdfTerm
iri text = record { kind = Iri; text = text; aux = [] }

abbrev pub typed : List ℕ → List ℕ → RdfTerm
typed text datatype = record { kind = Typed; text = text; aux = datatype }

abbrev pub tagged : List ℕ → List ℕ → RdfTerm
tagged text tag = record { kind = Tagged; text = text; aux = tag }

-- the blank node that a label stands for: the one place where labels become terms
abbrev pub blank : List ℕ → RdfTerm
blank label = record { kind = Blank; text = label; aux = [] }

abbrev pub same_kind : TermKind → TermKind → Bool
same_kind Iri Iri = true
same_kind Blank Blank = true
same_kind Tagged Tagged = true
same_kind Typed Typed = true
same_kind _ _ = false

-- equal in all three parts
abbrev pub same_term : RdfTerm → RdfTerm → Bool
same_term a b = same_kind a.kind b.kind && (bytes_eq a.text b.text && bytes_eq a.aux b.aux)

abbrev pub same_triple : RdfTriple → RdfTriple → Bool
same_triple a b = same_term a.s b.s && (same_term a.p b.p && same_term a.o b.o)
