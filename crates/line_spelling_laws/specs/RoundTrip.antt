-- What is written is read again.
use Rattle.std.specs.Prelude.{◌≡◌, IsTrue, ℕ, List, [], ◌∷◌, ◌++◌}
use Rattle.std.specs.Str.{IsUtf8, chars}
use Rattle.rdf_meaning.specs.declared.kind.TermKind.{TermKind}
use Rattle.rdf_meaning.specs.declared.kind.TermKind.TheVariants.{Iri, Blank, Tagged, Typed}
use Rattle.rdf_meaning.specs.Terms.{RdfTerm, RdfTriple, is_term, can_be_subject}
use Rattle.rdf_meaning.specs.Spelling.{spelling}
use Rattle.line_meaning.specs.Labels.{blank_in}
use Rattle.line_meaning.specs.Lines.{Adds}
use Rattle.line_meaning.specs.Grammar.{SpellsSubject, SpellsIri, SpellsObject, LineReads}

-- a term of RDF: its parts are UTF-8 and of the form of its kind
pub record IsFine (t : RdfTerm) : Type 0 where
  pub text_utf8 : IsUtf8 t.text
  pub aux_utf8 : IsUtf8 t.aux
  pub form : IsTrue (is_term t.kind t.text t.aux)

abbrev pub of_kind_in : ℕ → TermKind → RdfTerm → RdfTerm
of_kind_in n Iri t = t
of_kind_in n Blank t = blank_in n t.text
of_kind_in n Tagged t = t
of_kind_in n Typed t = t

-- what the spelling of t stands for in data file n: t itself, unless it is a blank node, whose label is taken as one of the file's
abbrev pub in_file : ℕ → RdfTerm → RdfTerm
in_file n t = of_kind_in n t.kind t

-- a triple of RDF
pub record IsFineTriple (triple : RdfTriple) : Type 0 where
  pub s_fine : IsFine triple.s
  pub p_fine : IsFine triple.p
  pub o_fine : IsFine triple.o
  pub subject : IsTrue (can_be_subject triple.s.kind)
  pub predicate : triple.p.kind ≡ Iri

-- three spellings and a full stop, with single spaces between them
abbrev pub line_of_triple : RdfTriple → List ℕ
line_of_triple triple = spelling triple.s ++ 32 ∷ (spelling triple.p ++ 32 ∷ (spelling triple.o ++ 32 ∷ 46 ∷ []))

abbrev pub SpellingsAreUtf8 : Type 0
SpellingsAreUtf8 = (t : RdfTerm) → IsFine t → IsUtf8 (spelling t)

abbrev pub ObjectsAreRead : Type 0
ObjectsAreRead = (n : ℕ) (t : RdfTerm) → IsFine t → SpellsObject n (chars (spelling t)) (in_file n t)

abbrev pub SubjectsAreRead : Type 0
SubjectsAreRead = (n : ℕ) (t : RdfTerm) → IsFine t → IsTrue (can_be_subject t.kind) → SpellsSubject n (chars (spelling t)) (in_file n t)

abbrev pub PredicatesAreRead : Type 0
PredicatesAreRead = (t : RdfTerm) → IsFine t → t.kind ≡ Iri → SpellsIri (chars (spelling t)) t

-- such a line adds the triple in data file n
abbrev pub LinesAreRead : Type 0
LinesAreRead =
    (n : ℕ) (triple : RdfTriple) → IsFineTriple triple
    → LineReads n (line_of_triple triple) (Adds (record { s = in_file n triple.s; p = triple.p; o = in_file n triple.o }))
