-- What stands at the front of a line, as the definitions see it.
use Rattle.std.specs.Prelude.{ℕ, List, Option, Some, None, if◌then◌else◌, length, drop, String, string_bytes}
use Rattle.std.specs.Prelude.{IsTrue}
use Rattle.line_meaning.specs.Reader.{◌>>=◌, label_run, after_gap, last_triple}
use Rattle.std.specs.Borrow.{Bor}
use Rattle.rdf_meaning.specs.Terms.{RdfTerm, RdfTriple, is_label_of, can_be_subject, can_be_predicate}

abbrev pub front_text : {A : Type 0} → Option (String A × Bor (List ℕ)) → Option (List ℕ × List ℕ)
front_text None = None
front_text (Some x) = Some (string_bytes x.0, x.1.now)

abbrev pub front_term : Option (RdfTerm × Bor (List ℕ)) → Option (RdfTerm × List ℕ)
front_term None = None
front_term (Some x) = Some (x.0, x.1.now)

abbrev pub front_triple : Option (RdfTriple × Bor (List ℕ)) → Option (RdfTriple × List ℕ)
front_triple None = None
front_triple (Some x) = Some (x.0, x.1.now)

abbrev pub front_label : Option (Bor (List ℕ) × Bor (List ℕ)) → Option (List ℕ × List ℕ)
front_label None = None
front_label (Some x) = Some (x.0.now, x.1.now)

-- the characters of a label, and what follows
abbrev pub label_chars_at : List ℕ → Option (List ℕ × List ℕ)
label_chars_at cs = if is_label_of (label_run cs) then Some (label_run cs, drop (length (label_run cs)) cs) else None

-- the triple behind a mark
abbrev pub marked_triple : ℕ → List ℕ → Option RdfTriple
marked_triple n cs = after_gap cs >>= last_triple n

-- a term that may be a subject, or none
abbrev pub HasSubject : Option (RdfTerm × Bor (List ℕ)) → Type 0
HasSubject None = Unit {0}
HasSubject (Some x) = IsTrue (can_be_subject x.0.kind)

abbrev pub HasPredicate : Option (RdfTerm × Bor (List ℕ)) → Type 0
HasPredicate None = Unit {0}
HasPredicate (Some x) = IsTrue (can_be_predicate x.0.kind)
