-- Terms of a class that is an int.
use Rattle.std.specs.Prelude.{ℕ, ℤ, pos, negsuc, List}
use Rattle.rdf_meaning.specs.declared.kind.TermKind.{TermKind}
use Rattle.rdf_meaning.specs.declared.kind.TermKind.TheVariants.{Typed}
use Rattle.rdf_meaning.specs.Terms.{RdfTerm}
use Rattle.sql_gen_answer_meaning.specs.Decode.{kind_of_number}

-- what the terms of a class are; no class is below 0
abbrev pub kind_of_class : ℤ → TermKind
kind_of_class (pos n) = kind_of_number n
kind_of_class (negsuc n) = Typed

abbrev pub term_of_class : ℤ → List ℕ → List ℕ → RdfTerm
term_of_class class text aux = record { kind = kind_of_class class; text = text; aux = aux }
