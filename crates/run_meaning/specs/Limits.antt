-- The greatest numbers that are accepted, and the limits on the triples that are present and on the terms of the dictionary.
use Rattle.std.specs.Prelude.{ℕ, Bool, ◌&&◌, ◌+◌, nat_lt, nat_le, if◌then◌else◌, List, [], ◌∷◌, ◌++◌, length, fold, Option, Some, None}
use Rattle.std.specs.List.{list_any}
use Rattle.rdf_meaning.specs.Terms.{RdfTerm, same_term}
use Rattle.line_change_meaning.specs.declared.change.Change.{Change}
use Rattle.line_change_meaning.specs.declared.change.Change.TheVariants.{Add, Delete}
use Rattle.line_change_meaning.specs.Present.{is_present, present}
use Rattle.run_meaning.specs.declared.which.TheConstants.{MOST_FILE, MOST_LINE, MOST_QUERY, MOST_TERMS, MOST_TRIPLES, MOST_DATA_FILES, MOST_COLUMNS, MOST_HASHES, MOST_PIECES, MOST_DRILL}
use Rattle.run_meaning.specs.declared.which.Which.{Which}
use Rattle.run_meaning.specs.declared.which.Which.TheVariants.{Terms, Triples}

-- bytes of all data files together, of a colouring file, and of a file of tables and SQL
abbrev pub most_file : ℕ
most_file = MOST_FILE

-- bytes of a line of data or of a colouring, without its end
abbrev pub most_line : ℕ
most_line = MOST_LINE

-- bytes of a query file
abbrev pub most_query : ℕ
most_query = MOST_QUERY

-- terms of the dictionary
abbrev pub most_terms : ℕ
most_terms = MOST_TERMS

-- triples that are present
abbrev pub most_triples : ℕ
most_triples = MOST_TRIPLES

-- data files of a command
abbrev pub most_data_files : ℕ
most_data_files = MOST_DATA_FILES

-- columns of a side
abbrev pub most_columns : ℕ
most_columns = MOST_COLUMNS

-- hashes of a predicate
abbrev pub most_hashes : ℕ
most_hashes = MOST_HASHES

-- pieces that work is cut into
abbrev pub most_pieces : ℕ
most_pieces = MOST_PIECES

-- triples that a drill adds
abbrev pub most_drill : ℕ
most_drill = MOST_DRILL

-- 1 to 16 names
abbrev pub are_data_names : List (List ℕ) → Bool
are_data_names names = nat_le 1 (length names) && nat_le (length names) most_data_files

abbrev pub with_term : List RdfTerm → RdfTerm → List RdfTerm
with_term terms term = if list_any (same_term term) terms then terms else terms ++ term ∷ []

-- a deletion needs no term
abbrev pub with_needed : List RdfTerm → Change → List RdfTerm
with_needed terms (Add t) = with_term (with_term (with_term terms t.s) t.p) t.o
with_needed terms (Delete t) = terms

-- the terms that the changes need, each once, in order of first need: subject, predicate and object of each added triple
abbrev pub terms_needed : List Change → List RdfTerm
terms_needed changes = fold with_needed [] changes

-- which limit a change passes behind others: triples go before terms, and a triple that is present passes none
abbrev pub passed_at : List Change → Change → Option Which
passed_at before (Delete t) = None
passed_at before (Add t) =
    if is_present before t then None
    else (if nat_lt most_triples (length (present before) + 1) then Some Triples
    else (if nat_lt most_terms (length (with_needed (terms_needed before) (Add t))) then Some Terms else None))

abbrev pub or_later : Option Which → Option Which → Option Which
or_later (Some which) later = Some which
or_later None later = later

abbrev pub passed_from : List Change → List Change → Option Which
passed_from before [] = None
passed_from before (change ∷ later) = or_later (passed_at before change) (passed_from (before ++ change ∷ []) later)

-- the limit that is passed at the first change that passes one
abbrev pub passed_limit : List Change → Option Which
passed_limit changes = passed_from [] changes
