-- The blank nodes of data files. A label belongs to its file: the files are counted from 0, and the label L of file n names another
-- node than the label L of any other file (RDF 1.1 Concepts, section 3.4; the form of the labels is this project's own).
use Rattle.std.specs.Prelude.{ℕ, List, ◌++◌, codes}
use Rattle.std.specs.Fmt.{decimal}
use Rattle.rdf_meaning.specs.Terms.{RdfTerm, blank}

-- `f`, the file's number in decimal, `b`, and the label as it is written in the file
abbrev pub label_in : ℕ → List ℕ → List ℕ
label_in n label = codes "f" ++ (decimal n ++ (codes "b" ++ label))

-- the blank node that a label of data file n stands for: the one place where labels of data files become terms
abbrev pub blank_in : ℕ → List ℕ → RdfTerm
blank_in n label = blank (label_in n label)
