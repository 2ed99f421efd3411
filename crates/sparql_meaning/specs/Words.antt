-- The words of a query, and those of what is left out (SPARQL 1.1 Query, section 19.8; SPARQL 1.1 Update, section 3).
use Rattle.std.specs.Prelude.{ℕ, List, [], ◌∷◌, map, if◌then◌else◌, codes}
use Rattle.std.specs.Char.{to_ascii_uppercase}
use Rattle.std.specs.Str.{bytes_eq}
use Rattle.sparql_meaning.specs.declared.word.Word.{Word}
use Rattle.sparql_meaning.specs.declared.word.Word.TheVariants.{Prefix, Select, Distinct, Where, Optional, Union, Filter, True, False, Not, In, Str, Lang, Datatype, Bound, SameTerm, IsIri, IsBlank, IsLiteral, Order, By, Asc, Desc, Limit, Offset, A, LeftOut, Unknown}
use Rattle.sparql_meaning.specs.declared.word.Feature.TheVariants as left_out

-- a word in capitals
pub record SpelledWord : Type 0 where
  pub capitals : List ℕ
  pub word : Word

abbrev pub spelled : List ℕ → Word → SpelledWord
spelled capitals word = record { capitals = capitals; word = word }

abbrev pub words : List SpelledWord
words =
    spelled (codes "PREFIX") Prefix ∷
    spelled (codes "SELECT") Select ∷
    spelled (codes "DISTINCT") Distinct ∷
    spelled (codes "WHERE") Where ∷
    spelled (codes "OPTIONAL") Optional ∷
    spelled (codes "UNION") Union ∷
    spelled (codes "FILTER") Filter ∷
    spelled (codes "TRUE") True ∷
    spelled (codes "FALSE") False ∷
    spelled (codes "NOT") Not ∷
    spelled (codes "IN") In ∷
    spelled (codes "STR") Str ∷
    spelled (codes "LANG") Lang ∷
    spelled (codes "DATATYPE") Datatype ∷
    spelled (codes "BOUND") Bound ∷
    spelled (codes "SAMETERM") SameTerm ∷
    spelled (codes "ISIRI") IsIri ∷
    spelled (codes "ISURI") IsIri ∷
    spelled (codes "ISBLANK") IsBlank ∷
    spelled (codes "ISLITERAL") IsLiteral ∷
    spelled (codes "ORDER") Order ∷
    spelled (codes "BY") By ∷
    spelled (codes "ASC") Asc ∷
    spelled (codes "DESC") Desc ∷
    spelled (codes "LIMIT") Limit ∷
    spelled (codes "OFFSET") Offset ∷
    spelled (codes "GRAPH") (LeftOut left_out.Graph) ∷
    spelled (codes "FROM") (LeftOut left_out.Dataset) ∷
    spelled (codes "NAMED") (LeftOut left_out.Dataset) ∷
    spelled (codes "SERVICE") (LeftOut left_out.Service) ∷
    spelled (codes "DESCRIBE") (LeftOut left_out.Describe) ∷
    spelled (codes "EXISTS") (LeftOut left_out.Exists) ∷
    spelled (codes "BIND") (LeftOut left_out.Bind) ∷
    spelled (codes "VALUES") (LeftOut left_out.Values) ∷
    spelled (codes "UNDEF") (LeftOut left_out.Values) ∷
    spelled (codes "MINUS") (LeftOut left_out.Minus) ∷
    spelled (codes "REDUCED") (LeftOut left_out.Reduced) ∷
    spelled (codes "HAVING") (LeftOut left_out.Having) ∷
    spelled (codes "GROUP") (LeftOut left_out.GroupBy) ∷
    spelled (codes "AS") (LeftOut left_out.SelectExpression) ∷
    spelled (codes "BASE") (LeftOut left_out.Base) ∷
    spelled (codes "ASK") (LeftOut left_out.Ask) ∷
    spelled (codes "CONSTRUCT") (LeftOut left_out.Construct) ∷
    spelled (codes "INSERT") (LeftOut left_out.Update) ∷
    spelled (codes "DELETE") (LeftOut left_out.Update) ∷
    spelled (codes "LOAD") (LeftOut left_out.Update) ∷
    spelled (codes "CLEAR") (LeftOut left_out.Update) ∷
    spelled (codes "DROP") (LeftOut left_out.Update) ∷
    spelled (codes "CREATE") (LeftOut left_out.Update) ∷
    spelled (codes "ADD") (LeftOut left_out.Update) ∷
    spelled (codes "MOVE") (LeftOut left_out.Update) ∷
    spelled (codes "COPY") (LeftOut left_out.Update) ∷
    spelled (codes "WITH") (LeftOut left_out.Update) ∷
    spelled (codes "COUNT") (LeftOut left_out.Aggregate) ∷
    spelled (codes "SUM") (LeftOut left_out.Aggregate) ∷
    spelled (codes "MIN") (LeftOut left_out.Aggregate) ∷
    spelled (codes "MAX") (LeftOut left_out.Aggregate) ∷
    spelled (codes "AVG") (LeftOut left_out.Aggregate) ∷
    spelled (codes "SAMPLE") (LeftOut left_out.Aggregate) ∷
    spelled (codes "GROUP_CONCAT") (LeftOut left_out.Aggregate) ∷
    spelled (codes "LANGMATCHES") (LeftOut left_out.Function) ∷
    spelled (codes "IRI") (LeftOut left_out.Function) ∷
    spelled (codes "URI") (LeftOut left_out.Function) ∷
    spelled (codes "BNODE") (LeftOut left_out.Function) ∷
    spelled (codes "RAND") (LeftOut left_out.Function) ∷
    spelled (codes "ABS") (LeftOut left_out.Function) ∷
    spelled (codes "CEIL") (LeftOut left_out.Function) ∷
    spelled (codes "FLOOR") (LeftOut left_out.Function) ∷
    spelled (codes "ROUND") (LeftOut left_out.Function) ∷
    spelled (codes "CONCAT") (LeftOut left_out.Function) ∷
    spelled (codes "STRLEN") (LeftOut left_out.Function) ∷
    spelled (codes "UCASE") (LeftOut left_out.Function) ∷
    spelled (codes "LCASE") (LeftOut left_out.Function) ∷
    spelled (codes "ENCODE_FOR_URI") (LeftOut left_out.Function) ∷
    spelled (codes "CONTAINS") (LeftOut left_out.Function) ∷
    spelled (codes "STRSTARTS") (LeftOut left_out.Function) ∷
    spelled (codes "STRENDS") (LeftOut left_out.Function) ∷
    spelled (codes "STRBEFORE") (LeftOut left_out.Function) ∷
    spelled (codes "STRAFTER") (LeftOut left_out.Function) ∷
    spelled (codes "YEAR") (LeftOut left_out.Function) ∷
    spelled (codes "MONTH") (LeftOut left_out.Function) ∷
    spelled (codes "DAY") (LeftOut left_out.Function) ∷
    spelled (codes "HOURS") (LeftOut left_out.Function) ∷
    spelled (codes "MINUTES") (LeftOut left_out.Function) ∷
    spelled (codes "SECONDS") (LeftOut left_out.Function) ∷
    spelled (codes "TIMEZONE") (LeftOut left_out.Function) ∷
    spelled (codes "TZ") (LeftOut left_out.Function) ∷
    spelled (codes "NOW") (LeftOut left_out.Function) ∷
    spelled (codes "UUID") (LeftOut left_out.Function) ∷
    spelled (codes "STRUUID") (LeftOut left_out.Function) ∷
    spelled (codes "MD5") (LeftOut left_out.Function) ∷
    spelled (codes "SHA1") (LeftOut left_out.Function) ∷
    spelled (codes "SHA256") (LeftOut left_out.Function) ∷
    spelled (codes "SHA384") (LeftOut left_out.Function) ∷
    spelled (codes "SHA512") (LeftOut left_out.Function) ∷
    spelled (codes "COALESCE") (LeftOut left_out.Function) ∷
    spelled (codes "IF") (LeftOut left_out.Function) ∷
    spelled (codes "STRLANG") (LeftOut left_out.Function) ∷
    spelled (codes "STRDT") (LeftOut left_out.Function) ∷
    spelled (codes "ISNUMERIC") (LeftOut left_out.Function) ∷
    spelled (codes "REGEX") (LeftOut left_out.Function) ∷
    spelled (codes "SUBSTR") (LeftOut left_out.Function) ∷
    spelled (codes "REPLACE") (LeftOut left_out.Function) ∷ []

-- the word with these capitals
abbrev pub word_in : List SpelledWord → List ℕ → Word
word_in [] capitals = Unknown
word_in (w ∷ ws) capitals = if bytes_eq w.capitals capitals then w.word else word_in ws capitals

-- words are compared without regard to case, save `a`
unfoldable pub word_of : List ℕ → Word
word_of text = if bytes_eq text (97 ∷ []) then A else word_in words (map to_ascii_uppercase text)
