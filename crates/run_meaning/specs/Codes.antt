-- The exit code and the line of each status.
use Rattle.std.specs.Prelude.{ℕ, ◌==◌, if◌then◌else◌, List, [], ◌++◌, codes, decimal}
use Rattle.run_meaning.specs.declared.which.Which.{Which}
use Rattle.run_meaning.specs.declared.which.Which.TheVariants.{File, Line, Query, Patterns, Variables, Groups, Blocks, Depth, Keys, Digits, Terms, Triples}
use Rattle.sparql_meaning.specs.declared.word.Feature.{Feature}
use Rattle.sparql_meaning.specs.declared.word.Feature.TheVariants as feature
use Rattle.run_meaning.specs.declared.fault.QueryFault.{QueryFault}
use Rattle.run_meaning.specs.declared.fault.QueryFault.TheVariants as fault
use Rattle.run_meaning.specs.declared.fault.SqlFault.{SqlFault}
use Rattle.run_meaning.specs.declared.fault.SqlFault.TheVariants.{Syntax, Deep, NoTable, NoColumn, Twice, KindClash, NotTruth}
use Rattle.run_meaning.specs.declared.status.Status.{Status}
use Rattle.run_meaning.specs.declared.status.Status.TheVariants.{Done, Usage, BadData, BadQuery, Limit, ReadFault, WriteFault, BadTables, BadSql, BadColouring, NotYet, NoMemory}

abbrev pub code_of : Status → ℕ
code_of Done = 0
code_of Usage = 2
code_of (BadData file line) = 3
code_of (BadQuery why) = 4
code_of (Limit which) = 5
code_of (ReadFault name) = 6
code_of WriteFault = 7
code_of (BadTables line) = 8
code_of (BadSql why) = 9
code_of (BadColouring line) = 10
code_of NotYet = 20
code_of NoMemory = 70

abbrev pub usage_line : List ℕ
usage_line = codes "db2rdf: usage: db2rdf query|show|plan [options] DATA... QUERY; stats [options] DATA...; exec [--pieces N] FILE; drill [options] N SEED\n"

abbrev pub name_of : Which → List ℕ
name_of File = codes "file"
name_of Line = codes "line"
name_of Query = codes "query"
name_of Patterns = codes "patterns"
name_of Variables = codes "variables"
name_of Groups = codes "groups"
name_of Blocks = codes "blocks"
name_of Depth = codes "depth"
name_of Keys = codes "keys"
name_of Digits = codes "digits"
name_of Terms = codes "terms"
name_of Triples = codes "triples"

abbrev pub name_of_feature : Feature → List ℕ
name_of_feature feature.Graph = codes "Graph"
name_of_feature feature.Dataset = codes "Dataset"
name_of_feature feature.Service = codes "Service"
name_of_feature feature.Describe = codes "Describe"
name_of_feature feature.SubSelect = codes "SubSelect"
name_of_feature feature.Exists = codes "Exists"
name_of_feature feature.Bind = codes "Bind"
name_of_feature feature.Values = codes "Values"
name_of_feature feature.Minus = codes "Minus"
name_of_feature feature.Reduced = codes "Reduced"
name_of_feature feature.Having = codes "Having"
name_of_feature feature.GroupBy = codes "GroupBy"
name_of_feature feature.SelectExpression = codes "SelectExpression"
name_of_feature feature.Base = codes "Base"
name_of_feature feature.Ask = codes "Ask"
name_of_feature feature.Construct = codes "Construct"
name_of_feature feature.Update = codes "Update"
name_of_feature feature.Aggregate = codes "Aggregate"
name_of_feature feature.Function = codes "Function"
name_of_feature feature.Brackets = codes "Brackets"
name_of_feature feature.BlankNode = codes "BlankNode"
name_of_feature feature.Double = codes "Double"
name_of_feature feature.LongText = codes "LongText"
name_of_feature feature.Operator = codes "Operator"
name_of_feature feature.Path = codes "Path"
name_of_feature feature.Not = codes "Not"
name_of_feature feature.TruthOperand = codes "TruthOperand"

abbrev pub text_of_query_fault : QueryFault → List ℕ
text_of_query_fault (fault.NotInFragment feature at) = codes "not in fragment: " ++ (name_of_feature feature ++ (codes " at " ++ decimal at))
text_of_query_fault (fault.Syntax at) = codes "syntax at " ++ decimal at
text_of_query_fault (fault.UnknownPrefix at) = codes "unknown prefix at " ++ decimal at

-- a word for a fault of binding, and the number of its SELECT
abbrev pub in_select : List ℕ → ℕ → List ℕ
in_select word select = word ++ (codes " in select " ++ decimal select)

abbrev pub text_of_fault : SqlFault → List ℕ
text_of_fault (Syntax at) = codes "syntax at " ++ decimal at
text_of_fault Deep = codes "too deep"
text_of_fault (NoTable select) = in_select (codes "no table") select
text_of_fault (NoColumn select) = in_select (codes "no column") select
text_of_fault (Twice select) = in_select (codes "twice") select
text_of_fault (KindClash select) = in_select (codes "kind clash") select
text_of_fault (NotTruth select) = in_select (codes "not truth") select

-- the first data file isn't named
abbrev pub of_file : ℕ → List ℕ
of_file file = if file == 0 then [] else codes " of file " ++ decimal file

-- what is put on the error output
abbrev pub line_of : Status → List ℕ
line_of Done = []
line_of Usage = usage_line
line_of (BadData file line) = codes "db2rdf: bad data at line " ++ (decimal line ++ (of_file file ++ codes "\n"))
line_of (BadQuery why) = codes "db2rdf: bad query: " ++ (text_of_query_fault why ++ codes "\n")
line_of (Limit which) = codes "db2rdf: limit: " ++ (name_of which ++ codes "\n")
line_of (ReadFault name) = codes "db2rdf: cannot read " ++ (name ++ codes "\n")
line_of WriteFault = codes "db2rdf: cannot write\n"
line_of (BadTables line) = codes "db2rdf: bad tables at line " ++ (decimal line ++ codes "\n")
line_of (BadSql why) = codes "db2rdf: bad sql: " ++ (text_of_fault why ++ codes "\n")
line_of (BadColouring line) = codes "db2rdf: bad colouring at line " ++ (decimal line ++ codes "\n")
line_of NotYet = codes "db2rdf: not built yet\n"
line_of NoMemory = codes "db2rdf: no memory\n"
