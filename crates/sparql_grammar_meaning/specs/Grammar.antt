-- The grammar of the fragment (SPARQL 1.1 Query, section 19.8, of which this project keeps a part).
use Rattle.std.specs.Prelude.{Bool, true, false, List, [], ◌∷◌, ◌++◌, ◌+◌, ◌==◌, map, ℕ, Option, Some, None, codes}
use Rattle.grammar_meaning.specs.Grammar.{Form, one, call, ◌⨾◌, ◌∣◌, many, maybe, Node, Nil, Leaf, Pair, Made, Grammar}
use Rattle.grammar_meaning.specs.Outcome.{or}
use Rattle.rdf_meaning.specs.Terms.{RdfTerm, iri as iri_term, typed, tagged}
use Rattle.rdf_meaning.specs.declared.text.KnownDatatype.TheVariants as known
use Rattle.rdf_meaning.specs.Known.{known_bytes}
use Rattle.query_meaning.specs.declared.pattern.Slot.{Slot}
use Rattle.query_meaning.specs.declared.pattern.Slot.TheVariants as slot
use Rattle.query_meaning.specs.declared.pattern.Pattern.{Pattern}
use Rattle.query_meaning.specs.declared.expression.CompareOp.{CompareOp}
use Rattle.query_meaning.specs.declared.expression.TermTest.{TermTest}
use Rattle.query_meaning.specs.declared.expression.TermTest.TheVariants as term_test
use Rattle.query_meaning.specs.declared.expression.ValueExpr.{ValueExpr}
use Rattle.query_meaning.specs.declared.expression.ValueExpr.TheVariants as v
use Rattle.query_meaning.specs.declared.expression.TruthExpr.{TruthExpr}
use Rattle.query_meaning.specs.declared.expression.TruthExpr.TheVariants as t
use Rattle.query_meaning.specs.declared.modifiers.Key.{Key as SortKey}
use Rattle.query_meaning.specs.declared.query.Element.{Element}
use Rattle.query_meaning.specs.declared.query.Element.TheVariants as e
use Rattle.query_meaning.specs.declared.query.Group.{Group as GroupOf}
use Rattle.sparql_grammar_meaning.specs.declared.lexeme.Sign.{Sign}
use Rattle.sparql_grammar_meaning.specs.declared.lexeme.Sign.TheVariants as s
use Rattle.sparql_grammar_meaning.specs.declared.lexeme.Function.{Function}
use Rattle.sparql_grammar_meaning.specs.declared.lexeme.Function.TheVariants as f
use Rattle.sparql_grammar_meaning.specs.declared.lexeme.Lexeme.{Lexeme}
use Rattle.sparql_grammar_meaning.specs.declared.lexeme.Lexeme.TheVariants as l

-- what the rules tell apart
pub data Kind : Type 0 where
  sign : Sign → Kind
  variable : Kind
  iri : Kind
  named : Kind
  prefix_name : Kind
  string : Kind
  tag : Kind
  count : Kind
  literal : Kind
  function : Kind
  test : Kind
  compare : Kind
  direction : Kind

abbrev pub kind : Lexeme → Kind
kind (l.Sign a) = sign a
kind (l.Variable v) = variable
kind (l.Iri t) = iri
kind (l.Named t) = named
kind (l.PrefixName t) = prefix_name
kind (l.Text t) = string
kind (l.Tag t) = tag
kind (l.Count t n) = count
kind (l.Literal t) = literal
kind (l.Function f) = function
kind (l.Test t) = test
kind (l.Compare o) = compare
kind (l.Direction d) = direction

abbrev pub sign_code : Sign → ℕ
sign_code s.Prefix = 12
sign_code s.Select = 13
sign_code s.Distinct = 14
sign_code s.Where = 15
sign_code s.Optional = 16
sign_code s.Union = 17
sign_code s.Filter = 18
sign_code s.A = 19
sign_code s.Not = 20
sign_code s.In = 21
sign_code s.Bound = 22
sign_code s.SameTerm = 23
sign_code s.Order = 24
sign_code s.By = 25
sign_code s.Limit = 26
sign_code s.Offset = 27
sign_code s.OpenBrace = 28
sign_code s.CloseBrace = 29
sign_code s.OpenBracket = 30
sign_code s.CloseBracket = 31
sign_code s.Dot = 32
sign_code s.Semicolon = 33
sign_code s.Comma = 34
sign_code s.Star = 35
sign_code s.Bang = 36
sign_code s.And = 37
sign_code s.Or = 38
sign_code s.TwoCarets = 39
sign_code s.Other = 40

abbrev pub code : Kind → ℕ
code (sign a) = sign_code a
code variable = 0
code iri = 1
code named = 2
code prefix_name = 3
code string = 4
code tag = 5
code count = 6
code literal = 7
code function = 8
code test = 9
code compare = 10
code direction = 11

abbrev pub is : Kind → Kind → Bool
is a b = code a == code b

abbrev pub among : List Kind → Kind → Bool
among [] b = false
among (a ∷ rest) b = or (is a b) (among rest b)

pub data Symbol : Type 0 where
  Query_ : Symbol
  Prologue_ : Symbol
  Shown_ : Symbol
  Prefix_ : Symbol
  Group_ : Symbol
  Other_ : Symbol
  Triples_ : Symbol
  Same_ : Symbol
  Objs_ : Symbol
  Verb_ : Symbol
  Term_ : Symbol
  Iri_ : Symbol
  Literal_ : Symbol
  Cond_ : Symbol
  Truth_ : Symbol
  And_ : Symbol
  Rel_ : Symbol
  Compared_ : Symbol
  Operator_ : Symbol
  Values_ : Symbol
  Prim_ : Symbol
  Atom_ : Symbol
  Value_ : Symbol
  Fun_ : Symbol
  Test_ : Symbol
  Order_ : Symbol
  Key_ : Symbol
  Slice_ : Symbol

abbrev pub mark : Kind → Form Symbol Kind
mark a = one (is a)

abbrev pub word : Sign → Form Symbol Kind
word a = one (is (sign a))

abbrev pub rule : Symbol → Form Symbol Kind
rule Query_ = call Prologue_ ⨾ word s.Select ⨾ maybe (word s.Distinct) ⨾ call Shown_ ⨾ maybe (word s.Where) ⨾ call Group_ ⨾ maybe (call Order_) ⨾ maybe (call Slice_)
rule Prologue_ = many (call Prefix_)
rule Prefix_ = word s.Prefix ⨾ mark prefix_name ⨾ mark iri
rule Shown_ = (mark variable ⨾ many (mark variable)) ∣ word s.Star
rule Group_ = word s.OpenBrace ⨾ maybe (call Triples_) ⨾ many (call Other_ ⨾ maybe (word s.Dot) ⨾ maybe (call Triples_)) ⨾ word s.CloseBrace
rule Other_ = (word s.Optional ⨾ call Group_) ∣ (call Group_ ⨾ many (word s.Union ⨾ call Group_)) ∣ (word s.Filter ⨾ call Cond_)
rule Triples_ = call Same_ ⨾ maybe (word s.Dot ⨾ maybe (call Triples_))
rule Same_ = call Term_ ⨾ call Verb_ ⨾ call Objs_ ⨾ many (word s.Semicolon ⨾ maybe (call Verb_ ⨾ call Objs_))
rule Objs_ = call Term_ ⨾ many (word s.Comma ⨾ call Term_)
rule Verb_ = mark variable ∣ call Iri_ ∣ word s.A
rule Term_ = mark variable ∣ call Iri_ ∣ call Literal_
rule Iri_ = mark iri ∣ mark named ∣ mark prefix_name
rule Literal_ = (mark string ⨾ maybe (mark tag ∣ (word s.TwoCarets ⨾ call Iri_))) ∣ mark count ∣ mark literal
rule Cond_ = (word s.OpenBracket ⨾ call Truth_ ⨾ word s.CloseBracket) ∣ call Test_ ∣ call Fun_
rule Truth_ = call And_ ⨾ many (word s.Or ⨾ call And_)
rule And_ = call Rel_ ⨾ many (word s.And ⨾ call Rel_)
rule Rel_ = call Compared_ ∣ call Prim_
rule Compared_ = call Value_ ⨾ maybe (call Operator_)
rule Operator_ = (mark compare ⨾ call Value_) ∣ (word s.In ⨾ call Values_) ∣ (word s.Not ⨾ word s.In ⨾ call Values_)
rule Values_ = word s.OpenBracket ⨾ maybe (call Value_ ⨾ many (word s.Comma ⨾ call Value_)) ⨾ word s.CloseBracket
rule Prim_ = (word s.Bang ⨾ (call Atom_ ∣ call Value_)) ∣ call Atom_
rule Atom_ = (word s.OpenBracket ⨾ call Truth_ ⨾ word s.CloseBracket) ∣ call Test_
rule Value_ = mark variable ∣ call Iri_ ∣ call Literal_ ∣ call Fun_ ∣ (word s.OpenBracket ⨾ call Value_ ⨾ word s.CloseBracket)
rule Fun_ = mark function ⨾ word s.OpenBracket ⨾ call Value_ ⨾ word s.CloseBracket
rule Test_ = (word s.Bound ⨾ word s.OpenBracket ⨾ mark variable ⨾ word s.CloseBracket) ∣ (word s.SameTerm ⨾ word s.OpenBracket ⨾ call Value_ ⨾ word s.Comma ⨾ call Value_ ⨾ word s.CloseBracket) ∣ (mark test ⨾ word s.OpenBracket ⨾ call Value_ ⨾ word s.CloseBracket)
rule Order_ = word s.Order ⨾ word s.By ⨾ call Key_ ⨾ many (call Key_)
rule Key_ = mark variable ∣ (mark direction ⨾ word s.OpenBracket ⨾ mark variable ⨾ word s.CloseBracket)
rule Slice_ = (word s.Limit ⨾ mark count ⨾ maybe (word s.Offset ⨾ mark count)) ∣ (word s.Offset ⨾ mark count ⨾ maybe (word s.Limit ⨾ mark count))

-- what stands behind the first value of a comparison
pub data Tail : Type 0 where
  compares : CompareOp → ValueExpr → Tail
  one_of : List ValueExpr → Tail
  none_of : List ValueExpr → Tail

-- which solutions are kept: how many are left out in front, and the greatest count
pub record Cut : Type 0 where
  pub skip : ℕ
  pub most : Option ℕ

-- a query before its variables are named and its patterns are numbered
pub record Written : Type 0 where
  pub distinct : Bool
  -- the variables after SELECT, or none for `*`
  pub shown : Option (List ℕ)
  pub elements : List Element
  pub keys : List SortKey
  pub cut : Cut

-- the trees of all symbols
pub data Tree : Type 0 where
  nothing_made : Tree
  a_query : Written → Tree
  a_list : Option (List ℕ) → Tree
  a_slot : Slot → Tree
  an_iri : List ℕ → Tree
  a_literal : RdfTerm → Tree
  slots : List Slot → Tree
  patterns : List Pattern → Tree
  elements : List Element → Tree
  an_element : Element → Tree
  a_value : ValueExpr → Tree
  values : List ValueExpr → Tree
  a_tail : Tail → Tree
  a_truth : TruthExpr → Tree
  keys : List SortKey → Tree
  a_key : SortKey → Tree
  a_cut : Cut → Tree

abbrev pub Read : Type 0
Read = Node Lexeme Tree

abbrev pub tree_of : Read → Tree
tree_of (Made x) = x
tree_of _ = nothing_made

abbrev pub variable_in : Read → ℕ
variable_in (Leaf (l.Variable n)) = n
variable_in _ = 0

abbrev pub iri_in : Read → List ℕ
iri_in (Leaf (l.Iri i)) = i
iri_in (Leaf (l.Named i)) = i
iri_in (Leaf (l.PrefixName i)) = i
iri_in (Made (an_iri i)) = i
iri_in _ = []

abbrev pub string_type : List ℕ
string_type = known_bytes known.String

abbrev pub plain : List ℕ → RdfTerm
plain text = typed text string_type

abbrev pub literal_in : Read → RdfTerm
literal_in (Leaf (l.Count term n)) = term
literal_in (Leaf (l.Literal term)) = term
literal_in (Pair (Leaf (l.Text text)) Nil) = plain text
literal_in (Pair (Leaf (l.Text text)) (Leaf (l.Tag y))) = tagged text y
literal_in (Pair (Leaf (l.Text text)) (Pair carets i)) = typed text (iri_in i)
literal_in (Made (a_literal term)) = term
literal_in _ = plain []

abbrev pub rdf_type : List ℕ
rdf_type = codes "http://www.w3.org/1999/02/22-rdf-syntax-ns#type"

-- a variable, an IRI, a literal or `a`
abbrev pub slot_in : Read → Slot
slot_in (Leaf (l.Variable n)) = slot.Var n
slot_in (Leaf (l.Sign s.A)) = slot.Const (iri_term rdf_type)
slot_in (Made (an_iri i)) = slot.Const (iri_term i)
slot_in (Made (a_literal term)) = slot.Const term
slot_in (Made (a_slot x)) = x
slot_in _ = slot.Var 0

-- "," Term "," Term ..
abbrev pub slots_behind : Read → List Slot
slots_behind (Pair (Pair comma x) xs) = slot_in x ∷ slots_behind xs
slots_behind _ = []

abbrev pub slots_in : Read → List Slot
slots_in (Made (slots xs)) = xs
slots_in _ = []

-- patterns get their numbers later
abbrev pub pattern_of : Slot → Slot → Slot → Pattern
pattern_of s p o = record { number = 0; s = s; p = p; o = o }

abbrev pub patterns_of : Slot → Slot → List Slot → List Pattern
patterns_of s p os = map (pattern_of s p) os

-- ";" Verb Objs ";" ";" Verb Objs ..
abbrev pub patterns_behind : Slot → Read → List Pattern
patterns_behind s (Pair (Pair semicolon (Pair verb objects)) rest) = patterns_of s (slot_in verb) (slots_in objects) ++ patterns_behind s rest
patterns_behind s (Pair (Pair semicolon _) rest) = patterns_behind s rest
patterns_behind s _ = []

abbrev pub patterns_in : Read → List Pattern
patterns_in (Made (patterns xs)) = xs
patterns_in _ = []

abbrev pub elements_in : Read → List Element
elements_in (Made (elements xs)) = xs
elements_in _ = []

abbrev pub group_of : List Element → GroupOf
group_of xs = record { elements = xs }

abbrev pub value_in : Read → ValueExpr
value_in (Leaf (l.Variable n)) = v.Var n
value_in (Made (an_iri i)) = v.Const (iri_term i)
value_in (Made (a_literal term)) = v.Const term
value_in (Made (a_value x)) = x
value_in (Pair opening (Pair x close)) = value_in x
value_in _ = v.Var 0

-- "," Value "," Value ..
abbrev pub values_behind : Read → List ValueExpr
values_behind (Pair (Pair comma x) xs) = value_in x ∷ values_behind xs
values_behind _ = []

abbrev pub values_in : Read → List ValueExpr
values_in (Made (values xs)) = xs
values_in _ = []

-- a value that stands as a truth
abbrev pub truth_in : Read → TruthExpr
truth_in (Made (a_truth x)) = x
truth_in (Made (a_value x)) = t.Value x
truth_in _ = t.All []

-- "||" And "||" And .., and the same with "&&" and Rel
abbrev pub truths_behind : Read → List TruthExpr
truths_behind (Pair (Pair w x) xs) = truth_in x ∷ truths_behind xs
truths_behind _ = []

abbrev pub with_tail : ValueExpr → Tail → TruthExpr
with_tail x (compares o y) = t.Compare o x y
with_tail x (one_of ys) = t.OneOf x ys
with_tail x (none_of ys) = t.Not (t.OneOf x ys)

abbrev pub tail_in : Read → Tail
tail_in (Made (a_tail x)) = x
tail_in _ = one_of []

abbrev pub applied : Read → ValueExpr → ValueExpr
applied (Leaf (l.Function f.Str)) x = v.Str x
applied (Leaf (l.Function f.Lang)) x = v.Lang x
applied (Leaf (l.Function f.Datatype)) x = v.Datatype x
applied _ x = x

abbrev pub test_in : Read → TermTest
test_in (Leaf (l.Test x)) = x
test_in _ = term_test.Iri

abbrev pub compared_by : Read → ValueExpr → Tail
compared_by (Leaf (l.Compare o)) y = compares o y
compared_by _ y = one_of []

-- what stands in a group's rest: an element, and triples behind it
abbrev pub leaf : List Pattern → List Element → List Element
leaf [] es = es
leaf (x ∷ xs) es = e.Triples (x ∷ xs) ∷ es

abbrev pub element_in : Read → Element
element_in (Made (an_element x)) = x
element_in _ = e.Unions []

abbrev pub parts : Read → List Element
parts (Pair (Pair x (Pair dot xs)) es) = element_in x ∷ leaf (patterns_in xs) (parts es)
parts _ = []

-- UNION Group UNION Group ..
abbrev pub unions_behind : Read → List GroupOf
unions_behind (Pair (Pair union g) gs) = group_of (elements_in g) ∷ unions_behind gs
unions_behind _ = []

-- Variable Variable ..
abbrev pub variables_behind : Read → List ℕ
variables_behind (Pair x xs) = variable_in x ∷ variables_behind xs
variables_behind _ = []

abbrev pub shown_in : Read → Option (List ℕ)
shown_in (Made (a_list xs)) = xs
shown_in _ = None

abbrev pub key_of : ℕ → Bool → SortKey
key_of n down = record { var = n; down = down }

abbrev pub key_in : Read → SortKey
key_in (Made (a_key x)) = x
key_in _ = key_of 0 false

abbrev pub keys_behind : Read → List SortKey
keys_behind (Pair x xs) = key_in x ∷ keys_behind xs
keys_behind _ = []

abbrev pub keys_in : Read → List SortKey
keys_in (Made (keys xs)) = xs
keys_in _ = []

abbrev pub is_there : Read → Bool
is_there (Leaf x) = true
is_there _ = false

abbrev pub down_in : Read → Bool
down_in (Leaf (l.Direction d)) = d
down_in _ = false

abbrev pub count_in : Read → ℕ
count_in (Leaf (l.Count term n)) = n
count_in _ = 0

-- a count behind its word, where it is there
abbrev pub most_in : Read → Option ℕ
most_in (Pair w n) = Some (count_in n)
most_in _ = None

abbrev pub skip_in : Read → ℕ
skip_in (Pair w n) = count_in n
skip_in _ = 0

abbrev pub cut_of : ℕ → Option ℕ → Cut
cut_of skip most = record { skip = skip; most = most }

abbrev pub cut_in : Read → Cut
cut_in (Made (a_cut x)) = x
cut_in _ = cut_of 0 None

-- the tree of a rule, by what it read; brackets leave no node of their own, and a single member stands for itself
abbrev pub build : Symbol → Read → Tree
build Query_ (Pair p (Pair w (Pair d (Pair x (Pair wh (Pair g (Pair o c))))))) =
    a_query (record { distinct = is_there d; shown = shown_in x; elements = elements_in g; keys = keys_in o; cut = cut_in c })
build Shown_ (Pair x xs) = a_list (Some (variable_in x ∷ variables_behind xs))
build Shown_ n = a_list None
build Group_ (Pair opening (Pair xs (Pair es close))) = elements (leaf (patterns_in xs) (parts es))
build Other_ (Pair (Leaf (l.Sign s.Optional)) g) = an_element (e.Optional (group_of (elements_in g)))
build Other_ (Pair (Leaf (l.Sign s.Filter)) c) = an_element (e.Condition (truth_in c))
build Other_ (Pair g gs) = an_element (e.Unions (group_of (elements_in g) ∷ unions_behind gs))
build Triples_ (Pair x (Pair dot more)) = patterns (patterns_in x ++ patterns_in more)
build Triples_ (Pair x n) = patterns (patterns_in x)
build Same_ (Pair x (Pair verb (Pair objects rest))) = patterns (patterns_of (slot_in x) (slot_in verb) (slots_in objects) ++ patterns_behind (slot_in x) rest)
build Objs_ (Pair x xs) = slots (slot_in x ∷ slots_behind xs)
build Verb_ n = a_slot (slot_in n)
build Term_ n = a_slot (slot_in n)
build Iri_ n = an_iri (iri_in n)
build Literal_ n = a_literal (literal_in n)
build Cond_ (Pair opening (Pair x close)) = a_truth (truth_in x)
build Cond_ x = a_truth (truth_in x)
build Truth_ (Pair x Nil) = tree_of x
build Truth_ (Pair x xs) = a_truth (t.Any (truth_in x ∷ truths_behind xs))
build And_ (Pair x Nil) = tree_of x
build And_ (Pair x xs) = a_truth (t.All (truth_in x ∷ truths_behind xs))
build Rel_ x = tree_of x
build Compared_ (Pair x Nil) = tree_of x
build Compared_ (Pair x tail) = a_truth (with_tail (value_in x) (tail_in tail))
build Operator_ (Pair w (Pair i xs)) = a_tail (none_of (values_in xs))
build Operator_ (Pair (Leaf (l.Sign s.In)) xs) = a_tail (one_of (values_in xs))
build Operator_ (Pair o y) = a_tail (compared_by o (value_in y))
build Values_ (Pair opening (Pair (Pair x xs) close)) = values (value_in x ∷ values_behind xs)
build Values_ n = values []
build Prim_ (Pair bang x) = a_truth (t.Not (truth_in x))
build Prim_ x = tree_of x
build Atom_ (Pair opening (Pair x close)) = tree_of x
build Atom_ x = tree_of x
build Value_ n = a_value (value_in n)
build Fun_ (Pair w (Pair opening (Pair x close))) = a_value (applied w (value_in x))
build Test_ (Pair (Leaf (l.Sign s.Bound)) (Pair opening (Pair x close))) = a_truth (t.Bound (variable_in x))
build Test_ (Pair w (Pair opening (Pair x (Pair comma (Pair y close))))) = a_truth (t.SameTerm (value_in x) (value_in y))
build Test_ (Pair w (Pair opening (Pair x close))) = a_truth (t.Is (test_in w) (value_in x))
build Order_ (Pair o (Pair b (Pair x xs))) = keys (key_in x ∷ keys_behind xs)
build Key_ (Pair d (Pair opening (Pair x close))) = a_key (key_of (variable_in x) (down_in d))
build Key_ x = a_key (key_of (variable_in x) false)
build Slice_ (Pair (Leaf (l.Sign s.Limit)) (Pair n rest)) = a_cut (cut_of (skip_in rest) (Some (count_in n)))
build Slice_ (Pair w (Pair n rest)) = a_cut (cut_of (count_in n) (most_in rest))
build _ n = nothing_made

abbrev pub grammar : Grammar
grammar = record { Symbol = Symbol; Kind = Kind; Token = Lexeme; Tree = Tree; kind = kind; rule = rule; build = build }
