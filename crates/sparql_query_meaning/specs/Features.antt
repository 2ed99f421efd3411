-- What a token that breaks the grammar belongs to, by itself and the token before it.
use Rattle.std.specs.Prelude.{ℕ, Bool, true, false, ◌||◌, ◌==◌, if◌then◌else◌, List, [], ◌∷◌, Option, Some, None}
use Rattle.sparql_meaning.specs.declared.token.TokenKind.{TokenKind}
use Rattle.sparql_meaning.specs.declared.token.TokenKind.TheVariants as k
use Rattle.sparql_meaning.specs.declared.token.Mark.{Mark}
use Rattle.sparql_meaning.specs.declared.token.Mark.TheVariants as m
use Rattle.sparql_meaning.specs.declared.word.Word.{Word}
use Rattle.sparql_meaning.specs.declared.word.Word.TheVariants as w
use Rattle.sparql_meaning.specs.declared.word.Feature.{Feature}
use Rattle.sparql_meaning.specs.declared.word.Feature.TheVariants as f

-- NOT behind one of these begins NOT EXISTS
abbrev pub opens_expression : Option TokenKind → Bool
opens_expression (Some (k.Word w.Filter)) = true
opens_expression (Some (k.Mark m.OpenBracket)) = true
opens_expression (Some (k.Mark m.And)) = true
opens_expression (Some (k.Mark m.Or)) = true
opens_expression (Some (k.Mark m.Not)) = true
opens_expression _ = false

abbrev pub is_name : Option TokenKind → Bool
is_name (Some (k.Iri i)) = true
is_name (Some (k.Named p n)) = true
is_name _ = false

abbrev pub is_filter : Option TokenKind → Bool
is_filter (Some (k.Word w.Filter)) = true
is_filter _ = false

abbrev pub is_signed : List ℕ → Bool
is_signed [] = false
is_signed (c ∷ cs) = c == 43 || c == 45

abbrev pub word_feature : Option TokenKind → Word → Option Feature
word_feature before (w.LeftOut x) = Some x
word_feature before w.Select = Some f.SubSelect
word_feature before w.Not = Some (if opens_expression before then f.Exists else f.TruthOperand)
word_feature before w.Str = Some f.Function
word_feature before w.Lang = Some f.Function
word_feature before w.Datatype = Some f.Function
word_feature before w.In = Some f.TruthOperand
word_feature before w.Bound = Some f.TruthOperand
word_feature before w.SameTerm = Some f.TruthOperand
word_feature before w.IsIri = Some f.TruthOperand
word_feature before w.IsBlank = Some f.TruthOperand
word_feature before w.IsLiteral = Some f.TruthOperand
word_feature before _ = None

abbrev pub mark_feature : Option TokenKind → Mark → Option Feature
mark_feature before m.OpenBracket = Some (if is_name before then f.Function else f.Brackets)
mark_feature before m.OpenSquare = Some f.BlankNode
mark_feature before m.CloseSquare = Some f.BlankNode
mark_feature before m.Plus = Some f.Operator
mark_feature before m.Minus = Some f.Operator
mark_feature before m.Star = Some f.Operator
mark_feature before m.Slash = Some f.Operator
mark_feature before m.Pipe = Some f.Path
mark_feature before m.Caret = Some f.Path
mark_feature before m.Question = Some f.Path
mark_feature before m.Not = Some f.Not
mark_feature before m.Equal = Some f.TruthOperand
mark_feature before m.NotEqual = Some f.TruthOperand
mark_feature before m.Less = Some f.TruthOperand
mark_feature before m.Greater = Some f.TruthOperand
mark_feature before m.LessEqual = Some f.TruthOperand
mark_feature before m.GreaterEqual = Some f.TruthOperand
mark_feature before m.And = Some f.TruthOperand
mark_feature before m.Or = Some f.TruthOperand
mark_feature before _ = None

-- the feature of a token, or none
abbrev pub feature : Option TokenKind → TokenKind → Option Feature
feature before (k.Word x) = word_feature before x
feature before (k.Mark x) = mark_feature before x
feature before (k.Iri i) = if is_filter before then Some f.Function else None
feature before (k.Named p n) = if is_filter before then Some f.Function else None
feature before (k.Blank b) = Some f.BlankNode
feature before (k.Double t) = Some f.Double
feature before (k.LongText t) = Some f.LongText
feature before (k.Integer t) = if is_signed t then Some f.Operator else None
feature before (k.Decimal t) = if is_signed t then Some f.Operator else None
feature before _ = None
