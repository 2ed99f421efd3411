-- A text that may be a value and a truth, and what a reader of it answers.
use Rattle.std.proofs.Common.{List, [], length}
use Rattle.grammar_meaning.specs.Grammar.{one, call, Made}
use Rattle.grammar_meaning.specs.Outcome.{Most, Lags, and}
use Rattle.rdf_meaning.specs.Terms.{iri as iri_term}
use Rattle.query_meaning.specs.declared.pattern.Slot.TheVariants as slot
use Rattle.sparql_grammar_meaning.specs.declared.lexeme.Lexeme.{Lexeme}
use Rattle.sparql_grammar_meaning.specs.declared.lexeme.Lexeme.TheVariants as l
use Rattle.sparql_grammar_meaning.specs.declared.lexeme.Sign.TheVariants as s
use Rattle.sparql_grammar_meaning.specs.Grammar.{is, among, Symbol, grammar}
use Rattle.sparql_grammar_meaning.specs.Table.{after}
use Rattle.sparql_cursor.specs.Outcomes.{Gets, Breaks}
use Rattle.sparql_cursor.specs.declared.refusal.Refusal.{Refusal}
use Rattle.sparql_cursor.specs.declared.refusal.Refusal.TheVariants.{NoMemory, Syntax}
use Rattle.query_meaning.specs.declared.expression.ValueExpr.{ValueExpr}
use Rattle.query_meaning.specs.declared.expression.ValueExpr.TheVariants as v
use Rattle.query_meaning.specs.declared.expression.TruthExpr.{TruthExpr}
use Rattle.query_meaning.specs.declared.expression.TruthExpr.TheVariants as t
use Rattle.sparql_grammar_meaning.specs.Grammar.{Value_, Atom_, a_value, a_truth}
use Rattle.sparql_conditions.specs.declared.operand.Operand.{Operand}
use Rattle.sparql_conditions.specs.declared.operand.Operand.TheVariants as op

-- an operand as a truth
abbrev pub as_truth : Operand → TruthExpr
as_truth (op.Value x) = t.Value x
as_truth (op.Truth x) = x

-- the text is a value, and so a member of the symbol
pub record OneValue (z : Symbol) (ts : List Lexeme) (x : ValueExpr) (us : List Lexeme) : Type 0 where
  pub all : Gets z ts (a_value x) us
  pub value : Gets Value_ ts (a_value x) us

-- the text is a truth of the symbol, and no value comes as far
pub record OneTruth (z : Symbol) (ts : List Lexeme) (x : TruthExpr) (us : List Lexeme) : Type 0 where
  pub all : Gets z ts (a_truth x) us
  pub value : Lags grammar (among (after z)) (call Value_) ts us

-- the symbol is broken, and no value comes as far
pub record OneBreak (z : Symbol) (ts us : List Lexeme) : Type 0 where
  pub all : Breaks z ts us
  pub value : Lags grammar (among (after z)) (call Value_) ts us

pub data Stuck (z : Symbol) (ts us : List Lexeme) : Type 0 where
  stuck : OneBreak z ts us → Stuck z ts us

-- a value: of atoms it is the last alone
pub record ItemValue (ts : List Lexeme) (x : ValueExpr) (us : List Lexeme) : Type 0 where
  pub atom : Most grammar (among []) (call Atom_) ts (Made (a_value x)) us
  pub value : Gets Value_ ts (a_value x) us

-- neither an atom nor a value comes further, and one of them comes so far
pub data ItemStuck (ts us : List Lexeme) : Type 0 where
  atom_stuck : Breaks Atom_ ts us → Lags grammar (among (after Value_)) (call Value_) ts us → ItemStuck ts us
  value_stuck : Breaks Value_ ts us → Lags grammar (among []) (call Atom_) ts us → ItemStuck ts us

pub data One (z : Symbol) : List Lexeme → Operand → List Lexeme → Type 0 where
  one_value : {ts us : List Lexeme} {x : ValueExpr} → OneValue z ts x us → One z ts (op.Value x) us
  one_truth : {ts us : List Lexeme} {x : TruthExpr} → OneTruth z ts x us → One z ts (op.Truth x) us

pub data Item : List Lexeme → Operand → List Lexeme → Type 0 where
  item_is_value : {ts us : List Lexeme} {x : ValueExpr} → ItemValue ts x us → Item ts (op.Value x) us
  item_is_truth : {ts us : List Lexeme} {x : TruthExpr} → Gets Atom_ ts (a_truth x) us → Lags grammar (among (after Value_)) (call Value_) ts us → Item ts (op.Truth x) us

pub data StopsOne (z : Symbol) (ts : List Lexeme) : Refusal → Type 0 where
  one_memory : StopsOne z ts NoMemory
  one_at : (us : List Lexeme) → Stuck z ts us → StopsOne z ts (Syntax (length us))

pub data StopsItem (ts : List Lexeme) : Refusal → Type 0 where
  item_memory : StopsItem ts NoMemory
  item_at : (us : List Lexeme) → ItemStuck ts us → StopsItem ts (Syntax (length us))

pub handed_one : {y z : Symbol} {ts us : List Lexeme} {r : Refusal} → ((ws : List Lexeme) → Stuck y ts ws → Stuck z us ws) → StopsOne y ts r → StopsOne z us r
handed_one f one_memory = one_memory
handed_one f (one_at ws a) = one_at ws (f ws a)

pub handed_item : {z : Symbol} {ts us : List Lexeme} {r : Refusal} → ((ws : List Lexeme) → ItemStuck ts ws → Stuck z us ws) → StopsItem ts r → StopsOne z us r
handed_item f item_memory = one_memory
handed_item f (item_at ws a) = one_at ws (f ws a)
