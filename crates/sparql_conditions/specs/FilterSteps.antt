-- The steps of the reader of a filter's condition.
use Rattle.std.proofs.Common.{List, [], ◌∷◌, length, refl}
use Rattle.grammar_meaning.specs.Grammar.{call, ◌⨾◌, Leaf, Pair, Made}
use Rattle.grammar_meaning.specs.Outcome.{Got, Broke, NotBegun}
use Rattle.grammar_meaning.specs.Exact.{got_call, got_then, broke_call, broke_first, broke_rest}
use Rattle.grammar_meaning.specs.Parts.{got_left_only, got_right_only, broke_left_only, broke_right_only}
use Rattle.rdf_meaning.specs.Terms.{iri as iri_term}
use Rattle.query_meaning.specs.declared.pattern.Slot.TheVariants as slot
use Rattle.sparql_grammar_meaning.specs.declared.lexeme.Lexeme.{Lexeme}
use Rattle.sparql_grammar_meaning.specs.declared.lexeme.Lexeme.TheVariants as l
use Rattle.sparql_grammar_meaning.specs.declared.lexeme.Sign.{Sign}
use Rattle.sparql_grammar_meaning.specs.declared.lexeme.Sign.TheVariants as s
use Rattle.sparql_grammar_meaning.specs.Grammar.{sign, among, word, grammar, Tree}
use Rattle.sparql_grammar_meaning.specs.Table.{look, begins}
use Rattle.sparql_cursor.specs.Outcomes.{Gets, gets, got, breaks, broke, Stops, stops_memory, stops_at, handed, IsNot, NoneOf, SomeOf, not_then, not_begun, apart}
use Rattle.sparql_cursor.specs.declared.refusal.Refusal.{Refusal}
use Rattle.sparql_cursor.specs.declared.refusal.Refusal.TheVariants.{Syntax}
use Rattle.query_meaning.specs.declared.expression.ValueExpr.{ValueExpr}
use Rattle.query_meaning.specs.declared.expression.ValueExpr.TheVariants as v
use Rattle.query_meaning.specs.declared.expression.TruthExpr.{TruthExpr}
use Rattle.query_meaning.specs.declared.expression.TruthExpr.TheVariants as t
use Rattle.sparql_grammar_meaning.specs.Grammar.{Test_, Fun_, Truth_, Cond_, a_value, a_truth, truth_in}
use Rattle.sparql_conditions.specs.declared.operand.Operand.{Operand}
use Rattle.sparql_conditions.specs.declared.operand.Operand.TheVariants as op
use Rattle.sparql_values.specs.ValueSteps.{opened, closed, not_closed}
use Rattle.sparql_conditions.specs.Operands.{as_truth, stuck, One, one_value, one_truth, StopsOne, one_memory, one_at}
use Rattle.sparql_conditions.specs.ItemSteps.{bracketed_truth}

cond_bracket : (ts us : List Lexeme) (x : Tree) → Got grammar (among []) bracketed_truth (l.Sign s.OpenBracket ∷ ts) (Pair (Leaf (l.Sign s.OpenBracket)) (Pair (Made x) (Leaf (l.Sign s.CloseBracket)))) us → Gets Cond_ (l.Sign s.OpenBracket ∷ ts) (a_truth (truth_in (Made x))) us
cond_bracket ts us x a = gets (got_call Cond_ (got_left_only look refl refl a))

cond_broke : (ts us : List Lexeme) → Broke grammar (among []) bracketed_truth (l.Sign s.OpenBracket ∷ ts) us → Stops Cond_ (l.Sign s.OpenBracket ∷ ts) (Syntax (length us))
cond_broke ts us a = stops_at us (breaks (broke_call Cond_ (broke_left_only look refl refl a)))

pub cond_closed : (ts us : List Lexeme) (o : Operand) → One Truth_ ts o (l.Sign s.CloseBracket ∷ us) → Gets Cond_ (l.Sign s.OpenBracket ∷ ts) (a_truth (as_truth o)) us
cond_closed ts us o (one_value {x = x} a) = cond_bracket ts us (a_value x) (got_then look refl (opened ts) (got_then look refl (got a.all) (closed us)))
cond_closed ts us o (one_truth {x = x} a) = cond_bracket ts us (a_truth x) (got_then look refl (opened ts) (got_then look refl (got a.all) (closed us)))

pub cond_unclosed : (ts us : List Lexeme) (o : Operand) → One Truth_ ts o us → IsNot (sign s.CloseBracket) us → Stops Cond_ (l.Sign s.OpenBracket ∷ ts) (Syntax (length us))
cond_unclosed ts us o (one_value a) h = cond_broke ts us (broke_rest look refl (opened ts) (broke_rest look refl (got a.all) (not_closed us h)))
cond_unclosed ts us o (one_truth a) h = cond_broke ts us (broke_rest look refl (opened ts) (broke_rest look refl (got a.all) (not_closed us h)))

pub cond_open : (ts : List Lexeme) (r : Refusal) → StopsOne Truth_ ts r → Stops Cond_ (l.Sign s.OpenBracket ∷ ts) r
cond_open ts r one_memory = stops_memory
cond_open ts r (one_at us (stuck a)) = cond_broke ts us (broke_rest look refl (opened ts) (broke_first look refl (broke a.all)))

pub cond_test : (ts us : List Lexeme) (x : TruthExpr) → SomeOf (begins Test_) ts → Gets Test_ ts (a_truth x) us → Gets Cond_ ts (a_truth x) us
cond_test ts us x h a = gets (got_call Cond_ (got_right_only look refl (apart (begins Test_) bracketed_truth ts refl h) (got_left_only look refl (apart (begins Test_) (call Fun_) ts refl h) (got a))))

pub cond_test_stops : (ts : List Lexeme) (r : Refusal) → SomeOf (begins Test_) ts → Stops Test_ ts r → Stops Cond_ ts r
cond_test_stops ts r h a = handed (λ ws b. breaks (broke_call Cond_ (broke_right_only look refl (apart (begins Test_) bracketed_truth ts refl h) (broke_left_only look refl (apart (begins Test_) (call Fun_) ts refl h) (broke b))))) a

no_bracket : (ts : List Lexeme) → IsNot (sign s.OpenBracket) ts → NotBegun grammar look bracketed_truth ts
no_bracket ts h = not_then (sign s.OpenBracket) (call Truth_ ⨾ word s.CloseBracket) ts h

pub cond_function : (ts us : List Lexeme) (x : ValueExpr) → IsNot (sign s.OpenBracket) ts → NoneOf (begins Test_) ts → Gets Fun_ ts (a_value x) us → Gets Cond_ ts (a_truth (t.Value x)) us
cond_function ts us x h i a = gets (got_call Cond_ (got_right_only look refl (no_bracket ts h) (got_right_only look refl (not_begun Test_ ts i) (got a))))

pub cond_function_stops : (ts : List Lexeme) (r : Refusal) → IsNot (sign s.OpenBracket) ts → NoneOf (begins Test_) ts → Stops Fun_ ts r → Stops Cond_ ts r
cond_function_stops ts r h i a = handed (λ ws b. breaks (broke_call Cond_ (broke_right_only look refl (no_bracket ts h) (broke_right_only look refl (not_begun Test_ ts i) (broke b))))) a

pub ruleset filter_paths = (stops_memory, cond_closed, cond_unclosed, cond_open, cond_test, cond_test_stops, cond_function, cond_function_stops)
