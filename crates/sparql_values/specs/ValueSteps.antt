-- The steps of the readers of values.
use Rattle.std.proofs.Common.{false, IsTrue, List, [], ◌∷◌, length, ℕ, refl, subst, sym}
use Rattle.grammar_meaning.specs.Grammar.{Form, call, ◌⨾◌, ◌∣◌, Leaf, Pair, Made}
use Rattle.grammar_meaning.specs.Outcome.{Got, Broke, NotBegun, implies, or}
use Rattle.grammar_meaning.specs.Exact.{got_call, got_then, broke_call, broke_none, broke_first, broke_rest}
use Rattle.grammar_meaning.specs.Parts.{got_wide, broke_wide, got_left_only, got_right_only, broke_left_only, broke_right_only}
use Rattle.rdf_meaning.specs.Terms.{RdfTerm, iri as iri_term}
use Rattle.query_meaning.specs.declared.pattern.Slot.TheVariants as slot
use Rattle.sparql_grammar_meaning.specs.declared.lexeme.Lexeme.{Lexeme}
use Rattle.sparql_grammar_meaning.specs.declared.lexeme.Lexeme.TheVariants as l
use Rattle.sparql_grammar_meaning.specs.declared.lexeme.Sign.{Sign}
use Rattle.sparql_grammar_meaning.specs.declared.lexeme.Sign.TheVariants as s
use Rattle.sparql_grammar_meaning.specs.Grammar.{Kind, sign, variable, function, kind, is, among, mark, word, Symbol, grammar, Read}
use Rattle.sparql_grammar_meaning.specs.Table.{look, begins, after}
use Rattle.sparql_cursor.specs.Outcomes.{Gets, gets, got, breaks, broke, Stops, stops_memory, stops_at, handed, IsNot, NoneOf, SomeOf, not_kind, not_then, not_begun, apart, token}
use Rattle.sparql_cursor.specs.declared.refusal.Refusal.{Refusal}
use Rattle.sparql_cursor.specs.declared.refusal.Refusal.TheVariants.{NoMemory, Syntax}
use Rattle.query_meaning.specs.declared.expression.ValueExpr.{ValueExpr}
use Rattle.query_meaning.specs.declared.expression.ValueExpr.TheVariants as v
use Rattle.query_meaning.specs.declared.expression.TruthExpr.TheVariants as t
use Rattle.sparql_grammar_meaning.specs.declared.lexeme.Function.{Function}
use Rattle.sparql_grammar_meaning.specs.Grammar.{Iri_, Literal_, Value_, Fun_, an_iri, a_literal, a_value, applied}

-- a value in brackets
abbrev pub bracketed : Form Symbol Kind
bracketed = word s.OpenBracket ⨾ call Value_ ⨾ word s.CloseBracket

abbrev pub bracket_node : ValueExpr → Read
bracket_node x = Pair (Leaf (l.Sign s.OpenBracket)) (Pair (Made (a_value x)) (Leaf (l.Sign s.CloseBracket)))

pub data BracketGot (ts : List Lexeme) (x : ValueExpr) (us : List Lexeme) : Type 0 where
  bracket_got : Got grammar (among []) bracketed ts (bracket_node x) us → BracketGot ts x us

pub data BracketStops (ts : List Lexeme) : Refusal → Type 0 where
  bracket_memory : BracketStops ts NoMemory
  bracket_at : (us : List Lexeme) → Broke grammar (among []) bracketed ts us → BracketStops ts (Syntax (length us))

pub opened : (ts : List Lexeme) → Got grammar (among []) (word s.OpenBracket) (l.Sign s.OpenBracket ∷ ts) (Leaf (l.Sign s.OpenBracket)) ts
opened ts = token [] (sign s.OpenBracket) (l.Sign s.OpenBracket) ts refl

pub closed : (ts : List Lexeme) → Got grammar (among []) (word s.CloseBracket) (l.Sign s.CloseBracket ∷ ts) (Leaf (l.Sign s.CloseBracket)) ts
closed ts = token [] (sign s.CloseBracket) (l.Sign s.CloseBracket) ts refl

pub not_closed : (us : List Lexeme) → IsNot (sign s.CloseBracket) us → Broke grammar (among []) (word s.CloseBracket) us us
not_closed us h = broke_none look (among []) refl (not_kind (sign s.CloseBracket) us h)

pub bracket_closed : (ts us : List Lexeme) (x : ValueExpr) → Gets Value_ ts (a_value x) (l.Sign s.CloseBracket ∷ us) → BracketGot (l.Sign s.OpenBracket ∷ ts) x us
bracket_closed ts us x a = bracket_got (got_then look refl (opened ts) (got_then look refl (got a) (closed us)))

pub bracket_inner : (ts : List Lexeme) (r : Refusal) → Stops Value_ ts r → BracketStops (l.Sign s.OpenBracket ∷ ts) r
bracket_inner ts r stops_memory = bracket_memory
bracket_inner ts r (stops_at us a) = bracket_at us (broke_rest look refl (opened ts) (broke_first look refl (broke a)))

pub bracket_unclosed : (ts us : List Lexeme) (x : ValueExpr) → Gets Value_ ts (a_value x) us → IsNot (sign s.CloseBracket) us → BracketStops (l.Sign s.OpenBracket ∷ ts) (Syntax (length us))
bracket_unclosed ts us x a h = bracket_at us (broke_rest look refl (opened ts) (broke_rest look refl (got a) (not_closed us h)))

pub bracket_none : (ts : List Lexeme) → IsNot (sign s.OpenBracket) ts → BracketStops ts (Syntax (length ts))
bracket_none ts h = bracket_at ts (broke_none look (among []) refl (not_then (sign s.OpenBracket) (call Value_ ⨾ word s.CloseBracket) ts h))

pub ruleset bracket_paths = (bracket_memory, bracket_closed, bracket_inner, bracket_unclosed, bracket_none)

pub function_got : (f : Function) (us vs : List Lexeme) (x : ValueExpr) → BracketGot us x vs → Gets Fun_ (l.Function f ∷ us) (a_value (applied (Leaf (l.Function f)) x)) vs
function_got f us vs x (bracket_got a) = gets (got_call Fun_ (got_then look refl (token [] function (l.Function f) us refl) a))

pub function_stops : (f : Function) (us : List Lexeme) (r : Refusal) → BracketStops us r → Stops Fun_ (l.Function f ∷ us) r
function_stops f us r bracket_memory = stops_memory
function_stops f us r (bracket_at ws a) = stops_at ws (breaks (broke_call Fun_ (broke_rest look refl (token [] function (l.Function f) us refl) a)))

pub function_none : (ts : List Lexeme) → IsNot function ts → Stops Fun_ ts (Syntax (length ts))
function_none ts h = stops_at ts (breaks (broke_call Fun_ (broke_none look (among []) refl (not_then function bracketed ts h))))

pub ruleset function_paths = (stops_memory, function_got, function_stops, function_none)

-- neither a function nor a bracket
no_call : (ts : List Lexeme) → IsNot function ts → IsNot (sign s.OpenBracket) ts → NotBegun grammar look (call Fun_ ∣ bracketed) ts
no_call [] h i = tt
no_call (x ∷ ts) h i =
    subst (λ b. IsTrue (implies (or (or b false) (or (is (sign s.OpenBracket) (kind x)) false)) false)) (sym h)
    (subst (λ b. IsTrue (implies (or b false) false)) (sym i) refl)

pub value_iri : (ts us : List Lexeme) (i : List ℕ) → SomeOf (begins Iri_) ts → Gets Iri_ ts (an_iri i) us → Gets Value_ ts (a_value (v.Const (iri_term i))) us
value_iri ts us i h a =
    gets (got_call Value_ (got_right_only look refl (apart (begins Iri_) (mark variable) ts refl h)
    (got_left_only look refl (apart (begins Iri_) (call Literal_ ∣ call Fun_ ∣ bracketed) ts refl h) (got_wide look refl (got a)))))

pub value_iri_stops : (ts : List Lexeme) (r : Refusal) → SomeOf (begins Iri_) ts → Stops Iri_ ts r → Stops Value_ ts r
value_iri_stops ts r h a = handed (λ ws b. breaks (broke_call Value_ (broke_right_only look refl (apart (begins Iri_) (mark variable) ts refl h)
    (broke_left_only look refl (apart (begins Iri_) (call Literal_ ∣ call Fun_ ∣ bracketed) ts refl h) (broke_wide look refl (broke b)))))) a

pub value_literal : (ts us : List Lexeme) (x : RdfTerm) → IsNot variable ts → NoneOf (begins Iri_) ts → IsNot function ts → IsNot (sign s.OpenBracket) ts → Gets Literal_ ts (a_literal x) us → Gets Value_ ts (a_value (v.Const x)) us
value_literal ts us x h i j k a =
    gets (got_call Value_ (got_right_only look refl (not_kind variable ts h) (got_right_only look refl (not_begun Iri_ ts i) (got_left_only look refl (no_call ts j k) (got a)))))

pub value_literal_stops : (ts : List Lexeme) (r : Refusal) → IsNot variable ts → NoneOf (begins Iri_) ts → IsNot function ts → IsNot (sign s.OpenBracket) ts → Stops Literal_ ts r → Stops Value_ ts r
value_literal_stops ts r h i j k a =
    handed (λ ws b. breaks (broke_call Value_ (broke_right_only look refl (not_kind variable ts h) (broke_right_only look refl (not_begun Iri_ ts i) (broke_left_only look refl (no_call ts j k) (broke b)))))) a

pub ruleset constant_paths = (stops_memory, value_iri, value_iri_stops, value_literal, value_literal_stops)

pub value_variable : (n : ℕ) (us : List Lexeme) → Gets Value_ (l.Variable n ∷ us) (a_value (v.Var n)) us
value_variable n us = gets (got_call Value_ (got_left_only look refl refl (token (after Value_) variable (l.Variable n) us refl)))

pub value_function : (ts us : List Lexeme) (x : ValueExpr) → SomeOf (function ∷ []) ts → Gets Fun_ ts (a_value x) us → Gets Value_ ts (a_value x) us
value_function ts us x h a =
    gets (got_call Value_ (got_right_only look refl (apart (function ∷ []) (mark variable) ts refl h) (got_right_only look refl (apart (function ∷ []) (call Iri_) ts refl h)
    (got_right_only look refl (apart (function ∷ []) (call Literal_) ts refl h) (got_left_only look refl (apart (function ∷ []) bracketed ts refl h) (got_wide look refl (got a)))))))

pub value_function_stops : (ts : List Lexeme) (r : Refusal) → SomeOf (function ∷ []) ts → Stops Fun_ ts r → Stops Value_ ts r
value_function_stops ts r h a = handed (λ ws b. breaks (broke_call Value_ (broke_right_only look refl (apart (function ∷ []) (mark variable) ts refl h) (broke_right_only look refl (apart (function ∷ []) (call Iri_) ts refl h)
    (broke_right_only look refl (apart (function ∷ []) (call Literal_) ts refl h) (broke_left_only look refl (apart (function ∷ []) bracketed ts refl h) (broke_wide look refl (broke b)))))))) a

pub ruleset plain_paths = (stops_memory, value_variable, value_function, value_function_stops)

abbrev pub opening : List Kind
opening = sign s.OpenBracket ∷ []

pub value_bracket : (ts us : List Lexeme) (x : ValueExpr) → SomeOf opening ts → BracketGot ts x us → Gets Value_ ts (a_value x) us
value_bracket ts us x h (bracket_got a) =
    gets (got_call Value_ (got_right_only look refl (apart opening (mark variable) ts refl h) (got_right_only look refl (apart opening (call Iri_) ts refl h)
    (got_right_only look refl (apart opening (call Literal_) ts refl h) (got_right_only look refl (apart opening (call Fun_) ts refl h) (got_wide look refl a))))))

pub value_bracket_stops : (ts : List Lexeme) (r : Refusal) → SomeOf opening ts → BracketStops ts r → Stops Value_ ts r
value_bracket_stops ts r h bracket_memory = stops_memory
value_bracket_stops ts r h (bracket_at ws a) =
    stops_at ws (breaks (broke_call Value_ (broke_right_only look refl (apart opening (mark variable) ts refl h) (broke_right_only look refl (apart opening (call Iri_) ts refl h)
    (broke_right_only look refl (apart opening (call Literal_) ts refl h) (broke_right_only look refl (apart opening (call Fun_) ts refl h) (broke_wide look refl a)))))))

pub ruleset value_paths = (stops_memory, value_bracket, value_bracket_stops)
