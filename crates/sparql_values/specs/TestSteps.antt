-- The steps of the readers of tests.
use Rattle.std.proofs.Common.{List, [], ◌∷◌, length, ℕ, refl}
use Rattle.grammar_meaning.specs.Grammar.{Form, call, ◌⨾◌, Leaf}
use Rattle.grammar_meaning.specs.Outcome.{Got, Broke}
use Rattle.grammar_meaning.specs.Exact.{got_call, got_then, broke_call, broke_none, broke_first, broke_rest}
use Rattle.grammar_meaning.specs.Parts.{got_left_only, got_right_only, broke_left_only, broke_right_only}
use Rattle.rdf_meaning.specs.Terms.{iri as iri_term}
use Rattle.query_meaning.specs.declared.pattern.Slot.TheVariants as slot
use Rattle.sparql_grammar_meaning.specs.declared.lexeme.Lexeme.{Lexeme}
use Rattle.sparql_grammar_meaning.specs.declared.lexeme.Lexeme.TheVariants as l
use Rattle.sparql_grammar_meaning.specs.declared.lexeme.Sign.{Sign}
use Rattle.sparql_grammar_meaning.specs.declared.lexeme.Sign.TheVariants as s
use Rattle.sparql_grammar_meaning.specs.Grammar.{Kind, sign, variable, test, among, mark, word, Symbol, grammar}
use Rattle.sparql_grammar_meaning.specs.Table.{look}
use Rattle.sparql_cursor.specs.Outcomes.{Gets, gets, got, breaks, broke, Stops, stops_memory, stops_at, IsNot, not_then, token}
use Rattle.sparql_cursor.specs.declared.refusal.Refusal.{Refusal}
use Rattle.sparql_cursor.specs.declared.refusal.Refusal.TheVariants.{Syntax}
use Rattle.query_meaning.specs.declared.expression.TermTest.{TermTest}
use Rattle.query_meaning.specs.declared.expression.ValueExpr.{ValueExpr}
use Rattle.query_meaning.specs.declared.expression.ValueExpr.TheVariants as v
use Rattle.query_meaning.specs.declared.expression.TruthExpr.TheVariants as t
use Rattle.sparql_grammar_meaning.specs.Grammar.{Value_, Test_, a_value, a_truth}
use Rattle.sparql_values.specs.ValueSteps.{opened, closed, not_closed, bracketed, BracketGot, bracket_got, BracketStops, bracket_memory, bracket_at}

abbrev pub bound_form : Form Symbol Kind
bound_form = word s.Bound ⨾ word s.OpenBracket ⨾ mark variable ⨾ word s.CloseBracket

abbrev pub same_form : Form Symbol Kind
same_form = word s.SameTerm ⨾ word s.OpenBracket ⨾ call Value_ ⨾ word s.Comma ⨾ call Value_ ⨾ word s.CloseBracket

abbrev pub kind_form : Form Symbol Kind
kind_form = mark test ⨾ bracketed

bound : (ts : List Lexeme) → Got grammar (among []) (word s.Bound) (l.Sign s.Bound ∷ ts) (Leaf (l.Sign s.Bound)) ts
bound ts = token [] (sign s.Bound) (l.Sign s.Bound) ts refl

same : (ts : List Lexeme) → Got grammar (among []) (word s.SameTerm) (l.Sign s.SameTerm ∷ ts) (Leaf (l.Sign s.SameTerm)) ts
same ts = token [] (sign s.SameTerm) (l.Sign s.SameTerm) ts refl

comma : (ts : List Lexeme) → Got grammar (among []) (word s.Comma) (l.Sign s.Comma ∷ ts) (Leaf (l.Sign s.Comma)) ts
comma ts = token [] (sign s.Comma) (l.Sign s.Comma) ts refl

bound_broke : (ts us : List Lexeme) → Broke grammar (among []) bound_form (l.Sign s.Bound ∷ ts) us → Stops Test_ (l.Sign s.Bound ∷ ts) (Syntax (length us))
bound_broke ts us a = stops_at us (breaks (broke_call Test_ (broke_left_only look refl refl a)))

same_broke : (ts us : List Lexeme) → Broke grammar (among []) same_form (l.Sign s.SameTerm ∷ ts) us → Stops Test_ (l.Sign s.SameTerm ∷ ts) (Syntax (length us))
same_broke ts us a = stops_at us (breaks (broke_call Test_ (broke_right_only look refl refl (broke_left_only look refl refl a))))

pub bound_got : (n : ℕ) (us : List Lexeme) → Gets Test_ (l.Sign s.Bound ∷ l.Sign s.OpenBracket ∷ l.Variable n ∷ l.Sign s.CloseBracket ∷ us) (a_truth (t.Bound n)) us
bound_got n us =
    gets (got_call Test_ (got_left_only look refl refl (got_then look refl (bound (l.Sign s.OpenBracket ∷ l.Variable n ∷ l.Sign s.CloseBracket ∷ us))
    (got_then look refl (opened (l.Variable n ∷ l.Sign s.CloseBracket ∷ us)) (got_then look refl (token [] variable (l.Variable n) (l.Sign s.CloseBracket ∷ us) refl) (closed us))))))

pub bound_unclosed : (n : ℕ) (us : List Lexeme) → IsNot (sign s.CloseBracket) us → Stops Test_ (l.Sign s.Bound ∷ l.Sign s.OpenBracket ∷ l.Variable n ∷ us) (Syntax (length us))
bound_unclosed n us h =
    bound_broke (l.Sign s.OpenBracket ∷ l.Variable n ∷ us) us (broke_rest look refl (bound (l.Sign s.OpenBracket ∷ l.Variable n ∷ us)) (broke_rest look refl (opened (l.Variable n ∷ us))
    (broke_rest look refl (token [] variable (l.Variable n) us refl) (not_closed us h))))

pub bound_nothing : (us : List Lexeme) → IsNot variable us → Stops Test_ (l.Sign s.Bound ∷ l.Sign s.OpenBracket ∷ us) (Syntax (length us))
bound_nothing us h =
    bound_broke (l.Sign s.OpenBracket ∷ us) us (broke_rest look refl (bound (l.Sign s.OpenBracket ∷ us)) (broke_rest look refl (opened us) (broke_none look (among []) refl (not_then variable (word s.CloseBracket) us h))))

pub bound_none : (us : List Lexeme) → IsNot (sign s.OpenBracket) us → Stops Test_ (l.Sign s.Bound ∷ us) (Syntax (length us))
bound_none us h = bound_broke us us (broke_rest look refl (bound us) (broke_none look (among []) refl (not_then (sign s.OpenBracket) (mark variable ⨾ word s.CloseBracket) us h)))

pub ruleset bound_paths = (stops_memory, bound_got, bound_unclosed, bound_nothing, bound_none)

pub same_none : (us : List Lexeme) → IsNot (sign s.OpenBracket) us → Stops Test_ (l.Sign s.SameTerm ∷ us) (Syntax (length us))
same_none us h = same_broke us us (broke_rest look refl (same us) (broke_none look (among []) refl (not_then (sign s.OpenBracket) (call Value_ ⨾ word s.Comma ⨾ call Value_ ⨾ word s.CloseBracket) us h)))

pub same_first_stops : (ts : List Lexeme) (r : Refusal) → Stops Value_ ts r → Stops Test_ (l.Sign s.SameTerm ∷ l.Sign s.OpenBracket ∷ ts) r
same_first_stops ts r stops_memory = stops_memory
same_first_stops ts r (stops_at us a) = same_broke (l.Sign s.OpenBracket ∷ ts) us (broke_rest look refl (same (l.Sign s.OpenBracket ∷ ts)) (broke_rest look refl (opened ts) (broke_first look refl (broke a))))

pub same_no_comma : (ts us : List Lexeme) (x : ValueExpr) → Gets Value_ ts (a_value x) us → IsNot (sign s.Comma) us → Stops Test_ (l.Sign s.SameTerm ∷ l.Sign s.OpenBracket ∷ ts) (Syntax (length us))
same_no_comma ts us x a h =
    same_broke (l.Sign s.OpenBracket ∷ ts) us (broke_rest look refl (same (l.Sign s.OpenBracket ∷ ts)) (broke_rest look refl (opened ts) (broke_rest look refl (got a)
    (broke_none look (among []) refl (not_then (sign s.Comma) (call Value_ ⨾ word s.CloseBracket) us h)))))

pub same_second_stops : (ts us : List Lexeme) (x : ValueExpr) (r : Refusal) → Gets Value_ ts (a_value x) (l.Sign s.Comma ∷ us) → Stops Value_ us r → Stops Test_ (l.Sign s.SameTerm ∷ l.Sign s.OpenBracket ∷ ts) r
same_second_stops ts us x r a stops_memory = stops_memory
same_second_stops ts us x r a (stops_at ws b) =
    same_broke (l.Sign s.OpenBracket ∷ ts) ws (broke_rest look refl (same (l.Sign s.OpenBracket ∷ ts)) (broke_rest look refl (opened ts) (broke_rest look refl (got a) (broke_rest look refl (comma us) (broke_first look refl (broke b))))))

pub same_unclosed : (ts us vs : List Lexeme) (x y : ValueExpr) → Gets Value_ ts (a_value x) (l.Sign s.Comma ∷ us) → Gets Value_ us (a_value y) vs → IsNot (sign s.CloseBracket) vs → Stops Test_ (l.Sign s.SameTerm ∷ l.Sign s.OpenBracket ∷ ts) (Syntax (length vs))
same_unclosed ts us vs x y a b h =
    same_broke (l.Sign s.OpenBracket ∷ ts) vs (broke_rest look refl (same (l.Sign s.OpenBracket ∷ ts)) (broke_rest look refl (opened ts) (broke_rest look refl (got a) (broke_rest look refl (comma us) (broke_rest look refl (got b) (not_closed vs h))))))

pub same_got : (ts us vs : List Lexeme) (x y : ValueExpr) → Gets Value_ ts (a_value x) (l.Sign s.Comma ∷ us) → Gets Value_ us (a_value y) (l.Sign s.CloseBracket ∷ vs) → Gets Test_ (l.Sign s.SameTerm ∷ l.Sign s.OpenBracket ∷ ts) (a_truth (t.SameTerm x y)) vs
same_got ts us vs x y a b =
    gets (got_call Test_ (got_right_only look refl refl (got_left_only look refl refl (got_then look refl (same (l.Sign s.OpenBracket ∷ ts)) (got_then look refl (opened ts) (got_then look refl (got a) (got_then look refl (comma us) (got_then look refl (got b) (closed vs)))))))))

pub ruleset same_paths = (stops_memory, same_none, same_first_stops, same_no_comma, same_second_stops, same_unclosed, same_got)

pub kind_got : (y : TermTest) (us vs : List Lexeme) (x : ValueExpr) → BracketGot us x vs → Gets Test_ (l.Test y ∷ us) (a_truth (t.Is y x)) vs
kind_got y us vs x (bracket_got a) = gets (got_call Test_ (got_right_only look refl refl (got_right_only look refl refl (got_then look refl (token [] test (l.Test y) us refl) a))))

pub kind_stops : (y : TermTest) (us : List Lexeme) (r : Refusal) → BracketStops us r → Stops Test_ (l.Test y ∷ us) r
kind_stops y us r bracket_memory = stops_memory
kind_stops y us r (bracket_at ws a) = stops_at ws (breaks (broke_call Test_ (broke_right_only look refl refl (broke_right_only look refl refl (broke_rest look refl (token [] test (l.Test y) us refl) a)))))

pub test_none : (ts : List Lexeme) → IsNot (sign s.Bound) ts → IsNot (sign s.SameTerm) ts → IsNot test ts → Stops Test_ ts (Syntax (length ts))
test_none ts h i j =
    stops_at ts (breaks (broke_call Test_ (broke_right_only look refl (not_then (sign s.Bound) (word s.OpenBracket ⨾ mark variable ⨾ word s.CloseBracket) ts h)
    (broke_right_only look refl (not_then (sign s.SameTerm) (word s.OpenBracket ⨾ call Value_ ⨾ word s.Comma ⨾ call Value_ ⨾ word s.CloseBracket) ts i)
    (broke_none look (among []) refl (not_then test bracketed ts j))))))

pub ruleset test_paths = (stops_memory, kind_got, kind_stops, test_none)
