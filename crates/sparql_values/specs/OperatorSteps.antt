-- The steps of the readers of operators.
use Rattle.std.proofs.Common.{List, [], ◌∷◌, length, refl}
use Rattle.grammar_meaning.specs.Grammar.{Form, call, ◌⨾◌}
use Rattle.grammar_meaning.specs.Outcome.{and}
use Rattle.grammar_meaning.specs.Exact.{got_call, got_then, broke_call, broke_none, broke_rest}
use Rattle.grammar_meaning.specs.Parts.{got_wide, broke_wide, got_left_only, got_right_only, broke_left_only, broke_right_only}
use Rattle.rdf_meaning.specs.Terms.{iri as iri_term}
use Rattle.query_meaning.specs.declared.pattern.Slot.TheVariants as slot
use Rattle.sparql_grammar_meaning.specs.declared.lexeme.Lexeme.{Lexeme}
use Rattle.sparql_grammar_meaning.specs.declared.lexeme.Lexeme.TheVariants as l
use Rattle.sparql_grammar_meaning.specs.declared.lexeme.Sign.{Sign}
use Rattle.sparql_grammar_meaning.specs.declared.lexeme.Sign.TheVariants as s
use Rattle.sparql_grammar_meaning.specs.Grammar.{Kind, sign, compare, among, word, Symbol}
use Rattle.sparql_grammar_meaning.specs.Table.{look, after}
use Rattle.sparql_cursor.specs.Outcomes.{Gets, gets, got, breaks, broke, Stops, stops_memory, stops_at, handed, IsNot, not_then, token}
use Rattle.sparql_cursor.specs.declared.refusal.Refusal.{Refusal}
use Rattle.sparql_cursor.specs.declared.refusal.Refusal.TheVariants.{Syntax}
use Rattle.query_meaning.specs.declared.expression.CompareOp.{CompareOp}
use Rattle.query_meaning.specs.declared.expression.ValueExpr.{ValueExpr}
use Rattle.query_meaning.specs.declared.expression.ValueExpr.TheVariants as v
use Rattle.query_meaning.specs.declared.expression.TruthExpr.{TruthExpr}
use Rattle.query_meaning.specs.declared.expression.TruthExpr.TheVariants as t
use Rattle.sparql_grammar_meaning.specs.Grammar.{Value_, Values_, Operator_, a_value, values, a_tail, Tail, compares, one_of, none_of, with_tail}

-- an operator and its right side, with the value on its left
pub data OperatorGot (x : ValueExpr) (ts : List Lexeme) : TruthExpr → List Lexeme → Type 0 where
  operator_got : {us : List Lexeme} (y : Tail) → Gets Operator_ ts (a_tail y) us → OperatorGot x ts (with_tail x y) us

abbrev pub in_values : Form Symbol Kind
in_values = word s.In ⨾ call Values_

abbrev pub not_in_values : Form Symbol Kind
not_in_values = word s.Not ⨾ word s.In ⨾ call Values_

pub operator_compare : (o : CompareOp) (us vs : List Lexeme) (x y : ValueExpr) → Gets Value_ us (a_value y) vs → OperatorGot x (l.Compare o ∷ us) (t.Compare o x y) vs
operator_compare o us vs x y a = operator_got (compares o y) (gets (got_call Operator_ (got_left_only look refl refl (got_then look refl (token [] compare (l.Compare o) us refl) (got_wide look refl (got a))))))

pub operator_compare_stops : (o : CompareOp) (us : List Lexeme) (r : Refusal) → Stops Value_ us r → Stops Operator_ (l.Compare o ∷ us) r
operator_compare_stops o us r a = handed (λ ws b. breaks (broke_call Operator_ (broke_left_only look refl refl (broke_rest look refl (token [] compare (l.Compare o) us refl) (broke_wide look refl (broke b)))))) a

pub operator_in : (us vs : List Lexeme) (x : ValueExpr) (ys : List ValueExpr) → Gets Values_ us (values ys) vs → OperatorGot x (l.Sign s.In ∷ us) (t.OneOf x ys) vs
operator_in us vs x ys a = operator_got (one_of ys) (gets (got_call Operator_ (got_right_only look refl refl (got_left_only look refl refl (got_then look refl (token [] (sign s.In) (l.Sign s.In) us refl) (got_wide look refl (got a)))))))

pub operator_in_stops : (us : List Lexeme) (r : Refusal) → Stops Values_ us r → Stops Operator_ (l.Sign s.In ∷ us) r
operator_in_stops us r a = handed (λ ws b. breaks (broke_call Operator_ (broke_right_only look refl refl (broke_left_only look refl refl (broke_rest look refl (token [] (sign s.In) (l.Sign s.In) us refl) (broke_wide look refl (broke b))))))) a

pub operator_none : (ts : List Lexeme) → IsNot compare ts → IsNot (sign s.In) ts → IsNot (sign s.Not) ts → Stops Operator_ ts (Syntax (length ts))
operator_none ts h i j =
    stops_at ts (breaks (broke_call Operator_ (broke_right_only look refl (not_then compare (call Value_) ts h) (broke_right_only look refl (not_then (sign s.In) (call Values_) ts i)
    (broke_none look (among (after Operator_)) refl (not_then (sign s.Not) in_values ts j))))))

pub ruleset operator_paths = (stops_memory, operator_compare, operator_compare_stops, operator_in, operator_in_stops, operator_none)

pub operator_not_in : (us vs : List Lexeme) (x : ValueExpr) (ys : List ValueExpr) → Gets Values_ us (values ys) vs → OperatorGot x (l.Sign s.Not ∷ l.Sign s.In ∷ us) (t.Not (t.OneOf x ys)) vs
operator_not_in us vs x ys a =
    operator_got (none_of ys) (gets (got_call Operator_ (got_right_only look refl refl (got_right_only look refl refl (got_then look refl (token [] (sign s.Not) (l.Sign s.Not) (l.Sign s.In ∷ us) refl)
    (got_then look refl (token [] (sign s.In) (l.Sign s.In) us refl) (got_wide look refl (got a))))))))

pub operator_not_in_stops : (us : List Lexeme) (r : Refusal) → Stops Values_ us r → Stops Operator_ (l.Sign s.Not ∷ l.Sign s.In ∷ us) r
operator_not_in_stops us r a = handed (λ ws b. breaks (broke_call Operator_ (broke_right_only look refl refl (broke_right_only look refl refl (broke_rest look refl (token [] (sign s.Not) (l.Sign s.Not) (l.Sign s.In ∷ us) refl)
    (broke_rest look refl (token [] (sign s.In) (l.Sign s.In) us refl) (broke_wide look refl (broke b)))))))) a

pub operator_not_other : (us : List Lexeme) → IsNot (sign s.In) us → Stops Operator_ (l.Sign s.Not ∷ us) (Syntax (length us))
operator_not_other us h = stops_at us (breaks (broke_call Operator_ (broke_right_only look refl refl (broke_right_only look refl refl (broke_rest look refl (token [] (sign s.Not) (l.Sign s.Not) us refl)
    (broke_none look (among (after Operator_)) refl (not_then (sign s.In) (call Values_) us h)))))))

pub ruleset not_paths = (stops_memory, operator_not_in, operator_not_in_stops, operator_not_other)
