-- The steps of the reader of items.
use Rattle.std.proofs.Common.{false, IsTrue, List, [], ◌∷◌, ◌≤◌, length, refl, subst, sym, arith}
use Rattle.grammar_meaning.specs.Grammar.{Form, call, ◌⨾◌, Made, front_empty}
use Rattle.grammar_meaning.specs.Outcome.{Lags, NotBegun, implies, or}
use Rattle.grammar_meaning.specs.Laws.{reads_le}
use Rattle.grammar_meaning.specs.Exact.{got_call, got_then, broke_call, broke_first, broke_rest, lags_most, lags_near, lags_or, lags_call, lags_first, lags_rest}
use Rattle.grammar_meaning.specs.Parts.{got_wide, broke_wide, lags_aside, got_left_only, got_right_only, broke_left_only, broke_right_only}
use Rattle.rdf_meaning.specs.Terms.{iri as iri_term}
use Rattle.query_meaning.specs.declared.pattern.Slot.TheVariants as slot
use Rattle.sparql_grammar_meaning.specs.declared.lexeme.Lexeme.{Lexeme}
use Rattle.sparql_grammar_meaning.specs.declared.lexeme.Lexeme.TheVariants as l
use Rattle.sparql_grammar_meaning.specs.declared.lexeme.Sign.{Sign}
use Rattle.sparql_grammar_meaning.specs.declared.lexeme.Sign.TheVariants as s
use Rattle.sparql_grammar_meaning.specs.Grammar.{Kind, sign, test, kind, among, word, Symbol, grammar, Tree}
use Rattle.sparql_grammar_meaning.specs.Table.{look, begins, after}
use Rattle.sparql_cursor.specs.Outcomes.{Gets, gets, got, Breaks, breaks, broke, Stops, stops_memory, stops_at, IsNot, NoneOf, SomeOf, apart}
use Rattle.sparql_cursor.specs.declared.refusal.Refusal.{Refusal}
use Rattle.sparql_cursor.specs.declared.refusal.Refusal.TheVariants.{Syntax}
use Rattle.query_meaning.specs.declared.expression.ValueExpr.{ValueExpr}
use Rattle.query_meaning.specs.declared.expression.ValueExpr.TheVariants as v
use Rattle.query_meaning.specs.declared.expression.TruthExpr.{TruthExpr}
use Rattle.query_meaning.specs.declared.expression.TruthExpr.TheVariants as t
use Rattle.sparql_grammar_meaning.specs.Grammar.{Value_, Test_, Atom_, Truth_, a_value, a_truth}
use Rattle.sparql_conditions.specs.declared.operand.Operand.{Operand}
use Rattle.sparql_conditions.specs.declared.operand.Operand.TheVariants as op
use Rattle.sparql_values.specs.ValueSteps.{opened, closed, not_closed}
use Rattle.sparql_conditions.specs.Operands.{stuck, atom_stuck, value_stuck, One, one_value, one_truth, Item, item_is_value, item_is_truth, StopsOne, one_memory, one_at, StopsItem, item_memory, item_at}

abbrev pub bracketed_truth : Form Symbol Kind
bracketed_truth = word s.OpenBracket ⨾ call Truth_ ⨾ word s.CloseBracket

-- a value in brackets, beside what else the brackets hold
value_aside : (ts us vs : List Lexeme) → length vs ≤ length us → Lags grammar (among (after Truth_)) (call Value_) ts us → Lags grammar (among (after Value_)) (call Value_) (l.Sign s.OpenBracket ∷ ts) vs
value_aside ts us vs h a =
    let i = a.within ts front_empty in
    lags_call Value_ (lags_or (lags_aside look refl refl (omega arith)) (lags_or (lags_aside look refl refl (omega arith)) (lags_or (lags_aside look refl refl (omega arith)) (lags_or (lags_aside look refl refl (omega arith))
    (lags_near (lags_rest look refl (opened ts).most (lags_first look refl a)) h)))))

atom_bracket : (ts us : List Lexeme) (x : Tree) → Gets Truth_ ts x (l.Sign s.CloseBracket ∷ us) → Gets Atom_ (l.Sign s.OpenBracket ∷ ts) x us
atom_bracket ts us x a = gets (got_call Atom_ (got_left_only look refl refl (got_then look refl (opened ts) (got_then look refl (got a) (closed us)))))

atom_open : (ts us : List Lexeme) → Breaks Truth_ ts us → Breaks Atom_ (l.Sign s.OpenBracket ∷ ts) us
atom_open ts us a = breaks (broke_call Atom_ (broke_left_only look refl refl (broke_rest look refl (opened ts) (broke_first look refl (broke a)))))

atom_unclosed : (ts us : List Lexeme) (x : Tree) → Gets Truth_ ts x us → IsNot (sign s.CloseBracket) us → Breaks Atom_ (l.Sign s.OpenBracket ∷ ts) us
atom_unclosed ts us x a h = breaks (broke_call Atom_ (broke_left_only look refl refl (broke_rest look refl (opened ts) (broke_rest look refl (got a) (not_closed us h)))))

value_closed : (ts us : List Lexeme) (x : ValueExpr) → Gets Value_ ts (a_value x) (l.Sign s.CloseBracket ∷ us) → Gets Value_ (l.Sign s.OpenBracket ∷ ts) (a_value x) us
value_closed ts us x a =
    gets (got_call Value_ (got_right_only look refl refl (got_right_only look refl refl (got_right_only look refl refl (got_right_only look refl refl
    (got_wide look refl (got_then look refl (opened ts) (got_then look refl (got a) (closed us)))))))))

value_unclosed : (ts us : List Lexeme) (x : ValueExpr) → Gets Value_ ts (a_value x) us → IsNot (sign s.CloseBracket) us → Breaks Value_ (l.Sign s.OpenBracket ∷ ts) us
value_unclosed ts us x a h =
    breaks (broke_call Value_ (broke_right_only look refl refl (broke_right_only look refl refl (broke_right_only look refl refl (broke_right_only look refl refl
    (broke_wide look refl (broke_rest look refl (opened ts) (broke_rest look refl (got a) (not_closed us h)))))))))

pub item_closed : (ts us : List Lexeme) (o : Operand) → One Truth_ ts o (l.Sign s.CloseBracket ∷ us) → Item (l.Sign s.OpenBracket ∷ ts) o us
item_closed ts us o (one_value {x = x} a) = item_is_value (record { atom = (got (atom_bracket ts us (a_value x) a.all)).most; value = value_closed ts us x a.value })
item_closed ts us o (one_truth {x = x} a) = item_is_truth (atom_bracket ts us (a_truth x) a.all) (value_aside ts (l.Sign s.CloseBracket ∷ us) us (omega arith) a.value)

pub item_unclosed : (ts us : List Lexeme) (o : Operand) → One Truth_ ts o us → IsNot (sign s.CloseBracket) us → StopsItem (l.Sign s.OpenBracket ∷ ts) (Syntax (length us))
item_unclosed ts us o (one_value {x = x} a) h = item_at us (atom_stuck (atom_unclosed ts us (a_value x) a.all h) (broke (value_unclosed ts us x a.value h)).lags)
item_unclosed ts us o (one_truth {x = x} a) h = item_at us (atom_stuck (atom_unclosed ts us (a_truth x) a.all h) (value_aside ts us us (omega arith) a.value))

pub item_open : (ts : List Lexeme) (r : Refusal) → StopsOne Truth_ ts r → StopsItem (l.Sign s.OpenBracket ∷ ts) r
item_open ts r one_memory = item_memory
item_open ts r (one_at us (stuck a)) = item_at us (atom_stuck (atom_open ts us a.all) (value_aside ts us us (omega arith) a.value))

pub item_test : (ts us : List Lexeme) (x : TruthExpr) → SomeOf (begins Test_) ts → Gets Test_ ts (a_truth x) us → Item ts (op.Truth x) us
item_test ts us x h a =
    item_is_truth (gets (got_call Atom_ (got_right_only look refl (apart (begins Test_) bracketed_truth ts refl h) (got a))))
    (lags_aside look refl (apart (begins Test_) (call Value_) ts refl h) (reads_le grammar (call Test_) ts us (Made (a_truth x)) (got a).reads))

pub item_test_stops : (ts : List Lexeme) (r : Refusal) → SomeOf (begins Test_) ts → Stops Test_ ts r → StopsItem ts r
item_test_stops ts r h stops_memory = item_memory
item_test_stops ts r h (stops_at us a) =
    item_at us (atom_stuck (breaks (broke_call Atom_ (broke_right_only look refl (apart (begins Test_) bracketed_truth ts refl h) (broke a))))
    (lags_aside look refl (apart (begins Test_) (call Value_) ts refl h) ((broke a).lags.within ts front_empty)))

-- neither a bracket nor a test
no_atom : (ts : List Lexeme) → IsNot (sign s.OpenBracket) ts → NoneOf (begins Test_) ts → NotBegun grammar look (call Atom_) ts
no_atom [] h i = tt
no_atom (x ∷ ts) h i = subst (λ b. IsTrue (implies (or b (among (begins Test_) (kind x))) false)) (sym h) (subst (λ b. IsTrue (implies b false)) (sym i) refl)

pub item_plain : (ts us : List Lexeme) (x : ValueExpr) → IsNot (sign s.OpenBracket) ts → NoneOf (begins Test_) ts → Gets Value_ ts (a_value x) us → Item ts (op.Value x) us
item_plain ts us x h i a =
    item_is_value (record { atom = lags_most (lags_aside look refl (no_atom ts h i) (reads_le grammar (call Value_) ts us (Made (a_value x)) (got a).reads)); value = a })

pub item_plain_stops : (ts : List Lexeme) (r : Refusal) → IsNot (sign s.OpenBracket) ts → NoneOf (begins Test_) ts → Stops Value_ ts r → StopsItem ts r
item_plain_stops ts r h i stops_memory = item_memory
item_plain_stops ts r h i (stops_at us a) = item_at us (value_stuck a (lags_aside look refl (no_atom ts h i) ((broke a).lags.within ts front_empty)))

pub ruleset item_paths = (item_memory, item_closed, item_unclosed, item_open, item_test, item_test_stops, item_plain, item_plain_stops)
