-- The steps of the readers of comparisons and of what `!` denies.
use Rattle.std.proofs.Common.{List, [], ◌∷◌, ◌≤◌, length, refl, arith}
use Rattle.grammar_meaning.specs.Grammar.{Form, call, ◌⨾◌, ◌∣◌, Leaf, Made, front_empty}
use Rattle.grammar_meaning.specs.Outcome.{Most, Lags, Got, Broke, NotBegun, and}
use Rattle.grammar_meaning.specs.Laws.{reads_le}
use Rattle.grammar_meaning.specs.Exact.{got_call, got_then, got_left, got_right, broke_call, broke_first, broke_rest, broke_left, broke_right, lags_most, lags_near, most_lags, lags_wide, most_wide, most_or, lags_or, most_call, lags_call, lags_first}
use Rattle.grammar_meaning.specs.Parts.{got_wide, broke_wide, lags_aside, got_left_only, got_right_only, broke_left_only, broke_right_only, got_some, broke_some, got_skip}
use Rattle.rdf_meaning.specs.Terms.{iri as iri_term}
use Rattle.query_meaning.specs.declared.pattern.Slot.TheVariants as slot
use Rattle.sparql_grammar_meaning.specs.declared.lexeme.Lexeme.{Lexeme}
use Rattle.sparql_grammar_meaning.specs.declared.lexeme.Lexeme.TheVariants as l
use Rattle.sparql_grammar_meaning.specs.declared.lexeme.Sign.{Sign}
use Rattle.sparql_grammar_meaning.specs.declared.lexeme.Sign.TheVariants as s
use Rattle.sparql_grammar_meaning.specs.Grammar.{Kind, sign, among, word, Symbol, grammar, Tree}
use Rattle.sparql_grammar_meaning.specs.Table.{look, begins, after}
use Rattle.sparql_cursor.specs.Outcomes.{Gets, gets, got, Breaks, breaks, broke, Stops, stops_memory, stops_at, IsNot, NoneOf, SomeOf, not_then, not_begun, ahead, token}
use Rattle.sparql_cursor.specs.declared.refusal.Refusal.{Refusal}
use Rattle.query_meaning.specs.declared.expression.ValueExpr.{ValueExpr}
use Rattle.query_meaning.specs.declared.expression.ValueExpr.TheVariants as v
use Rattle.query_meaning.specs.declared.expression.TruthExpr.{TruthExpr}
use Rattle.query_meaning.specs.declared.expression.TruthExpr.TheVariants as t
use Rattle.sparql_grammar_meaning.specs.Grammar.{Value_, Operator_, Compared_, Prim_, Atom_, Rel_, a_value, a_truth, a_tail, truth_in}
use Rattle.sparql_conditions.specs.declared.operand.Operand.{Operand}
use Rattle.sparql_conditions.specs.declared.operand.Operand.TheVariants as op
use Rattle.sparql_conditions.specs.Operands.{as_truth, Stuck, stuck, ItemValue, ItemStuck, atom_stuck, value_stuck, One, one_value, one_truth, Item, item_is_value, item_is_truth, StopsOne, one_memory, one_at, StopsItem, handed_item}
use Rattle.sparql_values.specs.OperatorSteps.{OperatorGot, operator_got}

abbrev pub denied : Form Symbol Kind
denied = word s.Bang ⨾ (call Atom_ ∣ call Value_)

not_denied : (ts : List Lexeme) → IsNot (sign s.Bang) ts → NotBegun grammar look denied ts
not_denied ts h = not_then (sign s.Bang) (call Atom_ ∣ call Value_) ts h

-- atoms as members of the wider symbols
prim_most : (ts us : List Lexeme) (x : Tree) → IsNot (sign s.Bang) ts → Most grammar (among []) (call Atom_) ts (Made x) us → Most grammar (among (after Rel_)) (call Prim_) ts (Made x) us
prim_most ts us x h a = most_wide look refl (most_call {G = grammar} Prim_ (most_or (lags_most (lags_aside look refl (not_denied ts h) (a.within ts front_empty))) a))

prim_lags : (ts us : List Lexeme) → IsNot (sign s.Bang) ts → Lags grammar (among []) (call Atom_) ts us → Lags grammar (among (after Rel_)) (call Prim_) ts us
prim_lags ts us h a = lags_wide look refl (lags_call {G = grammar} Prim_ (lags_or (lags_aside look refl (not_denied ts h) (a.within ts front_empty)) a))

-- a value that no operator follows
pub rel_value : (ts us : List Lexeme) (x : ValueExpr) → IsNot (sign s.Bang) ts → Item ts (op.Value x) us → NoneOf (begins Operator_) us → One Rel_ ts (op.Value x) us
rel_value ts us x h (item_is_value a) i = one_value (record {
  all = gets (got_call Rel_ (got_left (got_call Compared_ (got_then look refl (got a.value) (got_skip look (among (after Rel_)) refl (not_begun Operator_ us i)))) (prim_most ts us (a_value x) h a.atom)));
  value = a.value;
})

prim_aside : (ts us vs : List Lexeme) (x : ValueExpr) → IsNot (sign s.Bang) ts → ItemValue ts x us → SomeOf (begins Operator_) us → length vs ≤ length us → Lags grammar (among (after Rel_)) (call Prim_) ts vs
prim_aside ts us vs x h a i k = lags_near (most_lags (prim_most ts us (a_value x) h a.atom) (ahead (begins Operator_) (after Rel_) us refl i)) k

value_aside : (ts us vs : List Lexeme) (x : ValueExpr) → ItemValue ts x us → SomeOf (begins Operator_) us → length vs ≤ length us → Lags grammar (among (after Rel_)) (call Value_) ts vs
value_aside ts us vs x a i k = lags_near (most_lags (most_wide look refl (got a.value).most) (ahead (begins Operator_) (after Rel_) us refl i)) k

pub rel_compared : (ts us vs : List Lexeme) (x : ValueExpr) (y : TruthExpr) → IsNot (sign s.Bang) ts → Item ts (op.Value x) us → SomeOf (begins Operator_) us → OperatorGot x us y vs → One Rel_ ts (op.Truth y) vs
rel_compared ts us vs x y h (item_is_value a) i (operator_got z b) =
    let k = reads_le grammar (call Operator_) us vs (Made (a_tail z)) (got b).reads in one_truth (record {
      all = gets (got_call Rel_ (got_left (got_call Compared_ (got_then look refl (got a.value) (got_some (ahead (begins Operator_) (after Rel_) us refl i) (got_wide look refl (got b))))) (lags_most (prim_aside ts us vs x h a i k))));
      value = value_aside ts us vs x a i k;
    })

pub rel_compared_stops : (ts us : List Lexeme) (x : ValueExpr) (r : Refusal) → IsNot (sign s.Bang) ts → Item ts (op.Value x) us → SomeOf (begins Operator_) us → Stops Operator_ us r → StopsOne Rel_ ts r
rel_compared_stops ts us x r h a i stops_memory = one_memory
rel_compared_stops ts us x r h (item_is_value a) i (stops_at vs b) =
    let k = (broke b).lags.within us front_empty in one_at vs (stuck (record {
      all = breaks (broke_call Rel_ (broke_left (broke_call Compared_ (broke_rest look refl (got a.value) (broke_some (ahead (begins Operator_) (after Rel_) us refl i) (broke_wide look refl (broke b))))) (prim_aside ts us vs x h a i k)));
      value = value_aside ts us vs x a i k;
    }))

pub rel_truth : (ts us : List Lexeme) (x : TruthExpr) → IsNot (sign s.Bang) ts → Item ts (op.Truth x) us → One Rel_ ts (op.Truth x) us
rel_truth ts us x h (item_is_truth a b) = one_truth (record {
  all = gets (got_call Rel_ (got_right (lags_most (lags_call {G = grammar} Compared_ (lags_first look refl b))) (got_call Prim_ (got_right_only look refl (not_denied ts h) (got_wide look refl (got a))))));
  value = lags_wide look refl b;
})

rel_stuck : (ts us : List Lexeme) → IsNot (sign s.Bang) ts → ItemStuck ts us → Stuck Rel_ ts us
rel_stuck ts us h (atom_stuck a b) = stuck (record {
  all = breaks (broke_call Rel_ (broke_right (lags_call {G = grammar} Compared_ (lags_first look refl b)) (broke_call Prim_ (broke_right_only look refl (not_denied ts h) (broke_wide look refl (broke a))))));
  value = lags_wide look refl b;
})
rel_stuck ts us h (value_stuck a b) = stuck (record {
  all = breaks (broke_call Rel_ (broke_left (broke_call Compared_ (broke_first look refl (broke a))) (prim_lags ts us h b)));
  value = lags_wide look refl (broke a).lags;
})

pub rel_stops : (ts : List Lexeme) (r : Refusal) → IsNot (sign s.Bang) ts → StopsItem ts r → StopsOne Rel_ ts r
rel_stops ts r h a = handed_item (λ ws b. rel_stuck ts ws h b) a

pub ruleset rel_paths = (one_memory, rel_value, rel_compared, rel_compared_stops, rel_truth, rel_stops)

bang : (ts : List Lexeme) → Got grammar (among []) (word s.Bang) (l.Sign s.Bang ∷ ts) (Leaf (l.Sign s.Bang)) ts
bang ts = token [] (sign s.Bang) (l.Sign s.Bang) ts refl

bang_got : (ts us : List Lexeme) (x : Tree) → Got grammar (among (after Value_)) (call Atom_ ∣ call Value_) ts (Made x) us → Gets Rel_ (l.Sign s.Bang ∷ ts) (a_truth (t.Not (truth_in (Made x)))) us
bang_got ts us x a = gets (got_call Rel_ (got_right_only look refl refl (got_call Prim_ (got_left_only look refl refl (got_then look refl (bang ts) (got_wide look refl a))))))

bang_broke : (ts us : List Lexeme) → Broke grammar (among (after Value_)) (call Atom_ ∣ call Value_) ts us → Breaks Rel_ (l.Sign s.Bang ∷ ts) us
bang_broke ts us a = breaks (broke_call Rel_ (broke_right_only look refl refl (broke_call Prim_ (broke_left_only look refl refl (broke_rest look refl (bang ts) (broke_wide look refl a))))))

pub rel_bang : (ts us : List Lexeme) (o : Operand) → Item ts o us → One Rel_ (l.Sign s.Bang ∷ ts) (op.Truth (t.Not (as_truth o))) us
rel_bang ts us o (item_is_value {x = x} a) = let i = a.atom.within ts front_empty in one_truth (record {
  all = bang_got ts us (a_value x) (got_right (most_wide look refl a.atom) (got a.value));
  value = lags_aside look refl refl (omega arith);
})
rel_bang ts us o (item_is_truth {x = x} a b) = let i = b.within ts front_empty in one_truth (record {
  all = bang_got ts us (a_truth x) (got_left (got_wide look refl (got a)) (lags_most b));
  value = lags_aside look refl refl (omega arith);
})

bang_stuck : (ts us : List Lexeme) → ItemStuck ts us → Stuck Rel_ (l.Sign s.Bang ∷ ts) us
bang_stuck ts us (atom_stuck a b) = let i = b.within ts front_empty in stuck (record {
  all = bang_broke ts us (broke_left (broke_wide look refl (broke a)) b);
  value = lags_aside look refl refl (omega arith);
})
bang_stuck ts us (value_stuck a b) = let i = b.within ts front_empty in stuck (record {
  all = bang_broke ts us (broke_right (lags_wide look refl b) (broke a));
  value = lags_aside look refl refl (omega arith);
})

pub rel_bang_stops : (ts : List Lexeme) (r : Refusal) → StopsItem ts r → StopsOne Rel_ (l.Sign s.Bang ∷ ts) r
rel_bang_stops ts r a = handed_item (λ ws b. bang_stuck ts ws b) a

pub ruleset bang_paths = (one_memory, rel_bang, rel_bang_stops)
