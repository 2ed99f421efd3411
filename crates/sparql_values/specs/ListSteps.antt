-- The steps of the readers of lists of values.
use Rattle.std.proofs.Common.{List, [], ◌∷◌, ◌++◌, ◌≡◌, length, refl, subst, sym, append_assoc, ◌∙◌}
use Rattle.std.proofs.lemmas.List.{append-nil}
use Rattle.grammar_meaning.specs.Grammar.{Form, call, ◌⨾◌, many, maybe, Nil, Leaf, Pair, Made}
use Rattle.grammar_meaning.specs.Outcome.{Got, Broke, NotBegun, and}
use Rattle.grammar_meaning.specs.Exact.{got_call, got_then, broke_call, broke_none, broke_first, broke_rest}
use Rattle.grammar_meaning.specs.Parts.{got_wide, broke_wide, got_some, broke_some, got_skip, Along, along_step, along_end, along_stop}
use Rattle.rdf_meaning.specs.Terms.{iri as iri_term}
use Rattle.query_meaning.specs.declared.pattern.Slot.TheVariants as slot
use Rattle.sparql_grammar_meaning.specs.declared.lexeme.Lexeme.{Lexeme}
use Rattle.sparql_grammar_meaning.specs.declared.lexeme.Lexeme.TheVariants as l
use Rattle.sparql_grammar_meaning.specs.declared.lexeme.Sign.{Sign}
use Rattle.sparql_grammar_meaning.specs.declared.lexeme.Sign.TheVariants as s
use Rattle.sparql_grammar_meaning.specs.Grammar.{Kind, sign, tag, among, word, Symbol, grammar, Read}
use Rattle.sparql_grammar_meaning.specs.Table.{look, begins, after}
use Rattle.sparql_cursor.specs.Outcomes.{Gets, gets, got, breaks, broke, Stops, stops_memory, stops_at, IsNot, NoneOf, SomeOf, or_false, not_first, not_then, not_again, ahead, token}
use Rattle.sparql_cursor.specs.declared.refusal.Refusal.{Refusal}
use Rattle.sparql_cursor.specs.declared.refusal.Refusal.TheVariants.{NoMemory, Syntax}
use Rattle.query_meaning.specs.declared.expression.ValueExpr.{ValueExpr}
use Rattle.query_meaning.specs.declared.expression.ValueExpr.TheVariants as v
use Rattle.query_meaning.specs.declared.expression.TruthExpr.TheVariants as t
use Rattle.sparql_grammar_meaning.specs.Grammar.{Value_, Values_, a_value, values, value_in, values_behind}
use Rattle.sparql_values.specs.ValueSteps.{opened, closed, not_closed}

abbrev pub members : Form Symbol Kind
members = call Value_ ⨾ many (word s.Comma ⨾ call Value_)

abbrev pub members_after : List Kind
members_after = tag ∷ sign s.TwoCarets ∷ sign s.Comma ∷ []

-- those, and what begins a value
abbrev pub list_after : List Kind
list_after = tag ∷ sign s.TwoCarets ∷ sign s.Comma ∷ begins Value_

-- values with commas between them
pub data MembersGot (ts : List Lexeme) (xs : List ValueExpr) (us : List Lexeme) : Type 0 where
  members_got : (x m : Read) → Got grammar (among members_after) members ts (Pair x m) us → value_in x ∷ values_behind m ≡ xs → MembersGot ts xs us

pub data MembersStops (ts : List Lexeme) : Refusal → Type 0 where
  members_memory : MembersStops ts NoMemory
  members_at : (us : List Lexeme) → Broke grammar (among members_after) members ts us → MembersStops ts (Syntax (length us))

pub data MembersAlong (ts : List Lexeme) (xs : List ValueExpr) (us : List Lexeme) : Type 0 where
  members_along : (x : Read) (tree : Read → Read)
      → Along grammar (among members_after) (word s.Comma ⨾ call Value_) (among members_after) members ts (λ m. Pair x (tree m)) us
      → ((m : Read) → value_in x ∷ values_behind (tree m) ≡ xs ++ values_behind m) → MembersAlong ts xs us

pub members_start : (ts us : List Lexeme) (x : ValueExpr) → Gets Value_ ts (a_value x) us → MembersAlong ts (x ∷ []) us
members_start ts us x a = members_along (Made (a_value x)) (λ m. m) (record {
  more = λ m ws r. got_then look refl (got a) r;
  stop = λ ws r. broke_rest look refl (got a) r;
}) (λ m. refl)

pub members_step : (ts us vs : List Lexeme) (xs : List ValueExpr) (y : ValueExpr) → MembersAlong ts xs (l.Sign s.Comma ∷ us) → Gets Value_ us (a_value y) vs → MembersAlong ts (xs ++ (y ∷ [])) vs
members_step ts us vs xs y (members_along x tree a same) b =
    members_along x (λ m. tree (Pair (Pair (Leaf (l.Sign s.Comma)) (Made (a_value y))) m))
    (along_step look (λ m. Pair x (tree (Pair (Pair (Leaf (l.Sign s.Comma)) (Made (a_value y))) m))) refl (λ m. refl) refl a
    (got_then look refl (token [] (sign s.Comma) (l.Sign s.Comma) us refl) (got b)))
    (λ m. same (Pair (Pair (Leaf (l.Sign s.Comma)) (Made (a_value y))) m) ∙ sym (append_assoc xs (y ∷ []) (values_behind m)))

pub members_end : (ts us : List Lexeme) (xs : List ValueExpr) → MembersAlong ts xs us → IsNot (sign s.Comma) us → MembersGot ts xs us
members_end ts us xs (members_along x tree a same) h = members_got x (tree Nil) (along_end look refl (not_again (sign s.Comma) (call Value_) us h) a) (same Nil ∙ append-nil xs)

pub members_first_stops : (ts : List Lexeme) (r : Refusal) → Stops Value_ ts r → MembersStops ts r
members_first_stops ts r stops_memory = members_memory
members_first_stops ts r (stops_at us a) = members_at us (broke_first look refl (broke a))

pub members_later_stops : (ts us : List Lexeme) (xs : List ValueExpr) (r : Refusal) → MembersAlong ts xs (l.Sign s.Comma ∷ us) → Stops Value_ us r → MembersStops ts r
members_later_stops ts us xs r a stops_memory = members_memory
members_later_stops ts us xs r (members_along x tree a same) (stops_at ws b) =
    members_at ws (along_stop look refl refl a (broke_rest look refl (token [] (sign s.Comma) (l.Sign s.Comma) us refl) (broke b)))

pub ruleset members_paths = (members_memory, members_start, members_step, members_end, members_first_stops, members_later_stops)

pub list_some : (ts us : List Lexeme) (xs : List ValueExpr) → SomeOf (begins Value_) ts → MembersGot ts xs (l.Sign s.CloseBracket ∷ us) → Gets Values_ (l.Sign s.OpenBracket ∷ ts) (values xs) us
list_some ts us xs h (members_got x m a same) =
    gets (subst (λ z. Got grammar (among (after Values_)) (call Values_) (l.Sign s.OpenBracket ∷ ts) (Made (values z)) us) same
    (got_call Values_ (got_then look refl (opened ts) (got_then look {e = among list_after} refl (got_some (ahead (begins Value_) list_after ts refl h) (got_wide look refl a)) (closed us)))))

pub list_unclosed : (ts us : List Lexeme) (xs : List ValueExpr) → SomeOf (begins Value_) ts → MembersGot ts xs us → IsNot (sign s.CloseBracket) us → Stops Values_ (l.Sign s.OpenBracket ∷ ts) (Syntax (length us))
list_unclosed ts us xs h (members_got x m a same) i =
    stops_at us (breaks (broke_call Values_ (broke_rest look refl (opened ts) (broke_rest look {e = among list_after} refl (got_some (ahead (begins Value_) list_after ts refl h) (got_wide look refl a)) (not_closed us i)))))

pub list_stops : (ts : List Lexeme) (r : Refusal) → SomeOf (begins Value_) ts → MembersStops ts r → Stops Values_ (l.Sign s.OpenBracket ∷ ts) r
list_stops ts r h members_memory = stops_memory
list_stops ts r h (members_at us a) =
    stops_at us (breaks (broke_call Values_ (broke_rest look refl (opened ts) (broke_first look {e = among list_after} refl (broke_some (ahead (begins Value_) list_after ts refl h) (broke_wide look refl a))))))

no_members : (ts : List Lexeme) → NoneOf (begins Value_) ts → NotBegun grammar look members ts
no_members ts h = not_first (begins Value_) members (λ k. or_false (among (begins Value_) k)) ts h

pub list_empty : (us : List Lexeme) → NoneOf (begins Value_) (l.Sign s.CloseBracket ∷ us) → Gets Values_ (l.Sign s.OpenBracket ∷ l.Sign s.CloseBracket ∷ us) (values []) us
list_empty us h = gets (got_call Values_ (got_then look refl (opened (l.Sign s.CloseBracket ∷ us)) (got_then look refl (got_skip look (among []) refl (no_members (l.Sign s.CloseBracket ∷ us) h)) (closed us))))

pub list_neither : (ts : List Lexeme) → NoneOf (begins Value_) ts → IsNot (sign s.CloseBracket) ts → Stops Values_ (l.Sign s.OpenBracket ∷ ts) (Syntax (length ts))
list_neither ts h i = stops_at ts (breaks (broke_call Values_ (broke_rest look refl (opened ts) (broke_rest look refl (got_skip look (among []) refl (no_members ts h)) (not_closed ts i)))))

pub list_none : (ts : List Lexeme) → IsNot (sign s.OpenBracket) ts → Stops Values_ ts (Syntax (length ts))
list_none ts h = stops_at ts (breaks (broke_call Values_ (broke_none look (among []) refl (not_then (sign s.OpenBracket) (maybe members ⨾ word s.CloseBracket) ts h))))

pub ruleset list_paths = (stops_memory, list_some, list_unclosed, list_stops, list_empty, list_neither, list_none)
