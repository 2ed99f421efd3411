-- The steps of the readers of an order.
use Rattle.std.proofs.Common.{Bool, false, List, [], ◌∷◌, ◌++◌, ◌≡◌, length, ℕ, refl, ap, subst, sym, append_assoc, ◌∙◌}
use Rattle.std.proofs.lemmas.List.{append-nil}
use Rattle.grammar_meaning.specs.Grammar.{Form, call, ◌⨾◌, many, maybe, Nil, Leaf, Made}
use Rattle.grammar_meaning.specs.Outcome.{Got, Broke, NotBegun}
use Rattle.grammar_meaning.specs.Exact.{got_call, got_then, broke_call, broke_none, broke_first, broke_rest}
use Rattle.grammar_meaning.specs.Parts.{got_wide, broke_wide, got_left_only, got_right_only, broke_right_only, got_some, broke_some, got_skip, Along, along_step, along_end, along_stop}
use Rattle.rdf_meaning.specs.Terms.{iri as iri_term}
use Rattle.query_meaning.specs.declared.pattern.Slot.TheVariants as slot
use Rattle.sparql_grammar_meaning.specs.declared.lexeme.Lexeme.{Lexeme}
use Rattle.sparql_grammar_meaning.specs.declared.lexeme.Lexeme.TheVariants as l
use Rattle.sparql_grammar_meaning.specs.declared.lexeme.Sign.{Sign}
use Rattle.sparql_grammar_meaning.specs.declared.lexeme.Sign.TheVariants as s
use Rattle.sparql_grammar_meaning.specs.Grammar.{Kind, sign, variable, direction, kind, is, among, mark, word, Symbol, grammar, Read}
use Rattle.sparql_grammar_meaning.specs.Table.{look, begins, after}
use Rattle.sparql_cursor.specs.Outcomes.{Gets, gets, got, breaks, broke, Stops, stops_memory, stops_at, handed, IsNot, NoneOf, SomeOf, or_false, not_first, not_kind, not_then, ahead, token}
use Rattle.sparql_cursor.specs.declared.refusal.Refusal.{Refusal}
use Rattle.sparql_cursor.specs.declared.refusal.Refusal.TheVariants.{NoMemory, Syntax}
use Rattle.query_meaning.specs.declared.expression.ValueExpr.TheVariants as v
use Rattle.query_meaning.specs.declared.expression.TruthExpr.TheVariants as t
use Rattle.query_meaning.specs.declared.modifiers.Key.{Key as SortKey}
use Rattle.sparql_grammar_meaning.specs.Grammar.{Key_, Order_, a_key, key_of, keys, keys_in, keys_behind}

abbrev pub directed : Form Symbol Kind
directed = mark direction ⨾ word s.OpenBracket ⨾ mark variable ⨾ word s.CloseBracket

dir : (d : Bool) (ts : List Lexeme) → Got grammar (among []) (mark direction) (l.Direction d ∷ ts) (Leaf (l.Direction d)) ts
dir d ts = token [] direction (l.Direction d) ts refl

open_one : (ts : List Lexeme) → Got grammar (among []) (word s.OpenBracket) (l.Sign s.OpenBracket ∷ ts) (Leaf (l.Sign s.OpenBracket)) ts
open_one ts = token [] (sign s.OpenBracket) (l.Sign s.OpenBracket) ts refl

directed_broke : (d : Bool) (ts us : List Lexeme) → Broke grammar (among []) directed (l.Direction d ∷ ts) us → Stops Key_ (l.Direction d ∷ ts) (Syntax (length us))
directed_broke d ts us a = stops_at us (breaks (broke_call Key_ (broke_right_only look refl refl a)))

pub directed_got : (d : Bool) (n : ℕ) (us : List Lexeme) → Gets Key_ (l.Direction d ∷ l.Sign s.OpenBracket ∷ l.Variable n ∷ l.Sign s.CloseBracket ∷ us) (a_key (key_of n d)) us
directed_got d n us =
    gets (got_call Key_ (got_right_only look refl refl (got_then look refl (dir d (l.Sign s.OpenBracket ∷ l.Variable n ∷ l.Sign s.CloseBracket ∷ us))
    (got_then look refl (open_one (l.Variable n ∷ l.Sign s.CloseBracket ∷ us)) (got_then look refl (token [] variable (l.Variable n) (l.Sign s.CloseBracket ∷ us) refl) (token [] (sign s.CloseBracket) (l.Sign s.CloseBracket) us refl))))))

pub directed_unclosed : (d : Bool) (n : ℕ) (us : List Lexeme) → IsNot (sign s.CloseBracket) us → Stops Key_ (l.Direction d ∷ l.Sign s.OpenBracket ∷ l.Variable n ∷ us) (Syntax (length us))
directed_unclosed d n us h =
    directed_broke d (l.Sign s.OpenBracket ∷ l.Variable n ∷ us) us (broke_rest look refl (dir d (l.Sign s.OpenBracket ∷ l.Variable n ∷ us)) (broke_rest look refl (open_one (l.Variable n ∷ us))
    (broke_rest look refl (token [] variable (l.Variable n) us refl) (broke_none look (among []) refl (not_kind (sign s.CloseBracket) us h)))))

pub directed_nothing : (d : Bool) (us : List Lexeme) → IsNot variable us → Stops Key_ (l.Direction d ∷ l.Sign s.OpenBracket ∷ us) (Syntax (length us))
directed_nothing d us h =
    directed_broke d (l.Sign s.OpenBracket ∷ us) us (broke_rest look refl (dir d (l.Sign s.OpenBracket ∷ us)) (broke_rest look refl (open_one us) (broke_none look (among []) refl (not_then variable (word s.CloseBracket) us h))))

pub directed_none : (d : Bool) (us : List Lexeme) → IsNot (sign s.OpenBracket) us → Stops Key_ (l.Direction d ∷ us) (Syntax (length us))
directed_none d us h = directed_broke d us us (broke_rest look refl (dir d us) (broke_none look (among []) refl (not_then (sign s.OpenBracket) (mark variable ⨾ word s.CloseBracket) us h)))

pub ruleset direction_paths = (stops_memory, directed_got, directed_unclosed, directed_nothing, directed_none)

pub key_variable : (n : ℕ) (us : List Lexeme) → Gets Key_ (l.Variable n ∷ us) (a_key (key_of n false)) us
key_variable n us = gets (got_call Key_ (got_left_only look refl refl (token [] variable (l.Variable n) us refl)))

pub key_none : (ts : List Lexeme) → IsNot variable ts → IsNot direction ts → Stops Key_ ts (Syntax (length ts))
key_none ts h i = stops_at ts (breaks (broke_call Key_ (broke_right_only look refl (not_kind variable ts h) (broke_none look (among []) refl (not_then direction (word s.OpenBracket ⨾ mark variable ⨾ word s.CloseBracket) ts i)))))

pub ruleset key_paths = (stops_memory, key_variable, key_none)

order_word : (ts : List Lexeme) → Got grammar (among []) (word s.Order) (l.Sign s.Order ∷ ts) (Leaf (l.Sign s.Order)) ts
order_word ts = token [] (sign s.Order) (l.Sign s.Order) ts refl

by_word : (ts : List Lexeme) → Got grammar (among []) (word s.By) (l.Sign s.By ∷ ts) (Leaf (l.Sign s.By)) ts
by_word ts = token [] (sign s.By) (l.Sign s.By) ts refl

-- a loop over keys
pub data OrderAlong (ts : List Lexeme) (xs : List SortKey) (us : List Lexeme) : Type 0 where
  order_along : Along grammar (among (after Order_)) (call Key_) (among (after Order_)) (call Order_) ts (λ m. Made (keys (xs ++ keys_behind m))) us → OrderAlong ts xs us

no_key : (us : List Lexeme) → NoneOf (begins Key_) us → NotBegun grammar look (call Key_ ⨾ many (call Key_)) us
no_key us h = not_first (begins Key_) (call Key_ ⨾ many (call Key_)) (λ k. or_false (among (begins Key_) k)) us h

pub order_start : (ts us : List Lexeme) (x : SortKey) → Gets Key_ ts (a_key x) us → OrderAlong (l.Sign s.Order ∷ l.Sign s.By ∷ ts) (x ∷ []) us
order_start ts us x a = order_along (record {
  more = λ m ws r. got_call Order_ (got_then look refl (order_word (l.Sign s.By ∷ ts)) (got_then look refl (by_word ts) (got_then look refl (got a) r)));
  stop = λ ws r. broke_call Order_ (broke_rest look refl (order_word (l.Sign s.By ∷ ts)) (broke_rest look refl (by_word ts) (broke_rest look refl (got a) r)));
})

pub order_step : (ts us vs : List Lexeme) (xs : List SortKey) (y : SortKey) → SomeOf (begins Key_) us → OrderAlong ts xs us → Gets Key_ us (a_key y) vs → OrderAlong ts (xs ++ (y ∷ [])) vs
order_step ts us vs xs y h (order_along a) b =
    order_along (along_step look (λ m. Made (keys ((xs ++ (y ∷ [])) ++ keys_behind m))) refl (λ m. ap (λ z. Made (keys z)) (sym (append_assoc xs (y ∷ []) (keys_behind m)))) (ahead (begins Key_) (after Order_) us refl h) a (got b))

pub order_end : (ts us : List Lexeme) (xs : List SortKey) → OrderAlong ts xs us → NoneOf (begins Key_) us → Gets Order_ ts (keys xs) us
order_end ts us xs (order_along a) h =
    gets (subst (λ z. Got grammar (among (after Order_)) (call Order_) ts (Made (keys z)) us) (append-nil xs) (along_end look refl (no_key us h) a))

pub order_first_stops : (ts : List Lexeme) (r : Refusal) → Stops Key_ ts r → Stops Order_ (l.Sign s.Order ∷ l.Sign s.By ∷ ts) r
order_first_stops ts r a = handed (λ ws b. breaks (broke_call Order_ (broke_rest look refl (order_word (l.Sign s.By ∷ ts)) (broke_rest look refl (by_word ts) (broke_first look refl (broke b)))))) a

pub order_later_stops : (ts us : List Lexeme) (xs : List SortKey) (r : Refusal) → SomeOf (begins Key_) us → OrderAlong ts xs us → Stops Key_ us r → Stops Order_ ts r
order_later_stops ts us xs r h (order_along a) b = handed (λ ws c. breaks (along_stop look refl (ahead (begins Key_) (after Order_) us refl h) a (broke c))) b

pub order_none : (us : List Lexeme) → IsNot (sign s.By) us → Stops Order_ (l.Sign s.Order ∷ us) (Syntax (length us))
order_none us h = stops_at us (breaks (broke_call Order_ (broke_rest look refl (order_word us) (broke_none look (among (after Order_)) refl (not_then (sign s.By) (call Key_ ⨾ many (call Key_)) us h)))))

pub ruleset order_paths = (stops_memory, order_start, order_step, order_end, order_first_stops, order_later_stops, order_none)

abbrev pub order_after : List Kind
order_after = sign s.Order ∷ variable ∷ direction ∷ []

-- an order that may be left out
pub data MayOrder : List Lexeme → List SortKey → List Lexeme → Type 0 where
  may_order : {ts us : List Lexeme} (o : Read) → Got grammar (among order_after) (maybe (call Order_)) ts o us → MayOrder ts (keys_in o) us

pub data MayOrderStops (ts : List Lexeme) : Refusal → Type 0 where
  may_memory : MayOrderStops ts NoMemory
  may_at : (us : List Lexeme) → Broke grammar (among order_after) (maybe (call Order_)) ts us → MayOrderStops ts (Syntax (length us))

pub may_some : (ts us : List Lexeme) (xs : List SortKey) → Gets Order_ (l.Sign s.Order ∷ ts) (keys xs) us → MayOrder (l.Sign s.Order ∷ ts) xs us
may_some ts us xs a = may_order (Made (keys xs)) (got_some refl (got_wide look refl (got a)))

no_order : (ts : List Lexeme) → IsNot (sign s.Order) ts → NoneOf (sign s.Order ∷ []) ts
no_order [] h = tt
no_order (t ∷ ts) h = or_false (is (sign s.Order) (kind t)) ∙ h

pub may_none : (ts : List Lexeme) (xs : List SortKey) → IsNot (sign s.Order) ts → xs ≡ [] → MayOrder ts xs ts
may_none ts xs h is =
    subst (λ z. MayOrder ts z ts) (sym is) (may_order Nil (got_skip look (among order_after) refl (not_first (sign s.Order ∷ []) (call Order_) (λ k. refl) ts (no_order ts h))))

pub may_stops : (ts : List Lexeme) (r : Refusal) → Stops Order_ (l.Sign s.Order ∷ ts) r → MayOrderStops (l.Sign s.Order ∷ ts) r
may_stops ts r stops_memory = may_memory
may_stops ts r (stops_at us a) = may_at us (broke_some refl (broke_wide look refl (broke a)))

pub ruleset may_paths = (may_memory, may_some, may_none, may_stops)
