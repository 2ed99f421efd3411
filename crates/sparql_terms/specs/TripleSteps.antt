-- The steps of the readers of triples.
use Rattle.std.proofs.Common.{List, [], ◌∷◌, ◌++◌, ◌≡◌, length, refl, ap, subst, sym, append_assoc, ◌∙◌}
use Rattle.std.proofs.lemmas.List.{append-nil}
use Rattle.grammar_meaning.specs.Grammar.{Form, call, ◌⨾◌, maybe, Nil, Leaf, Pair, Made}
use Rattle.grammar_meaning.specs.Outcome.{Got, Broke, and}
use Rattle.grammar_meaning.specs.Exact.{got_call, got_then, broke_call, broke_first, broke_rest}
use Rattle.grammar_meaning.specs.Parts.{got_wide, broke_wide, got_some, broke_some, got_skip, Along, along_step, along_end, along_stop}
use Rattle.rdf_meaning.specs.Terms.{iri as iri_term}
use Rattle.query_meaning.specs.declared.pattern.Slot.{Slot}
use Rattle.query_meaning.specs.declared.pattern.Slot.TheVariants as slot
use Rattle.query_meaning.specs.declared.pattern.Pattern.{Pattern}
use Rattle.sparql_grammar_meaning.specs.declared.lexeme.Lexeme.{Lexeme}
use Rattle.sparql_grammar_meaning.specs.declared.lexeme.Lexeme.TheVariants as l
use Rattle.sparql_grammar_meaning.specs.declared.lexeme.Sign.{Sign}
use Rattle.sparql_grammar_meaning.specs.declared.lexeme.Sign.TheVariants as s
use Rattle.sparql_grammar_meaning.specs.Grammar.{Kind, sign, variable, iri, named, prefix_name, tag, is, among, word, Symbol, grammar, Read}
use Rattle.sparql_grammar_meaning.specs.Table.{look, begins, after}
use Rattle.sparql_cursor.specs.Outcomes.{Gets, gets, got, breaks, broke, Stops, stops_memory, stops_at, handed, IsNot, NoneOf, SomeOf, or_false, not_first, not_then, not_again, not_begun, ahead, token}
use Rattle.sparql_cursor.specs.declared.refusal.Refusal.{Refusal}
use Rattle.sparql_cursor.specs.declared.refusal.Refusal.TheVariants.{NoMemory, Syntax}
use Rattle.sparql_grammar_meaning.specs.Grammar.{Term_, Verb_, Objs_, Same_, Triples_, a_slot, slots, patterns, slots_behind, patterns_of, patterns_behind}

-- a loop over "," Term
pub data ObjectsAlong (ts : List Lexeme) (xs : List Slot) (us : List Lexeme) : Type 0 where
  objects_along : Along grammar (among (after Objs_)) (word s.Comma ⨾ call Term_) (among (after Objs_)) (call Objs_) ts (λ m. Made (slots (xs ++ slots_behind m))) us → ObjectsAlong ts xs us

pub objects_start : (ts us : List Lexeme) (x : Slot) → Gets Term_ ts (a_slot x) us → ObjectsAlong ts (x ∷ []) us
objects_start ts us x a = objects_along (record {
  more = λ m vs r. got_call Objs_ (got_then look refl (got a) r);
  stop = λ vs r. broke_call Objs_ (broke_rest look refl (got a) r);
})

pub objects_step : (ts us vs : List Lexeme) (xs : List Slot) (y : Slot) → ObjectsAlong ts xs (l.Sign s.Comma ∷ us) → Gets Term_ us (a_slot y) vs → ObjectsAlong ts (xs ++ (y ∷ [])) vs
objects_step ts us vs xs y (objects_along a) b =
    objects_along (along_step look (λ m. Made (slots ((xs ++ (y ∷ [])) ++ slots_behind m))) refl (λ m. ap (λ z. Made (slots z)) (sym (append_assoc xs (y ∷ []) (slots_behind m)))) refl a
    (got_then look refl (token [] (sign s.Comma) (l.Sign s.Comma) us refl) (got b)))

pub objects_end : (ts us : List Lexeme) (xs : List Slot) → ObjectsAlong ts xs us → IsNot (sign s.Comma) us → Gets Objs_ ts (slots xs) us
objects_end ts us xs (objects_along a) h =
    gets (subst (λ z. Got grammar (among (after Objs_)) (call Objs_) ts (Made (slots z)) us) (append-nil xs) (along_end look refl (not_again (sign s.Comma) (call Term_) us h) a))

pub objects_first_stops : (ts : List Lexeme) (r : Refusal) → Stops Term_ ts r → Stops Objs_ ts r
objects_first_stops ts r a = handed (λ ws b. breaks (broke_call Objs_ (broke_first look refl (broke b)))) a

pub objects_later_stops : (ts us : List Lexeme) (xs : List Slot) (r : Refusal) → ObjectsAlong ts xs (l.Sign s.Comma ∷ us) → Stops Term_ us r → Stops Objs_ ts r
objects_later_stops ts us xs r (objects_along a) b = handed (λ ws c. breaks (along_stop look refl refl a (broke_rest look refl (token [] (sign s.Comma) (l.Sign s.Comma) us refl) (broke c)))) b

pub ruleset objects_paths = (stops_memory, objects_start, objects_step, objects_end, objects_first_stops, objects_later_stops)

-- a predicate and its objects, of a subject
pub data PairGot (x : Slot) (ts : List Lexeme) : List Pattern → List Lexeme → Type 0 where
  pair_got : {us : List Lexeme} (ws : List Lexeme) (v : Slot) (os : List Slot) → Gets Verb_ ts (a_slot v) ws → Gets Objs_ ws (slots os) us → PairGot x ts (patterns_of x v os) us

pub data PairStops (ts : List Lexeme) : Refusal → Type 0 where
  pair_memory : PairStops ts NoMemory
  pair_verb : (r : Refusal) → Stops Verb_ ts r → PairStops ts r
  pair_objects : (ws : List Lexeme) (v : Slot) (r : Refusal) → Gets Verb_ ts (a_slot v) ws → Stops Objs_ ws r → PairStops ts r

pub ruleset pair_paths = (pair_memory, pair_got, pair_verb, pair_objects)

abbrev pub pair : Form Symbol Kind
pair = call Verb_ ⨾ call Objs_

abbrev pub more_after : List Kind
more_after = tag ∷ sign s.TwoCarets ∷ sign s.Comma ∷ variable ∷ iri ∷ named ∷ prefix_name ∷ sign s.A ∷ []

-- what may be left out behind a semicolon
pub data MoreGot (x : Slot) (ts : List Lexeme) (xs : List Pattern) (us : List Lexeme) : Type 0 where
  more_got : (n : Read) → Got grammar (among more_after) (maybe pair) ts n us → ((c : Lexeme) (m : Read) → patterns_behind x (Pair (Pair (Leaf c) n) m) ≡ xs ++ patterns_behind x m) → MoreGot x ts xs us

pub data MoreStops (ts : List Lexeme) : Refusal → Type 0 where
  more_memory : MoreStops ts NoMemory
  more_at : (ws : List Lexeme) → Broke grammar (among more_after) (maybe pair) ts ws → MoreStops ts (Syntax (length ws))

pub more_some : (x : Slot) (ts us : List Lexeme) (xs : List Pattern) → SomeOf (begins Verb_) ts → PairGot x ts xs us → MoreGot x ts xs us
more_some x ts us xs h (pair_got ws v os a b) =
    more_got (Pair (Made (a_slot v)) (Made (slots os))) (got_some (ahead (begins Verb_) more_after ts refl h) (got_wide look refl (got_then look refl (got a) (got b)))) (λ c m. refl)

pub more_none : (x : Slot) (ts : List Lexeme) → NoneOf (begins Verb_) ts → MoreGot x ts [] ts
more_none x ts h = more_got Nil (got_skip look (among more_after) refl (not_first (begins Verb_) pair (λ k. or_false (among (begins Verb_) k)) ts h)) (λ c m. refl)

pub more_empty : (x : Slot) (ts : List Lexeme) (xs : List Pattern) → NoneOf (begins Verb_) ts → xs ≡ [] → MoreGot x ts xs ts
more_empty x ts xs h is = subst (λ z. MoreGot x ts z ts) (sym is) (more_none x ts h)

pub more_stops : (ts : List Lexeme) (r : Refusal) → SomeOf (begins Verb_) ts → PairStops ts r → MoreStops ts r
more_stops ts r h pair_memory = more_memory
more_stops ts r h (pair_verb r' stops_memory) = more_memory
more_stops ts r h (pair_verb r' (stops_at ws a)) = more_at ws (broke_some (ahead (begins Verb_) more_after ts refl h) (broke_wide look {e = among (after Objs_)} refl (broke_first look refl (broke a))))
more_stops ts r h (pair_objects vs v r' a stops_memory) = more_memory
more_stops ts r h (pair_objects vs v r' a (stops_at ws b)) = more_at ws (broke_some (ahead (begins Verb_) more_after ts refl h) (broke_wide look refl (broke_rest look refl (got a) (broke b))))

pub ruleset more_paths = (more_memory, more_some, more_empty, more_stops)

-- a loop over ";" (Verb Objs)?
pub data SameAlong (x : Slot) (ts : List Lexeme) (xs : List Pattern) (us : List Lexeme) : Type 0 where
  same_along : Along grammar (among (after Same_)) (word s.Semicolon ⨾ maybe pair) (among (after Same_)) (call Same_) ts (λ m. Made (patterns (xs ++ patterns_behind x m))) us → SameAlong x ts xs us

pub same_start : (ts ws us : List Lexeme) (x : Slot) (xs : List Pattern) → Gets Term_ ts (a_slot x) ws → PairGot x ws xs us → SameAlong x ts xs us
same_start ts ws us x xs a (pair_got vs v os b c) = same_along (record {
  more = λ m zs r. got_call Same_ (got_then look refl (got a) (got_then look refl (got b) (got_then look refl (got c) r)));
  stop = λ zs r. broke_call Same_ (broke_rest look refl (got a) (broke_rest look refl (got b) (broke_rest look refl (got c) r)));
})

pub same_step : (ts us vs : List Lexeme) (x : Slot) (xs ys : List Pattern) → SameAlong x ts xs (l.Sign s.Semicolon ∷ us) → MoreGot x us ys vs → SameAlong x ts (xs ++ ys) vs
same_step ts us vs x xs ys (same_along a) (more_got n b same) =
    same_along (along_step look (λ m. Made (patterns ((xs ++ ys) ++ patterns_behind x m))) refl
    (λ m. ap (λ z. Made (patterns z)) (ap (λ z. xs ++ z) (same (l.Sign s.Semicolon) m) ∙ sym (append_assoc xs ys (patterns_behind x m)))) refl a
    (got_then look refl (token [] (sign s.Semicolon) (l.Sign s.Semicolon) us refl) b))

pub same_end : (ts us : List Lexeme) (x : Slot) (xs : List Pattern) → SameAlong x ts xs us → IsNot (sign s.Semicolon) us → Gets Same_ ts (patterns xs) us
same_end ts us x xs (same_along a) h =
    gets (subst (λ z. Got grammar (among (after Same_)) (call Same_) ts (Made (patterns z)) us) (append-nil xs) (along_end look refl (not_again (sign s.Semicolon) (maybe pair) us h) a))

pub same_first_stops : (ts : List Lexeme) (r : Refusal) → Stops Term_ ts r → Stops Same_ ts r
same_first_stops ts r a = handed (λ ws b. breaks (broke_call Same_ (broke_first look refl (broke b)))) a

pub same_second_stops : (ts us : List Lexeme) (x : Slot) (r : Refusal) → Gets Term_ ts (a_slot x) us → PairStops us r → Stops Same_ ts r
same_second_stops ts us x r a pair_memory = stops_memory
same_second_stops ts us x r a (pair_verb r' b) = handed (λ ws c. breaks (broke_call Same_ (broke_rest look refl (got a) (broke_first look refl (broke c))))) b
same_second_stops ts us x r a (pair_objects vs v r' b c) = handed (λ ws d. breaks (broke_call Same_ (broke_rest look refl (got a) (broke_rest look refl (got b) (broke_first look refl (broke d)))))) c

pub same_later_stops : (ts us : List Lexeme) (x : Slot) (xs : List Pattern) (r : Refusal) → SameAlong x ts xs (l.Sign s.Semicolon ∷ us) → MoreStops us r → Stops Same_ ts r
same_later_stops ts us x xs r a more_memory = stops_memory
same_later_stops ts us x xs r (same_along a) (more_at ws b) = stops_at ws (breaks (along_stop look refl refl a (broke_rest look refl (token [] (sign s.Semicolon) (l.Sign s.Semicolon) us refl) b)))

pub ruleset same_paths = (stops_memory, same_start, same_step, same_end, same_first_stops, same_second_stops, same_later_stops)

pub triples_one : (ts us : List Lexeme) (xs : List Pattern) → Gets Same_ ts (patterns xs) us → IsNot (sign s.Dot) us → Gets Triples_ ts (patterns xs) us
triples_one ts us xs a h = gets (got_call Triples_ (got_then look refl (got a) (got_skip look (among (after Triples_)) refl (not_then (sign s.Dot) (maybe (call Triples_)) us h))))

pub triples_dot : (ts us : List Lexeme) (xs : List Pattern) → Gets Same_ ts (patterns xs) (l.Sign s.Dot ∷ us) → NoneOf (begins Term_) us → Gets Triples_ ts (patterns xs) us
triples_dot ts us xs a h =
    gets (subst (λ z. Got grammar (among (after Triples_)) (call Triples_) ts (Made (patterns z)) us) (append-nil xs)
    (got_call Triples_ (got_then look refl (got a) (got_some refl (got_then look refl (token [] (sign s.Dot) (l.Sign s.Dot) us refl) (got_skip look (among (after Triples_)) refl (not_begun Triples_ us h)))))))

pub triples_more : (ts us vs : List Lexeme) (xs ys : List Pattern) → Gets Same_ ts (patterns xs) (l.Sign s.Dot ∷ us) → SomeOf (begins Term_) us → Gets Triples_ us (patterns ys) vs → Gets Triples_ ts (patterns (xs ++ ys)) vs
triples_more ts us vs xs ys a h b =
    gets (got_call Triples_ (got_then look refl (got a) (got_some refl (got_then look refl (token [] (sign s.Dot) (l.Sign s.Dot) us refl) (got_some (ahead (begins Term_) (after Triples_) us refl h) (got b))))))

pub triples_first_stops : (ts : List Lexeme) (r : Refusal) → Stops Same_ ts r → Stops Triples_ ts r
triples_first_stops ts r a = handed (λ ws b. breaks (broke_call Triples_ (broke_first look refl (broke b)))) a

pub triples_rest_stops : (ts us : List Lexeme) (xs : List Pattern) (r : Refusal) → Gets Same_ ts (patterns xs) (l.Sign s.Dot ∷ us) → SomeOf (begins Term_) us → Stops Triples_ us r → Stops Triples_ ts r
triples_rest_stops ts us xs r a h b =
    handed (λ ws c. breaks (broke_call Triples_ (broke_rest look refl (got a) (broke_some refl (broke_rest look refl (token [] (sign s.Dot) (l.Sign s.Dot) us refl) (broke_some (ahead (begins Term_) (after Triples_) us refl h) (broke c))))))) b

pub ruleset triples_paths = (stops_memory, triples_one, triples_dot, triples_more, triples_first_stops, triples_rest_stops)
