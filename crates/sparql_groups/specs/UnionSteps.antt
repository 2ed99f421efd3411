-- The steps of the reader of unions.
use Rattle.std.proofs.Common.{List, [], ◌∷◌, ◌++◌, ◌≡◌, length, refl, sym, append_assoc, ◌∙◌}
use Rattle.std.proofs.lemmas.List.{append-nil}
use Rattle.grammar_meaning.specs.Grammar.{Form, call, ◌⨾◌, many, Nil, Leaf, Pair, Made}
use Rattle.grammar_meaning.specs.Outcome.{Got, Broke}
use Rattle.grammar_meaning.specs.Exact.{got_then, broke_first, broke_rest}
use Rattle.grammar_meaning.specs.Parts.{Along, along_step, along_end, along_stop}
use Rattle.rdf_meaning.specs.Terms.{iri as iri_term}
use Rattle.query_meaning.specs.declared.pattern.Slot.TheVariants as slot
use Rattle.sparql_grammar_meaning.specs.declared.lexeme.Lexeme.{Lexeme}
use Rattle.sparql_grammar_meaning.specs.declared.lexeme.Lexeme.TheVariants as l
use Rattle.sparql_grammar_meaning.specs.declared.lexeme.Sign.{Sign}
use Rattle.sparql_grammar_meaning.specs.declared.lexeme.Sign.TheVariants as s
use Rattle.sparql_grammar_meaning.specs.Grammar.{Kind, sign, among, word, Symbol, grammar, Read}
use Rattle.sparql_grammar_meaning.specs.Table.{look, after}
use Rattle.sparql_cursor.specs.Outcomes.{Gets, got, broke, Stops, stops_memory, stops_at, IsNot, not_again, token}
use Rattle.sparql_cursor.specs.declared.refusal.Refusal.{Refusal}
use Rattle.sparql_cursor.specs.declared.refusal.Refusal.TheVariants.{NoMemory, Syntax}
use Rattle.query_meaning.specs.declared.expression.ValueExpr.TheVariants as v
use Rattle.query_meaning.specs.declared.expression.TruthExpr.TheVariants as t
use Rattle.query_meaning.specs.declared.query.Element.{Element}
use Rattle.query_meaning.specs.declared.query.Element.TheVariants as e
use Rattle.query_meaning.specs.declared.query.Group.{Group as GroupOf}
use Rattle.sparql_grammar_meaning.specs.Grammar.{Group_, Other_, elements, group_of, unions_behind}

abbrev pub next_group : Form Symbol Kind
next_group = word s.Union ⨾ call Group_

abbrev pub unions : Form Symbol Kind
unions = call Group_ ⨾ many next_group

-- groups with UNION between them
pub data UnionsGot (ts : List Lexeme) (gs : List GroupOf) (us : List Lexeme) : Type 0 where
  unions_got : (xs : List Element) (m : Read) → Got grammar (among (after Other_)) unions ts (Pair (Made (elements xs)) m) us → group_of xs ∷ unions_behind m ≡ gs → UnionsGot ts gs us

pub data UnionsStop (ts : List Lexeme) : Refusal → Type 0 where
  unions_memory : UnionsStop ts NoMemory
  unions_at : (us : List Lexeme) → Broke grammar (among (after Other_)) unions ts us → UnionsStop ts (Syntax (length us))

pub data UnionsAlong (ts : List Lexeme) (gs : List GroupOf) (us : List Lexeme) : Type 0 where
  unions_along : (xs : List Element) (tree : Read → Read)
      → Along grammar (among (after Other_)) next_group (among (after Other_)) unions ts (λ m. Pair (Made (elements xs)) (tree m)) us
      → ((m : Read) → group_of xs ∷ unions_behind (tree m) ≡ gs ++ unions_behind m) → UnionsAlong ts gs us

union_word : (ts : List Lexeme) → Got grammar (among []) (word s.Union) (l.Sign s.Union ∷ ts) (Leaf (l.Sign s.Union)) ts
union_word ts = token [] (sign s.Union) (l.Sign s.Union) ts refl

pub unions_start : (ts us : List Lexeme) (xs : List Element) → Gets Group_ ts (elements xs) us → UnionsAlong ts (group_of xs ∷ []) us
unions_start ts us xs a = unions_along xs (λ m. m) (record {
  more = λ m ws r. got_then look refl (got a) r;
  stop = λ ws r. broke_rest look refl (got a) r;
}) (λ m. refl)

pub unions_step : (ts us vs : List Lexeme) (gs : List GroupOf) (ys : List Element) → UnionsAlong ts gs (l.Sign s.Union ∷ us) → Gets Group_ us (elements ys) vs → UnionsAlong ts (gs ++ (group_of ys ∷ [])) vs
unions_step ts us vs gs ys (unions_along xs tree a same) b =
    unions_along xs (λ m. tree (Pair (Pair (Leaf (l.Sign s.Union)) (Made (elements ys))) m))
    (along_step look (λ m. Pair (Made (elements xs)) (tree (Pair (Pair (Leaf (l.Sign s.Union)) (Made (elements ys))) m))) refl (λ m. refl) refl a (got_then look refl (union_word us) (got b)))
    (λ m. same (Pair (Pair (Leaf (l.Sign s.Union)) (Made (elements ys))) m) ∙ sym (append_assoc gs (group_of ys ∷ []) (unions_behind m)))

pub unions_end : (ts us : List Lexeme) (gs : List GroupOf) → UnionsAlong ts gs us → IsNot (sign s.Union) us → UnionsGot ts gs us
unions_end ts us gs (unions_along xs tree a same) h = unions_got xs (tree Nil) (along_end look refl (not_again (sign s.Union) (call Group_) us h) a) (same Nil ∙ append-nil gs)

pub unions_first_stops : (ts : List Lexeme) (r : Refusal) → Stops Group_ ts r → UnionsStop ts r
unions_first_stops ts r stops_memory = unions_memory
unions_first_stops ts r (stops_at us a) = unions_at us (broke_first look refl (broke a))

pub unions_later_stops : (ts us : List Lexeme) (gs : List GroupOf) (r : Refusal) → UnionsAlong ts gs (l.Sign s.Union ∷ us) → Stops Group_ us r → UnionsStop ts r
unions_later_stops ts us gs r a stops_memory = unions_memory
unions_later_stops ts us gs r (unions_along xs tree a same) (stops_at ws b) = unions_at ws (along_stop look refl refl a (broke_rest look refl (union_word us) (broke b)))

pub ruleset union_paths = (unions_memory, unions_start, unions_step, unions_end, unions_first_stops, unions_later_stops)
