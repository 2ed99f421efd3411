-- The steps of the reader of members with `||` between them.
use Rattle.std.proofs.Common.{List, [], ◌∷◌, ◌++◌, refl, ap, subst, sym, arith, append_assoc}
use Rattle.std.proofs.lemmas.List.{append-nil}
use Rattle.grammar_meaning.specs.Grammar.{Form, call, ◌⨾◌, Leaf, Pair, Made, front_empty}
use Rattle.grammar_meaning.specs.Outcome.{Most, Lags, Got, Broke, first}
use Rattle.grammar_meaning.specs.Laws.{reads_le}
use Rattle.grammar_meaning.specs.Exact.{got_call, got_then, broke_call, broke_first, broke_rest, lags_most, lags_near, most_lags, lags_wide, most_wide}
use Rattle.grammar_meaning.specs.Parts.{got_more, got_end, broke_now, broke_later, Along, along_step, along_end, along_stop}
use Rattle.rdf_meaning.specs.Terms.{iri as iri_term}
use Rattle.query_meaning.specs.declared.pattern.Slot.TheVariants as slot
use Rattle.sparql_grammar_meaning.specs.declared.lexeme.Lexeme.{Lexeme}
use Rattle.sparql_grammar_meaning.specs.declared.lexeme.Lexeme.TheVariants as l
use Rattle.sparql_grammar_meaning.specs.declared.lexeme.Sign.{Sign}
use Rattle.sparql_grammar_meaning.specs.declared.lexeme.Sign.TheVariants as s
use Rattle.sparql_grammar_meaning.specs.Grammar.{Kind, sign, among, word, Symbol, grammar, Tree}
use Rattle.sparql_grammar_meaning.specs.Table.{look, after}
use Rattle.sparql_cursor.specs.Outcomes.{Gets, gets, got, Breaks, breaks, broke, IsNot, not_again, token}
use Rattle.sparql_cursor.specs.declared.refusal.Refusal.{Refusal}
use Rattle.query_meaning.specs.declared.expression.ValueExpr.TheVariants as v
use Rattle.query_meaning.specs.declared.expression.TruthExpr.{TruthExpr}
use Rattle.query_meaning.specs.declared.expression.TruthExpr.TheVariants as t
use Rattle.sparql_grammar_meaning.specs.Grammar.{Value_, And_, Truth_, a_value, a_truth, truth_in, truths_behind}
use Rattle.sparql_conditions.specs.declared.operand.Operand.{Operand}
use Rattle.sparql_conditions.specs.declared.operand.Operand.TheVariants as op
use Rattle.sparql_conditions.specs.Operands.{as_truth, Stuck, stuck, One, one_value, one_truth, StopsOne, one_memory, one_at, handed_one}

-- a member of a chain, as a truth
pub data Member : List Lexeme → TruthExpr → List Lexeme → Type 0 where
  member : {ts us : List Lexeme} (x : Tree) → Gets And_ ts x us → Most grammar (among (after And_)) (call Value_) ts (Made x) us → Member ts (truth_in (Made x)) us

member_of : (ts us : List Lexeme) (o : Operand) → One And_ ts o us → Member ts (as_truth o) us
member_of ts us o (one_value {x = x} a) = member (a_value x) a.all (most_wide look refl (got a.value).most)
member_of ts us o (one_truth {x = x} a) = member (a_truth x) a.all (lags_most a.value)

abbrev pub next_one : Form Symbol Kind
next_one = word s.Or ⨾ call And_

-- a loop over the members behind the first
pub data ChainAlong (ts : List Lexeme) (xs : List TruthExpr) (us : List Lexeme) : Type 0 where
  chain_along : Along grammar (among (after Truth_)) next_one (among (after Truth_)) (call Truth_) ts (λ m. Made (a_truth (t.Any (xs ++ truths_behind m)))) us
      → Lags grammar (among (after Truth_)) (call Value_) ts us → ChainAlong ts xs us

one_more : (ts us : List Lexeme) (x : Tree) → Gets And_ ts x us → Got grammar (among (after And_)) next_one (l.Sign s.Or ∷ ts) (Pair (Leaf (l.Sign s.Or)) (Made x)) us
one_more ts us x a = got_then look refl (token [] (sign s.Or) (l.Sign s.Or) ts refl) (got a)

broke_more : (ts us : List Lexeme) → Breaks And_ ts us → Broke grammar (among (after And_)) next_one (l.Sign s.Or ∷ ts) us
broke_more ts us a = broke_rest look refl (token [] (sign s.Or) (l.Sign s.Or) ts refl) (broke a)

chain_single : (ts us : List Lexeme) (x : Tree) → Gets And_ ts x us → IsNot (sign s.Or) us → Gets Truth_ ts x us
chain_single ts us x a h = gets (got_call Truth_ (got_then look refl (got a) (got_end look (among (after Truth_)) refl (not_again (sign s.Or) (call And_) us h))))

pub chain_one : (ts us : List Lexeme) (o : Operand) → One And_ ts o us → IsNot (sign s.Or) us → One Truth_ ts o us
chain_one ts us o (one_value {x = x} a) h = one_value (record { all = chain_single ts us (a_value x) a.all h; value = a.value })
chain_one ts us o (one_truth {x = x} a) h = one_truth (record { all = chain_single ts us (a_truth x) a.all h; value = lags_wide look refl a.value })

starts : (ts us vs : List Lexeme) (x y : TruthExpr) → Member ts x (l.Sign s.Or ∷ us) → Member us y vs → ChainAlong ts (x ∷ y ∷ []) vs
starts ts us vs x y (member a f g) (member b i j) =
    let k = reads_le grammar (call And_) us vs (Made b) (got i).reads in
    chain_along (record {
      more = λ m ws r. got_call Truth_ (got_then look refl (got f) (got_more look refl refl (one_more us vs b i) r));
      stop = λ ws r. broke_call Truth_ (broke_rest look refl (got f) (broke_later look refl refl (one_more us vs b i) r));
    })
    (lags_near (most_lags (most_wide look refl g) refl) (omega arith))

starts_stuck : (ts us vs : List Lexeme) (x : TruthExpr) → Member ts x (l.Sign s.Or ∷ us) → Stuck And_ us vs → Stuck Truth_ ts vs
starts_stuck ts us vs x (member a f g) (stuck b) =
    let k = b.value.within us front_empty in
    stuck (record {
      all = breaks (broke_call Truth_ (broke_rest look refl (got f) (broke_now look refl refl (broke_more us vs b.all))));
      value = lags_near (most_lags (most_wide look refl g) refl) (omega arith);
    })

goes_on : (ts us vs : List Lexeme) (xs : List TruthExpr) (y : TruthExpr) → ChainAlong ts xs (l.Sign s.Or ∷ us) → Member us y vs → ChainAlong ts (xs ++ (y ∷ [])) vs
goes_on ts us vs xs y (chain_along a w) (member b i j) =
    let k = reads_le grammar (call And_) us vs (Made b) (got i).reads in
    chain_along (along_step look (λ m. Made (a_truth (t.Any ((xs ++ (truth_in (Made b) ∷ [])) ++ truths_behind m)))) refl
    (λ m. ap (λ z. Made (a_truth (t.Any z))) (sym (append_assoc xs (truth_in (Made b) ∷ []) (truths_behind m)))) refl a (one_more us vs b i))
    (lags_near w (omega arith))

stops : (ts us vs : List Lexeme) (xs : List TruthExpr) → ChainAlong ts xs (l.Sign s.Or ∷ us) → Stuck And_ us vs → Stuck Truth_ ts vs
stops ts us vs xs (chain_along a w) (stuck b) =
    let k = b.value.within us front_empty in
    stuck (record { all = breaks (along_stop look refl refl a (broke_more us vs b.all)); value = lags_near w (omega arith) })

pub chain_end : (ts us : List Lexeme) (xs : List TruthExpr) → ChainAlong ts xs us → IsNot (sign s.Or) us → One Truth_ ts (op.Truth (t.Any xs)) us
chain_end ts us xs (chain_along a w) h = one_truth (record {
  all = gets (subst (λ z. Got grammar (among (after Truth_)) (call Truth_) ts (Made (a_truth (t.Any z))) us) (append-nil xs) (along_end look refl (not_again (sign s.Or) (call And_) us h) a));
  value = w;
})

pub chain_first_stops : (ts : List Lexeme) (r : Refusal) → StopsOne And_ ts r → StopsOne Truth_ ts r
chain_first_stops ts r one_memory = one_memory
chain_first_stops ts r (one_at ws (stuck a)) = one_at ws (stuck (record { all = breaks (broke_call Truth_ (broke_first look refl (broke a.all))); value = lags_wide look refl a.value }))

pub chain_second_stops : (ts us : List Lexeme) (o : Operand) (r : Refusal) → One And_ ts o (l.Sign s.Or ∷ us) → StopsOne And_ us r → StopsOne Truth_ ts r
chain_second_stops ts us o r a b = handed_one (λ ws c. starts_stuck ts us ws (as_truth o) (member_of ts (l.Sign s.Or ∷ us) o a) c) b

pub chain_later_stops : (ts us : List Lexeme) (xs : List TruthExpr) (r : Refusal) → ChainAlong ts xs (l.Sign s.Or ∷ us) → StopsOne And_ us r → StopsOne Truth_ ts r
chain_later_stops ts us xs r a b = handed_one (λ ws c. stops ts us ws xs a c) b

pub chain_start : (ts us vs : List Lexeme) (o p : Operand) → One And_ ts o (l.Sign s.Or ∷ us) → One And_ us p vs → ChainAlong ts (as_truth o ∷ as_truth p ∷ []) vs
chain_start ts us vs o p a b = starts ts us vs (as_truth o) (as_truth p) (member_of ts (l.Sign s.Or ∷ us) o a) (member_of us vs p b)

pub chain_step : (ts us vs : List Lexeme) (xs : List TruthExpr) (o : Operand) → ChainAlong ts xs (l.Sign s.Or ∷ us) → One And_ us o vs → ChainAlong ts (xs ++ (as_truth o ∷ [])) vs
chain_step ts us vs xs o a b = goes_on ts us vs xs (as_truth o) a (member_of us vs o b)

pub ruleset chain_paths = (one_memory, chain_one, chain_start, chain_step, chain_end, chain_first_stops, chain_second_stops, chain_later_stops)
