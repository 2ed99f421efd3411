-- A text is one query of the fragment at most: each reading of its tokens is the one reading of the grammar with one symbol for
-- operands.
use Rattle.std.specs.Prelude.{ℕ, ◌≡◌, ◌≤◌, List, [], ◌∷◌, length, Result, Ok}
use Rattle.std.proofs.Common.{refl, sym, subst, ap, ◌∙◌, arith}
use Rattle.grammar_meaning.specs.Grammar.{call, Made, Reads}
use Rattle.grammar_meaning.specs.Laws.{reads_front}
use Rattle.grammar_meaning.specs.Parts.{one_tree}
use Rattle.grammar_decided_laws.specs.Outcomes.{Step, done, cuts, step}
use Rattle.sparql_meaning.specs.declared.token.Token.{Token}
use Rattle.sparql_meaning.specs.Translation.{translated}
use Rattle.sparql_grammar_meaning.specs.declared.lexeme.Lexeme.{Lexeme}
use Rattle.sparql_grammar_meaning.specs.Grammar.{Query_, grammar, a_query, Written, Read}
use Rattle.sparql_query_meaning.specs.Lexemes.{lexemes, names}
use Rattle.sparql_query_meaning.specs.Queries.{syntax_of, is_query}
use Rattle.sparql_reading_laws.specs.OneQuery.{TextsAreOneQuery}
use Rattle.sparql_reading_laws.proofs.Merged.{behind_by, merged, merged_rule, tables}
use Rattle.sparql_reading_laws.proofs.Operands.{reads_merged}

not_left : (t : Lexeme) (vs : List Lexeme) → length (t ∷ vs) ≤ 0 → ⊥
not_left t vs h = omega arith

one_merged : (ts : List Lexeme) (n m : Read) → Reads merged (call Query_) ts n [] → Reads merged (call Query_) ts m [] → m ≡ n
one_merged ts n m a b = by (step tables (call Query_) ts [] n refl tt a)
  where
    by : Step merged merged_rule (behind_by Query_) (call Query_) ts n [] → m ≡ n
    by (done g) = one_tree g m b
    by (cuts t vs k l) = absurd (not_left t vs (k.lags.within [] (reads_front merged (call Query_) ts [] n a)))

abbrev made : Written → Read
made w = Made (a_query w)

same_written : (w v : Written) → made w ≡ made v → w ≡ v
same_written w v h = cc

-- the tokens of a whole text are read as one query at most
one_written : (ts : List Lexeme) (w v : Written) → Reads grammar (call Query_) ts (made w) [] → Reads grammar (call Query_) ts (made v) [] → w ≡ v
one_written ts w v a b =
    same_written w v (one_merged ts (made v) (made w) (reads_merged (call Query_) ts [] (made v) b) (reads_merged (call Query_) ts [] (made w) a))

same_tokens : {xs ys : List Token} {c : Result (List Token) ℕ} → c ≡ Ok xs → c ≡ Ok ys → xs ≡ ys
same_tokens {xs = xs} {ys = ys} h k = let e : Ok xs ≡ Ok ys = sym h ∙ k in cc

pub texts_are_one_query : TextsAreOneQuery
texts_are_one_query bytes p q (is_query ts w l c h a e) (is_query us v m d k b f) =
    let same : us ≡ ts = same_tokens d c in
    let b' : Reads grammar (call Query_) (lexemes ts) (made v) [] = subst (λ (z : List Token). Reads grammar (call Query_) (lexemes z) (made v) []) same b in
    e ∙ ap translated (ap (syntax_of (names ts)) (one_written (lexemes ts) w v a b') ∙ ap (λ (z : List Token). syntax_of (names z) v) (sym same)) ∙ sym f
