-- Each variable of a query is the place of one of its names.
use Rattle.std.specs.Prelude.{◌≡◌, ◌<◌, ◌≤◌, ℕ, suc, ◌+◌, Bool, true, false, ◌||◌, ◌==◌, if◌then◌else◌, nat_lt, List, [], ◌∷◌, ◌++◌, length, Option, Some, None, refl}
use Rattle.std.specs.List.{list_any, AllByRecursion, IsDistinct}
use Rattle.std.specs.Str.{bytes_eq}
use Rattle.std.specs.Cmp.Lexicographic.{nat_list_eq_equiv}
use Rattle.std.proofs.Common.{sym, ap, ◌∙◌, subst, arith, length-append}
use Rattle.std.proofs.lemmas.Bool.{false≢true, lt-ltb, ltb-true, or_parts}
use Rattle.bags.specs.BagLaws.{each-append}
use Rattle.grammar_meaning.specs.Grammar.{Made, Reads, call}
use Rattle.rdf_meaning.specs.Characters.{is_digit}
use Rattle.query_meaning.specs.declared.modifiers.Key.{Key as SortKey}
use Rattle.query_meaning.specs.declared.query.Group.{Group}
use Rattle.query_meaning.specs.declared.query.Query.{Query}
use Rattle.sparql_meaning.specs.declared.token.Token.{Token}
use Rattle.sparql_meaning.specs.declared.token.TokenKind.{TokenKind}
use Rattle.sparql_meaning.specs.declared.token.TokenKind.TheVariants as k
use Rattle.sparql_meaning.specs.declared.token.Mark.{Mark}
use Rattle.sparql_meaning.specs.declared.token.Mark.TheVariants as m
use Rattle.sparql_meaning.specs.declared.word.Word.{Word}
use Rattle.sparql_meaning.specs.declared.word.Word.TheVariants as w
use Rattle.sparql_meaning.specs.Translation.{translated}
use Rattle.sparql_grammar_meaning.specs.declared.lexeme.Lexeme.{Lexeme}
use Rattle.sparql_grammar_meaning.specs.declared.lexeme.Lexeme.TheVariants as l
use Rattle.sparql_grammar_meaning.specs.Grammar.{Query_, build, grammar, a_query, Written, Tree, group_of}
use Rattle.sparql_query_meaning.specs.declared.refusal.QueryLimit.{QueryLimit}
use Rattle.sparql_query_meaning.specs.Prefixes.{Declared, Declaring, declaring, declared, nothing}
use Rattle.sparql_query_meaning.specs.Lexemes.{with_name, named_by, names_from, place_of, variable_number, integer, integer_lexeme, number_of, word_lexeme, mark_lexeme, named_lexeme, base_of, lexeme, lexemes_from, lexemes, names}
use Rattle.sparql_query_meaning.specs.Queries.{once, shown_of, syntax_of, variables_of, IsQueryWithin, is_query}
use Rattle.sparql_walk_laws.specs.Shapes.{symbol}
use Rattle.sparql_walk_laws.specs.Walks.{Walks, walk_symbol, walked, Stepped}
use Rattle.sparql_query_laws.specs.Short.{number_small}
use Rattle.sparql_query_laws.specs.Within.{pattern_within, truth_within}
use Rattle.sparql_query_laws.specs.Passing.{tree_passes, translated_passes}
use Rattle.sparql_query_laws.specs.Sound.{Below, CutShort, LexemeWithin, Left, Step, Owes, KeyWithin, ListWithin, GroupWithin, group_within, WrittenWithin, IsWritten, is_written, names_within, each_passes, keeps}

-- ---- the place of a name

found_place : (n : List ℕ) (xs : List (List ℕ)) → list_any (bytes_eq n) xs ≡ true → place_of xs n < length xs
found_place n [] h = absurd (false≢true h)
found_place n (x ∷ xs) h = by (bytes_eq x n) refl (λ k. found_place n xs k)
  where
    by : (b : Bool) → bytes_eq x n ≡ b → (list_any (bytes_eq n) xs ≡ true → place_of xs n < length xs) → (if b then 0 else 1 + place_of xs n) < suc (length xs)
    by true e f = omega arith
    by false e f =
        let other : bytes_eq n x ≡ false = sym (nat_list_eq_equiv.symm x n) ∙ e in
        let less = f (ap (λ (z : Bool). z || list_any (bytes_eq n) xs) (sym other) ∙ h) in
        omega (arith, less)

added_place : (n : List ℕ) (xs : List (List ℕ)) → place_of (xs ++ n ∷ []) n < suc (length xs)
added_place n [] = by (bytes_eq n n) (nat_list_eq_equiv.refl n)
  where
    by : (b : Bool) → b ≡ true → (if b then 0 else 1 + 0) < 1
    by true e = omega arith
    by false e = absurd (false≢true e)
added_place n (x ∷ xs) = by (bytes_eq x n) (added_place n xs)
  where
    by : (b : Bool) → place_of (xs ++ n ∷ []) n < suc (length xs) → (if b then 0 else 1 + place_of (xs ++ n ∷ []) n) < suc (suc (length xs))
    by true h = omega arith
    by false h = omega (arith, h)

place_below : (n : List ℕ) (xs : List (List ℕ)) → place_of (with_name xs n) n < length (with_name xs n)
place_below n xs = by (list_any (bytes_eq n) xs) refl
  where
    by : (b : Bool) → list_any (bytes_eq n) xs ≡ b → place_of (if b then xs else xs ++ n ∷ []) n < length (if b then xs else xs ++ n ∷ [])
    by true e = found_place n xs e
    by false e = let h = added_place n xs in let longer = length-append xs (n ∷ []) in omega (arith, h, longer)

number_below : (n : List ℕ) (xs : List (List ℕ)) → place_of xs n < length xs → variable_number xs n < length xs
number_below n xs h = by (nat_lt (place_of xs n) 64)
  where
    by : (b : Bool) → (if b then place_of xs n else 0) < length xs
    by true = h
    by false = omega (arith, h)

-- ---- names grow

with_name_longer : (n : List ℕ) (xs : List (List ℕ)) → length xs ≤ length (with_name xs n)
with_name_longer n xs = by (list_any (bytes_eq n) xs)
  where
    by : (b : Bool) → length xs ≤ length (if b then xs else xs ++ n ∷ [])
    by true = omega arith
    by false = let longer = length-append xs (n ∷ []) in omega (arith, longer)

named_longer : (xs : List (List ℕ)) (t : TokenKind) → length xs ≤ length (named_by xs t)
named_longer xs (k.Variable n) = with_name_longer n xs
named_longer xs t = omega arith

names_longer : (xs : List (List ℕ)) (ts : List Token) → length xs ≤ length (names_from xs ts)
names_longer xs [] = omega arith
names_longer xs (t ∷ ts) = let a = named_longer xs t.kind in let b = names_longer (named_by xs t.kind) ts in omega (arith, a, b)

-- ---- the lexemes

below_more : (i a b : ℕ) → i < a → a ≤ b → Below b i
below_more i a b h g = lt-ltb i b (omega (arith, h, g))

word_within : (n : ℕ) (x : Word) → LexemeWithin n (word_lexeme x)
word_within n w.Prefix = tt
word_within n x = tt

mark_within : (n : ℕ) (x : Mark) → LexemeWithin n (mark_lexeme x)
mark_within n m.Star = tt
mark_within n x = tt

integer_within : (n : ℕ) (text : List ℕ) → LexemeWithin n (integer_lexeme text)
integer_within n [] = tt
integer_within n (c ∷ cs) = by (is_digit c)
  where
    by : (b : Bool) → LexemeWithin n (if b then l.Count (integer (c ∷ cs)) (number_of (c ∷ cs)) else l.Literal (integer (c ∷ cs)))
    by true = number_small (c ∷ cs)
    by false = tt

named_within : (n : ℕ) (i local : List ℕ) → LexemeWithin n (named_lexeme i local)
named_within n i [] = tt
named_within n i (c ∷ cs) = tt

lexeme_within : (n : ℕ) (ds : List Declared) (xs : List (List ℕ)) (t : TokenKind) → length (named_by xs t) ≤ n → LexemeWithin n (lexeme ds (named_by xs t) t)
lexeme_within n ds xs (k.Variable i) h = below_more (variable_number (with_name xs i) i) (length (with_name xs i)) n (number_below i (with_name xs i) (place_below i xs)) h
lexeme_within n ds xs (k.Named p local) h = named_within n (base_of ds p) local
lexeme_within n ds xs (k.Integer t) h = integer_within n t
lexeme_within n ds xs (k.Word x) h = word_within n x
lexeme_within n ds xs (k.Mark x) h = mark_within n x
lexeme_within n ds xs t h = tt

lexemes_within : (d : Declaring) (ds : List Declared) (xs : List (List ℕ)) (ts : List Token) → AllByRecursion (LexemeWithin (length (names_from xs ts))) (lexemes_from d ds xs ts)
lexemes_within d ds xs [] = tt
lexemes_within d ds xs (t ∷ ts) = (
  lexeme_within (length (names_from (named_by xs t.kind) ts)) ds xs t.kind (names_longer (named_by xs t.kind) ts),
  lexemes_within (declaring d t.kind) (declared d t.kind ds) (named_by xs t.kind) ts,
)

-- ---- what is read

next : (n : ℕ) (c : Left n) (x : Lexeme) (xs : List Lexeme) → c.tokens ≡ x ∷ xs → Stepped (Step n) (λ (z : Left n). z.tokens) c x xs
next n c x xs e =
    let h : AllByRecursion (LexemeWithin n) (x ∷ xs) = subst (AllByRecursion (LexemeWithin n)) e c.within in
    record { to = record { tokens = xs; within = h.1 }; step = h.0; rest = refl }

of_written : (n : ℕ) (w : Written) → IsWritten n (a_query w) → WrittenWithin n w
of_written n w (is_written h) = h

of_walk : (n : ℕ) (c d : Left n) (x : Tree) → Walks (Step n) (Owes n) (symbol Query_) c d (Made x) → IsWritten n x
of_walk n c d x (walk_symbol h) = h

written_within : (ts : List Token) (w : Written) → Reads grammar (call Query_) (lexemes ts) (Made (a_query w)) [] → WrittenWithin (length (names ts)) w
written_within ts w r =
    let n : ℕ = length (names ts) in
    let start : Left n = record { tokens = lexemes ts; within = lexemes_within nothing [] [] ts } in
    let all = walked build (Step n) (Owes n) (λ (z : Left n). z.tokens) (next n) (keeps n) Query_ start [] (Made (a_query w)) r in
    of_written n w (of_walk n start all.to (a_query w) all.walk)

once_within : (n : ℕ) (seen vs : List ℕ) → AllByRecursion (Below n) seen → AllByRecursion (Below n) vs → AllByRecursion (Below n) (once seen vs)
once_within n seen [] h k = h
once_within n seen (v ∷ vs) h k = once_within n (if list_any (λ x. x == v) seen then seen else seen ++ v ∷ []) vs (by (list_any (λ x. x == v) seen)) k.1
  where
    by : (b : Bool) → AllByRecursion (Below n) (if b then seen else seen ++ v ∷ [])
    by true = h
    by false = each-append (Below n) seen (v ∷ []) h (k.0, tt)

shown_within : (n : ℕ) (o : Option (List ℕ)) (g : Group) → ListWithin n o → GroupWithin n g → AllByRecursion (Below n) (shown_of o g)
shown_within n None g h k = once_within n [] (variables_of g) tt k.variables
shown_within n (Some vs) g h k = once_within n [] vs tt h

below_each : (n : ℕ) (vs : List ℕ) → AllByRecursion (Below n) vs → AllByRecursion (λ v. v < n) vs
below_each n [] h = tt
below_each n (v ∷ vs) h = (ltb-true v n h.0, below_each n vs h.1)

keys_each : (n : ℕ) (ks : List SortKey) → AllByRecursion (KeyWithin n) ks → AllByRecursion (λ (x : SortKey). x.var < n) ks
keys_each n [] h = tt
keys_each n (x ∷ ks) h = (ltb-true x.var n h.0, keys_each n ks h.1)

-- ---- what is shown is shown once

apart_longer : (seen : List ℕ) (v : ℕ) → IsDistinct (λ x y. x == y) seen → list_any (λ x. x == v) seen ≡ false → IsDistinct (λ x y. x == y) (seen ++ v ∷ [])
unfolding IsDistinct
apart_longer [] v h e = (tt, tt)
apart_longer (x ∷ xs) v h e =
    let parts = or_parts (x == v) (list_any (λ y. y == v) xs) e in
    (each-append (λ y. (x == y) ≡ false) xs (v ∷ []) h.0 (parts.0, tt), apart_longer xs v h.1 parts.1)

once_apart : (seen vs : List ℕ) → IsDistinct (λ x y. x == y) seen → IsDistinct (λ x y. x == y) (once seen vs)
once_apart seen [] h = h
once_apart seen (v ∷ vs) h = once_apart (if list_any (λ x. x == v) seen then seen else seen ++ v ∷ []) vs (by (list_any (λ x. x == v) seen) refl)
  where
    by : (b : Bool) → list_any (λ x. x == v) seen ≡ b → IsDistinct (λ x y. x == y) (if b then seen else seen ++ v ∷ [])
    by true e = h
    by false e = apart_longer seen v h e

shown_apart : (o : Option (List ℕ)) (g : Group) → IsDistinct (λ x y. x == y) (shown_of o g)
unfolding IsDistinct
shown_apart None g = once_apart [] (variables_of g) tt
shown_apart (Some vs) g = once_apart [] vs tt

-- ---- the whole query

-- each variable of the query, also of its expressions and of its modifiers, has a name, and each is shown once at most
pub record HasNames (q : Query) : Type 0 where
  pub tree : tree_passes (pattern_within (length q.names)) (truth_within (length q.names)) q.tree ≡ true
  pub shown : AllByRecursion (λ v. v < length q.names) q.modifiers.shown
  pub once : IsDistinct (λ x y. x == y) q.modifiers.shown
  pub keys : AllByRecursion (λ (x : SortKey). x.var < length q.names) q.modifiers.keys

syntax_has : (ts : List Token) (w : Written) → WrittenWithin (length (names ts)) w → HasNames (translated (syntax_of (names ts) w))
syntax_has ts w h =
    let n : ℕ = length (names ts) in
    record {
      tree = translated_passes (names_within n) w.elements (each_passes n w.elements h.elements);
      shown = below_each n (shown_of w.shown (group_of w.elements)) (shown_within n w.shown (group_of w.elements) h.shown (group_within n w.elements h.elements));
      once = shown_apart w.shown (group_of w.elements);
      keys = keys_each n w.keys h.keys;
    }

pub query_has_names : (counts : QueryLimit → Bool) (bytes : List ℕ) (q : Query) → IsQueryWithin counts bytes q → HasNames q
query_has_names counts bytes q (is_query ts w long cut quiet reads e) = subst HasNames (sym e) (syntax_has ts w (written_within ts w reads))

pub cut_is_short : (ts : List Token) (w : Written) → Reads grammar (call Query_) (lexemes ts) (Made (a_query w)) [] → CutShort w.cut
cut_is_short ts w r = (written_within ts w r).cut
