-- What the reader answers: how the tokens up to the first fault decide.
use Rattle.std.proofs.Common.{ℕ, zero, suc, ◌≡◌, ◌+◌, ◌-◌, ◌≤◌, ◌<◌, List, [], ◌∷◌, ◌++◌, length, take, drop, Option, None, Some, Ok, Err, refl, sym, ap, subst, ◌∙◌, arith, length-append}
use Rattle.std.proofs.lemmas.List.{take_all, length-drop, length-take-le}
use Rattle.grammar_meaning.specs.Grammar.{call, Made, Front}
use Rattle.grammar_meaning.specs.Parts.{BreaksFirst}
use Rattle.grammar_meaning.specs.Laws.{reads_front}
use Rattle.grammar_path_laws.specs.Ends.{front_ends, ends_le}
use Rattle.query_meaning.specs.declared.query.Syntax.{Syntax}
use Rattle.sparql_meaning.specs.declared.token.Token.{Token}
use Rattle.sparql_meaning.specs.Cut.{cut}
use Rattle.sparql_grammar_meaning.specs.declared.lexeme.Lexeme.{Lexeme}
use Rattle.sparql_grammar_meaning.specs.Grammar.{Query_, grammar, a_query, Written, Tree}
use Rattle.sparql_query_meaning.specs.declared.refusal.QueryLimit.TheVariants as limits
use Rattle.sparql_query_meaning.specs.declared.refusal.QueryRefusal.{QueryRefusal}
use Rattle.sparql_query_meaning.specs.declared.refusal.QueryRefusal.TheVariants as refusal
use Rattle.sparql_query_meaning.specs.Prefixes.{nothing}
use Rattle.sparql_query_meaning.specs.Lexemes.{lexemes, names}
use Rattle.sparql_query_meaning.specs.Limits.{all_limits, FaultAt, first_fault, nothing_yet}
use Rattle.sparql_query_meaning.specs.Queries.{most_bytes, syntax_of, broken_at, faulty_at, NoFaultBefore, QueryRefused, too_long, bad_place, broken, faulty}
use Rattle.sparql_cursor.specs.Outcomes.{IsText, is_text, Rejects, rejects_at}
use Rattle.sparql_cursor.specs.declared.refusal.Refusal.TheVariants as inner
use Rattle.sparql_refusals.specs.Fronts.{front_longer, breaks_longer, lexemes_apart, lexemes_count, fault_within}

-- how many tokens have to be read
abbrev pub up_to : ℕ → Option FaultAt → ℕ
up_to n None = n
up_to n (Some f) = f.before + 1

abbrev pub read_front : List Token → ℕ
read_front ts = up_to (length ts) (first_fault ts)

pub front_within : (ts : List Token) (f : FaultAt) → first_fault ts ≡ Some f → f.before + 1 ≤ length ts
front_within ts f h = let k = fault_within all_limits nothing_yet ts f h in omega (arith, k)

-- the refusal where so many of the tokens that were read are left
abbrev pub refusal_by : List ℕ → List Token → (read left : ℕ) → Option FaultAt → QueryRefusal
refusal_by bytes ts read left None = broken_at bytes ts (read - left)
refusal_by bytes ts read zero (Some f) = faulty_at bytes ts f f.fault
refusal_by bytes ts read (suc left) (Some f) = broken_at bytes ts (read - suc left)

-- the tokens are a query without a fault, and no other
pub data ReadsTokens (ts : List Token) (s : Syntax) : Type 0 where
  reads_tokens : (w : Written) → first_fault ts ≡ None → IsText Query_ (lexemes ts) (a_query w) → s ≡ syntax_of (names ts) w → ReadsTokens ts s

-- the text is the query that is written so, and no other
pub data ReadsAs (bytes : List ℕ) (s : Syntax) : Type 0 where
  reads_as : (ts : List Token) → length bytes ≤ most_bytes → cut bytes ≡ Ok ts → ReadsTokens ts s → ReadsAs bytes s

-- want of memory, or the refusal of the text
pub data Refuses (bytes : List ℕ) : QueryRefusal → Type 0 where
  no_memory : Refuses bytes refusal.NoMemory
  refuses : (r : QueryRefusal) → QueryRefused bytes r → Refuses bytes r

parted : (ts : List Token) (n : ℕ) (xs : List Lexeme) → xs ≡ lexemes (take n ts) → xs ++ drop n (lexemes ts) ≡ lexemes ts
parted ts n xs e = ap (λ (z : List Lexeme). z ++ drop n (lexemes ts)) e ∙ sym (lexemes_apart n nothing [] [] ts)

left_behind : (ts : List Token) (n : ℕ) → n ≤ length ts → n + length (drop n (lexemes ts)) ≡ length ts
left_behind ts n h = let a = length-drop n (lexemes ts) in let b = lexemes_count nothing [] [] ts in omega (arith, a, b, h)

-- the tokens up to a fault begin a query
fault_counts : (bytes : List ℕ) (ts : List Token) (f : FaultAt) (xs : List Lexeme) → length bytes ≤ most_bytes → cut bytes ≡ Ok ts → first_fault ts ≡ Some f → xs ≡ lexemes (take (f.before + 1) ts)
    → Front grammar (call Query_) xs [] → Refuses bytes (faulty_at bytes ts f f.fault)
fault_counts bytes ts f xs l c h e a =
    let n : ℕ = f.before + 1 in
    let rest : List Lexeme = drop n (lexemes ts) in
    let count = left_behind ts n (front_within ts f h) in
    refuses (faulty_at bytes ts f f.fault) (faulty ts f rest l c h
    (subst (λ (z : List Lexeme). Front grammar (call Query_) z rest) (parted ts n xs e) (front_longer grammar (call Query_) xs [] rest a)) (omega (arith, count)))

all_read : (ts : List Token) (xs : List Lexeme) → xs ≡ lexemes (take (length ts) ts) → xs ≡ lexemes ts
all_read ts xs e = e ∙ ap lexemes (take_all (length ts) ts (omega arith))

pub read_whole : (ts : List Token) (xs : List Lexeme) (ns : List (List ℕ)) (w : Written) (s : Syntax) → first_fault ts ≡ None → xs ≡ lexemes (take (read_front ts) ts) → ns ≡ names (take (read_front ts) ts) → IsText Query_ xs (a_query w)
    → s ≡ syntax_of ns w → ReadsTokens ts s
read_whole ts xs ns w s h e k t i =
    let n : read_front ts ≡ length ts = ap (up_to (length ts)) h in
    let all : take (read_front ts) ts ≡ ts = ap (λ (z : ℕ). take z ts) n ∙ take_all (length ts) ts (omega arith) in
    reads_tokens w h (subst (λ (z : List Lexeme). IsText Query_ z (a_query w)) (e ∙ ap lexemes all) t) (i ∙ ap (λ (z : List (List ℕ)). syntax_of z w) (k ∙ ap names all))

pub read_faulty : (bytes : List ℕ) (ts : List Token) (f : FaultAt) (xs : List Lexeme) (x : Tree) → length bytes ≤ most_bytes → cut bytes ≡ Ok ts → first_fault ts ≡ Some f → xs ≡ lexemes (take (read_front ts) ts) → IsText Query_ xs x
    → Refuses bytes (faulty_at bytes ts f f.fault)
read_faulty bytes ts f xs x l c h e (is_text r o) =
    fault_counts bytes ts f xs l c h (e ∙ ap (λ (z : ℕ). lexemes (take z ts)) (ap (up_to (length ts)) h)) (reads_front grammar (call Query_) xs [] (Made x) r)

broken_counts : (bytes : List ℕ) (ts : List Token) (o : Option FaultAt) (xs us : List Lexeme) (n : ℕ) → length bytes ≤ most_bytes → cut bytes ≡ Ok ts → first_fault ts ≡ o → n ≡ up_to (length ts) o → n ≤ length ts → xs ≡ lexemes (take n ts) → length xs ≡ n
    → BreaksFirst grammar (call Query_) xs us → length us ≤ n → Refuses bytes (refusal_by bytes ts n (length us) o)
broken_counts bytes ts None xs us n l c h m j e k b i =
    let m' : n ≡ length ts = m in
    let whole : xs ≡ lexemes ts = all_read ts xs (e ∙ ap (λ (z : ℕ). lexemes (take z ts)) m) in
    refuses (broken_at bytes ts (n - length us)) (broken ts (n - length us) us l c (subst (λ (z : List Lexeme). BreaksFirst grammar (call Query_) z us) whole b) (omega (arith, m', i))
    (subst (λ (z : Option FaultAt). NoFaultBefore z (n - length us)) (sym h) tt))
broken_counts bytes ts (Some f) xs [] n l c h m j e k b i = fault_counts bytes ts f xs l c h (e ∙ ap (λ (z : ℕ). lexemes (take z ts)) m) b.before
broken_counts bytes ts (Some f) xs (u ∷ us) n l c h m j e k b i =
    let rest : List Lexeme = drop n (lexemes ts) in
    let count = left_behind ts n j in
    let len = length-append (u ∷ us) rest in
    let m' : n ≡ f.before + 1 = m in
    let some : length (u ∷ us) ≡ suc (length us) = refl in
    let early : n - length (u ∷ us) ≤ f.before = omega (arith, m', some) in
    refuses (broken_at bytes ts (n - length (u ∷ us))) (broken ts (n - length (u ∷ us)) ((u ∷ us) ++ rest) l c
    (subst (λ (z : List Lexeme). BreaksFirst grammar (call Query_) z ((u ∷ us) ++ rest)) (parted ts n xs e) (breaks_longer grammar (call Query_) xs (u ∷ us) rest u us refl b))
    (omega (arith, count, len, i)) (subst (λ (z : Option FaultAt). NoFaultBefore z (n - length (u ∷ us))) (sym h) early))

front_count : (ts : List Token) (n : ℕ) (xs : List Lexeme) → n ≤ length ts → xs ≡ lexemes (take n ts) → length xs ≡ n
front_count ts n xs h e = ap length e ∙ lexemes_count nothing [] [] (take n ts) ∙ length-take-le n ts h

read_within : (ts : List Token) (o : Option FaultAt) → first_fault ts ≡ o → up_to (length ts) o ≤ length ts
read_within ts None h = omega arith
read_within ts (Some f) h = front_within ts f h

pub left_within : (ts : List Token) (xs : List Lexeme) (left : ℕ) → xs ≡ lexemes (take (read_front ts) ts) → Rejects Query_ xs (inner.Syntax left) → left ≤ read_front ts
left_within ts xs left e (rejects_at us b) =
    let k = ends_le (front_ends grammar (call Query_) xs us b.before) in
    let c = front_count ts (read_front ts) xs (read_within ts (first_fault ts) refl) e in
    omega (arith, k, c)

pub read_broken : (bytes : List ℕ) (ts : List Token) (o : Option FaultAt) (xs : List Lexeme) (left : ℕ) → length bytes ≤ most_bytes → cut bytes ≡ Ok ts → o ≡ first_fault ts → xs ≡ lexemes (take (read_front ts) ts) → Rejects Query_ xs (inner.Syntax left)
    → Refuses bytes (refusal_by bytes ts (read_front ts) left o)
read_broken bytes ts o xs left l c h e (rejects_at us b) =
    let w = read_within ts (first_fault ts) refl in
    let n = front_count ts (read_front ts) xs w e in
    let k = ends_le (front_ends grammar (call Query_) xs us b.before) in
    broken_counts bytes ts o xs us (read_front ts) l c (sym h) (ap (up_to (length ts)) (sym h)) w e n b (omega (arith, k, n))

pub ruleset token_paths = (no_memory, read_whole, read_faulty, left_within, read_broken)

pub text_read : (bytes : List ℕ) (ts us : List Token) (s : Syntax) → length bytes ≤ most_bytes → cut bytes ≡ Ok ts → us ≡ ts → ReadsTokens us s → ReadsAs bytes s
text_read bytes ts us s l c e r = reads_as ts l c (subst (λ (z : List Token). ReadsTokens z s) e r)

pub text_bad : (bytes : List ℕ) (at : ℕ) → length bytes ≤ most_bytes → cut bytes ≡ Err at → Refuses bytes (refusal.Syntax at)
text_bad bytes at l c = refuses (refusal.Syntax at) (bad_place at l c)

pub ruleset text_paths = (no_memory, text_read, text_bad)

pub text_long : (bytes : List ℕ) → most_bytes < length bytes → Refuses bytes (refusal.Limit limits.Query)
text_long bytes h = refuses (refusal.Limit limits.Query) (too_long h)

pub ruleset length_paths = (text_long)
