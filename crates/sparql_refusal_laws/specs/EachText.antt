-- No text is neither the one query that it is nor refused.
use Rattle.std.proofs.Common.{ℕ, zero, suc, ◌≡◌, ◌+◌, ◌-◌, ◌≤◌, ◌<◌, nat_lt, Bool, true, false, List, [], ◌∷◌, length, drop, Option, None, Some, Result, Ok, Err, refl, sym, ap, subst, arith}
use Rattle.std.proofs.lemmas.List.{length-drop}
use Rattle.grammar_meaning.specs.Grammar.{Form, ◌⨾◌, maybe, Node, Pair, call, Made, Grammar, Reads, read_rule, read_both, Front, front_empty}
use Rattle.grammar_meaning.specs.Parts.{BreaksFirst}
use Rattle.grammar_path_laws.specs.Ends.{Ends, ends_here, ends_later, ends_all, ends_le, ends_longer, ends_same, front_ends, reads_shorter}
use Rattle.query_meaning.specs.declared.query.Query.{Query}
use Rattle.sparql_meaning.specs.declared.token.Token.{Token}
use Rattle.sparql_meaning.specs.Cut.{cut}
use Rattle.sparql_meaning.specs.Translation.{translated}
use Rattle.sparql_grammar_meaning.specs.declared.lexeme.Lexeme.{Lexeme}
use Rattle.sparql_grammar_meaning.specs.Grammar.{Query_, Prologue_, Shown_, Group_, Order_, Slice_, Symbol, Kind, word, grammar, build, a_query, Written, Tree, is_there, shown_in, elements_in, keys_in, cut_in}
use Rattle.sparql_grammar_meaning.specs.declared.lexeme.Sign.TheVariants as s
use Rattle.sparql_query_meaning.specs.declared.refusal.QueryLimit.TheVariants as limits
use Rattle.sparql_query_meaning.specs.declared.refusal.QueryRefusal.{QueryRefusal}
use Rattle.sparql_query_meaning.specs.declared.refusal.QueryRefusal.TheVariants as refusal
use Rattle.sparql_query_meaning.specs.Prefixes.{nothing}
use Rattle.sparql_query_meaning.specs.Lexemes.{lexemes, names}
use Rattle.sparql_query_meaning.specs.Limits.{all_limits, FaultAt, first_fault, nothing_yet}
use Rattle.sparql_query_meaning.specs.Queries.{most_bytes, syntax_of, broken_at, faulty_at, NoFaultBefore, IsQuery, is_query, IsTheQuery, QueryRefused, too_long, bad_place, broken, faulty}
use Rattle.sparql_reading_laws.proofs.OneReading.{texts_are_one_query}
use Rattle.sparql_refusals.specs.Fronts.{lexemes_count, fault_within}

abbrev pub NoTextIsNeither : Type 0
NoTextIsNeither = (bytes : List ℕ) → ((q : Query) → IsTheQuery bytes q → ⊥) → ((r : QueryRefusal) → QueryRefused bytes r → ⊥) → ⊥

below : (a b : ℕ) → nat_lt a b ≡ true → a < b
below a b h = grind arith

not_below : (a b : ℕ) → nat_lt a b ≡ false → b ≤ a
not_below a b h = grind arith

-- ---- what the grammar makes of a whole text is a query

-- a node of a sequence has two parts
data IsPair (G : Grammar) (g : Form G.Symbol G.Kind) (us : List G.Token) : Node G.Token G.Tree → Type 0 where
  is_pair : (a b : Node G.Token G.Tree) (vs : List G.Token) → Reads G g vs b us → IsPair G g us (Pair a b)

pair_of : (G : Grammar) (f g : Form G.Symbol G.Kind) (ts us : List G.Token) (n : Node G.Token G.Tree) → Reads G (f ⨾ g) ts n us → IsPair G g us n
pair_of G f g ts us n (read_both {us = vs} {n = a} {m = b} x y) = is_pair a b vs y

abbrev Piece : Type 0
Piece = Node Lexeme Tree

abbrev Part : Type 0
Part = Form Symbol Kind

-- what is left of the form of a query behind its parts in front
abbrev behind_prologue : Part
behind_prologue = word s.Select ⨾ maybe (word s.Distinct) ⨾ call Shown_ ⨾ maybe (word s.Where) ⨾ call Group_ ⨾ maybe (call Order_) ⨾ maybe (call Slice_)

abbrev behind_select : Part
behind_select = maybe (word s.Distinct) ⨾ call Shown_ ⨾ maybe (word s.Where) ⨾ call Group_ ⨾ maybe (call Order_) ⨾ maybe (call Slice_)

abbrev behind_distinct : Part
behind_distinct = call Shown_ ⨾ maybe (word s.Where) ⨾ call Group_ ⨾ maybe (call Order_) ⨾ maybe (call Slice_)

abbrev behind_shown : Part
behind_shown = maybe (word s.Where) ⨾ call Group_ ⨾ maybe (call Order_) ⨾ maybe (call Slice_)

abbrev behind_where : Part
behind_where = call Group_ ⨾ maybe (call Order_) ⨾ maybe (call Slice_)

abbrev behind_group : Part
behind_group = maybe (call Order_) ⨾ maybe (call Slice_)

abbrev IsMade : Piece → Type 0
IsMade n = (w : Written) × (build Query_ n ≡ a_query w)

by_order : (us : List Lexeme) (p w d x h g n : Piece) → IsPair grammar (maybe (call Slice_)) us n → IsMade (Pair p (Pair w (Pair d (Pair x (Pair h (Pair g n))))))
by_order us p w d x h g n (is_pair o c vs r) = (record { distinct = is_there d; shown = shown_in x; elements = elements_in g; keys = keys_in o; cut = cut_in c }, refl)

by_group : (us : List Lexeme) (p w d x h n : Piece) → IsPair grammar behind_group us n → IsMade (Pair p (Pair w (Pair d (Pair x (Pair h n)))))
by_group us p w d x h n (is_pair g b vs r) = by_order us p w d x h g b (pair_of grammar (maybe (call Order_)) (maybe (call Slice_)) vs us b r)

by_where : (us : List Lexeme) (p w d x n : Piece) → IsPair grammar behind_where us n → IsMade (Pair p (Pair w (Pair d (Pair x n))))
by_where us p w d x n (is_pair h b vs r) = by_group us p w d x h b (pair_of grammar (call Group_) behind_group vs us b r)

by_shown : (us : List Lexeme) (p w d n : Piece) → IsPair grammar behind_shown us n → IsMade (Pair p (Pair w (Pair d n)))
by_shown us p w d n (is_pair x b vs r) = by_where us p w d x b (pair_of grammar (maybe (word s.Where)) behind_where vs us b r)

by_distinct : (us : List Lexeme) (p w n : Piece) → IsPair grammar behind_distinct us n → IsMade (Pair p (Pair w n))
by_distinct us p w n (is_pair d b vs r) = by_shown us p w d b (pair_of grammar (call Shown_) behind_shown vs us b r)

by_select : (us : List Lexeme) (p n : Piece) → IsPair grammar behind_select us n → IsMade (Pair p n)
by_select us p n (is_pair w b vs r) = by_distinct us p w b (pair_of grammar (maybe (word s.Distinct)) behind_distinct vs us b r)

by_prologue : (us : List Lexeme) (n : Piece) → IsPair grammar behind_prologue us n → IsMade n
by_prologue us n (is_pair p b vs r) = by_select us p b (pair_of grammar (word s.Select) behind_select vs us b r)

made_query : (ts us : List Lexeme) (x : Piece) → Reads grammar (call Query_) ts x us → (w : Written) × (x ≡ Made (a_query w))
made_query ts us x (read_rule {n = n} r) =
    let m = by_prologue us n (pair_of grammar (call Prologue_) behind_prologue ts us n r) in
    (m.0, ap Made m.1)

-- ---- no fault

ends_drop : {T : Type 0} (n : ℕ) (xs : List T) → Ends (drop n xs) xs
ends_drop zero xs = ends_here
ends_drop (suc n) [] = ends_here
ends_drop (suc n) (x ∷ xs) = ends_later (ends_drop n xs)

abbrev IsFront : List Token → List Lexeme → Type 0
IsFront ts us = Front grammar (call Query_) (lexemes ts) us

front_le : (ts : List Token) (us : List Lexeme) → IsFront ts us → length us ≤ length ts
front_le ts us a = let h = ends_le (front_ends grammar (call Query_) (lexemes ts) us a) in let k = lexemes_count nothing [] [] ts in omega (arith, h, k)

breaks_end : (ts : List Token) → IsFront ts [] → ((x : Piece) → Reads grammar (call Query_) (lexemes ts) x [] → ⊥) → BreaksFirst grammar (call Query_) (lexemes ts) []
breaks_end ts a unread = record { before = a; with_it = λ t vs i k. let j = ap length i in omega (arith, j); no_text = unread }

breaks_here : (ts : List Token) (u : Lexeme) (us : List Lexeme) → IsFront ts (u ∷ us) → (IsFront ts us → ⊥) → ((x : Piece) → Reads grammar (call Query_) (lexemes ts) x [] → ⊥) → BreaksFirst grammar (call Query_) (lexemes ts) (u ∷ us)
breaks_here ts u us a none unread = record {
  before = a;
  with_it = λ t vs i k. let same : vs ≡ us = cc in none (subst (λ (z : List Lexeme). IsFront ts z) same k);
  no_text = unread;
}

no_fault : (bytes : List ℕ) (ts : List Token) → length bytes ≤ most_bytes → cut bytes ≡ Ok ts → first_fault ts ≡ None → ((r : QueryRefusal) → QueryRefused bytes r → ⊥)
    → ((x : Piece) → Reads grammar (call Query_) (lexemes ts) x [] → ⊥) → (us : List Lexeme) → IsFront ts us → ⊥
no_fault bytes ts l c h nr unread [] a =
    nr (broken_at bytes ts (length ts)) (broken ts (length ts) [] l c (breaks_end ts a unread) (omega arith) (subst (λ (o : Option FaultAt). NoFaultBefore o (length ts)) (sym h) tt))
no_fault bytes ts l c h nr unread (u ∷ us) a =
    let n : ℕ = length ts - length (u ∷ us) in
    let k = front_le ts (u ∷ us) a in
    nr (broken_at bytes ts n) (broken ts n (u ∷ us) l c (breaks_here ts u us a (no_fault bytes ts l c h nr unread us) unread) (omega (arith, k)) (subst (λ (o : Option FaultAt). NoFaultBefore o n) (sym h) tt))

-- ---- a fault

-- what is left behind the fault's token
abbrev behind : List Token → FaultAt → List Lexeme
behind ts f = drop (f.before + 1) (lexemes ts)

length_behind : (ts : List Token) (f : FaultAt) → first_fault ts ≡ Some f → 1 + f.before + length (behind ts f) ≡ length ts
length_behind ts f h =
    let k = fault_within all_limits nothing_yet ts f h in
    let c = lexemes_count nothing [] [] ts in
    let d = length-drop (f.before + 1) (lexemes ts) in
    omega (arith, k, c, d)

at_fault : (ts : List Token) (f : FaultAt) (us : List Lexeme) → IsFront ts us → length (behind ts f) ≤ length us → length us ≤ length (behind ts f) → us ≡ behind ts f
at_fault ts f us a h k =
    ends_same (ends_longer (front_ends grammar (call Query_) (lexemes ts) us a) (ends_drop (f.before + 1) (lexemes ts)) k) h

a_fault : (bytes : List ℕ) (ts : List Token) (f : FaultAt) → length bytes ≤ most_bytes → cut bytes ≡ Ok ts → first_fault ts ≡ Some f → ((r : QueryRefusal) → QueryRefused bytes r → ⊥)
    → (IsFront ts (behind ts f) → ⊥) → ((x : Piece) → Reads grammar (call Query_) (lexemes ts) x [] → ⊥) → (us : List Lexeme) → IsFront ts us → length (behind ts f) ≤ length us → ⊥
a_fault bytes ts f l c h nr none unread [] a le = none (subst (λ (z : List Lexeme). IsFront ts z) (at_fault ts f [] a le (omega arith)) a)
a_fault bytes ts f l c h nr none unread (u ∷ us) a le = by (nat_lt (length (behind ts f)) (length (u ∷ us))) refl (a_fault bytes ts f l c h nr none unread us)
  where
    by : (b : Bool) → nat_lt (length (behind ts f)) (length (u ∷ us)) ≡ b → (IsFront ts us → length (behind ts f) ≤ length us → ⊥) → ⊥
    by true e later =
        let n : ℕ = length ts - length (u ∷ us) in
        let k = front_le ts (u ∷ us) a in
        let m = length_behind ts f h in
        let less = below (length (behind ts f)) (length (u ∷ us)) e in
        let early : n ≤ f.before = omega (arith, k, m, less) in
        nr (broken_at bytes ts n) (broken ts n (u ∷ us) l c (breaks_here ts u us a (λ x. later x (omega (arith, less))) unread) (omega (arith, k)) (subst (λ (o : Option FaultAt). NoFaultBefore o n) (sym h) early))
    by false e later = none (subst (λ (z : List Lexeme). IsFront ts z) (at_fault ts f (u ∷ us) a le (not_below (length (behind ts f)) (length (u ∷ us)) e)) a)

pub no_text_is_neither : NoTextIsNeither
no_text_is_neither bytes nq nr = by_length (nat_lt most_bytes (length bytes)) refl
  where
    no_query : (q : Query) → IsQuery bytes q → ⊥
    no_query q i = nq q (record { is = i; only = λ p h. texts_are_one_query bytes p q h i })

    reads : (ts : List Token) → length bytes ≤ most_bytes → cut bytes ≡ Ok ts → first_fault ts ≡ None → (x : Piece) → Reads grammar (call Query_) (lexemes ts) x [] → ⊥
    reads ts l c h x r =
        let m = made_query (lexemes ts) [] x r in
        no_query (translated (syntax_of (names ts) m.0)) (is_query ts m.0 l c h (subst (λ (z : Piece). Reads grammar (call Query_) (lexemes ts) z []) m.1 r) refl)

    by_fault : (ts : List Token) → length bytes ≤ most_bytes → cut bytes ≡ Ok ts → (o : Option FaultAt) → first_fault ts ≡ o → ⊥
    by_fault ts l c None h = no_fault bytes ts l c h nr (reads ts l c h) (lexemes ts) front_empty
    by_fault ts l c (Some f) h =
        let none : IsFront ts (behind ts f) → ⊥ = λ a. nr (faulty_at bytes ts f f.fault) (faulty ts f (behind ts f) l c h a (length_behind ts f h)) in
        let unread : (x : Piece) → Reads grammar (call Query_) (lexemes ts) x [] → ⊥ = λ x r. none (reads_shorter grammar (call Query_) (lexemes ts) [] (behind ts f) x r (ends_all (behind ts f)) (ends_drop (f.before + 1) (lexemes ts))) in
        let k = ends_le (ends_drop (f.before + 1) (lexemes ts)) in
        a_fault bytes ts f l c h nr none unread (lexemes ts) front_empty k

    by_cut : (c : Result (List Token) ℕ) → length bytes ≤ most_bytes → cut bytes ≡ c → ⊥
    by_cut (Ok ts) l c = by_fault ts l c (first_fault ts) refl
    by_cut (Err at) l c = nr (refusal.Syntax at) (bad_place at l c)

    by_length : (b : Bool) → nat_lt most_bytes (length bytes) ≡ b → ⊥
    by_length true e = nr (refusal.Limit limits.Query) (too_long (below most_bytes (length bytes) e))
    by_length false e = by_cut (cut bytes) (not_below most_bytes (length bytes) e) refl
