-- No query is refused; a text is refused in one way, and what is read is a query.
use Rattle.std.proofs.Common.{ℕ, suc, ◌≡◌, ◌+◌, ◌-◌, ◌≤◌, List, [], ◌∷◌, length, Option, None, Some, Result, Ok, Err, refl, sym, ap, subst, ◌∙◌, arith, inl, inr}
use Rattle.grammar_meaning.specs.Grammar.{Form, call, Made, Grammar, Reads, Front}
use Rattle.grammar_meaning.specs.Parts.{BreaksFirst}
use Rattle.grammar_path_laws.specs.Ends.{Ends, ends_here, ends_later, ends_trans, ends_either, ends_le, front_ends, front_shorter}
use Rattle.query_meaning.specs.declared.query.Query.{Query}
use Rattle.query_meaning.specs.declared.query.Syntax.{Syntax}
use Rattle.sparql_meaning.specs.Translation.{translated}
use Rattle.sparql_cursor.specs.Outcomes.{is_text}
use Rattle.sparql_meaning.specs.declared.token.Token.{Token}
use Rattle.sparql_grammar_meaning.specs.declared.lexeme.Lexeme.{Lexeme}
use Rattle.sparql_grammar_meaning.specs.Grammar.{Query_, grammar, a_query}
use Rattle.sparql_query_meaning.specs.declared.refusal.QueryRefusal.{QueryRefusal}
use Rattle.sparql_query_meaning.specs.declared.refusal.QueryRefusal.TheVariants as refusal
use Rattle.sparql_query_meaning.specs.Lexemes.{lexemes, names}
use Rattle.sparql_query_meaning.specs.Limits.{FaultAt, first_fault}
use Rattle.sparql_query_meaning.specs.Queries.{syntax_of, broken_at, faulty_at, NoFaultBefore, IsQuery, is_query, QueryRefused, too_long, bad_place, broken, faulty}
use Rattle.sparql_refusals.specs.Outcomes.{reads_tokens, ReadsAs, reads_as}

abbrev pub QueriesAreNotRefused : Type 0
QueriesAreNotRefused = (bytes : List ℕ) (q : Query) (r : QueryRefusal) → IsQuery bytes q → QueryRefused bytes r → ⊥

abbrev pub RefusalsAreUnique : Type 0
RefusalsAreUnique = (bytes : List ℕ) (r s : QueryRefusal) → QueryRefused bytes r → QueryRefused bytes s → r ≡ s

ok_is : {x y : List Token} {c : Result (List Token) ℕ} → c ≡ Ok x → c ≡ Ok y → x ≡ y
ok_is {x = x} {y = y} h k = let e : Ok x ≡ Ok y = sym h ∙ k in cc

err_is : {x y : ℕ} {c : Result (List Token) ℕ} → c ≡ Err x → c ≡ Err y → x ≡ y
err_is {x = x} {y = y} h k = let e : Err x ≡ Err y = sym h ∙ k in cc

ok_no_err : {x : List Token} {y : ℕ} {c : Result (List Token) ℕ} → c ≡ Ok x → c ≡ Err y → ⊥
ok_no_err {x = x} {y = y} h k = let e : Ok x ≡ Err y = sym h ∙ k in cc

none_no_some : {f : FaultAt} {o : Option FaultAt} → o ≡ None → o ≡ Some f → ⊥
none_no_some h k = let e = sym h ∙ k in cc

some_is : {f g : FaultAt} {o : Option FaultAt} → o ≡ Some f → o ≡ Some g → f ≡ g
some_is {f = f} {g = g} h k = let e : Some f ≡ Some g = sym h ∙ k in cc

pub queries_are_not_refused : QueriesAreNotRefused
queries_are_not_refused bytes q r (is_query ts w l c h a e) (too_long m) = omega arith
queries_are_not_refused bytes q r (is_query ts w l c h a e) (bad_place at m d) = ok_no_err c d
queries_are_not_refused bytes q r (is_query ts w l c h a e) (broken us n vs m d b i f) =
    b.no_text (Made (a_query w)) (subst (λ (z : List Token). Reads grammar (call Query_) (lexemes z) (Made (a_query w)) []) (ok_is c d) a)
queries_are_not_refused bytes q r (is_query ts w l c h a e) (faulty us f vs m d i b j) = none_no_some (subst (λ (z : List Token). first_fault z ≡ None) (ok_is c d) h) i

-- ---- one refusal

longer : (G : Grammar) (f : Form G.Symbol G.Kind) (ts us vs : List G.Token) → Ends us vs → Front G f ts vs → (Front G f ts us → ⊥) → suc (length us) ≤ length vs
longer G f ts us vs ends_here a none = absurd (none a)
longer G f ts us vs (ends_later e) a none = let k = ends_le e in omega arith

-- no front goes beyond the place that breaks
breaks_first : (G : Grammar) (f : Form G.Symbol G.Kind) (ts us vs : List G.Token) → BreaksFirst G f ts us → Front G f ts vs → length us ≤ length vs
breaks_first G f ts [] vs b a = omega arith
breaks_first G f ts (t ∷ us) vs b a =
    let here : Ends us ts = ends_trans (ends_later ends_here) (front_ends G f ts (t ∷ us) b.before) in
    elim (ends_either here (front_ends G f ts vs a)) [
      | inl k ↦ longer G f ts us vs k a (λ h. b.with_it t us refl h)
      | inr k ↦ absurd (b.with_it t us refl (front_shorter G f ts vs us a k here))
    ]

same_place : (bytes : List ℕ) (ts us : List Token) (n m : ℕ) (vs ws : List Lexeme) → ts ≡ us → BreaksFirst grammar (call Query_) (lexemes ts) vs → BreaksFirst grammar (call Query_) (lexemes us) ws → n + length vs ≡ length ts → m + length ws ≡ length us
    → broken_at bytes ts n ≡ broken_at bytes us m
same_place bytes ts us n m vs ws e a b h k =
    let a' : BreaksFirst grammar (call Query_) (lexemes us) vs = subst (λ (z : List Token). BreaksFirst grammar (call Query_) (lexemes z) vs) e a in
    let i = breaks_first grammar (call Query_) (lexemes us) vs ws a' b.before in
    let j = breaks_first grammar (call Query_) (lexemes us) ws vs b a'.before in
    let l : length ts ≡ length us = ap length e in
    let s : n ≡ m = omega (arith, h, k, i, j, l) in
    ap (λ (z : List Token). broken_at bytes z n) e ∙ ap (broken_at bytes us) s

-- a fault counts where the tokens with it begin a query
no_both : (ts us : List Token) (n : ℕ) (vs ws : List Lexeme) (f : FaultAt) → ts ≡ us → BreaksFirst grammar (call Query_) (lexemes ts) vs → n + length vs ≡ length ts → NoFaultBefore (first_fault ts) n
    → first_fault us ≡ Some f → Front grammar (call Query_) (lexemes us) ws → 1 + f.before + length ws ≡ length us → ⊥
no_both ts us n vs ws f e a h i j b k =
    let b' : Front grammar (call Query_) (lexemes ts) ws = subst (λ (z : List Token). Front grammar (call Query_) (lexemes z) ws) (sym e) b in
    let w = breaks_first grammar (call Query_) (lexemes ts) vs ws a b' in
    let l : length ts ≡ length us = ap length e in
    let s : n ≤ f.before = subst (λ (z : Option FaultAt). NoFaultBefore z n) (ap first_fault e ∙ j) i in
    omega (arith, h, k, l, w, s)

same_fault : (bytes : List ℕ) (ts us : List Token) (f g : FaultAt) → ts ≡ us → first_fault ts ≡ Some f → first_fault us ≡ Some g → faulty_at bytes ts f f.fault ≡ faulty_at bytes us g g.fault
same_fault bytes ts us f g e h k =
    let s : f ≡ g = some_is h (ap first_fault e ∙ k) in
    ap (λ (z : List Token). faulty_at bytes z f f.fault) e ∙ ap (λ (z : FaultAt). faulty_at bytes us z z.fault) s

pub refusals_are_unique : RefusalsAreUnique
refusals_are_unique bytes r s (too_long m) (too_long n) = refl
refusals_are_unique bytes r s (too_long m) (bad_place at n d) = absurd (omega arith)
refusals_are_unique bytes r s (too_long m) (broken us n vs l d b i f) = absurd (omega arith)
refusals_are_unique bytes r s (too_long m) (faulty us f vs l d i b j) = absurd (omega arith)
refusals_are_unique bytes r s (bad_place at n d) (too_long m) = absurd (omega arith)
refusals_are_unique bytes r s (bad_place at n d) (bad_place at' n' d') = ap refusal.Syntax (err_is d d')
refusals_are_unique bytes r s (bad_place at l c) (broken us n vs m d b i f) = absurd (ok_no_err d c)
refusals_are_unique bytes r s (bad_place at l c) (faulty us f vs m d i b j) = absurd (ok_no_err d c)
refusals_are_unique bytes r s (broken us n vs l d b i f) (too_long m) = absurd (omega arith)
refusals_are_unique bytes r s (broken us n vs m d b i f) (bad_place at l c) = absurd (ok_no_err d c)
refusals_are_unique bytes r s (broken ts n vs l c a h i) (broken us m ws l' d b k j) = same_place bytes ts us n m vs ws (ok_is c d) a b h k
refusals_are_unique bytes r s (broken ts n vs l c a h i) (faulty us f ws m d j b k) = absurd (no_both ts us n vs ws f (ok_is c d) a h i j b k)
refusals_are_unique bytes r s (faulty us f vs l d i b j) (too_long m) = absurd (omega arith)
refusals_are_unique bytes r s (faulty us f vs m d i b j) (bad_place at l c) = absurd (ok_no_err d c)
refusals_are_unique bytes r s (faulty us f ws m d j b k) (broken ts n vs l c a h i) = absurd (no_both ts us n vs ws f (ok_is c d) a h i j b k)
refusals_are_unique bytes r s (faulty ts f vs l c h a i) (faulty us g ws m d k b j) = same_fault bytes ts us f g (ok_is c d) h k

-- ---- what is read is a query

pub query_read : (bytes : List ℕ) (s : Syntax) (q : Query) → ReadsAs bytes s → q ≡ translated s → IsQuery bytes q
query_read bytes s q (reads_as ts l c (reads_tokens w h (is_text r o) i)) e = is_query ts w l c h r (e ∙ ap translated i)
