-- What the first tokens of a list tell of the whole list.
use Rattle.std.proofs.Common.{ℕ, zero, suc, ◌≡◌, ◌+◌, ◌-◌, ◌<◌, Bool, List, [], ◌∷◌, ◌++◌, length, take, drop, Option, None, Some, refl, sym, ap, subst, ◌∙◌, arith, append_assoc}
use Rattle.std.proofs.lemmas.List.{append_cancel_right}
use Rattle.grammar_meaning.specs.Grammar.{Form, Grammar, Front}
use Rattle.grammar_meaning.specs.Parts.{BreaksFirst}
use Rattle.grammar_meaning.specs.Frame.{front_alone}
use Rattle.grammar_path_laws.specs.Ends.{Ends, ends_here, ends_later, ends_all, ends_trans, reads_shorter, front_ends}
use Rattle.sparql_meaning.specs.declared.token.Token.{Token}
use Rattle.sparql_query_meaning.specs.declared.refusal.QueryLimit.{QueryLimit}
use Rattle.sparql_query_meaning.specs.Prefixes.{Declared, Declaring, declaring, declared}
use Rattle.sparql_query_meaning.specs.Lexemes.{named_by, lexeme, lexemes_from, lexemes}
use Rattle.sparql_query_meaning.specs.Limits.{State, FaultAt, Fault, one_later, fault_or, fault_at, fault_from, next_kind, state_after}

-- ---- a front, and what breaks first, with more tokens behind

pub front_longer : (G : Grammar) (f : Form G.Symbol G.Kind) (xs us rest : List G.Token) → Front G f xs us → Front G f (xs ++ rest) (us ++ rest)
front_longer G f xs us rest a =
    let b = front_alone G f xs us a in
    subst (λ (z : List G.Token). Front G f z (us ++ rest)) (sym (append_assoc b.taken us rest) ∙ ap (λ z. z ++ rest) (sym b.is)) (b.anywhere (us ++ rest))

pub front_cut : (G : Grammar) (f : Form G.Symbol G.Kind) (xs us rest : List G.Token) → Front G f (xs ++ rest) (us ++ rest) → Front G f xs us
front_cut G f xs us rest a =
    let b = front_alone G f (xs ++ rest) (us ++ rest) a in
    let same : b.taken ++ us ≡ xs = append_cancel_right (b.taken ++ us) xs rest (append_assoc b.taken us rest ∙ sym b.is) in
    subst (λ (z : List G.Token). Front G f z us) same (b.anywhere us)

ends_back : {T : Type 0} (ts rest : List T) → Ends rest (ts ++ rest)
ends_back [] rest = ends_here
ends_back (t ∷ ts) rest = ends_later (ends_back ts rest)

ends_more : {T : Type 0} {us ts : List T} (rest : List T) → Ends us ts → Ends (us ++ rest) (ts ++ rest)
ends_more rest ends_here = ends_here
ends_more rest (ends_later a) = ends_later (ends_more rest a)

-- the place where the first tokens break a form is the one where the whole list does
pub breaks_longer : (G : Grammar) (f : Form G.Symbol G.Kind) (xs us rest : List G.Token) (t : G.Token) (vs : List G.Token) → us ≡ t ∷ vs → BreaksFirst G f xs us → BreaksFirst G f (xs ++ rest) (us ++ rest)
breaks_longer G f xs us rest t vs is b = record {
  before = front_longer G f xs us rest b.before;
  with_it = λ t' ws e a.
      let same : ws ≡ vs ++ rest = let k : (t ∷ vs) ++ rest ≡ t' ∷ ws = ap (λ z. z ++ rest) (sym is) ∙ e in cc in
      b.with_it t vs is (front_cut G f xs vs rest (subst (λ (z : List G.Token). Front G f (xs ++ rest) z) same a));
  no_text = λ n r.
      let one : Ends vs us = subst (λ (z : List G.Token). Ends vs z) (sym is) (ends_later ends_here) in
      let ends : Ends vs xs = ends_trans one (front_ends G f xs us b.before) in
      b.with_it t vs is (front_cut G f xs vs rest (reads_shorter G f (xs ++ rest) [] (vs ++ rest) n r (ends_all (vs ++ rest)) (ends_more rest ends)));
}

-- ---- the lexemes of the first tokens are the first lexemes

pub lexemes_apart : (n : ℕ) (d : Declaring) (ds : List Declared) (ns : List (List ℕ)) (ts : List Token) → lexemes_from d ds ns ts ≡ lexemes_from d ds ns (take n ts) ++ drop n (lexemes_from d ds ns ts)
lexemes_apart zero d ds ns ts = refl
lexemes_apart (suc n) d ds ns [] = refl
lexemes_apart (suc n) d ds ns (t ∷ ts) = ap (λ z. lexeme ds (named_by ns t.kind) t.kind ∷ z) (lexemes_apart n (declaring d t.kind) (declared d t.kind ds) (named_by ns t.kind) ts)

pub lexemes_count : (d : Declaring) (ds : List Declared) (ns : List (List ℕ)) (ts : List Token) → length (lexemes_from d ds ns ts) ≡ length ts
lexemes_count d ds ns [] = refl
lexemes_count d ds ns (t ∷ ts) = ap suc (lexemes_count (declaring d t.kind) (declared d t.kind ds) (named_by ns t.kind) ts)

-- ---- a fault is at a token

same_some : (f g : FaultAt) → Some f ≡ Some g → f ≡ g
same_some f g h = cc

place_at : ℕ → Fault → FaultAt
place_at n x = record { before = n; fault = x }

one_later_within : (n : ℕ) (o : Option FaultAt) (f : FaultAt) → one_later o ≡ Some f → ((g : FaultAt) → o ≡ Some g → g.before < n) → f.before < suc n
unfolding place_at
one_later_within n None f h k = absurd cc
one_later_within n (Some g) f h k =
    let e : 1 + g.before ≡ f.before = ap (λ (z : FaultAt). z.before) (same_some (place_at (1 + g.before) g.fault) f h) in
    let l = k g refl in
    omega (arith, e, l)

fault_or_within : (n : ℕ) (o : Option Fault) (later : Option FaultAt) (f : FaultAt) → fault_or o later ≡ Some f → ((g : FaultAt) → later ≡ Some g → g.before < n) → f.before < suc n
unfolding place_at
fault_or_within n None later f h k = one_later_within n later f h k
fault_or_within n (Some x) later f h k = let e : 0 ≡ f.before = ap (λ (z : FaultAt). z.before) (same_some (place_at 0 x) f h) in omega (arith, e)

pub fault_within : (counts : QueryLimit → Bool) (st : State) (ts : List Token) (f : FaultAt) → fault_from counts st ts ≡ Some f → f.before < length ts
fault_within counts st [] f h = absurd cc
fault_within counts st (t ∷ ts) f h =
    let later = state_after st t.kind (next_kind ts) in
    fault_or_within (length ts) (fault_at counts st t.kind (next_kind ts)) (fault_from counts later ts) f h (λ g k. fault_within counts later ts g k)
