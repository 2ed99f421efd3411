-- The laws by which a reader's outcome at a form comes from those at its parts.
use Rattle.std.specs.Prelude.{Bool, true, false, IsTrue, List, [], ◌∷◌, ◌≡◌, ◌≤◌, ◌⊎◌, length}
use Rattle.std.proofs.Common.{refl, sym, subst, ap, arith, inl, inr}
use Rattle.grammar_meaning.specs.Grammar.{Form, nothing, one, call, ◌⨾◌, ◌∣◌, many, Node, Nil, Leaf, Pair, Made, Grammar, Reads, read_nothing, read_one, read_rule, read_both, read_left, read_right, read_many, Front, front_empty, front_one, front_rule, front_first, front_rest, front_left, front_right, front_many}
use Rattle.grammar_meaning.specs.Outcome.{Begins, Most, Lags, Got, Broke, and, implies, nullable, first, Lookahead, fits, NotBegun}
use Rattle.grammar_meaning.specs.Laws.{reads_front, reads_le, reads_begins, front_begins, and_l, and_r, mp, begins_mono}

both_no : (a : Bool) → IsTrue (implies a false) → IsTrue a → ⊥
both_no true h k = cc
both_no false h k = cc

-- where no text of the form begins, it reads the empty one at most, and has the empty front alone
not_begun_reads : (G : Grammar) (L : Lookahead G) (f : Form G.Symbol G.Kind) (ts us : List G.Token) (n : Node G.Token G.Tree) → NotBegun G L f ts → Reads G f ts n us → IsTrue (nullable L.empty f) × (us ≡ ts)
not_begun_reads G L f [] us n h r = elim (reads_begins G L f [] us n r) [ inl k ↦ k | inr k ↦ absurd k ]
not_begun_reads G L f (t ∷ ts) us n h r = elim (reads_begins G L f (t ∷ ts) us n r) [ inl k ↦ k | inr k ↦ absurd (both_no (first L.empty L.begins f (G.kind t)) h k) ]

not_begun_front : (G : Grammar) (L : Lookahead G) (f : Form G.Symbol G.Kind) (ts us : List G.Token) → NotBegun G L f ts → Front G f ts us → us ≡ ts
not_begun_front G L f [] us h r = elim (front_begins G L f [] us r) [ inl k ↦ k | inr k ↦ absurd k ]
not_begun_front G L f (t ∷ ts) us h r = elim (front_begins G L f (t ∷ ts) us r) [ inl k ↦ k | inr k ↦ absurd (both_no (first L.empty L.begins f (G.kind t)) h k) ]

-- behind a token of e nothing of g begins
fits_not : (G : Grammar) (L : Lookahead G) (e d : G.Kind → Bool) (g : Form G.Symbol G.Kind) (ws : List G.Token) → IsTrue (fits G L e d g) → Begins G e ws → NotBegun G L g ws
fits_not G L e d g [] h b = tt
fits_not G L e d g (t ∷ ws) h b =
    and_l (implies (first L.empty L.begins g (G.kind t)) false) (implies (nullable L.empty g) (d (G.kind t)))
    (mp (e (G.kind t)) (and (implies (first L.empty L.begins g (G.kind t)) false) (implies (nullable L.empty g) (d (G.kind t))))
    (L.each (λ k. implies (e k) (and (implies (first L.empty L.begins g k) false) (implies (nullable L.empty g) (d k)))) h (G.kind t)) b)

fits_over : (G : Grammar) (L : Lookahead G) (e d : G.Kind → Bool) (g : Form G.Symbol G.Kind) (ws : List G.Token) → IsTrue (fits G L e d g) → Begins G e ws → IsTrue (nullable L.empty g) → Begins G d ws
fits_over G L e d g [] h b n = absurd b
fits_over G L e d g (t ∷ ws) h b n =
    mp (nullable L.empty g) (d (G.kind t)) (and_r (implies (first L.empty L.begins g (G.kind t)) false) (implies (nullable L.empty g) (d (G.kind t)))
    (mp (e (G.kind t)) (and (implies (first L.empty L.begins g (G.kind t)) false) (implies (nullable L.empty g) (d (G.kind t))))
    (L.each (λ k. implies (e k) (and (implies (first L.empty L.begins g k) false) (implies (nullable L.empty g) (d k)))) h (G.kind t)) b)) n

after_reads : (G : Grammar) (L : Lookahead G) (e d : G.Kind → Bool) (g : Form G.Symbol G.Kind) (ws vs : List G.Token) (m : Node G.Token G.Tree) → IsTrue (fits G L e d g) → Begins G e ws → Reads G g ws m vs → Begins G d vs
after_reads G L e d g ws vs m h b r =
    let k = not_begun_reads G L g ws vs m (fits_not G L e d g ws h b) r in
    subst (λ (l : List G.Token). Begins G d l) (sym k.1) (fits_over G L e d g ws h b k.0)

after_front : (G : Grammar) (L : Lookahead G) (e d : G.Kind → Bool) (g : Form G.Symbol G.Kind) (ws vs : List G.Token) → IsTrue (fits G L e d g) → Begins G e ws → Front G g ws vs → vs ≡ ws
after_front G L e d g ws vs h b r = not_begun_front G L g ws vs (fits_not G L e d g ws h b) r

-- sequence
then_only : (G : Grammar) (L : Lookahead G) (e d : G.Kind → Bool) (f g : Form G.Symbol G.Kind) (ts us vs : List G.Token) (n m : Node G.Token G.Tree)
    → Most G e f ts n us → Most G d g us m vs → IsTrue (fits G L e d g)
    → (p : Node G.Token G.Tree) (ws : List G.Token) → Reads G (f ⨾ g) ts p ws → ((p ≡ Pair n m) × (ws ≡ vs)) ⊎ Begins G d ws
then_only G L e d f g ts us vs n m a b h p ws (read_both {us = xs} {n = n'} {m = m'} r q) =
    elim (a.only n' xs r) [
      | inl k ↦ elim (b.only m' ws (subst (λ (l : List G.Token). Reads G g l m' ws) k.1 q)) [ inl j ↦ inl (cc, j.1) | inr j ↦ inr j ]
      | inr k ↦ inr (after_reads G L e d g xs ws m' h k q)
    ]

then_within : (G : Grammar) (L : Lookahead G) (e d : G.Kind → Bool) (f g : Form G.Symbol G.Kind) (ts us vs : List G.Token) (n : Node G.Token G.Tree)
    → Most G e f ts n us → ((ws : List G.Token) → Front G g us ws → length vs ≤ length ws) → length vs ≤ length us → IsTrue (fits G L e d g)
    → (ws : List G.Token) → Front G (f ⨾ g) ts ws → length vs ≤ length ws
then_within G L e d f g ts us vs n a b s h ws front_empty = let k = a.within ts front_empty in omega arith
then_within G L e d f g ts us vs n a b s h ws (front_first r) = let k = a.within ws r in omega arith
then_within G L e d f g ts us vs n a b s h ws (front_rest {us = xs} {n = n'} r q) =
    elim (a.only n' xs r) [
      | inl k ↦ b ws (subst (λ (l : List G.Token). Front G g l ws) k.1 q)
      | inr k ↦ let i = a.within xs (reads_front G f ts xs n' r) in let j = ap length (after_front G L e d g xs ws h k q) in omega arith
    ]

pub most_then : {G : Grammar} (L : Lookahead G) {e d : G.Kind → Bool} {f g : Form G.Symbol G.Kind} {ts us vs : List G.Token} {n m : Node G.Token G.Tree}
    → IsTrue (fits G L e d g) → Most G e f ts n us → Most G d g us m vs → length vs ≤ length us → Most G d (f ⨾ g) ts (Pair n m) vs
most_then {G = G} L {e = e} {d = d} {f = f} {g = g} {ts = ts} {us = us} {vs = vs} {n = n} {m = m} h a b s =
    record { only = then_only G L e d f g ts us vs n m a b h; within = then_within G L e d f g ts us vs n a b.within s h }

rest_only : (G : Grammar) (L : Lookahead G) (e d : G.Kind → Bool) (f g : Form G.Symbol G.Kind) (ts us vs : List G.Token) (n : Node G.Token G.Tree)
    → Most G e f ts n us → Lags G d g us vs → IsTrue (fits G L e d g)
    → (p : Node G.Token G.Tree) (ws : List G.Token) → Reads G (f ⨾ g) ts p ws → Begins G d ws
rest_only G L e d f g ts us vs n a b h p ws (read_both {us = xs} {n = n'} {m = m'} r q) =
    elim (a.only n' xs r) [
      | inl k ↦ b.only m' ws (subst (λ (l : List G.Token). Reads G g l m' ws) k.1 q)
      | inr k ↦ after_reads G L e d g xs ws m' h k q
    ]

-- the second part stops
pub lags_rest : {G : Grammar} (L : Lookahead G) {e d : G.Kind → Bool} {f g : Form G.Symbol G.Kind} {ts us vs : List G.Token} {n : Node G.Token G.Tree}
    → IsTrue (fits G L e d g) → Most G e f ts n us → Lags G d g us vs → Lags G d (f ⨾ g) ts vs
lags_rest {G = G} L {e = e} {d = d} {f = f} {g = g} {ts = ts} {us = us} {vs = vs} {n = n} h a b =
    record { only = rest_only G L e d f g ts us vs n a b h; within = then_within G L e d f g ts us vs n a b.within (b.within us front_empty) h }

first_only : (G : Grammar) (L : Lookahead G) (e d : G.Kind → Bool) (f g : Form G.Symbol G.Kind) (ts us : List G.Token)
    → Lags G e f ts us → IsTrue (fits G L e d g)
    → (p : Node G.Token G.Tree) (ws : List G.Token) → Reads G (f ⨾ g) ts p ws → Begins G d ws
first_only G L e d f g ts us a h p ws (read_both {us = xs} {n = n'} {m = m'} r q) = after_reads G L e d g xs ws m' h (a.only n' xs r) q

first_within : (G : Grammar) (L : Lookahead G) (e d : G.Kind → Bool) (f g : Form G.Symbol G.Kind) (ts us : List G.Token)
    → Lags G e f ts us → IsTrue (fits G L e d g)
    → (ws : List G.Token) → Front G (f ⨾ g) ts ws → length us ≤ length ws
first_within G L e d f g ts us a h ws front_empty = a.within ts front_empty
first_within G L e d f g ts us a h ws (front_first r) = a.within ws r
first_within G L e d f g ts us a h ws (front_rest {us = xs} {n = n'} r q) =
    let i = a.within xs (reads_front G f ts xs n' r) in let j = ap length (after_front G L e d g xs ws h (a.only n' xs r) q) in omega arith

-- the first part stops
pub lags_first : {G : Grammar} (L : Lookahead G) {e d : G.Kind → Bool} {f g : Form G.Symbol G.Kind} {ts us : List G.Token}
    → IsTrue (fits G L e d g) → Lags G e f ts us → Lags G d (f ⨾ g) ts us
lags_first {G = G} L {e = e} {d = d} {f = f} {g = g} {ts = ts} {us = us} h a =
    record { only = first_only G L e d f g ts us a h; within = first_within G L e d f g ts us a h }

-- choice
or_only : (G : Grammar) (e : G.Kind → Bool) (f g : Form G.Symbol G.Kind) (ts us : List G.Token) (n : Node G.Token G.Tree)
    → Most G e f ts n us → Most G e g ts n us → (m : Node G.Token G.Tree) (ws : List G.Token) → Reads G (f ∣ g) ts m ws → ((m ≡ n) × (ws ≡ us)) ⊎ Begins G e ws
or_only G e f g ts us n a b m ws (read_left r) = a.only m ws r
or_only G e f g ts us n a b m ws (read_right r) = b.only m ws r

or_within : (G : Grammar) (f g : Form G.Symbol G.Kind) (ts us : List G.Token)
    → ((ws : List G.Token) → Front G f ts ws → length us ≤ length ws) → ((ws : List G.Token) → Front G g ts ws → length us ≤ length ws)
    → (ws : List G.Token) → Front G (f ∣ g) ts ws → length us ≤ length ws
or_within G f g ts us a b ws front_empty = a ts front_empty
or_within G f g ts us a b ws (front_left r) = a ws r
or_within G f g ts us a b ws (front_right r) = b ws r

or_lags_only : (G : Grammar) (e : G.Kind → Bool) (f g : Form G.Symbol G.Kind) (ts us : List G.Token)
    → Lags G e f ts us → Lags G e g ts us → (m : Node G.Token G.Tree) (ws : List G.Token) → Reads G (f ∣ g) ts m ws → Begins G e ws
or_lags_only G e f g ts us a b m ws (read_left r) = a.only m ws r
or_lags_only G e f g ts us a b m ws (read_right r) = b.only m ws r

pub most_or : {G : Grammar} {e : G.Kind → Bool} {f g : Form G.Symbol G.Kind} {ts us : List G.Token} {n : Node G.Token G.Tree}
    → Most G e f ts n us → Most G e g ts n us → Most G e (f ∣ g) ts n us
most_or {G = G} {e = e} {f = f} {g = g} {ts = ts} {us = us} {n = n} a b =
    record { only = or_only G e f g ts us n a b; within = or_within G f g ts us a.within b.within }

pub lags_or : {G : Grammar} {e : G.Kind → Bool} {f g : Form G.Symbol G.Kind} {ts us : List G.Token}
    → Lags G e f ts us → Lags G e g ts us → Lags G e (f ∣ g) ts us
lags_or {G = G} {e = e} {f = f} {g = g} {ts = ts} {us = us} a b =
    record { only = or_lags_only G e f g ts us a b; within = or_within G f g ts us a.within b.within }

-- weaker facts
pub lags_most : {G : Grammar} {e : G.Kind → Bool} {f : Form G.Symbol G.Kind} {ts us : List G.Token} {n : Node G.Token G.Tree}
    → Lags G e f ts us → Most G e f ts n us
lags_most a = record { only = λ m ws r. inr (a.only m ws r); within = a.within }

pub lags_near : {G : Grammar} {e : G.Kind → Bool} {f : Form G.Symbol G.Kind} {ts us vs : List G.Token}
    → Lags G e f ts us → length vs ≤ length us → Lags G e f ts vs
lags_near {vs = vs} a h = record { only = a.only; within = λ ws r. let k = a.within ws r in omega arith }

pub most_lags : {G : Grammar} {e : G.Kind → Bool} {f : Form G.Symbol G.Kind} {ts us : List G.Token} {n : Node G.Token G.Tree}
    → Most G e f ts n us → Begins G e us → Lags G e f ts us
most_lags {G = G} {e = e} a b = record { only = λ m ws r. elim (a.only m ws r) [ inl k ↦ subst (λ (l : List G.Token). Begins G e l) (sym k.1) b | inr k ↦ k ]; within = a.within }

pub lags_wide : {G : Grammar} {e d : G.Kind → Bool} {f : Form G.Symbol G.Kind} {ts us : List G.Token} (L : Lookahead G)
    → IsTrue (L.every (λ k. implies (e k) (d k))) → Lags G e f ts us → Lags G d f ts us
lags_wide {G = G} {e = e} {d = d} L h a =
    record { only = λ m ws r. begins_mono G e d ws (λ k. mp (e k) (d k) (L.each (λ j. implies (e j) (d j)) h k)) (a.only m ws r); within = a.within }

pub most_wide : {G : Grammar} {e d : G.Kind → Bool} {f : Form G.Symbol G.Kind} {ts us : List G.Token} {n : Node G.Token G.Tree} (L : Lookahead G)
    → IsTrue (L.every (λ k. implies (e k) (d k))) → Most G e f ts n us → Most G d f ts n us
most_wide {G = G} {e = e} {d = d} L h a =
    record { only = λ m ws r. elim (a.only m ws r) [ inl k ↦ inl k | inr k ↦ inr (begins_mono G e d ws (λ k. mp (e k) (d k) (L.each (λ j. implies (e j) (d j)) h k)) k) ]; within = a.within }

-- no text of the form begins here
pub lags_none : {G : Grammar} (L : Lookahead G) {e : G.Kind → Bool} {f : Form G.Symbol G.Kind} {ts : List G.Token}
    → IsTrue (implies (nullable L.empty f) false) → NotBegun G L f ts → Lags G e f ts ts
lags_none {G = G} L {e = e} {f = f} {ts = ts} k h =
    record { only = λ m ws r. absurd (both_no (nullable L.empty f) k (not_begun_reads G L f ts ws m h r).0); within = λ ws r. let i = ap length (not_begun_front G L f ts ws h r) in omega arith }

-- symbols
call_only : (G : Grammar) (e : G.Kind → Bool) (s : G.Symbol) (ts us : List G.Token) (n : Node G.Token G.Tree)
    → Most G e (G.rule s) ts n us → (m : Node G.Token G.Tree) (ws : List G.Token) → Reads G (call s) ts m ws → ((m ≡ Made (G.build s n)) × (ws ≡ us)) ⊎ Begins G e ws
call_only G e s ts us n a m ws (read_rule {n = m'} r) = elim (a.only m' ws r) [ inl k ↦ inl (ap (λ x. Made (G.build s x)) k.0, k.1) | inr k ↦ inr k ]

call_within : (G : Grammar) (s : G.Symbol) (ts us : List G.Token)
    → ((ws : List G.Token) → Front G (G.rule s) ts ws → length us ≤ length ws) → (ws : List G.Token) → Front G (call s) ts ws → length us ≤ length ws
call_within G s ts us a ws front_empty = a ts front_empty
call_within G s ts us a ws (front_rule r) = a ws r

call_lags_only : (G : Grammar) (e : G.Kind → Bool) (s : G.Symbol) (ts us : List G.Token)
    → Lags G e (G.rule s) ts us → (m : Node G.Token G.Tree) (ws : List G.Token) → Reads G (call s) ts m ws → Begins G e ws
call_lags_only G e s ts us a m ws (read_rule {n = m'} r) = a.only m' ws r

pub most_call : {G : Grammar} {e : G.Kind → Bool} (s : G.Symbol) {ts us : List G.Token} {n : Node G.Token G.Tree}
    → Most G e (G.rule s) ts n us → Most G e (call s) ts (Made (G.build s n)) us
most_call {G = G} {e = e} s {ts = ts} {us = us} {n = n} a = record { only = call_only G e s ts us n a; within = call_within G s ts us a.within }

pub lags_call : {G : Grammar} {e : G.Kind → Bool} (s : G.Symbol) {ts us : List G.Token} → Lags G e (G.rule s) ts us → Lags G e (call s) ts us
lags_call {G = G} {e = e} s {ts = ts} {us = us} a = record { only = call_lags_only G e s ts us a; within = call_within G s ts us a.within }

-- repetition
many_only : (G : Grammar) (e : G.Kind → Bool) (f : Form G.Symbol G.Kind) (ts us : List G.Token) (n : Node G.Token G.Tree)
    → Most G e ((f ⨾ many f) ∣ nothing) ts n us → (m : Node G.Token G.Tree) (ws : List G.Token) → Reads G (many f) ts m ws → ((m ≡ n) × (ws ≡ us)) ⊎ Begins G e ws
many_only G e f ts us n a m ws (read_many r) = a.only m ws r

many_within : (G : Grammar) (f : Form G.Symbol G.Kind) (ts us : List G.Token)
    → ((ws : List G.Token) → Front G ((f ⨾ many f) ∣ nothing) ts ws → length us ≤ length ws) → (ws : List G.Token) → Front G (many f) ts ws → length us ≤ length ws
many_within G f ts us a ws front_empty = a ts front_empty
many_within G f ts us a ws (front_many r) = a ws r

many_lags_only : (G : Grammar) (e : G.Kind → Bool) (f : Form G.Symbol G.Kind) (ts us : List G.Token)
    → Lags G e ((f ⨾ many f) ∣ nothing) ts us → (m : Node G.Token G.Tree) (ws : List G.Token) → Reads G (many f) ts m ws → Begins G e ws
many_lags_only G e f ts us a m ws (read_many r) = a.only m ws r

pub most_many : {G : Grammar} {e : G.Kind → Bool} {f : Form G.Symbol G.Kind} {ts us : List G.Token} {n : Node G.Token G.Tree}
    → Most G e ((f ⨾ many f) ∣ nothing) ts n us → Most G e (many f) ts n us
most_many {G = G} {e = e} {f = f} {ts = ts} {us = us} {n = n} a = record { only = many_only G e f ts us n a; within = many_within G f ts us a.within }

pub lags_many : {G : Grammar} {e : G.Kind → Bool} {f : Form G.Symbol G.Kind} {ts us : List G.Token}
    → Lags G e ((f ⨾ many f) ∣ nothing) ts us → Lags G e (many f) ts us
lags_many {G = G} {e = e} {f = f} {ts = ts} {us = us} a = record { only = many_lags_only G e f ts us a; within = many_within G f ts us a.within }

-- one token, and none
one_only : (G : Grammar) (e p : G.Kind → Bool) (t : G.Token) (ts : List G.Token) (m : Node G.Token G.Tree) (ws : List G.Token) → Reads G (one p) (t ∷ ts) m ws → ((m ≡ Leaf t) × (ws ≡ ts)) ⊎ Begins G e ws
one_only G e p t ts m ws (read_one h) = inl (refl, refl)

one_within : (G : Grammar) (p : G.Kind → Bool) (t : G.Token) (ts ws : List G.Token) → Front G (one p) (t ∷ ts) ws → length ts ≤ length ws
one_within G p t ts ws front_empty = omega arith
one_within G p t ts ws (front_one h) = omega arith

nothing_only : (G : Grammar) (e : G.Kind → Bool) (ts : List G.Token) (m : Node G.Token G.Tree) (ws : List G.Token) → Reads G nothing ts m ws → (m ≡ Nil) × (ws ≡ ts)
nothing_only G e ts m ws read_nothing = (refl, refl)

nothing_within : (G : Grammar) (ts ws : List G.Token) → Front G nothing ts ws → length ts ≤ length ws
nothing_within G ts ws front_empty = omega arith

-- what a reader owes, by parts
pub got_one : {G : Grammar} (e : G.Kind → Bool) (p : G.Kind → Bool) (t : G.Token) (ts : List G.Token) → IsTrue (p (G.kind t)) → Got G e (one p) (t ∷ ts) (Leaf t) ts
got_one {G = G} e p t ts h = record { reads = read_one h; most = record { only = one_only G e p t ts; within = one_within G p t ts } }

pub got_nothing : {G : Grammar} (e : G.Kind → Bool) (ts : List G.Token) → Got G e nothing ts Nil ts
got_nothing {G = G} e ts = record { reads = read_nothing; most = record { only = λ m ws r. inl (nothing_only G e ts m ws r); within = nothing_within G ts } }

pub lags_nothing : {G : Grammar} {e : G.Kind → Bool} {ts us : List G.Token} → Begins G e ts → length us ≤ length ts → Lags G e nothing ts us
lags_nothing {G = G} {e = e} {ts = ts} {us = us} b h = record {
  only = λ m ws r. subst (λ (l : List G.Token). Begins G e l) (sym (nothing_only G e ts m ws r).1) b;
  within = λ ws r. let k = nothing_within G ts ws r in omega arith;
}

-- no text of the form begins here, and one has to
pub broke_none : {G : Grammar} (L : Lookahead G) (e : G.Kind → Bool) {f : Form G.Symbol G.Kind} {ts : List G.Token} → IsTrue (implies (nullable L.empty f) false) → NotBegun G L f ts → Broke G e f ts ts
broke_none L e k h = record { front = front_empty; lags = lags_none L k h }

pub got_call : {G : Grammar} {e : G.Kind → Bool} (s : G.Symbol) {ts us : List G.Token} {n : Node G.Token G.Tree} → Got G e (G.rule s) ts n us → Got G e (call s) ts (Made (G.build s n)) us
got_call s a = record { reads = read_rule a.reads; most = most_call s a.most }

pub broke_call : {G : Grammar} {e : G.Kind → Bool} (s : G.Symbol) {ts us : List G.Token} → Broke G e (G.rule s) ts us → Broke G e (call s) ts us
broke_call s a = record { front = front_rule a.front; lags = lags_call s a.lags }

pub got_then : {G : Grammar} (L : Lookahead G) {e d : G.Kind → Bool} {f g : Form G.Symbol G.Kind} {ts us vs : List G.Token} {n m : Node G.Token G.Tree}
    → IsTrue (fits G L e d g) → Got G e f ts n us → Got G d g us m vs → Got G d (f ⨾ g) ts (Pair n m) vs
got_then {G = G} L {g = g} {us = us} {vs = vs} {m = m} h a b = record { reads = read_both a.reads b.reads; most = most_then L h a.most b.most (reads_le G g us vs m b.reads) }

pub broke_first : {G : Grammar} (L : Lookahead G) {e d : G.Kind → Bool} {f g : Form G.Symbol G.Kind} {ts us : List G.Token}
    → IsTrue (fits G L e d g) → Broke G e f ts us → Broke G d (f ⨾ g) ts us
broke_first L h a = record { front = front_first a.front; lags = lags_first L h a.lags }

pub broke_rest : {G : Grammar} (L : Lookahead G) {e d : G.Kind → Bool} {f g : Form G.Symbol G.Kind} {ts us vs : List G.Token} {n : Node G.Token G.Tree}
    → IsTrue (fits G L e d g) → Got G e f ts n us → Broke G d g us vs → Broke G d (f ⨾ g) ts vs
broke_rest L h a b = record { front = front_rest a.reads b.front; lags = lags_rest L h a.most b.lags }

pub got_left : {G : Grammar} {e : G.Kind → Bool} {f g : Form G.Symbol G.Kind} {ts us : List G.Token} {n : Node G.Token G.Tree} → Got G e f ts n us → Most G e g ts n us → Got G e (f ∣ g) ts n us
got_left a b = record { reads = read_left a.reads; most = most_or a.most b }

pub got_right : {G : Grammar} {e : G.Kind → Bool} {f g : Form G.Symbol G.Kind} {ts us : List G.Token} {n : Node G.Token G.Tree} → Most G e f ts n us → Got G e g ts n us → Got G e (f ∣ g) ts n us
got_right a b = record { reads = read_right b.reads; most = most_or a b.most }

pub broke_left : {G : Grammar} {e : G.Kind → Bool} {f g : Form G.Symbol G.Kind} {ts us : List G.Token} → Broke G e f ts us → Lags G e g ts us → Broke G e (f ∣ g) ts us
broke_left a b = record { front = front_left a.front; lags = lags_or a.lags b }

pub broke_right : {G : Grammar} {e : G.Kind → Bool} {f g : Form G.Symbol G.Kind} {ts us : List G.Token} → Lags G e f ts us → Broke G e g ts us → Broke G e (f ∣ g) ts us
broke_right a b = record { front = front_right b.front; lags = lags_or a b.lags }

pub got_many : {G : Grammar} {e : G.Kind → Bool} {f : Form G.Symbol G.Kind} {ts us : List G.Token} {n : Node G.Token G.Tree} → Got G e ((f ⨾ many f) ∣ nothing) ts n us → Got G e (many f) ts n us
got_many a = record { reads = read_many a.reads; most = most_many a.most }

pub broke_many : {G : Grammar} {e : G.Kind → Bool} {f : Form G.Symbol G.Kind} {ts us : List G.Token} → Broke G e ((f ⨾ many f) ∣ nothing) ts us → Broke G e (many f) ts us
broke_many a = record { front = front_many a.front; lags = lags_many a.lags }
