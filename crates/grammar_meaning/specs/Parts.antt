-- The laws as readers use them: choice by the next token, optional parts, repeated parts, loops.
use Rattle.std.specs.Prelude.{Bool, false, IsTrue, List, [], ◌∷◌, ◌≡◌, ◌≤◌, length}
use Rattle.std.proofs.Common.{sym, subst, ap, arith, inl, inr}
use Rattle.grammar_meaning.specs.Grammar.{Form, nothing, one, ◌⨾◌, ◌∣◌, many, Node, Nil, Pair, Grammar, Reads, Front, front_empty}
use Rattle.grammar_meaning.specs.Outcome.{Begins, Lags, Got, Broke, implies, nullable, Lookahead, fits, NotBegun}
use Rattle.grammar_meaning.specs.Laws.{reads_le, reads_front}
use Rattle.grammar_meaning.specs.Exact.{got_nothing, lags_nothing, lags_none, lags_near, lags_most, got_left, got_right, broke_left, broke_right, got_then, broke_first, broke_rest, got_many, broke_many, most_wide, lags_wide}

-- a form of which no text begins here, beside one that reads or breaks
pub lags_aside : {G : Grammar} (L : Lookahead G) {e : G.Kind → Bool} {g : Form G.Symbol G.Kind} {ts us : List G.Token}
    → IsTrue (implies (nullable L.empty g) false) → NotBegun G L g ts → length us ≤ length ts → Lags G e g ts us
lags_aside L k h s = lags_near (lags_none L k h) s

pub got_left_only : {G : Grammar} (L : Lookahead G) {e : G.Kind → Bool} {f g : Form G.Symbol G.Kind} {ts us : List G.Token} {n : Node G.Token G.Tree}
    → IsTrue (implies (nullable L.empty g) false) → NotBegun G L g ts → Got G e f ts n us → Got G e (f ∣ g) ts n us
got_left_only {G = G} L {f = f} {ts = ts} {us = us} {n = n} k h a = got_left a (lags_most (lags_aside L k h (reads_le G f ts us n a.reads)))

pub got_right_only : {G : Grammar} (L : Lookahead G) {e : G.Kind → Bool} {f g : Form G.Symbol G.Kind} {ts us : List G.Token} {n : Node G.Token G.Tree}
    → IsTrue (implies (nullable L.empty f) false) → NotBegun G L f ts → Got G e g ts n us → Got G e (f ∣ g) ts n us
got_right_only {G = G} L {g = g} {ts = ts} {us = us} {n = n} k h a = got_right (lags_most (lags_aside L k h (reads_le G g ts us n a.reads))) a

pub broke_left_only : {G : Grammar} (L : Lookahead G) {e : G.Kind → Bool} {f g : Form G.Symbol G.Kind} {ts us : List G.Token}
    → IsTrue (implies (nullable L.empty g) false) → NotBegun G L g ts → Broke G e f ts us → Broke G e (f ∣ g) ts us
broke_left_only L {ts = ts} k h a = broke_left a (lags_aside L k h (a.lags.within ts front_empty))

pub broke_right_only : {G : Grammar} (L : Lookahead G) {e : G.Kind → Bool} {f g : Form G.Symbol G.Kind} {ts us : List G.Token}
    → IsTrue (implies (nullable L.empty f) false) → NotBegun G L f ts → Broke G e g ts us → Broke G e (f ∣ g) ts us
broke_right_only L {ts = ts} k h a = broke_right (lags_aside L k h (a.lags.within ts front_empty)) a

-- optional parts
pub got_some : {G : Grammar} {e : G.Kind → Bool} {f : Form G.Symbol G.Kind} {ts us : List G.Token} {n : Node G.Token G.Tree}
    → Begins G e ts → Got G e f ts n us → Got G e (f ∣ nothing) ts n us
got_some {G = G} {f = f} {ts = ts} {us = us} {n = n} b a = got_left a (lags_most (lags_nothing b (reads_le G f ts us n a.reads)))

pub broke_some : {G : Grammar} {e : G.Kind → Bool} {f : Form G.Symbol G.Kind} {ts us : List G.Token} → Begins G e ts → Broke G e f ts us → Broke G e (f ∣ nothing) ts us
broke_some {ts = ts} b a = broke_left a (lags_nothing b (a.lags.within ts front_empty))

pub got_skip : {G : Grammar} (L : Lookahead G) (e : G.Kind → Bool) {f : Form G.Symbol G.Kind} {ts : List G.Token}
    → IsTrue (implies (nullable L.empty f) false) → NotBegun G L f ts → Got G e (f ∣ nothing) ts Nil ts
got_skip L e {ts = ts} k h = got_right_only L k h (got_nothing e ts)

-- repeated parts
pub got_more : {G : Grammar} (L : Lookahead G) {e d : G.Kind → Bool} {f : Form G.Symbol G.Kind} {ts us vs : List G.Token} {n m : Node G.Token G.Tree}
    → IsTrue (fits G L e d (many f)) → Begins G d ts → Got G e f ts n us → Got G d (many f) us m vs → Got G d (many f) ts (Pair n m) vs
got_more L h b x y = got_many (got_some b (got_then L h x y))

pub got_end : {G : Grammar} (L : Lookahead G) (e : G.Kind → Bool) {f : Form G.Symbol G.Kind} {ts : List G.Token}
    → IsTrue (implies (nullable L.empty (f ⨾ many f)) false) → NotBegun G L (f ⨾ many f) ts → Got G e (many f) ts Nil ts
got_end L e k h = got_many (got_skip L e k h)

pub broke_now : {G : Grammar} (L : Lookahead G) {e d : G.Kind → Bool} {f : Form G.Symbol G.Kind} {ts us : List G.Token}
    → IsTrue (fits G L e d (many f)) → Begins G d ts → Broke G e f ts us → Broke G d (many f) ts us
broke_now L h b x = broke_many (broke_some b (broke_first L h x))

pub broke_later : {G : Grammar} (L : Lookahead G) {e d : G.Kind → Bool} {f : Form G.Symbol G.Kind} {ts us vs : List G.Token} {n : Node G.Token G.Tree}
    → IsTrue (fits G L e d (many f)) → Begins G d ts → Got G e f ts n us → Broke G d (many f) us vs → Broke G d (many f) ts vs
broke_later L h b x y = broke_many (broke_some b (broke_rest L h x y))

-- a loop over parts of f stands at us, within a text of g from ts on: what the rest of the loop reads makes the whole
pub record Along (G : Grammar) (d : G.Kind → Bool) (f : Form G.Symbol G.Kind) (e : G.Kind → Bool) (g : Form G.Symbol G.Kind) (ts : List G.Token) (tree : Node G.Token G.Tree → Node G.Token G.Tree) (us : List G.Token) : Type 0 where
  pub more : (m : Node G.Token G.Tree) (vs : List G.Token) → Got G d (many f) us m vs → Got G e g ts (tree m) vs
  pub stop : (vs : List G.Token) → Broke G d (many f) us vs → Broke G e g ts vs

pub along_step : {G : Grammar} (L : Lookahead G) {c d e : G.Kind → Bool} {f g : Form G.Symbol G.Kind} {ts us vs : List G.Token} {n : Node G.Token G.Tree} {tree : Node G.Token G.Tree → Node G.Token G.Tree} (tree' : Node G.Token G.Tree → Node G.Token G.Tree)
    → IsTrue (fits G L c d (many f)) → ((m : Node G.Token G.Tree) → tree (Pair n m) ≡ tree' m) → Begins G d us → Along G d f e g ts tree us → Got G c f us n vs → Along G d f e g ts tree' vs
along_step {G = G} L {e = e} {g = g} {ts = ts} {n = n} tree' h same b a x = record {
  more = λ m ws r. subst (λ (z : Node G.Token G.Tree). Got G e g ts z ws) (same m) (a.more (Pair n m) ws (got_more L h b x r));
  stop = λ ws r. a.stop ws (broke_later L h b x r);
}

pub along_end : {G : Grammar} (L : Lookahead G) {d e : G.Kind → Bool} {f g : Form G.Symbol G.Kind} {ts us : List G.Token} {tree : Node G.Token G.Tree → Node G.Token G.Tree}
    → IsTrue (implies (nullable L.empty (f ⨾ many f)) false) → NotBegun G L (f ⨾ many f) us → Along G d f e g ts tree us → Got G e g ts (tree Nil) us
along_end L {d = d} {us = us} k h a = a.more Nil us (got_end L d k h)

pub along_stop : {G : Grammar} (L : Lookahead G) {c d e : G.Kind → Bool} {f g : Form G.Symbol G.Kind} {ts us vs : List G.Token} {tree : Node G.Token G.Tree → Node G.Token G.Tree}
    → IsTrue (fits G L c d (many f)) → Begins G d us → Along G d f e g ts tree us → Broke G c f us vs → Broke G e g ts vs
along_stop L {vs = vs} h b a x = a.stop vs (broke_now L h b x)

-- a larger set of tokens that may follow a shorter text
pub got_wide : {G : Grammar} (L : Lookahead G) {e d : G.Kind → Bool} {f : Form G.Symbol G.Kind} {ts us : List G.Token} {n : Node G.Token G.Tree}
    → IsTrue (L.every (λ k. implies (e k) (d k))) → Got G e f ts n us → Got G d f ts n us
got_wide L h a = record { reads = a.reads; most = most_wide L h a.most }

pub broke_wide : {G : Grammar} (L : Lookahead G) {e d : G.Kind → Bool} {f : Form G.Symbol G.Kind} {ts us : List G.Token}
    → IsTrue (L.every (λ k. implies (e k) (d k))) → Broke G e f ts us → Broke G d f ts us
broke_wide L h a = record { front = a.front; lags = lags_wide L h a.lags }

-- the whole text: what is read to the end is the one reading, and a place that breaks is the first one
pub one_tree : {G : Grammar} {e : G.Kind → Bool} {f : Form G.Symbol G.Kind} {ts : List G.Token} {n : Node G.Token G.Tree} → Got G e f ts n [] → (m : Node G.Token G.Tree) → Reads G f ts m [] → m ≡ n
one_tree a m r = elim (a.most.only m [] r) [ inl k ↦ k.0 | inr k ↦ absurd k ]

-- the tokens before us begin a text; with the next one, or with the end, they begin and are none
pub record BreaksFirst (G : Grammar) (f : Form G.Symbol G.Kind) (ts us : List G.Token) : Type 0 where
  pub before : Front G f ts us
  pub with_it : (t : G.Token) (vs : List G.Token) → us ≡ t ∷ vs → Front G f ts vs → ⊥
  pub no_text : (n : Node G.Token G.Tree) → Reads G f ts n [] → ⊥

no_further : {G : Grammar} {f : Form G.Symbol G.Kind} {ts us : List G.Token} → ((ws : List G.Token) → Front G f ts ws → length us ≤ length ws) → (t : G.Token) (vs : List G.Token) → us ≡ t ∷ vs → Front G f ts vs → ⊥
no_further {us = us} w t vs is r = let i = w vs r in let j = ap length is in omega arith

pub broke_whole : {G : Grammar} {e : G.Kind → Bool} {f : Form G.Symbol G.Kind} {ts us : List G.Token} → Broke G e f ts us → BreaksFirst G f ts us
broke_whole a = record { before = a.front; with_it = no_further a.lags.within; no_text = λ n r. a.lags.only n [] r }

pub got_whole : {G : Grammar} {e : G.Kind → Bool} {f : Form G.Symbol G.Kind} {ts us : List G.Token} {n : Node G.Token G.Tree} → Got G e f ts n us → (us ≡ [] → ⊥) → BreaksFirst G f ts us
got_whole {G = G} {f = f} {ts = ts} {us = us} {n = n} a h = record {
  before = reads_front G f ts us n a.reads;
  with_it = no_further a.most.within;
  no_text = λ m r. elim (a.most.only m [] r) [ inl k ↦ h (sym k.1) | inr k ↦ k ];
}
