-- From the fault of a part to that of the whole: where the part is broken, there is the whole, and the part's fronts make fronts of the whole.
use Rattle.std.specs.Prelude.{Bool, false, IsTrue, List, ◌≡◌}
use Rattle.std.proofs.Common.{subst}
use Rattle.grammar_meaning.specs.Grammar.{Form, nothing, call, ◌⨾◌, ◌∣◌, many, Node, Nil, Pair, Grammar, Front, front_rule, front_first, front_rest, front_left, front_right, front_many}
use Rattle.grammar_meaning.specs.Outcome.{Begins, Got, Broke, implies, nullable, Lookahead, fits, NotBegun}
use Rattle.grammar_meaning.specs.Exact.{broke_call, broke_first, broke_rest}
use Rattle.grammar_meaning.specs.Parts.{broke_left_only, broke_right_only, broke_some, broke_now, broke_later, broke_wide, got_more, got_end}

-- f from us on is a part of g from ts on
pub record Path (G : Grammar) (e : G.Kind → Bool) (f : Form G.Symbol G.Kind) (us : List G.Token) (d : G.Kind → Bool) (g : Form G.Symbol G.Kind) (ts : List G.Token) : Type 0 where
  pub breaks : (vs : List G.Token) → Broke G e f us vs → Broke G d g ts vs
  pub fronts : (vs : List G.Token) → Front G f us vs → Front G g ts vs

pub here : {G : Grammar} {e : G.Kind → Bool} {f : Form G.Symbol G.Kind} {ts : List G.Token} → Path G e f ts e f ts
here = record { breaks = λ vs b. b; fronts = λ vs r. r }

pub in_call : {G : Grammar} {x e : G.Kind → Bool} {h : Form G.Symbol G.Kind} (s : G.Symbol) {ts us : List G.Token}
    → Path G x h us e (G.rule s) ts → Path G x h us e (call s) ts
in_call s p = record { breaks = λ vs b. broke_call s (p.breaks vs b); fronts = λ vs r. front_rule (p.fronts vs r) }

pub in_first : {G : Grammar} (L : Lookahead G) {x e d : G.Kind → Bool} {h f g : Form G.Symbol G.Kind} {ts us : List G.Token}
    → IsTrue (fits G L e d g) → Path G x h us e f ts → Path G x h us d (f ⨾ g) ts
in_first L k p = record { breaks = λ vs b. broke_first L k (p.breaks vs b); fronts = λ vs r. front_first (p.fronts vs r) }

pub in_rest : {G : Grammar} (L : Lookahead G) {x e d : G.Kind → Bool} {h f g : Form G.Symbol G.Kind} {ts us ws : List G.Token} {n : Node G.Token G.Tree}
    → IsTrue (fits G L e d g) → Got G e f ts n ws → Path G x h us d g ws → Path G x h us d (f ⨾ g) ts
in_rest L k a p = record { breaks = λ vs b. broke_rest L k a (p.breaks vs b); fronts = λ vs r. front_rest a.reads (p.fronts vs r) }

pub in_left : {G : Grammar} (L : Lookahead G) {x e : G.Kind → Bool} {h f g : Form G.Symbol G.Kind} {ts us : List G.Token}
    → IsTrue (implies (nullable L.empty g) false) → NotBegun G L g ts → Path G x h us e f ts → Path G x h us e (f ∣ g) ts
in_left L k j p = record { breaks = λ vs b. broke_left_only L k j (p.breaks vs b); fronts = λ vs r. front_left (p.fronts vs r) }

pub in_right : {G : Grammar} (L : Lookahead G) {x e : G.Kind → Bool} {h f g : Form G.Symbol G.Kind} {ts us : List G.Token}
    → IsTrue (implies (nullable L.empty f) false) → NotBegun G L f ts → Path G x h us e g ts → Path G x h us e (f ∣ g) ts
in_right L k j p = record { breaks = λ vs b. broke_right_only L k j (p.breaks vs b); fronts = λ vs r. front_right (p.fronts vs r) }

pub in_some : {G : Grammar} {x e : G.Kind → Bool} {h f : Form G.Symbol G.Kind} {ts us : List G.Token}
    → Begins G e ts → Path G x h us e f ts → Path G x h us e (f ∣ nothing) ts
in_some b p = record { breaks = λ vs r. broke_some b (p.breaks vs r); fronts = λ vs r. front_left (p.fronts vs r) }

-- a larger set of tokens that may follow a shorter text
pub in_wide : {G : Grammar} (L : Lookahead G) {x e d : G.Kind → Bool} {h f : Form G.Symbol G.Kind} {ts us : List G.Token}
    → IsTrue (L.every (λ k. implies (e k) (d k))) → Path G x h us e f ts → Path G x h us d f ts
in_wide L k p = record { breaks = λ vs b. broke_wide L k (p.breaks vs b); fronts = p.fronts }

-- the first of repeated parts
pub in_now : {G : Grammar} (L : Lookahead G) {x e d : G.Kind → Bool} {h f : Form G.Symbol G.Kind} {ts us : List G.Token}
    → IsTrue (fits G L e d (many f)) → Begins G d ts → Path G x h us e f ts → Path G x h us d (many f) ts
in_now L k b p = record { breaks = λ vs r. broke_now L k b (p.breaks vs r); fronts = λ vs r. front_many (front_left (front_first (p.fronts vs r))) }

-- a later one
pub in_later : {G : Grammar} (L : Lookahead G) {x e d : G.Kind → Bool} {h f : Form G.Symbol G.Kind} {ts us ws : List G.Token} {n : Node G.Token G.Tree}
    → IsTrue (fits G L e d (many f)) → Begins G d ts → Got G e f ts n ws → Path G x h us d (many f) ws → Path G x h us d (many f) ts
in_later L k b a p = record { breaks = λ vs r. broke_later L k b a (p.breaks vs r); fronts = λ vs r. front_many (front_left (front_rest a.reads (p.fronts vs r))) }

-- a loop over parts of f stands at us, within a text of g from ts on: what the rest of the loop reads makes the whole
pub record Loop (G : Grammar) (d : G.Kind → Bool) (f : Form G.Symbol G.Kind) (e : G.Kind → Bool) (g : Form G.Symbol G.Kind) (ts : List G.Token) (tree : Node G.Token G.Tree → Node G.Token G.Tree) (us : List G.Token) : Type 0 where
  pub more : (m : Node G.Token G.Tree) (vs : List G.Token) → Got G d (many f) us m vs → Got G e g ts (tree m) vs
  pub path : Path G d (many f) us e g ts

joined : {G : Grammar} {x e d : G.Kind → Bool} {h f g : Form G.Symbol G.Kind} {ts us ws : List G.Token} → Path G x h us e f ws → Path G e f ws d g ts → Path G x h us d g ts
joined p q = record { breaks = λ vs b. q.breaks vs (p.breaks vs b); fronts = λ vs r. q.fronts vs (p.fronts vs r) }

pub loop_step : {G : Grammar} (L : Lookahead G) {c d e : G.Kind → Bool} {f g : Form G.Symbol G.Kind} {ts us vs : List G.Token} {n : Node G.Token G.Tree} {tree : Node G.Token G.Tree → Node G.Token G.Tree} (tree' : Node G.Token G.Tree → Node G.Token G.Tree)
    → IsTrue (fits G L c d (many f)) → ((m : Node G.Token G.Tree) → tree (Pair n m) ≡ tree' m) → Begins G d us → Loop G d f e g ts tree us → Got G c f us n vs → Loop G d f e g ts tree' vs
loop_step {G = G} L {e = e} {g = g} {ts = ts} {n = n} tree' h same b a x = record {
  more = λ m ws r. subst (λ (z : Node G.Token G.Tree). Got G e g ts z ws) (same m) (a.more (Pair n m) ws (got_more L h b x r));
  path = joined (in_later L h b x here) a.path;
}

pub loop_end : {G : Grammar} (L : Lookahead G) {d e : G.Kind → Bool} {f g : Form G.Symbol G.Kind} {ts us : List G.Token} {tree : Node G.Token G.Tree → Node G.Token G.Tree}
    → IsTrue (implies (nullable L.empty (f ⨾ many f)) false) → NotBegun G L (f ⨾ many f) us → Loop G d f e g ts tree us → Got G e g ts (tree Nil) us
loop_end L {d = d} {us = us} k h a = a.more Nil us (got_end L d k h)

-- the next part of the loop
pub in_loop : {G : Grammar} (L : Lookahead G) {x c d e : G.Kind → Bool} {h f g : Form G.Symbol G.Kind} {ts us ws : List G.Token} {tree : Node G.Token G.Tree → Node G.Token G.Tree}
    → IsTrue (fits G L c d (many f)) → Begins G d us → Loop G d f e g ts tree us → Path G x h ws c f us → Path G x h ws e g ts
in_loop L k b a p = joined (in_now L k b p) a.path
