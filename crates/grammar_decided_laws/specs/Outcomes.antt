-- Where the next token decides, what is read is the one reading, and a symbol that is refused breaks the text at its place.
use Rattle.std.specs.Prelude.{Bool, true, false, IsTrue, List, [], ◌∷◌, ◌≡◌, ◌≤◌, ◌<◌, ◌⊎◌, length}
use Rattle.std.proofs.Common.{refl, sym, subst, ap, arith, inl, inr}
use Rattle.grammar_meaning.specs.Grammar.{Form, nothing, one, call, ◌⨾◌, ◌∣◌, many, Node, Nil, Pair, Made, Grammar, Reads, read_nothing, read_one, read_rule, read_both, read_left, read_right, read_many, Front, front_empty, front_rule, front_first, front_rest, front_left, front_right, front_many}
use Rattle.grammar_meaning.specs.Outcome.{Begins, Lags, Got, Broke, or, and, implies, nullable, first, Lookahead, fits, NotBegun}
use Rattle.grammar_meaning.specs.Laws.{or_l, or_r, and_l, and_r, and_both, mp, reads_le, reads_begins, front_begins, begins_mono}
use Rattle.grammar_meaning.specs.Exact.{got_one, got_nothing, got_call, broke_call, got_then, broke_first, broke_rest, got_left, got_right, broke_left, broke_right, lags_most, broke_none}
use Rattle.grammar_meaning.specs.Parts.{got_more, got_end, broke_now, broke_later}
use Rattle.grammar_path_laws.specs.Ends.{Ends, ends_here, ends_later, reads_ends, reads_shorter}
use Rattle.grammar_decided_laws.specs.Decided.{goes_on, is_apart, is_decided, with_rules, refuses_all, Decided, look, look_less}

-- the first token is of none of the kinds
abbrev pub Past : (G : Grammar) → (G.Kind → Bool) → List G.Token → Type 0
Past G e [] = Unit {0}
Past G e (t ∷ ts) = IsTrue (implies (e (G.kind t)) false)

no_more : (a b : Bool) → (IsTrue a → IsTrue b) → IsTrue (implies b false) → IsTrue (implies a false)
no_more true b f h = absurd (by b (f refl) h)
  where
    by : (b : Bool) → IsTrue b → IsTrue (implies b false) → ⊥
    by true k h = cc
    by false k h = cc
no_more false b f h = refl

not_so : (a : Bool) → IsTrue (implies a false) → IsTrue a → ⊥
not_so true h k = cc
not_so false h k = cc

implied : (a b : Bool) → (IsTrue a → IsTrue b) → IsTrue (implies a b)
implied true b f = f refl
implied false b f = refl

past_fewer : (G : Grammar) (e d : G.Kind → Bool) (ts : List G.Token) → ((k : G.Kind) → IsTrue (d k) → IsTrue (e k)) → Past G e ts → Past G d ts
past_fewer G e d [] f h = tt
past_fewer G e d (t ∷ ts) f h = no_more (d (G.kind t)) (e (G.kind t)) (f (G.kind t)) h

-- behind a token of the second test none of the first goes on
past_apart : (G : Grammar) (every : (G.Kind → Bool) → Bool) (each : (p : G.Kind → Bool) → IsTrue (every p) → (k : G.Kind) → IsTrue (p k)) (p q : G.Kind → Bool) (ts : List G.Token)
    → IsTrue (is_apart every p q) → Begins G q ts → Past G p ts
past_apart G every each p q [] h b = absurd b
past_apart G every each p q (t ∷ ts) h b = by (p (G.kind t)) (q (G.kind t)) (each (λ k. implies (p k) (implies (q k) false)) h (G.kind t)) b
  where
    by : (x y : Bool) → IsTrue (implies x (implies y false)) → IsTrue y → IsTrue (implies x false)
    by true true h b = h
    by true false h b = cc
    by false y h b = refl

-- a text of a form that doesn't read the empty one has some tokens
pub reads_some : (G : Grammar) (L : Lookahead G) (f : Form G.Symbol G.Kind) (ts us : List G.Token) (n : Node G.Token G.Tree) → Reads G f ts n us → IsTrue (nullable L.empty f) ⊎ (length us < length ts)
reads_some G L f ts us n read_nothing = inl refl
reads_some G L f ts us n (read_one h) = inr (omega arith)
reads_some G L f ts us n (read_rule {s = s} {n = m} r) = elim (reads_some G L (G.rule s) ts us m r) [ inl h ↦ inl (mp (nullable L.empty (G.rule s)) (L.empty s) (L.empty_right s) h) | inr h ↦ inr h ]
reads_some G L f ts us n (read_both {f = f'} {g = g} {us = ws} {n = m} {m = m'} a b) =
    elim (reads_some G L f' ts ws m a) [
      | inl h ↦ elim (reads_some G L g ws us m' b) [
        | inl k ↦ inl (and_both (nullable L.empty f') (nullable L.empty g) h k)
        | inr k ↦ let i = reads_le G f' ts ws m a in inr (omega arith)
      ]
      | inr h ↦ let i = reads_le G g ws us m' b in inr (omega arith)
    ]
reads_some G L f ts us n (read_left {f = f'} {g = g} a) = elim (reads_some G L f' ts us n a) [ inl h ↦ inl (or_l (nullable L.empty f') (nullable L.empty g) h) | inr h ↦ inr h ]
reads_some G L f ts us n (read_right {f = f'} {g = g} a) = elim (reads_some G L g ts us n a) [ inl h ↦ inl (or_r (nullable L.empty f') (nullable L.empty g) h) | inr h ↦ inr h ]
reads_some G L f ts us n (read_many a) = inl refl

-- more tokens that may stand behind a shorter text
got_wider : {G : Grammar} {e d : G.Kind → Bool} {f : Form G.Symbol G.Kind} {ts us : List G.Token} {n : Node G.Token G.Tree} → ((k : G.Kind) → IsTrue (e k) → IsTrue (d k)) → Got G e f ts n us → Got G d f ts n us
got_wider {G = G} {e = e} {d = d} h a = record { reads = a.reads; most = record { only = λ m ws r. elim (a.most.only m ws r) [ inl k ↦ inl k | inr k ↦ inr (begins_mono G e d ws h k) ]; within = a.most.within } }

broke_wider : {G : Grammar} {e d : G.Kind → Bool} {f : Form G.Symbol G.Kind} {ts us : List G.Token} → ((k : G.Kind) → IsTrue (e k) → IsTrue (d k)) → Broke G e f ts us → Broke G d f ts us
broke_wider {G = G} {e = e} {d = d} h a = record { front = a.front; lags = record { only = λ m ws r. begins_mono G e d ws h (a.lags.only m ws r); within = a.lags.within } }

-- where no text of the form begins, it reads the empty one at most, and has the empty front alone
idle_reads : (G : Grammar) (L : Lookahead G) (f : Form G.Symbol G.Kind) (ts us : List G.Token) (n : Node G.Token G.Tree) → NotBegun G L f ts → Reads G f ts n us → IsTrue (nullable L.empty f) × (us ≡ ts)
idle_reads G L f [] us n h r = elim (reads_begins G L f [] us n r) [ inl k ↦ k | inr k ↦ absurd k ]
idle_reads G L f (t ∷ ts) us n h r = elim (reads_begins G L f (t ∷ ts) us n r) [ inl k ↦ k | inr k ↦ absurd (not_so (first L.empty L.begins f (G.kind t)) h k) ]

idle_front : (G : Grammar) (L : Lookahead G) (f : Form G.Symbol G.Kind) (ts us : List G.Token) → NotBegun G L f ts → Front G f ts us → us ≡ ts
idle_front G L f [] us h r = elim (front_begins G L f [] us r) [ inl k ↦ k | inr k ↦ absurd k ]
idle_front G L f (t ∷ ts) us h r = elim (front_begins G L f (t ∷ ts) us r) [ inl k ↦ k | inr k ↦ absurd (not_so (first L.empty L.begins f (G.kind t)) h k) ]

lags_idle : {G : Grammar} (L : Lookahead G) {e : G.Kind → Bool} {f : Form G.Symbol G.Kind} {ts us : List G.Token}
    → NotBegun G L f ts → (IsTrue (nullable L.empty f) → Begins G e ts) → length us ≤ length ts → Lags G e f ts us
lags_idle {G = G} L {e = e} {f = f} {ts = ts} {us = us} h b le = record {
  only = λ m ws r. let i = idle_reads G L f ts ws m h r in subst (λ (l : List G.Token). Begins G e l) (sym i.1) (b i.0);
  within = λ ws r. let i = ap length (idle_front G L f ts ws h r) in omega arith;
}

past_back : (G : Grammar) (every : (G.Kind → Bool) → Bool) (each : (p : G.Kind → Bool) → IsTrue (every p) → (k : G.Kind) → IsTrue (p k)) (p q : G.Kind → Bool) (ts : List G.Token)
    → IsTrue (is_apart every p q) → Begins G p ts → Past G q ts
past_back G every each p q [] h b = absurd b
past_back G every each p q (t ∷ ts) h b = mp (p (G.kind t)) (implies (q (G.kind t)) false) (each (λ k. implies (p k) (implies (q k) false)) h (G.kind t)) b

-- what goes on with a form, and the test of a form, by the tables
abbrev pub on : {G : Grammar} {r : G.Symbol → Form G.Symbol G.Kind} → Decided G r → Form G.Symbol G.Kind → G.Kind → Bool
on D f = goes_on D.empty D.begins D.after f

abbrev pub Passes : {G : Grammar} {r : G.Symbol → Form G.Symbol G.Kind} → Decided G r → Form G.Symbol G.Kind → Type 0
Passes D f = IsTrue (is_decided D.every D.empty D.begins D.after f)

abbrev pub starts : {G : Grammar} {r : G.Symbol → Form G.Symbol G.Kind} → Decided G r → Form G.Symbol G.Kind → G.Kind → Bool
starts D f = first D.empty D.begins f

-- the part of a choice that isn't read
aside : {G : Grammar} {r : G.Symbol → Form G.Symbol G.Kind} (D : Decided G r) (f g : Form G.Symbol G.Kind) (e : G.Kind → Bool) (ts us vs : List G.Token) (n : Node G.Token G.Tree)
    → (IsTrue (nullable D.empty f) → IsTrue (nullable D.empty g) → ⊥) → (Begins G (starts D f) ts → Past G (starts D g) ts)
    → ((k : G.Kind) → IsTrue (nullable D.empty f) → IsTrue (starts D g k) → IsTrue (e k)) → ((k : G.Kind) → IsTrue (nullable D.empty g) → IsTrue (starts D f k) → IsTrue (e k))
    → Reads G f ts n us → Past G e us → length vs ≤ length ts → Lags (with_rules G r) e g ts vs
aside {G = G} {r = r} D f g e ts us vs n single apart c d reads past le =
    elim (reads_begins G (look D) f ts us n reads) [
      | inl h ↦ lags_idle (look_less D) (past_fewer G e (starts D g) ts (λ k b. c k h.0 b) (subst (λ (l : List G.Token). Past G e l) h.1 past)) (λ z. absurd (single h.0 z)) le
      | inr h ↦ lags_idle (look_less D) (apart h) (λ z. begins_mono G (starts D f) e ts (λ k b. d k z b) h) le
    ]

-- The other rules read what the grammar reads; or they break the text at a token, and the grammar goes on with it.
pub data Step (G : Grammar) (r : G.Symbol → Form G.Symbol G.Kind) (e : G.Kind → Bool) (f : Form G.Symbol G.Kind) (ts : List G.Token) (n : Node G.Token G.Tree) (us : List G.Token) : Type 0 where
  done : Got (with_rules G r) e f ts n us → Step G r e f ts n us
  cuts : (t : G.Token) (vs : List G.Token) → Broke (with_rules G r) e f ts (t ∷ vs) → Front G f ts vs → Step G r e f ts n us

-- symbols
end_behind : {T : Type 0} (t : T) (us vs : List T) → Ends us (t ∷ vs) → length us < length (t ∷ vs) → Ends us vs
end_behind t us vs ends_here h = absurd (omega arith)
end_behind t us vs (ends_later a) h = a

cut_here : {G : Grammar} {r : G.Symbol → Form G.Symbol G.Kind} (D : Decided G r) (s : G.Symbol) (e : G.Kind → Bool) (ts us : List G.Token) (m n : Node G.Token G.Tree)
    → r s ≡ refuses_all → IsTrue (implies (D.empty s) false) → Reads G (call s) ts m us → Step G r e (call s) ts n us
cut_here {G = G} {r = r} D s e ts us m n same some reads = by ts (elim (reads_some G (look D) (call s) ts us m reads) [ inl h ↦ absurd (not_so (D.empty s) some h) | inr h ↦ h ]) reads
  where
    by : (ts : List G.Token) → length us < length ts → Reads G (call s) ts m us → Step G r e (call s) ts n us
    by [] h q = absurd (omega arith)
    by (t ∷ vs) h q =
        cuts t vs
        (broke_call s (subst (λ (f : Form G.Symbol G.Kind). Broke (with_rules G r) e f (t ∷ vs) (t ∷ vs)) (sym same) (broke_none {G = with_rules G r} (look_less D) e {f = refuses_all} {ts = t ∷ vs} refl refl)))
        (reads_shorter G (call s) (t ∷ vs) us vs m q (end_behind t us vs (reads_ends G (call s) (t ∷ vs) us m q) h) (ends_later ends_here))

called : {G : Grammar} {r : G.Symbol → Form G.Symbol G.Kind} (D : Decided G r) (s : G.Symbol) (ts us : List G.Token) (m : Node G.Token G.Tree)
    → Reads G (G.rule s) ts m us → Step G r (on D (G.rule s)) (G.rule s) ts m us → (r s ≡ G.rule s) ⊎ ((r s ≡ refuses_all) × IsTrue (implies (D.empty s) false)) → Step G r (D.after s) (call s) ts (Made (G.build s m)) us
called {G = G} {r = r} D s ts us m q x (inr k) = cut_here D s (D.after s) ts us (Made (G.build s m)) (Made (G.build s m)) k.0 k.1 (read_rule q)
called {G = G} {r = r} D s ts us m q (done a) (inl k) =
    done (got_call {G = with_rules G r} s (subst (λ (f : Form G.Symbol G.Kind). Got (with_rules G r) (D.after s) f ts m us) (sym k) (got_wider (λ j. mp (on D (G.rule s) j) (D.after s j) (D.each (λ i. implies (on D (G.rule s) i) (D.after s i)) (D.after_right s) j)) a)))
called {G = G} {r = r} D s ts us m q (cuts t vs a f) (inl k) =
    cuts t vs
    (broke_call {G = with_rules G r} s (subst (λ (f : Form G.Symbol G.Kind). Broke (with_rules G r) (D.after s) f ts (t ∷ vs)) (sym k) (broke_wider (λ j. mp (on D (G.rule s) j) (D.after s j) (D.each (λ i. implies (on D (G.rule s) i) (D.after s i)) (D.after_right s) j)) a)))
    (front_rule f)

past_rule : {G : Grammar} {r : G.Symbol → Form G.Symbol G.Kind} (D : Decided G r) (s : G.Symbol) (us : List G.Token) → Past G (D.after s) us → Past G (on D (G.rule s)) us
past_rule {G = G} D s us p = past_fewer G (D.after s) (on D (G.rule s)) us (λ j. mp (on D (G.rule s) j) (D.after s j) (D.each (λ i. implies (on D (G.rule s) i) (D.after s i)) (D.after_right s) j)) p

-- sequences
apart_of : {G : Grammar} {r : G.Symbol → Form G.Symbol G.Kind} (D : Decided G r) (f g : Form G.Symbol G.Kind) → Passes D (f ⨾ g) → IsTrue (is_apart D.every (on D f) (starts D g))
apart_of D f g h = and_r (is_decided D.every D.empty D.begins D.after g) (is_apart D.every (on D f) (starts D g)) (and_r (is_decided D.every D.empty D.begins D.after f) (and (is_decided D.every D.empty D.begins D.after g) (is_apart D.every (on D f) (starts D g))) h)

first_passes : {G : Grammar} {r : G.Symbol → Form G.Symbol G.Kind} (D : Decided G r) (f g : Form G.Symbol G.Kind) → Passes D (f ⨾ g) → Passes D f
first_passes D f g h = and_l (is_decided D.every D.empty D.begins D.after f) (and (is_decided D.every D.empty D.begins D.after g) (is_apart D.every (on D f) (starts D g))) h

rest_passes : {G : Grammar} {r : G.Symbol → Form G.Symbol G.Kind} (D : Decided G r) (f g : Form G.Symbol G.Kind) → Passes D (f ⨾ g) → Passes D g
rest_passes D f g h = and_l (is_decided D.every D.empty D.begins D.after g) (is_apart D.every (on D f) (starts D g)) (and_r (is_decided D.every D.empty D.begins D.after f) (and (is_decided D.every D.empty D.begins D.after g) (is_apart D.every (on D f) (starts D g))) h)

through : {G : Grammar} {r : G.Symbol → Form G.Symbol G.Kind} (D : Decided G r) (f g : Form G.Symbol G.Kind) (k : G.Kind) → IsTrue (nullable D.empty g) → IsTrue (on D f k) → IsTrue (on D (f ⨾ g) k)
through D f g k n h =
    or_r (on D g k) (and (nullable D.empty g) (or (starts D g k) (on D f k)))
    (and_both (nullable D.empty g) (or (starts D g k) (on D f k)) n (or_r (starts D g k) (on D f k) h))

rest_on : {G : Grammar} {r : G.Symbol → Form G.Symbol G.Kind} (D : Decided G r) (f g : Form G.Symbol G.Kind) (k : G.Kind) → IsTrue (on D g k) → IsTrue (on D (f ⨾ g) k)
rest_on D f g k h = or_l (on D g k) (and (nullable D.empty g) (or (starts D g k) (on D f k))) h

fits_both : {G : Grammar} {r : G.Symbol → Form G.Symbol G.Kind} (D : Decided G r) (f g : Form G.Symbol G.Kind) → IsTrue (is_apart D.every (on D f) (starts D g)) → IsTrue (fits (with_rules G r) (look_less D) (on D f) (on D (f ⨾ g)) g)
fits_both {G = G} D f g h =
    D.all (λ k. implies (on D f k) (and (implies (starts D g k) false) (implies (nullable D.empty g) (on D (f ⨾ g) k))))
    (λ k. implied (on D f k) (and (implies (starts D g k) false) (implies (nullable D.empty g) (on D (f ⨾ g) k)))
    (λ z. and_both (implies (starts D g k) false) (implies (nullable D.empty g) (on D (f ⨾ g) k))
    (mp (on D f k) (implies (starts D g k) false) (D.each (λ j. implies (on D f j) (implies (starts D g j) false)) h k) z)
    (implied (nullable D.empty g) (on D (f ⨾ g) k) (λ n. through D f g k n z))))

past_between : {G : Grammar} {r : G.Symbol → Form G.Symbol G.Kind} (D : Decided G r) (f g : Form G.Symbol G.Kind) (ws us : List G.Token) (m : Node G.Token G.Tree)
    → Passes D (f ⨾ g) → Past G (on D (f ⨾ g)) us → Reads G g ws m us → Past G (on D f) ws
past_between {G = G} D f g ws us m ok p q =
    elim (reads_begins G (look D) g ws us m q) [
      | inl h ↦ subst (λ (l : List G.Token). Past G (on D f) l) h.1 (past_fewer G (on D (f ⨾ g)) (on D f) us (λ k z. through D f g k h.0 z) p)
      | inr h ↦ past_apart G D.every D.each (on D f) (starts D g) ws (apart_of D f g ok) h
    ]

then_step : {G : Grammar} {r : G.Symbol → Form G.Symbol G.Kind} (D : Decided G r) (f g : Form G.Symbol G.Kind) (ts ws us : List G.Token) (n m : Node G.Token G.Tree)
    → Passes D (f ⨾ g) → Reads G f ts n ws → Step G r (on D f) f ts n ws → Step G r (on D g) g ws m us → Step G r (on D (f ⨾ g)) (f ⨾ g) ts (Pair n m) us
then_step D f g ts ws us n m ok a (cuts t vs k l) y = cuts t vs (broke_first (look_less D) (fits_both D f g (apart_of D f g ok)) k) (front_first l)
then_step D f g ts ws us n m ok a (done x) (cuts t vs k l) = cuts t vs (broke_rest (look_less D) (fits_both D f g (apart_of D f g ok)) x (broke_wider (rest_on D f g) k)) (front_rest a l)
then_step D f g ts ws us n m ok a (done x) (done y) = done (got_then (look_less D) (fits_both D f g (apart_of D f g ok)) x (got_wider (rest_on D f g) y))

-- choices
abbrev split : {G : Grammar} {r : G.Symbol → Form G.Symbol G.Kind} → Decided G r → Form G.Symbol G.Kind → Form G.Symbol G.Kind → Bool
split D f g = and (implies (nullable D.empty f) (implies (nullable D.empty g) false)) (is_apart D.every (starts D f) (starts D g))

split_of : {G : Grammar} {r : G.Symbol → Form G.Symbol G.Kind} (D : Decided G r) (f g : Form G.Symbol G.Kind) → Passes D (f ∣ g) → IsTrue (split D f g)
split_of D f g h = and_r (is_decided D.every D.empty D.begins D.after g) (split D f g) (and_r (is_decided D.every D.empty D.begins D.after f) (and (is_decided D.every D.empty D.begins D.after g) (split D f g)) h)

left_passes : {G : Grammar} {r : G.Symbol → Form G.Symbol G.Kind} (D : Decided G r) (f g : Form G.Symbol G.Kind) → Passes D (f ∣ g) → Passes D f
left_passes D f g h = and_l (is_decided D.every D.empty D.begins D.after f) (and (is_decided D.every D.empty D.begins D.after g) (split D f g)) h

right_passes : {G : Grammar} {r : G.Symbol → Form G.Symbol G.Kind} (D : Decided G r) (f g : Form G.Symbol G.Kind) → Passes D (f ∣ g) → Passes D g
right_passes D f g h = and_l (is_decided D.every D.empty D.begins D.after g) (split D f g) (and_r (is_decided D.every D.empty D.begins D.after f) (and (is_decided D.every D.empty D.begins D.after g) (split D f g)) h)

one_empty : (a b : Bool) → IsTrue (implies a (implies b false)) → IsTrue a → IsTrue b → ⊥
one_empty a b h x y = not_so b (mp a (implies b false) h x) y

choice_apart : {G : Grammar} {r : G.Symbol → Form G.Symbol G.Kind} (D : Decided G r) (f g : Form G.Symbol G.Kind) → Passes D (f ∣ g) → IsTrue (is_apart D.every (starts D f) (starts D g))
choice_apart D f g h = and_r (implies (nullable D.empty f) (implies (nullable D.empty g) false)) (is_apart D.every (starts D f) (starts D g)) (split_of D f g h)

choice_empty : {G : Grammar} {r : G.Symbol → Form G.Symbol G.Kind} (D : Decided G r) (f g : Form G.Symbol G.Kind) → Passes D (f ∣ g) → IsTrue (nullable D.empty f) → IsTrue (nullable D.empty g) → ⊥
choice_empty D f g h = one_empty (nullable D.empty f) (nullable D.empty g) (and_l (implies (nullable D.empty f) (implies (nullable D.empty g) false)) (is_apart D.every (starts D f) (starts D g)) (split_of D f g h))

left_on : {G : Grammar} {r : G.Symbol → Form G.Symbol G.Kind} (D : Decided G r) (f g : Form G.Symbol G.Kind) (k : G.Kind) → IsTrue (on D f k) → IsTrue (on D (f ∣ g) k)
left_on D f g k h = or_l (or (on D f k) (on D g k)) (or (and (nullable D.empty f) (starts D g k)) (and (nullable D.empty g) (starts D f k))) (or_l (on D f k) (on D g k) h)

right_on : {G : Grammar} {r : G.Symbol → Form G.Symbol G.Kind} (D : Decided G r) (f g : Form G.Symbol G.Kind) (k : G.Kind) → IsTrue (on D g k) → IsTrue (on D (f ∣ g) k)
right_on D f g k h = or_l (or (on D f k) (on D g k)) (or (and (nullable D.empty f) (starts D g k)) (and (nullable D.empty g) (starts D f k))) (or_r (on D f k) (on D g k) h)

over_left : {G : Grammar} {r : G.Symbol → Form G.Symbol G.Kind} (D : Decided G r) (f g : Form G.Symbol G.Kind) (k : G.Kind) → IsTrue (nullable D.empty f) → IsTrue (starts D g k) → IsTrue (on D (f ∣ g) k)
over_left D f g k n h =
    or_r (or (on D f k) (on D g k)) (or (and (nullable D.empty f) (starts D g k)) (and (nullable D.empty g) (starts D f k)))
    (or_l (and (nullable D.empty f) (starts D g k)) (and (nullable D.empty g) (starts D f k)) (and_both (nullable D.empty f) (starts D g k) n h))

over_right : {G : Grammar} {r : G.Symbol → Form G.Symbol G.Kind} (D : Decided G r) (f g : Form G.Symbol G.Kind) (k : G.Kind) → IsTrue (nullable D.empty g) → IsTrue (starts D f k) → IsTrue (on D (f ∣ g) k)
over_right D f g k n h =
    or_r (or (on D f k) (on D g k)) (or (and (nullable D.empty f) (starts D g k)) (and (nullable D.empty g) (starts D f k)))
    (or_r (and (nullable D.empty f) (starts D g k)) (and (nullable D.empty g) (starts D f k)) (and_both (nullable D.empty g) (starts D f k) n h))

left_aside : {G : Grammar} {r : G.Symbol → Form G.Symbol G.Kind} (D : Decided G r) (f g : Form G.Symbol G.Kind) (ts us vs : List G.Token) (n : Node G.Token G.Tree)
    → Passes D (f ∣ g) → Past G (on D (f ∣ g)) us → Reads G f ts n us → length vs ≤ length ts → Lags (with_rules G r) (on D (f ∣ g)) g ts vs
left_aside {G = G} D f g ts us vs n ok p a le =
    aside D f g (on D (f ∣ g)) ts us vs n (choice_empty D f g ok) (past_back G D.every D.each (starts D f) (starts D g) ts (choice_apart D f g ok)) (over_left D f g) (over_right D f g) a p le

right_aside : {G : Grammar} {r : G.Symbol → Form G.Symbol G.Kind} (D : Decided G r) (f g : Form G.Symbol G.Kind) (ts us vs : List G.Token) (n : Node G.Token G.Tree)
    → Passes D (f ∣ g) → Past G (on D (f ∣ g)) us → Reads G g ts n us → length vs ≤ length ts → Lags (with_rules G r) (on D (f ∣ g)) f ts vs
right_aside {G = G} D f g ts us vs n ok p a le =
    aside D g f (on D (f ∣ g)) ts us vs n (λ x y. choice_empty D f g ok y x) (past_apart G D.every D.each (starts D f) (starts D g) ts (choice_apart D f g ok)) (over_right D f g) (over_left D f g) a p le

left_step : {G : Grammar} {r : G.Symbol → Form G.Symbol G.Kind} (D : Decided G r) (f g : Form G.Symbol G.Kind) (ts us : List G.Token) (n : Node G.Token G.Tree)
    → Passes D (f ∣ g) → Past G (on D (f ∣ g)) us → Reads G f ts n us → Step G r (on D f) f ts n us → Step G r (on D (f ∣ g)) (f ∣ g) ts n us
left_step {G = G} D f g ts us n ok p a (done x) = done (got_left (got_wider (left_on D f g) x) (lags_most (left_aside D f g ts us us n ok p a (reads_le G f ts us n a))))
left_step D f g ts us n ok p a (cuts t vs k l) = cuts t vs (broke_left (broke_wider (left_on D f g) k) (left_aside D f g ts us (t ∷ vs) n ok p a (k.lags.within ts front_empty))) (front_left l)

right_step : {G : Grammar} {r : G.Symbol → Form G.Symbol G.Kind} (D : Decided G r) (f g : Form G.Symbol G.Kind) (ts us : List G.Token) (n : Node G.Token G.Tree)
    → Passes D (f ∣ g) → Past G (on D (f ∣ g)) us → Reads G g ts n us → Step G r (on D g) g ts n us → Step G r (on D (f ∣ g)) (f ∣ g) ts n us
right_step {G = G} D f g ts us n ok p a (done x) = done (got_right (lags_most (right_aside D f g ts us us n ok p a (reads_le G g ts us n a))) (got_wider (right_on D f g) x))
right_step D f g ts us n ok p a (cuts t vs k l) = cuts t vs (broke_right (right_aside D f g ts us (t ∷ vs) n ok p a (k.lags.within ts front_empty)) (broke_wider (right_on D f g) k)) (front_right l)

-- repeated parts
abbrev repeats : {G : Grammar} {r : G.Symbol → Form G.Symbol G.Kind} → Decided G r → Form G.Symbol G.Kind → Bool
repeats D f = and (implies (nullable D.empty f) false) (is_apart D.every (on D f) (starts D f))

part_passes : {G : Grammar} {r : G.Symbol → Form G.Symbol G.Kind} (D : Decided G r) (f : Form G.Symbol G.Kind) → Passes D (many f) → Passes D f
part_passes D f h = and_l (is_decided D.every D.empty D.begins D.after f) (repeats D f) h

part_some : {G : Grammar} {r : G.Symbol → Form G.Symbol G.Kind} (D : Decided G r) (f : Form G.Symbol G.Kind) → Passes D (many f) → IsTrue (implies (nullable D.empty f) false)
part_some D f h = and_l (implies (nullable D.empty f) false) (is_apart D.every (on D f) (starts D f)) (and_r (is_decided D.every D.empty D.begins D.after f) (repeats D f) h)

part_apart : {G : Grammar} {r : G.Symbol → Form G.Symbol G.Kind} (D : Decided G r) (f : Form G.Symbol G.Kind) → Passes D (many f) → IsTrue (is_apart D.every (on D f) (starts D f))
part_apart D f h = and_r (implies (nullable D.empty f) false) (is_apart D.every (on D f) (starts D f)) (and_r (is_decided D.every D.empty D.begins D.after f) (repeats D f) h)

fits_more : {G : Grammar} {r : G.Symbol → Form G.Symbol G.Kind} (D : Decided G r) (f : Form G.Symbol G.Kind) → Passes D (many f) → IsTrue (fits (with_rules G r) (look_less D) (on D f) (on D (many f)) (many f))
fits_more D f ok =
    D.all (λ k. implies (on D f k) (and (implies (starts D f k) false) (on D (many f) k)))
    (λ k. implied (on D f k) (and (implies (starts D f k) false) (on D (many f) k))
    (λ z. and_both (implies (starts D f k) false) (on D (many f) k)
    (mp (on D f k) (implies (starts D f k) false) (D.each (λ j. implies (on D f j) (implies (starts D f j) false)) (part_apart D f ok) k) z) (or_l (on D f k) (starts D f k) z)))

past_part : {G : Grammar} {r : G.Symbol → Form G.Symbol G.Kind} (D : Decided G r) (f : Form G.Symbol G.Kind) (ws us : List G.Token) (m : Node G.Token G.Tree)
    → Passes D (many f) → Past G (on D (many f)) us → Reads G (many f) ws m us → Past G (on D f) ws
past_part {G = G} D f ws us m ok p q =
    elim (reads_begins G (look D) (many f) ws us m q) [
      | inl h ↦ subst (λ (l : List G.Token). Past G (on D f) l) h.1 (past_fewer G (on D (many f)) (on D f) us (λ k z. or_l (on D f k) (starts D f k) z) p)
      | inr h ↦ past_apart G D.every D.each (on D f) (starts D f) ws (part_apart D f ok) h
    ]

part_begins : {G : Grammar} {r : G.Symbol → Form G.Symbol G.Kind} (D : Decided G r) (f : Form G.Symbol G.Kind) (ts ws : List G.Token) (n : Node G.Token G.Tree)
    → Passes D (many f) → Reads G f ts n ws → Begins G (on D (many f)) ts
part_begins {G = G} D f ts ws n ok a =
    elim (reads_begins G (look D) f ts ws n a) [
      | inl h ↦ absurd (not_so (nullable D.empty f) (part_some D f ok) h.0)
      | inr h ↦ begins_mono G (starts D f) (on D (many f)) ts (λ k z. or_r (on D f k) (starts D f k) z) h
    ]

more_step : {G : Grammar} {r : G.Symbol → Form G.Symbol G.Kind} (D : Decided G r) (f : Form G.Symbol G.Kind) (ts ws us : List G.Token) (n m : Node G.Token G.Tree)
    → Passes D (many f) → Reads G f ts n ws → Step G r (on D f) f ts n ws → Step G r (on D (many f)) (many f) ws m us → Step G r (on D (many f)) (many f) ts (Pair n m) us
more_step D f ts ws us n m ok a (cuts t vs k l) y = cuts t vs (broke_now (look_less D) (fits_more D f ok) (part_begins D f ts ws n ok a) k) (front_many (front_left (front_first l)))
more_step D f ts ws us n m ok a (done x) (cuts t vs k l) = cuts t vs (broke_later (look_less D) (fits_more D f ok) (part_begins D f ts ws n ok a) x k) (front_many (front_left (front_rest a l)))
more_step D f ts ws us n m ok a (done x) (done y) = done (got_more (look_less D) (fits_more D f ok) (part_begins D f ts ws n ok a) x y)

none_more : (a b : Bool) → IsTrue (implies a false) → IsTrue (or b (and a b)) → IsTrue b
none_more true b h k = cc
none_more false true h k = refl
none_more false false h k = k

some_more : (a : Bool) → IsTrue (implies a false) → IsTrue (implies (and a true) false)
some_more true h = h
some_more false h = refl

end_step : {G : Grammar} {r : G.Symbol → Form G.Symbol G.Kind} (D : Decided G r) (f : Form G.Symbol G.Kind) (ts : List G.Token) → Passes D (many f) → Past G (on D (many f)) ts → Step G r (on D (many f)) (many f) ts Nil ts
end_step {G = G} D f ts ok p =
    done (got_end (look_less D) (on D (many f)) (some_more (nullable D.empty f) (part_some D f ok))
    (past_fewer G (on D (many f)) (starts D (f ⨾ many f)) ts (λ k z. or_r (on D f k) (starts D f k) (none_more (nullable D.empty f) (starts D f k) (part_some D f ok) z)) p))

pub step : {G : Grammar} {r : G.Symbol → Form G.Symbol G.Kind} (D : Decided G r) (f : Form G.Symbol G.Kind) (ts us : List G.Token) (n : Node G.Token G.Tree)
    → Passes D f → Past G (on D f) us → Reads G f ts n us → Step G r (on D f) f ts n us
step {G = G} {r = r} D f ts us n ok p read_nothing = done (got_nothing {G = with_rules G r} (on D nothing) ts)
step {G = G} {r = r} D f ts us n ok p (read_one {p = q} {t = t} h) = done (got_one {G = with_rules G r} (on D (one q)) q t us h)
step {G = G} D f ts us n ok p (read_rule {s = s} {n = m} a) = called D s ts us m a (step D (G.rule s) ts us m (D.decided s) (past_rule D s us p) a) (D.cut s)
step {G = G} D f ts us n ok p (read_both {f = f'} {g = g} {us = ws} {n = m} {m = m'} a b) =
    then_step D f' g ts ws us m m' ok a (step D f' ts ws m (first_passes D f' g ok) (past_between D f' g ws us m' ok p b) a) (step D g ws us m' (rest_passes D f' g ok) (past_fewer G (on D (f' ⨾ g)) (on D g) us (rest_on D f' g) p) b)
step {G = G} D f ts us n ok p (read_left {f = f'} {g = g} a) = left_step D f' g ts us n ok p a (step D f' ts us n (left_passes D f' g ok) (past_fewer G (on D (f' ∣ g)) (on D f') us (left_on D f' g) p) a)
step {G = G} D f ts us n ok p (read_right {f = f'} {g = g} a) = right_step D f' g ts us n ok p a (step D g ts us n (right_passes D f' g ok) (past_fewer G (on D (f' ∣ g)) (on D g) us (right_on D f' g) p) a)
step {G = G} D f ts us n ok p (read_many {f = f'} (read_left (read_both {us = ws} {n = m} {m = m'} a b))) =
    more_step D f' ts ws us m m' ok a (step D f' ts ws m (part_passes D f' ok) (past_part D f' ws us m' ok p b) a) (step D (many f') ws us m' ok p b)
step {G = G} D f ts us n ok p (read_many {f = f'} (read_right read_nothing)) = end_step D f' us ok p
