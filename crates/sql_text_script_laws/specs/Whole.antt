-- Whole texts: what they spell, and where they break or are too deep.
use Rattle.std.proofs.Common.{List, [], ◌∷◌, ◌≡◌, ◌≤◌, ◌-◌, suc, ℕ, length, drop, refl, subst, ap, ◌∙◌, arith}
use Rattle.grammar_meaning.specs.Grammar.{call, Made, Reads, Front}
use Rattle.grammar_meaning.specs.Laws.{reads_front}
use Rattle.grammar_meaning.specs.Parts.{BreaksFirst, one_tree, broke_whole, got_whole}
use Rattle.grammar_path_laws.specs.Ends.{Ends, ends_here, ends_later, ends_le, ends_longer, front_ends, front_shorter}
use Rattle.sql_meaning.specs.Tokens.{IsCut}
use Rattle.sql_meaning.specs.Texts.{IsDeep, HasDeepToken, BreaksAt, SpellsOnly, place_of}
use Rattle.sql_meaning.specs.Grammar.{WholeScript, Parsed, a_script, unlimited, limited, full, shallow}
use Rattle.sql_meaning.specs.declared.token.Token.{Token}
use Rattle.sql_meaning.specs.declared.token.Placed.{Placed}
use Rattle.sql_meaning.specs.declared.script.Script.{Script}
use Rattle.sql_text_cursor.specs.Table.{after}
use Rattle.sql_text_cursor.specs.Outcomes.{First, first_is, got, DeepIn, fault_memory, fault_deep, fault_at, Gets, Stops, allows_full, allows_shallow}
use Rattle.sql_text_cursor.specs.declared.refusal.Refusal.{Refusal}
use Rattle.sql_text_cursor.specs.declared.refusal.Refusal.TheVariants.{NoMemory, Deep, Syntax}
use Rattle.sql_text_cut_laws.specs.OneCut.{texts_have_one_cut}

-- where the tokens before us begin a script of few levels, and no script begins with more of them, no token is deep
never_deep : (ts us : List Placed) → Front shallow (call WholeScript) ts us → ((ws : List Placed) → Front full (call WholeScript) ts ws → length us ≤ length ws) → IsDeep ts → ⊥
never_deep ts us f w d = d.passes (front_shorter shallow (call WholeScript) ts us d.behind f (ends_longer (front_ends shallow (call WholeScript) ts us f) (front_ends full (call WholeScript) ts d.behind d.begins) (w d.behind d.begins)) (front_ends full (call WholeScript) ts d.behind d.begins))

abbrev made : Script → Parsed
made s = Made (a_script s)

script_of : (s x : Script) → made x ≡ made s → x ≡ s
script_of s x h = cc

-- the whole text is read
pub spells_whole : (bs : List ℕ) (ts : List Placed) (s : Script) → IsCut bs ts → Gets WholeScript ts (a_script s) [] → SpellsOnly bs s
spells_whole bs ts s cut a =
    let g = got a unlimited allows_full in
    let f = got a limited allows_shallow in
    record {
      spells = record { tokens = ts; cut = cut; reads = g.reads };
      only = λ x k. script_of s x (one_tree g (Made (a_script x)) (subst (λ (l : List Placed). Reads full (call WholeScript) l (Made (a_script x)) []) (texts_have_one_cut bs k.tokens ts k.cut cut) k.reads));
      no_deep = λ k. never_deep ts [] (reads_front shallow (call WholeScript) ts [] (Made (a_script s)) f.reads) (λ ws r. omega arith) (subst IsDeep (texts_have_one_cut bs k.tokens ts k.cut cut) k.deep);
    }

-- what a refusal of the tokens says
pub data Rejects (ts : List Placed) : Refusal → Type 0 where
  rejects_memory : Rejects ts NoMemory
  rejects_deep : DeepIn (after WholeScript) (call WholeScript) ts → Rejects ts Deep
  rejects_at : (us : List Placed) → BreaksFirst full (call WholeScript) ts us → Front shallow (call WholeScript) ts us → ((ws : List Placed) → Front full (call WholeScript) ts ws → length us ≤ length ws) → Rejects ts (Syntax (length us))

pub script_stopped : (ts : List Placed) (r : Refusal) → Stops WholeScript ts r → Rejects ts r
script_stopped ts r fault_memory = rejects_memory
script_stopped ts r (fault_deep a) = rejects_deep a
script_stopped ts r (fault_at us a) =
    let g = a unlimited allows_full in
    rejects_at us (broke_whole g) (a limited allows_shallow).front g.lags.within

not_all : (t : Placed) (us vs : List Placed) → us ≡ t ∷ vs → us ≡ [] → ⊥
not_all t us vs h k = cc

-- a further token stands behind a script
pub script_left : (ts us : List Placed) (s : Script) → Gets WholeScript ts (a_script s) us → (us ≡ [] → ⊥) → Rejects ts (Syntax (length us))
script_left ts us s a h =
    let g = got a unlimited allows_full in
    let f = got a limited allows_shallow in
    rejects_at us (got_whole g h) (reads_front shallow (call WholeScript) ts us (Made (a_script s)) f.reads) g.most.within

not_within : (p : Placed) (vs : List Placed) → length (p ∷ vs) ≤ length vs → ⊥
not_within p vs h = omega arith

-- the text of tokens of which one is deep
pub deep_text : (bs : List ℕ) (ts : List Placed) → IsCut bs ts → Rejects ts Deep → HasDeepToken bs
deep_text bs ts cut (rejects_deep a) = record {
  tokens = ts;
  cut = cut;
  deep = record { behind = a.behind; begins = a.front; passes = λ r. not_within a.token a.behind (a.breaks.lags.within a.behind r) };
}

drop_all : (ts : List Placed) (n : ℕ) → n ≡ length ts → drop (length ts - n) ts ≡ ts
drop_all ts n h = let e : length ts - n ≡ 0 = omega arith in rw e refl

-- the last tokens, by their number
ends_drop : (us ts : List Placed) → Ends us ts → drop (length ts - length us) ts ≡ us
ends_drop us ts ends_here = drop_all ts (length ts) refl
ends_drop us (t ∷ ts) (ends_later a) =
    let k = ends_le a in
    let e : length (t ∷ ts) - length us ≡ suc (length ts - length us) = omega arith in
    rw e (ends_drop us ts a)

-- the text of tokens that break at a place
pub broken_text : (bs : List ℕ) (ts : List Placed) (left at : ℕ) → IsCut bs ts → Rejects ts (Syntax left) → at ≡ place_of (length bs) (drop (length ts - left) ts) → BreaksAt bs at
broken_text bs ts left at cut (rejects_at us b f w) place = record {
  tokens = ts;
  cut = cut;
  left = us;
  breaks = b;
  place = place ∙ ap (λ l. place_of (length bs) l) (ends_drop us ts (front_ends shallow (call WholeScript) ts us f));
  no_deep = never_deep ts us f w;
}

pub left_within : (ts : List Placed) (left : ℕ) → Rejects ts (Syntax left) → left ≤ length ts
left_within ts left (rejects_at us b f w) = ends_le (front_ends shallow (call WholeScript) ts us f)

first_some : (us vs : List Placed) (x : Token) → First us x vs → us ≡ [] → ⊥
first_some us vs x (first_is i) h = cc

pub script_further : (ts us vs : List Placed) (x : Token) (s : Script) → Gets WholeScript ts (a_script s) us → First us x vs → Rejects ts (Syntax (length us))
script_further ts us vs x s a f = script_left ts us s a (first_some us vs x f)

pub script_ended : (ts us : List Placed) (s : Script) → Gets WholeScript ts (a_script s) us → us ≡ [] → Gets WholeScript ts (a_script s) []
script_ended ts us s a e = subst (λ (l : List Placed). Gets WholeScript ts (a_script s) l) e a

pub ruleset whole_steps = (rejects_memory, script_stopped, script_further, script_ended)
