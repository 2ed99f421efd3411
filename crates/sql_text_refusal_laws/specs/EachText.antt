-- No text is neither a script nor refused.
use Rattle.std.specs.Prelude.{List, [], ◌∷◌, ◌≡◌, ℕ, length}
use Rattle.std.proofs.Common.{refl, subst, ap, arith}
use Rattle.grammar_meaning.specs.Grammar.{◌⨾◌, call, maybe, Made, Reads, read_rule, read_both, Front, front_empty}
use Rattle.grammar_meaning.specs.Parts.{BreaksFirst}
use Rattle.sql_meaning.specs.Grammar.{WholeScript, Steps, OneBody, Parsed, a_script, build, full}
use Rattle.sql_meaning.specs.Texts.{Spells, SpellsOnly, IsDeep, HasDeepToken, BreaksAt, place_of}
use Rattle.sql_meaning.specs.Tokens.{IsCut}
use Rattle.sql_meaning.specs.declared.token.Placed.{Placed}
use Rattle.sql_meaning.specs.declared.script.Script.{Script}
use Rattle.sql_text_reading_laws.specs.OneScript.{texts_spell_one_script}
use Rattle.sql_text_refusal_laws.specs.EachCut.{texts_have_a_cut}

abbrev pub NoSqlTextIsNeither : Type 0
NoSqlTextIsNeither = (bs : List ℕ) → ((s : Script) → SpellsOnly bs s → ⊥) → (HasDeepToken bs → ⊥) → ((at : ℕ) → BreaksAt bs at → ⊥) → ⊥

-- ---- what the grammar makes of a whole text is a script

abbrev IsScript : Parsed → Type 0
IsScript n = (s : Script) × (build WholeScript n ≡ a_script s)

parts_script : (ts us : List Placed) (n : Parsed) → Reads full (maybe (call Steps) ⨾ call OneBody) ts n us → IsScript n
parts_script ts us n (read_both {n = a} {m = b} x y) = (_, refl)

made_script : (ts us : List Placed) (x : Parsed) → Reads full (call WholeScript) ts x us → (s : Script) × (x ≡ Made (a_script s))
made_script ts us x (read_rule {n = n} r) = let m = parts_script ts us n r in (m.0, ap Made m.1)

-- ---- a text that spells none breaks

abbrev IsFront : List Placed → List Placed → Type 0
IsFront ts us = Front full (call WholeScript) ts us

abbrev Unread : List Placed → Type 0
Unread ts = (x : Parsed) → Reads full (call WholeScript) ts x [] → ⊥

breaks_end : (ts : List Placed) → IsFront ts [] → Unread ts → BreaksFirst full (call WholeScript) ts []
breaks_end ts a unread = record { before = a; with_it = λ t vs i k. let j = ap length i in omega (arith, j); no_text = unread }

breaks_here : (ts : List Placed) (u : Placed) (us : List Placed) → IsFront ts (u ∷ us) → (IsFront ts us → ⊥) → Unread ts → BreaksFirst full (call WholeScript) ts (u ∷ us)
breaks_here ts u us a none unread = record {
  before = a;
  with_it = λ t vs i k. let same : vs ≡ us = cc in none (subst (λ (z : List Placed). IsFront ts z) same k);
  no_text = unread;
}

no_break : (bs : List ℕ) (ts : List Placed) → IsCut bs ts → (IsDeep ts → ⊥) → ((at : ℕ) → BreaksAt bs at → ⊥) → Unread ts → (us : List Placed) → IsFront ts us → ⊥
no_break bs ts c deep nb unread [] a =
    nb (place_of (length bs) []) (record { tokens = ts; cut = c; left = []; breaks = breaks_end ts a unread; place = refl; no_deep = deep })
no_break bs ts c deep nb unread (u ∷ us) a =
    nb (place_of (length bs) (u ∷ us)) (record { tokens = ts; cut = c; left = u ∷ us; breaks = breaks_here ts u us a (no_break bs ts c deep nb unread us) unread; place = refl; no_deep = deep })

pub no_sql_text_is_neither : NoSqlTextIsNeither
no_sql_text_is_neither bs ns nd nb = by (texts_have_a_cut bs)
  where
    unread : (ts : List Placed) → IsCut bs ts → Unread ts
    unread ts c x r =
        let m = made_script ts [] x r in
        let w : Spells bs m.0 = record { tokens = ts; cut = c; reads = subst (λ (z : Parsed). Reads full (call WholeScript) ts z []) m.1 r } in
        ns m.0 (record { spells = w; only = λ y k. texts_spell_one_script bs m.0 y w k; no_deep = nd })

    by : (ts : List Placed) × IsCut bs ts → ⊥
    by c = no_break bs c.0 c.1 (λ d. nd (record { tokens = c.0; cut = c.1; deep = d })) nb (unread c.0 c.1) c.0 front_empty
