-- What the canonical spelling of a writable script may be read as.
use Rattle.std.specs.Prelude.{◌≡◌, ◌⊎◌, IsTrue, Result, Ok, Err, IfOk, IfErr}
use Rattle.std.proofs.Common.{ap, refl, subst, sym, inl, inr}
use Rattle.sql_meaning.specs.Canon.{canon}
use Rattle.sql_meaning.specs.Scripts.{is_writable}
use Rattle.sql_meaning.specs.Texts.{SpellsOnly, IsDeep, HasDeepToken}
use Rattle.sql_meaning.specs.declared.script.Script.{Script}
use Rattle.sql_text_cut_laws.specs.OneCut.{texts_have_one_cut}
use Rattle.sql_text_cut_laws.specs.Outcomes.{spelled_texts_dont_break}
use Rattle.sql_text_reading_laws.specs.Depths.{read_tokens_are_not_deep}
use Rattle.sql_text_spelling_laws.specs.Spelled.{spelled_within, writable_scripts_are_spelled}
use Rattle.sql_text.specs.Refuses.{Refuses, no_memory, is_deep, breaks_at}
use Rattle.sql_text.specs.declared.refusal.SqlRefusal.{SqlRefusal}
use Rattle.sql_text.specs.declared.refusal.SqlRefusal.TheVariants.{NoMemory}

abbrev pub CanonicalSpellingsAreNotDeep : Type 0
CanonicalSpellingsAreNotDeep = (s : Script) → IsTrue (is_writable s) → HasDeepToken (canon s) → ⊥

pub canonical_spellings_are_not_deep : CanonicalSpellingsAreNotDeep
canonical_spellings_are_not_deep s h k =
    let w = spelled_within s h in
    read_tokens_are_not_deep w.tokens s w.reads (subst IsDeep (texts_have_one_cut (canon s) k.tokens w.tokens k.cut w.cut) k.deep)

abbrev pub CanonicalSpellingsSpellTheirScriptOnly : Type 0
CanonicalSpellingsSpellTheirScriptOnly = (s x : Script) → IsTrue (is_writable s) → SpellsOnly (canon s) x → x ≡ s

pub canonical_spellings_spell_their_script_only : CanonicalSpellingsSpellTheirScriptOnly
canonical_spellings_spell_their_script_only s x h k = sym (k.only s (writable_scripts_are_spelled s h))

abbrev pub CanonicalSpellingsAreNotRefused : Type 0
CanonicalSpellingsAreNotRefused = (s : Script) (e : SqlRefusal) → IsTrue (is_writable s) → Refuses (canon s) e → e ≡ NoMemory

pub canonical_spellings_are_not_refused : CanonicalSpellingsAreNotRefused
canonical_spellings_are_not_refused s e h no_memory = refl
canonical_spellings_are_not_refused s e h (is_deep k) = absurd (canonical_spellings_are_not_deep s h k)
canonical_spellings_are_not_refused s e h (breaks_at at k) = absurd (spelled_texts_dont_break (canon s) s at (writable_scripts_are_spelled s h) k)

-- by what the reader promises of its answer
abbrev pub CanonicalSpellingsAreReadBack : Type 0
CanonicalSpellingsAreReadBack =
    (s : Script) (answer : Result Script SqlRefusal) → IsTrue (is_writable s)
    → IfOk answer (λ x. SpellsOnly (canon s) x) → IfErr answer (λ e. Refuses (canon s) e)
    → (answer ≡ Ok s) ⊎ (answer ≡ Err NoMemory)

pub canonical_spellings_are_read_back : CanonicalSpellingsAreReadBack
canonical_spellings_are_read_back s (Ok x) h a b = inl (ap Ok (canonical_spellings_spell_their_script_only s x h a))
canonical_spellings_are_read_back s (Err e) h a b = inr (ap Err (canonical_spellings_are_not_refused s e h b))
