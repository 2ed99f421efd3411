-- A text of SQL breaks at one place at most, and has no deep token where it breaks.
use Rattle.std.specs.Prelude.{List, [], ◌∷◌, ◌≡◌, ◌≤◌, ◌⊎◌, ℕ, ◌+◌, length}
use Rattle.std.proofs.Common.{refl, sym, subst, ap, ◌∙◌, inl, inr, arith}
use Rattle.grammar_meaning.specs.Grammar.{call, Front}
use Rattle.grammar_meaning.specs.Parts.{BreaksFirst}
use Rattle.grammar_path_laws.specs.Ends.{Ends, ends_here, ends_later, ends_trans, ends_same, ends_longer, front_ends, front_shorter}
use Rattle.sql_meaning.specs.Grammar.{WholeScript, full}
use Rattle.sql_meaning.specs.Texts.{IsDeep, HasDeepToken, BreaksAt, place_of}
use Rattle.sql_meaning.specs.declared.token.Placed.{Placed}
use Rattle.sql_text_cut_laws.specs.OneCut.{texts_have_one_cut}

more_or_not : (m n : ℕ) → (m + 1 ≤ n) ⊎ (n ≤ m)
more_or_not m n = grind arith

behind : (t : Placed) (ws ts : List Placed) → Ends (t ∷ ws) ts → Ends ws ts
behind t ws ts e = ends_trans (ends_later ends_here) e

-- no front takes more tokens than those before the break
none_further : (ts us vs : List Placed) → BreaksFirst full (call WholeScript) ts us → Front full (call WholeScript) ts vs → length us ≤ length vs
none_further ts [] vs b f = omega arith
none_further ts (t ∷ ws) vs b f = told (more_or_not (length ws) (length vs))
  where
    whole : Ends ws ts
    whole = behind t ws ts (front_ends full (call WholeScript) ts (t ∷ ws) b.before)

    told : (length ws + 1 ≤ length vs) ⊎ (length vs ≤ length ws) → length (t ∷ ws) ≤ length vs
    told (inl k) = omega arith
    told (inr k) = absurd (b.with_it t ws refl (front_shorter full (call WholeScript) ts vs ws f (ends_longer (front_ends full (call WholeScript) ts vs f) whole k) whole))

same_break : (ts us vs : List Placed) → BreaksFirst full (call WholeScript) ts us → BreaksFirst full (call WholeScript) ts vs → us ≡ vs
same_break ts us vs a b =
    let k = none_further ts us vs a b.before in
    ends_same (ends_longer (front_ends full (call WholeScript) ts us a.before) (front_ends full (call WholeScript) ts vs b.before) k) (none_further ts vs us b a.before)

pub breaks_at_one_place : (bs : List ℕ) (m n : ℕ) → BreaksAt bs m → BreaksAt bs n → m ≡ n
breaks_at_one_place bs m n a b =
    let cut = texts_have_one_cut bs b.tokens a.tokens b.cut a.cut in
    let other : BreaksFirst full (call WholeScript) a.tokens b.left = subst (λ (ts : List Placed). BreaksFirst full (call WholeScript) ts b.left) cut b.breaks in
    a.place ∙ ap (λ (us : List Placed). place_of (length bs) us) (same_break a.tokens a.left b.left a.breaks other) ∙ sym b.place

pub deep_texts_dont_break : (bs : List ℕ) (at : ℕ) → HasDeepToken bs → BreaksAt bs at → ⊥
deep_texts_dont_break bs at d b = b.no_deep (subst IsDeep (texts_have_one_cut bs d.tokens b.tokens d.cut b.cut) d.deep)
