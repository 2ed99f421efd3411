-- Tags: what is found is spelled.
use Rattle.std.proofs.Common.{◌≡◌, ℕ, ◌+◌, ◌⊎◌, inl, inr, Bool, true, false, eqb, List, [], ◌∷◌, ◌++◌, length, take, drop, refl, sym, ap, ◌∙◌, subst, arith, ◌&&◌, append_assoc}
use Rattle.std.specs.Prelude.{Some, None}
use Rattle.std.proofs.lemmas.List.{length-append}
use Rattle.std.proofs.lemmas.Str.{encode_ascii}
use Rattle.rdf_meaning.specs.Characters.{is_letter}
use Rattle.rdf_meaning.specs.Terms.{is_tag}
use Rattle.line_meaning.specs.Grammar.{Each}
use Rattle.sparql_meaning.specs.declared.token.TokenKind.TheVariants as k
use Rattle.sparql_meaning.specs.declared.token.Found.{Found}
use Rattle.sparql_meaning.specs.Tokens.{head, is_tag_part, later_tag_len, first_tag_len, tag_tail_len, tag_len, lower, tag_at}
use Rattle.sparql_token_laws.specs.Forms.{AtLeastOne, LaterParts, no_part, one_part}
use Rattle.sparql_token_laws.proofs.Basics.{Stands, Front, run_front, chosen_or, both_true, is_same, whole_taken, some_same, none_some}

-- letters and digits, and then later parts
record PartFront (cs : List ℕ) : Type 0 where
  part : List ℕ
  more : List ℕ
  behind : List ℕ
  letters : Each is_tag_part part
  some : is_tag_part (head cs) ≡ true → AtLeastOne is_tag_part part
  parts : LaterParts more
  count : later_tag_len cs ≡ length (part ++ more)
  whole : cs ≡ (part ++ more) ++ behind

no_parts : (cs : List ℕ) → later_tag_len cs ≡ 0 → is_tag_part (head cs) ≡ false → PartFront cs
no_parts cs n h = record { part = []; more = []; behind = cs; letters = tt; some = λ t. absurd cc; parts = no_part; count = n; whole = refl }

letter_front : (c : ℕ) (cs : List ℕ) → is_tag_part c ≡ true → PartFront cs → PartFront (c ∷ cs)
letter_front c cs t a = record {
  part = c ∷ a.part;
  more = a.more;
  behind = a.behind;
  letters = (t, a.letters);
  some = λ e. (t, a.letters);
  parts = a.parts;
  count = (let l : later_tag_len (c ∷ cs) ≡ 1 + later_tag_len cs = rw t refl in omega (arith, l, a.count));
  whole = ap (λ (t : List ℕ). c ∷ t) a.whole;
}

dash_front : (c : ℕ) (cs : List ℕ) → is_tag_part c ≡ false → eqb c 45 ≡ true → is_tag_part (head cs) ≡ true → PartFront cs → PartFront (c ∷ cs)
dash_front c cs t d h a =
    let same : c ≡ 45 = is_same c 45 d in
    let l : later_tag_len (c ∷ cs) ≡ 1 + later_tag_len cs = rw (t, d, h) refl in
    record {
      part = [];
      more = 45 ∷ (a.part ++ a.more);
      behind = a.behind;
      letters = tt;
      some = λ e. absurd cc;
      parts = one_part a.part a.more (a.some h) a.parts;
      count = omega (arith, l, a.count);
      whole = ap (λ (x : ℕ). x ∷ cs) same ∙ ap (λ (t : List ℕ). 45 ∷ t) a.whole;
    }

part_front_by : (c : ℕ) (cs : List ℕ) → PartFront cs → (t d : Bool) → is_tag_part c ≡ t → (eqb c 45 && is_tag_part (head cs)) ≡ d → PartFront (c ∷ cs)
part_front_by c cs a true d e h = letter_front c cs e a
part_front_by c cs a false true e h = let b = both_true (eqb c 45) (is_tag_part (head cs)) h in dash_front c cs e b.0 b.1 a
part_front_by c cs a false false e h = no_parts (c ∷ cs) (rw (e, h) refl) e

part_front : (cs : List ℕ) → PartFront cs
part_front [] = no_parts [] refl refl
part_front (c ∷ cs) = part_front_by c cs (part_front cs) (is_tag_part c) (eqb c 45 && is_tag_part (head cs)) refl refl

-- what stands behind the first part
tail_front : (cs : List ℕ) → Front LaterParts (tag_tail_len cs) cs
tail_front [] = record { written = []; behind = []; fine = no_part; count = refl; whole = refl }
tail_front (c ∷ cs) = by (eqb c 45) refl
  where
    by : (d : Bool) → eqb c 45 ≡ d → Front LaterParts (tag_tail_len (c ∷ cs)) (c ∷ cs)
    by false e = record { written = []; behind = c ∷ cs; fine = no_part; count = rw e refl; whole = refl }
    by true e = dashed (is_tag_part (head cs)) refl
      where
        same : c ≡ 45
        same = is_same c 45 e

        dashed : (t : Bool) → is_tag_part (head cs) ≡ t → Front LaterParts (tag_tail_len (c ∷ cs)) (c ∷ cs)
        dashed true h =
            let a = part_front cs in
            let l : tag_tail_len (c ∷ cs) ≡ 1 + later_tag_len cs = rw (same, h) refl in
            record {
              written = 45 ∷ (a.part ++ a.more);
              behind = a.behind;
              fine = one_part a.part a.more (a.some h) a.parts;
              count = omega (arith, l, a.count);
              whole = ap (λ (x : ℕ). x ∷ cs) same ∙ ap (λ (t : List ℕ). 45 ∷ t) a.whole;
            }
        dashed false h = record { written = []; behind = c ∷ cs; fine = no_part; count = rw (same, h) refl; whole = refl }

abbrev tag_found : ℕ → List ℕ → Found
tag_found n cs = record { kind = k.Tag (lower (take n cs)); chars = 1 + n }

-- a tag has a first part
no_first : (later : List ℕ) → LaterParts later → is_tag (lower later) ≡ true → ⊥
no_first _ no_part t = absurd cc
no_first _ (one_part part rest d p) t =
    let e : is_tag (lower (45 ∷ (part ++ rest))) ≡ false = ap (λ (u : List ℕ). is_tag (u ++ lower (part ++ rest))) (encode_ascii 45 (omega arith)) in
    absurd cc

first_some : (first later : List ℕ) → Each is_letter first → LaterParts later → is_tag (lower (first ++ later)) ≡ true → AtLeastOne is_letter first
first_some [] later e p t = absurd (no_first later p t)
first_some (c ∷ first) later e p t = e

pub tag_stands : (cs : List ℕ) (f : Found) → tag_at cs ≡ Some f → Stands (64 ∷ cs) f
unfolding tag_at tag_len
tag_stands cs f h = by (chosen_or (is_tag (lower (take n cs))) (Some (tag_found n cs)) None (Some f) h)
  where
    a : Front (Each is_letter) (first_tag_len cs) cs
    a = run_front is_letter cs

    b : Front LaterParts (tag_tail_len (drop (first_tag_len cs) cs)) (drop (first_tag_len cs) cs)
    b = tail_front (drop (first_tag_len cs) cs)

    n : ℕ
    n = first_tag_len cs + tag_tail_len (drop (first_tag_len cs) cs)

    whole : cs ≡ (a.written ++ b.written) ++ b.behind
    whole = a.whole ∙ ap (λ (t : List ℕ). a.written ++ t) b.whole ∙ sym (append_assoc a.written b.written b.behind)

    count : n ≡ length (a.written ++ b.written)
    count = omega (arith, a.count, b.count, length-append a.written b.written)

    taken : take n cs ≡ a.written ++ b.written
    taken = whole_taken cs (a.written ++ b.written) b.behind n count whole

    by : ((is_tag (lower (take n cs)) ≡ true) × (Some (tag_found n cs) ≡ Some f)) ⊎ ((is_tag (lower (take n cs)) ≡ false) × (None ≡ Some f)) → Stands (64 ∷ cs) f
    by (inr e) = absurd (none_some f e.1)
    by (inl e) =
        let t : is_tag (lower (a.written ++ b.written)) ≡ true = ap (λ (u : List ℕ). is_tag (lower u)) (sym taken) ∙ e.0 in
        let g : tag_found n cs ≡ f = some_same (tag_found n cs) f e.1 in
        subst (λ (x : Found). Stands (64 ∷ cs) x) g (record {
          written = 64 ∷ (a.written ++ b.written);
          behind = b.behind;
          spelled = record {
            first = a.written;
            others = b.written;
            letters = first_some a.written b.written a.fine b.fine t;
            parts = b.fine;
            text_is = ap lower taken;
            whole = refl;
          };
          count = omega (arith, count);
          whole = ap (λ (t : List ℕ). 64 ∷ t) whole;
        })
