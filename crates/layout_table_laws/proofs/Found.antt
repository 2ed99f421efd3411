-- The term of an id.
use Rattle.std.proofs.Common.{◌≡◌, ℕ, ◌+◌, ◌≤◌, ◌==◌, ◌||◌, Bool, true, false, if◌then◌else◌, List, [], ◌∷◌, refl, ap, ◌∙◌, arith}
use Rattle.bags.specs.Bag.{total}
use Rattle.rdf_meaning.specs.Terms.{RdfTerm, same_term}
use Rattle.rdf_meaning.specs.TermLaws.{same_term-self}
use Rattle.layout_meaning.specs.Sound.{one_if}
use Rattle.layout_standing_meaning.specs.Dictionary.{Entry, id_of, has_term, is_id}
use Rattle.layout_table_laws.specs.TermIds.{IsIdOfTerm}

-- a term that is there is counted
counted : (es : List Entry) (t : RdfTerm) → has_term es t ≡ true → 1 ≤ total (λ (e : Entry). one_if (same_term e.term t)) es
counted [] t h = cc
counted (e ∷ es) t h = by (same_term e.term t) h (counted es t)
  where
    by : (b : Bool) → (b || has_term es t) ≡ true → (has_term es t ≡ true → 1 ≤ total (λ (x : Entry). one_if (same_term x.term t)) es) → 1 ≤ one_if b + total (λ (x : Entry). one_if (same_term x.term t)) es
    by true h rest = omega arith
    by false h rest = let l = rest h in omega arith

pub found : (es : List Entry) (n : ℕ) → ((t : RdfTerm) → total (λ (e : Entry). one_if (same_term e.term t)) es ≤ 1) → is_id es n ≡ true → IsIdOfTerm es n
found [] n once h = cc
found (e ∷ es) n once h = by (e.id == n) refl h (found es n (λ (t : RdfTerm). let a = once t in omega arith))
  where
    here : e.id ≡ n → IsIdOfTerm (e ∷ es) n
    here same = record {
      term = e.term;
      there = ap (λ (b : Bool). b || has_term es e.term) (same_term-self e.term);
      id = ap (λ (b : Bool). if b then e.id else id_of es e.term) (same_term-self e.term) ∙ same;
    }

    apart : (t : RdfTerm) → has_term es t ≡ true → (b : Bool) → same_term e.term t ≡ b → b ≡ false
    apart t there false q = refl
    apart t there true q = absurd (let a = once t in let l = counted es t there in let k : one_if (same_term e.term t) ≡ 1 = ap one_if q in omega arith)

    later : IsIdOfTerm es n → IsIdOfTerm (e ∷ es) n
    later k =
        let other : same_term e.term k.term ≡ false = apart k.term k.there (same_term e.term k.term) refl in
        record {
          term = k.term;
          there = ap (λ (b : Bool). b || has_term es k.term) other ∙ k.there;
          id = ap (λ (b : Bool). if b then e.id else id_of es k.term) other ∙ k.id;
        }

    by : (b : Bool) → (e.id == n) ≡ b → (b || is_id es n) ≡ true → (is_id es n ≡ true → IsIdOfTerm es n) → IsIdOfTerm (e ∷ es) n
    by true q h rest = here (equal e.id n q)
      where
        equal : (m k : ℕ) → (m == k) ≡ true → m ≡ k
        equal m k q = grind arith
    by false q h rest = later (rest h)
