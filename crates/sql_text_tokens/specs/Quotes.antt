-- Texts in quotes, byte by byte.
use Rattle.std.proofs.Common.{◌≡◌, ◌+◌, ◌∙◌, sym, ap, List, [], ◌∷◌, ◌++◌, ℕ, suc, Bool, true, false, arith, refl, ◌<◌, ◌≤◌, length, drop, Option, Some, None, append_assoc, get_or}
use Rattle.std.specs.Prelude.{◌==◌, slice_index}
use Rattle.std.proofs.lemmas.Grind.{common_steps}
use Rattle.std.proofs.lemmas.List.{append-nil}
use Rattle.std.proofs.Math.Seq.{drop-length}
use Rattle.sql_meaning.specs.Tokens.{Quoted, quoted, longer, holding}
use Rattle.sql_text_tokens.specs.declared.quotes.Content.{Content}

-- the content and the length of the text behind the quote, where it ends
abbrev pub IsContent : Option Content → List ℕ → Type 0
IsContent None bs = quoted false bs ≡ None
IsContent (Some c) bs = (quoted false bs ≡ Some (record { content = c.bytes.items; taken = c.taken })) × (c.taken ≤ length bs)

-- behind some bytes that are read already
abbrev pub grown : List ℕ → ℕ → Option Quoted → Option Quoted
grown front n None = None
grown front n (Some q) = Some (record { content = front ++ q.content; taken = n + q.taken })

grown_holding : (front : List ℕ) (n b : ℕ) (o : Option Quoted) → grown front n (holding b o) ≡ grown (front ++ b ∷ []) (n + 1) o
grown_holding front n b None = refl
grown_holding front n b (Some q) = let e : n + suc q.taken ≡ n + 1 + q.taken = omega arith in let k = append_assoc front (b ∷ []) q.content in cc

grown_longer : (front : List ℕ) (n : ℕ) (o : Option Quoted) → grown front n (longer o) ≡ grown front (n + 1) o
grown_longer front n None = refl
grown_longer front n (Some q) = let e : n + suc q.taken ≡ n + 1 + q.taken = omega arith in cc

-- the reading stands at a place, with its content and whether a quote was the last byte
pub data IsAt (bs : List ℕ) (front : List ℕ) (q : Bool) (n : ℕ) : Type 0 where
  is_at : quoted false bs ≡ grown front n (quoted q (drop n bs)) → IsAt bs front q n

same_zero : (o : Option Quoted) → o ≡ grown [] 0 o
same_zero None = refl
same_zero (Some q) = let e : q.taken ≡ 0 + q.taken = omega arith in ap (λ n. Some (record { content = q.content; taken = n })) e

pub at_start : (bs : List ℕ) → IsAt bs [] false 0
at_start bs = is_at (same_zero (quoted false bs))

drop_at : (bs : List ℕ) (n : ℕ) → n < length bs → drop n bs ≡ get_or bs n 0 ∷ drop (n + 1) bs
drop_at bs n h = grind (arith, common_steps)

pub at_quote : (bs front : List ℕ) (n b : ℕ) → n < length bs → b ≡ slice_index bs n → b ≡ 39 → IsAt bs front false n → IsAt bs front true (n + 1)
at_quote bs front n b h e k (is_at a) = is_at (a ∙ ap (λ l. grown front n (quoted false l)) (drop_at bs n h) ∙ ap (λ x. grown front n (quoted false (x ∷ drop (n + 1) bs))) (sym e ∙ k) ∙ grown_longer front n (quoted true (drop (n + 1) bs)))

other : (b : ℕ) → (b ≡ 39 → ⊥) → (b == 39) ≡ false
other b h = grind arith

pub at_byte : (bs front : List ℕ) (n b : ℕ) → n < length bs → b ≡ slice_index bs n → (b ≡ 39 → ⊥) → IsAt bs front false n → IsAt bs (front ++ b ∷ []) false (n + 1)
at_byte bs front n b h e k (is_at a) =
    let o = other b k in
    let s : quoted false (b ∷ drop (n + 1) bs) ≡ holding b (quoted false (drop (n + 1) bs)) = rw o refl in
    is_at (a ∙ ap (λ l. grown front n (quoted false l)) (drop_at bs n h) ∙ ap (λ x. grown front n (quoted false (x ∷ drop (n + 1) bs))) (sym e) ∙ ap (λ o. grown front n o) s ∙ grown_holding front n b (quoted false (drop (n + 1) bs)))

pub at_second : (bs front : List ℕ) (n b : ℕ) → n < length bs → b ≡ slice_index bs n → b ≡ 39 → IsAt bs front true n → IsAt bs (front ++ b ∷ []) false (n + 1)
at_second bs front n b h e k (is_at a) =
    let s : quoted true (39 ∷ drop (n + 1) bs) ≡ holding 39 (quoted false (drop (n + 1) bs)) = refl in
    let t = a ∙ ap (λ l. grown front n (quoted true l)) (drop_at bs n h) ∙ ap (λ x. grown front n (quoted true (x ∷ drop (n + 1) bs))) (sym e ∙ k) ∙ ap (λ o. grown front n o) s ∙ grown_holding front n 39 (quoted false (drop (n + 1) bs)) in
    is_at (t ∙ ap (λ x. grown (front ++ x ∷ []) (n + 1) (quoted false (drop (n + 1) bs))) (sym k))

ended : (bs front : List ℕ) (n : ℕ) → quoted true (drop n bs) ≡ Some (record { content = []; taken = 0 }) → IsAt bs front true n → quoted false bs ≡ Some (record { content = front; taken = n })
ended bs front n h (is_at a) = let e : n + 0 ≡ n = omega arith in let k = append-nil front in a ∙ ap (λ o. grown front n o) h ∙ cc

pub ends_before : (bs : List ℕ) (c : Content) (b : ℕ) → c.taken < length bs → b ≡ slice_index bs c.taken → (b ≡ 39 → ⊥) → IsAt bs c.bytes.items true c.taken → IsContent (Some c) bs
ends_before bs c b h e k a =
    let o = other b k in
    let s : quoted true (b ∷ drop (c.taken + 1) bs) ≡ Some (record { content = []; taken = 0 }) = rw o refl in
    (ended bs c.bytes.items c.taken (ap (λ l. quoted true l) (drop_at bs c.taken h) ∙ ap (λ x. quoted true (x ∷ drop (c.taken + 1) bs)) (sym e) ∙ s) a, omega arith)

pub ends_last : (bs : List ℕ) (c : Content) → c.taken ≡ length bs → IsAt bs c.bytes.items true c.taken → IsContent (Some c) bs
ends_last bs c h a = (ended bs c.bytes.items c.taken (ap (λ l. quoted true l) (ap (λ n. drop n bs) h ∙ drop-length bs)) a, omega arith)

pub never_ends : (bs front : List ℕ) (n : ℕ) → n ≡ length bs → IsAt bs front false n → IsContent None bs
never_ends bs front n h (is_at a) = a ∙ ap (λ l. grown front n (quoted false l)) (ap (λ m. drop m bs) h ∙ drop-length bs)

pub ruleset quote_steps = (at_start, at_quote, at_byte, at_second, ends_before, ends_last, never_ends)
