-- Steps through a text in quotes.
use Rattle.std.proofs.Common.{◌≡◌, ◌⊎◌, inl, inr, ℕ, ◌≤◌, true, false, cond, eqb, List, [], ◌∷◌, ◌++◌, length, get_or, take, drop, ◌-◌, refl, sym, ap, append_assoc, arith}
use Rattle.std.specs.Prelude.{Option, None, Some}
use Rattle.std.specs.Str.{IsUtf8, is_utf8, bytes_eq}
use Rattle.std.proofs.lemmas.Bool.{cases_Bool, not-true, eqb-true, ne_eqb, both_ways}
use Rattle.std.proofs.lemmas.Slice.Eq.{bytes_eq-Decides}
use Rattle.table_text.proofs.Cuts.{rest_from}
use Rattle.std.proofs.lemmas.Str.{IsUtf8-from_is_utf8, is_utf8-from_IsUtf8}
use Rattle.table_meaning.specs.TableLaws.{or_left, or_right}
use Rattle.table_text.specs.Reading.{before, unquoted, escaped, is_raw}

pub before-before : {X : Type 0} (xs ys : List X) (o : Option (List X)) → before xs (before ys o) ≡ before (xs ++ ys) o
before-before xs ys None = refl
before-before xs ys (Some zs) = ap (λ t. Some t) (sym (append_assoc xs ys zs))

pub utf8_kept : {X : Type 0} (bytes : List ℕ) (x : X) → IsUtf8 bytes → cond (is_utf8 bytes) (Some x) None ≡ Some x
utf8_kept bytes x utf8 = rw (is_utf8-from_IsUtf8 bytes utf8) refl

pub other_dropped : {X : Type 0} (bytes : List ℕ) (x : X) → ¬ (IsUtf8 bytes) → cond (is_utf8 bytes) (Some x) None ≡ None
other_dropped bytes x other = by (cases_Bool (is_utf8 bytes))
  where
    by : (is_utf8 bytes ≡ true) ⊎ (is_utf8 bytes ≡ false) → cond (is_utf8 bytes) (Some x) None ≡ None
    by (inl e) = absurd (other (IsUtf8-from_is_utf8 bytes e))
    by (inr e) = rw e refl

-- one more byte in front of the rest
pub pushed : (text rest after : List ℕ) (byte : ℕ) → unquoted rest ≡ before (byte ∷ []) (unquoted after) → before (text ++ byte ∷ []) (unquoted after) ≡ before text (unquoted rest)
pushed text rest after byte e = rw e (sym (before-before text (byte ∷ []) (unquoted after)))

pub escape_reads : (rest : List ℕ) (byte : ℕ) → 2 ≤ length rest → get_or rest 0 0 ≡ 92 → escaped (get_or rest 1 0) ≡ Some byte
    → unquoted rest ≡ before (byte ∷ []) (unquoted (take (length rest - 2) (drop 2 rest)))
escape_reads [] byte long first mark = absurd (omega arith)
escape_reads (b ∷ []) byte long first mark = absurd (omega arith)
escape_reads (b ∷ c ∷ bs) byte long first mark = rw (rest_from 2 (b ∷ c ∷ bs), first, mark) refl

pub escape_none : (rest : List ℕ) → 2 ≤ length rest → get_or rest 0 0 ≡ 92 → escaped (get_or rest 1 0) ≡ None → unquoted rest ≡ None
escape_none [] long first mark = refl
escape_none (b ∷ []) long first mark = absurd (omega arith)
escape_none (b ∷ c ∷ bs) long first mark = rw (first, mark) refl

pub raw_reads : (rest : List ℕ) → 1 ≤ length rest → is_raw (get_or rest 0 0) ≡ true
    → unquoted rest ≡ before (get_or rest 0 0 ∷ []) (unquoted (take (length rest - 1) (drop 1 rest)))
raw_reads [] long raw = absurd (omega arith)
raw_reads (b ∷ []) long raw =
    let quote : eqb b 34 ≡ false = or_left _ _ (not-true _ raw) in
    rw (rest_from 1 (b ∷ []), quote) refl
raw_reads (b ∷ c ∷ bs) long raw =
    let slash : eqb b 92 ≡ false = or_left _ _ (or_right (eqb b 34) _ (not-true _ raw)) in
    rw (rest_from 1 (b ∷ c ∷ bs), raw, slash) refl

-- neither a quote that is last, nor an escape, nor a byte that stands by itself
pub none_reads : (rest : List ℕ) → bytes_eq rest (34 ∷ []) ≡ false → (2 ≤ length rest → get_or rest 0 0 ≡ 92 → ⊥) → (1 ≤ length rest → is_raw (get_or rest 0 0) ≡ false) → unquoted rest ≡ None
none_reads [] quote slash raw = refl
none_reads (b ∷ []) quote slash raw = by (cases_Bool (eqb b 34))
  where
    by : (eqb b 34 ≡ true) ⊎ (eqb b 34 ≡ false) → unquoted (b ∷ []) ≡ None
    by (inl e) = absurd (both_ways _ quote ((bytes_eq-Decides (b ∷ []) (34 ∷ [])).1 (ap (λ x. x ∷ []) (eqb-true b 34 e))))
    by (inr e) = rw e refl
none_reads (b ∷ c ∷ bs) quote slash raw =
    let other : eqb b 92 ≡ false = ne_eqb b 92 (λ e. slash (omega arith) e) in
    let held : is_raw b ≡ false = raw (omega arith) in
    rw (held, other) refl
