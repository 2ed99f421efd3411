-- Shifted steps under a naming are the steps under the shifted naming; and which names written steps have.
use Rattle.std.specs.Prelude.{◌≡◌, ℕ, ◌+◌, ◌<◌, ◌≤◌, true, false, List, [], ◌∷◌, ◌++◌, length, refl}
use Rattle.std.proofs.Common.{ap, ap₂, ◌∙◌, subst, arith}
use Rattle.std.proofs.lemmas.Bool.{or_from, false_from_ne_true, both_ways}
use Rattle.std.proofs.lemmas.Slice.Eq.{bytes_eq-Decides}
use Rattle.std.specs.Str.{bytes_eq}
use Rattle.sql_meaning.specs.declared.script.Body.{Body}
use Rattle.sql_meaning.specs.declared.script.Step.{Step}
use Rattle.sql_gen_step_laws.specs.Carried.{Name}
use Rattle.sql_gen_chain_laws.specs.Chains.{is_named, IsApart}
use Rattle.sql_gen_numbered_meaning.specs.declared.numbered.NumberedBody.{NumberedBody}
use Rattle.sql_gen_numbered_meaning.specs.declared.numbered.NumberedBody.TheVariants.{Single, Access, Pairs, Open, Joined, United, Filtered, Matched, Passed, Optional, Distinct}
use Rattle.sql_gen_numbered_meaning.specs.Numbered.{body_under, written_from, written, shift, shifted, on_from}
use Rattle.sql_gen_numbered_meaning.specs.Namings.{is_table, KeepsApart}

shifted-body : (name : ℕ → Name) (k : ℕ) (b : NumberedBody) → body_under name (shift k b) ≡ body_under (on_from k name) b
shifted-body name k Single = refl
shifted-body name k (Access side spilled entity arms) = refl
shifted-body name k (Pairs side entity predicate columns) = refl
shifted-body name k (Open side a vs arm later asked) = refl
shifted-body name k (Joined left a b vs ws certain) = refl
shifted-body name k (United a b vs ws) = refl
shifted-body name k (Filtered a vs ts condition) = refl
shifted-body name k (Matched a b vs ws certain) = refl
shifted-body name k (Passed m vs ws ts condition) = refl
shifted-body name k (Optional a m vs ws certain) = refl
shifted-body name k (Distinct a vs us) = refl

abbrev step_with : Name → Body → Step
step_with n b = record { name = n; body = b }

shifted-from : (name : ℕ → Name) (k n : ℕ) (bs : List NumberedBody) → written_from name (k + n) (shifted k bs) ≡ written_from (on_from k name) n bs
shifted-from name k n [] = refl
shifted-from name k n (b ∷ bs) =
    let next : k + n + 1 ≡ k + (n + 1) = omega arith in
    ap₂ (λ (x : Body) (xs : List Step). step_with (name (k + n)) x ∷ xs) (shifted-body name k b)
    (ap (λ m. written_from name m (shifted k bs)) next ∙ shifted-from name k (n + 1) bs)

-- shifted steps, written behind k others, are the steps under the naming that begins at k
pub shifted-written : (name : ℕ → Name) (k : ℕ) (bs : List NumberedBody) → written_from name k (shifted k bs) ≡ written (on_from k name) bs
shifted-written name k bs = let same : k ≡ k + 0 = omega arith in ap (λ m. written_from name m (shifted k bs)) same ∙ shifted-from name k 0 bs

pub from-append : (name : ℕ → Name) (n : ℕ) (xs ys : List NumberedBody) → written_from name n (xs ++ ys) ≡ written_from name n xs ++ written_from name (n + length xs) ys
from-append name n [] ys = let same : n ≡ n + 0 = omega arith in ap (λ m. written_from name m ys) same
from-append name n (x ∷ xs) ys =
    let same : n + 1 + length xs ≡ n + length (x ∷ xs) = omega arith in
    ap (λ (rest : List Step). step_with (name n) (body_under name x) ∷ rest) (from-append name (n + 1) xs ys ∙ ap (λ m. written_from name (n + 1) xs ++ written_from name m ys) same)

pub written-append : (name : ℕ → Name) (xs ys : List NumberedBody) → written name (xs ++ ys) ≡ written name xs ++ written_from name (length xs) ys
written-append name xs ys = let same : 0 + length xs ≡ length xs = omega arith in from-append name 0 xs ys ∙ ap (λ m. written name xs ++ written_from name m ys) same

-- a name that none of the numbers has is no step's
pub not_named : (name : ℕ → Name) (c : Name) (n : ℕ) (bs : List NumberedBody) → ((i : ℕ) → n ≤ i → i < n + length bs → bytes_eq c (name i) ≡ false) → is_named c (written_from name n bs) ≡ false
not_named name c n [] h = refl
not_named name c n (b ∷ bs) h = or_from _ _ (h n (omega arith) (omega arith)) (not_named name c (n + 1) bs (λ i l u. h i (omega arith) (omega arith)))

-- a table's name is no step's
pub written-apart : (name : ℕ → Name) (m n : ℕ) (bs : List NumberedBody) → KeepsApart m name → n + length bs ≤ m → IsApart is_table (written_from name n bs)
written-apart name m n bs a l = record {
  names = λ c e. not_named name c n bs (λ i p q. false_from_ne_true _ (λ h.
      let same : c ≡ name i = (bytes_eq-Decides c (name i)).0 h in
      both_ways (is_table (name i)) (a.no_table i (omega arith)) (subst (λ (x : Name). is_table x ≡ true) same e)));
}
