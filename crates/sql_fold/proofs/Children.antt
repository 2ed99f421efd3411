-- What a walk over a list of children keeps.
use Rattle.std.proofs.Common.{◌≡◌, ℕ, ◌+◌, ◌<◌, ◌≤◌, List, [], ◌∷◌, ◌++◌, length, get_or, take, Contains, sym, ap, subst, ◌∙◌}
use Rattle.std.proofs.lemmas.List.{take_more, take_all}
use Rattle.std.proofs.lemmas.List.Elements.{Contains-get_or}
use Rattle.sql_alias_meaning.specs.Each.{Each, none, next, Keeps}

pub Each-follow : {A B : Type 0} (R S : A → B → Type 0) → ((x : A) (y : B) → R x y → S x y) → (xs : List A) (ys : List B) → Each R xs ys → Each S xs ys
Each-follow R S f [] [] none = none
Each-follow R S f [] (y ∷ ys) e = elim e [ ]
Each-follow R S f (x ∷ xs) [] e = elim e [ ]
Each-follow R S f (x ∷ xs) (y ∷ ys) (next r e) = next (f x y r) (Each-follow R S f xs ys e)

pub Each-push : {A B : Type 0} (R : A → B → Type 0) (xs : List A) (ys : List B) (x : A) (y : B) → Each R xs ys → R x y → Each R (xs ++ x ∷ []) (ys ++ y ∷ [])
Each-push R [] [] x y none r = next r none
Each-push R [] (b ∷ ys) x y e r = elim e [ ]
Each-push R (a ∷ xs) [] x y e r = elim e [ ]
Each-push R (a ∷ xs) (b ∷ ys) x y (next q e) r = next q (Each-push R xs ys x y e r)

pub Keeps-refl : {N G : Type 0} (f : N → Type 0) (s : G → Type 0) → Keeps f f s s
Keeps-refl f s = record { takes = λ n h. h; means = λ x h. h; meant = λ x h. h }

pub Keeps-then : {N G : Type 0} {f g h : N → Type 0} {s t u : G → Type 0} → Keeps f g s t → Keeps g h t u → Keeps f h s u
Keeps-then a b = record { takes = λ n p. b.takes n (a.takes n p); means = λ x p. b.means x (a.means x p); meant = λ x p. a.meant x (b.meant x p) }

-- the same children, named otherwise
pub Each-at : {A B : Type 0} (R : A → B → Type 0) (xs : List A) (ys zs : List B) → ys ≡ zs → Each R xs ys → Each R xs zs
Each-at {A} {B} R xs ys zs is e = subst (λ (l : List B). Each R xs l) is e

-- all children
pub Each-whole : {A B : Type 0} (R : A → B → Type 0) (xs : List A) (ys : List B) (i : ℕ) → length ys ≤ i → Each R xs (take i ys) → Each R xs ys
Each-whole {A} {B} R xs ys i le e = subst (λ (l : List B). Each R xs l) (take_all i ys le) e

-- what stands for children still does
pub Each-kept : {N G A B : Type 0} {f g : N → Type 0} {s t : G → Type 0} (pair : A → B → G) (xs : List A) (ys zs : List B) → ys ≡ zs → Keeps f g s t → Each (λ a b. s (pair a b)) xs ys → Each (λ a b. t (pair a b)) xs zs
Each-kept {N} {G} {A} {B} {f} {g} {s} {t} pair xs ys zs is k e =
    Each-at (λ (a : A) (b : B). t (pair a b)) xs ys zs is (Each-follow (λ a b. s (pair a b)) (λ a b. t (pair a b)) (λ a b. k.means (pair a b)) xs ys e)

-- one more child
pub Each-next : {N G A B : Type 0} (pair : A → B → G) (f g : N → Type 0) (s t : G → Type 0) (xs xs' : List A) (ys : List B) (i : ℕ) (x : A) (y : B)
    → Keeps f g s t → Each (λ a b. s (pair a b)) xs (take i ys) → s (pair x y) → xs' ≡ xs ++ x ∷ [] → i < length ys → y ≡ get_or ys i y → Each (λ a b. t (pair a b)) xs' (take (i + 1) ys)
Each-next {N} {G} {A} {B} pair f g s t xs xs' ys i x y k e r pushed lt is =
    let R : A → B → Type 0 = λ a b. s (pair a b) in
    let S : A → B → Type 0 = λ a b. t (pair a b) in
    let grown : take i ys ++ y ∷ [] ≡ take (i + 1) ys = ap (λ z. take i ys ++ z ∷ []) is ∙ sym (take_more ys i y lt) in
    let both : Each S (xs ++ x ∷ []) (take i ys ++ y ∷ []) = Each-push S xs (take i ys) x y (Each-follow R S (λ a b. k.means (pair a b)) xs (take i ys) e) (k.means (pair x y) r) in
    let P : List A → Type 0 = λ l. Each S l (take (i + 1) ys) in
    let Q : List B → Type 0 = λ l. Each S (xs ++ x ∷ []) l in
    subst P (sym pushed) (subst Q grown both)

-- a later child still fits
pub fit_at : {N G B : Type 0} (node : B → N) (f g : N → Type 0) (s t : G → Type 0) (ys : List B) (i : ℕ) (y : B)
    → Keeps f g s t → ((e : B) → Contains ys e → f (node e)) → i < length ys → y ≡ get_or ys i y → g (node y)
fit_at node f g s t ys i y k fits lt is =
    let here : Contains ys y = rw is (Contains-get_or ys i y lt) in k.takes (node y) (fits y here)

-- a child of the node still fits
pub fit_later : {N G B : Type 0} (node : B → N) (f g : N → Type 0) (s t : G → Type 0) (y : B) → Keeps f g s t → f (node y) → g (node y)
fit_later node f g s t y k h = k.takes (node y) h
