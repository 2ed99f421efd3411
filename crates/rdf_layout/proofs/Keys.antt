-- Items in a set, and as they are seen.
use Rattle.std.proofs.Common.{◌≡◌, ◌==◌, ◌&&◌, ◌||◌, ℕ, nat_eq, Bool, true, false, if◌then◌else◌, List, [], ◌∷◌, ◌++◌, map, refl, ap, ap₂, ◌∙◌, arith}
use Rattle.std.specs.List.{list_any}
use Rattle.std.proofs.lemmas.List.{map_push}
use Rattle.shredder.specs.declared.bulk.Placed.{Placed}
use Rattle.shredder.specs.Items.{item_of}
use Rattle.rdf_layout.specs.Gathered.{is_item, is_among}

abbrev pub same_placed : Placed → Placed → Bool
same_placed a b = nat_eq a.entity b.entity && (nat_eq a.pred b.pred && nat_eq a.value b.value)

eq-turned : (a b : ℕ) → nat_eq a b ≡ (b == a)
eq-turned a b = by (nat_eq a b) refl (b == a) refl
  where
    by : (p : Bool) → nat_eq a b ≡ p → (q : Bool) → (b == a) ≡ q → p ≡ q
    by true e true f = refl
    by true e false f = absurd (grind arith)
    by false e true f = absurd (grind arith)
    by false e false f = refl

same-item : (x k : Placed) → same_placed x k ≡ is_item (item_of k) (item_of x)
same-item x k = ap₂ (λ (a b : Bool). a && b) (eq-turned x.entity k.entity) (ap₂ (λ (a b : Bool). a && b) (eq-turned x.pred k.pred) (eq-turned x.value k.value))

pub among-keys : (x : Placed) (ks : List Placed) → list_any (same_placed x) ks ≡ is_among (map item_of ks) (item_of x)
among-keys x [] = refl
among-keys x (k ∷ ks) = ap₂ (λ (a b : Bool). a || b) (same-item x k) (among-keys x ks)

-- an item that isn't there is put last
pub keys-pushed : (x : Placed) (ks new : List Placed) → is_among (map item_of ks) (item_of x) ≡ false → new ≡ (if list_any (same_placed x) ks then ks else ks ++ x ∷ []) → map item_of new ≡ map item_of ks ++ item_of x ∷ []
keys-pushed x ks new free e =
    let none : list_any (same_placed x) ks ≡ false = among-keys x ks ∙ free in
    ap (map item_of) (e ∙ ap (λ (b : Bool). if b then ks else ks ++ x ∷ []) none) ∙ map_push item_of ks x
