-- Steps of the loops over known columns.
use Rattle.std.proofs.Common.{◌≡◌, ℕ, zero, suc, ◌+◌, ◌<◌, Bool, true, false, List, [], ◌∷◌, ◌++◌, Option, None, Some, All, map, length, take, drop, get_or, if◌then◌else◌, nat_eq, nat_lt, refl, ap, sym, subst, ◌∙◌, arith, slice_get}
use Rattle.std.specs.Map.{lookup, keys_of}
use Rattle.std.specs.Option.{is_some}
use Rattle.std.specs.List.{list_any, IsDistinct, AllByRecursion}
use Rattle.std.specs.Cmp.Lexicographic.{pointwise, nat_list_eq_equiv}
use Rattle.std.proofs.Math.Seq.{take-suc, drop-cons}
use Rattle.std.proofs.lemmas.Map.Made.{is_some-lookup}
use Rattle.std.proofs.lemmas.Option.{slice_get_within, get_or_from_slice_get}
use Rattle.pred_columns.specs.declared.columns.ColourPair.{ColourPair}
use Rattle.pred_columns.specs.declared.columns.ColumnRefusal.{ColumnRefusal}
use Rattle.pred_columns.specs.declared.columns.ColumnRefusal.TheVariants.{Repeated, OutOfRange}
use Rattle.pred_columns.specs.Refusal.{known_of, same_text, fault_from}

abbrev pub iri_of : ColourPair → List ℕ
iri_of p = p.iri

keys-known : (xs : List ColourPair) → keys_of (map known_of xs) ≡ map iri_of xs
keys-known [] = refl
keys-known (x ∷ xs) = ap (λ (l : List (List ℕ)). x.iri ∷ l) (keys-known xs)

pub seen_is : (iri : List ℕ) (xs : List ColourPair) (es : List (List ℕ × ℕ)) → es ≡ map known_of xs → is_some (lookup (same_text iri) es) ≡ list_any (same_text iri) (map iri_of xs)
seen_is iri xs es e = is_some-lookup (same_text iri) es ∙ ap (λ (l : List (List ℕ × ℕ)). list_any (same_text iri) (keys_of l)) e ∙ ap (list_any (same_text iri)) (keys-known xs)

here : (all : List ColourPair) (i : ℕ) (p : ColourPair) → i < length all → p ≡ get_or all i p → drop i all ≡ p ∷ drop (suc i) all
here all i p within is = drop-cons all i p within ∙ ap (λ (q : ColourPair). q ∷ drop (suc i) all) (sym is)

pub repeated : (k : ℕ) (all : List ColourPair) (es : List (List ℕ × ℕ)) (i : ℕ) (p : ColourPair) (x : Option ColumnRefusal) → i < length all → p ≡ get_or all i p → es ≡ map known_of (take i all)
    → is_some (lookup (same_text p.iri) es) ≡ true → x ≡ fault_from k (map iri_of (take i all)) (drop i all) i → x ≡ Some (Repeated i)
repeated k all es i p x within is made seen whole =
    let s : list_any (same_text p.iri) (map iri_of (take i all)) ≡ true = sym (seen_is p.iri (take i all) es made) ∙ seen in
    whole ∙ ap (λ (l : List ColourPair). fault_from k (map iri_of (take i all)) l i) (here all i p within is)
    ∙ ap (λ (b : Bool). if b then Some (Repeated i) else (if nat_lt p.column k then fault_from k (map iri_of (take i all) ++ p.iri ∷ []) (drop (suc i) all) (i + 1) else Some (OutOfRange i))) s

pub out_of_range : (k : ℕ) (all : List ColourPair) (es : List (List ℕ × ℕ)) (i : ℕ) (p : ColourPair) (x : Option ColumnRefusal) → i < length all → p ≡ get_or all i p → es ≡ map known_of (take i all)
    → is_some (lookup (same_text p.iri) es) ≡ false → nat_lt p.column k ≡ false → x ≡ fault_from k (map iri_of (take i all)) (drop i all) i → x ≡ Some (OutOfRange i)
out_of_range k all es i p x within is made seen high whole =
    let s : list_any (same_text p.iri) (map iri_of (take i all)) ≡ false = sym (seen_is p.iri (take i all) es made) ∙ seen in
    whole ∙ ap (λ (l : List ColourPair). fault_from k (map iri_of (take i all)) l i) (here all i p within is)
    ∙ ap (λ (b : Bool). if b then Some (Repeated i) else (if nat_lt p.column k then fault_from k (map iri_of (take i all) ++ p.iri ∷ []) (drop (suc i) all) (i + 1) else Some (OutOfRange i))) s
    ∙ ap (λ (b : Bool). if b then fault_from k (map iri_of (take i all) ++ p.iri ∷ []) (drop (suc i) all) (i + 1) else Some (OutOfRange i)) high

map-push : {X Y : Type 0} (f : X → Y) (xs : List X) (x : X) → map f (xs ++ x ∷ []) ≡ map f xs ++ f x ∷ []
map-push f [] x = refl
map-push f (y ∷ ys) x = ap (λ l. f y ∷ l) (map-push f ys x)

more : (all : List ColourPair) (i : ℕ) (p : ColourPair) → i < length all → p ≡ get_or all i p → take (i + 1) all ≡ take i all ++ p ∷ []
more all i p within is = ap (λ (n : ℕ). take n all) (let e : i + 1 ≡ suc i = omega arith in e) ∙ take-suc all i p within ∙ ap (λ (q : ColourPair). take i all ++ q ∷ []) (sym is)

-- what the loop keeps
pub record Done (k : ℕ) (all : List ColourPair) (i : ℕ) (es : List (List ℕ × ℕ)) : Type 0 where
  pub made : es ≡ map known_of (take i all)
  pub below : All (λ (p : List ℕ × ℕ). p.1 < k) es
  pub rest : fault_from k [] all 0 ≡ fault_from k (map iri_of (take i all)) (drop i all) i

pub goes_on : (k : ℕ) (all : List ColourPair) (es : List (List ℕ × ℕ)) (i : ℕ) (p : ColourPair) (x : Option ColumnRefusal) → i < length all → p ≡ get_or all i p → es ≡ map known_of (take i all)
    → is_some (lookup (same_text p.iri) es) ≡ false → nat_lt p.column k ≡ true → x ≡ fault_from k (map iri_of (take i all)) (drop i all) i
    → x ≡ fault_from k (map iri_of (take (i + 1) all)) (drop (i + 1) all) (i + 1)
goes_on k all es i p x within is made seen low whole =
    let s : list_any (same_text p.iri) (map iri_of (take i all)) ≡ false = sym (seen_is p.iri (take i all) es made) ∙ seen in
    let n : suc i ≡ i + 1 = omega arith in
    whole ∙ ap (λ (l : List ColourPair). fault_from k (map iri_of (take i all)) l i) (here all i p within is)
    ∙ ap (λ (b : Bool). if b then Some (Repeated i) else (if nat_lt p.column k then fault_from k (map iri_of (take i all) ++ p.iri ∷ []) (drop (suc i) all) (i + 1) else Some (OutOfRange i))) s
    ∙ ap (λ (b : Bool). if b then fault_from k (map iri_of (take i all) ++ p.iri ∷ []) (drop (suc i) all) (i + 1) else Some (OutOfRange i)) low
    ∙ ap (λ (m : ℕ). fault_from k (map iri_of (take i all) ++ p.iri ∷ []) (drop m all) (i + 1)) n
    ∙ ap (λ (l : List (List ℕ)). fault_from k l (drop (i + 1) all) (i + 1)) (sym (map-push iri_of (take i all) p) ∙ ap (map iri_of) (sym (more all i p within is)))

pub made_more : (all : List ColourPair) (es new : List (List ℕ × ℕ)) (i : ℕ) (p : ColourPair) → i < length all → p ≡ get_or all i p → es ≡ map known_of (take i all) → new ≡ es ++ known_of p ∷ [] → new ≡ map known_of (take (i + 1) all)
made_more all es new i p within is made e = e ∙ ap (λ (l : List (List ℕ × ℕ)). l ++ known_of p ∷ []) made ∙ sym (map-push known_of (take i all) p) ∙ ap (map known_of) (sym (more all i p within is))

-- the pair in place i isn't among those before it
pub fresh_at : (es : List (List ℕ × ℕ)) (i : ℕ) (p : List ℕ × ℕ) → slice_get es i ≡ Some p → IsDistinct (pointwise nat_eq) (keys_of es) → lookup (same_text p.0) (take i es) ≡ None
unfolding IsDistinct
fresh_at [] zero p h d = refl
fresh_at [] (suc i) p h d = refl
fresh_at (e ∷ es) zero p h d = refl
fresh_at (e ∷ es) (suc i) p h d =
    let apart : same_text p.0 e.0 ≡ false = nat_list_eq_equiv.symm p.0 e.0 ∙ each es i p h d.0 in
    rw apart (fresh_at es i p h d.1)
  where
    each : (es : List (List ℕ × ℕ)) (i : ℕ) (p : List ℕ × ℕ) → slice_get es i ≡ Some p → AllByRecursion (λ (z : List ℕ). same_text e.0 z ≡ false) (keys_of es) → same_text e.0 p.0 ≡ false
    each [] i p h a = cc
    each (x ∷ xs) zero p h a = let k : x ≡ p = cc in subst (λ (q : List ℕ × ℕ). same_text e.0 q.0 ≡ false) k a.0
    each (x ∷ xs) (suc i) p h a = each xs i p h a.1

pub copied_more : (es copy new : List (List ℕ × ℕ)) (i : ℕ) (p : List ℕ × ℕ) → slice_get es i ≡ Some p → copy ≡ take i es → new ≡ copy ++ p ∷ [] → new ≡ take (i + 1) es
copied_more es copy new i p h was e =
    let within : i < length es = slice_get_within es i p h in
    let n : suc i ≡ i + 1 = omega arith in
    e ∙ ap (λ (l : List (List ℕ × ℕ)). l ++ p ∷ []) was ∙ ap (λ (q : List ℕ × ℕ). take i es ++ q ∷ []) (sym (get_or_from_slice_get es i p p h)) ∙ sym (take-suc es i p within) ∙ ap (λ (m : ℕ). take m es) n
