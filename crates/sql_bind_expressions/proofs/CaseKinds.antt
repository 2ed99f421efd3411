-- The kinds of a CASE.
use Rattle.std.proofs.Common.{◌≡◌, Bool, true, false, List, [], ◌∷◌, ◌++◌, map, Ok, Err, refl, ap, ◌∙◌}
use Rattle.std.specs.Prelude.{◌&&◌, if◌then◌else◌}
use Rattle.std.specs.List.{list_all}
use Rattle.table_meaning.specs.declared.kind.Kind.{Kind}
use Rattle.table_meaning.specs.declared.kind.Kind.TheVariants.{Int, Text, Truth}
use Rattle.sql_rows_meaning.specs.declared.fault.FaultKind.TheVariants.{KindClash, NotTruth}
use Rattle.sql_rows_meaning.specs.Faults.{and_then}
use Rattle.sql_rows_meaning.specs.Checks.{KindChecked, BranchKinds, same_kind, one_kind, case_kind}

tests-told : (bs : List BranchKinds) → list_all (same_kind Truth) (map (λ (b : BranchKinds). b.test) bs) ≡ list_all (λ (b : BranchKinds). same_kind Truth b.test) bs
tests-told [] = refl
tests-told (b ∷ bs) = ap (λ (t : Bool). same_kind Truth b.test && t) (tests-told bs)

values-mapped : (k : Kind) (bs : List BranchKinds) → list_all (same_kind k) (map (λ (b : BranchKinds). b.value) bs) ≡ list_all (λ (b : BranchKinds). same_kind k b.value) bs
values-mapped k [] = refl
values-mapped k (b ∷ bs) = ap (λ (t : Bool). same_kind k b.value && t) (values-mapped k bs)

all-last : (p : Kind → Bool) (ks : List Kind) (k : Kind) → list_all p (ks ++ k ∷ []) ≡ (list_all p ks && p k)
all-last p [] k = at (p k)
  where
    at : (b : Bool) → (b && true) ≡ (true && b)
    at true = refl
    at false = refl
all-last p (x ∷ ks) k = ap (λ (t : Bool). p x && t) (all-last p ks k) ∙ at (p x) (list_all p ks) (p k)
  where
    at : (a b c : Bool) → (a && (b && c)) ≡ ((a && b) && c)
    at true b c = refl
    at false b c = refl

and-true : (b : Bool) → (b && true) ≡ b
and-true true = refl
and-true false = refl

and-false : (b : Bool) → (b && false) ≡ false
and-false true = refl
and-false false = refl

abbrev told : Bool → Kind → KindChecked
told b k = if b then Ok k else Err KindClash

-- whether the first or the last value is taken for the one kind
first-or-last : (ks : List Kind) (k last : Kind) → told (list_all (same_kind k) (ks ++ last ∷ [])) k ≡ told (same_kind last k && list_all (same_kind last) ks) last
first-or-last ks Int Int = ap (λ (b : Bool). told b Int) (all-last (same_kind Int) ks Int ∙ and-true (list_all (same_kind Int) ks))
first-or-last ks Int Text = ap (λ (b : Bool). told b Int) (all-last (same_kind Int) ks Text ∙ and-false (list_all (same_kind Int) ks))
first-or-last ks Int Truth = ap (λ (b : Bool). told b Int) (all-last (same_kind Int) ks Truth ∙ and-false (list_all (same_kind Int) ks))
first-or-last ks Text Int = ap (λ (b : Bool). told b Text) (all-last (same_kind Text) ks Int ∙ and-false (list_all (same_kind Text) ks))
first-or-last ks Text Text = ap (λ (b : Bool). told b Text) (all-last (same_kind Text) ks Text ∙ and-true (list_all (same_kind Text) ks))
first-or-last ks Text Truth = ap (λ (b : Bool). told b Text) (all-last (same_kind Text) ks Truth ∙ and-false (list_all (same_kind Text) ks))
first-or-last ks Truth Int = ap (λ (b : Bool). told b Truth) (all-last (same_kind Truth) ks Int ∙ and-false (list_all (same_kind Truth) ks))
first-or-last ks Truth Text = ap (λ (b : Bool). told b Truth) (all-last (same_kind Truth) ks Text ∙ and-false (list_all (same_kind Truth) ks))
first-or-last ks Truth Truth = ap (λ (b : Bool). told b Truth) (all-last (same_kind Truth) ks Truth ∙ and-true (list_all (same_kind Truth) ks))

kinds-told : (ks : List Kind) (last : Kind) → one_kind (ks ++ last ∷ []) ≡ told (list_all (same_kind last) ks) last
kinds-told [] last = refl
kinds-told (k ∷ ks) last = first-or-last ks k last

values-told : (bs : List BranchKinds) (last : Kind) → one_kind (map (λ (b : BranchKinds). b.value) bs ++ last ∷ []) ≡ (if list_all (λ (b : BranchKinds). same_kind last b.value) bs then Ok last else Err KindClash)
values-told bs last = kinds-told (map (λ (b : BranchKinds). b.value) bs) last ∙ ap (λ (b : Bool). told b last) (values-mapped last bs)

abbrev values_after : List BranchKinds → Kind → Bool → KindChecked
values_after bs last b = and_then (if b then Ok Truth else Err NotTruth) (λ (truth : Kind). one_kind (map (λ (b : BranchKinds). b.value) bs ++ last ∷ []))

tests-fine : (bs : List BranchKinds) (last : Kind) → list_all (λ (b : BranchKinds). same_kind Truth b.test) bs ≡ true → case_kind bs last ≡ one_kind (map (λ (b : BranchKinds). b.value) bs ++ last ∷ [])
tests-fine bs last h = ap (values_after bs last) (tests-told bs ∙ h)

pub case_no_truth : (bs : List BranchKinds) (last : Kind) → list_all (λ (b : BranchKinds). same_kind Truth b.test) bs ≡ false → case_kind bs last ≡ Err NotTruth
case_no_truth bs last h = ap (values_after bs last) (tests-told bs ∙ h)

pub case_alike : (bs : List BranchKinds) (last : Kind) → list_all (λ (b : BranchKinds). same_kind Truth b.test) bs ≡ true → list_all (λ (b : BranchKinds). same_kind last b.value) bs ≡ true → case_kind bs last ≡ Ok last
case_alike bs last h g = tests-fine bs last h ∙ values-told bs last ∙ ap (λ (b : Bool). told b last) g

pub case_unlike : (bs : List BranchKinds) (last : Kind) → list_all (λ (b : BranchKinds). same_kind Truth b.test) bs ≡ true → list_all (λ (b : BranchKinds). same_kind last b.value) bs ≡ false → case_kind bs last ≡ Err KindClash
case_unlike bs last h g = tests-fine bs last h ∙ values-told bs last ∙ ap (λ (b : Bool). told b last) g

pub ruleset case_paths = (case_no_truth, case_alike, case_unlike)
