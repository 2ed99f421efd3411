-- Stars that take the arms of others, by their places.
use Rattle.std.specs.Prelude.{◌≡◌, ◌<◌, ◌≤◌, ℕ, ◌+◌, ◌⊎◌, suc, Bool, true, false, if◌then◌else◌, List, [], ◌∷◌, ◌++◌, length, Option, Some, None, option_map, option_and_then, slice_index_or, slice_set, refl}
use Rattle.std.proofs.Common.{sym, ap, ap₂, ◌∙◌, subst, arith, inl, inr}
use Rattle.std.proofs.lemmas.Bool.{cases_Bool}
use Rattle.layout_meaning.specs.Facts.{SpilledTerms}
use Rattle.query_plan_meaning.specs.declared.star.Arm.{Arm}
use Rattle.query_plan_meaning.specs.declared.star.Star.{Star}
use Rattle.query_merging_meaning.specs.Merging.{required_of, same_entity, are_one, with_arms_of, put, lone_star, is_new_in, with_optional_arm, takes_arms_of, put_optional, with_optional_star, merged_optional, either_of, merged_union}
use Rattle.star_merge.specs.Places.{first_place}

abbrev after : Option ℕ → Option ℕ
after o = option_map (λ (at : ℕ). at + 1) o

one-more : (at : ℕ) → at + 1 ≡ suc at
one-more at = omega arith

-- ---- the first star that passes, changed

abbrev replaced : {X : Type 0} (p : X → Bool) (f : X → X) → List X → Option (List X)
replaced p f [] = None
replaced {X} p f (x ∷ xs) = if p x then Some (f x ∷ xs) else option_map (λ (more : List X). x ∷ more) (replaced p f xs)

-- what is done at a place
abbrev at_place : {X : Type 0} (f : X → X) → List X → X → Option ℕ → Option (List X)
at_place f xs none None = None
at_place f xs none (Some i) = Some (slice_set xs i (f (slice_index_or xs i none)))

later : {X : Type 0} (f : X → X) (x : X) (xs : List X) (none : X) (o : Option ℕ) → option_map (λ (more : List X). x ∷ more) (at_place f xs none o) ≡ at_place f (x ∷ xs) none (after o)
later f x xs none None = refl
later f x xs none (Some i) = rw (one-more i) refl

replaced-is : {X : Type 0} (p : X → Bool) (f : X → X) (none : X) (xs : List X) → replaced p f xs ≡ at_place f xs none (first_place p xs)
replaced-is p f none [] = refl
replaced-is {X} p f none (x ∷ xs) = go (cases_Bool (p x)) (replaced-is p f none xs)
  where
    go : (p x ≡ true) ⊎ (p x ≡ false) → replaced p f xs ≡ at_place f xs none (first_place p xs) → replaced p f (x ∷ xs) ≡ at_place f (x ∷ xs) none (first_place p (x ∷ xs))
    go (inl e) more = rw e refl
    go (inr e) more = rw e (ap (λ (o : Option (List X)). option_map (λ (ys : List X). x ∷ ys) o) more ∙ later f x xs none (first_place p xs))

-- ---- a star is put

abbrev or_last : List Star → Star → Option (List Star) → List Star
or_last stars new None = stars ++ new ∷ []
or_last stars new (Some merged) = merged

last-later : (star : Star) (stars : List Star) (new : Star) (o : Option (List Star)) → or_last (star ∷ stars) new (option_map (λ (more : List Star). star ∷ more) o) ≡ star ∷ or_last stars new o
last-later star stars new None = refl
last-later star stars new (Some merged) = refl

put-is : (spilled : SpilledTerms) (stars : List Star) (new : Star) → put spilled stars new ≡ or_last stars new (replaced (λ (s : Star). are_one spilled s new) (λ (s : Star). with_arms_of s new) stars)
put-is spilled [] new = refl
put-is spilled (star ∷ stars) new = go (cases_Bool (are_one spilled star new)) (put-is spilled stars new)
  where
    go : (are_one spilled star new ≡ true) ⊎ (are_one spilled star new ≡ false) → put spilled stars new ≡ or_last stars new (replaced (λ (s : Star). are_one spilled s new) (λ (s : Star). with_arms_of s new) stars) →
        put spilled (star ∷ stars) new ≡ or_last (star ∷ stars) new (replaced (λ (s : Star). are_one spilled s new) (λ (s : Star). with_arms_of s new) (star ∷ stars))
    go (inl e) more = rw e refl
    go (inr e) more = rw e (ap (λ (ss : List Star). star ∷ ss) more ∙ sym (last-later star stars new (replaced (λ (s : Star). are_one spilled s new) (λ (s : Star). with_arms_of s new) stars)))

put-at : (spilled : SpilledTerms) (stars : List Star) (new none : Star) (o : Option ℕ) → o ≡ first_place (λ (s : Star). are_one spilled s new) stars → put spilled stars new ≡ or_last stars new (at_place (λ (s : Star). with_arms_of s new) stars none o)
put-at spilled stars new none o e =
    put-is spilled stars new ∙ ap (or_last stars new) (replaced-is (λ (s : Star). are_one spilled s new) (λ (s : Star). with_arms_of s new) none stars)
    ∙ ap (λ (p : Option ℕ). or_last stars new (at_place (λ (s : Star). with_arms_of s new) stars none p)) (sym e)

pub put_found : (spilled : SpilledTerms) (stars merged : List Star) (new old star : Star) (o : Option ℕ) (at : ℕ) → merged ≡ slice_set stars at star → star ≡ with_arms_of old new → old ≡ slice_index_or stars at old →
    o ≡ first_place (λ (s : Star). are_one spilled s new) stars → o ≡ Some at → merged ≡ put spilled stars new
put_found spilled stars merged new old star o at m s i e f =
    m ∙ ap (λ (x : Star). slice_set stars at x) (s ∙ ap (λ (x : Star). with_arms_of x new) i) ∙ sym (put-at spilled stars new old (Some at) (sym f ∙ e))

pub put_last : (spilled : SpilledTerms) (stars merged : List Star) (new star : Star) (o : Option ℕ) → merged ≡ stars ++ star ∷ [] → star ≡ new → o ≡ first_place (λ (s : Star). are_one spilled s new) stars → o ≡ None → merged ≡ put spilled stars new
put_last spilled stars merged new star o m s e f =
    m ∙ ap (λ (x : Star). stars ++ x ∷ []) s ∙ sym (put-at spilled stars new new None (sym f ∙ e))

-- ---- an optional part

pub one_item : (xs : List Arm) (a : Arm) → 1 ≤ length xs → length xs < 2 → a ≡ slice_index_or xs 0 a → xs ≡ a ∷ []
one_item [] a l m e = absurd (omega arith)
one_item (x ∷ []) a l m e = ap (λ (y : Arm). y ∷ []) (sym e)
one_item (x ∷ y ∷ xs) a l m e = absurd (omega arith)

optional-is : (spilled : SpilledTerms) (lone : Star) (a : Arm) (stars : List Star) → put_optional spilled lone a stars ≡ replaced (λ (s : Star). takes_arms_of spilled s lone) (λ (s : Star). with_optional_arm s a) stars
optional-is spilled lone a [] = refl
optional-is spilled lone a (star ∷ stars) = ap (λ (o : Option (List Star)). if takes_arms_of spilled star lone then Some (with_optional_arm star a ∷ stars) else option_map (λ (more : List Star). star ∷ more) o) (optional-is spilled lone a stars)

optional-at : (spilled : SpilledTerms) (lone : Star) (a : Arm) (stars : List Star) (none : Star) (o : Option ℕ) → o ≡ first_place (λ (s : Star). takes_arms_of spilled s lone) stars → put_optional spilled lone a stars ≡ at_place (λ (s : Star). with_optional_arm s a) stars none o
optional-at spilled lone a stars none o e =
    optional-is spilled lone a stars ∙ replaced-is (λ (s : Star). takes_arms_of spilled s lone) (λ (s : Star). with_optional_arm s a) none stars
    ∙ ap (at_place (λ (s : Star). with_optional_arm s a) stars none) (sym e)

by-lone : (spilled : SpilledTerms) (stars part : List Star) (lone : Star) (arms : List Arm) → lone_star spilled part ≡ Some lone → required_of lone.body ≡ arms → merged_optional spilled stars part ≡ with_optional_star spilled stars lone arms
by-lone spilled stars part lone arms e f = ap (λ (o : Option Star). option_and_then (λ (s : Star). with_optional_star spilled stars s (required_of s.body)) o) e ∙ ap (with_optional_star spilled stars lone) f

pub no_lone : (spilled : SpilledTerms) (stars part : List Star) → lone_star spilled part ≡ None → merged_optional spilled stars part ≡ None
no_lone spilled stars part e = ap (λ (o : Option Star). option_and_then (λ (s : Star). with_optional_star spilled stars s (required_of s.body)) o) e

pub no_arm : (spilled : SpilledTerms) (stars part : List Star) (lone : Star) → lone_star spilled part ≡ Some lone → required_of lone.body ≡ [] → merged_optional spilled stars part ≡ None
no_arm spilled stars part lone e f = by-lone spilled stars part lone [] e f

pub more_arms : (spilled : SpilledTerms) (stars part : List Star) (lone : Star) (a b : Arm) (arms : List Arm) → lone_star spilled part ≡ Some lone → required_of lone.body ≡ a ∷ b ∷ arms → merged_optional spilled stars part ≡ None
more_arms spilled stars part lone a b arms e f = by-lone spilled stars part lone (a ∷ b ∷ arms) e f

one-arm : (spilled : SpilledTerms) (stars part : List Star) (lone : Star) (a : Arm) (new : Bool) → lone_star spilled part ≡ Some lone → required_of lone.body ≡ a ∷ [] → new ≡ is_new_in stars a.value →
    merged_optional spilled stars part ≡ (if new then put_optional spilled lone a stars else None)
one-arm spilled stars part lone a new e f n = by-lone spilled stars part lone (a ∷ []) e f ∙ ap (λ (b : Bool). if b then put_optional spilled lone a stars else None) (sym n)

pub not_new : (spilled : SpilledTerms) (stars part : List Star) (lone : Star) (a : Arm) → lone_star spilled part ≡ Some lone → required_of lone.body ≡ a ∷ [] → is_new_in stars a.value ≡ false → merged_optional spilled stars part ≡ None
not_new spilled stars part lone a e f n = one-arm spilled stars part lone a false e f (sym n)

pub none_takes : (spilled : SpilledTerms) (stars part : List Star) (lone : Star) (a : Arm) (o : Option ℕ) → lone_star spilled part ≡ Some lone → required_of lone.body ≡ a ∷ [] → is_new_in stars a.value ≡ true →
    o ≡ first_place (λ (s : Star). takes_arms_of spilled s lone) stars → o ≡ None → merged_optional spilled stars part ≡ None
none_takes spilled stars part lone a o e f n p q = one-arm spilled stars part lone a true e f (sym n) ∙ optional-at spilled lone a stars lone None (sym q ∙ p)

pub one_takes : (spilled : SpilledTerms) (stars part merged : List Star) (lone old star : Star) (a : Arm) (o : Option ℕ) (at : ℕ) → merged ≡ slice_set stars at star → star ≡ with_optional_arm old a → old ≡ slice_index_or stars at old →
    lone_star spilled part ≡ Some lone → required_of lone.body ≡ a ∷ [] → is_new_in stars a.value ≡ true → o ≡ first_place (λ (s : Star). takes_arms_of spilled s lone) stars → o ≡ Some at → merged_optional spilled stars part ≡ Some merged
one_takes spilled stars part merged lone old star a o at m s i e f n p q =
    one-arm spilled stars part lone a true e f (sym n) ∙ optional-at spilled lone a stars old (Some at) (sym q ∙ p)
    ∙ ap (λ (x : Star). Some (slice_set stars at x)) (sym (s ∙ ap (λ (x : Star). with_optional_arm x a) i)) ∙ ap (λ (ss : List Star). Some ss) (sym m)

-- ---- a union

abbrev sides : Option Star → Option Star → Option (List Star)
sides a b = option_and_then (λ (star : Star). option_and_then (λ (other : Star). if same_entity star other then Some (either_of star other) else None) b) a

pub no_left : (spilled : SpilledTerms) (left right : List Star) → lone_star spilled left ≡ None → merged_union spilled left right ≡ None
no_left spilled left right e = ap (λ (o : Option Star). sides o (lone_star spilled right)) e

pub no_right : (spilled : SpilledTerms) (left right : List Star) (star : Star) → lone_star spilled left ≡ Some star → lone_star spilled right ≡ None → merged_union spilled left right ≡ None
no_right spilled left right star e f = ap₂ sides e f

pub together : (spilled : SpilledTerms) (left right : List Star) (star other : Star) → lone_star spilled left ≡ Some star → lone_star spilled right ≡ Some other → same_entity star other ≡ true → merged_union spilled left right ≡ Some (either_of star other)
together spilled left right star other e f t = ap₂ sides e f ∙ ap (λ (b : Bool). if b then Some (either_of star other) else None) t

pub apart : (spilled : SpilledTerms) (left right : List Star) (star other : Star) → lone_star spilled left ≡ Some star → lone_star spilled right ≡ Some other → same_entity star other ≡ false → merged_union spilled left right ≡ None
apart spilled left right star other e f t = ap₂ sides e f ∙ ap (λ (b : Bool). if b then Some (either_of star other) else None) t

pub ruleset optional_laws = (no_lone, no_arm, more_arms, not_new, none_takes)

pub ruleset union_laws = (no_left, no_right, together, apart)
