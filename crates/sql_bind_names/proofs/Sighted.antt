-- Sources by their aliases, of which the last one stands first.
use Rattle.std.proofs.Common.{◌≡◌, ◌⊎◌, ℕ, suc, ◌+◌, Bool, true, false, List, [], ◌∷◌, ◌++◌, map, length, Option, Some, None, is_some, refl, sym, ap, ◌∙◌, subst, arith, inl, inr}
use Rattle.std.specs.Prelude.{reverse, ◌||◌, not, cond, if◌then◌else◌}
use Rattle.std.specs.Borrow.{Bor}
use Rattle.std.proofs.lemmas.Bool.{cases_Bool}
use Rattle.std.proofs.lemmas.List.{map-append, reverse-append}
use Rattle.std.proofs.lemmas.Slice.Eq.{bytes_eq-Decides}
use Rattle.std.specs.List.{list_any, position, position_or_len, AllByRecursion, IsDistinct}
use Rattle.std.specs.Map.{lookup, keys_of}
use Rattle.std.specs.Str.{bytes_eq}
use Rattle.table_meaning.specs.declared.kind.Kind.{Kind}
use Rattle.table_meaning.specs.declared.schema.Column.{Column}
use Rattle.sql_rows_meaning.specs.declared.schema.NamedSchema.{NamedSchema}
use Rattle.sql_rows_meaning.specs.Scopes.{kind_under}
use Rattle.sql_bind_meaning.specs.declared.expression.BoundExpr.{BoundExpr}
use Rattle.sql_bind_meaning.specs.declared.expression.BoundExpr.TheVariants as v
use Rattle.sql_bind_laws.specs.Places.{column_place, seen_of, places_of}
use Rattle.sql_bind_names.specs.declared.found.Place.{Place}
use Rattle.sql_bind_names.specs.Found.{Finds}
use Rattle.sql_bind_names.specs.Newest.{source_of, newest_first, scope_in}
use Rattle.sql_bind_names.proofs.Texts.{place-is}

abbrev Entries : Type 0
Entries = List (List ℕ × Bor (List Column))

join-one : (xs : List NamedSchema) (y : NamedSchema) (ys : List NamedSchema) → (xs ++ y ∷ []) ++ ys ≡ xs ++ y ∷ ys
join-one [] y ys = refl
join-one (x ∷ xs) y ys = ap (λ (l : List NamedSchema). x ∷ l) (join-one xs y ys)

-- the first source stands behind those after it
first-behind : (x : List ℕ × Bor (List Column)) (xs : Entries) (earlier : List NamedSchema) → newest_first (x ∷ xs) ++ earlier ≡ newest_first xs ++ source_of x ∷ earlier
first-behind x xs earlier = ap (λ (l : List NamedSchema). l ++ earlier) (reverse-append (source_of x ∷ []) (map source_of xs)) ∙ join-one (newest_first xs) (source_of x) earlier

-- the last source stands first
pub newest_added : (es new : Entries) (x : List ℕ × Bor (List Column)) (sources : List NamedSchema) → newest_first es ≡ sources → new ≡ es ++ x ∷ [] → newest_first new ≡ source_of x ∷ sources
newest_added es new x sources view h =
    ap newest_first h ∙ ap reverse (map-append source_of es (x ∷ [])) ∙ reverse-append (map source_of es) (source_of x ∷ []) ∙ ap (λ (l : List NamedSchema). source_of x ∷ l) view

nothing-behind : (xs : List NamedSchema) → xs ++ [] ≡ xs
nothing-behind [] = refl
nothing-behind (x ∷ xs) = ap (λ (l : List NamedSchema). x ∷ l) (nothing-behind xs)

-- ---- aliases

or-true : (b : Bool) → (b || true) ≡ true
or-true true = refl
or-true false = refl

taken-behind : (es : Entries) (alias : List ℕ) (earlier : List NamedSchema) →
    list_any (bytes_eq alias) (seen_of (newest_first es ++ earlier)).aliases ≡ (is_some (lookup (bytes_eq alias) es) || list_any (bytes_eq alias) (seen_of earlier).aliases)
taken-behind [] alias earlier = refl
taken-behind (x ∷ xs) alias earlier =
    ap (λ (l : List NamedSchema). list_any (bytes_eq alias) (seen_of l).aliases) (first-behind x xs earlier) ∙ taken-behind xs alias (source_of x ∷ earlier)
    ∙ at (bytes_eq alias x.0) (list_any (bytes_eq alias) (seen_of earlier).aliases)
  where
    at : (b t : Bool) → (is_some (lookup (bytes_eq alias) xs) || (b || t)) ≡ (is_some (cond b (Some x.1) (lookup (bytes_eq alias) xs)) || t)
    at true t = or-true (is_some (lookup (bytes_eq alias) xs))
    at false t = refl

or-false : (b : Bool) → (b || false) ≡ b
or-false true = refl
or-false false = refl

pub taken_told : (es : Entries) (alias : List ℕ) (sources : List NamedSchema) → newest_first es ≡ sources → is_some (lookup (bytes_eq alias) es) ≡ list_any (bytes_eq alias) (seen_of sources).aliases
taken_told es alias sources view =
    sym (or-false (is_some (lookup (bytes_eq alias) es))) ∙ sym (taken-behind es alias [])
    ∙ ap (λ (l : List NamedSchema). list_any (bytes_eq alias) (seen_of l).aliases) (nothing-behind (newest_first es) ∙ view)

pub not_taken : (es : Entries) (alias : List ℕ) (sources : List NamedSchema) → newest_first es ≡ sources → list_any (bytes_eq alias) (seen_of sources).aliases ≡ false → lookup (bytes_eq alias) es ≡ None
not_taken es alias sources view h = at (lookup (bytes_eq alias) es) (taken_told es alias sources view ∙ h)
  where
    at : (o : Option (Bor (List Column))) → is_some o ≡ false → o ≡ None
    at None e = refl
    at (Some columns) e = cc

-- ---- columns under an alias

-- what names under the alias stand for: the columns of the source with this number
record StandsFor (sources : List NamedSchema) (alias name : List ℕ) (columns : List Column) (n : ℕ) : Type 0 where
  kinds : (seen_of sources).scope alias name ≡ kind_under columns name
  places : places_of sources alias name ≡ column_place n 0 columns name

-- what they stand for among the earlier sources
record StandsAs (sources earlier : List NamedSchema) (alias name : List ℕ) : Type 0 where
  kinds : (seen_of sources).scope alias name ≡ (seen_of earlier).scope alias name
  places : places_of sources alias name ≡ places_of earlier alias name

-- sources with other aliases hide nothing
passed : (es : Entries) (alias name : List ℕ) (earlier : List NamedSchema) → AllByRecursion (λ k. bytes_eq alias k ≡ false) (keys_of es) → StandsAs (newest_first es ++ earlier) earlier alias name
passed [] alias name earlier h = record { kinds = refl; places = refl }
passed (x ∷ xs) alias name earlier h =
    let rest = passed xs alias name (source_of x ∷ earlier) h.1 in
    subst (λ (l : List NamedSchema). StandsAs l earlier alias name) (sym (first-behind x xs earlier)) (record {
      kinds = rest.kinds ∙ ap (λ (b : Bool). if b then kind_under x.1.now name else (seen_of earlier).scope alias name) h.0;
      places = rest.places ∙ ap (λ (b : Bool). if b then column_place (length earlier) 0 x.1.now name else places_of earlier alias name) h.0;
    })

seen-behind : (es : Entries) (alias name : List ℕ) (earlier : List NamedSchema) (columns : Bor (List Column)) → IsDistinct bytes_eq (keys_of es) → lookup (bytes_eq alias) es ≡ Some columns →
    StandsFor (newest_first es ++ earlier) alias name columns.now (position_or_len (bytes_eq alias) (keys_of es) + length earlier)
unfolding IsDistinct
seen-behind [] alias name earlier columns d h = cc
seen-behind (x ∷ xs) alias name earlier columns d h =
    subst (λ (l : List NamedSchema). StandsFor l alias name columns.now (cond (not (bytes_eq alias x.0)) (1 + position_or_len (bytes_eq alias) (keys_of xs)) 0 + length earlier)) (sym (first-behind x xs earlier))
    (at (seen-behind xs alias name (source_of x ∷ earlier) columns d.1) (cases_Bool (bytes_eq alias x.0)))
  where
    here : alias ≡ x.0 → bytes_eq alias x.0 ≡ true → cond (bytes_eq alias x.0) (Some x.1) (lookup (bytes_eq alias) xs) ≡ Some columns →
        StandsFor (newest_first xs ++ source_of x ∷ earlier) alias name columns.now (cond (not (bytes_eq alias x.0)) (1 + position_or_len (bytes_eq alias) (keys_of xs)) 0 + length earlier)
    here same e found =
        let rest = passed xs alias name (source_of x ∷ earlier) (subst (λ (a : List ℕ). AllByRecursion (λ k. bytes_eq a k ≡ false) (keys_of xs)) (sym same) d.0) in
        let it : Some x.1 ≡ Some columns = ap (λ (b : Bool). cond b (Some x.1) (lookup (bytes_eq alias) xs)) (sym e) ∙ found in
        let one : x.1 ≡ columns = cc in
        let none : length earlier ≡ 0 + length earlier = omega arith in
        let number : length earlier ≡ cond (not (bytes_eq alias x.0)) (1 + position_or_len (bytes_eq alias) (keys_of xs)) 0 + length earlier =
        none ∙ ap (λ (b : Bool). cond (not b) (1 + position_or_len (bytes_eq alias) (keys_of xs)) 0 + length earlier) (sym e) in
        record {
          kinds = rest.kinds ∙ ap (λ (b : Bool). if b then kind_under x.1.now name else (seen_of earlier).scope alias name) e ∙ ap (λ (c : Bor (List Column)). kind_under c.now name) one;
          places = rest.places ∙ ap (λ (b : Bool). if b then column_place (length earlier) 0 x.1.now name else places_of earlier alias name) e ∙ ap (λ (c : Bor (List Column)). column_place (length earlier) 0 c.now name) one
              ∙ ap (λ (n : ℕ). column_place n 0 columns.now name) number;
        }

    later : (lookup (bytes_eq alias) xs ≡ Some columns → StandsFor (newest_first xs ++ source_of x ∷ earlier) alias name columns.now (position_or_len (bytes_eq alias) (keys_of xs) + suc (length earlier))) →
        bytes_eq alias x.0 ≡ false → cond (bytes_eq alias x.0) (Some x.1) (lookup (bytes_eq alias) xs) ≡ Some columns →
        StandsFor (newest_first xs ++ source_of x ∷ earlier) alias name columns.now (cond (not (bytes_eq alias x.0)) (1 + position_or_len (bytes_eq alias) (keys_of xs)) 0 + length earlier)
    later rest e found =
        let it : lookup (bytes_eq alias) xs ≡ Some columns = ap (λ (b : Bool). cond b (Some x.1) (lookup (bytes_eq alias) xs)) (sym e) ∙ found in
        let sum : position_or_len (bytes_eq alias) (keys_of xs) + suc (length earlier) ≡ 1 + position_or_len (bytes_eq alias) (keys_of xs) + length earlier = omega arith in
        let number : position_or_len (bytes_eq alias) (keys_of xs) + suc (length earlier) ≡ cond (not (bytes_eq alias x.0)) (1 + position_or_len (bytes_eq alias) (keys_of xs)) 0 + length earlier =
        sum ∙ ap (λ (b : Bool). cond (not b) (1 + position_or_len (bytes_eq alias) (keys_of xs)) 0 + length earlier) (sym e) in
        subst (StandsFor (newest_first xs ++ source_of x ∷ earlier) alias name columns.now) number (rest it)

    at : (lookup (bytes_eq alias) xs ≡ Some columns → StandsFor (newest_first xs ++ source_of x ∷ earlier) alias name columns.now (position_or_len (bytes_eq alias) (keys_of xs) + suc (length earlier))) →
        (bytes_eq alias x.0 ≡ true) ⊎ (bytes_eq alias x.0 ≡ false) →
        StandsFor (newest_first xs ++ source_of x ∷ earlier) alias name columns.now (cond (not (bytes_eq alias x.0)) (1 + position_or_len (bytes_eq alias) (keys_of xs)) 0 + length earlier)
    at rest (inl e) = here ((bytes_eq-Decides alias x.0).0 e) e h
    at rest (inr e) = later rest e h

none-looked_up : (es : Entries) (alias : List ℕ) → lookup (bytes_eq alias) es ≡ None → AllByRecursion (λ k. bytes_eq alias k ≡ false) (keys_of es)
none-looked_up [] alias h = tt
none-looked_up (x ∷ xs) alias h = at (none-looked_up xs alias) (cases_Bool (bytes_eq alias x.0))
  where
    at : (lookup (bytes_eq alias) xs ≡ None → AllByRecursion (λ k. bytes_eq alias k ≡ false) (keys_of xs)) → (bytes_eq alias x.0 ≡ true) ⊎ (bytes_eq alias x.0 ≡ false) → AllByRecursion (λ k. bytes_eq alias k ≡ false) (keys_of (x ∷ xs))
    at rest (inl e) = let it : Some x.1 ≡ None = ap (λ (b : Bool). cond b (Some x.1) (lookup (bytes_eq alias) xs)) (sym e) ∙ h in cc
    at rest (inr e) = (e, rest (ap (λ (b : Bool). cond b (Some x.1) (lookup (bytes_eq alias) xs)) (sym e) ∙ h))

pub seen_under : (es : Entries) (sources : List NamedSchema) (alias name : List ℕ) (n : ℕ) (columns : Bor (List Column)) (found : Option Place) → newest_first es ≡ sources → IsDistinct bytes_eq (keys_of es) →
    Some n ≡ position (bytes_eq alias) (keys_of es) → Some columns ≡ lookup (bytes_eq alias) es → Finds (kind_under columns.now name) (column_place n 0 columns.now name) found →
    Finds (scope_in sources alias name) (places_of sources alias name) found
seen_under es sources alias name n columns found view d at looked here =
    let stands = seen-behind es alias name [] columns d (sym looked) in
    let number : n ≡ position_or_len (bytes_eq alias) (keys_of es) = place-is (bytes_eq alias) (keys_of es) n at in
    let same : n ≡ position_or_len (bytes_eq alias) (keys_of es) + 0 = omega arith in
    let kinds : kind_under columns.now name ≡ scope_in sources alias name = sym stands.kinds ∙ ap (λ (l : List NamedSchema). (seen_of l).scope alias name) (nothing-behind (newest_first es) ∙ view) in
    let places : column_place n 0 columns.now name ≡ places_of sources alias name =
    ap (λ (m : ℕ). column_place m 0 columns.now name) same ∙ sym stands.places ∙ ap (λ (l : List NamedSchema). places_of l alias name) (nothing-behind (newest_first es) ∙ view) in
    subst (λ (k : Option Kind). Finds k (places_of sources alias name) found) kinds (subst (λ (p : BoundExpr). Finds (kind_under columns.now name) p found) places here)

pub seen_nowhere : (es : Entries) (sources : List NamedSchema) (alias name : List ℕ) → newest_first es ≡ sources → None ≡ lookup (bytes_eq alias) es → Finds (scope_in sources alias name) (places_of sources alias name) None
seen_nowhere es sources alias name view h =
    let it = passed es alias name [] (none-looked_up es alias (sym h)) in
    ap (λ (l : List NamedSchema). (seen_of l).scope alias name) (sym (nothing-behind (newest_first es) ∙ view)) ∙ it.kinds
