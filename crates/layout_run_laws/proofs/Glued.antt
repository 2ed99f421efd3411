-- Rows whose lists have other numbers, and what a change does to them.
use Rattle.std.proofs.Common.{◌≡◌, ℕ, zero, suc, ◌+◌, ◌==◌, Bool, true, false, if◌then◌else◌, is_some, List, [], ◌∷◌, ◌++◌, map, replicate, Option, Some, None, option_map, refl, sym, ap, ◌∙◌}
use Rattle.std.specs.Ordering.{nat_cmp}
use Rattle.std.specs.BTreeMap.{is_at}
use Rattle.std.specs.Map.{lookup}
use Rattle.layout_meaning.specs.declared.value.Value.{Value}
use Rattle.layout_meaning.specs.declared.value.Value.TheVariants.{One, Many}
use Rattle.layout_meaning.specs.Side.{Pair, Row, Rows, Entities, or_empty, rows_of, find_in_row, find, or_else, all_free, keep, write_in_row, write, is_none, free_at, put_at, first_free, first_of, put_or, place_new, put_by, with_rows}
use Rattle.layout_run_laws.proofs.Keyed.{changed, KeysBelow, lookup-behind, set-behind, remove-behind, insert-behind, lookup-changed, set-changed, remove-changed, insert-changed}

-- the numbers of lists, each k higher
abbrev pub raised_value : ℕ → Value → Value
raised_value k (One v) = One v
raised_value k (Many n) = Many (k + n)

abbrev pub raised_pair : ℕ → Option Pair → Option Pair
raised_pair k None = None
raised_pair k (Some q) = Some (record { pred = q.pred; value = raised_value k q.value })

abbrev pub raised_row : ℕ → Row → Row
raised_row k r = map (raised_pair k) r

abbrev pub raised_rows : ℕ → Rows → Rows
raised_rows k rs = map (raised_row k) rs

-- an entity is as it is
abbrev pub same : ℕ → ℕ
same n = n

abbrev pub raised_entities : ℕ → Entities → Entities
raised_entities k ents = map (changed same (raised_rows k)) ents

keeps_same : (a b : ℕ) → nat_cmp (same a) (same b) ≡ nat_cmp a b
keeps_same a b = refl

module _ (k : ℕ) where
  raised-find_in_row : (p : ℕ) (r : Row) → find_in_row p (raised_row k r) ≡ option_map (raised_value k) (find_in_row p r)
  raised-find_in_row p [] = refl
  raised-find_in_row p (None ∷ r) = raised-find_in_row p r
  raised-find_in_row p (Some q ∷ r) = by (q.pred == p) (raised-find_in_row p r)
    where
      by : (b : Bool) → find_in_row p (raised_row k r) ≡ option_map (raised_value k) (find_in_row p r)
          → (if b then Some (raised_value k q.value) else find_in_row p (raised_row k r)) ≡ option_map (raised_value k) (if b then Some q.value else find_in_row p r)
      by true ih = refl
      by false ih = ih

  pub raised-find : (p : ℕ) (rs : Rows) → find p (raised_rows k rs) ≡ option_map (raised_value k) (find p rs)
  raised-find p [] = refl
  raised-find p (r ∷ rs) = rw (raised-find_in_row p r) (by (find_in_row p r) (raised-find p rs))
    where
      by : (o : Option Value) → find p (raised_rows k rs) ≡ option_map (raised_value k) (find p rs) → or_else (option_map (raised_value k) o) (find p (raised_rows k rs)) ≡ option_map (raised_value k) (or_else o (find p rs))
      by None ih = ih
      by (Some v) ih = refl

  raised-all_free : (r : Row) → all_free (raised_row k r) ≡ all_free r
  raised-all_free [] = refl
  raised-all_free (None ∷ r) = raised-all_free r
  raised-all_free (Some q ∷ r) = refl

  raised-is_none : (o : Option Pair) → is_none (raised_pair k o) ≡ is_none o
  raised-is_none None = refl
  raised-is_none (Some q) = refl

  raised-free_at : (r : Row) (c : ℕ) → free_at (raised_row k r) c ≡ free_at r c
  raised-free_at [] c = refl
  raised-free_at (o ∷ r) zero = raised-is_none o
  raised-free_at (o ∷ r) (suc c) = raised-free_at r c

  raised-put_at : (r : Row) (c : ℕ) (new : Option Pair) → put_at (raised_row k r) c (raised_pair k new) ≡ raised_row k (put_at r c new)
  raised-put_at [] c new = refl
  raised-put_at (o ∷ r) zero new = refl
  raised-put_at (o ∷ r) (suc c) new = ap (λ (l : Row). raised_pair k o ∷ l) (raised-put_at r c new)

  raised-first_free : (r : Row) (cs : List ℕ) → first_free (raised_row k r) cs ≡ first_free r cs
  raised-first_free r [] = refl
  raised-first_free r (c ∷ cs) = rw (raised-free_at r c, raised-first_free r cs) refl

  raised-empty : (n : ℕ) → raised_row k (replicate n None) ≡ replicate n None
  raised-empty zero = refl
  raised-empty (suc n) = ap (λ (l : Row). None ∷ l) (raised-empty n)

  pub raised-place_new : (n : ℕ) (cs : List ℕ) (p v : ℕ) (rs : Rows) → place_new n cs (record { pred = p; value = One v }) (raised_rows k rs) ≡ raised_rows k (place_new n cs (record { pred = p; value = One v }) rs)
  raised-place_new n cs p v [] =
      ap (λ (r : Row). put_at r (first_of cs) (Some (record { pred = p; value = One v })) ∷ []) (sym (raised-empty n))
      ∙ ap (λ (r : Row). r ∷ []) (raised-put_at (replicate n None) (first_of cs) (Some (record { pred = p; value = One v })))
  raised-place_new n cs p v (r ∷ rs) = rw (raised-first_free r cs) (by (first_free r cs) (raised-place_new n cs p v rs))
    where
      new : Pair
      new = record { pred = p; value = One v }

      by : (o : Option ℕ) → place_new n cs new (raised_rows k rs) ≡ raised_rows k (place_new n cs new rs)
          → put_or o (raised_row k r) new (raised_rows k rs) (place_new n cs new (raised_rows k rs)) ≡ raised_rows k (put_or o r new rs (place_new n cs new rs))
      by None ih = ap (λ (l : Rows). raised_row k r ∷ l) ih
      by (Some c) ih = ap (λ (l : Row). l ∷ raised_rows k rs) (raised-put_at r c (Some new))

  raised-write_in_row : (p : ℕ) (new : Option Pair) (r : Row) → write_in_row p (raised_pair k new) (raised_row k r) ≡ raised_row k (write_in_row p new r)
  raised-write_in_row p new [] = refl
  raised-write_in_row p new (None ∷ r) = ap (λ (l : Row). None ∷ l) (raised-write_in_row p new r)
  raised-write_in_row p new (Some q ∷ r) = by (q.pred == p) (raised-write_in_row p new r)
    where
      by : (b : Bool) → write_in_row p (raised_pair k new) (raised_row k r) ≡ raised_row k (write_in_row p new r)
          → (if b then raised_pair k new ∷ raised_row k r else raised_pair k (Some q) ∷ write_in_row p (raised_pair k new) (raised_row k r)) ≡ raised_row k (if b then new ∷ r else Some q ∷ write_in_row p new r)
      by true ih = refl
      by false ih = ap (λ (l : Row). raised_pair k (Some q) ∷ l) ih

  raised-keep : (r : Row) (rs : Rows) → keep (raised_row k r) (raised_rows k rs) ≡ raised_rows k (keep r rs)
  raised-keep r rs = rw (raised-all_free r) (by (all_free r))
    where
      by : (b : Bool) → (if b then raised_rows k rs else raised_row k r ∷ raised_rows k rs) ≡ raised_rows k (if b then rs else r ∷ rs)
      by true = refl
      by false = refl

  some_value : (o : Option Value) → is_some (option_map (raised_value k) o) ≡ is_some o
  some_value None = refl
  some_value (Some v) = refl

  pub raised-write : (p : ℕ) (new : Option Pair) (rs : Rows) → write p (raised_pair k new) (raised_rows k rs) ≡ raised_rows k (write p new rs)
  raised-write p new [] = refl
  raised-write p new (r ∷ rs) =
      let found : is_some (find_in_row p (raised_row k r)) ≡ is_some (find_in_row p r) = ap (λ (o : Option Value). is_some o) (raised-find_in_row p r) ∙ some_value (find_in_row p r) in
      let kept : keep (write_in_row p (raised_pair k new) (raised_row k r)) (raised_rows k rs) ≡ raised_rows k (keep (write_in_row p new r) rs) =
      ap (λ (l : Row). keep l (raised_rows k rs)) (raised-write_in_row p new r) ∙ raised-keep (write_in_row p new r) rs in
      rw found (by (is_some (find_in_row p r)) kept (raised-write p new rs))
    where
      by : (b : Bool) → keep (write_in_row p (raised_pair k new) (raised_row k r)) (raised_rows k rs) ≡ raised_rows k (keep (write_in_row p new r) rs)
          → write p (raised_pair k new) (raised_rows k rs) ≡ raised_rows k (write p new rs)
          → (if b then keep (write_in_row p (raised_pair k new) (raised_row k r)) (raised_rows k rs) else raised_row k r ∷ write p (raised_pair k new) (raised_rows k rs))
          ≡ raised_rows k (if b then keep (write_in_row p new r) rs else r ∷ write p new rs)
      by true kept ih = kept
      by false kept ih = ap (λ (l : Rows). raised_row k r ∷ l) ih

  -- ---- entities behind lower ones

  found-behind : (e : ℕ) (first ents : Entities) → KeysBelow e first → lookup (is_at (nat_cmp e)) (first ++ raised_entities k ents) ≡ option_map (raised_rows k) (lookup (is_at (nat_cmp e)) ents)
  found-behind e first ents h = lookup-behind e first (raised_entities k ents) h ∙ lookup-changed same (raised_rows k) keeps_same e ents

  pub rows-behind : (e : ℕ) (first ents : Entities) → KeysBelow e first → rows_of (first ++ raised_entities k ents) e ≡ raised_rows k (rows_of ents e)
  rows-behind e first ents h = ap (λ (o : Option Rows). or_empty o) (found-behind e first ents h) ∙ by (lookup (is_at (nat_cmp e)) ents)
    where
      by : (o : Option Rows) → or_empty (option_map (raised_rows k) o) ≡ raised_rows k (or_empty o)
      by None = refl
      by (Some rs) = refl

  pub with_rows-behind : (e : ℕ) (first ents : Entities) (new : Rows) → KeysBelow e first → with_rows (first ++ raised_entities k ents) e (raised_rows k new) ≡ first ++ raised_entities k (with_rows ents e new)
  with_rows-behind e first ents new h = rw (found-behind e first ents h) (by (lookup (is_at (nat_cmp e)) ents) new)
    where
      by : (o : Option Rows) (new : Rows) → put_by (option_map (raised_rows k) o) (first ++ raised_entities k ents) e (raised_rows k new) ≡ first ++ raised_entities k (put_by o ents e new)
      by None new = insert-behind e (raised_rows k new) first (raised_entities k ents) h ∙ ap (λ (l : Entities). first ++ l) (insert-changed same (raised_rows k) keeps_same e new ents)
      by (Some old) [] = remove-behind e first (raised_entities k ents) h ∙ ap (λ (l : Entities). first ++ l) (remove-changed same (raised_rows k) keeps_same e ents)
      by (Some old) (r ∷ rs) = set-behind e (raised_rows k (r ∷ rs)) first (raised_entities k ents) h ∙ ap (λ (l : Entities). first ++ l) (set-changed same (raised_rows k) keeps_same e (r ∷ rs) ents)
