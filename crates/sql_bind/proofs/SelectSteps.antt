-- The check of one SELECT, part by part.
use Rattle.std.proofs.Common.{◌≡◌, ℕ, suc, ◌+◌, ◌<◌, Bool, true, false, List, [], ◌∷◌, length, drop, get_or, Option, Some, None, Ok, Err, refl, ap, ◌∙◌}
use Rattle.std.specs.Prelude.{if◌then◌else◌, ◌&&◌}
use Rattle.std.specs.Str.{bytes_eq}
use Rattle.table_meaning.specs.declared.kind.Kind.TheVariants.{Truth}
use Rattle.table_meaning.specs.declared.schema.Column.{Column}
use Rattle.sql_meaning.specs.declared.script.Core.{Core}
use Rattle.sql_rows_meaning.specs.declared.fault.FaultKind.{FaultKind}
use Rattle.sql_rows_meaning.specs.declared.fault.FaultKind.TheVariants.{KindClash}
use Rattle.sql_rows_meaning.specs.Faults.{Checked, and_then}
use Rattle.sql_rows_meaning.specs.Scopes.{Scope, Schemas, Seen}
use Rattle.sql_rows_meaning.specs.Checks.{KindChecked, same_kind}
use Rattle.sql_rows_meaning.specs.Binding.{check_from, check_joins, check_items, check_like, check_where, check_keys, check_select, same_columns}
use Rattle.sql_rows_meaning.specs.declared.schema.NamedSchema.{NamedSchema}
use Rattle.sql_bind_meaning.specs.declared.script.BoundCore.{BoundCore}
use Rattle.sql_bind_meaning.specs.declared.script.BoundJoin.{BoundJoin}
use Rattle.sql_bind_meaning.specs.declared.expression.BoundExpr.{BoundExpr}
use Rattle.sql_bind_laws.specs.Places.{places_of, first_sources, all_sources, place_from, place_joins, place_items, place_condition, place_keys, place_core}
use Rattle.sql_bind.specs.Parts.{check_sources, check_front, check_rest}
use Rattle.sql_bind.proofs.Fronts.{at-front}

regroup : {F X Y Z : Type 0} (a : Checked F X) (f : X → Checked F Y) (g : Y → Checked F Z) → and_then a (λ x. and_then (f x) g) ≡ and_then (and_then a f) g
regroup (Ok x) f g = refl
regroup (Err e) f g = refl

-- what follows the sources
abbrev after : Option (List Column) → Core → Seen → Checked FaultKind (List Column)
after first c seen =
    and_then (check_items seen.scope [] c.items) (λ columns.
    and_then (check_like first columns) (λ columns. and_then (check_where seen.scope c.condition) (λ _. and_then (check_keys seen.scope c.keys) (λ _. Ok columns))))

by-sources : (schemas : Schemas) (first : Option (List Column)) (c : Core) → check_select schemas first c ≡ and_then (check_sources schemas c) (after first c)
by-sources schemas first c = regroup (check_from schemas c.from) (check_joins schemas c.joins) (after first c)

by-rest : (scope : Scope) (c : Core) (columns : List Column) → ◌≡◌ {A = Checked FaultKind (List Column)} (and_then (check_where scope c.condition) (λ _. and_then (check_keys scope c.keys) (λ _. Ok columns))) (and_then (check_rest scope c) (λ _. Ok columns))
by-rest scope c columns = regroup (check_where scope c.condition) (λ _. check_keys scope c.keys) (λ _. Ok columns)

-- ---- the front

pub front_no_from : (schemas : Schemas) (c : Core) (k : FaultKind) → check_from schemas c.from ≡ Err k → check_front schemas c ≡ Err k
front_no_from schemas c k h = ap (λ (x : Checked FaultKind Seen). and_then (and_then x (check_joins schemas c.joins)) (λ seen. check_items seen.scope [] c.items)) h

pub front_no_joins : (schemas : Schemas) (c : Core) (start : Seen) (k : FaultKind) → check_from schemas c.from ≡ Ok start → check_joins schemas c.joins start ≡ Err k → check_front schemas c ≡ Err k
front_no_joins schemas c start k f h =
    ap (λ (x : Checked FaultKind Seen). and_then (and_then x (check_joins schemas c.joins)) (λ seen. check_items seen.scope [] c.items)) f
    ∙ ap (λ (x : Checked FaultKind Seen). and_then x (λ seen. check_items seen.scope [] c.items)) h

pub front_no_items : (schemas : Schemas) (c : Core) (start seen : Seen) (k : FaultKind) → check_from schemas c.from ≡ Ok start → check_joins schemas c.joins start ≡ Ok seen → check_items seen.scope [] c.items ≡ Err k → check_front schemas c ≡ Err k
front_no_items schemas c start seen k f j h =
    ap (λ (x : Checked FaultKind Seen). and_then (and_then x (check_joins schemas c.joins)) (λ seen. check_items seen.scope [] c.items)) f
    ∙ ap (λ (x : Checked FaultKind Seen). and_then x (λ seen. check_items seen.scope [] c.items)) j ∙ h

pub front_seen : (schemas : Schemas) (c : Core) (start seen : Seen) → check_from schemas c.from ≡ Ok start → check_joins schemas c.joins start ≡ Ok seen → check_sources schemas c ≡ Ok seen
front_seen schemas c start seen f j = ap (λ (x : Checked FaultKind Seen). and_then x (check_joins schemas c.joins)) f ∙ j

pub ruleset front_paths = (front_no_from, front_no_joins, front_no_items, front_seen)

-- ---- the whole

pub select_no_front : (schemas : Schemas) (first : Option (List Column)) (c : Core) (k : FaultKind) → check_front schemas c ≡ Err k → check_select schemas first c ≡ Err k
select_no_front schemas first c k h = by-sources schemas first c ∙ at (check_sources schemas c) h
  where
    at : (x : Checked FaultKind Seen) → and_then x (λ seen. check_items seen.scope [] c.items) ≡ Err k → and_then x (after first c) ≡ Err k
    at (Ok seen) e = ap (λ (x : Checked FaultKind (List Column)). and_then x (λ columns. and_then (check_like first columns) (λ columns. and_then (check_where seen.scope c.condition) (λ _. and_then (check_keys seen.scope c.keys) (λ _. Ok columns))))) e
    at (Err l) e = let same : l ≡ k = cc in ap Err same

select-behind : (schemas : Schemas) (first : Option (List Column)) (c : Core) (seen : Seen) (columns : List Column) → check_sources schemas c ≡ Ok seen → check_items seen.scope [] c.items ≡ Ok columns →
    check_select schemas first c ≡ and_then (check_like first columns) (λ columns. and_then (check_where seen.scope c.condition) (λ _. and_then (check_keys seen.scope c.keys) (λ _. Ok columns)))
select-behind schemas first c seen columns s i =
    by-sources schemas first c ∙ ap (λ (x : Checked FaultKind Seen). and_then x (after first c)) s
    ∙ ap (λ (x : Checked FaultKind (List Column)). and_then x (λ columns. and_then (check_like first columns) (λ columns. and_then (check_where seen.scope c.condition) (λ _. and_then (check_keys seen.scope c.keys) (λ _. Ok columns))))) i

select-rest : (schemas : Schemas) (first : Option (List Column)) (c : Core) (seen : Seen) (columns : List Column) → check_sources schemas c ≡ Ok seen → check_items seen.scope [] c.items ≡ Ok columns → check_like first columns ≡ Ok columns →
    check_select schemas first c ≡ and_then (check_rest seen.scope c) (λ _. Ok columns)
select-rest schemas first c seen columns s i l =
    select-behind schemas first c seen columns s i
    ∙ ap (λ (x : Checked FaultKind (List Column)). and_then x (λ columns. and_then (check_where seen.scope c.condition) (λ _. and_then (check_keys seen.scope c.keys) (λ _. Ok columns)))) l
    ∙ by-rest seen.scope c columns

like-same : (first columns : List Column) → same_columns first columns ≡ true → check_like (Some first) columns ≡ Ok columns
like-same first columns h = ap (λ (b : Bool). if b then Ok columns else Err KindClash) h

pub first_fine : (schemas : Schemas) (c : Core) (seen : Seen) (columns : List Column) → check_sources schemas c ≡ Ok seen → check_items seen.scope [] c.items ≡ Ok columns → check_rest seen.scope c ≡ Ok Truth → check_select schemas None c ≡ Ok columns
first_fine schemas c seen columns s i r = select-rest schemas None c seen columns s i refl ∙ ap (λ (x : KindChecked). and_then x (λ _. Ok columns)) r

pub first_no_rest : (schemas : Schemas) (c : Core) (seen : Seen) (columns : List Column) (k : FaultKind) → check_sources schemas c ≡ Ok seen → check_items seen.scope [] c.items ≡ Ok columns → check_rest seen.scope c ≡ Err k → check_select schemas None c ≡ Err k
first_no_rest schemas c seen columns k s i r = select-rest schemas None c seen columns s i refl ∙ ap (λ (x : KindChecked). and_then x (λ _. Ok columns)) r

pub like_fine : (schemas : Schemas) (c : Core) (seen : Seen) (first columns : List Column) → check_sources schemas c ≡ Ok seen → check_items seen.scope [] c.items ≡ Ok columns → same_columns first columns ≡ true → check_rest seen.scope c ≡ Ok Truth →
    check_select schemas (Some first) c ≡ Ok columns
like_fine schemas c seen first columns s i l r = select-rest schemas (Some first) c seen columns s i (like-same first columns l) ∙ ap (λ (x : KindChecked). and_then x (λ _. Ok columns)) r

pub like_no_rest : (schemas : Schemas) (c : Core) (seen : Seen) (first columns : List Column) (k : FaultKind) → check_sources schemas c ≡ Ok seen → check_items seen.scope [] c.items ≡ Ok columns → same_columns first columns ≡ true → check_rest seen.scope c ≡ Err k →
    check_select schemas (Some first) c ≡ Err k
like_no_rest schemas c seen first columns k s i l r = select-rest schemas (Some first) c seen columns s i (like-same first columns l) ∙ ap (λ (x : KindChecked). and_then x (λ _. Ok columns)) r

pub unlike : (schemas : Schemas) (c : Core) (seen : Seen) (first columns : List Column) → check_sources schemas c ≡ Ok seen → check_items seen.scope [] c.items ≡ Ok columns → same_columns first columns ≡ false → check_select schemas (Some first) c ≡ Err KindClash
unlike schemas c seen first columns s i l =
    select-behind schemas (Some first) c seen columns s i
    ∙ ap (λ (b : Bool). and_then (if b then Ok columns else Err KindClash) (λ columns. and_then (check_where seen.scope c.condition) (λ _. and_then (check_keys seen.scope c.keys) (λ _. Ok columns)))) l

pub core_placed : (known : List NamedSchema) (c : Core) (b : BoundCore) (sources : List NamedSchema) (items : List BoundExpr) (from : Option ℕ) (joins : List BoundJoin) →
    sources ≡ all_sources known (first_sources known c.from) c.joins → from ≡ place_from known c.from → joins ≡ place_joins known (first_sources known c.from) c.joins → items ≡ place_items (places_of sources) c.items →
    b ≡ record { distinct = c.distinct; items = items; from = from; joins = joins; condition = place_condition (places_of sources) c.condition; keys = place_keys (places_of sources) c.keys; most = c.most; skip = c.skip } →
    b ≡ place_core known c
core_placed known c b sources items from joins s f j i h =
    let k : items ≡ place_items (places_of (all_sources known (first_sources known c.from) c.joins)) c.items = i ∙ ap (λ (l : List NamedSchema). place_items (places_of l) c.items) s in
    h ∙ (λ t. record { distinct = c.distinct; items = k t; from = f t; joins = j t; condition = place_condition (places_of (s t)) c.condition; keys = place_keys (places_of (s t)) c.keys; most = c.most; skip = c.skip })

pub ruleset select_paths = (select_no_front, first_fine, first_no_rest, like_fine, like_no_rest, unlike, core_placed)

-- ---- columns one by one

both-front : (x y : Column) (xs ys : List Column) → same_columns (x ∷ xs) (y ∷ ys) ≡ ((bytes_eq x.name y.name && same_kind x.kind y.kind) && same_columns xs ys)
both-front x y xs ys = at (bytes_eq x.name y.name) (same_kind x.kind y.kind) (same_columns xs ys)
  where
    at : (a b c : Bool) → (a && (b && c)) ≡ ((a && b) && c)
    at true b c = refl
    at false b c = refl

pub columns_next : (cs ds : List Column) (i : ℕ) (x y : Column) (w : Bool) → i < length cs → i < length ds → x ≡ get_or cs i x → y ≡ get_or ds i y → w ≡ same_columns (drop i cs) (drop i ds) → (bytes_eq x.name y.name && same_kind x.kind y.kind) ≡ true →
    w ≡ same_columns (drop (i + 1) cs) (drop (i + 1) ds)
columns_next cs ds i x y w la lb ia ib was same =
    was ∙ ap (λ (l : List Column). same_columns l (drop i ds)) (at-front cs i x la ia) ∙ ap (same_columns (x ∷ drop (i + 1) cs)) (at-front ds i y lb ib)
    ∙ both-front x y (drop (i + 1) cs) (drop (i + 1) ds) ∙ ap (λ (b : Bool). b && same_columns (drop (i + 1) cs) (drop (i + 1) ds)) same

pub columns_differ : (cs ds : List Column) (i : ℕ) (x y : Column) (w : Bool) → i < length cs → i < length ds → x ≡ get_or cs i x → y ≡ get_or ds i y → w ≡ same_columns (drop i cs) (drop i ds) → (bytes_eq x.name y.name && same_kind x.kind y.kind) ≡ false → w ≡ false
columns_differ cs ds i x y w la lb ia ib was same =
    was ∙ ap (λ (l : List Column). same_columns l (drop i ds)) (at-front cs i x la ia) ∙ ap (same_columns (x ∷ drop (i + 1) cs)) (at-front ds i y lb ib)
    ∙ both-front x y (drop (i + 1) cs) (drop (i + 1) ds) ∙ ap (λ (b : Bool). b && same_columns (drop (i + 1) cs) (drop (i + 1) ds)) same

and-no : (a : Bool) → (a && false) ≡ false
and-no true = refl
and-no false = refl

pub unlike_counts : (cs ds : List Column) → (length cs ≡ length ds → ⊥) → same_columns cs ds ≡ false
unlike_counts [] [] h = absurd (h refl)
unlike_counts [] (b ∷ ds) h = refl
unlike_counts (a ∷ cs) [] h = refl
unlike_counts (a ∷ cs) (b ∷ ds) h =
    both-front a b cs ds ∙ ap (λ (c : Bool). (bytes_eq a.name b.name && same_kind a.kind b.kind) && c) (unlike_counts cs ds (λ e. h (ap suc e))) ∙ and-no (bytes_eq a.name b.name && same_kind a.kind b.kind)

pub ruleset column_steps = (columns_next, columns_differ, unlike_counts)
