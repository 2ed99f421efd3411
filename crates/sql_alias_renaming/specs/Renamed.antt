-- Nodes under new aliases, by what their parts are under these.
use Rattle.std.specs.Prelude.{◌≡◌, ℕ, ℤ, Bool, List, [], ◌∷◌, map, Option, Some, None, refl}
use Rattle.std.proofs.Common.{sym, ap, ap₂, ◌∙◌}
use Rattle.table_meaning.specs.declared.kind.Kind.{Kind}
use Rattle.sql_meaning.specs.Levels.{fold_name, fold_int, fold_text, fold_truth, fold_null, fold_branch}
use Rattle.sql_meaning.specs.declared.expression.SqlExpr.{SqlExpr, out-SqlExpr, fold_out-SqlExpr, map-SqlExpr}
use Rattle.sql_meaning.specs.declared.expression.SqlExpr.TheOpen as o
use Rattle.sql_meaning.specs.declared.expression.SqlExpr.TheOpen.{SqlExpr-F}
use Rattle.sql_meaning.specs.declared.expression.SqlExpr.TheVariants as v
use Rattle.sql_meaning.specs.declared.expression.Branch.{Branch}
use Rattle.sql_meaning.specs.declared.script.Core.{Core}
use Rattle.sql_meaning.specs.declared.script.Body.{Body}
use Rattle.sql_meaning.specs.declared.script.Script.{Script}
use Rattle.sql_meaning.specs.declared.script.Step.{Step}
use Rattle.sql_meaning.specs.declared.script.Item.{Item}
use Rattle.sql_meaning.specs.declared.script.JoinTo.{JoinTo}
use Rattle.sql_meaning.specs.declared.script.SqlKey.{SqlKey}
use Rattle.sql_alias_meaning.specs.Each.{Each, EachOption, none, next}
use Rattle.sql_rows_meaning.specs.Rows.{script_rows}
use Rattle.sql_alias_laws.specs.Aliases.{Name, NewNames, alias_step, alias_branch_step, realias, realias_branch, realias_from, realias_item, realias_join, realias_key, realias_condition, realias_core, realias_body, realias_step, realias_script, script_aliases}
use Rattle.sql_alias_laws.specs.RenamedRows.{script-renamed}
use Rattle.sql_alias_renaming.specs.NewNames.{new_name, HaveNewNames, IsSameScript}
use Rattle.sql_alias_renaming.specs.Parts.{branches_of, items_with, joins_with, keys_with, steps_with}
use Rattle.sql_alias_renaming.specs.declared.names.AliasPair.{AliasPair}

module _ (f : NewNames) where
  opened : (n : SqlExpr) (d : SqlExpr-F SqlExpr Branch) → out-SqlExpr n ≡ d → realias n f ≡ alias_step (map-SqlExpr SqlExpr Branch (NewNames → SqlExpr) (NewNames → Branch) realias realias_branch d) f
  opened n d is =
      ap (λ (g : NewNames → SqlExpr). g f) (fold_out-SqlExpr (NewNames → SqlExpr) (NewNames → Branch) alias_step alias_branch_step n)
      ∙ ap (λ (e : SqlExpr-F SqlExpr Branch). alias_step (map-SqlExpr SqlExpr Branch (NewNames → SqlExpr) (NewNames → Branch) realias realias_branch e) f) is

  -- leaves
  pub renamed_name : (a c : Name) → realias (v.Name a c) f ≡ v.Name (f a) c
  renamed_name a c = ap (λ (g : NewNames → SqlExpr). g f) (fold_name alias_step alias_branch_step a c)

  pub renamed_int : (i : ℤ) → realias (v.Int i) f ≡ v.Int i
  renamed_int i = ap (λ (g : NewNames → SqlExpr). g f) (fold_int alias_step alias_branch_step i)

  pub renamed_text : (t : List ℕ) → realias (v.Text t) f ≡ v.Text t
  renamed_text t = ap (λ (g : NewNames → SqlExpr). g f) (fold_text alias_step alias_branch_step t)

  pub renamed_truth : (b : Bool) → realias (v.Truth b) f ≡ v.Truth b
  renamed_truth b = ap (λ (g : NewNames → SqlExpr). g f) (fold_truth alias_step alias_branch_step b)

  pub renamed_null : (k : Kind) → realias (v.Null k) f ≡ v.Null k
  renamed_null k = ap (λ (g : NewNames → SqlExpr). g f) (fold_null alias_step alias_branch_step k)

  -- expressions around parts
  pub renamed_equal : (n a b x y : SqlExpr) → out-SqlExpr n ≡ o.Equal a b → x ≡ realias a f → y ≡ realias b f → v.Equal x y ≡ realias n f
  renamed_equal n a b x y is h k = ap₂ v.Equal h k ∙ sym (opened n (o.Equal a b) is)

  pub renamed_less : (n a b x y : SqlExpr) → out-SqlExpr n ≡ o.Less a b → x ≡ realias a f → y ≡ realias b f → v.Less x y ≡ realias n f
  renamed_less n a b x y is h k = ap₂ v.Less h k ∙ sym (opened n (o.Less a b) is)

  pub renamed_not : (n a x : SqlExpr) → out-SqlExpr n ≡ o.Not a → x ≡ realias a f → v.Not x ≡ realias n f
  renamed_not n a x is h = ap v.Not h ∙ sym (opened n (o.Not a) is)

  pub renamed_is_null : (n a x : SqlExpr) → out-SqlExpr n ≡ o.IsNull a → x ≡ realias a f → v.IsNull x ≡ realias n f
  renamed_is_null n a x is h = ap v.IsNull h ∙ sym (opened n (o.IsNull a) is)

  through : (xs es : List SqlExpr) → Each (λ x e. x ≡ realias e f) xs es → xs ≡ map (λ (e : NewNames → SqlExpr). e f) (map realias es)
  through [] [] none = refl
  through [] (e ∷ es) h = elim h [ ]
  through (x ∷ xs) [] h = elim h [ ]
  through (x ∷ xs) (e ∷ es) (next h k) = ap₂ (λ (y : SqlExpr) (ys : List SqlExpr). y ∷ ys) h (through xs es k)

  pub renamed_all : (n : SqlExpr) (es xs : List SqlExpr) → out-SqlExpr n ≡ o.All es → Each (λ x e. x ≡ realias e f) xs es → v.All xs ≡ realias n f
  renamed_all n es xs is h = ap v.All (through xs es h) ∙ sym (opened n (o.All es) is)

  pub renamed_any : (n : SqlExpr) (es xs : List SqlExpr) → out-SqlExpr n ≡ o.Any es → Each (λ x e. x ≡ realias e f) xs es → v.Any xs ≡ realias n f
  renamed_any n es xs is h = ap v.Any (through xs es h) ∙ sym (opened n (o.Any es) is)

  pub renamed_first : (n : SqlExpr) (es xs : List SqlExpr) → out-SqlExpr n ≡ o.First es → Each (λ x e. x ≡ realias e f) xs es → v.First xs ≡ realias n f
  renamed_first n es xs is h = ap v.First (through xs es h) ∙ sym (opened n (o.First es) is)

  one-branch : (b : Branch) (x y : SqlExpr) → x ≡ realias b.test f → y ≡ realias b.value f → record { test = x; value = y } ≡ realias_branch b f
  one-branch b x y h k =
      let pair : record { test = x; value = y } ≡ record { test = realias b.test f; value = realias b.value f } = λ i. record { test = h i; value = k i } in
      pair ∙ sym (ap (λ (g : NewNames → Branch). g f) (fold_branch alias_step alias_branch_step b))

  branches : (xs ys : List SqlExpr) (bs : List Branch) → Each (λ x (b : Branch). x ≡ realias b.test f) xs bs → Each (λ x (b : Branch). x ≡ realias b.value f) ys bs →
      branches_of xs ys ≡ map (λ (b : NewNames → Branch). b f) (map realias_branch bs)
  branches [] [] [] none none = refl
  branches [] (y ∷ ys) [] h k = elim k [ ]
  branches (x ∷ xs) ys [] h k = elim h [ ]
  branches [] ys (b ∷ bs) h k = elim h [ ]
  branches (x ∷ xs) [] (b ∷ bs) h k = elim k [ ]
  branches (x ∷ xs) (y ∷ ys) (b ∷ bs) (next h hs) (next k ks) = ap₂ (λ (c : Branch) (cs : List Branch). c ∷ cs) (one-branch b x y h k) (branches xs ys bs hs ks)

  pub renamed_case : (n last z : SqlExpr) (bs cs : List Branch) (xs ys : List SqlExpr) → out-SqlExpr n ≡ o.Case bs last → Each (λ x (b : Branch). x ≡ realias b.test f) xs bs →
      Each (λ x (b : Branch). x ≡ realias b.value f) ys bs → cs ≡ branches_of xs ys → z ≡ realias last f → v.Case cs z ≡ realias n f
  renamed_case n last z bs cs xs ys is h k j l = ap₂ v.Case (j ∙ branches xs ys bs h k) l ∙ sym (opened n (o.Case bs last) is)

  items : (is : List Item) (xs : List SqlExpr) → Each (λ x (i : Item). x ≡ realias i.expr f) xs is → items_with is xs ≡ map (realias_item f) is
  items [] [] none = refl
  items [] (x ∷ xs) h = elim h [ ]
  items (i ∷ is) [] h = elim h [ ]
  items (i ∷ is) (x ∷ xs) (next h k) = ap₂ (λ (y : SqlExpr) (ys : List Item). record { expr = y; name = i.name } ∷ ys) h (items is xs k)

  joins : (js : List JoinTo) (xs : List SqlExpr) → Each (λ x (j : JoinTo). x ≡ realias j.on f) xs js → joins_with f js xs ≡ map (realias_join f) js
  joins [] [] none = refl
  joins [] (x ∷ xs) h = elim h [ ]
  joins (j ∷ js) [] h = elim h [ ]
  joins (j ∷ js) (x ∷ xs) (next h k) = ap₂ (λ (y : SqlExpr) (ys : List JoinTo). record { left = j.left; source = record { table = j.source.table; alias = f j.source.alias }; on = y } ∷ ys) h (joins js xs k)

  keys : (ks : List SqlKey) (xs : List SqlExpr) → Each (λ x (k : SqlKey). x ≡ realias k.expr f) xs ks → keys_with ks xs ≡ map (realias_key f) ks
  keys [] [] none = refl
  keys [] (x ∷ xs) h = elim h [ ]
  keys (k ∷ ks) [] h = elim h [ ]
  keys (k ∷ ks) (x ∷ xs) (next h hs) = ap₂ (λ (y : SqlExpr) (ys : List SqlKey). record { expr = y; down = k.down } ∷ ys) h (keys ks xs hs)

  condition : (x c : Option SqlExpr) → EachOption (λ x (e : SqlExpr). x ≡ realias e f) x c → x ≡ realias_condition f c
  condition None None h = refl
  condition None (Some e) h = absurd h
  condition (Some x) None h = absurd h
  condition (Some x) (Some e) h = ap (λ (y : SqlExpr). Some y) h

  pub renamed_core : (c x : Core) (is js ks : List SqlExpr) (e : Option SqlExpr) → Each (λ x (i : Item). x ≡ realias i.expr f) is c.items → Each (λ x (j : JoinTo). x ≡ realias j.on f) js c.joins →
      EachOption (λ x (e : SqlExpr). x ≡ realias e f) e c.condition → Each (λ x (k : SqlKey). x ≡ realias k.expr f) ks c.keys →
      x.distinct ≡ c.distinct → x.items ≡ items_with c.items is → x.from ≡ realias_from f c.from → x.joins ≡ joins_with f c.joins js → x.condition ≡ e → x.keys ≡ keys_with c.keys ks →
      x.most ≡ c.most → x.skip ≡ c.skip → x ≡ realias_core f c
  renamed_core c x is js ks e h j g k d hi r hj he hk m s =
      let hi' : x.items ≡ map (realias_item f) c.items = hi ∙ items c.items is h in
      let hj' : x.joins ≡ map (realias_join f) c.joins = hj ∙ joins c.joins js j in
      let he' : x.condition ≡ realias_condition f c.condition = he ∙ condition e c.condition g in
      let hk' : x.keys ≡ map (realias_key f) c.keys = hk ∙ keys c.keys ks k in
      λ n. record { distinct = d n; items = hi' n; from = r n; joins = hj' n; condition = he' n; keys = hk' n; most = m n; skip = s n }

  cores : (xs cs : List Core) → Each (λ x (c : Core). x ≡ realias_core f c) xs cs → xs ≡ map (realias_core f) cs
  cores [] [] none = refl
  cores [] (c ∷ cs) h = elim h [ ]
  cores (x ∷ xs) [] h = elim h [ ]
  cores (x ∷ xs) (c ∷ cs) (next h k) = ap₂ (λ (y : Core) (ys : List Core). y ∷ ys) h (cores xs cs k)

  pub renamed_body : (b x : Body) (xs : List Core) → Each (λ x (c : Core). x ≡ realias_core f c) xs b.cores → x.cores ≡ xs → x ≡ realias_body f b
  renamed_body b x xs h is = let e : x.cores ≡ map (realias_core f) b.cores = is ∙ cores xs b.cores h in λ i. record { cores = e i }

  steps : (ss : List Step) (xs : List Body) → Each (λ x (s : Step). x ≡ realias_body f s.body) xs ss → steps_with ss xs ≡ map (realias_step f) ss
  steps [] [] none = refl
  steps [] (x ∷ xs) h = elim h [ ]
  steps (s ∷ ss) [] h = elim h [ ]
  steps (s ∷ ss) (x ∷ xs) (next h k) = ap₂ (λ (y : Body) (ys : List Step). record { name = s.name; body = y } ∷ ys) h (steps ss xs k)

  script : (s x : Script) (xs : List Body) → Each (λ x (t : Step). x ≡ realias_body f t.body) xs s.steps → x.steps ≡ steps_with s.steps xs → x.last ≡ realias_body f s.last → x ≡ realias_script f s
  script s x xs h is k = let e : x.steps ≡ map (realias_step f) s.steps = is ∙ steps s.steps xs h in λ i. record { steps = e i; last = k i }

pub renamed_script : (pairs : List AliasPair) (s x : Script) (xs : List Body) → HaveNewNames pairs (script_aliases s) → Each (λ x (t : Step). x ≡ realias_body (new_name pairs) t.body) xs s.steps →
    x.steps ≡ steps_with s.steps xs → x.last ≡ realias_body (new_name pairs) s.last → IsSameScript pairs x s
renamed_script pairs s x xs fits h is k =
    let made : x ≡ realias_script (new_name pairs) s = script (new_name pairs) s x xs h is k in
    record { under = made; rows = λ tables. ap (λ (r : Script). script_rows r tables) made ∙ script-renamed fits.told s (λ a n. n) tables }

pub ruleset renames = (renamed_name, renamed_int, renamed_text, renamed_truth, renamed_null, renamed_equal, renamed_less, renamed_not, renamed_is_null, renamed_all, renamed_any, renamed_first, renamed_case, renamed_core, renamed_body, renamed_script)
