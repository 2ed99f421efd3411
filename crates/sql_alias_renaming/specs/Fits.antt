-- The parts of what can be renamed can be renamed.
use Rattle.std.specs.Prelude.{◌≡◌, zero, suc, List, [], ◌∷◌, ◌++◌, map, Option, Some, Contains}
use Rattle.std.proofs.Common.{sym, subst, arith}
use Rattle.std.specs.List.{flat_map}
use Rattle.sql_meaning.specs.Levels.{fold_branch}
use Rattle.sql_meaning.specs.declared.expression.SqlExpr.{SqlExpr, out-SqlExpr, fold_out-SqlExpr, map-SqlExpr}
use Rattle.sql_meaning.specs.declared.expression.SqlExpr.TheOpen as o
use Rattle.sql_meaning.specs.declared.expression.SqlExpr.TheOpen.{SqlExpr-F}
use Rattle.sql_meaning.specs.declared.expression.Branch.{Branch, fold-Branch}
use Rattle.sql_meaning.specs.declared.script.Core.{Core}
use Rattle.sql_meaning.specs.declared.script.Body.{Body}
use Rattle.sql_meaning.specs.declared.script.Script.{Script}
use Rattle.sql_meaning.specs.declared.script.Step.{Step}
use Rattle.sql_meaning.specs.declared.script.Item.{Item}
use Rattle.sql_meaning.specs.declared.script.JoinTo.{JoinTo}
use Rattle.sql_meaning.specs.declared.script.SqlKey.{SqlKey}
use Rattle.sql_alias_meaning.specs.Nodes.{parts, parts_in, branches, branches_in}
use Rattle.sql_alias_laws.specs.Aliases.{Name, aliases_step, branch_aliases_step, aliases, from_aliases, join_aliases, condition_aliases, core_aliases, body_aliases, script_aliases}
use Rattle.sql_alias_laws.specs.RenamedValues.{Within, within-left, within-right}
use Rattle.sql_alias_renaming.specs.NewNames.{HaveNewNames}
use Rattle.sql_alias_renaming.specs.declared.names.AliasPair.{AliasPair}

narrower : (pairs : List AliasPair) (some names : List Name) → Within some names → HaveNewNames pairs names → HaveNewNames pairs some
narrower pairs some names w h = record {
  paired = λ a i. h.paired a (w a i);
  named = λ a i. h.named a (w a i);
  told = record { apart = λ a b i j. h.told.apart a b (w a i) (w b j) };
}

front : (xs ys : List Name) → Within xs (xs ++ ys)
front xs ys = within-left xs ys (xs ++ ys) (λ a h. h)

back : (xs ys : List Name) → Within ys (xs ++ ys)
back xs ys = within-right xs ys (xs ++ ys) (λ a h. h)

nothing-in : {A : Type 0} (x : A) → Contains [] x → ⊥
nothing-in x c = let lt = c.1 in omega arith

-- what one of the parts has, all of them have
module _ {A : Type 0} (names : A → List Name) where
  one-of : (xs : List A) (x : A) → Contains xs x → Within (names x) (flat_map names xs)
  one-of [] x c = absurd (nothing-in x c)
  one-of (y ∷ ys) x (zero, lt, is) = subst (λ (z : A). Within (names z) (flat_map names (y ∷ ys))) is (front (names y) (flat_map names ys))
  one-of (y ∷ ys) x (suc k, lt, is) = λ a h. back (names y) (flat_map names ys) a (one-of ys x (k, omega arith, is) a h)

  one-of-map : (xs : List A) (x : A) → Contains xs x → Within (names x) (flat_map (λ (l : List Name). l) (map names xs))
  one-of-map [] x c = absurd (nothing-in x c)
  one-of-map (y ∷ ys) x (zero, lt, is) = subst (λ (z : A). Within (names z) (flat_map (λ (l : List Name). l) (map names (y ∷ ys)))) is (front (names y) (flat_map (λ (l : List Name). l) (map names ys)))
  one-of-map (y ∷ ys) x (suc k, lt, is) = λ a h. back (names y) (flat_map (λ (l : List Name). l) (map names ys)) a (one-of-map ys x (k, omega arith, is) a h)

abbrev branch_names : Branch → List Name
branch_names = fold-Branch (List Name) (List Name) aliases_step branch_aliases_step

abbrev layer : SqlExpr-F SqlExpr Branch → List Name
layer d = aliases_step (map-SqlExpr SqlExpr Branch (List Name) (List Name) aliases branch_names d)

opened : (n : SqlExpr) → aliases n ≡ layer (out-SqlExpr n)
opened n = fold_out-SqlExpr (List Name) (List Name) aliases_step branch_aliases_step n

one-alone : (a e : SqlExpr) → Contains (a ∷ []) e → Within (aliases e) (aliases a)
one-alone a e (zero, lt, is) = subst (λ (x : SqlExpr). Within (aliases x) (aliases a)) is (λ b h. h)
one-alone a e (suc k, lt, is) = absurd (omega arith)

one-of-two : (a b e : SqlExpr) → Contains (a ∷ b ∷ []) e → Within (aliases e) (aliases a ++ aliases b)
one-of-two a b e (zero, lt, is) = subst (λ (x : SqlExpr). Within (aliases x) (aliases a ++ aliases b)) is (front (aliases a) (aliases b))
one-of-two a b e (suc k, lt, is) = λ x h. back (aliases a) (aliases b) x (one-alone b e (k, omega arith, is) x h)

in-layer : (d : SqlExpr-F SqlExpr Branch) (e : SqlExpr) → Contains (parts_in d) e → Within (aliases e) (layer d)
in-layer (o.Name a c) e h = absurd (nothing-in e h)
in-layer (o.Int n) e h = absurd (nothing-in e h)
in-layer (o.Text t) e h = absurd (nothing-in e h)
in-layer (o.Truth b) e h = absurd (nothing-in e h)
in-layer (o.Null k) e h = absurd (nothing-in e h)
in-layer (o.Equal a b) e h = one-of-two a b e h
in-layer (o.Less a b) e h = one-of-two a b e h
in-layer (o.All es) e h = one-of-map aliases es e h
in-layer (o.Any es) e h = one-of-map aliases es e h
in-layer (o.Not a) e h = one-alone a e h
in-layer (o.IsNull a) e h = one-alone a e h
in-layer (o.Case bs last) e h = λ a i. back (flat_map (λ (l : List Name). l) (map branch_names bs)) (aliases last) a (one-alone last e h a i)
in-layer (o.First es) e h = one-of-map aliases es e h

branch-in-layer : (d : SqlExpr-F SqlExpr Branch) (b : Branch) → Contains (branches_in d) b → Within (branch_names b) (layer d)
branch-in-layer (o.Name a c) b h = absurd (nothing-in b h)
branch-in-layer (o.Int n) b h = absurd (nothing-in b h)
branch-in-layer (o.Text t) b h = absurd (nothing-in b h)
branch-in-layer (o.Truth t) b h = absurd (nothing-in b h)
branch-in-layer (o.Null k) b h = absurd (nothing-in b h)
branch-in-layer (o.Equal x y) b h = absurd (nothing-in b h)
branch-in-layer (o.Less x y) b h = absurd (nothing-in b h)
branch-in-layer (o.All es) b h = absurd (nothing-in b h)
branch-in-layer (o.Any es) b h = absurd (nothing-in b h)
branch-in-layer (o.Not a) b h = absurd (nothing-in b h)
branch-in-layer (o.IsNull a) b h = absurd (nothing-in b h)
branch-in-layer (o.Case bs last) b h = λ a i. front (flat_map (λ (l : List Name). l) (map branch_names bs)) (aliases last) a (one-of-map branch_names bs b h a i)
branch-in-layer (o.First es) b h = absurd (nothing-in b h)

closed : (some : List Name) (n : SqlExpr) → Within some (layer (out-SqlExpr n)) → Within some (aliases n)
closed some n w = subst (λ (l : List Name). Within some l) (sym (opened n)) w

branch-within : (n : SqlExpr) (b : Branch) → Contains (branches n) b → Within (aliases b.test ++ aliases b.value) (aliases n)
branch-within n b h =
    closed (aliases b.test ++ aliases b.value) n
    (subst (λ (l : List Name). Within l (layer (out-SqlExpr n))) (fold_branch aliases_step branch_aliases_step b) (branch-in-layer (out-SqlExpr n) b h))

module _ (pairs : List AliasPair) where
  pub part_fits : (n e : SqlExpr) → HaveNewNames pairs (aliases n) → Contains (parts n) e → HaveNewNames pairs (aliases e)
  part_fits n e h c = narrower pairs (aliases e) (aliases n) (closed (aliases e) n (in-layer (out-SqlExpr n) e c)) h

  pub test_fits : (n : SqlExpr) (b : Branch) → HaveNewNames pairs (aliases n) → Contains (branches n) b → HaveNewNames pairs (aliases b.test)
  test_fits n b h c = narrower pairs (aliases b.test) (aliases n) (λ a i. branch-within n b c a (front (aliases b.test) (aliases b.value) a i)) h

  pub answer_fits : (n : SqlExpr) (b : Branch) → HaveNewNames pairs (aliases n) → Contains (branches n) b → HaveNewNames pairs (aliases b.value)
  answer_fits n b h c = narrower pairs (aliases b.value) (aliases n) (λ a i. branch-within n b c a (back (aliases b.test) (aliases b.value) a i)) h

  -- the aliases of a SELECT, in their order
  abbrev items_of : Core → List Name
  items_of c = flat_map (λ (i : Item). aliases i.expr) c.items

  abbrev joins_of : Core → List Name
  joins_of c = flat_map join_aliases c.joins

  abbrev keys_of : Core → List Name
  keys_of c = flat_map (λ (k : SqlKey). aliases k.expr) c.keys

  abbrev after_joins : Core → List Name
  after_joins c = condition_aliases c.condition ++ keys_of c

  abbrev after_from : Core → List Name
  after_from c = joins_of c ++ after_joins c

  abbrev after_items : Core → List Name
  after_items c = from_aliases c.from ++ after_from c

  joins-within : (c : Core) → Within (joins_of c) (core_aliases c)
  joins-within c a h = back (items_of c) (after_items c) a (back (from_aliases c.from) (after_from c) a (front (joins_of c) (after_joins c) a h))

  after-joins-within : (c : Core) → Within (after_joins c) (core_aliases c)
  after-joins-within c a h = back (items_of c) (after_items c) a (back (from_aliases c.from) (after_from c) a (back (joins_of c) (after_joins c) a h))

  pub item_fits : (c : Core) (i : Item) → HaveNewNames pairs (core_aliases c) → Contains c.items i → HaveNewNames pairs (aliases i.expr)
  item_fits c i h k = narrower pairs (aliases i.expr) (core_aliases c) (λ a n. front (items_of c) (after_items c) a (one-of (λ (i : Item). aliases i.expr) c.items i k a n)) h

  pub join_fits : (c : Core) (j : JoinTo) → HaveNewNames pairs (core_aliases c) → Contains c.joins j → HaveNewNames pairs (aliases j.on)
  join_fits c j h k =
      narrower pairs (aliases j.on) (core_aliases c)
      (λ a n. joins-within c a (one-of join_aliases c.joins j k a (back (j.source.alias ∷ []) (aliases j.on) a n))) h

  in-condition : (x : Option SqlExpr) (e : SqlExpr) → x ≡ Some e → Within (aliases e) (condition_aliases x)
  in-condition x e is = subst (λ (y : Option SqlExpr). Within (aliases e) (condition_aliases y)) (sym is) (λ a h. h)

  pub condition_fits : (c : Core) (e : SqlExpr) → HaveNewNames pairs (core_aliases c) → c.condition ≡ Some e → HaveNewNames pairs (aliases e)
  condition_fits c e h is =
      narrower pairs (aliases e) (core_aliases c)
      (λ a n. after-joins-within c a (front (condition_aliases c.condition) (keys_of c) a (in-condition c.condition e is a n))) h

  pub key_fits : (c : Core) (k : SqlKey) → HaveNewNames pairs (core_aliases c) → Contains c.keys k → HaveNewNames pairs (aliases k.expr)
  key_fits c k h i =
      narrower pairs (aliases k.expr) (core_aliases c)
      (λ a n. after-joins-within c a (back (condition_aliases c.condition) (keys_of c) a (one-of (λ (k : SqlKey). aliases k.expr) c.keys k i a n))) h

  pub core_fits : (b : Body) (c : Core) → HaveNewNames pairs (body_aliases b) → Contains b.cores c → HaveNewNames pairs (core_aliases c)
  core_fits b c h k = narrower pairs (core_aliases c) (body_aliases b) (one-of core_aliases b.cores c k) h

  abbrev steps_of : Script → List Name
  steps_of s = flat_map (λ (t : Step). body_aliases t.body) s.steps

  pub step_fits : (s : Script) (t : Step) → HaveNewNames pairs (script_aliases s) → Contains s.steps t → HaveNewNames pairs (body_aliases t.body)
  step_fits s t h k =
      narrower pairs (body_aliases t.body) (script_aliases s)
      (λ a n. front (steps_of s) (body_aliases s.last) a (one-of (λ (t : Step). body_aliases t.body) s.steps t k a n)) h

  pub last_fits : (s : Script) → HaveNewNames pairs (script_aliases s) → HaveNewNames pairs (body_aliases s.last)
  last_fits s h = narrower pairs (body_aliases s.last) (script_aliases s) (back (steps_of s) (body_aliases s.last)) h
