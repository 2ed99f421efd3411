-- Depths by the first level of an expression, and of lists of parts.
use Rattle.std.specs.Prelude.{◌≡◌, ℕ, ℤ, suc, max, Bool, List, [], ◌∷◌, map, Option, Some, None, refl}
use Rattle.std.specs.Option.{unwrap_or}
use Rattle.std.proofs.Common.{sym, ap, ◌∙◌, arith}
use Rattle.table_meaning.specs.declared.kind.Kind.{Kind}
use Rattle.sql_meaning.specs.Levels.{fold_branch}
use Rattle.sql_meaning.specs.Scripts.{largest, depth_step, branch_depth, expr_depth, item_depth, join_depth, key_depth, condition_depth, core_depth, body_depth, step_depth, up_to}
use Rattle.sql_meaning.specs.declared.expression.SqlExpr.{SqlExpr, out-SqlExpr, fold_out-SqlExpr, map-SqlExpr}
use Rattle.sql_meaning.specs.declared.expression.SqlExpr.TheOpen as o
use Rattle.sql_meaning.specs.declared.expression.SqlExpr.TheOpen.{SqlExpr-F}
use Rattle.sql_meaning.specs.declared.expression.Branch.{Branch, fold-Branch}
use Rattle.sql_meaning.specs.declared.script.Core.{Core}
use Rattle.sql_meaning.specs.declared.script.Step.{Step}
use Rattle.sql_meaning.specs.declared.script.Item.{Item}
use Rattle.sql_meaning.specs.declared.script.JoinTo.{JoinTo}
use Rattle.sql_meaning.specs.declared.script.SqlKey.{SqlKey}
use Rattle.sql_alias_meaning.specs.Each.{Each, EachOption, none, next}

opened : (n : SqlExpr) (d : SqlExpr-F SqlExpr Branch) → out-SqlExpr n ≡ d → expr_depth n ≡ depth_step (map-SqlExpr SqlExpr Branch ℕ ℕ expr_depth (fold-Branch ℕ ℕ depth_step branch_depth) d)
opened n d is = fold_out-SqlExpr ℕ ℕ depth_step branch_depth n ∙ ap (λ (e : SqlExpr-F SqlExpr Branch). depth_step (map-SqlExpr SqlExpr Branch ℕ ℕ expr_depth (fold-Branch ℕ ℕ depth_step branch_depth) e)) is

pub depth_name : (n : SqlExpr) (a c : List ℕ) → out-SqlExpr n ≡ o.Name a c → expr_depth n ≡ 1
depth_name n a c is = opened n (o.Name a c) is

pub depth_int : (n : SqlExpr) (i : ℤ) → out-SqlExpr n ≡ o.Int i → expr_depth n ≡ 1
depth_int n i is = opened n (o.Int i) is

pub depth_text : (n : SqlExpr) (t : List ℕ) → out-SqlExpr n ≡ o.Text t → expr_depth n ≡ 1
depth_text n t is = opened n (o.Text t) is

pub depth_truth : (n : SqlExpr) (b : Bool) → out-SqlExpr n ≡ o.Truth b → expr_depth n ≡ 1
depth_truth n b is = opened n (o.Truth b) is

pub depth_null : (n : SqlExpr) (k : Kind) → out-SqlExpr n ≡ o.Null k → expr_depth n ≡ 1
depth_null n k is = opened n (o.Null k) is

deeper : (a b : ℕ) → a ≡ b → suc a ≡ suc b
deeper a b h = ap suc h

stopped-two : (a b x y d : ℕ) → d ≡ suc (max a b) → x ≡ up_to 32 a → y ≡ up_to 32 b → up_to 32 (suc (max x y)) ≡ up_to 32 d
stopped-two a b x y d is h k = omega arith

stopped-one : (a x m d : ℕ) → d ≡ suc a → up_to 32 x ≡ up_to 32 a → m ≡ up_to 32 x → up_to 32 (suc m) ≡ up_to 32 d
stopped-one a x m d is h k = omega arith

stopped-max : (a b x y : ℕ) → x ≡ up_to 32 a → up_to 32 y ≡ up_to 32 b → up_to 32 (max x y) ≡ up_to 32 (max a b)
stopped-max a b x y h k = omega arith

pub depth_equal : (n a b : SqlExpr) (x y : ℕ) → out-SqlExpr n ≡ o.Equal a b → x ≡ up_to 32 (expr_depth a) → y ≡ up_to 32 (expr_depth b) → up_to 32 (suc (max x y)) ≡ up_to 32 (expr_depth n)
depth_equal n a b x y is h k = stopped-two (expr_depth a) (expr_depth b) x y (expr_depth n) (opened n (o.Equal a b) is) h k

pub depth_less : (n a b : SqlExpr) (x y : ℕ) → out-SqlExpr n ≡ o.Less a b → x ≡ up_to 32 (expr_depth a) → y ≡ up_to 32 (expr_depth b) → up_to 32 (suc (max x y)) ≡ up_to 32 (expr_depth n)
depth_less n a b x y is h k = stopped-two (expr_depth a) (expr_depth b) x y (expr_depth n) (opened n (o.Less a b) is) h k

pub depth_not : (n a : SqlExpr) (x : ℕ) → out-SqlExpr n ≡ o.Not a → x ≡ up_to 32 (expr_depth a) → up_to 32 (suc x) ≡ up_to 32 (expr_depth n)
depth_not n a x is h = let e = opened n (o.Not a) is in omega arith

pub depth_is_null : (n a : SqlExpr) (x : ℕ) → out-SqlExpr n ≡ o.IsNull a → x ≡ up_to 32 (expr_depth a) → up_to 32 (suc x) ≡ up_to 32 (expr_depth n)
depth_is_null n a x is h = let e = opened n (o.IsNull a) is in omega arith

module _ {A : Type 0} (depth : A → ℕ) where
  -- the largest of parts
  parts-deep : (xs : List ℕ) (ys : List A) → Each (λ x y. x ≡ up_to 32 (depth y)) xs ys → up_to 32 (largest xs) ≡ up_to 32 (largest (map depth ys))
  parts-deep [] [] none = refl
  parts-deep [] (y ∷ ys) h = elim h [ ]
  parts-deep (x ∷ xs) [] h = elim h [ ]
  parts-deep (x ∷ xs) (y ∷ ys) (next h e) = stopped-max (depth y) (largest (map depth ys)) x (largest xs) h (parts-deep xs ys e)

pub depth_all : (n : SqlExpr) (es : List SqlExpr) (xs : List ℕ) (m : ℕ) → out-SqlExpr n ≡ o.All es → Each (λ x (e : SqlExpr). x ≡ up_to 32 (expr_depth e)) xs es → m ≡ up_to 32 (largest xs) → up_to 32 (suc m) ≡ up_to 32 (expr_depth n)
depth_all n es xs m is h k = stopped-one (largest (map expr_depth es)) (largest xs) m (expr_depth n) (opened n (o.All es) is) (parts-deep expr_depth xs es h) k

pub depth_any : (n : SqlExpr) (es : List SqlExpr) (xs : List ℕ) (m : ℕ) → out-SqlExpr n ≡ o.Any es → Each (λ x (e : SqlExpr). x ≡ up_to 32 (expr_depth e)) xs es → m ≡ up_to 32 (largest xs) → up_to 32 (suc m) ≡ up_to 32 (expr_depth n)
depth_any n es xs m is h k = stopped-one (largest (map expr_depth es)) (largest xs) m (expr_depth n) (opened n (o.Any es) is) (parts-deep expr_depth xs es h) k

pub depth_first : (n : SqlExpr) (es : List SqlExpr) (xs : List ℕ) (m : ℕ) → out-SqlExpr n ≡ o.First es → Each (λ x (e : SqlExpr). x ≡ up_to 32 (expr_depth e)) xs es → m ≡ up_to 32 (largest xs) → up_to 32 (suc m) ≡ up_to 32 (expr_depth n)
depth_first n es xs m is h k = stopped-one (largest (map expr_depth es)) (largest xs) m (expr_depth n) (opened n (o.First es) is) (parts-deep expr_depth xs es h) k

both-deep : (bs : List Branch) → largest (map (fold-Branch ℕ ℕ depth_step branch_depth) bs) ≡ max (largest (map (λ (b : Branch). expr_depth b.test) bs)) (largest (map (λ (b : Branch). expr_depth b.value) bs))
both-deep [] = refl
both-deep (b ∷ bs) =
    let h = both-deep bs in
    let k : fold-Branch ℕ ℕ depth_step branch_depth b ≡ max (expr_depth b.test) (expr_depth b.value) = fold_branch depth_step branch_depth b in
    omega arith

stopped-pair : (i j w x : ℕ) → w ≡ up_to 32 i → x ≡ up_to 32 j → max w x ≡ up_to 32 (max i j)
stopped-pair i j w x a b = omega arith

stopped-case : (t v l p q z d m : ℕ) → d ≡ suc (max m l) → m ≡ max t v → p ≡ up_to 32 t → q ≡ up_to 32 v → z ≡ up_to 32 l → up_to 32 (suc (max (max p q) z)) ≡ up_to 32 d
stopped-case t v l p q z d m a b h k i = stopped-two m l (max p q) z d a (stopped-pair t v p q h k ∙ sym (ap (up_to 32) b)) i

pub depth_case : (n last : SqlExpr) (bs : List Branch) (xs ys : List ℕ) (z p q : ℕ) → out-SqlExpr n ≡ o.Case bs last → Each (λ x (b : Branch). x ≡ up_to 32 (expr_depth b.test)) xs bs →
    Each (λ x (b : Branch). x ≡ up_to 32 (expr_depth b.value)) ys bs → z ≡ up_to 32 (expr_depth last) → p ≡ up_to 32 (largest xs) → q ≡ up_to 32 (largest ys) →
    up_to 32 (suc (max (max p q) z)) ≡ up_to 32 (expr_depth n)
depth_case n last bs xs ys z p q is h k l f g =
    stopped-case (largest (map (λ (b : Branch). expr_depth b.test) bs)) (largest (map (λ (b : Branch). expr_depth b.value) bs)) (expr_depth last) p q z (expr_depth n)
    (largest (map (fold-Branch ℕ ℕ depth_step branch_depth) bs)) (opened n (o.Case bs last) is) (both-deep bs) (f ∙ parts-deep (λ (b : Branch). expr_depth b.test) xs bs h)
    (g ∙ parts-deep (λ (b : Branch). expr_depth b.value) ys bs k) l

condition-deep : (x : Option ℕ) (c : Option SqlExpr) → EachOption (λ x (e : SqlExpr). x ≡ up_to 32 (expr_depth e)) x c → unwrap_or x 0 ≡ up_to 32 (condition_depth c)
condition-deep None None h = refl
condition-deep None (Some e) h = absurd h
condition-deep (Some x) None h = absurd h
condition-deep (Some x) (Some e) h = h

stopped-core : (i j c k w x y z : ℕ) → w ≡ up_to 32 i → x ≡ up_to 32 j → y ≡ up_to 32 c → z ≡ up_to 32 k → max w (max x (max y z)) ≡ up_to 32 (max i (max j (max c k)))
stopped-core i j c k w x y z a b d e = stopped-pair i (max j (max c k)) w (max x (max y z)) a (stopped-pair j (max c k) x (max y z) b (stopped-pair c k y z d e))

pub depth_core : (c : Core) (ws xs zs : List ℕ) (y : Option ℕ) (p q r s : ℕ) → Each (λ x (i : Item). x ≡ up_to 32 (expr_depth i.expr)) ws c.items → Each (λ x (j : JoinTo). x ≡ up_to 32 (expr_depth j.on)) xs c.joins →
    EachOption (λ x (e : SqlExpr). x ≡ up_to 32 (expr_depth e)) y c.condition → Each (λ x (k : SqlKey). x ≡ up_to 32 (expr_depth k.expr)) zs c.keys →
    p ≡ up_to 32 (largest ws) → q ≡ up_to 32 (largest xs) → r ≡ unwrap_or y 0 → s ≡ up_to 32 (largest zs) → max p (max q (max r s)) ≡ up_to 32 (core_depth c)
depth_core c ws xs zs y p q r s i j e k ip iq ir is =
    stopped-core (largest (map item_depth c.items)) (largest (map join_depth c.joins)) (condition_depth c.condition) (largest (map key_depth c.keys)) p q r s
    (ip ∙ parts-deep item_depth ws c.items i) (iq ∙ parts-deep join_depth xs c.joins j) (ir ∙ condition-deep y c.condition e) (is ∙ parts-deep key_depth zs c.keys k)

pub depth_cores : (cs : List Core) (xs : List ℕ) → Each (λ x (c : Core). x ≡ up_to 32 (core_depth c)) xs cs → up_to 32 (largest xs) ≡ up_to 32 (largest (map core_depth cs))
depth_cores cs xs h = parts-deep core_depth xs cs h

pub depth_steps : (ss : List Step) (xs : List ℕ) → Each (λ x (s : Step). x ≡ up_to 32 (body_depth s.body)) xs ss → up_to 32 (largest xs) ≡ up_to 32 (largest (map step_depth ss))
depth_steps ss xs h = parts-deep step_depth xs ss h

pub ruleset depths = (depth_name, depth_int, depth_text, depth_truth, depth_null, depth_equal, depth_less, depth_not, depth_is_null, depth_all, depth_any, depth_first, depth_case, depth_core, depth_cores, depth_steps)
