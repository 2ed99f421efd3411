-- The planned plan comes from its query, where its variables are below the width.
use Rattle.std.specs.Prelude.{◌≡◌, ℕ, Bool, true, false, not, ◌&&◌, ◌||◌, List, [], ◌∷◌, map, refl}
use Rattle.std.proofs.Common.{sym, ap, subst, ◌∙◌}
use Rattle.std.proofs.lemmas.Bool.{and_parts, and_from}
use Rattle.std.specs.List.{list_any, list_all}
use Rattle.bags.specs.Bag.{SameBag}
use Rattle.bags.specs.BagLaws.{same-any}
use Rattle.layout_meaning.specs.Facts.{CountsOf}
use Rattle.query_meaning.specs.declared.modifiers.Modifiers.{Modifiers}
use Rattle.query_meaning.specs.declared.pattern.Pattern.{Pattern}
use Rattle.query_meaning.specs.declared.query.Query.{Query}
use Rattle.query_meaning.specs.declared.tree.Tree.{Tree}
use Rattle.query_eval_meaning.specs.Width.{slot_in_width, pattern_in_width}
use Rattle.query_algebra_laws.specs.TreeInduction.{tree_induction}
use Rattle.query_plan_meaning.specs.declared.star.Star.{Star}
use Rattle.query_plan_meaning.specs.Stars.{star_in_width}
use Rattle.query_plan_meaning.specs.Plans.{every_leaf, ComesFrom}
use Rattle.query_plan_meaning.specs.PlanLaws.{every-Leaf, every-Join, every-LeftJoin, every-Union, every-Filter}
use Rattle.query_flow_meaning.specs.declared.step.Method.{Method}
use Rattle.query_flow_meaning.specs.declared.step.Method.TheVariants.{Direct, Reverse, Scan}
use Rattle.query_flow_meaning.specs.Flow.{Choice, patterns_in, flow_of}
use Rattle.query_flow_meaning.specs.Planned.{star_by, star_of, planned_leaf, are_numbered_apart, is_ready, planned_tree, planned}
use Rattle.query_flow_laws.proofs.Greedy.{flow_of-is, flow-takes}
use Rattle.query_flow_laws.proofs.Leaves.{every-with, every-more}
use Rattle.query_flow_laws.proofs.Planned.{apart-distinct, planned-comes}
use Rattle.exec_tree.specs.Plans.{IsPlannedTree}

-- ---- what each item of a bag passes

none-fails : {X : Type 0} (p : X → Bool) (xs : List X) → list_all p xs ≡ not (list_any (λ x. not (p x)) xs)
none-fails p [] = refl
none-fails p (x ∷ xs) = at (p x) (none-fails p xs)
  where
    at : (b : Bool) → list_all p xs ≡ not (list_any (λ y. not (p y)) xs) → (b && list_all p xs) ≡ not (not b || list_any (λ y. not (p y)) xs)
    at true e = e
    at false e = refl

same-all : {X : Type 0} (p : X → Bool) (xs ys : List X) → SameBag xs ys → list_all p xs ≡ list_all p ys
same-all p xs ys s = none-fails p xs ∙ ap not (same-any (λ x. not (p x)) xs ys s) ∙ sym (none-fails p ys)

-- ---- the variables of a pattern are those of its star

direct-below : (x p o : Bool) → (x && ((p && o) && true)) ≡ true → (x && (p && o)) ≡ true
direct-below true true true e = refl
direct-below true true false e = e
direct-below true false o e = e
direct-below false p o e = e

reverse-below : (x p o : Bool) → (o && ((p && x) && true)) ≡ true → (x && (p && o)) ≡ true
reverse-below true true true e = refl
reverse-below true true false e = e
reverse-below true false true e = e
reverse-below true false false e = e
reverse-below false true true e = e
reverse-below false true false e = e
reverse-below false false true e = e
reverse-below false false false e = e

pattern-below : (p : Pattern) (m : Method) → star_in_width (star_by p m) ≡ true → pattern_in_width p ≡ true
pattern-below p Direct e = direct-below (slot_in_width p.s) (slot_in_width p.p) (slot_in_width p.o) e
pattern-below p Reverse e = reverse-below (slot_in_width p.s) (slot_in_width p.p) (slot_in_width p.o) e
pattern-below p Scan e = direct-below (slot_in_width p.s) (slot_in_width p.p) (slot_in_width p.o) e

flow-below : (flow : List Choice) → list_all star_in_width (map star_of flow) ≡ true → list_all pattern_in_width (patterns_in flow) ≡ true
flow-below [] e = refl
flow-below (c ∷ flow) e =
    let h = and_parts (star_in_width (star_of c)) (list_all star_in_width (map star_of flow)) e in
    and_from (pattern_in_width c.pattern) (list_all pattern_in_width (patterns_in flow)) (pattern-below c.pattern c.method h.0) (flow-below flow h.1)

leaf-ready : (counts : CountsOf) (ps : List Pattern) → (are_numbered_apart ps && list_all star_in_width (planned_leaf counts ps)) ≡ true → is_ready ps ≡ true
leaf-ready counts ps e =
    let h = and_parts (are_numbered_apart ps) (list_all star_in_width (planned_leaf counts ps)) e in
    and_from (are_numbered_apart ps) (list_all pattern_in_width ps) h.0
    (sym (same-all pattern_in_width (patterns_in (flow_of counts ps)) ps (flow-takes counts [] ps (apart-distinct ps h.0) (flow_of counts ps) (flow_of-is counts ps))) ∙ flow-below (flow_of counts ps) h.1)

-- ---- trees

-- two tests of every leaf
every-both : {L : Type 0} (p q : L → Bool) (t : Tree L) → every_leaf p t ≡ true → every_leaf q t ≡ true → every_leaf (λ l. p l && q l) t ≡ true
every-both {L} p q =
    let r : L → Bool = λ l. p l && q l in
    tree_induction (λ t. every_leaf p t ≡ true → every_leaf q t ≡ true → every_leaf r t ≡ true)
    (λ l d e. every-Leaf r l ∙ and_from (p l) (q l) (sym (every-Leaf p l) ∙ d) (sym (every-Leaf q l) ∙ e))
    (λ a b x y d e.
    let h = and_parts (every_leaf p a) (every_leaf p b) (sym (every-Join p a b) ∙ d) in
    let k = and_parts (every_leaf q a) (every_leaf q b) (sym (every-Join q a b) ∙ e) in
    every-Join r a b ∙ and_from (every_leaf r a) (every_leaf r b) (x h.0 k.0) (y h.1 k.1))
    (λ a b c x y d e.
    let h = and_parts (every_leaf p a) (every_leaf p b) (sym (every-LeftJoin p a b c) ∙ d) in
    let k = and_parts (every_leaf q a) (every_leaf q b) (sym (every-LeftJoin q a b c) ∙ e) in
    every-LeftJoin r a b c ∙ and_from (every_leaf r a) (every_leaf r b) (x h.0 k.0) (y h.1 k.1))
    (λ a b x y d e.
    let h = and_parts (every_leaf p a) (every_leaf p b) (sym (every-Union p a b) ∙ d) in
    let k = and_parts (every_leaf q a) (every_leaf q b) (sym (every-Union q a b) ∙ e) in
    every-Union r a b ∙ and_from (every_leaf r a) (every_leaf r b) (x h.0 k.0) (y h.1 k.1))
    (λ c a x d e. every-Filter r c a ∙ x (sym (every-Filter p c a) ∙ d) (sym (every-Filter q c a) ∙ e))

comes : (counts : CountsOf) (q : Query) → every_leaf are_numbered_apart q.tree ≡ true → every_leaf (list_all star_in_width) (planned_tree counts q.tree) ≡ true → ComesFrom q (planned counts q)
comes counts q e w =
    planned-comes counts q
    (every-more (λ ps. are_numbered_apart ps && list_all star_in_width (planned_leaf counts ps)) is_ready (leaf-ready counts) q.tree
    (every-both are_numbered_apart (λ ps. list_all star_in_width (planned_leaf counts ps)) q.tree e (sym (every-with (planned_leaf counts) (list_all star_in_width) q.tree) ∙ w)))

pub comes_as : (counts : CountsOf) (q : Query) (names : List (List ℕ)) (tree : Tree (List Star)) (modifiers : Modifiers) → names ≡ q.names → modifiers ≡ q.modifiers → IsPlannedTree counts q.tree tree →
    every_leaf are_numbered_apart q.tree ≡ true → ComesFrom q (record { names = names; tree = tree; modifiers = modifiers })
comes_as counts q names tree modifiers n m h e =
    subst (λ (ns : List (List ℕ)). ComesFrom q (record { names = ns; tree = tree; modifiers = modifiers })) (sym n)
    (subst (λ (ms : Modifiers). ComesFrom q (record { names = q.names; tree = tree; modifiers = ms })) (sym m)
    (subst (λ (t : Tree (List Star)). ComesFrom q (record { names = q.names; tree = t; modifiers = q.modifiers })) (sym h.same)
    (comes counts q e (subst (λ (t : Tree (List Star)). every_leaf (list_all star_in_width) t ≡ true) h.same h.in_width))))
