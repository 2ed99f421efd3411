-- Accesses, stopped at the last number.
use Rattle.std.specs.Prelude.{◌≡◌, ℕ, ◌+◌, ◌&&◌, Bool, true, false, if◌then◌else◌, List, Option}
use Rattle.std.proofs.Common.{sym, ap, ◌∙◌, arith}
use Rattle.std.proofs.lemmas.List.Folds.{list_all-append}
use Rattle.std.specs.List.{list_all}
use Rattle.bags.specs.Bag.{total}
use Rattle.rdf_meaning.specs.declared.side.SideName.{SideName}
use Rattle.rdf_meaning.specs.declared.side.SideName.TheVariants.{Direct, Reverse}
use Rattle.layout_meaning.specs.Facts.{FactsOf}
use Rattle.query_meaning.specs.declared.expression.TruthExpr.{TruthExpr}
use Rattle.query_meaning.specs.declared.tree.Tree.{Tree}
use Rattle.query_meaning.specs.declared.tree.Tree.TheVariants as trees
use Rattle.sql_meaning.specs.Scripts.{up_to}
use Rattle.query_plan_meaning.specs.declared.star.Arm.{Arm}
use Rattle.query_plan_meaning.specs.declared.star.Star.{Star}
use Rattle.query_plan_meaning.specs.declared.star.StarBody.{StarBody}
use Rattle.query_plan_meaning.specs.declared.star.StarBody.TheVariants.{Both, Either}
use Rattle.query_plan_meaning.specs.Stars.{arms_of}
use Rattle.query_plan_meaning.specs.Plans.{is_constant}
use Rattle.query_merging_meaning.specs.Accesses.{columns_on, star_accesses, accesses}
use Rattle.query_merging_meaning.proofs.AccessLaws.{accesses-Leaf, accesses-Join, accesses-LeftJoin, accesses-Union, accesses-Filter}

abbrev Constant : List Arm → Bool
Constant arms = list_all (λ (a : Arm). is_constant a.pred) arms

constant-both : (b : StarBody) (required optional : List Arm) → b ≡ Both required optional → list_all (λ (a : Arm). is_constant a.pred) (arms_of b) ≡ (list_all (λ (a : Arm). is_constant a.pred) required && list_all (λ (a : Arm). is_constant a.pred) optional)
constant-both b required optional is = ap (λ (x : StarBody). Constant (arms_of x)) is ∙ list_all-append (λ (a : Arm). is_constant a.pred) required optional

constant-either : (b : StarBody) (left right : List Arm) → b ≡ Either left right → list_all (λ (a : Arm). is_constant a.pred) (arms_of b) ≡ (list_all (λ (a : Arm). is_constant a.pred) left && list_all (λ (a : Arm). is_constant a.pred) right)
constant-either b left right is = ap (λ (x : StarBody). Constant (arms_of x)) is ∙ list_all-append (λ (a : Arm). is_constant a.pred) left right

abbrev Accesses : FactsOf → Star → Bool → ℕ
Accesses facts star b = if b then 1 else columns_on facts star.side

pub accesses-both : (facts : FactsOf) (star : Star) (required optional : List Arm) → star.body ≡ Both required optional →
    star_accesses facts star ≡ (if (list_all (λ (a : Arm). is_constant a.pred) required && list_all (λ (a : Arm). is_constant a.pred) optional) then 1 else columns_on facts star.side)
accesses-both facts star required optional is = ap (Accesses facts star) (constant-both star.body required optional is)

pub accesses-either : (facts : FactsOf) (star : Star) (left right : List Arm) → star.body ≡ Either left right →
    star_accesses facts star ≡ (if (list_all (λ (a : Arm). is_constant a.pred) left && list_all (λ (a : Arm). is_constant a.pred) right) then 1 else columns_on facts star.side)
accesses-either facts star left right is = ap (Accesses facts star) (constant-either star.body left right is)

pub ruleset star_laws = (accesses-both, accesses-either)

stopped : (a b x y d n : ℕ) → d ≡ a + b → x ≡ up_to 64 a → y ≡ up_to 64 b → n ≡ up_to 64 (x + y) → n ≡ up_to 64 d
stopped a b x y d n is h k e = omega arith

abbrev A : FactsOf → Tree (List Star) → ℕ
A facts t = accesses facts t

pub count-Leaf : (facts : FactsOf) (n : Tree (List Star)) (l : List Star) (x : ℕ) → n ≡ trees.Leaf l → x ≡ up_to 64 (total (star_accesses facts) l) → x ≡ up_to 64 (accesses facts n)
count-Leaf facts n l x is h = h ∙ ap (up_to 64) (sym (accesses-Leaf facts l) ∙ sym (ap (A facts) is))

pub count-Join : (facts : FactsOf) (n a b : Tree (List Star)) (x y z : ℕ) → n ≡ trees.Join a b → x ≡ up_to 64 (accesses facts a) → y ≡ up_to 64 (accesses facts b) → z ≡ up_to 64 (x + y) → z ≡ up_to 64 (accesses facts n)
count-Join facts n a b x y z is h k e = stopped (A facts a) (A facts b) x y (A facts n) z (ap (A facts) is ∙ accesses-Join facts a b) h k e

pub count-LeftJoin : (facts : FactsOf) (n a b : Tree (List Star)) (c : Option TruthExpr) (x y z : ℕ) → n ≡ trees.LeftJoin a b c → x ≡ up_to 64 (accesses facts a) → y ≡ up_to 64 (accesses facts b) → z ≡ up_to 64 (x + y) → z ≡ up_to 64 (accesses facts n)
count-LeftJoin facts n a b c x y z is h k e = stopped (A facts a) (A facts b) x y (A facts n) z (ap (A facts) is ∙ accesses-LeftJoin facts a b c) h k e

pub count-Union : (facts : FactsOf) (n a b : Tree (List Star)) (x y z : ℕ) → n ≡ trees.Union a b → x ≡ up_to 64 (accesses facts a) → y ≡ up_to 64 (accesses facts b) → z ≡ up_to 64 (x + y) → z ≡ up_to 64 (accesses facts n)
count-Union facts n a b x y z is h k e = stopped (A facts a) (A facts b) x y (A facts n) z (ap (A facts) is ∙ accesses-Union facts a b) h k e

pub count-Filter : (facts : FactsOf) (n a : Tree (List Star)) (c : TruthExpr) (x : ℕ) → n ≡ trees.Filter c a → x ≡ up_to 64 (accesses facts a) → x ≡ up_to 64 (accesses facts n)
count-Filter facts n a c x is h = h ∙ ap (up_to 64) (sym (accesses-Filter facts c a) ∙ sym (ap (A facts) is))

pub ruleset tree_laws = (count-Leaf, count-Join, count-LeftJoin, count-Union, count-Filter)
