-- With a variable predicate: each item that agrees.
use Rattle.std.proofs.Common.{◌≡◌, ℕ, Bool, true, false, cond, ◌&&◌, if◌then◌else◌, [], ◌∷◌, map, Option, Some, None, sym, refl, ap, ◌∙◌, arith}
use Rattle.std.specs.List.{flat_map}
use Rattle.bags.specs.Bag.{total, SameBag}
use Rattle.bags.specs.BagLaws.{total-same, total-map, total-flat_map, total-cond}
use Rattle.layout_meaning.specs.Side.{Pair, Item, values_of, pair_items}
use Rattle.layout_meaning.specs.Rows.{NumberedRow}
use Rattle.layout_standing_meaning.specs.Contents.{SideContents, said}
use Rattle.sql_gen_star_meaning.specs.declared.arm.Asked.{Asked}
use Rattle.sql_gen_star_meaning.specs.declared.arm.Asked.TheVariants.{Constant, Again, New, Maybe}
use Rattle.sql_gen_star_meaning.specs.Asked.{IdMapping, unbound, accepts, then_bound, IsPredicate}
use Rattle.sql_gen_star_meaning.specs.Partials.{Partial, entity_numbers, pair_partial, pair_partials, all_pairs, open_arm}
use Rattle.sql_gen_star_meaning.specs.Openings.{pair_numbers}
use Rattle.sql_gen_star_number_laws.proofs.Fill.{total-opened}

never_none : (entity p : Asked) → IsPredicate entity p → (m : IdMapping) → accepts p m None ≡ false
never_none entity (Constant n) ok m = absurd ok
never_none entity (Again v) ok m = refl
never_none entity (New v) ok m = refl
never_none entity (Maybe v) ok m = absurd ok

pub total-if : {X : Type 0} (b : Bool) (P : X → ℕ) (x : X) → total P (if b then x ∷ [] else []) ≡ cond b (P x) 0
total-if true P x = omega arith
total-if false P x = refl

and_never : (a b : Bool) (n : ℕ) → b ≡ false → cond (a && b) n 0 ≡ 0
and_never true b n e = ap (λ (c : Bool). cond c n 0) e
and_never false b n e = refl

both_three : (a b c : Bool) (n : ℕ) → cond (a && b) (cond c n 0) 0 ≡ cond (a && (b && c)) n 0
both_three true true c n = refl
both_three true false c n = refl
both_three false b c n = refl

one_pair : (s : SideContents) (entity predicate a : Asked) → IsPredicate entity predicate → (K : IdMapping → ℕ) (e : ℕ) (q : Option Pair) →
    total (λ (p : Partial). total (λ (p : Partial). K p.numbers) (open_arm s.lists 0 a p)) (pair_partials entity predicate e q) ≡ total (λ (x : Item). total K (pair_numbers entity predicate a x)) (pair_items s.lists e q)
one_pair s entity predicate a ok K e None =
    total-if (accepts entity unbound (Some e) && accepts predicate (entity_numbers entity e) None) (λ (p : Partial). total (λ (p : Partial). K p.numbers) (open_arm s.lists 0 a p)) (pair_partial entity predicate e None)
    ∙ and_never (accepts entity unbound (Some e)) (accepts predicate (entity_numbers entity e) None) _ (never_none entity predicate ok (entity_numbers entity e))
one_pair s entity predicate a ok K e (Some q) =
    let n : IdMapping = then_bound predicate (Some q.pred) (entity_numbers entity e) in
    total-if (accepts entity unbound (Some e) && accepts predicate (entity_numbers entity e) (Some q.pred)) (λ (p : Partial). total (λ (p : Partial). K p.numbers) (open_arm s.lists 0 a p)) (pair_partial entity predicate e (Some q))
    ∙ ap (λ (m : ℕ). cond (accepts entity unbound (Some e) && accepts predicate (entity_numbers entity e) (Some q.pred)) m 0)
    (total-opened (λ (p : Partial). K p.numbers) s.lists 0 a (pair_partial entity predicate e (Some q)) ∙ total-map (λ o. cond (accepts a n o) (K (then_bound a o n)) 0) (λ (v : ℕ). Some v) (values_of s.lists q.value))
    ∙ sym (total-cond (accepts entity unbound (Some e) && accepts predicate (entity_numbers entity e) (Some q.pred)) (λ v. cond (accepts a n (Some v)) (K (then_bound a (Some v) n)) 0) (values_of s.lists q.value))
    ∙ total-same _ _ (λ v. both_three (accepts entity unbound (Some e)) (accepts predicate (entity_numbers entity e) (Some q.pred)) (accepts a n (Some v)) (K (then_bound a (Some v) n))
    ∙ sym (total-if (accepts entity unbound (Some e) && (accepts predicate (entity_numbers entity e) (Some q.pred) && accepts a n (Some v))) K (then_bound a (Some v) n))) (values_of s.lists q.value)
    ∙ sym (total-map (λ (x : Item). total K (pair_numbers entity predicate a x)) (λ v. record { entity = e; pred = q.pred; value = v }) (values_of s.lists q.value))

pub pair_items_held : (s : SideContents) (entity predicate a : Asked) → IsPredicate entity predicate →
    SameBag (map (λ (p : Partial). p.numbers) (flat_map (open_arm s.lists 0 a) (all_pairs entity predicate s.rows))) (flat_map (pair_numbers entity predicate a) (said s))
pair_items_held s entity predicate a ok = record {
  totals = λ (K : IdMapping → ℕ).
      let KP : Partial → ℕ = λ (p : Partial). K p.numbers in
      let H : Partial → ℕ = λ (p : Partial). total KP (open_arm s.lists 0 a p) in
      let I : Item → ℕ = λ (x : Item). total K (pair_numbers entity predicate a x) in
      total-map K (λ (p : Partial). p.numbers) (flat_map (open_arm s.lists 0 a) (all_pairs entity predicate s.rows))
      ∙ total-flat_map KP (open_arm s.lists 0 a) (all_pairs entity predicate s.rows)
      ∙ total-flat_map H (λ (r : NumberedRow). flat_map (pair_partials entity predicate r.entity) r.pairs) s.rows
      ∙ total-same _ _ (λ (r : NumberedRow).
      total-flat_map H (pair_partials entity predicate r.entity) r.pairs
      ∙ total-same _ _ (λ q. one_pair s entity predicate a ok K r.entity q) r.pairs
      ∙ sym (total-flat_map I (pair_items s.lists r.entity) r.pairs)) s.rows
      ∙ sym (total-flat_map K (pair_numbers entity predicate a) (said s) ∙ total-flat_map I (λ (r : NumberedRow). flat_map (pair_items s.lists r.entity) r.pairs) s.rows);
}
