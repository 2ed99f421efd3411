-- The columns of all arms, and one more SELECT of pairs.
use Rattle.std.proofs.Common.{◌≡◌, ℕ, zero, suc, ◌+◌, List, [], ◌∷◌, ◌++◌, map, refl, ap, ap₂, ◌∙◌, subst, arith}
use Rattle.std.proofs.lemmas.List.{append-nil}
use Rattle.sql_meaning.specs.declared.script.Core.{Core}
use Rattle.sql_meaning.specs.declared.script.Item.{Item}
use Rattle.sql_gen_step_laws.specs.Carried.{Name}
use Rattle.sql_gen_star_meaning.specs.declared.arm.Asked.{Asked}
use Rattle.sql_gen_star_meaning.specs.declared.arm.StarArm.{StarArm}
use Rattle.sql_gen_star_meaning.specs.Partials.{AccessArm, cell_name}
use Rattle.sql_gen_star_meaning.specs.StarSelects.{found_sql, arm_sql, cell_item}
use Rattle.sql_gen_star_meaning.specs.PairSelects.{pair_core, pair_cores}
use Rattle.sql_gen_star_meaning.specs.Openings.{openings_from, access_arms, AccessHas, cells_of}
use Rattle.sql_gen_star_number_laws.proofs.Fill.{access_has}
use Rattle.sql_gen_stars.specs.ArmItems.{arm_items}

-- of an access step that has the arms from the number i on
had_items : (access : ℕ → AccessArm) (i : ℕ) (arms : List StarArm) → AccessHas access i arms → map (cell_item (arm_sql access)) (cells_of (openings_from i arms)) ≡ arm_items i arms
had_items access i [] has = refl
had_items access i (a ∷ arms) has =
    ap₂ (λ (x : Item) (xs : List Item). x ∷ xs) (ap (λ (b : AccessArm). (let item : Item = record { expr = found_sql b.pred b.columns; name = cell_name i } in item)) has.0) (had_items access (suc i) arms has.1)

pub all_items : (arms : List StarArm) → map (cell_item (arm_sql (access_arms arms))) (cells_of (openings_from 0 arms)) ≡ arm_items 0 arms
all_items arms = had_items (access_arms arms) 0 arms (subst (λ (all : List StarArm). AccessHas (access_arms all) 0 arms) (append-nil arms) (access_has [] arms []))

-- one more column
more_from : (primary : Name) (entity predicate : Asked) (n c m : ℕ) → m ≡ c + n → pair_cores primary entity predicate (suc n) c ≡ pair_cores primary entity predicate n c ++ pair_core primary entity predicate m ∷ []
more_from primary entity predicate zero c m e = ap (λ (i : ℕ). pair_core primary entity predicate i ∷ []) (let same : c ≡ m = omega (arith, e) in same)
more_from primary entity predicate (suc n) c m e = ap (λ (cores : List Core). pair_core primary entity predicate c ∷ cores) (more_from primary entity predicate n (suc c) m (omega (arith, e)))

pub one_more : (primary : Name) (entity predicate : Asked) (n : ℕ) → pair_cores primary entity predicate (n + 1) 0 ≡ pair_cores primary entity predicate n 0 ++ pair_core primary entity predicate n ∷ []
one_more primary entity predicate n = ap (λ (m : ℕ). pair_cores primary entity predicate m 0) (later n) ∙ more_from primary entity predicate n 0 n (omega arith)
  where
    later : (n : ℕ) → n + 1 ≡ suc n
    later n = omega arith
