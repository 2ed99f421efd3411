-- The steps of an Either star carry its solutions.
use Rattle.std.proofs.Common.{◌≡◌, ℕ, ◌+◌, ◌^◌, ◌<◌, Bool, false, List, [], ◌++◌, map, length, sym, subst, bytes_eq}
use Rattle.std.proofs.lemmas.List.{append-nil}
use Rattle.std.specs.List.{AllByRecursion}
use Rattle.bags.specs.Bag.{SameBag}
use Rattle.rdf_meaning.specs.Terms.{RdfTriple}
use Rattle.rdf_meaning.specs.declared.side.SideName.{SideName}
use Rattle.query_meaning.specs.declared.pattern.Slot.{Slot}
use Rattle.query_plan_meaning.specs.declared.star.StarBody.TheVariants.{Either}
use Rattle.query_plan_meaning.specs.Stars.{both_sols, body_sols}
use Rattle.sql_rows_meaning.specs.Tables.{Relations}
use Rattle.sql_rows_meaning.specs.Rows.{after_steps}
use Rattle.layout_meaning.specs.Columns.{ColumnsOf}
use Rattle.layout_standing_meaning.specs.Dictionary.{Entry, AreEntries, HasIds, id_of, has_term}
use Rattle.layout_standing_meaning.specs.Contents.{SideContents, said}
use Rattle.layout_standing_meaning.specs.Standing.{SideStands}
use Rattle.sql_gen_step_laws.specs.Carried.{Name, Carries}
use Rattle.sql_gen_step_laws.specs.UnionStep.{union_step}
use Rattle.layout_table_laws.proofs.Readable.{readable}
use Rattle.sql_gen_star_meaning.specs.Asked.{asked_slot}
use Rattle.sql_gen_star_meaning.specs.SideTables.{HoldsSide}
use Rattle.sql_gen_star_meaning.specs.declared.arm.StarArm.{StarArm}
use Rattle.sql_gen_star_meaning.specs.Openings.{access_arms, AccessHas, AreReadable}
use Rattle.sql_gen_star_number_laws.proofs.Fill.{access_has}
use Rattle.sql_gen_star_solution_laws.specs.StarArms.{entity_vars, first_arm, other_arms, side_item}
use Rattle.sql_gen_star_laws.specs.StarSteps.{IsStar, AreWithin}
use Rattle.sql_gen_star_laws.proofs.Bound.{all_askable, is_entity}
use Rattle.sql_gen_star_laws.proofs.StarCarries.{within, arms_carry}
use Rattle.sql_gen_either_laws.specs.EitherSteps.{Half, half_arms, arms_in, half_numbers, left_vars, right_vars, left_last, right_last, either_steps, either_number, either_vars, AreApart}
use Rattle.sql_gen_either_laws.proofs.TwoChains.{before_union, chains_hold, union_ends}

-- ---- the law

pub either_carries : (columns : ColumnsOf) (es : List Entry) (s : SideContents) → AreEntries es → SideStands columns es s → (side : SideName) (g : List RdfTriple) → SameBag (said s) (map (side_item side (id_of es)) g) → AllByRecursion (HasIds es) g →
    (x : Slot) (l r : Half) → IsStar (id_of es) x (half_arms l) → IsStar (id_of es) x (half_arms r) →
    (first : Bool) → AreReadable s first (first_arm columns (id_of es) x l.first) (other_arms columns (id_of es) x l.first l.others []) → AreReadable s first (first_arm columns (id_of es) x r.first) (other_arms columns (id_of es) x r.first r.others []) →
    columns.count < 2 ^ 64 → AreWithin columns → (name : ℕ → Name) (primary lists : Name) (n : ℕ) (relations : Relations) → HoldsSide columns.count s (relations primary) (relations lists) →
    ((m : ℕ) → m < either_number n columns (id_of es) x l r + 1 → bytes_eq lists (name m) ≡ false) → AreApart name (either_number n columns (id_of es) x l r + 1) →
    Carries (id_of es) (has_term es) (either_vars columns (id_of es) x l r) (body_sols g x side (Either (arms_in l) (arms_in r)))
    (after_steps (either_steps name primary lists n first columns (id_of es) x l r) relations (name (either_number n columns (id_of es) x l r)))
either_carries columns es s h st side g f all x l r isl isr first okl okr few wide name primary lists n relations tables fresh apart =
    let ids = id_of es in
    let L : List StarArm = half_numbers columns ids x l in
    let R : List StarArm = half_numbers columns ids x r in
    let E = asked_slot ids [] x in
    let t2 : Relations = before_union name primary lists n first E L R relations in
    let held = chains_hold name primary lists n columns.count s relations few tables (readable columns es s st) first E (is_entity ids x)
    (first_arm columns ids x l.first) (other_arms columns ids x l.first l.others []) (first_arm columns ids x r.first) (other_arms columns ids x r.first r.others [])
    (within columns ids x (half_arms l) isl wide) (within columns ids x (half_arms r) isr wide)
    (all_askable columns ids [] (arms_in l) (entity_vars ids x) 0 tt) (all_askable columns ids [] (arms_in r) (entity_vars ids x) (length L) tt) fresh apart in
    let has_left : AccessHas (access_arms (L ++ R)) 0 L = access_has [] L R in
    let has_right : AccessHas (access_arms (L ++ R)) (length L) R = subst (λ (more : List StarArm). AccessHas (access_arms (L ++ more)) (length L) R) (append-nil R) (access_has L R []) in
    let cl = arms_carry columns es s h st side g f all x (half_arms l) isl first okl (access_arms (L ++ R)) 0 has_left (t2 (left_last name n L)) held.left in
    let cr = arms_carry columns es s h st side g f all x (half_arms r) isr first okr (access_arms (L ++ R)) (length L) has_right (t2 (right_last name n L R)) held.right in
    subst (Carries ids (has_term es) (either_vars columns ids x l r) (body_sols g x side (Either (arms_in l) (arms_in r)))) (sym (union_ends name primary lists n first E L R relations))
    (union_step ids (has_term es) t2 (left_last name n L) (right_last name n L R) (left_vars E L) (right_vars E L R) (both_sols g x side (arms_in l) []) (both_sols g x side (arms_in r) []) cl cr)
