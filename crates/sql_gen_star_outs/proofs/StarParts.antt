-- The outs of stars from the parts of which they are made.
use Rattle.std.specs.Prelude.{◌≡◌, ℕ, suc, ◌+◌, Bool, List, [], ◌∷◌, ◌++◌, length, nat_le, slice_set}
use Rattle.std.proofs.Common.{ap, ap₂, ◌∙◌, arith, sym}
use Rattle.std.proofs.Math.Bool.{or-false}
use Rattle.std.proofs.Math.Path.{fun_ext}
use Rattle.std.proofs.lemmas.List.{append_assoc, length-append}
use Rattle.rdf_meaning.specs.declared.side.SideName.{SideName}
use Rattle.layout_meaning.specs.Columns.{ColumnsOf}
use Rattle.layout_meaning.specs.Facts.{FactsOf, IdOf}
use Rattle.query_eval_meaning.specs.Variables.{Variables}
use Rattle.query_meaning.specs.declared.pattern.Slot.{Slot}
use Rattle.query_plan_meaning.specs.declared.star.Arm.{Arm}
use Rattle.query_plan_meaning.specs.declared.star.Star.{Star}
use Rattle.query_plan_meaning.specs.Stars.{arms_of, star_certain, stars_certain}
use Rattle.sparql_variables.specs.Bits.{members}
use Rattle.sparql_certain.specs.Certain.{Has}
use Rattle.sql_gen_step_laws.specs.Carried.{Ids}
use Rattle.sql_gen_step_laws.specs.StepSelects.{both}
use Rattle.sql_gen_star_meaning.specs.declared.arm.Asked.{Asked}
use Rattle.sql_gen_star_meaning.specs.declared.arm.StarArm.{StarArm}
use Rattle.sql_gen_star_meaning.specs.Asked.{asked_slot, asked_vars}
use Rattle.sql_gen_star_meaning.specs.Openings.{open_vars, openings_from}
use Rattle.sql_gen_open_laws.proofs.Chain.{lengths}
use Rattle.sql_gen_star_solution_laws.specs.StarArms.{optional_arms, required_arms}
use Rattle.sql_gen_star_laws.specs.StarSteps.{star_arms}
use Rattle.sql_gen_either_laws.specs.EitherSteps.{Half, half_numbers, left_vars, right_vars}
use Rattle.sql_gen_numbered_meaning.specs.declared.numbered.NumberedBody.{NumberedBody}
use Rattle.sql_gen_numbered_meaning.specs.declared.numbered.NumberedBody.TheVariants.{Access, Single, United}
use Rattle.sql_gen_numbered_meaning.specs.NumberedStars.{numbered_arms, numbered_either, numbered_last, numbered_openings}
use Rattle.sql_gen_out_laws.specs.Outs.{Out}
use Rattle.sql_gen_star_out_laws.specs.StarOuts.{arms_out, either_out, told_columns, told_id}
use Rattle.sql_gen_star_out_laws.proofs.Openings.{last-opened, length-opened}

-- ---- variables

pub alone : (set : ℕ) (star : Star) → Has set (star_certain star) → members set ≡ stars_certain (star ∷ [])
alone set star h = fun_ext (λ v. h.same v ∙ sym (or-false (star_certain star v)))

pub ruleset certain_laws = (alone)

-- ---- outs that have the same parts

same-out : (x y : Out) → x.steps ≡ y.steps → x.last ≡ y.last → x.variables ≡ y.variables → x.certain ≡ y.certain → x ≡ y
same-out x y p q r s =
    ap (λ (v : List NumberedBody). (let o : Out = record { steps = v; last = x.last; variables = x.variables; certain = x.certain } in o)) p
    ∙ ap (λ (v : ℕ). (let o : Out = record { steps = y.steps; last = v; variables = x.variables; certain = x.certain } in o)) q
    ∙ ap (λ (v : List ℕ). (let o : Out = record { steps = y.steps; last = y.last; variables = v; certain = x.certain } in o)) r
    ∙ ap (λ (v : Variables). (let o : Out = record { steps = y.steps; last = y.last; variables = y.variables; certain = v } in o)) s

-- ---- the arms by the ids of terms

pub arms-are : (ids : Ids) (columns told : ColumnsOf) (x : Slot) (entity : Asked) (required : List Arm) (a : Arm) (ps optional : List Arm) →
    columns ≡ told → entity ≡ asked_slot ids [] x → required ≡ a ∷ ps →
    required_arms columns ids (asked_vars entity []) required ++ optional_arms columns ids optional ≡ star_arms told ids x (record { first = a; required = ps; optional = optional })
arms-are ids columns told x entity required a ps optional c e r =
    ap (λ (k : ColumnsOf). required_arms k ids (asked_vars entity []) required ++ optional_arms k ids optional) c
    ∙ ap (λ (y : Asked). required_arms told ids (asked_vars y []) required ++ optional_arms told ids optional) e
    ∙ ap (λ (rs : List Arm). required_arms told ids (asked_vars (asked_slot ids [] x) []) rs ++ optional_arms told ids optional) r

-- ---- the chain behind the access step, whose place is held

module _ (side : SideName) (vs : List ℕ) (arms read : List StarArm) (held : List NumberedBody) (before : ℕ) (bound : List ℕ)
    (same : read ≡ arms) (h : held ≡ Single ∷ []) (b : before ≡ 0) (v : bound ≡ vs) where
  pub chain-steps : held ++ numbered_openings side (length held) before bound (openings_from 0 read) ≡ Single ∷ numbered_openings side 1 0 vs (openings_from 0 arms)
  chain-steps =
      ap (λ (xs : List NumberedBody). xs ++ numbered_openings side (length xs) before bound (openings_from 0 read)) h
      ∙ ap (λ (n : ℕ). Single ∷ numbered_openings side 1 n bound (openings_from 0 read)) b
      ∙ ap (λ (ws : List ℕ). Single ∷ numbered_openings side 1 0 ws (openings_from 0 read)) v
      ∙ ap (λ (rs : List StarArm). Single ∷ numbered_openings side 1 0 vs (openings_from 0 rs)) same

  pub chain-last : numbered_last (length held) before (openings_from 0 read) ≡ numbered_last 1 0 (openings_from 0 arms)
  chain-last =
      ap (λ (xs : List NumberedBody). numbered_last (length xs) before (openings_from 0 read)) h
      ∙ ap (λ (n : ℕ). numbered_last 1 n (openings_from 0 read)) b
      ∙ ap (λ (rs : List StarArm). numbered_last 1 0 (openings_from 0 rs)) same

  pub chain-vars : open_vars bound (openings_from 0 read) ≡ open_vars vs (openings_from 0 arms)
  chain-vars =
      ap (λ (ws : List ℕ). open_vars ws (openings_from 0 read)) v
      ∙ ap (λ (rs : List StarArm). open_vars vs (openings_from 0 rs)) same

-- the number of its last step, where there is an arm
last-is : (a : StarArm) (arms all : List StarArm) → all ≡ a ∷ arms → numbered_last 1 0 (openings_from 0 all) ≡ length all
last-is a arms all is =
    let e : numbered_last 1 0 (openings_from 0 (a ∷ arms)) ≡ 1 + length (openings_from 1 arms) = last-opened 1 0 (record { number = 0; asked = a.asked }) (openings_from 1 arms) in
    let f : length (openings_from 1 arms) ≡ length arms = lengths 1 arms in
    let g : numbered_last 1 0 (openings_from 0 (a ∷ arms)) ≡ length (a ∷ arms) = omega (arith, e, f) in
    ap (λ (xs : List StarArm). numbered_last 1 0 (openings_from 0 xs)) is ∙ g ∙ ap (λ (xs : List StarArm). length xs) (sym is)

-- ---- the second chain of an Either star, which begins at the access step too

module _ (side : SideName) (vs bound : List ℕ) (left right read_left read_right : List StarArm) (count : ℕ) (ones : List NumberedBody)
    (v : bound ≡ vs) (l : read_left ≡ left) (r : read_right ≡ right) (c : count ≡ length read_left) (is : ones ≡ Single ∷ numbered_openings side 1 0 vs (openings_from 0 left)) where
  abbrev firsts : List NumberedBody
  firsts = numbered_openings side 1 0 vs (openings_from 0 left)

  abbrev seconds : List NumberedBody
  seconds = numbered_openings side (1 + length left) 0 vs (openings_from (length left) right)

  counted : count ≡ length left
  counted = c ∙ ap (λ (xs : List StarArm). length xs) l

  one-more : length ones ≡ 1 + length left
  one-more =
      let e : length ones ≡ suc (length firsts) = ap (λ (xs : List NumberedBody). length xs) is in
      let f : length firsts ≡ length (openings_from 0 left) = length-opened side 1 0 vs (openings_from 0 left) in
      let g : length (openings_from 0 left) ≡ length left = lengths 0 left in
      omega (arith, e, f, g)

  pub second-steps : ones ++ numbered_openings side (length ones) 0 bound (openings_from count read_right) ≡ Single ∷ (firsts ++ seconds)
  second-steps =
      ap (λ (ws : List ℕ). ones ++ numbered_openings side (length ones) 0 ws (openings_from count read_right)) v
      ∙ ap (λ (n : ℕ). ones ++ numbered_openings side (length ones) 0 vs (openings_from n read_right)) counted
      ∙ ap (λ (rs : List StarArm). ones ++ numbered_openings side (length ones) 0 vs (openings_from (length left) rs)) r
      ∙ ap (λ (n : ℕ). ones ++ numbered_openings side n 0 vs (openings_from (length left) right)) one-more
      ∙ ap (λ (xs : List NumberedBody). xs ++ seconds) is

  pub second-last : numbered_last (length ones) 0 (openings_from count read_right) ≡ numbered_last (1 + length left) 0 (openings_from (length left) right)
  second-last =
      ap (λ (n : ℕ). numbered_last n 0 (openings_from count read_right)) one-more
      ∙ ap (λ (n : ℕ). numbered_last (1 + length left) 0 (openings_from n read_right)) counted
      ∙ ap (λ (rs : List StarArm). numbered_last (1 + length left) 0 (openings_from (length left) rs)) r

  pub second-vars : open_vars bound (openings_from count read_right) ≡ open_vars vs (openings_from (length left) right)
  second-vars =
      ap (λ (ws : List ℕ). open_vars ws (openings_from count read_right)) v
      ∙ ap (λ (n : ℕ). open_vars vs (openings_from n read_right)) counted
      ∙ ap (λ (rs : List StarArm). open_vars vs (openings_from (length left) rs)) r

  pub second-length : (twos : List NumberedBody) → twos ≡ Single ∷ (firsts ++ seconds) → length twos ≡ 1 + length left + length right
  second-length twos b =
      let e : length twos ≡ suc (length (firsts ++ seconds)) = ap (λ (xs : List NumberedBody). length xs) b in
      let f : length (firsts ++ seconds) ≡ length firsts + length seconds = length-append firsts seconds in
      let p : length firsts ≡ length (openings_from 0 left) = length-opened side 1 0 vs (openings_from 0 left) in
      let q : length seconds ≡ length (openings_from (length left) right) = length-opened side (1 + length left) 0 vs (openings_from (length left) right) in
      let g : length (openings_from 0 left) ≡ length left = lengths 0 left in
      let k : length (openings_from (length left) right) ≡ length right = lengths (length left) right in
      omega (arith, e, f, p, q, g, k)

-- all steps of both chains
pub united-steps : (side : SideName) (spilled : Bool) (entity : Asked) (left right all : List StarArm) (first second : ℕ) (vs ws : List ℕ) (twos : List NumberedBody) →
    twos ≡ Single ∷ (numbered_openings side 1 0 (asked_vars entity []) (openings_from 0 left) ++ numbered_openings side (1 + length left) 0 (asked_vars entity []) (openings_from (length left) right)) →
    all ≡ left ++ right → first ≡ numbered_last 1 0 (openings_from 0 left) → second ≡ numbered_last (1 + length left) 0 (openings_from (length left) right) →
    vs ≡ open_vars (asked_vars entity []) (openings_from 0 left) → ws ≡ open_vars (asked_vars entity []) (openings_from (length left) right) →
    slice_set (twos ++ United first second vs ws ∷ []) 0 (Access side spilled entity all) ≡ numbered_either side spilled entity left right
united-steps side spilled entity left right all first second vs ws twos b a f s v w =
    let ones : List NumberedBody = numbered_openings side 1 0 (asked_vars entity []) (openings_from 0 left) in
    let others : List NumberedBody = numbered_openings side (1 + length left) 0 (asked_vars entity []) (openings_from (length left) right) in
    let united : NumberedBody = United first second vs ws in
    ap (λ (xs : List NumberedBody). slice_set (xs ++ united ∷ []) 0 (Access side spilled entity all)) b
    ∙ ap (λ (xs : List NumberedBody). Access side spilled entity all ∷ xs) (append_assoc ones others (united ∷ []))
    ∙ ap (λ (xs : List StarArm). Access side spilled entity xs ∷ (ones ++ (others ++ united ∷ []))) a
    ∙ ap (λ (x : NumberedBody). Access side spilled entity (left ++ right) ∷ (ones ++ (others ++ x ∷ [])))
    (ap₂ (λ (n m : ℕ). United n m vs ws) f s ∙ ap₂ (λ (xs ys : List ℕ). United (numbered_last 1 0 (openings_from 0 left)) (numbered_last (1 + length left) 0 (openings_from (length left) right)) xs ys) v w)

-- ---- whole outs

module _ (facts : FactsOf) (ids : List IdOf) (star : Star) (spilled : Bool) (entity : Asked) (out : Out)
    (s : spilled ≡ nat_le (length (arms_of star.body)) 1) (e : entity ≡ asked_slot (told_id ids) [] star.entity) (certain : out.certain ≡ stars_certain (star ∷ [])) where
  -- of these arms
  abbrev of-arms : Bool → Asked → List StarArm → Out
  of-arms first y arms = record {
    steps = numbered_arms star.side first y arms;
    last = length arms;
    variables = open_vars (asked_vars y []) (openings_from 0 arms);
    certain = stars_certain (star ∷ []);
  }

  pub arms-out : (a : Arm) (ps optional : List Arm) (arms : List StarArm) → arms ≡ star_arms (told_columns facts star.side) (told_id ids) star.entity (record { first = a; required = ps; optional = optional }) →
      out.steps ≡ numbered_arms star.side spilled entity arms → out.last ≡ numbered_last 1 0 (openings_from 0 arms) → out.variables ≡ open_vars (asked_vars entity []) (openings_from 0 arms) →
      out ≡ arms_out facts ids star (record { first = a; required = ps; optional = optional })
  arms-out a ps optional arms is steps last variables =
      same-out out (of-arms spilled entity arms) steps (last ∙ last-is _ _ arms is) variables certain
      ∙ ap₂ (λ (b : Bool) (y : Asked). of-arms b y arms) s e
      ∙ ap (λ (xs : List StarArm). of-arms (nat_le (length (arms_of star.body)) 1) (asked_slot (told_id ids) [] star.entity) xs) is

  -- of both lists
  abbrev of-both : Bool → Asked → List StarArm → List StarArm → Out
  of-both first y left right = record {
    steps = numbered_either star.side first y left right;
    last = 1 + length left + length right;
    variables = both (left_vars y left) (right_vars y left right);
    certain = stars_certain (star ∷ []);
  }

  pub either-out : (l r : Half) (left right : List StarArm) → left ≡ half_numbers (told_columns facts star.side) (told_id ids) star.entity l → right ≡ half_numbers (told_columns facts star.side) (told_id ids) star.entity r →
      out.steps ≡ numbered_either star.side spilled entity left right → out.last ≡ 1 + length left + length right → out.variables ≡ both (left_vars entity left) (right_vars entity left right) →
      out ≡ either_out facts ids star l r
  either-out l r left right p q steps last variables =
      same-out out (of-both spilled entity left right) steps last variables certain
      ∙ ap₂ (λ (b : Bool) (y : Asked). of-both b y left right) s e
      ∙ ap₂ (λ (xs ys : List StarArm). of-both (nat_le (length (arms_of star.body)) 1) (asked_slot (told_id ids) [] star.entity) xs ys) p q
