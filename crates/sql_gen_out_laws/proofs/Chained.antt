-- Steps of outs behind one another: sums, forms, what they carry, and binding.
use Rattle.std.specs.Prelude.{◌&&◌, ◌++◌, ◌+◌, ◌<◌, ◌==◌, ◌∷◌, ◌≡◌, ◌≤◌, Bool, List, Some, [], codes, false, is_some, length, map, refl, true, ℕ}
use Rattle.std.proofs.Common.{◌∙◌, ◌⊎◌, ap, ap₂, arith, inl, inr, length-append, subst, sym}
use Rattle.std.proofs.lemmas.Bool.{cases_Bool, eqb-true, false_from_ne_true, or_from, or_parts}
use Rattle.std.specs.Str.{bytes_eq}
use Rattle.layout_meaning.specs.Facts.{FactsOf}
use Rattle.query_eval_meaning.specs.Mapping.{Mapping}
use Rattle.rdf_meaning.specs.Terms.{RdfTerm}
use Rattle.sql_gen_binding_laws.specs.StepColumns.{step_schema}
use Rattle.sql_gen_chain_binding_laws.proofs.Behind.{append-bind, other-bind}
use Rattle.sql_gen_chain_binding_laws.specs.StepsBind.{StepsBind}
use Rattle.sql_gen_chain_laws.proofs.Behind.{goes-on, goes-on_both}
use Rattle.sql_gen_chain_laws.specs.Chains.{IsApart, SameBase, Stands, is_named}
use Rattle.sql_gen_numbered_meaning.proofs.Apart.{apart-on, different}
use Rattle.sql_gen_numbered_meaning.proofs.Written.{not_named, shifted-written, written-apart, written-append}
use Rattle.sql_gen_numbered_meaning.specs.Namings.{KeepsApart, is_table}
use Rattle.sql_gen_numbered_meaning.specs.Numbered.{on_from, shifted, written, written_from}
use Rattle.sql_gen_numbered_meaning.specs.declared.numbered.NumberedBody.{NumberedBody}
use Rattle.sql_gen_out_laws.specs.Further.{behind_both}
use Rattle.sql_gen_out_laws.specs.Outs.{AreFree, BindsTo, HasTables}
use Rattle.sql_gen_step_laws.specs.Carried.{Carries, Ids, Name}
use Rattle.sql_meaning.specs.Scripts.{all_of, is_primary, total}
use Rattle.sql_meaning.specs.declared.script.Step.{Step}
use Rattle.sql_rows_meaning.specs.Rows.{after_steps}
use Rattle.sql_rows_meaning.specs.Scopes.{Schemas}
use Rattle.sql_rows_meaning.specs.Tables.{Relations}

-- ---- sums and tests over steps behind steps

pub total-behind : (f : Step → ℕ) (xs ys : List Step) → total (map f (xs ++ ys)) ≡ total (map f xs) + total (map f ys)
total-behind f [] ys = omega arith
total-behind f (x ∷ xs) ys = let r : total (map f (xs ++ ys)) ≡ total (map f xs) + total (map f ys) = total-behind f xs ys in omega arith

pub all-behind : (p : Step → Bool) (xs ys : List Step) → all_of p xs ≡ true → all_of p ys ≡ true → all_of p (xs ++ ys) ≡ true
all-behind p [] ys a b = b
all-behind p (x ∷ xs) ys a b = go (cases_Bool (p x)) a (all-behind p xs ys)
  where
    go : (p x ≡ true) ⊎ (p x ≡ false) → (p x && all_of p xs) ≡ true → (all_of p xs ≡ true → all_of p ys ≡ true → all_of p (xs ++ ys) ≡ true) → (p x && all_of p (xs ++ ys)) ≡ true
    go (inl e) a r = rw e (r (rw e at a) b)
    go (inr e) a r = let no : false ≡ true = rw e at a in cc

-- ---- the steps of two parts and more steps

length-shifted : (k : ℕ) (ys : List NumberedBody) → length (shifted k ys) ≡ length ys
length-shifted k [] = refl
length-shifted k (y ∷ ys) = let r : length (shifted k ys) ≡ length ys = length-shifted k ys in omega arith

pub length-behind : (xs ys more : List NumberedBody) → length (behind_both xs ys more) ≡ length xs + length ys + length more
length-behind xs ys more = omega (arith, length-append (xs ++ shifted (length xs) ys) more, length-append xs (shifted (length xs) ys), length-shifted (length xs) ys)

pub written-behind : (name : ℕ → Name) (xs ys more : List NumberedBody) →
    written name (behind_both xs ys more) ≡ written name xs ++ written (on_from (length xs) name) ys ++ written_from name (length xs + length ys) more
written-behind name xs ys more =
    let k = length xs in
    let l : length (xs ++ shifted k ys) ≡ k + length ys = omega (arith, length-append xs (shifted k ys), length-shifted k ys) in
    written-append name (xs ++ shifted k ys) more
    ∙ ap₂ (λ (ss : List Step) (n : ℕ). ss ++ written_from name n more) (written-append name xs (shifted k ys) ∙ ap (λ (ss : List Step). written name xs ++ ss) (shifted-written name k ys)) l

-- ---- what the steps carry

-- the last step of the first part is none of the second part's steps
pub first-kept : (name : ℕ → Name) (m i : ℕ) (k : ℕ) (ys : List NumberedBody) → KeepsApart m name → i < k → k + length ys ≤ m → is_named (name i) (written (on_from k name) ys) ≡ false
first-kept name m i k ys a l b = not_named (on_from k name) (name i) 0 ys (λ j p q. a.own i (k + j) (omega arith) (omega arith) ∙ different i (k + j) (omega arith))

pub both-stand : (name : ℕ → Name) (given : Relations) (ids : Ids) (known : RdfTerm → Bool) (vs ws us : List ℕ) (ls rs ns : List Mapping) (xs ys more : List NumberedBody) (i j n : ℕ) →
    KeepsApart (length xs + length ys + length more) name → i < length xs →
    Stands is_table given ids known vs ls (written name xs) (name i) →
    Stands is_table given ids known ws rs (written (on_from (length xs) name) ys) (name (length xs + j)) →
    ((t : Relations) → SameBase is_table given t → Carries ids known vs ls (t (name i)) → Carries ids known ws rs (t (name (length xs + j))) →
    Carries ids known us ns (after_steps (written_from name (length xs + length ys) more) t (name n))) →
    Stands is_table given ids known us ns (written name (behind_both xs ys more)) (name n)
both-stand name given ids known vs ws us ls rs ns xs ys more i j n a l sx sy next =
    let k = length xs in
    let m = length xs + length ys + length more in
    let right = written (on_from k name) ys in
    let last = written_from name (k + length ys) more in
    let other : is_named (name i) right ≡ false = first-kept name m i k ys a l (omega arith) in
    subst (λ (ss : List Step). Stands is_table given ids known us ns ss (name n)) (sym (written-behind name xs ys more))
    (goes-on_both is_table given ids known vs ws us ls rs ns (written name xs) right last (name i) (name (k + j)) (name n) sx sy other (written-apart name m (k + length ys) more a (omega arith)) next)

pub one-stands : (name : ℕ → Name) (given : Relations) (ids : Ids) (known : RdfTerm → Bool) (vs us : List ℕ) (ls ns : List Mapping) (xs more : List NumberedBody) (i n : ℕ) →
    KeepsApart (length xs + length more) name →
    Stands is_table given ids known vs ls (written name xs) (name i) →
    ((t : Relations) → SameBase is_table given t → Carries ids known vs ls (t (name i)) → Carries ids known us ns (after_steps (written_from name (length xs) more) t (name n))) →
    Stands is_table given ids known us ns (written name (xs ++ more)) (name n)
one-stands name given ids known vs us ls ns xs more i n a sx next =
    subst (λ (ss : List Step). Stands is_table given ids known us ns ss (name n)) (sym (written-append name xs more))
    (goes-on is_table given ids known vs us ls ns (written name xs) (written_from name (length xs) more) (name i) (name n) sx next
    (written-apart name (length xs + length more) (length xs) more a (omega arith)))

-- ---- binding

-- the five tables are there as before
pub tables-after : (facts : FactsOf) (steps : List Step) (t u : Schemas) → StepsBind steps t u → IsApart is_table steps → HasTables facts t → HasTables facts u
tables-after facts steps t u b a h n e = other-bind steps t u b n (a.names n e) ∙ h n e

pub one-binds : (facts : FactsOf) (name : ℕ → Name) (vs us : List ℕ) (xs more : List NumberedBody) (i n : ℕ) (s : Schemas) →
    KeepsApart (length xs + length more) name → HasTables facts s → AreFree name 0 (length xs + length more) s →
    BindsTo (written name xs) s (name i) (step_schema vs) →
    ((t : Schemas) → HasTables facts t → AreFree name (length xs) (length more) t → t (name i) ≡ Some (step_schema vs) → BindsTo (written_from name (length xs) more) t (name n) (step_schema us)) →
    BindsTo (written name (xs ++ more)) s (name n) (step_schema us)
one-binds facts name vs us xs more i n s a h free bx next =
    let k = length xs in
    let m = k + length more in
    let left = written name xs in
    let last = written_from name k more in
    let apart_left : IsApart is_table left = written-apart name m 0 xs a (omega arith) in
    let free_last : AreFree name k (length more) bx.after = λ j l.
    ap is_some (other-bind left s bx.after bx.bind (name (k + j)) (not_named name (name (k + j)) 0 xs (λ v p q. a.own (k + j) v (omega arith) (omega arith) ∙ unlike v (k + j) (omega arith))))
    ∙ ap (λ v. is_some (s (name v))) (plus_none (k + j)) ∙ free (k + j) (omega arith) in
    let bm = next bx.after (tables-after facts left s bx.after bx.bind apart_left h) free_last bx.there in
    record { after = bm.after; bind = subst (λ (ss : List Step). StepsBind ss s bm.after) (sym (written-append name xs more)) (append-bind left last s bx.after bm.after bx.bind bm.bind); there = bm.there }
  where
    unlike : (i j : ℕ) → i < j → (j == i) ≡ false
    unlike i j l = false_from_ne_true _ (λ e. let q : j ≡ i = eqb-true j i e in absurd (omega arith))

    plus_none : (n : ℕ) → n ≡ 0 + n
    plus_none n = omega arith

pub both-bind : (facts : FactsOf) (name : ℕ → Name) (vs ws us : List ℕ) (xs ys more : List NumberedBody) (i j n : ℕ) (s : Schemas) →
    KeepsApart (length xs + length ys + length more) name → HasTables facts s → AreFree name 0 (length xs + length ys + length more) s → i < length xs →
    BindsTo (written name xs) s (name i) (step_schema vs) →
    ((t : Schemas) → HasTables facts t → AreFree (on_from (length xs) name) 0 (length ys) t → BindsTo (written (on_from (length xs) name) ys) t (name (length xs + j)) (step_schema ws)) →
    ((t : Schemas) → HasTables facts t → AreFree name (length xs + length ys) (length more) t → t (name i) ≡ Some (step_schema vs) → t (name (length xs + j)) ≡ Some (step_schema ws) →
    BindsTo (written_from name (length xs + length ys) more) t (name n) (step_schema us)) →
    BindsTo (written name (behind_both xs ys more)) s (name n) (step_schema us)
both-bind facts name vs ws us xs ys more i j n s a h free l bx second next =
    let k = length xs in
    let ky = k + length ys in
    let m = ky + length more in
    let left = written name xs in
    let right = written (on_from k name) ys in
    let last = written_from name ky more in
    let apart_left : IsApart is_table left = written-apart name m 0 xs a (omega arith) in
    let apart_right : IsApart is_table right = written-apart (on_from k name) (length ys) 0 ys (apart-on k (length ys) m name a (omega arith)) (omega arith) in
    let still : (v : ℕ) → k ≤ v → v < m → is_some (bx.after (name v)) ≡ false = λ v p q.
    ap is_some (other-bind left s bx.after bx.bind (name v) (not_named name (name v) 0 xs (λ w e f. a.own v w q (omega arith) ∙ unlike w v (omega arith))))
    ∙ ap (λ w. is_some (s (name w))) (plus_none v) ∙ free v q in
    let tables1 : HasTables facts bx.after = tables-after facts left s bx.after bx.bind apart_left h in
    let by = second bx.after tables1 (λ v p. still (k + (0 + v)) (omega arith) (omega arith)) in
    let tables2 : HasTables facts by.after = tables-after facts right bx.after by.after by.bind apart_right tables1 in
    let still2 : (v : ℕ) → v < length more → is_some (by.after (name (ky + v))) ≡ false = λ v q.
    ap is_some (other-bind right bx.after by.after by.bind (name (ky + v)) (not_named (on_from k name) (name (ky + v)) 0 ys (λ w e f. a.own (ky + v) (k + w) (omega arith) (omega arith) ∙ unlike (k + w) (ky + v) (omega arith))))
    ∙ still (ky + v) (omega arith) (omega arith) in
    let there : by.after (name i) ≡ Some (step_schema vs) = other-bind right bx.after by.after by.bind (name i) (first-kept name m i k ys a l (omega arith)) ∙ bx.there in
    let bm = next by.after tables2 still2 there by.there in
    record {
      after = bm.after;
      bind = subst (λ (ss : List Step). StepsBind ss s bm.after) (sym (written-behind name xs ys more))
          (append-bind (left ++ right) last s by.after bm.after (append-bind left right s bx.after by.after bx.bind by.bind) bm.bind);
      there = bm.there;
    }
  where
    unlike : (i j : ℕ) → i < j → (j == i) ≡ false
    unlike i j l = false_from_ne_true _ (λ e. let q : j ≡ i = eqb-true j i e in absurd (omega arith))

    plus_none : (n : ℕ) → n ≡ 0 + n
    plus_none n = omega arith

-- a step's name is no primary table's
pub no-primary : (n : Name) → is_table n ≡ false → is_primary n ≡ false
no-primary n e =
    let h = or_parts (bytes_eq n (codes "DPH")) _ e in
    let k = or_parts (bytes_eq n (codes "DS")) _ h.1 in
    let l = or_parts (bytes_eq n (codes "RPH")) _ k.1 in
    or_from (bytes_eq n (codes "DPH")) (bytes_eq n (codes "RPH")) h.0 l.0
