-- Two outs and further steps.
use Rattle.std.specs.Prelude.{◌&&◌, ◌++◌, ◌+◌, ◌<◌, ◌∷◌, ◌≡◌, Bool, List, Some, [], false, if◌then◌else◌, is_some, length, map, nat_le, refl, true, ℕ}
use Rattle.std.proofs.Common.{◌∙◌, ap, ap₂, arith, subst, sym}
use Rattle.std.proofs.lemmas.Bool.{and_from}
use Rattle.std.proofs.lemmas.Slice.Eq.{bytes_eq-Decides}
use Rattle.std.specs.List.{AllByRecursion}
use Rattle.std.specs.Str.{bytes_eq}
use Rattle.layout_meaning.specs.Facts.{FactsOf, IdOf}
use Rattle.layout_standing_meaning.specs.Dictionary.{has_term, id_of}
use Rattle.query_eval_meaning.specs.Mapping.{Mapping, width}
use Rattle.query_eval_meaning.specs.Variables.{Binds, Variables}
use Rattle.rdf_meaning.specs.Terms.{RdfTriple}
use Rattle.sql_gen_binding_laws.specs.StepColumns.{Once, step_schema}
use Rattle.sql_gen_chain_binding_laws.specs.StepsBind.{no_step, one_step}
use Rattle.sql_gen_form_laws.specs.Fits.{step_fits}
use Rattle.sql_gen_numbered_meaning.proofs.Apart.{apart-less, apart-on}
use Rattle.sql_gen_numbered_meaning.specs.Namings.{KeepsApart}
use Rattle.sql_gen_numbered_meaning.specs.Numbered.{body_under, on_from, written, written_from}
use Rattle.sql_gen_numbered_meaning.specs.declared.numbered.NumberedBody.{NumberedBody}
use Rattle.sql_gen_out_laws.proofs.Chained.{all-behind, both-bind, both-stand, length-behind, total-behind, written-behind}
use Rattle.sql_gen_out_laws.specs.Further.{Further, OneMore, before_more, behind_both, put_behind}
use Rattle.sql_gen_out_laws.specs.Outs.{Out, StandsOut, count}
use Rattle.sql_gen_step_laws.specs.Carried.{Carries, Name}
use Rattle.sql_meaning.specs.Scripts.{all_of, body_depth, body_form, body_refs, most_levels, step_refs, total}
use Rattle.sql_meaning.specs.declared.script.Step.{Step}
use Rattle.sql_rows_meaning.specs.Rows.{body_relation}
use Rattle.sql_rows_meaning.specs.Scopes.{Schemas, with_schema}
use Rattle.sql_rows_meaning.specs.Tables.{Relation, relations_of, with_relation}
use Rattle.table_meaning.specs.Names.{is_name}

-- two outs and more steps
pub outs-go-on : (facts : FactsOf) (ids : List IdOf) (x y : Out) (more : List NumberedBody) (n : ℕ) (us : List ℕ) (certain : Variables) (ls rs ns : List RdfTriple → List Mapping) (p q r : ℕ) →
    StandsOut facts ids ls p x → StandsOut facts ids rs q y → Further facts ids x y more n us ls rs ns r → n < before_more x y + length more → Once us → AllByRecursion (λ v. v < width) us →
    ((g : List RdfTriple) → AllByRecursion (Binds certain) (ns g)) → StandsOut facts ids ns (p + q + r) (put_behind x y more n us certain)
outs-go-on facts ids x y more n us certain ls rs ns p q r sx sy f l o w b = record {
  last_there = omega (arith, length-behind x.steps y.steps more);
  once = o;
  in_width = w;
  bound = b;
  same_refs = λ name a.
      let k : KeepsApart (before_more x y + length more) name = whole name a in
      ap (λ (ss : List Step). total (map step_refs ss)) (written-behind name x.steps y.steps more)
      ∙ total-behind step_refs (written name x.steps ++ written (on_from (count x) name) y.steps) (written_from name (before_more x y) more)
      ∙ ap₂ (λ i j. i + j) (total-behind step_refs (written name x.steps) (written (on_from (count x) name) y.steps)
      ∙ ap₂ (λ i j. i + j) (sx.same_refs name (first name k)) (sy.same_refs (on_from (count x) name) (second name k))) (f.same_refs name k);
  forms = λ name a h.
      let k : KeepsApart (before_more x y + length more) name = whole name a in
      let g : (i : ℕ) → i < before_more x y + length more → is_name (name i) ≡ true = λ i u. h i (omega (arith, length-behind x.steps y.steps more)) in
      ap (all_of step_fits) (written-behind name x.steps y.steps more)
      ∙ all-behind step_fits (written name x.steps ++ written (on_from (count x) name) y.steps) (written_from name (before_more x y) more)
      (all-behind step_fits (written name x.steps) (written (on_from (count x) name) y.steps)
      (sx.forms name (first name k) (λ i u. g i (omega arith))) (sy.forms (on_from (count x) name) (second name k) (λ i u. g (count x + i) (omega arith))))
      (f.forms name k g);
  binds = λ name a s h free.
      let k : KeepsApart (before_more x y + length more) name = whole name a in
      both-bind facts name x.variables y.variables us x.steps y.steps more x.last y.last n s k h (λ i u. free i (omega (arith, length-behind x.steps y.steps more))) sx.last_there
      (sx.binds name (first name k) s h (λ i u. free i (omega (arith, length-behind x.steps y.steps more))))
      (λ t ht ft. sy.binds (on_from (count x) name) (second name k) t ht ft)
      (λ t ht ft hx hy. f.binds name k t ht ft hx hy);
  stands = λ name a layout tables g d.
      let k : KeepsApart (before_more x y + length more) name = whole name a in
      both-stand name (relations_of tables) (id_of d.contents.terms) (has_term d.contents.terms) x.variables y.variables us (ls g) (rs g) (ns g) x.steps y.steps more x.last y.last n k sx.last_there
      (sx.stands name (first name k) layout tables g d) (sy.stands (on_from (count x) name) (second name k) layout tables g d)
      (λ t same cx cy. f.carries name k layout tables g d t same cx cy);
}
  where
    whole : (name : ℕ → Name) → KeepsApart (length (behind_both x.steps y.steps more)) name → KeepsApart (before_more x y + length more) name
    whole name a = apart-less (before_more x y + length more) (length (behind_both x.steps y.steps more)) name a (omega (arith, length-behind x.steps y.steps more))

    first : (name : ℕ → Name) → KeepsApart (before_more x y + length more) name → KeepsApart (count x) name
    first name a = apart-less (count x) (before_more x y + length more) name a (omega arith)

    second : (name : ℕ → Name) → KeepsApart (before_more x y + length more) name → KeepsApart (count y) (on_from (count x) name)
    second name a = apart-on (count x) (count y) (before_more x y + length more) name a (omega arith)

-- ---- one more step

pub itself : (n : Name) → bytes_eq n n ≡ true
itself n = (bytes_eq-Decides n n).1 refl

pub step_here : (name : ℕ → Name) (n : ℕ) (b : NumberedBody) → (body_form (body_under name b) && nat_le (body_depth (body_under name b)) most_levels) ≡ true → is_name (name n) ≡ true → all_of step_fits (written_from name n (b ∷ [])) ≡ true
step_here name n b h e = rw e (and_from _ true h refl)

pub one_more : (facts : FactsOf) (ids : List IdOf) (x y : Out) (b : NumberedBody) (us : List ℕ) (ls rs ns : List RdfTriple → List Mapping) (r : ℕ) →
    OneMore facts ids x y b us ls rs ns r → Further facts ids x y (b ∷ []) (before_more x y) us ls rs ns r
one_more facts ids x y b us ls rs ns r f = record {
  same_refs = λ name a. let e : body_refs (body_under name b) ≡ r = f.same_refs name (apart-less (before_more x y) (before_more x y + 1) name a (omega arith)) in let z : body_refs (body_under name b) + 0 ≡ body_refs (body_under name b) = omega arith in z ∙ e;
  forms = λ name a h. step_here name (before_more x y) b (f.forms name (λ i u. h i (omega arith))) (h (before_more x y) (omega arith));
  binds = λ name a t ht free hx hy.
      let here = name (before_more x y) in
      let after : Schemas = with_schema here (step_schema us) t in
      let new : is_some (t here) ≡ false = ap (λ i. is_some (t (name i))) (plus_none (before_more x y)) ∙ free 0 (omega arith) in
      record {
        after = after;
        bind = one_step (record { name = here; body = body_under name b }) [] t after (step_schema us) new (f.binds name t ht hx hy) (no_step after);
        there = ap (λ (v : Bool). if v then Some (step_schema us) else t here) (itself here);
      };
  carries = λ name a layout tables g d t same cx cy.
      let here = name (before_more x y) in
      let made : Relation = body_relation t (body_under name b) in
      let is : with_relation here made t here ≡ made = ap (λ (v : Bool). if v then made else t here) (itself here) in
      subst (Carries (id_of d.contents.terms) (has_term d.contents.terms) us (ns g)) (sym is) (f.carries name layout tables g d t same cx cy);
}
  where
    plus_none : (n : ℕ) → n ≡ n + 0
    plus_none n = omega arith

-- two outs and one more step
pub one-goes-on : (facts : FactsOf) (ids : List IdOf) (x y : Out) (b : NumberedBody) (us : List ℕ) (certain : Variables) (ls rs ns : List RdfTriple → List Mapping) (p q r : ℕ) →
    StandsOut facts ids ls p x → StandsOut facts ids rs q y → OneMore facts ids x y b us ls rs ns r → Once us → AllByRecursion (λ v. v < width) us →
    ((g : List RdfTriple) → AllByRecursion (Binds certain) (ns g)) → StandsOut facts ids ns (p + q + r) (put_behind x y (b ∷ []) (before_more x y) us certain)
one-goes-on facts ids x y b us certain ls rs ns p q r sx sy f o w bd =
    outs-go-on facts ids x y (b ∷ []) (before_more x y) us certain ls rs ns p q r sx sy (one_more facts ids x y b us ls rs ns r f) (omega arith) o w bd
