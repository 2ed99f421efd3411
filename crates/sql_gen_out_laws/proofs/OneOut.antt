-- One out and further steps, and a step over tables alone.
use Rattle.std.specs.Prelude.{◌++◌, ◌+◌, ◌<◌, ◌∷◌, ◌≡◌, Bool, List, Some, [], false, if◌then◌else◌, is_some, length, map, true, ℕ}
use Rattle.std.proofs.Common.{◌∙◌, ap, ap₂, arith, length-append, subst, sym}
use Rattle.std.specs.List.{AllByRecursion}
use Rattle.layout_meaning.specs.Facts.{FactsOf, IdOf}
use Rattle.layout_standing_meaning.specs.Dictionary.{has_term, id_of}
use Rattle.query_eval_meaning.specs.Mapping.{Mapping, width}
use Rattle.query_eval_meaning.specs.Variables.{Binds, Variables}
use Rattle.rdf_meaning.specs.Terms.{RdfTriple}
use Rattle.sql_gen_binding_laws.specs.StepColumns.{Once, step_schema}
use Rattle.sql_gen_chain_binding_laws.specs.StepsBind.{no_step, one_step}
use Rattle.sql_gen_form_laws.specs.Fits.{step_fits}
use Rattle.sql_gen_numbered_meaning.proofs.Apart.{apart-less}
use Rattle.sql_gen_numbered_meaning.proofs.Written.{written-apart, written-append}
use Rattle.sql_gen_numbered_meaning.specs.Namings.{KeepsApart}
use Rattle.sql_gen_numbered_meaning.specs.Numbered.{body_under, written, written_from}
use Rattle.sql_gen_numbered_meaning.specs.declared.numbered.NumberedBody.{NumberedBody}
use Rattle.sql_gen_out_laws.proofs.Chained.{all-behind, one-binds, one-stands, total-behind}
use Rattle.sql_gen_out_laws.proofs.TwoOuts.{itself, step_here}
use Rattle.sql_gen_out_laws.specs.Further.{FirstStep, FurtherOne, OneAfter, first_out, put_after}
use Rattle.sql_gen_out_laws.specs.Outs.{Out, StandsOut, count}
use Rattle.sql_gen_step_laws.specs.Carried.{Carries, Name}
use Rattle.sql_meaning.specs.Scripts.{all_of, body_refs, step_refs, total}
use Rattle.sql_meaning.specs.declared.script.Step.{Step}
use Rattle.sql_rows_meaning.specs.Rows.{body_relation}
use Rattle.sql_rows_meaning.specs.Scopes.{Schemas, with_schema}
use Rattle.sql_rows_meaning.specs.Tables.{Relation, relations_of, with_relation}
use Rattle.table_meaning.specs.Names.{is_name}

-- an out and more steps
pub out-goes-on : (facts : FactsOf) (ids : List IdOf) (x : Out) (more : List NumberedBody) (n : ℕ) (us : List ℕ) (certain : Variables) (ls ns : List RdfTriple → List Mapping) (p r : ℕ) →
    StandsOut facts ids ls p x → FurtherOne facts ids x more n us ls ns r → n < count x + length more → Once us → AllByRecursion (λ v. v < width) us →
    ((g : List RdfTriple) → AllByRecursion (Binds certain) (ns g)) → StandsOut facts ids ns (p + r) (put_after x more n us certain)
out-goes-on facts ids x more n us certain ls ns p r sx f l o w b = record {
  last_there = omega (arith, length-append x.steps more);
  once = o;
  in_width = w;
  bound = b;
  same_refs = λ name a.
      let k : KeepsApart (count x + length more) name = whole name a in
      ap (λ (ss : List Step). total (map step_refs ss)) (written-append name x.steps more)
      ∙ total-behind step_refs (written name x.steps) (written_from name (count x) more)
      ∙ ap₂ (λ i j. i + j) (sx.same_refs name (first name k)) (f.same_refs name k);
  forms = λ name a h.
      let k : KeepsApart (count x + length more) name = whole name a in
      let g : (i : ℕ) → i < count x + length more → is_name (name i) ≡ true = λ i u. h i (omega (arith, length-append x.steps more)) in
      ap (all_of step_fits) (written-append name x.steps more)
      ∙ all-behind step_fits (written name x.steps) (written_from name (count x) more) (sx.forms name (first name k) (λ i u. g i (omega arith))) (f.forms name k g);
  binds = λ name a s h free.
      let k : KeepsApart (count x + length more) name = whole name a in
      one-binds facts name x.variables us x.steps more x.last n s k h (λ i u. free i (omega (arith, length-append x.steps more)))
      (sx.binds name (first name k) s h (λ i u. free i (omega (arith, length-append x.steps more))))
      (λ t ht ft hx. f.binds name k t ht ft hx);
  stands = λ name a layout tables g d.
      let k : KeepsApart (count x + length more) name = whole name a in
      one-stands name (relations_of tables) (id_of d.contents.terms) (has_term d.contents.terms) x.variables us (ls g) (ns g) x.steps more x.last n k
      (sx.stands name (first name k) layout tables g d) (λ t same cx. f.carries name k layout tables g d t same cx);
}
  where
    whole : (name : ℕ → Name) → KeepsApart (length (x.steps ++ more)) name → KeepsApart (count x + length more) name
    whole name a = apart-less (count x + length more) (length (x.steps ++ more)) name a (omega (arith, length-append x.steps more))

    first : (name : ℕ → Name) → KeepsApart (count x + length more) name → KeepsApart (count x) name
    first name a = apart-less (count x) (count x + length more) name a (omega arith)

-- an out and one more step
pub one_after : (facts : FactsOf) (ids : List IdOf) (x : Out) (b : NumberedBody) (us : List ℕ) (certain : Variables) (ls ns : List RdfTriple → List Mapping) (p r : ℕ) →
    StandsOut facts ids ls p x → OneAfter facts ids x b us ls ns r → Once us → AllByRecursion (λ v. v < width) us →
    ((g : List RdfTriple) → AllByRecursion (Binds certain) (ns g)) → StandsOut facts ids ns (p + r) (put_after x (b ∷ []) (count x) us certain)
one_after facts ids x b us certain ls ns p r sx f o w bd =
    out-goes-on facts ids x (b ∷ []) (count x) us certain ls ns p r sx (record {
      same_refs = λ name a. let e : body_refs (body_under name b) ≡ r = f.same_refs name (apart-less (count x) (count x + 1) name a (omega arith)) in let z : body_refs (body_under name b) + 0 ≡ body_refs (body_under name b) = omega arith in z ∙ e;
      forms = λ name a h. step_here name (count x) b (f.forms name (λ i u. h i (omega arith))) (h (count x) (omega arith));
      binds = λ name a t ht free hx.
          let here = name (count x) in
          let after : Schemas = with_schema here (step_schema us) t in
          let new : is_some (t here) ≡ false = ap (λ i. is_some (t (name i))) (plus_none (count x)) ∙ free 0 (omega arith) in
          record {
            after = after;
            bind = one_step (record { name = here; body = body_under name b }) [] t after (step_schema us) new (f.binds name t ht hx) (no_step after);
            there = ap (λ (v : Bool). if v then Some (step_schema us) else t here) (itself here);
          };
      carries = λ name a layout tables g d t same cx.
          let here = name (count x) in
          let made : Relation = body_relation t (body_under name b) in
          let is : with_relation here made t here ≡ made = ap (λ (v : Bool). if v then made else t here) (itself here) in
          subst (Carries (id_of d.contents.terms) (has_term d.contents.terms) us (ns g)) (sym is) (f.carries name layout tables g d t same cx);
    }) (omega arith) o w bd
  where
    plus_none : (n : ℕ) → n ≡ n + 0
    plus_none n = omega arith

-- ---- over tables alone

pub first-stands : (facts : FactsOf) (ids : List IdOf) (b : NumberedBody) (us : List ℕ) (certain : Variables) (ns : List RdfTriple → List Mapping) (r : ℕ) → FirstStep facts ids b us ns r → Once us → AllByRecursion (λ v. v < width) us →
    ((g : List RdfTriple) → AllByRecursion (Binds certain) (ns g)) → StandsOut facts ids ns r (first_out b us certain)
first-stands facts ids b us certain ns r f o w bd = record {
  last_there = omega arith;
  once = o;
  in_width = w;
  bound = bd;
  same_refs = λ name a. let z : body_refs (body_under name b) + 0 ≡ body_refs (body_under name b) = omega arith in z ∙ f.same_refs name;
  forms = λ name a h. step_here name 0 b (f.forms name) (h 0 (omega arith));
  binds = λ name a t ht free.
      let after : Schemas = with_schema (name 0) (step_schema us) t in
      record {
        after = after;
        bind = one_step (record { name = name 0; body = body_under name b }) [] t after (step_schema us) (free 0 (omega arith)) (f.binds name t ht) (no_step after);
        there = ap (λ (v : Bool). if v then Some (step_schema us) else t (name 0)) (itself (name 0));
      };
  stands = λ name a layout tables g d. record {
    carries = λ t same.
        let made : Relation = body_relation t (body_under name b) in
        let is : with_relation (name 0) made t (name 0) ≡ made = ap (λ (v : Bool). if v then made else t (name 0)) (itself (name 0)) in
        subst (Carries (id_of d.contents.terms) (has_term d.contents.terms) us (ns g)) (sym is) (f.carries name layout tables g d t same);
    apart = written-apart name 1 0 (b ∷ []) a (omega arith);
  };
}
