-- Steps of which each is shown from all that stand before it.
use Rattle.std.specs.Prelude.{◌++◌, ◌+◌, ◌<◌, ◌==◌, ◌∷◌, ◌≡◌, List, Some, [], false, is_some, length, map, refl, true, ℕ}
use Rattle.std.proofs.Common.{◌∙◌, ◌⊎◌, ap, ap₂, arith, inl, inr, length-append, subst, sym}
use Rattle.std.proofs.lemmas.Bool.{cases_Bool, eqb-false, eqb-true, false_from_ne_true}
use Rattle.std.specs.List.{AllByRecursion}
use Rattle.std.specs.Str.{bytes_eq}
use Rattle.layout_facts_meaning.specs.Facts.{HaveFacts}
use Rattle.layout_meaning.specs.Facts.{FactsOf, IdOf}
use Rattle.layout_standing_meaning.specs.Dictionary.{has_term, id_of}
use Rattle.layout_standing_meaning.specs.Schemas.{LayoutOf}
use Rattle.query_eval_meaning.specs.Mapping.{Mapping, width}
use Rattle.query_eval_meaning.specs.Variables.{Binds, Variables}
use Rattle.rdf_meaning.specs.Terms.{RdfTriple}
use Rattle.sql_gen_binding_laws.specs.StepColumns.{Once, step_schema}
use Rattle.sql_gen_chain_binding_laws.proofs.Behind.{append-bind, other-bind}
use Rattle.sql_gen_chain_binding_laws.specs.StepsBind.{StepsBind, no_step, one_step}
use Rattle.sql_gen_chain_laws.proofs.Behind.{after-append, after-other}
use Rattle.sql_gen_chain_laws.specs.Chains.{SameBase, is_named}
use Rattle.sql_gen_form_laws.specs.Fits.{step_fits}
use Rattle.sql_gen_numbered_meaning.proofs.Apart.{apart-less}
use Rattle.sql_gen_numbered_meaning.proofs.Written.{not_named, written-apart, written-append}
use Rattle.sql_gen_numbered_meaning.specs.Namings.{KeepsApart, is_table}
use Rattle.sql_gen_numbered_meaning.specs.Numbered.{body_under, written, written_from}
use Rattle.sql_gen_numbered_meaning.specs.declared.numbered.NumberedBody.{NumberedBody}
use Rattle.sql_gen_out_laws.proofs.Chained.{all-behind, no-primary, tables-after, total-behind}
use Rattle.sql_gen_out_laws.proofs.TwoOuts.{step_here}
use Rattle.sql_gen_out_laws.specs.Outs.{HasTables, StandsOut}
use Rattle.sql_gen_out_laws.specs.StepByStep.{Made, Makes, Saying}
use Rattle.sql_gen_step_laws.specs.Carried.{Carries, Name, carry}
use Rattle.sql_meaning.specs.Scripts.{all_of, body_refs, step_refs, total}
use Rattle.sql_meaning.specs.declared.script.Step.{Step}
use Rattle.sql_rows_meaning.specs.Rows.{after_steps, body_relation}
use Rattle.sql_rows_meaning.specs.Scopes.{Schemas, with_schema}
use Rattle.sql_rows_meaning.specs.Tables.{Relation, Relations, relations_of, with_relation}
use Rattle.table_meaning.specs.Names.{is_name}
use Rattle.table_meaning.specs.Tables.{NamedTable}
use Rattle.table_meaning.specs.declared.schema.Column.{Column}

-- no step
pub made_none : (facts : FactsOf) (ids : List IdOf) (columns : ℕ → List Column) (P : Saying facts ids) → Made facts ids [] columns P 0
made_none facts ids columns P = record {
  same_refs = λ name a. refl;
  forms = λ name a h. refl;
  binds = λ name a s ht free. record { after = s; bind = no_step s; there = λ i l. absurd (omega arith) };
  makes = λ name a layout tables g d t same i l. absurd (omega arith);
}

-- one more step
pub made_more : (facts : FactsOf) (ids : List IdOf) (bs : List NumberedBody) (b : NumberedBody) (columns : ℕ → List Column) (P : Saying facts ids) (p r : ℕ) →
    Made facts ids bs columns P p → Makes facts ids (length bs) b columns P r → Made facts ids (bs ++ b ∷ []) columns P (p + r)
made_more facts ids bs b columns P p r m f = record {
  same_refs = λ name a.
      let k = whole name a in
      let e : body_refs (body_under name b) ≡ r = f.same_refs name (λ i l. no-primary (name i) (k.no_table i (omega arith))) in
      let z : body_refs (body_under name b) + 0 ≡ body_refs (body_under name b) = omega arith in
      ap (λ (ss : List Step). total (map step_refs ss)) (written-append name bs (b ∷ []))
      ∙ total-behind step_refs (written name bs) (written_from name (length bs) (b ∷ []))
      ∙ ap₂ (λ i j. i + j) (m.same_refs name (first name k)) (z ∙ e);
  forms = λ name a h.
      let k = whole name a in
      let g : (i : ℕ) → i < length bs + 1 → is_name (name i) ≡ true = λ i u. h i (omega (arith, length-append bs (b ∷ []))) in
      ap (all_of step_fits) (written-append name bs (b ∷ []))
      ∙ all-behind step_fits (written name bs) (written_from name (length bs) (b ∷ [])) (m.forms name (first name k) (λ i u. g i (omega arith))) (step_here name (length bs) b (f.forms name (λ i u. g i (omega arith))) (g (length bs) (omega arith)));
  binds = λ name a s ht free.
      let k = whole name a in
      let here = name (length bs) in
      let left = written name bs in
      let e = m.binds name (first name k) s ht (λ i u. free i (omega (arith, length-append bs (b ∷ [])))) in
      let tables : HasTables facts e.after = tables-after facts left s e.after e.bind (written-apart name (length bs + 1) 0 bs k (omega arith)) ht in
      let new : is_some (e.after here) ≡ false =
      ap is_some (other-bind left s e.after e.bind here (fresh name k)) ∙ ap (λ w. is_some (s (name w))) (plus_none (length bs)) ∙ free (length bs) (omega (arith, length-append bs (b ∷ []))) in
      let after : Schemas = with_schema here (columns (length bs)) e.after in
      let one = one_step (record { name = here; body = body_under name b }) [] e.after after (columns (length bs)) new (f.binds name e.after tables e.there) (no_step after) in
      record {
        after = after;
        bind = subst (λ (ss : List Step). StepsBind ss s after) (sym (written-append name bs (b ∷ []))) (append-bind left (written_from name (length bs) (b ∷ [])) s e.after after e.bind one);
        there = λ i l. schema_at name k e.after e.there i (omega (arith, length-append bs (b ∷ []))) (cases_Bool (i == length bs));
      };
  makes = λ name a layout tables g d t same i l.
      let k = whole name a in
      let t1 : Relations = after_steps (written name bs) t in
      let before : (j : ℕ) → j < length bs → P j layout tables g d (t1 (name j)) = m.makes name (first name k) layout tables g d t same in
      let same1 : SameBase is_table (relations_of tables) t1 = λ n e. after-other (written name bs) t n ((written-apart name (length bs + 1) 0 bs k (omega arith)).names n e) ∙ same n e in
      let made : Relation = body_relation t1 (body_under name b) in
      let whole_is : after_steps (written name (bs ++ b ∷ [])) t ≡ with_relation (name (length bs)) made t1 =
      ap (λ (ss : List Step). after_steps ss t) (written-append name bs (b ∷ [])) ∙ after-append (written name bs) (written_from name (length bs) (b ∷ [])) t in
      subst (λ (u : Relations). P i layout tables g d (u (name i))) (sym whole_is)
      (table_at name k layout tables g d t1 made before (f.makes name layout tables g d t1 same1 before) i (omega (arith, length-append bs (b ∷ []))) (cases_Bool (i == length bs)));
}
  where
    whole : (name : ℕ → Name) → KeepsApart (length (bs ++ b ∷ [])) name → KeepsApart (length bs + 1) name
    whole name a = apart-less (length bs + 1) (length (bs ++ b ∷ [])) name a (omega (arith, length-append bs (b ∷ [])))

    first : (name : ℕ → Name) → KeepsApart (length bs + 1) name → KeepsApart (length bs) name
    first name a = apart-less (length bs) (length bs + 1) name a (omega arith)

    plus_none : (n : ℕ) → n ≡ 0 + n
    plus_none n = omega arith

    unlike : (i j : ℕ) → i < j → (j == i) ≡ false
    unlike i j l = false_from_ne_true _ (λ e. let q : j ≡ i = eqb-true j i e in absurd (omega arith))

    fresh : (name : ℕ → Name) → KeepsApart (length bs + 1) name → is_named (name (length bs)) (written name bs) ≡ false
    fresh name k = not_named name (name (length bs)) 0 bs (λ w e u. k.own (length bs) w (omega arith) (omega arith) ∙ unlike w (length bs) (omega arith))

    schema_at : (name : ℕ → Name) → KeepsApart (length bs + 1) name → (s : Schemas) → ((i : ℕ) → i < length bs → s (name i) ≡ Some (columns i)) → (i : ℕ) → i < length bs + 1 → ((i == length bs) ≡ true) ⊎ ((i == length bs) ≡ false) →
        with_schema (name (length bs)) (columns (length bs)) s (name i) ≡ Some (columns i)
    schema_at name k s there i l (inl e) =
        let same : bytes_eq (name i) (name (length bs)) ≡ true = k.own i (length bs) l (omega arith) ∙ e in
        rw same (ap (λ (j : ℕ). Some (columns j)) (sym (eqb-true i (length bs) e)))
    schema_at name k s there i l (inr e) =
        let other : bytes_eq (name i) (name (length bs)) ≡ false = k.own i (length bs) l (omega arith) ∙ e in
        rw other (there i (less i (length bs) l e))
      where
        less : (i n : ℕ) → i < n + 1 → (i == n) ≡ false → i < n
        less i n l e = omega (arith, eqb-false i n e)

    table_at : (name : ℕ → Name) → KeepsApart (length bs + 1) name → (layout : LayoutOf) (tables : List NamedTable) (g : List RdfTriple) → (d : HaveFacts layout tables g ids facts) → (t1 : Relations) (made : Relation) →
        ((j : ℕ) → j < length bs → P j layout tables g d (t1 (name j))) → P (length bs) layout tables g d made → (i : ℕ) → i < length bs + 1 → ((i == length bs) ≡ true) ⊎ ((i == length bs) ≡ false) →
        P i layout tables g d (with_relation (name (length bs)) made t1 (name i))
    table_at name k layout tables g d t1 made before now i l (inl e) =
        let same : bytes_eq (name i) (name (length bs)) ≡ true = k.own i (length bs) l (omega arith) ∙ e in
        rw same (subst (λ (j : ℕ). P j layout tables g d made) (sym (eqb-true i (length bs) e)) now)
    table_at name k layout tables g d t1 made before now i l (inr e) =
        let other : bytes_eq (name i) (name (length bs)) ≡ false = k.own i (length bs) l (omega arith) ∙ e in
        rw other (before i (less i (length bs) l e))
      where
        less : (i n : ℕ) → i < n + 1 → (i == n) ≡ false → i < n
        less i n l e = omega (arith, eqb-false i n e)

-- steps of which one carries solutions are an out that stands for them
pub made_stands : (facts : FactsOf) (ids : List IdOf) (bs : List NumberedBody) (columns : ℕ → List Column) (P : Saying facts ids) (refs n : ℕ) (vs : List ℕ) (certain : Variables) (sols : List RdfTriple → List Mapping) →
    Made facts ids bs columns P refs → n < length bs → columns n ≡ step_schema vs → Once vs → AllByRecursion (λ v. v < width) vs → ((g : List RdfTriple) → AllByRecursion (Binds certain) (sols g)) →
    ((layout : LayoutOf) (tables : List NamedTable) (g : List RdfTriple) → (d : HaveFacts layout tables g ids facts) → (t : Relation) → P n layout tables g d t → Carries (id_of d.contents.terms) (has_term d.contents.terms) vs (sols g) t) →
    StandsOut facts ids sols refs (record { steps = bs; last = n; variables = vs; certain = certain })
made_stands facts ids bs columns P refs n vs certain sols m l c o w b carry = record {
  last_there = l;
  once = o;
  in_width = w;
  bound = b;
  same_refs = m.same_refs;
  forms = m.forms;
  binds = λ name a s ht free. let e = m.binds name a s ht free in record { after = e.after; bind = e.bind; there = e.there n l ∙ ap (λ (cs : List Column). Some cs) c };
  stands = λ name a layout tables g d. record {
    carries = λ t same. carry layout tables g d (after_steps (written name bs) t (name n)) (m.makes name a layout tables g d t same n l);
    apart = written-apart name (length bs) 0 bs a (omega arith);
  };
}
