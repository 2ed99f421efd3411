-- The steps of a script, one by one, and the whole.
use Rattle.std.proofs.Common.{◌≡◌, ℕ, ◌+◌, ◌<◌, true, false, List, [], ◌∷◌, ◌++◌, length, drop, get_or, Option, None, Ok, Err, refl, sym, ap, ◌∙◌, subst}
use Rattle.std.specs.Prelude.{is_some}
use Rattle.std.specs.List.{list_all}
use Rattle.table_meaning.specs.declared.schema.Column.{Column}
use Rattle.table_meaning.specs.Tables.{NamedTable, is_table, are_rows}
use Rattle.sql_meaning.specs.declared.script.Core.{Core}
use Rattle.sql_meaning.specs.declared.script.Step.{Step}
use Rattle.sql_meaning.specs.declared.script.Script.{Script}
use Rattle.sql_rows_meaning.specs.declared.fault.Fault.{Fault}
use Rattle.sql_rows_meaning.specs.declared.schema.NamedSchema.{NamedSchema}
use Rattle.sql_rows_meaning.specs.Faults.{Checked, and_then}
use Rattle.sql_rows_meaning.specs.Scopes.{Schemas, with_schema, schemas_of, schemas_in}
use Rattle.sql_rows_meaning.specs.Binding.{check_body, check_step_body, check_steps, check_script}
use Rattle.sql_bind_forms.specs.Forms.{BoundForm, bound_fits}
use Rattle.sql_bind_meaning.specs.declared.script.BoundBody.{BoundBody}
use Rattle.sql_bind_meaning.specs.declared.script.BoundScript.{BoundScript}
use Rattle.sql_bind_meaning.specs.Rows.{bound_rows}
use Rattle.sql_bind_laws.specs.Places.{place_body, columns_found, step_in, place_steps, all_known, place_script}
use Rattle.sql_bind_laws.specs.PlacedRows.{with-more, script-placed}
use Rattle.sql_bind.specs.Bound.{IsBoundFrom}
use Rattle.sql_bind.specs.Parts.{AreBoundUpTo, AreBound, HaveFault}
use Rattle.sql_bind.proofs.SchemaSteps.{body_schema, body_names_differ}
use Rattle.sql_bind.proofs.Fronts.{at-front, append-one, nothing-behind}

none-there : (o : Option (List Column)) → o ≡ None → is_some o ≡ false
none-there o h = ap is_some h

-- the check of the steps, where the next one binds
fine-next : (known more : List NamedSchema) (n m : ℕ) (x : Step) (rest : List Step) (columns : List Column) (last : List Core) → schemas_of known x.name ≡ None → check_step_body (schemas_of known) n x ≡ Ok columns →
    more ≡ known ++ record { name = x.name; schema = columns } ∷ [] → m ≡ n + length x.body.cores → check_steps n (schemas_of known) (x ∷ rest) last ≡ check_steps m (schemas_of more) rest last
fine-next known more n m x rest columns last new fine now count =
    ap (λ (c : Checked Fault (List Column)). and_then c (λ columns. check_steps (n + length x.body.cores) (with_schema x.name columns (schemas_of known)) rest last)) fine
    ∙ ap (λ (s : Schemas). check_steps (n + length x.body.cores) s rest last) (with-more (record { name = x.name; schema = columns }) known (none-there (schemas_of known x.name) new))
    ∙ ap (λ (l : List NamedSchema). check_steps (n + length x.body.cores) (schemas_of l) rest last) (sym now)
    ∙ ap (λ (k : ℕ). check_steps k (schemas_of more) rest last) (sym count)

-- the relation that a step is
step-is : (known : List NamedSchema) (n : ℕ) (x : Step) (columns : List Column) → check_body (schemas_of known) n x.body.cores ≡ Ok columns → step_in n known x ≡ record { name = x.name; schema = columns }
step-is known n x columns h = ap (λ (c : Checked Fault (List Column)). record { name = x.name; schema = columns_found c }) h

known-next : (known more : List NamedSchema) (n m : ℕ) (x : Step) (rest : List Step) (columns : List Column) → check_body (schemas_of known) n x.body.cores ≡ Ok columns →
    more ≡ known ++ record { name = x.name; schema = columns } ∷ [] → m ≡ n + length x.body.cores → all_known n known (x ∷ rest) ≡ all_known m more rest
known-next known more n m x rest columns found now count =
    ap (λ (t : NamedSchema). all_known (n + length x.body.cores) (known ++ t ∷ []) rest) (step-is known n x columns found)
    ∙ ap (λ (l : List NamedSchema). all_known (n + length x.body.cores) l rest) (sym now)
    ∙ ap (λ (k : ℕ). all_known k more rest) (sym count)

bodies-next : (known more : List NamedSchema) (n m : ℕ) (x : Step) (rest : List Step) (columns : List Column) (bodies : List BoundBody) (b : BoundBody) → check_body (schemas_of known) n x.body.cores ≡ Ok columns →
    more ≡ known ++ record { name = x.name; schema = columns } ∷ [] → m ≡ n + length x.body.cores → b ≡ place_body known x.body.cores → bodies ++ place_steps n known (x ∷ rest) ≡ (bodies ++ b ∷ []) ++ place_steps m more rest
bodies-next known more n m x rest columns bodies b found now count made =
    ap (λ (c : BoundBody). bodies ++ c ∷ place_steps (n + length x.body.cores) (known ++ step_in n known x ∷ []) rest) (sym made)
    ∙ ap (λ (t : NamedSchema). bodies ++ b ∷ place_steps (n + length x.body.cores) (known ++ t ∷ []) rest) (step-is known n x columns found)
    ∙ ap (λ (l : List NamedSchema). bodies ++ b ∷ place_steps (n + length x.body.cores) l rest) (sym now)
    ∙ ap (λ (k : ℕ). bodies ++ b ∷ place_steps k more rest) (sym count)
    ∙ append-one bodies b (place_steps m more rest)

pub bound_start : (schemas known : List NamedSchema) (steps : List Step) (bodies : List BoundBody) → known ≡ schemas → bodies ≡ [] → AreBoundUpTo schemas steps known 1 bodies steps
bound_start schemas known steps bodies same none =
    subst (λ (l : List BoundBody). AreBoundUpTo schemas steps known 1 l steps) (sym none)
    (subst (λ (l : List NamedSchema). AreBoundUpTo schemas steps l 1 [] steps) (sym same) (record { fine = λ last. refl; placed = refl; relations = refl }))

pub bound_next : (schemas known more : List NamedSchema) (steps : List Step) (n m : ℕ) (bodies : List BoundBody) (i : ℕ) (x : Step) (columns : List Column) (b : BoundBody) →
    AreBoundUpTo schemas steps known n bodies (drop i steps) → i < length steps → x ≡ get_or steps i x → schemas_of known x.name ≡ None →
    check_body (schemas_of known) n x.body.cores ≡ Ok columns → check_step_body (schemas_of known) n x ≡ Ok columns →
    more ≡ known ++ record { name = x.name; schema = columns } ∷ [] → m ≡ n + length x.body.cores → b ≡ place_body known x.body.cores →
    AreBoundUpTo schemas steps more m (bodies ++ b ∷ []) (drop (i + 1) steps)
bound_next schemas known more steps n m bodies i x columns b was within is new found fine now count made =
    let front : drop i steps ≡ x ∷ drop (i + 1) steps = at-front steps i x within is in
    record {
      fine = λ last. was.fine last ∙ ap (λ (l : List Step). check_steps n (schemas_of known) l last) front ∙ fine-next known more n m x (drop (i + 1) steps) columns last new fine now count;
      placed = was.placed ∙ ap (λ (l : List Step). bodies ++ place_steps n known l) front ∙ bodies-next known more n m x (drop (i + 1) steps) columns bodies b found now count made;
      relations = was.relations ∙ ap (all_known n known) front ∙ known-next known more n m x (drop (i + 1) steps) columns found now count;
    }

-- the same, of what the parts of the code gave: the number by the SELECTs as a slice, the columns as a slice, and the bodies with one more
pub bound_more : (schemas known more : List NamedSchema) (steps : List Step) (n m : ℕ) (bodies bound : List BoundBody) (i : ℕ) (x : Step) (columns given : List Column) (cores : List Core) (b : BoundBody) →
    AreBoundUpTo schemas steps known n bodies (drop i steps) → i < length steps → x ≡ get_or steps i x → schemas_of known x.name ≡ None →
    check_body (schemas_of known) n x.body.cores ≡ Ok columns → check_step_body (schemas_of known) n x ≡ Ok columns →
    given ≡ columns → more ≡ known ++ record { name = x.name; schema = given } ∷ [] → cores ≡ x.body.cores → m ≡ n + length cores → b ≡ place_body known x.body.cores → bound ≡ bodies ++ b ∷ [] →
    AreBoundUpTo schemas steps more m bound (drop (i + 1) steps)
bound_more schemas known more steps n m bodies bound i x columns given cores b was within is new found fine same now are count made all =
    let schema : more ≡ known ++ record { name = x.name; schema = columns } ∷ [] = now ∙ ap (λ (cs : List Column). known ++ record { name = x.name; schema = cs } ∷ []) same in
    let number : m ≡ n + length x.body.cores = count ∙ ap (λ (l : List Core). n + length l) are in
    subst (λ (l : List BoundBody). AreBoundUpTo schemas steps more m l (drop (i + 1) steps)) (sym all) (bound_next schemas known more steps n m bodies i x columns b was within is new found fine schema number made)

pub bound_fault : (schemas known : List NamedSchema) (steps : List Step) (n : ℕ) (bodies : List BoundBody) (i : ℕ) (x : Step) (f : Fault) →
    AreBoundUpTo schemas steps known n bodies (drop i steps) → i < length steps → x ≡ get_or steps i x → check_step_body (schemas_of known) n x ≡ Err f → HaveFault schemas steps f
bound_fault schemas known steps n bodies i x f was within is fault = record {
  first = λ last.
      was.fine last ∙ ap (λ (l : List Step). check_steps n (schemas_of known) l last) (at-front steps i x within is)
      ∙ ap (λ (c : Checked Fault (List Column)). and_then c (λ columns. check_steps (n + length x.body.cores) (with_schema x.name columns (schemas_of known)) (drop (i + 1) steps) last)) fault;
}

pub bound_end : (schemas known : List NamedSchema) (steps rest : List Step) (n : ℕ) (bodies : List BoundBody) → AreBoundUpTo schemas steps known n bodies rest → rest ≡ [] → AreBound schemas steps known n bodies
bound_end schemas known steps rest n bodies was none =
    let at_end : AreBoundUpTo schemas steps known n bodies [] = subst (λ (l : List Step). AreBoundUpTo schemas steps known n bodies l) none was in
    record {
      fine = at_end.fine;
      placed = sym (at_end.placed ∙ nothing-behind bodies);
      relations = sym at_end.relations;
    }

pub ruleset step_rules = (body_names_differ, bound_start, bound_next, bound_fault, bound_end)

-- ---- the whole

abbrev placed_form : List BoundBody → BoundBody → BoundScript
placed_form bodies body = record { steps = bodies; last = body }

abbrev bound_form : List BoundBody → BoundBody → List Column → List NamedSchema → BoundForm
bound_form bodies body columns tables = record { placed = placed_form bodies body; columns = columns; tables = tables }

pub whole_bound : (s : Script) (schemas known tables : List NamedSchema) (n : ℕ) (columns : List Column) (bodies : List BoundBody) (body : BoundBody) (b : BoundForm) →
    AreBound schemas s.steps known n bodies → check_body (schemas_of known) n s.last.cores ≡ Ok columns → body ≡ place_body known s.last.cores → tables ≡ schemas →
    b ≡ record { placed = record { steps = bodies; last = body }; columns = columns; tables = tables } → IsBoundFrom s schemas b
whole_bound s schemas known tables n columns bodies body b steps last body_is same is =
    let whole : check_script s schemas ≡ Ok columns = steps.fine s.last.cores ∙ last in
    let body_are : body ≡ place_body (all_known 1 schemas s.steps) s.last.cores = body_is ∙ ap (λ (l : List NamedSchema). place_body l s.last.cores) steps.relations in
    let script : placed_form bodies body ≡ place_script s schemas = ap (λ (l : List BoundBody). placed_form l body) steps.placed ∙ ap (placed_form (place_steps 1 schemas s.steps)) body_are in
    subst (IsBoundFrom s schemas) (sym is) (record {
      columns = whole;
      placed = script;
      tables = same;
      rows = λ given are_tables.
          let are : schemas_in given ≡ schemas = are_tables ∙ same in
          let over : check_script s (schemas_in given) ≡ Ok columns = ap (check_script s) are ∙ whole in
          ap (λ (p : BoundScript). bound_rows p given) (script ∙ ap (place_script s) (sym are)) ∙ script-placed s given columns over;
    })

-- the rows of the bound form have its columns
pub whole_rows : (s : Script) (schemas known tables : List NamedSchema) (n : ℕ) (columns : List Column) (bodies : List BoundBody) (body : BoundBody) (given : List NamedTable) →
    AreBound schemas s.steps known n bodies → check_body (schemas_of known) n s.last.cores ≡ Ok columns → body ≡ place_body known s.last.cores → tables ≡ schemas →
    list_all is_table given ≡ true → schemas_in given ≡ tables → are_rows columns (bound_rows (record { steps = bodies; last = body }) given) ≡ true
whole_rows s schemas known tables n columns bodies body given steps last body_is same all are =
    let it : IsBoundFrom s schemas (bound_form bodies body columns tables) = whole_bound s schemas known tables n columns bodies body (bound_form bodies body columns tables) steps last body_is same refl in
    bound_fits s (bound_form bodies body columns tables) (ap (check_script s) same ∙ it.columns) it.rows given all are

pub whole_fault : (s : Script) (schemas known : List NamedSchema) (n : ℕ) (bodies : List BoundBody) (f : Fault) → AreBound schemas s.steps known n bodies → check_body (schemas_of known) n s.last.cores ≡ Err f → check_script s schemas ≡ Err f
whole_fault s schemas known n bodies f steps last = steps.fine s.last.cores ∙ last

pub whole_stops : (s : Script) (schemas : List NamedSchema) (f : Fault) → HaveFault schemas s.steps f → check_script s schemas ≡ Err f
whole_stops s schemas f steps = steps.first s.last.cores

pub ruleset whole_rules = (body_schema, whole_bound, whole_rows, whole_fault, whole_stops)
