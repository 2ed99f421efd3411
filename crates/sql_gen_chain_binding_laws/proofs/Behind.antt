-- Steps behind steps bind.
use Rattle.std.specs.Prelude.{◌≡◌, ℕ, ◌+◌, Bool, false, List, [], ◌∷◌, ◌++◌, length, Ok, is_some, refl}
use Rattle.std.proofs.Common.{ap, ◌∙◌}
use Rattle.std.proofs.lemmas.Bool.{or_parts}
use Rattle.std.specs.Str.{bytes_eq}
use Rattle.table_meaning.specs.declared.schema.Column.{Column}
use Rattle.sql_meaning.specs.declared.script.Core.{Core}
use Rattle.sql_meaning.specs.declared.script.Step.{Step}
use Rattle.sql_rows_meaning.specs.declared.fault.FaultKind.TheVariants.{Twice}
use Rattle.sql_rows_meaning.specs.Faults.{unless, in_select}
use Rattle.sql_rows_meaning.specs.Scopes.{Schemas, with_schema}
use Rattle.sql_rows_meaning.specs.Binding.{check_body, check_steps}
use Rattle.sql_gen_step_laws.specs.Carried.{Name}
use Rattle.sql_gen_chain_laws.specs.Chains.{is_named}
use Rattle.sql_gen_chain_binding_laws.specs.StepsBind.{StepsBind, no_step, one_step}

-- steps leave the columns under other names as they are
pub other-bind : (steps : List Step) (t u : Schemas) → StepsBind steps t u → (n : Name) → is_named n steps ≡ false → u n ≡ t n
other-bind [] t u (no_step _) n e = refl
other-bind (s ∷ steps) t u (one_step _ _ _ _ columns new body rest) n e =
    let h = or_parts (bytes_eq n s.name) (is_named n steps) e in
    other-bind steps (with_schema s.name columns t) u rest n h.1 ∙ rw h.0 refl

pub append-bind : (xs ys : List Step) (t u v : Schemas) → StepsBind xs t u → StepsBind ys u v → StepsBind (xs ++ ys) t v
append-bind [] ys t u v (no_step _) q = q
append-bind (x ∷ xs) ys t u v (one_step _ _ _ _ columns new body rest) q = one_step x (xs ++ ys) t v columns new body (append-bind xs ys (with_schema x.name columns t) u v rest q)

-- steps that bind, and then the last body
pub script-binds : (steps : List Step) (t u : Schemas) (last : List Core) (columns : List Column) → StepsBind steps t u → ((n : ℕ) → check_body u n last ≡ Ok columns) → (n : ℕ) → check_steps n t steps last ≡ Ok columns
script-binds [] t u last columns (no_step _) body n = body n
script-binds (s ∷ steps) t u last columns (one_step _ _ _ _ own new bodies rest) body n =
    let fresh : in_select n (unless (is_some (t s.name)) Twice s) ≡ Ok s = ap (λ (b : Bool). in_select n (unless b Twice s)) new in
    rw fresh (rw (bodies n) (script-binds steps (with_schema s.name own t) u last columns rest body (n + length s.body.cores)))
