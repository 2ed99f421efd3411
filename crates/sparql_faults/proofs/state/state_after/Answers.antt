use Rattle.std.proofs.Common.{ℕ, List, Bool, ap, sym, subst, ◌∙◌, ◌+◌, ◌&&◌}
use Rattle.sparql_query_meaning.specs.Prefixes.{declaring, declared}
use Rattle.sparql_query_meaning.specs.Limits.{is_behind_object, one_if}
use Rattle.sparql_lexemes.specs.declared.scope.Declaring.{Declaring}
use Rattle.sparql_lexemes.specs.Declarings.{declaring_of}
use Rattle.sparql_lexemes.specs.Scopes.{StandFor}
use Rattle.sparql_faults.specs.Roles.{role_of}
use Rattle.sparql_faults.specs.States.{next_state}
use Rattle.sparql_faults.proofs.state.state_after.Goals as goal

pub returns : goal.returns
returns c =
    next_state _ _ _ _ c.in_ok-role.ensures
    (c.in_ok-pass.ensures.declaring ∙ ap (λ (z : Declaring). declaring (declaring_of z) c.args.kind.now) c.note.ensures.declaring)
    (λ ds h. subst (λ (z : Declaring). StandFor c.pass.new.self.prefixes (declared (declaring_of z) c.args.kind.now ds)) c.note.ensures.declaring
    (c.in_ok-pass.ensures.prefixes ds (subst (λ (z : List (List ℕ × List ℕ)). StandFor z ds) (sym c.note.ensures.prefixes) h)))
    (c.pass.ensures.names ∙ c.in_ok-note.ensures.names)
    (c.patterns_after-patterns.ensures ∙ ap (λ (z : Bool). c.args.state.patterns + one_if (z && is_behind_object (role_of c.in_ok-role.role))) c.is_object-object.ensures)
    c.groups_after.ensures c.blocks_after.ensures c.keys_after-keys.ensures
