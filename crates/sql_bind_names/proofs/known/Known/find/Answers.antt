use Rattle.std.proofs.Common.{◌≡◌, ◌∙◌, sym, ap, List, ℕ, Some}
use Rattle.sql_rows_meaning.specs.declared.schema.NamedSchema.{NamedSchema}
use Rattle.sql_rows_meaning.specs.Scopes.{schemas_of}
use Rattle.sql_bind_laws.specs.Places.{number_of}
use Rattle.sql_bind_names.specs.Entries.{all_named}
use Rattle.sql_bind_names.proofs.Lookups.{number-found, columns-found, none-found}
use Rattle.sql_bind_names.proofs.known.Known.find.Goals as goal

pub returns-in-Some : goal.returns-in-Some
returns-in-Some c =
    let es = c.self.inside.relations.entries in
    let name : List ℕ = c.args.name.now in
    let found : schemas_of (all_named es) name ≡ Some c.in-Some.found.now = columns-found es name c.in-Some.found.now c.in-Some.ensures.value in
    let number : c.in-Some.number ≡ number_of (all_named es) name = number-found es name c.in-Some.number c.in-Some.ensures.index in
    let view : all_named es ≡ c.args.self.now = c.self.view_is in
    (ap (λ (l : List NamedSchema). schemas_of l name) (sym view) ∙ found, number ∙ ap (λ (l : List NamedSchema). number_of l name) view)

pub returns-in-None : goal.returns-in-None
returns-in-None c =
    let es = c.self.inside.relations.entries in
    let name : List ℕ = c.args.name.now in
    let view : all_named es ≡ c.args.self.now = c.self.view_is in
    ap (λ (l : List NamedSchema). schemas_of l name) (sym view) ∙ none-found es name c.in-None.ensures.value
