use Rattle.std.proofs.Common.{◌≡◌, true, false, string_bytes, map, refl, rules}
use Rattle.std.specs.Prelude.{None, Some}
use Rattle.run_meaning.specs.Words.{is_option, data_names}
use Rattle.run_words.proofs.Options.{last_named}
use Rattle.run_words.proofs.words.data_and_query.Goals as goal

pub returns-then-is_option : goal.returns-then-is_option
returns-then-is_option c =
    let parts = last_named string_bytes c.args.names.now c.in-Some.files.now c.in-Some.query.now c.in-Some.ensures.cases.0 in
    let named : is_option (string_bytes c.in-Some.query.now) ≡ true = search rules in
    rw (parts, named) refl

pub returns-in_default-2 : goal.returns-in_default-2
returns-in_default-2 c =
    let parts = last_named string_bytes c.args.names.now c.in-Some.files.now c.in-Some.query.now c.in-Some.ensures.cases.0 in
    let named : is_option (string_bytes c.in-Some.query.now) ≡ false = search rules in
    let read : data_names (map string_bytes c.in-Some.files.now) ≡ None = search rules in
    rw (parts, named, read) refl

pub returns : goal.returns
returns c =
    let parts = last_named string_bytes c.args.names.now c.in-Some.files.now c.in-Some.query.now c.in-Some.ensures.cases.0 in
    let named : is_option (string_bytes c.in-Some.query.now) ≡ false = search rules in
    let read : data_names (map string_bytes c.in-Some.files.now) ≡ Some c.in-Some-2.data = search rules in
    let last : c.in_ok-text_of.field-0 ≡ string_bytes c.in-Some.query.now = search rules in
    rw (last, parts, named, read) refl
