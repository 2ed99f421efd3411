use Rattle.std.proofs.Common.{◌≡◌, rules}
use Rattle.std.specs.Prelude.{None}
use Rattle.table_text.specs.Reading.{version_of}
use Rattle.table_text.proofs.ReadLaws.{first_is_bad}
use Rattle.table_text.proofs.tables.after_first_line.Goals as goal

pub returns-in_default : goal.returns-in_default
returns-in_default c =
    let unnamed : version_of c.in_ok-line.line.now ≡ None = search rules in
    record { cases = first_is_bad c.args.bytes.now c.in_ok-line.line.now c.in_ok-line.rest.now c.in_ok-line.ensures.cases.0 c.in_ok-line.ensures.cases.1 unnamed }
