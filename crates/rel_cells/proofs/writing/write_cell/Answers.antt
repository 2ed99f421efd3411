use Rattle.std.proofs.lemmas.Str.{is_utf8-from_IsUtf8}
use Rattle.rel_cells.proofs.writing.write_cell.Goals as goal

pub returns-in_err-write_text-in-Text-clause-held : goal.returns-in_err-write_text-in-Text-clause-held
returns-in_err-write_text-in-Text-clause-held c =
    let h = is_utf8-from_IsUtf8 c.in-Text.text.now c.bytes.ensures.utf8 in
    rw c.in-Text.is h

pub returns-in_ok-write_text-in-Text-clause-held : goal.returns-in_ok-write_text-in-Text-clause-held
returns-in_ok-write_text-in-Text-clause-held c =
    let h = is_utf8-from_IsUtf8 c.in-Text.text.now c.bytes.ensures.utf8 in
    rw c.in-Text.is h
