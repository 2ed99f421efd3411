use Rattle.std.proofs.Common.{take}
use Rattle.rdf_meaning.specs.Spelling.{spelled_text_byte}
use Rattle.rdf_spelling.proofs.Written.{Written}
use Rattle.rdf_spelling.proofs.spelling.write_text_bytes.Given as goal

abbrev pub invariant-loop-byte : goal.invariant-loop-byte
invariant-loop-byte l = Written spelled_text_byte l.initial.into.items l.into.items (take l.byte-index l.text)
