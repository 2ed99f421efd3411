use Rattle.std.proofs.lemmas.Result.{IfOk-weaker}
use Rattle.sparql_refusals.specs.Outcomes.{ReadsTokens, ReadsAs, text_read}
use Rattle.sparql_reader.proofs.reading.read_short.Goals as goal

pub returns-in-Ok-clause-reads : goal.returns-in-Ok-clause-reads
returns-in-Ok-clause-reads c =
    IfOk-weaker c.read_tokens.result (λ s. ReadsTokens c.as_slice.result.now s) (λ s. ReadsAs c.args.bytes.now s)
    (λ s h. text_read c.args.bytes.now c.in-Ok.tokens c.as_slice.result.now s c.requires c.in-Ok.ensures.ok c.as_slice.ensures h) c.read_tokens.ensures.reads
