use Rattle.std.proofs.Common.{refl}
use Rattle.sparql_grammar.specs.Written.{written}
use Rattle.sparql_reader.proofs.TokenSteps.{tokens_read, tokens_faulty, tokens_broken}
use Rattle.sparql_reader.proofs.reading.read_tokens.Goals as goal

pub returns-in-None-clause-reads : goal.returns-in-None-clause-reads
returns-in-None-clause-reads c =
    tokens_read c.args.tokens.now c.in_ok-fault.fault c.read_front-read.result c.read_front-read.result c.in_ok-lexed.lexed.lexemes c.as_slice.result.now c.in_ok-lexed.lexed.names (written c.in-Ok.written) _
    c.in_ok-fault.ensures c.in-None.is c.read_front-read.ensures.value c.in_ok-lexed.ensures.lexemes c.in_ok-lexed.ensures.names c.as_slice.ensures c.in-Ok.ensures.ok c.in_ok-syntax-in-None.ensures refl

pub returns-in-Ok-clause-refuses : goal.returns-in-Ok-clause-refuses
returns-in-Ok-clause-refuses c =
    tokens_faulty c.args.bytes.now c.args.tokens.now c.in_ok-fault.fault c.in-Some.fault c.read_front-read.result c.read_front-read.result c.in_ok-lexed.lexed.lexemes c.as_slice.result.now _ _
    c.requires.short c.requires.cut c.in_ok-fault.ensures c.in-Some.is c.read_front-read.ensures.value c.in_ok-lexed.ensures.lexemes c.as_slice.ensures c.in-Ok.ensures.ok c.faulty_at.ensures refl

pub returns-clause-refuses : goal.returns-clause-refuses
returns-clause-refuses c =
    tokens_broken c.args.bytes.now c.args.tokens.now c.in_ok-fault.fault c.read_front-read.result c.read_front-read.result c.in-Err-Syntax.left _ c.in_ok-lexed.lexed.lexemes c.as_slice.result.now _ _
    c.requires.short c.requires.cut c.in_ok-fault.ensures c.read_front-read.ensures.value c.in_ok-lexed.ensures.lexemes c.as_slice.ensures c.in-Err-Syntax.ensures.err c.in-Err-Syntax.field-0-is c.in-Err-Syntax.left-is c.refused.ensures
    refl
