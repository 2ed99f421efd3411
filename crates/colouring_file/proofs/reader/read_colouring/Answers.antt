use Rattle.colouring_file.proofs.Read.{reads_colours, fits_colours}
use Rattle.colouring_file.proofs.reader.read_colouring.Goals as goal

pub returns-clause-grammar : goal.returns-clause-grammar
returns-clause-grammar c =
    reads_colours c.args.direct c.args.reverse _ c.read_all.result c.args.bytes.now (c.colouring_is_read.ensures.read c.args.direct c.args.reverse c.args.bytes.now)
    (c.colouring_is_read.ensures.refused c.args.direct c.args.reverse c.args.bytes.now) c.read_all.ensures

pub returns-clause-fit : goal.returns-clause-fit
returns-clause-fit c = fits_colours c.args.direct c.args.reverse _ c.read_all.result c.args.bytes.now (c.colouring_is_read.ensures.fit c.args.direct c.args.reverse c.args.bytes.now) c.read_all.ensures
