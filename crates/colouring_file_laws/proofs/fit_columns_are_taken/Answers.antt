use Rattle.colouring_file_laws.proofs.Faults.{fit_taken}
use Rattle.colouring_file_laws.proofs.fit_columns_are_taken.Goals as goal

pub returns : goal.returns
returns c = fit_taken
