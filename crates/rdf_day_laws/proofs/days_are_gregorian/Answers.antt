use Rattle.rdf_day_laws.proofs.Days.{epoch, next_day, next_month, next_year, same_day}
use Rattle.rdf_day_laws.proofs.days_are_gregorian.Goals as goal

pub returns-clause-epoch : goal.returns-clause-epoch
returns-clause-epoch c = epoch

pub returns-clause-next_day : goal.returns-clause-next_day
returns-clause-next_day c = next_day

pub returns-clause-next_month : goal.returns-clause-next_month
returns-clause-next_month c = next_month

pub returns-clause-next_year : goal.returns-clause-next_year
returns-clause-next_year c = next_year

pub returns-clause-jiff : goal.returns-clause-jiff
returns-clause-jiff c = same_day
