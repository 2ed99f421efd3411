-- What the words of the command line ask for.
use Rattle.std.specs.Prelude.{Option, Some, None}
use Rattle.run_meaning.specs.declared.status.Status.TheVariants.{Usage, NotYet}
use Rattle.run_meaning.specs.declared.command.Command.{Command}
use Rattle.run_meaning.specs.declared.command.Command.TheVariants.{Query, Show, Plan, Stats, Exec, Drill}
use Rattle.run_files_meaning.specs.Job.{Job, no_job}
use Rattle.run_query_meaning.specs.Answering.{query_job}
use Rattle.run_show_meaning.specs.Showing.{show_job}
use Rattle.run_stats_meaning.specs.Counting.{stats_job}
use Rattle.run_exec_meaning.specs.Running.{exec_job}

-- some commands aren't built yet
abbrev pub job_of : Command → Job
job_of (Query options data_names query_name) = query_job options data_names query_name
job_of (Show options data_names query_name) = show_job options data_names query_name
job_of (Plan options data_names query_name) = no_job NotYet
job_of (Stats options data_names) = stats_job options data_names
job_of (Exec pieces file_name) = exec_job file_name
job_of (Drill options count seed) = no_job NotYet

-- the job of the command that the words are, where they are one
abbrev pub job_asked : Option Command → Job
job_asked None = no_job Usage
job_asked (Some command) = job_of command
