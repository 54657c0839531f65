use Rattle.made_runs.proofs.Headers.{header_is, header_named}
use Rattle.made_runs.proofs.laws.made_headers_name_the_columns.Goals as goal

pub returns-clause-line : goal.returns-clause-line
returns-clause-line c = header_is

pub returns-clause-columns : goal.returns-clause-columns
returns-clause-columns c = header_named
