use Rattle.lit_paths.proofs.PathLists.{walks_of-iff}
use Rattle.lit_paths.proofs.ChoiceLists.{sources_of-iff}
use Rattle.lit_paths.proofs.laws.walks_and_sources_are_listed.Goals as goal

pub returns-clause-walks : goal.returns-clause-walks
returns-clause-walks c = walks_of-iff

pub returns-clause-sources : goal.returns-clause-sources
returns-clause-sources c = sources_of-iff
