use Rattle.lit_search.proofs.Words.{joined_entries, sym}
use Rattle.lit_search.proofs.RankLemmas.{no_outcome}
use Rattle.lit_search.proofs.found.ranking.outcome_of.Goals as goal

pub returns-in-None : goal.returns-in-None
returns-in-None c = sym (no_outcome (joined_entries c.args.parts.now) c.args.rank.now (sym c.in-None.ensures))
