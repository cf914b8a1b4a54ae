use Rattle.lit_solve.proofs.BoxLemmas.{before_grows, forbidden_grows, forced_grows, given_stays}
use Rattle.lit_solve.proofs.laws.relations_grow_as_domains_shrink.Goals as goal

pub returns : goal.returns
returns c = record {
  given = λ inner outer within some. given_stays inner outer within some;
  happens_before = λ inner outer within some. before_grows inner outer within some;
  forbidden = λ inner outer within some. forbidden_grows inner outer within some;
  forced = λ inner outer within some. forced_grows inner outer within some;
}
