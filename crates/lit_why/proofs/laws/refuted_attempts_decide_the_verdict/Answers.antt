use Rattle.lit_why.proofs.VerdictLemmas.{never}
use Rattle.lit_why.proofs.laws.refuted_attempts_decide_the_verdict.Goals as goal

pub returns : goal.returns
returns c t class most attempts litmus first few each n gives =
    never c.laws_below.ensures t class most attempts litmus first few each n gives
