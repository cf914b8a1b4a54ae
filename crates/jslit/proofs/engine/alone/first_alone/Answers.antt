use Rattle.std.proofs.Common.{ℕ, subst}
use Rattle.std.specs.Prelude.{MatchOption}
use Rattle.lit_search.specs.FirstOfClass.{HasNoneOf, IsFirstOf}
use Rattle.lit_search.specs.Report.{in_range}
use Rattle.jslit.proofs.engine.alone.first_alone.Goals as goal

pub returns : goal.returns
returns c =
    let t = c.args.plan.now in
    subst (λ (n : ℕ). MatchOption c.first_in.result (HasNoneOf t c.args.class (in_range 0 n)) (IsFirstOf t c.args.class (in_range 0 n)))
    c.total.ensures.value c.first_in.ensures
