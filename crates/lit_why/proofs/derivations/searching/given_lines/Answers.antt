use Rattle.std.proofs.Common.{ℕ, arith, below_more, inl, inr}
use Rattle.lit_rel.specs.Rows.{Holds}
use Rattle.lit_why.specs.Internal.Deriving.{HasLine}
use Rattle.lit_why.proofs.derivations.searching.given_lines.Goals as goal

pub loop-first-preserved : goal.loop-first-preserved
loop-first-preserved c =
    let so_far = c.loop-first.invariant in
    let pushed = c.in_ok-push_given.ensures in
    record {
      given = pushed.given so_far.given;
      once = pushed.once so_far.once (λ d h. omega (arith, so_far.only c.loop-first.first d h));
      only = λ e d h. elim (pushed.only e d h) [
        | inl old ↦ omega (arith, so_far.only e d old)
        | inr same ↦ omega (arith, same)
      ];
      all = below_more (λ e. (d : ℕ) → Holds c.args.before.now e d → HasLine c.push_given.new.lines.items e d) c.loop-first.first
          (λ e less d h. pushed.retained e d (so_far.all e less d h)) pushed.all;
    }
