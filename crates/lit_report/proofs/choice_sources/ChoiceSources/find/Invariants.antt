use Rattle.std.proofs.Common.{◌≡◌, length}
use Rattle.lit_paths.specs.Numbers.{IsBegunBy}
use Rattle.lit_report.specs.ChoiceSources.{HoldsSources}
use Rattle.lit_report.proofs.choice_sources.ChoiceSources.find.Given as goal

abbrev pub invariant-loop-place : goal.invariant-loop-place
invariant-loop-place l = record {
  holds : HoldsSources l.combination.0 l.combination.1 l.self;
  begun : IsBegunBy l.combination.0 l.combination.1 l.self.sources.items l.choice;
  place : length l.self.sources.items ≡ l._place;
}
