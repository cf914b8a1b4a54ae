use Rattle.std.proofs.Common.{◌≡◌, ◌∙◌, ◌&&◌, codes, Bool, true, false, refl}
use Rattle.clap.specs.Words.{found_of}
use Rattle.clap.proofs.WalkLemmas.{first_value-rows}
use Rattle.lit_command_line.proofs.AskedLines.{some_of}
use Rattle.lit_command_line.proofs.words.exclusion.Goals as goal

with_schedule : (s r b : Bool) → true ≡ s → b ≡ r → b ≡ (s && r)
with_schedule s r b some is = rw (← some) is

without_schedule : (s r : Bool) → false ≡ s → false ≡ (s && r)
without_schedule s r unset = rw (← unset) refl

pub returns-then-is_some : goal.returns-then-is_some
returns-then-is_some c =
    with_schedule _ _ _ (some_of c.get_str.result _ true (c.get_str.ensures ∙ first_value-rows (found_of c.args.matches.now) (codes "schedule")) c.if-is_some.ensures) c.report_flag.ensures

pub returns-else-is_some : goal.returns-else-is_some
returns-else-is_some c =
    without_schedule _ _ (some_of c.get_str.result _ false (c.get_str.ensures ∙ first_value-rows (found_of c.args.matches.now) (codes "schedule")) c.if-is_some.ensures)
