use Rattle.std.proofs.Common.{◌≡◌, ◌∙◌, ◌||◌, codes, Bool, true, false, refl}
use Rattle.clap.specs.Words.{found_of}
use Rattle.clap.proofs.WalkLemmas.{first_value-rows}
use Rattle.lit_command_line.proofs.AskedLines.{some_of}
use Rattle.lit_command_line.proofs.words.report_flag.Goals as goal

first_is : (w rest : Bool) → true ≡ w → true ≡ (w || rest)
first_is w rest is = rw (← is) refl

second_is : (w c rest : Bool) → false ≡ w → true ≡ c → true ≡ (w || (c || rest))
second_is w c rest unset is = rw (← unset, ← is) refl

third_is : (w c q b : Bool) → false ≡ w → false ≡ c → b ≡ q → b ≡ (w || (c || q))
third_is w c q b unset uncut is = rw (← unset, ← uncut) is

pub returns-then-is_some : goal.returns-then-is_some
returns-then-is_some c =
    let workers = some_of c.get_str.result _ true (c.get_str.ensures ∙ first_value-rows (found_of c.args.matches.now) (codes "workers")) c.if-is_some.ensures in
    first_is _ _ workers

pub returns-then-is_some-2 : goal.returns-then-is_some-2
returns-then-is_some-2 c =
    let workers = some_of c.get_str.result _ false (c.get_str.ensures ∙ first_value-rows (found_of c.args.matches.now) (codes "workers")) c.if-is_some.ensures in
    let cut = some_of c.get_str-else-is_some.result _ true (c.get_str-else-is_some.ensures ∙ first_value-rows (found_of c.args.matches.now) (codes "cut")) c.if-is_some-2.ensures in
    second_is _ _ _ workers cut

pub returns-else-is_quick : goal.returns-else-is_quick
returns-else-is_quick c =
    let workers = some_of c.get_str.result _ false (c.get_str.ensures ∙ first_value-rows (found_of c.args.matches.now) (codes "workers")) c.if-is_some.ensures in
    let cut = some_of c.get_str-else-is_some.result _ false (c.get_str-else-is_some.ensures ∙ first_value-rows (found_of c.args.matches.now) (codes "cut")) c.if-is_some-2.ensures in
    third_is _ _ _ _ workers cut c.if-is_quick.ensures
