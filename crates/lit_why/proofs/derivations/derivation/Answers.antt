use Rattle.lit_rel.specs.Between.{Forbids}
use Rattle.lit_rel.specs.Rows.{Holds}
use Rattle.lit_why.proofs.UsedLineLemmas.{used_lines_derive}
use Rattle.lit_why.proofs.derivations.derivation.Goals as goal

pub returns-in_ok-only_used-in-Some-2 : goal.returns-in_ok-only_used-in-Some-2
returns-in_ok-only_used-in-Some-2 c =
    let lines = c.in-Some-2.lines.items in
    let used = c.in_ok-only_used-in-Some-2.field-0.items in
    let found = rw c.in-Some-2.is at c.in_ok-lines.ensures in
    used_lines_derive (Holds c.args.before.now) (Forbids c.args.between.now) lines used found.0 found.1
    (rw c.as_slice.ensures.value at c.in_ok-only_used-in-Some-2.ensures) found.2
