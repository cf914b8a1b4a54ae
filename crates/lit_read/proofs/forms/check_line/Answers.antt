use Rattle.std.proofs.Common.{sym}
use Rattle.lit_read.specs.Internal.Views.{token_views, mark_views}
use Rattle.lit_read.proofs.LineForms.{no_check, check_found, check_absent}
use Rattle.lit_read.proofs.forms.check_line.Goals as goal

pub returns-in_default-clause-absent : goal.returns-in_default-clause-absent
returns-in_default-clause-absent c = no_check (token_views c.args.tokens.now) (sym c.in_default.ensures)

pub returns-in-Some-2-clause-found : goal.returns-in-Some-2-clause-found
returns-in-Some-2-clause-found c = check_found (token_views c.args.tokens.now) (token_views c.in-Some.rest.now) (mark_views c.in-Some-2.marks.items) (sym c.in-Some.ensures) (rw c.in-Some-2.is at c.in_ok-marks.ensures.found)

pub returns-in-None-clause-absent : goal.returns-in-None-clause-absent
returns-in-None-clause-absent c = check_absent (token_views c.args.tokens.now) (token_views c.in-Some.rest.now) (sym c.in-Some.ensures) (rw c.in-None.is at c.in_ok-marks.ensures.absent)
