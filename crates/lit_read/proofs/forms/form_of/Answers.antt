use Rattle.std.proofs.Common.{sym, refl}
use Rattle.lit_read.specs.Internal.Views.{token_views, form_view}
use Rattle.lit_read.proofs.FormLemmas.{fixed_form_is}
use Rattle.lit_read.proofs.LineForms.{form_absent, if_none_weaker}
use Rattle.lit_read.proofs.forms.form_of.Goals as goal

pub returns-in-Some-clause-found : goal.returns-in-Some-clause-found
returns-in-Some-clause-found c = (form_view c.in-Some.form, refl, fixed_form_is (token_views c.args.tokens.now) (form_view c.in-Some.form) (sym c.in-Some.ensures))

pub returns-in-None-clause-absent : goal.returns-in-None-clause-absent
returns-in-None-clause-absent c = if_none_weaker c.check_line.result (form_absent (token_views c.args.tokens.now) (sym c.in-None.ensures)) c.check_line.ensures.absent
