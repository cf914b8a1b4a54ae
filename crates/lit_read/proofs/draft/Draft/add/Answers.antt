use Rattle.std.proofs.Common.{◌≡◌, Result, Err, ap, sym, subst, refl, ◌∙◌}
use Rattle.std.proofs.lemmas.Result.{err_from_is_err_and}
use Rattle.lit_read.specs.declared.fault.ReadKind.{ReadKind}
use Rattle.lit_read.specs.declared.fault.ReadKind.TheVariants.{Misplaced}
use Rattle.lit_read.specs.declared.forms.Line as said
use Rattle.lit_read.specs.declared.draft.Draft as drafts
use Rattle.lit_read.specs.declared.draft.Draft.TheVariants as draft
use Rattle.lit_read.specs.declared.draft.Open as opens
use Rattle.lit_syntax.specs.Written.{Written}
use Rattle.lit_syntax.specs.Forms.{Form, CheckLine}
use Rattle.lit_read.specs.Internal.State.{State, check_step, step}
use Rattle.lit_read.specs.Internal.Views.{state_view, mark_views, Shows, Fails}
use Rattle.lit_read.proofs.draft.Draft.add.Goals as goal

checks : (s : State) (f : Form) (w : Written) → f ≡ CheckLine w → step s f ≡ check_step s w
unfolding step
checks s f w is = ap (step s) is

not_open : (d : drafts.Draft) (w : Written) → ((o : opens.Open) → d ≡ draft.Open o → ⊥) → check_step (state_view d) w ≡ Err Misplaced
unfolding check_step
not_open draft.Empty w h = refl
not_open (draft.Named name) w h = refl
not_open (draft.Sized name bytes) w h = refl
not_open (draft.Open o) w h = absurd (h o refl)
not_open (draft.Whole t) w h = refl

pub returns-in_err-check-in-Open : goal.returns-in_err-check-in-Open
returns-in_err-check-in-Open c = λ f shows.
    let s = subst (λ (l : said.Line). Shows l f) c.in-Check.is shows in
    let p = err_from_is_err_and c.from_residual.result c.from_residual.ensures.1 in
    rw (p.1, p.2)
    (subst (λ (r : Result State ReadKind). Fails c.in_err-check-in-Open.field-0.0 r) (sym (checks (state_view c.args.self) f s.0 s.1 ∙ ap (λ (d : drafts.Draft). check_step (state_view d) s.0) c.in-Open.is))
    (c.in_err-check-in-Open.ensures s.0 (ap mark_views c.deref.ensures.value ∙ s.2)))

pub returns-in-Open : goal.returns-in-Open
returns-in-Open c = λ f shows.
    let s = subst (λ (l : said.Line). Shows l f) c.in-Check.is shows in
    checks (state_view c.args.self) f s.0 s.1 ∙ ap (λ (d : drafts.Draft). check_step (state_view d) s.0) c.in-Open.is ∙ c.in_ok-check-in-Open.ensures s.0 (ap mark_views c.deref.ensures.value ∙ s.2)

pub returns : goal.returns
returns c = λ f shows.
    let s = subst (λ (l : said.Line). Shows l f) c.in-Check.is shows in
    checks (state_view c.args.self) f s.0 s.1 ∙ not_open c.args.self s.0 c.in_default.not-Open
