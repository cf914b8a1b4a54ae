use Rattle.std.proofs.Common.{List, ℕ, inl, refl, subst}
use Rattle.jslit_embed.specs.Handed.{HandsOut}
use Rattle.jslit_embed.proofs.explaining.why.Goals as goal

pub returns-in-Ok-clause-refused : goal.returns-in-Ok-clause-refused
returns-in-Ok-clause-refused c _ = inl (record {
  answer = c.in-Ok.answer.text.items;
  on = record { answer = c.in-Ok.answer; on = c.in-Ok.ensures.answered; finds = c.if-answer.false; is = refl };
  handed = subst (λ (l : List ℕ). HandsOut l c.args.out.now c.hand_out.new.out c.hand_out.new.length) c.deref.ensures.value c.hand_out.ensures;
})
