use Rattle.std.proofs.Common.{rules, ◌++◌, [], ◌∷◌, true, false, map, ap, sym, ◌∙◌, append-nil}
use Rattle.std.proofs.lemmas.List.{map-append}
use Rattle.serde_json.specs.View.{view}
use Rattle.serde_json.specs.declared.value.Value.{the_lemmas}
use Rattle.lit_syntax.specs.Syntax.{writes, agent_of}
use Rattle.lit_json.proofs.RegisterLemmas.{below_step}
use Rattle.lit_json.proofs.test.registers_value.Goals as goal
use Rattle.lit_json.proofs.test.registers_value.Goals.{then-writes+in_ok-push, else-writes}

pub loop-reg-preserved : goal.loop-reg-preserved
loop-reg-preserved c =
    let keep = writes (agent_of c.args.test.now c.args.agent).body in
    let old = c.loop-reg.list.items in
    elim c.if-writes.branch [
      | then-writes+in_ok-push w ↦ below_step keep c.loop-reg.reg true (map view old) (map view c.if-writes.list.items) c.loop-reg.invariant
          (search rules)
          (ap (λ l. map view l.items) w.list-is ∙ ap (λ vs. map view vs) w.in_ok-push.ensures.items ∙ map-append view old (w.from.result ∷ [])
          ∙ ap (λ d. map view old ++ d ∷ []) (search (rules, the_lemmas)))
      | else-writes w ↦ below_step keep c.loop-reg.reg false (map view old) (map view c.if-writes.list.items) c.loop-reg.invariant
          (search rules)
          (ap (λ l. map view l.items) w.list-is ∙ sym (append-nil (map view old)))
    ]
