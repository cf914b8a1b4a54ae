use Rattle.std.proofs.Common.{◌≡◌, List, [], ◌∷◌, length, vec_len, arith, ap, sym, subst, ◌∙◌, Ok}
use Rattle.std.specs.Prelude.{string_bytes}
use Rattle.std.specs.List.{list_all}
use Rattle.std.proofs.lemmas.List.{length-append}
use Rattle.std.proofs.lemmas.Result.{err_from_is_err_and}
use Rattle.lit_syntax.specs.Syntax.{Agent, Condition, End, Litmus, IsLitmus}
use Rattle.lit_syntax.specs.Litmus.{statements_of, condition_of, agents_view}
use Rattle.lit_read.specs.Internal.Built.{build, begun}
use Rattle.lit_read.specs.Internal.State.{IsState, Whole, with_agent, is_known_mark}
use Rattle.lit_read.specs.Internal.Views.{mark_view, mark_views, Fails}
use Rattle.lit_read.proofs.DraftLemmas.{last_is_new}
use Rattle.lit_read.proofs.CheckSteps.{too_open, too_large, not_known, build_fails, makes, made_litmus, few_entries, is_zero, is_some_number}
use Rattle.lit_read.proofs.draft.Open.check.Goals as goal

pub returns-then-not-is_empty : goal.returns-then-not-is_empty
returns-then-not-is_empty c = λ w is.
    too_open (string_bytes c.args.self.name) c.args.self.bytes (agents_view c.args.self.agents.entries) (string_bytes c.args.self.agent) c.args.self.ifs.items (statements_of c.args.self.body.items) c.args.marks.now w
    (λ e. is_some_number (vec_len c.args.self.ifs) c.is_empty.result c.is_empty.ensures c.if-not-is_empty.true (omega (arith, e, c.args.self.ifs.ok)))

pub returns-then-not-are_small : goal.returns-then-not-are_small
returns-then-not-are_small c = λ w is.
    let len : vec_len c.args.self.ifs ≡ 0 = is_zero (vec_len c.args.self.ifs) c.is_empty.result c.is_empty.ensures c.if-not-is_empty.false in
    let none : length c.args.self.ifs.items ≡ 0 = omega (arith, len, c.args.self.ifs.ok) in
    too_large (string_bytes c.args.self.name) c.args.self.bytes (agents_view c.args.self.agents.entries) (string_bytes c.args.self.agent) c.args.self.ifs.items (statements_of c.args.self.body.items) c.args.marks.now w is none
    (sym c.are_small.ensures ∙ c.if-not-are_small.true)

pub with_last-requires : goal.with_last-requires
unfolding IsState
with_last-requires c = last_is_new (agents_view c.args.self.agents.entries) (string_bytes c.args.self.agent) End c.requires.sound.1.distinct

pub returns-then-not-are_known : goal.returns-then-not-are_known
returns-then-not-are_known c = λ w is.
    let len : vec_len c.args.self.ifs ≡ 0 = is_zero (vec_len c.args.self.ifs) c.is_empty.result c.is_empty.ensures c.if-not-is_empty.false in
    let none : length c.args.self.ifs.items ≡ 0 = omega (arith, len, c.args.self.ifs.ok) in
    not_known (string_bytes c.args.self.name) c.args.self.bytes (agents_view c.args.self.agents.entries) (string_bytes c.args.self.agent) c.args.self.ifs.items (statements_of c.args.self.body.items) c.args.marks.now w is none
    (sym c.are_small.ensures ∙ c.if-not-are_small.false)
    (ap (λ (l : List Agent). list_all (λ m. is_known_mark l (mark_view m)) c.args.marks.now) (sym c.in_ok-agents.ensures) ∙ sym c.are_known.ensures ∙ c.if-not-are_known.true)

pub condition-requires-clause-few : goal.condition-requires-clause-few
unfolding IsState
condition-requires-clause-few c =
    few_entries c.in_ok-agents.agents.entries (with_agent (agents_view c.args.self.agents.entries) (string_bytes c.args.self.agent) (statements_of c.args.self.body.items)) c.in_ok-agents.ensures
    (omega (arith, c.requires.sound.1.few, length-append (agents_view c.args.self.agents.entries) (record { name = string_bytes c.args.self.agent; body = End } ∷ []), length-append (agents_view c.args.self.agents.entries) (record { name = string_bytes c.args.self.agent; body = statements_of c.args.self.body.items } ∷ [])))

pub returns-in_err-check : goal.returns-in_err-check
returns-in_err-check c = λ w is.
    let p = err_from_is_err_and c.from_residual-in_err-check.result c.from_residual-in_err-check.ensures.1 in
    let agents : List Agent = with_agent (agents_view c.args.self.agents.entries) (string_bytes c.args.self.agent) (statements_of c.args.self.body.items) in
    let len : vec_len c.args.self.ifs ≡ 0 = is_zero (vec_len c.args.self.ifs) c.is_empty.result c.is_empty.ensures c.if-not-is_empty.false in
    let none : length c.args.self.ifs.items ≡ 0 = omega (arith, len, c.args.self.ifs.ok) in
    let fails : Fails c.in_err-check.field-0.0 (build agents begun (mark_views c.args.marks.now)) = subst (λ (l : List Agent). Fails c.in_err-check.field-0.0 (build l begun (mark_views c.args.marks.now))) c.in_ok-agents.ensures c.in_err-check.ensures in
    rw (p.1, p.2)
    (build_fails (string_bytes c.args.self.name) c.args.self.bytes (agents_view c.args.self.agents.entries) (string_bytes c.args.self.agent) c.args.self.ifs.items (statements_of c.args.self.body.items) c.args.marks.now w c.in_err-check.field-0.0 is none
    (sym c.are_small.ensures ∙ c.if-not-are_small.false)
    (ap (λ (l : List Agent). list_all (λ m. is_known_mark l (mark_view m)) c.args.marks.now) (sym c.in_ok-agents.ensures) ∙ sym c.are_known.ensures ∙ c.if-not-are_known.false) fails)

pub new-requires : goal.new-requires
new-requires c =
    let agents : List Agent = with_agent (agents_view c.args.self.agents.entries) (string_bytes c.args.self.agent) (statements_of c.args.self.body.items) in
    let check : Condition = condition_of c.in_ok-check.check in
    let len : vec_len c.args.self.ifs ≡ 0 = is_zero (vec_len c.args.self.ifs) c.is_empty.result c.is_empty.ensures c.if-not-is_empty.false in
    let none : length c.args.self.ifs.items ≡ 0 = omega (arith, len, c.args.self.ifs.ok) in
    let is : build agents begun (mark_views c.args.marks.now) ≡ Ok check = subst (λ (l : List Agent). build l begun (mark_views c.args.marks.now) ≡ Ok check) c.in_ok-agents.ensures c.in_ok-check.ensures in
    subst (λ (l : List Agent). IsLitmus (record { name = string_bytes c.args.self.name; bytes = c.args.self.bytes; agents = l; check = check })) (sym c.in_ok-agents.ensures)
    (made_litmus (string_bytes c.args.self.name) c.args.self.bytes (agents_view c.args.self.agents.entries) (string_bytes c.args.self.agent) c.args.self.ifs.items (statements_of c.args.self.body.items) c.args.marks.now c.requires.form.0 check
    c.requires.sound c.requires.form.2 c.requires.form.1 none (sym c.are_small.ensures ∙ c.if-not-are_small.false)
    (ap (λ (l : List Agent). list_all (λ m. is_known_mark l (mark_view m)) c.args.marks.now) (sym c.in_ok-agents.ensures) ∙ sym c.are_known.ensures ∙ c.if-not-are_known.false) is)

pub returns : goal.returns
returns c = λ w marks_are.
    let agents : List Agent = with_agent (agents_view c.args.self.agents.entries) (string_bytes c.args.self.agent) (statements_of c.args.self.body.items) in
    let check : Condition = condition_of c.in_ok-check.check in
    let len : vec_len c.args.self.ifs ≡ 0 = is_zero (vec_len c.args.self.ifs) c.is_empty.result c.is_empty.ensures c.if-not-is_empty.false in
    let none : length c.args.self.ifs.items ≡ 0 = omega (arith, len, c.args.self.ifs.ok) in
    let is : build agents begun (mark_views c.args.marks.now) ≡ Ok check = subst (λ (l : List Agent). build l begun (mark_views c.args.marks.now) ≡ Ok check) c.in_ok-agents.ensures c.in_ok-check.ensures in
    makes (string_bytes c.args.self.name) c.args.self.bytes (agents_view c.args.self.agents.entries) (string_bytes c.args.self.agent) c.args.self.ifs.items (statements_of c.args.self.body.items) c.args.marks.now w check marks_are none
    (sym c.are_small.ensures ∙ c.if-not-are_small.false)
    (ap (λ (l : List Agent). list_all (λ m. is_known_mark l (mark_view m)) c.args.marks.now) (sym c.in_ok-agents.ensures) ∙ sym c.are_known.ensures ∙ c.if-not-are_known.false) is
    ∙ ap (λ (l : List Agent). Ok (Whole (record { name = string_bytes c.args.self.name; bytes = c.args.self.bytes; agents = l; check = check }))) (sym c.in_ok-agents.ensures)
    ∙ ap (λ (l : Litmus). Ok (Whole l)) (sym c.new.ensures)
