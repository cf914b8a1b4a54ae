use Rattle.std.proofs.Common.{◌≡◌, ℕ, length, arith, sym, ◌∙◌, vec_len, ap, Ok, List}
use Rattle.std.specs.Prelude.{string_bytes}
use Rattle.lit_syntax.specs.Syntax.{End}
use Rattle.lit_syntax.specs.Litmus.{statements_of, agents_view}
use Rattle.lit_read.specs.Internal.State.{Open, IsState}
use Rattle.lit_read.proofs.DraftLemmas.{last_is_new}
use Rattle.lit_read.proofs.CheckSteps.{views, next_ok, is_zero}
use Rattle.lit_read.proofs.draft.Open.next.Goals as goal

pub with_last-requires : goal.with_last-requires
unfolding IsState
with_last-requires c = last_is_new (agents_view c.args.self.agents.entries) (string_bytes c.args.self.agent) End c.requires.1.distinct

pub returns : goal.returns
returns c =
    let len : vec_len c.args.self.ifs ≡ 0 = is_zero (vec_len c.args.self.ifs) c.is_empty-is_inside_if.result c.is_empty-is_inside_if.ensures c.if-is_inside_if.false in
    let none : length c.args.self.ifs.items ≡ 0 = omega (arith, len, c.args.self.ifs.ok) in
    next_ok (string_bytes c.args.self.name) c.args.self.bytes c.args.self.agents.entries (string_bytes c.args.self.agent) c.args.self.ifs.items (statements_of c.args.self.body.items) c.args.name.now (agents_view c.in_ok-with_last.field-0.entries) none
    (omega (arith, c.len.ensures.len, c.if-len-ge-AGENT_LIMIT.false)) (sym c.has_agent.ensures ∙ c.if-has_agent.false) c.in_ok-with_last.ensures
    ∙ sym (ap (λ (n : List ℕ). Ok (Open (string_bytes c.args.self.name) c.args.self.bytes (agents_view c.in_ok-with_last.field-0.entries) n (views c.args.self.ifs.items) (statements_of c.new.result.items))) c.in_ok-from_str.ensures.ok
    ∙ ap (λ l. Ok (Open (string_bytes c.args.self.name) c.args.self.bytes (agents_view c.in_ok-with_last.field-0.entries) c.args.name.now (views c.args.self.ifs.items) (statements_of l))) c.new.ensures.items)
