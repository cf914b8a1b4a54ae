use Rattle.std.proofs.Common.{arith, ap, ◌∙◌, get_or, length}
use Rattle.lit_paths.specs.Internal.Walks.{count_of}
use Rattle.lit_paths.proofs.AgentPaths.{count-agent_of}
use Rattle.lit_paths.proofs.Combined.{list_here, lists_here, path_numbered}
use Rattle.lit_paths.proofs.planning.agent_paths.AgentPaths.path.Goals as goal

pub index-requires : goal.index-requires
index-requires c = omega (arith, lists_here _ c.self.invariant _ c.self.view_is, c.requires.agent)

pub offset_bounds-as_slice-number : goal.offset_bounds-as_slice-number
offset_bounds-as_slice-number c =
    omega (arith, c.requires.number, count-agent_of c.args.self.now c.args.agent c.requires.agent, c.self.invariant.limits.short.few, ap (λ t. count_of t.agents) c.self.view_is)

pub bounds-as_slice-number : goal.bounds-as_slice-number
bounds-as_slice-number c =
    let list = list_here _ c.self.invariant _ c.self.view_is c.args.agent c.index.result.now c.requires.agent c.index.ensures in
    omega (arith, ap length c.as_slice.ensures.value, list.count, c.requires.number)

pub returns : goal.returns
returns c =
    let list = list_here _ c.self.invariant _ c.self.view_is c.args.agent c.index.result.now c.requires.agent c.index.ensures in
    c.index-as_slice-number.is ∙ ap (λ ps. get_or ps c.args.number c.index-as_slice-number.result) c.as_slice.ensures.value
    ∙ path_numbered c.args.self.now c.args.agent c.args.number _ c.index-as_slice-number.result list c.requires.number
