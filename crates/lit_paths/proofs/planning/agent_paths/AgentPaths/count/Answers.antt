use Rattle.std.proofs.Common.{arith, ap, ◌∙◌, length}
use Rattle.lit_paths.proofs.Combined.{list_here, lists_here}
use Rattle.lit_paths.proofs.planning.agent_paths.AgentPaths.count.Goals as goal

pub index-requires : goal.index-requires
index-requires c = omega (arith, lists_here _ c.self.invariant _ c.self.view_is, c.requires)

pub returns : goal.returns
returns c =
    let list = list_here _ c.self.invariant _ c.self.view_is c.args.agent c.index.result.now c.requires c.index.ensures in
    ap length c.as_slice.ensures.value ∙ list.count
