use Rattle.lit_rel.specs.Rows.{Holds}
use Rattle.lit_rel.proofs.RowLemmas.{WithPair-transitive, WithPair-within}
use Rattle.std.proofs.Common.{arith}
use Rattle.lit_rel.proofs.rows.Rows.close_with.Goals as goal

pub returns-clause-transitive : goal.returns-clause-transitive
returns-clause-transitive c through =
    let still_transitive = WithPair-transitive (Holds c.args.self.now) c.args.a c.args.d through in grind (arith, still_transitive)

pub returns-clause-least : goal.returns-clause-least
returns-clause-least c other through has pair x y held =
    let within = WithPair-within (Holds c.args.self.now) (Holds other) c.args.a c.args.d through has pair x y in grind arith
