use Rattle.std.proofs.Common.{arith}
use Rattle.lit_rel.specs.Rows.{Holds}
use Rattle.lit_rel.proofs.RowLemmas.{WithPair-transitive}
use Rattle.lit_rel.proofs.rows.two_way_rows.TwoWayRows.close_with.Goals as goal

pub returns-clause-pairs : goal.returns-clause-pairs
returns-clause-pairs c x y = grind (arith, c.args.self.now.same.pairs x c.args.a)

pub returns-clause-transitive : goal.returns-clause-transitive
returns-clause-transitive c through =
    let still_transitive = WithPair-transitive (Holds c.args.self.now.rows) c.args.a c.args.d through in
    let pairs = returns-clause-pairs c in
    λ x y z p q. (pairs x z).1 (still_transitive x y z ((pairs x y).0 p) ((pairs y z).0 q))
