use Rattle.std.proofs.Common.{◌≡◌, ℕ, Some, sym, arith}
use Rattle.std.proofs.lemmas.Option.{slice_get_within}
use Rattle.std.specs.List.{slice_get}
use Rattle.lit_rel.specs.Between.{Forbids}
use Rattle.lit_rel.specs.Rows.{Holds, rows_len}
use Rattle.lit_why.specs.Internal.Deriving.{HasForced, IsOfPair}
use Rattle.lit_why.proofs.derivations.following.forced.Goals as goal

pub returns : goal.returns
returns c =
    let items = c.pairs-pair-items.result.now in
    let n = rows_len c.args.old.now in
    let at : (w r v : ℕ) (f : Forbids c.args.between.now w r v) → HasForced (IsOfPair n f.pair) (Holds c.args.old.now) (Holds c.args.known.now) = λ w r v f.
    let listed : slice_get items f.place ≡ Some f.pair = rw c.pairs-pair-items.ensures.value f.at_place in
    let within = slice_get_within items f.place f.pair listed in
    c.loop-pair.invariant f.place f.pair (omega (arith, within)) listed in
    let of_pair : (w r v : ℕ) (f : Forbids c.args.between.now w r v) → IsOfPair n f.pair w r v = λ w r v f.
    record { source = sym f.is_pair.source; read = sym f.is_pair.read; known = rw c.requires.len f.other_known; marked = f.marked } in
    record {
      after = λ w r v f. (at w r v f).after w r v (of_pair w r v f);
      earlier = λ w r v f. (at w r v f).earlier w r v (of_pair w r v f);
    }
