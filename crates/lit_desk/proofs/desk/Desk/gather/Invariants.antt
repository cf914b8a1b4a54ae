use Rattle.std.proofs.Common.{◌≡◌, List, ◌++◌, length, vec_len}
use Rattle.lit_desk.specs.Desk.{PlaceLists}
use Rattle.lit_desk.specs.Internal.Gathered.{gathered_account}
use Rattle.lit_desk.proofs.desk.Desk.gather.Given as goal

abbrev pub invariant-loop-place : goal.invariant-loop-place
invariant-loop-place l = record {
  table : l.all.table_id ≡ l.self-inside.table.shared.table_id;
  gathered : (rest : List PlaceLists) × (l.initial.places.items ≡ l.places.items ++ rest) × (l.all.me.0 ≡ gathered_account rest) × (l.all.me.0.places ≡ length rest);
}

abbrev pub decreases-loop-place : goal.decreases-loop-place
decreases-loop-place l = vec_len l.places
