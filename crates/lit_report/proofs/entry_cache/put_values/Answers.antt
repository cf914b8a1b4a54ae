use Rattle.std.proofs.Common.{◌++◌, List, ℕ, length, ap}
use Rattle.lit_report.specs.EntryCache.{first_head, outcome_text}
use Rattle.lit_report.proofs.Putting.{HasPut-then, HasPut-is}
use Rattle.lit_report.proofs.RegisterLemmas.{all_behind}
use Rattle.lit_report.proofs.entry_cache.put_values.Goals as goal

pub returns : goal.returns
returns g c =
    HasPut-is _ _ _ _ (HasPut-then _ _ _ _ _ (HasPut-then _ _ _ _ _ c.put.ensures c.put_registers.ensures) c.put_first.ensures)
    (ap (λ (ns : List (ℕ × ℕ)). outcome_text c.args.test.now c.args.names.now c.args.values.now ++ first_head c.args.test.now ns) (all_behind c.args.names.now (length c.args.values.now)))
