use Rattle.std.proofs.Common.{◌++◌, List, ℕ, take, codes, ap, ◌∙◌, arith}
use Rattle.lit_report.specs.EntryCache.{first_value, outcome_head}
use Rattle.lit_report.proofs.Lines.{outcome_is}
use Rattle.lit_report.proofs.Putting.{HasPut-then, HasPut-is}
use Rattle.lit_report.proofs.entry_cache.put_outcome.Goals as goal

pub returns-clause-text : goal.returns-clause-text
returns-clause-text g c =
    let t = c.args.test.now in
    let names = c.args.names.now in
    let n = c.saturating_sub-count.result in
    HasPut-is _ _ _ _ (HasPut-then _ _ _ _ _ (HasPut-then _ _ _ _ _ c.put_cached_values.ensures.text c.put_last.ensures) c.put_byte.ensures)
    (ap (λ (vs : List ℕ). (outcome_head t names vs ++ first_value c.split_at.result.1.now) ++ codes "\n") c.split_at.ensures.front
    ∙ ap (λ (vs : List ℕ). (outcome_head t names (take n c.args.outcome.now) ++ first_value vs) ++ codes "\n") c.split_at.ensures.back
    ∙ outcome_is t names c.args.outcome.now n c.requires.one_each (omega arith) (omega arith))
