use Rattle.lit_report.proofs.entry_cache.EntryCache.new.Goals as goal

pub returns : goal.returns
returns c = λ t n. record {
  sources = c.new-sources.ensures t n;
  outcome = λ going. absurd (let gone = c.new-outcome.ensures in cc);
  lines = λ going. absurd (let gone = c.new-lines.ensures in cc);
  order = λ going. absurd (let gone = c.new-order.ensures in cc);
}
