use Rattle.lit_solve.proofs.Words.{◌++◌, ◌∙◌, ap, AreFillings, AreOpenReads, box_events, box_with, Filling, IsListed, List, OpenRead, subst}
use Rattle.lit_solve.proofs.Words.{sym, value_of}
use Rattle.lit_solve.proofs.OpenReadLemmas.{listed_last, listed_more, reads_more}
use Rattle.lit_solve.proofs.ReadValuesLemmas.{fillings_sorted, value_sorted}
use Rattle.lit_solve.proofs.problem.Problem.list_read.Goals as goal

pub returns-clause-listed : goal.returns-clause-listed
returns-clause-listed c =
    subst (λ (rs : List OpenRead). IsListed rs c.args.read) (sym c.in_ok-push.ensures.items) (listed_last c.args.reads.now.items _)

pub returns-clause-stays : goal.returns-clause-stays
returns-clause-stays c r listed =
    subst (λ (rs : List OpenRead). IsListed rs r) (sym c.in_ok-push.ensures.items) (listed_more c.args.reads.now.items _ r listed)

pub returns-clause-reads : goal.returns-clause-reads
returns-clause-reads c =
    let box = box_with c.args.self.now c.args.domains.now in
    let added = c.add_fillings.ensures.added in
    let moved = c.sort_unstable_by_key.ensures.permutation in
    subst (λ (rs : List OpenRead). AreOpenReads box rs) (sym c.in_ok-push.ensures.items)
    (reads_more box c.args.reads.now.items _ c.requires.reads (record {
      known = c.requires.known;
      registers = c.registers_of-registers.ensures;
      observer = c.requires.observed.0;
      observes = c.requires.observed.1;
      fillings = fillings_sorted box c.args.read c.add_fillings.new.fillings.items c.sort_unstable_by_key.new.self.items moved
          (subst (AreFillings box c.args.read)
          (sym (added.goes_on ∙ ap (λ (fs : List Filling). fs ++ added.added) c.new-fillings.ensures.items)) added.each);
      whole = λ x is. value_sorted c.add_fillings.new.fillings.items c.sort_unstable_by_key.new.self.items
          (value_of (box_events box) x.sources c.args.read) moved (c.in_ok-add_fillings.ensures.whole x is);
    }) c.requires.new)
