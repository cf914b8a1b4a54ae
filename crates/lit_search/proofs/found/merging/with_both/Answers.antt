use Rattle.lit_search.proofs.Words.{ap, ap₂, Bool, Entry, Inside, IsMerge, IsRanked, List, merged, Report, report_of, rules, subst, sym}
use Rattle.lit_search.proofs.Words.{◌||◌, ◌∙◌, ◌≡◌}
use Rattle.lit_search.proofs.MergedEntries.{AreMerged-merged, AreRising-merged, merged-none_left, merged-none_right, AreRising}
use Rattle.lit_search.proofs.RankLemmas.{entries_are, others_are, sum_is}
use Rattle.lit_search.proofs.found.merging.with_both.Goals as goal

abbrev IsRising : Report → Type 0
IsRising report = AreRising report.entries

is_merge : (a b found : Report) (x y : Inside) → report_of x ≡ a → report_of y ≡ b → IsRanked x → IsRanked y
    → found.entries ≡ merged a.entries b.entries → found.race ≡ (a.race || b.race) → IsMerge a b found
is_merge a b found x y first second p q is race = record {
  entries = rw is (AreMerged-merged a.entries b.entries (subst IsRising first p.rising) (subst IsRising second q.rising));
  race = race;
}

pub merged_ranks-requires-clause-second : goal.merged_ranks-requires-clause-second
merged_ranks-requires-clause-second c =
    others_are c.a.inside c.b.inside c.a.invariant c.b.invariant c.as_slice.result.now c.in_ok-others.others.items (c.as_slice.ensures.value ∙ c.in_ok-append.ensures.items) c.in_ok-others.ensures

pub invariant_of-result-2 : goal.invariant_of-result-2
invariant_of-result-2 c =
    let others = c.in_ok-others.others.items in
    let entries = entries_are c.a.inside c.b.inside c.a.invariant c.b.invariant c.append.new.self.items others c.in_ok-append.ensures.items
    c.in_ok-others.ensures c.in_ok-ranks.ranks.items (rw c.as_slice.ensures.value at c.in_ok-ranks.ensures.merged) in
    record {
      rising = subst AreRising (sym entries) (AreRising-merged _ _ c.a.invariant.rising c.b.invariant.rising);
      ranks = rw c.as_slice.ensures.value at c.in_ok-ranks.ensures.ranks;
      count = search rules
          ∙ sum_is c.a.inside c.b.inside c.a.invariant c.b.invariant c.append.new.self.items others c.in_ok-append.ensures.items
          c.in_ok-others.ensures;
    }

pub returns : goal.returns
returns c =
    let entries = entries_are c.a.inside c.b.inside c.a.invariant c.b.invariant c.append.new.self.items c.in_ok-others.others.items
    c.in_ok-append.ensures.items c.in_ok-others.ensures c.in_ok-ranks.ranks.items
    (rw c.as_slice.ensures.value at c.in_ok-ranks.ensures.merged) in
    let of : Report → List Entry = λ r. r.entries in
    is_merge c.args.a c.args.b _ c.a.inside c.b.inside c.a.view_is c.b.view_is c.a.invariant c.b.invariant
    (entries ∙ ap₂ merged (ap of c.a.view_is) (ap of c.b.view_is)) (ap₂ (λ (p q : Bool). p || q) c.race.ensures c.race-2.ensures)

pub returns-then-len-eq0 : goal.returns-then-len-eq0
returns-then-len-eq0 c =
    is_merge c.args.a c.args.b _ c.a.inside c.b.inside c.a.view_is c.b.view_is c.a.invariant c.b.invariant
    (ap (λ (r : Report). r.entries) c.b.view_is
    ∙ merged-none_left c.args.a.entries c.args.b.entries (sym c.len.ensures ∙ c.if-len-eq0.true))
    (ap₂ (λ (p q : Bool). p || q) c.race.ensures c.race-2.ensures)

pub returns-then-len-eq0-2 : goal.returns-then-len-eq0-2
returns-then-len-eq0-2 c =
    is_merge c.args.a c.args.b _ c.a.inside c.b.inside c.a.view_is c.b.view_is c.a.invariant c.b.invariant
    (ap (λ (r : Report). r.entries) c.a.view_is
    ∙ merged-none_right c.args.a.entries c.args.b.entries (sym c.len-2.ensures ∙ c.if-len-eq0-2.true))
    (ap₂ (λ (p q : Bool). p || q) c.race.ensures c.race-2.ensures)
