use Rattle.std.proofs.Common.{◌≤◌, sym, arith}
use Rattle.std.proofs.lemmas.Bool.{cases_lt}
use Rattle.lit_report.proofs.PageTexts.{page_none, pages_joined}
use Rattle.lit_report.proofs.Putting.{HasPut-is, HasPut-nothing, HasPut-then}
use Rattle.lit_report.proofs.pages.put_printed.Goals as goal

pub loop-index-init : goal.loop-index-init
loop-index-init g c = record {
  rising = omega arith;
  more = λ some. absurd (omega (arith, some));
  known = omega (arith, c.requires.first);
  so_far = HasPut-is _ _ _ _ (HasPut-nothing _) (sym (page_none c.args.plan.now c.args.found.now c.args.first c.args.first (omega arith)));
}

pub loop-index-preserved : goal.loop-index-preserved
loop-index-preserved g c =
    let inv = c.loop-index.invariant in
    let up : c.loop-index.place ≤ c.put_page-place.result = c.put_page-place.ensures.rising inv.known in
    record {
      rising = omega (arith, inv.rising, up);
      more = λ some. grind (arith, cases_lt, inv.rising, inv.known, up, c.put_page-place.ensures.more, c.requires.first);
      known = c.put_page-place.ensures.known;
      so_far = HasPut-is _ _ _ _ (HasPut-then _ _ _ _ _ inv.so_far c.put_page-place.ensures.text)
          (pages_joined c.args.plan.now c.args.found.now c.args.first c.loop-index.place c.put_page-place.result inv.rising up);
    }

pub returns-clause-more : goal.returns-clause-more
returns-clause-more g c = c.loop-index.invariant.more (omega (arith, c.requires.some, c.loop-index-test.false))

pub returns-clause-known : goal.returns-clause-known
returns-clause-known g c = c.loop-index.invariant.known

pub returns-clause-text : goal.returns-clause-text
returns-clause-text g c = c.loop-index.invariant.so_far
