use Rattle.std.proofs.Common.{sym, arith}
use Rattle.std.proofs.lemmas.Grind.{common_steps}
use Rattle.std.proofs.lemmas.List.{length-take}
use Rattle.lit_report.proofs.PageTexts.{page_none, page_whole, pages_joined}
use Rattle.lit_report.proofs.Putting.{HasPut-is, HasPut-nothing, HasPut-then}
use Rattle.lit_report.proofs.pages.put_pages.Goals as goal

pub loop-place-init : goal.loop-place-init
loop-place-init g c = record {
  known = omega arith;
  so_far = HasPut-is _ _ _ _ (HasPut-nothing _) (sym (page_none c.args.plan.now c.args.found.now 0 0 (omega arith)));
}

pub print_pages-requires-clause-some : goal.print_pages-requires-clause-some
print_pages-requires-clause-some g c κs within =
    grind (arith, common_steps, length-take, c.pages_of.ensures, c.min-count.ensures, c.loop-place.auto.pages, c.is_empty.ensures, c.if-is_empty.false)

pub put_printed-place-requires-clause-some : goal.put_printed-place-requires-clause-some
put_printed-place-requires-clause-some g c =
    grind (arith, common_steps, length-take, c.print_pages.auto.pages, c.pages_of.ensures, c.min-count.ensures, c.loop-place.auto.pages, c.is_empty.ensures, c.if-is_empty.false)

pub loop-place-preserved : goal.loop-place-preserved
loop-place-preserved g c =
    let put = c.put_printed-place.ensures in
    record {
      known = put.known;
      so_far = HasPut-is _ _ _ _ (HasPut-then _ _ _ _ _ c.loop-place.invariant.so_far put.text)
          (pages_joined c.args.plan.now c.args.found.now 0 c.loop-place.place c.put_printed-place.result (omega arith) (omega (arith, put.more)));
    }

pub returns : goal.returns
returns g c = HasPut-is _ _ _ _ c.loop-place.invariant.so_far
    (page_whole c.args.plan.now c.args.found.now c.loop-place.place (omega (arith, c.loop-place.invariant.known, c.loop-place-test.false, c.len.ensures)))
