use Rattle.std.proofs.Common.{All, rules}
use Rattle.std.proofs.lemmas.List.Elements.{All-append}
use Rattle.lit_report.specs.Internal.Pages.{IsPage}
use Rattle.lit_report.proofs.pages.+fn-print_pages-join_mut+arg2+fn-print_pages-join_mut+arg3+print_pages.Goals as goal

pub returns : goal.returns
returns g t c =
    let front : All (IsPage c.args.plan.now c.args.found.now) c.front-1.given.0 = search rules in
    let back : All (IsPage c.args.plan.now c.args.found.now) c.back-1.given.0 = search rules in
    All-append (IsPage c.args.plan.now c.args.found.now) c.front-1.given.0 c.back-1.given.0 front back
