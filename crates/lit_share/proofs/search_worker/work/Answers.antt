use Rattle.std.proofs.Common.{◌≡◌, ◌+◌, ◌++◌, List, ℕ, [], ◌∷◌, Bool, length, refl, sym, ap, subst, ◌∙◌, arith}
use Rattle.std.proofs.Math.Seq.{drop-length}
use Rattle.lit_desk.specs.Desk.{IsDone, draws_of}
use Rattle.lit_syntax.specs.Syntax.{Litmus}
use Rattle.lit_search.specs.Report.{IsReport, in_either}
use Rattle.lit_paths.specs.Choice.{choices_of}
use Rattle.lit_search.specs.Collected.{HasTaken}
use Rattle.lit_share.specs.Drawn.{since, drawn_since}
use Rattle.lit_share.specs.Pieces.{in_pieces}
use Rattle.lit_share.proofs.Cutting.{pieces_more, same_piece, start_behind}
use Rattle.lit_share.proofs.Rising.{above, above_least, above_last, since_none, since_more}
use Rattle.lit_share.proofs.Drawing.{drew_late, drew_more, found_so, on_ok, only_late, only_more}
use Rattle.lit_share.proofs.search_worker.work.Goals as goal

pub loop-number-init : goal.loop-number-init
loop-number-init g c =
    let t = c.args.plan.now in
    let total = length (choices_of t) in
    let none : HasTaken (in_pieces total c.args.cut []) c.new-collector.result = c.new-collector.ensures.taken in record {
      own = c.requires.place;
      drew = since_none (draws_of c.args.place);
      only = record { told = λ class. refl; seen = λ class. refl };
      test = c.new-collector.ensures.test;
      taken = subst (λ (ds : List ℕ). HasTaken (in_pieces total c.args.cut ds) c.new-collector.result) (sym (drop-length (draws_of c.args.place))) none;
      follows = omega (arith, c.new-collector.ensures.end);
    }

pub take-requires-clause-follows : goal.take-requires-clause-follows
take-requires-clause-follows g c =
    let behind = start_behind c.args.cut (above (draws_of c.loop-number.place)) c.in-Some.number (above_least (draws_of c.loop-number.place) c.in-Some.number c.in-Some.ensures.above) in
    omega (arith, behind, c.loop-number.invariant.follows, c.piece-piece.ensures.start)

pub take-requires-clause-known : goal.take-requires-clause-known
take-requires-clause-known g c = omega (arith, c.piece-piece.ensures.below, c.total.ensures.value, ap (λ (t : Litmus). length (choices_of t)) c.loop-number.invariant.test)

pub loop-number-smaller : goal.loop-number-smaller
loop-number-smaller g c =
    let ds = draws_of c.loop-number.place in
    let n = c.in-Some.number in
    omega (arith, ap above c.in-Some.ensures.joins, above_last ds n, above_least ds n c.in-Some.ensures.above, c.in-Some.ensures.below)

pub loop-number-preserved : goal.loop-number-preserved
loop-number-preserved g c =
    let t = c.args.plan.now in
    let total = length (choices_of t) in
    let cut = c.args.cut in
    let inv = c.loop-number.invariant in
    let start = draws_of c.args.place in
    let ds = draws_of c.loop-number.place in
    let n = c.in-Some.number in
    let joins = c.in-Some.ensures.joins in
    let drawn = drawn_since c.args.place c.loop-number.place in
    let piece = c.piece-piece.ensures in
    let after : since start (draws_of c.draw.new.place) ≡ drawn ++ n ∷ [] = ap (since start) joins ∙ since_more start ds (n ∷ []) inv.drew in
    let took = c.in_default-take.ensures.taken (in_pieces total cut drawn) inv.taken in record {
      own = c.in-Some.ensures.place;
      drew = drew_more c.args.place c.loop-number.place c.draw.new.place n joins inv.drew;
      only = only_more c.args.place c.loop-number.place c.draw.new.place n c.in-Some.ensures.taken inv.only;
      test = c.in_default-take.ensures.test ∙ inv.test;
      taken =
          subst (λ (xs : List ℕ). HasTaken (in_pieces total cut xs) c.take.new.self) (sym after)
          (subst (λ (numbers : ℕ → Bool). HasTaken numbers c.take.new.self) (pieces_more total cut drawn n) (subst (λ (r : ℕ → Bool). HasTaken (in_either (in_pieces total cut drawn) r) c.take.new.self) (same_piece total c.total.result cut n c.piece-piece.result.start c.piece-piece.result.end c.total.ensures.value piece.start piece.end) took));
      follows = omega (arith, c.in_default-take.ensures.end, piece.end, start_behind cut (n + 1) (above (draws_of c.draw.new.place)) (omega (arith, ap above joins, above_last ds n)));
    }

pub returns-in-Err-clause-drew : goal.returns-in-Err-clause-drew
returns-in-Err-clause-drew g c =
    drew_more c.args.place c.loop-number.place c.draw.new.place c.in-Some.number c.in-Some.ensures.joins c.loop-number.invariant.drew

pub returns-in-Err-clause-only : goal.returns-in-Err-clause-only
returns-in-Err-clause-only g c =
    only_more c.args.place c.loop-number.place c.draw.new.place c.in-Some.number c.in-Some.ensures.taken c.loop-number.invariant.only

pub returns-clause-own : goal.returns-clause-own
returns-clause-own g c = c.draw.ensures.place

pub returns-clause-drew : goal.returns-clause-drew
returns-clause-drew g c = drew_late c.args.place c.loop-number.place c.draw.new.place c.in_default.ensures.done.1
    c.loop-number.invariant.drew

pub returns-clause-only : goal.returns-clause-only
returns-clause-only g c =
    only_late c.args.place c.loop-number.place c.draw.new.place c.args.desk.now.pieces c.in_default.ensures.late
    c.loop-number.invariant.only

pub returns-clause-done : goal.returns-clause-done
returns-clause-done g c = on_ok c.map_err.result (IsDone c.draw.new.place) c.in_default.ensures.done.0

pub returns-clause-reported : goal.returns-clause-reported
returns-clause-reported g c =
    let t = c.args.plan.now in
    let total = length (choices_of t) in
    let start = draws_of c.args.place in
    let report = c.loop-number.collector.report in
    let told : IsReport t (in_pieces total c.args.cut (since start (draws_of c.loop-number.place))) report =
    subst (λ (u : Litmus). IsReport u (in_pieces total c.args.cut (since start (draws_of c.loop-number.place))) report)
    c.loop-number.invariant.test c.loop-number.invariant.taken.reported in
    found_so c.into_found.result c.map_err.result (IsReport t (in_pieces total c.args.cut (drawn_since c.args.place c.draw.new.place))) _
    report c.map_err.ensures.cases c.into_found.ensures
    (subst (λ (ds : List ℕ). IsReport t (in_pieces total c.args.cut (since start ds)) report) (sym c.in_default.ensures.done.1) told)
