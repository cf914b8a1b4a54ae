use Rattle.std.proofs.Common.{refl, ◌∙◌, inl, inr}
use Rattle.std.proofs.lemmas.Bool.{false≢true}
use Rattle.lit_rel.specs.Between.{Forbids}
use Rattle.lit_rel.specs.Rows.{Holds}
use Rattle.lit_order.specs.Forcing.{Given, Through}
use Rattle.lit_order.proofs.ForcingLemmas.{forced_within, next_is_forced, with_pair_forced, with_pair_no_cycle, next_apart}
use Rattle.lit_order.proofs.RowsLemmas.{pairs_missing-lt}
use Rattle.lit_order.proofs.forcing.force.Goals as goal

pub returns-then-has_cycle-clause-cycle : goal.returns-then-has_cycle-clause-cycle
returns-then-has_cycle-clause-cycle c = let loop = c.if-has_cycle.ensures.0 refl in ((λ _. (loop.0, Given loop.1)), (λ _. false≢true))

pub forcing-init : goal.forcing-init
forcing-init c = record {
  len = refl;
  given = λ a d h. h;
  sound = λ a d h. Given h;
  transitive = c.requires.transitive;
  no_cycle = λ e h. false≢true (c.if-has_cycle.ensures.1 (e, h));
}

pub returns-then-holds-clause-cycle : goal.returns-then-holds-clause-cycle
returns-then-holds-clause-cycle c =
    let first = c.in-Some.next.first in
    let second = c.in-Some.next.second in
    let forced = next_is_forced (Holds c.args.forced.now.rows) (Forbids c.args.between.now) (Holds c.forcing.forced.rows) c.forcing.invariant.sound first second c.in-Some.ensures in
    ((λ _. (first, Through second forced (c.forcing.invariant.sound second first (c.if-holds.ensures.0 refl)))), (λ _. false≢true))

pub forcing-preserved : goal.forcing-preserved
forcing-preserved c =
    let before = Holds c.args.forced.now.rows in
    let forbidden = Forbids c.args.between.now in
    let rows = Holds c.forcing.forced.rows in
    let first = c.in-Some.next.first in
    let second = c.in-Some.next.second in
    let so_far = c.forcing.invariant in
    let forced = next_is_forced before forbidden rows so_far.sound first second c.in-Some.ensures in
    record {
      len = c.close_with.ensures.len ∙ so_far.len;
      given = λ a d h. (c.close_with.ensures.pairs a d).1 (inl (so_far.given a d h));
      sound = λ a d h. with_pair_forced before forbidden rows so_far.sound first second forced a d ((c.close_with.ensures.pairs a d).0 h);
      transitive = c.close_with.ensures.transitive so_far.transitive;
      no_cycle = λ e h. with_pair_no_cycle rows so_far.transitive so_far.no_cycle first second (next_apart rows forbidden first second c.in-Some.ensures)
          (λ back. false≢true (c.if-holds.ensures.1 back)) e ((c.close_with.ensures.pairs e e).0 h);
    }

pub forcing-smaller : goal.forcing-smaller
forcing-smaller c =
    let first = c.in-Some.next.first in
    let second = c.in-Some.next.second in
    pairs_missing-lt c.forcing.forced.rows c.close_with.new.self.rows c.close_with.ensures.len (λ a d h. (c.close_with.ensures.pairs a d).1 (inl h)) first second
    c.in-Some.ensures.forces.new ((c.close_with.ensures.pairs first second).1 (inr (inr refl, inr refl)))

pub returns : goal.returns
returns c =
    let before = Holds c.args.forced.now.rows in
    let forbidden = Forbids c.args.between.now in
    let so_far = c.forcing.invariant in
    let within = forced_within before forbidden (Holds c.forcing.forced.rows) so_far.given so_far.transitive c.in_default.ensures in
    record {
      cycle = ((λ h. absurd (h refl)), (λ cycle. absurd (so_far.no_cycle cycle.0 (within cycle.0 cycle.0 cycle.1))));
      len = so_far.len;
      pairs = λ _ a d. (so_far.sound a d, within a d);
    }
