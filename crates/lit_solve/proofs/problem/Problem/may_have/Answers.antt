use Rattle.lit_solve.proofs.Words.{◌<◌, arith, Bool, Box, box_events, box_of, byte_read_at, byte_reads, CanFill, CanFillAt, events_on}
use Rattle.lit_solve.proofs.Words.{EventSet, Frame, HasEvent, HasSource, IsContained, IsTrue, length, MayHave, refl, subst, sym, ℕ, ◌↔◌}
use Rattle.lit_solve.proofs.Words.{◌≡◌}
use Rattle.lit_solve.proofs.DomainLemmas.{frame_at, pruned_at, pruned_contained}
use Rattle.lit_solve.proofs.PruningLemmas.{source_known}
use Rattle.lit_solve.proofs.RacingLemmas.{can_fill_alone, one_within, read_number}
use Rattle.lit_solve.proofs.problem.Problem.may_have.Goals as goal

-- ---- a set that has nothing but a source of the domain
module _ (box : Box) (place source : ℕ) (one : EventSet) (is_one : (v : ℕ) → HasEvent one v ↔ (v ≡ source))
    (room : place < length box.domains) (there : HasSource box place source) where
  alone_contained : (frame : Frame) → IsContained box frame → IsContained (pruned_at box place one) (frame_at frame place one)
  alone_contained frame contained =
      pruned_contained box place one room (one_within box place source one is_one room there) frame contained (source, (is_one source).1 refl)

  alone_fills : place < length (byte_reads (box_events box))
      → CanFill (pruned_at box place one) (byte_read_at (box_events box) place).0 ↔ CanFillAt box place source
  alone_fills inside = can_fill_alone box place source one is_one room inside there

pub set_of-requires : goal.set_of-requires
set_of-requires c =
    let known : c.args.source < length (events_on c.args.self.now) =
    source_known (box_of c.args.self.now c.args.frame.now) c.requires.contained.is_box c.args.place c.args.source c.requires.place c.requires.there in
    omega arith

pub can_fill-requires-clause-is_box : goal.can_fill-requires-clause-is_box
can_fill-requires-clause-is_box c =
    let box = box_of c.args.self.now c.args.frame.now in
    (alone_contained box c.args.place c.args.source c.set_of.result c.set_of.ensures (omega arith) c.requires.there
    c.args.frame.now c.requires.contained).is_box

pub can_fill-requires-clause-some : goal.can_fill-requires-clause-some
can_fill-requires-clause-some c =
    let box = box_of c.args.self.now c.args.frame.now in
    (alone_contained box c.args.place c.args.source c.set_of.result c.set_of.ensures (omega arith) c.requires.there
    c.args.frame.now c.requires.contained).some

pub returns : goal.returns
returns c =
    let box = box_of c.args.self.now c.args.frame.now in
    let events = events_on c.args.self.now in
    let is_read : c.byte_read-read.result.read ≡ (byte_read_at events c.args.place).0 =
    read_number events c.args.place c.byte_read-read.result c.byte_read-read.result.read refl c.byte_read-read.ensures.at in
    let room : c.args.place < length box.domains = omega arith in
    let fills = alone_fills box c.args.place c.args.source c.set_of.result c.set_of.ensures room c.requires.there
    c.requires.place in
    let alone = pruned_at box c.args.place c.set_of.result in
    subst (λ (f : Bool). IsTrue c.can_fill.result ↔ MayHave box f c.args.place c.args.source) (sym c.if-not-filling.false) (
      (λ h. fills.0 (subst (λ (r : ℕ). CanFill alone r) is_read (c.can_fill.ensures.0 h))),
      (λ can. c.can_fill.ensures.1 (subst (λ (r : ℕ). CanFill alone r) (sym is_read) (fills.1 can))),
    )
