use Rattle.lit_solve.proofs.Words.{◌<◌, ap, arith, box_with, CanFill, events_on, length, not, refl, subst, ℕ}
use Rattle.lit_solve.proofs.DomainLemmas.{pruned_at, pruned_is_box, none_at, none_empty_at, size_less}
use Rattle.lit_solve.proofs.FrameLemmas.{not_true}
use Rattle.lit_solve.proofs.IndependentLemmas.{independent_part}
use Rattle.lit_solve.proofs.PruningLemmas.{some_exactly}
use Rattle.lit_solve.proofs.OpeningLemmas.{completion_taken, restricted_on, left_within, source_taken}
use Rattle.lit_solve.proofs.RacingLemmas.{read_number}
use Rattle.lit_solve.proofs.problem.Problem.restrict_independent.Goals as goal

pub returns-then-is_empty-clause-none : goal.returns-then-is_empty-clause-none
returns-then-is_empty-clause-none c _ x is takes =
    let box = box_with c.args.self.now c.args.domains.now in
    let room : c.args.place < length box.domains = omega arith in
    none_at box c.args.place c.intersection-left.result room c.requires.place x is
    (source_taken box c.args.place c.args.set c.intersection-left.result room c.intersection-left.ensures x is takes)
    (c.is_empty.ensures.0 c.if-is_empty.true)

pub can_fill-requires-clause-is_box : goal.can_fill-requires-clause-is_box
can_fill-requires-clause-is_box c =
    let box = box_with c.args.self.now c.args.domains.now in
    let room : c.args.place < length box.domains = omega arith in
    pruned_is_box box c.args.place c.intersection-left.result room
    (left_within box c.args.place c.args.set c.intersection-left.result room c.intersection-left.ensures) c.requires.independent.is_box

pub can_fill-requires-clause-some : goal.can_fill-requires-clause-some
can_fill-requires-clause-some c =
    let box = box_with c.args.self.now c.args.domains.now in
    let room : c.args.place < length box.domains = omega arith in
    let some = (some_exactly c.intersection-left.result c.is_empty.result c.is_empty.ensures).0 (ap not c.if-is_empty.false) in
    none_empty_at box c.args.place c.intersection-left.result room c.requires.independent.some some

pub returns : goal.returns
returns c =
    let events = events_on c.args.self.now in
    let box = box_with c.args.self.now c.args.domains.now in
    let left = c.intersection-left.result in
    let room : c.args.place < length box.domains = omega arith in
    let within = left_within box c.args.place c.args.set left room c.intersection-left.ensures in
    let some = (some_exactly left c.is_empty.result c.is_empty.ensures).0 (ap not c.if-is_empty.false) in
    let read = read_number events c.args.place c.byte_read-read.result c.byte_read-read.result.read refl c.byte_read-read.ensures.at in
    let part = pruned_at box c.args.place left in
    let of_events = c.laws_below.ensures.of_events events in
    record {
      independent = λ good. independent_part box of_events c.requires.independent c.args.place left room c.requires.place within some
          (subst (λ (r : ℕ). CanFill part r) read (c.can_fill.ensures.0 good));
      restricted = λ _. restricted_on box c.args.place c.args.set left room c.intersection-left.ensures part
          (record { within = record { test = refl; combination = refl; domains = λ k w there. there }; retained = λ x completes. completes });
      less = λ _ not_all. size_less box c.args.place left room within (λ all. not_all (λ w there. ((c.intersection-left.ensures w).0 (all w there)).1));
      -- a completion of the restricted box would fill the read
      none = λ failed x is takes. not_true c.can_fill.result failed (c.can_fill.ensures.1 (c.completions_fill_each_read.ensures part x
          c.byte_read-read.result.read (pruned_is_box box c.args.place left room within c.requires.independent.is_box)
          (completion_taken box c.args.place c.args.set left room c.intersection-left.ensures x is takes) c.byte_read-read.ensures.read));
    }
