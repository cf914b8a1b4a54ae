use Rattle.lit_solve.proofs.Words.{ap, arith, box_of, byte_read_at, cases_eq, event_or_not, events_on, HasEvent, false≢true, HasSource, Holds, inl, inr, IsCoherentRead}
use Rattle.lit_solve.proofs.Words.{IsPrunable, refl, split_less, subst, sym, ℕ, ◌∙◌, ◌≡◌}
use Rattle.lit_solve.proofs.PruningLemmas.{incoherent_out, later_out, source_known}
use Rattle.lit_solve.proofs.problem.Problem.unpruned.Goals as goal

pub is_coherent-requires-clause-source : goal.is_coherent-requires-clause-source
is_coherent-requires-clause-source c = c.in-Some.ensures.1

pub returns-then-is_coherent-clause-prunable : goal.returns-then-is_coherent-clause-prunable
returns-then-is_coherent-clause-prunable c w there gone = absurd (gone ((c.set_of.ensures w).1 (c.in-Some.ensures.0.alone w there)))

pub returns-then-is_coherent-clause-coherent : goal.returns-then-is_coherent-clause-coherent
returns-then-is_coherent-clause-coherent c w there =
    let read = byte_read_at (events_on c.args.self.now) c.args.place in
    subst (λ (v : ℕ). IsCoherentRead (events_on c.args.self.now) (Holds c.args.frame.now.happens_before.rows) read.0 read.1 v) (sym ((c.set_of.ensures w).0 there))
    (c.if-is_coherent.ensures.0 refl)

pub returns-in-Some-clause-prunable : goal.returns-in-Some-clause-prunable
returns-in-Some-clause-prunable c w there _ =
    let read = byte_read_at (events_on c.args.self.now) c.args.place in
    incoherent_out (box_of c.args.self.now c.args.frame.now) c.args.frame.now c.requires.contained read.0 read.1 w
    (λ coherent. false≢true (c.if-is_coherent.ensures.1
    (subst (λ (v : ℕ). IsCoherentRead (events_on c.args.self.now) (Holds c.args.frame.now.happens_before.rows) read.0 read.1 v) (c.in-Some.ensures.0.alone w there) coherent)))

pub loop-source-init : goal.loop-source-init
loop-source-init c =
    let box = box_of c.args.self.now c.args.frame.now in
    let frame = c.args.frame.now in
    let is = c.requires.contained in
    let read = byte_read_at (events_on c.args.self.now) c.args.place in
    let same : c.from-read.result ≡ read.0 = c.from-read.ensures ∙ ap (λ (p : ℕ × ℕ). p.0) c.byte_read.ensures.is in
    let open_in = λ (w : ℕ) (h : HasEvent c.difference-open.result w). ((c.difference-open.ensures w).0 h).0 in record {
      rest = λ w h. open_in w ((c.intersection-rest.ensures w).0 h).0;
      within = λ w h. open_in w ((c.difference-left.ensures w).0 h).0;
      prunable = λ w there not_rest not_left. elim (event_or_not c.intersection-later.result w) [
        | inl later ↦
            let both = (c.intersection-later.ensures w).0 later in
            subst (λ (r : ℕ). IsPrunable box r read.1 w) same
            (later_out box frame is c.from-read.result read.1 w ((c.synchronizing.ensures w).0 both.1).1 ((c.successors-after.ensures w).0 both.0))
        | inr not_later ↦ elim (event_or_not c.successors.result w) [
          | inl after ↦
              incoherent_out box frame is read.0 read.1 w
              (λ coherent. coherent.not_later (subst (λ (r : ℕ). Holds frame.happens_before.rows r w) same ((c.successors.ensures w).0 after)))
          | inr not_after ↦
              let still : HasEvent c.difference-open.result w = (c.difference-open.ensures w).1
              (there, λ gone. elim ((c.union-out.ensures w).0 gone) [ inl later ↦ not_later later | inr after ↦ not_after after ]) in
              elim (event_or_not c.suspects-suspects.result w) [
                | inl suspect ↦ absurd (not_rest ((c.intersection-rest.ensures w).1 (still, suspect)))
                | inr none ↦ absurd (not_left ((c.difference-left.ensures w).1 (still, none)))
              ]
        ]
      ];
      coherent = λ w h.
          let parts = (c.difference-left.ensures w).0 h in
          let not_out = ((c.difference-open.ensures w).0 parts.0).1 in record {
            not_later = λ later. not_out ((c.union-out.ensures w).1 (inr ((c.successors.ensures w).1 (subst (λ (r : ℕ). Holds frame.happens_before.rows r w) (sym same) later))));
            not_hidden = λ v hides. parts.1 (c.suspects-suspects.ensures w (subst (λ (r : ℕ). Holds frame.forced.rows w r) (sym same)
                (is.both w read.0 (is.before_closed w v read.0 hides.after_source hides.before_read))));
          };
    }

pub is_prunable-requires-clause-source : goal.is_prunable-requires-clause-source
is_prunable-requires-clause-source c =
    source_known (box_of c.args.self.now c.args.frame.now) c.requires.contained.is_box c.args.place c.in-Some-split_first.source
    c.requires.place (c.loop-source.invariant.rest c.in-Some-split_first.source c.in-Some-split_first.ensures.there)

pub with-left-requires : goal.with-left-requires
with-left-requires c =
    let known = source_known (box_of c.args.self.now c.args.frame.now) c.requires.contained.is_box c.args.place c.in-Some-split_first.source
    c.requires.place (c.loop-source.invariant.rest c.in-Some-split_first.source c.in-Some-split_first.ensures.there) in
    omega (arith, known)

pub loop-source-smaller-then-not-is_prunable : goal.loop-source-smaller-then-not-is_prunable
loop-source-smaller-then-not-is_prunable c = let h = c.in-Some-split_first in split_less c.loop-source.rest h.source h.others h.ensures

pub loop-source-smaller : goal.loop-source-smaller
loop-source-smaller c = let h = c.in-Some-split_first in split_less c.loop-source.rest h.source h.others h.ensures

pub loop-source-preserved-then-not-is_prunable : goal.loop-source-preserved-then-not-is_prunable
loop-source-preserved-then-not-is_prunable c =
    let box = box_of c.args.self.now c.args.frame.now in
    let events = events_on c.args.self.now in
    let read = byte_read_at events c.args.place in
    let was = c.loop-source.invariant in
    let source = c.in-Some-split_first.source in record {
      rest = λ w h. was.rest w ((c.in-Some-split_first.ensures.rest w).0 h).0;
      within = λ w h. elim ((c.with-left.ensures w).0 h) [
        | inl old ↦ was.within w old
        | inr is ↦ subst (λ (v : ℕ). HasSource box c.args.place v) (sym is) (was.rest source c.in-Some-split_first.ensures.there)
      ];
      prunable = λ w h gone lost.
          was.prunable w h
          (λ there. elim (cases_eq w source) [
            | inl is ↦ lost ((c.with-left.ensures w).1 (inr is))
            | inr other ↦ gone
                ((c.in-Some-split_first.ensures.rest w).1 (there, other))
          ])
          (λ old. lost ((c.with-left.ensures w).1 (inl old)));
      coherent = λ w h. elim ((c.with-left.ensures w).0 h) [
        | inl old ↦ was.coherent w old
        | inr is ↦ subst (λ (v : ℕ). IsCoherentRead events (Holds c.args.frame.now.happens_before.rows) read.0 read.1 v) (sym is)
            (c.is_prunable.ensures.coherent c.if-not-is_prunable.true)
      ];
    }

pub loop-source-preserved : goal.loop-source-preserved
loop-source-preserved c =
    let box = box_of c.args.self.now c.args.frame.now in
    let read = byte_read_at (events_on c.args.self.now) c.args.place in
    let was = c.loop-source.invariant in
    let source = c.in-Some-split_first.source in record {
      rest = λ w h. was.rest w ((c.in-Some-split_first.ensures.rest w).0 h).0;
      within = was.within;
      prunable = λ w h gone lost. elim (cases_eq w source) [
        | inl is ↦ subst (λ (v : ℕ). IsPrunable box read.0 read.1 v) (sym is) (c.is_prunable.ensures.prunable c.if-not-is_prunable.false)
        | inr other ↦ was.prunable w h (λ there. gone ((c.in-Some-split_first.ensures.rest w).1 (there, other))) lost
      ];
      coherent = was.coherent;
    }

pub returns-clause-prunable : goal.returns-clause-prunable
returns-clause-prunable c w h lost = c.loop-source.invariant.prunable w h (c.in_default-split_first.ensures w) lost
