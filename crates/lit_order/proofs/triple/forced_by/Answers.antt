use Rattle.std.proofs.Common.{◌≢◌, ℕ, sym, subst, inl, inr}
use Rattle.lit_rel.specs.EventSet.{HasEvent}
use Rattle.lit_rel.specs.Rows.{Holds}
use Rattle.lit_order.proofs.RowsLemmas.{holds_or_not}
use Rattle.lit_order.proofs.triple.forced_by.Goals as goal

pub returns : goal.returns
returns c v other =
    let w = c.from-source.result in
    let r = c.from-read.result in
    let rows = c.args.rows.now.rows in
    let turned = c.args.rows.now.same in
    let is_w = c.from-source.ensures in
    let is_r = c.from-read.ensures in
    let among : v ≢ c.args.pair.now.source → v ≢ c.args.pair.now.read → HasEvent c.others_of-others.result v =
    λ not_source not_read. (c.others_of-others.ensures v).1 (other.marked, not_source, not_read) in
    record {
      after = λ not_source not_read after. elim (holds_or_not rows r v) [
        | inl there ↦ subst (λ (x : ℕ). Holds rows x v) is_r there
        | inr lacking ↦ absurd (c.in_default.ensures v (among not_source not_read) ((c.successors-after_source.ensures v).1 (subst (λ (x : ℕ). Holds rows x v) (sym is_w) after)) (λ there. lacking ((c.successors.ensures v).0 there)))
      ];
      earlier = λ not_source not_read earlier. elim (holds_or_not rows v w) [
        | inl there ↦ subst (Holds rows v) is_w there
        | inr lacking ↦ absurd (c.in_default-first_lacking.ensures v (among not_source not_read) ((c.successors-before_read.ensures v).1 ((turned.pairs v r).1 (subst (Holds rows v) (sym is_r) earlier))) (λ there. lacking ((turned.pairs v w).0 ((c.successors-2.ensures v).0 there))))
      ];
    }
