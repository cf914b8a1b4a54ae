use Rattle.std.proofs.Common.{rules, arith, ◌≡◌, ◌↔◌, ℕ, ◌<◌, refl, ◌∙◌, inl, inr}
use Rattle.std.proofs.lemmas.Bool.{true≢false, false≢true}
use Rattle.lit_rel.specs.declared.rows.Rows.{Rows}
use Rattle.lit_rel.specs.Between.{BetweenModel, Forbids}
use Rattle.lit_rel.specs.Rows.{rows_len, Holds, WithPair}
use Rattle.lit_order.specs.Internal.Deciding.{IsUndecided}
use Rattle.lit_order.specs.Forcing.{Given, HasForcedCycle, IsForced}
use Rattle.lit_order.specs.MemoryOrder.{HasOrder, IsOrderOf}
use Rattle.lit_order.proofs.ExtendLemmas.{no_order-from_cycle, order_of_forced, order_from_forced, forced_transitive, order_with, one_side, IsDecided-from_not, IsStrict-rows}
use Rattle.lit_order.proofs.ForcedLemmas.{AreTriplesBelow}
use Rattle.lit_order.proofs.ForcingLemmas.{Forbids-below}
use Rattle.lit_order.proofs.LinearLemmas.{lined_up}
use Rattle.lit_order.proofs.RestrictionLemmas.{IsOrderOf-fewer}
use Rattle.lit_order.proofs.RowsLemmas.{pairs_missing, pairs_missing-le, pairs_missing-lt}
use Rattle.lit_order.proofs.forced.+has_order.Goals as goal

-- the rows are what a relation and triples force
module _ (before : Rows) (between : BetweenModel) (forced : Rows) (same : rows_len before ≡ between.len) (len : rows_len forced ≡ rows_len before) (pairs : (a d : ℕ) → Holds forced a d ↔ IsForced (Holds before) (Forbids between) a d) where
  abbrev triples : AreTriplesBelow (rows_len before) (Forbids between)
  triples = Forbids-below (rows_len before) between same

  -- an order of rows with one pair more is one of what was given
  from_more : (more : Rows) (a d : ℕ) → rows_len more ≡ rows_len forced → ((x y : ℕ) → Holds more x y ↔ WithPair (Holds forced) a d x y)
      → HasOrder (rows_len more) (Holds more) (Forbids between) → HasOrder (rows_len before) (Holds before) (Forbids between)
  from_more more a d more_len with_pair o =
      let at_n : IsOrderOf (rows_len before) (Holds more) (Forbids between) o.0 = simp (more_len, len) at o.1 in
      (o.0, order_from_forced (rows_len before) (Holds before) (Forbids between) triples (Holds forced) pairs o.0 (IsOrderOf-fewer (rows_len before) (Holds more) (Holds forced) (Forbids between) (λ x y h. (with_pair x y).1 (inl h)) o.0 at_n))

  -- rows with one pair more have fewer that are missing
  fewer_missing : (more : Rows) (a d : ℕ) → rows_len more ≡ rows_len forced → ((x y : ℕ) → Holds more x y ↔ WithPair (Holds forced) a d x y) → ¬ Holds forced a d
      → pairs_missing more < pairs_missing before
  fewer_missing more a d more_len with_pair new =
      let less = pairs_missing-lt forced more more_len (λ x y h. (with_pair x y).1 (inl h)) a d new ((with_pair a d).1 (inr (inr refl, inr refl))) in
      omega (arith, less, pairs_missing-le before forced len (λ x y h. (pairs x y).1 (Given h)))

  -- with a triple that is undecided, an order has one of its sides
  to_more : (after earlier : Rows) (w r v : ℕ) → Forbids between w r v → IsUndecided (Holds forced) w r v → rows_len after ≡ rows_len forced → rows_len earlier ≡ rows_len forced
      → ((x y : ℕ) → Holds after x y ↔ WithPair (Holds forced) r v x y) → ((x y : ℕ) → Holds earlier x y ↔ WithPair (Holds forced) v w x y)
      → ¬ HasOrder (rows_len after) (Holds after) (Forbids between) → HasOrder (rows_len before) (Holds before) (Forbids between) → HasOrder (rows_len earlier) (Holds earlier) (Forbids between)
  to_more after earlier w r v refused open_triple after_len earlier_len after_pairs earlier_pairs none o =
      let n = rows_len before in
      let forced_order = order_of_forced n (Holds before) (Forbids between) triples (Holds forced) pairs o.0 o.1 in
      elim (one_side n (Holds before) (Forbids between) triples o.0 o.1 w r v refused open_triple.not_source open_triple.not_read) [
        | inl r_first ↦ absurd (none (o.0, simp (after_len, len) (order_with n (Holds forced) (Holds after) (Forbids between) r v after_pairs o.0 forced_order r_first)))
        | inr v_first ↦ (o.0, simp (earlier_len, len) (order_with n (Holds forced) (Holds earlier) (Forbids between) v w earlier_pairs o.0 forced_order v_first))
      ]

  -- where nothing is undecided, there is an order
  decided : ¬ HasForcedCycle (Holds before) (Forbids between) → ((w r v : ℕ) → Forbids between w r v → ¬ IsUndecided (Holds forced) w r v) → HasOrder (rows_len before) (Holds before) (Forbids between)
  decided no_cycle none =
      let n = rows_len before in
      let strict = IsStrict-rows n forced len (forced_transitive n (Holds before) (Forbids between) triples (Holds forced) pairs) (λ e h. no_cycle (e, (pairs e e).0 h)) in
      let line = lined_up n (Holds forced) strict (Forbids between) triples (IsDecided-from_not forced (Forbids between) none) in
      (line.0, order_from_forced n (Holds before) (Forbids between) triples (Holds forced) pairs line.0 line.1)

pub returns-in_default : goal.returns-in_default
returns-in_default t c =
    let triples_below = Forbids-below (rows_len c.args.before.now) c.args.between.now c.requires in (
      (λ h. absurd (false≢true h)),
      (λ o. absurd (no_order-from_cycle (rows_len c.args.before.now) (Holds c.args.before.now) (Forbids c.args.between.now) triples_below (c.in_default.ensures.cycle.0 refl) o.0 o.1)),
    )

pub returns-in_default-undecided : goal.returns-in_default-undecided
returns-in_default-undecided t c = (
  (λ _. decided c.args.before.now c.args.between.now c.in-Some.forced c.requires c.in-Some.ensures.len c.in-Some.ensures.pairs (λ cycle. true≢false (c.in-Some.ensures.cycle.1 cycle)) c.in_default-undecided.ensures),
  (λ _. refl),
)

pub has_order-requires : goal.has_order-requires
has_order-requires t c =
    let less = fewer_missing c.args.before.now c.args.between.now c.in-Some.forced c.requires c.in-Some.ensures.len c.in-Some.ensures.pairs c.close_with.new.self _ _ c.close_with.ensures.len c.close_with.ensures.pairs c.in-Some-undecided.ensures.1.not_after in
    (search rules, c.close_with.ensures.len ∙ c.in-Some.ensures.len ∙ c.requires)

pub returns-then-has_order : goal.returns-then-has_order
returns-then-has_order t c = (
  (λ _. from_more c.args.before.now c.args.between.now c.in-Some.forced c.requires c.in-Some.ensures.len c.in-Some.ensures.pairs c.close_with.new.self _ _ c.close_with.ensures.len c.close_with.ensures.pairs (c.if-has_order.ensures.0 refl)),
  (λ _. refl),
)

pub has_order-requires-2 : goal.has_order-requires-2
has_order-requires-2 t c =
    let less = fewer_missing c.args.before.now c.args.between.now c.in-Some.forced c.requires c.in-Some.ensures.len c.in-Some.ensures.pairs c.close_with-2.new.self _ _ c.close_with-2.ensures.len c.close_with-2.ensures.pairs c.in-Some-undecided.ensures.1.not_earlier in
    (search rules, c.close_with-2.ensures.len ∙ c.in-Some.ensures.len ∙ c.requires)

pub returns : goal.returns
returns t c = (
  (λ h. from_more c.args.before.now c.args.between.now c.in-Some.forced c.requires c.in-Some.ensures.len c.in-Some.ensures.pairs c.close_with-2.new.self _ _ c.close_with-2.ensures.len c.close_with-2.ensures.pairs (c.has_order-2.ensures.0 h)),
  (λ o. c.has_order-2.ensures.1
      (to_more c.args.before.now c.args.between.now c.in-Some.forced c.requires c.in-Some.ensures.len c.in-Some.ensures.pairs c.close_with.new.self c.close_with-2.new.self _ _ _ c.in-Some-undecided.ensures.0 c.in-Some-undecided.ensures.1
      c.close_with.ensures.len c.close_with-2.ensures.len c.close_with.ensures.pairs c.close_with-2.ensures.pairs (λ some. false≢true (c.if-has_order.ensures.1 some)) o)),
)
