-- How the relations of a frame come to be those of its box.
use Rattle.lit_solve.proofs.Words.{◌+◌, ◌<◌, [], AreTriplesBelow, arith, between_by, Bool, Box, box_events, byte_reads, CanSynchronize}
use Rattle.lit_solve.proofs.Words.{cases_lt, Chain, Chain-append, event_at, EventSet, false, Frame, Given, GivenIn, HappensBeforeIn}
use Rattle.lit_solve.proofs.Words.{HasAlone, HasEvent, Holds, inl, inr, IsBox, IsContained, IsExact, IsForbiddenAt, IsForbiddenBetween}
use Rattle.lit_solve.proofs.Words.{IsForbiddenIn, IsForced, IsForced-grow, IsForcedIn, IsSynchronizedAt, IsTransitive, IsTrue, length}
use Rattle.lit_solve.proofs.Words.{IsLeastOrderOf, IsOrderOf, List, never_before_itself, Rows, rows_len, same_Some, slice_get, slice_get_within}
use Rattle.lit_solve.proofs.Words.{Some, StandsBefore, StandsBefore-through, StepBy, subst, sym, Through, true}
use Rattle.lit_solve.proofs.Words.{TwoWayRows, WithPair-within, WithPair, write_known, ℕ, ◌↔◌, ◌∙◌, ◌∷◌, ◌≡◌, ◌≢◌, ◌⊎◌}
use Rattle.lit_order.specs.Forcing.{AfterRead, BeforeSource, HasForcedCycle}
use Rattle.lit_order.proofs.RowsLemmas.{holds_or_not}
use Rattle.lit_rel.proofs.SourceLemmas.{read_known}
use Rattle.lit_solve.specs.Internal.Frames.{IsUnsettled}

-- a number below the next one is below, or the one itself
pub below_or_last : (k n : ℕ) → k < n + 1 → (k < n) ⊎ (k ≡ n)
below_or_last k n below = elim (cases_lt k n) [ inl less ↦ inl less | inr most ↦ inr (omega (arith, most, below)) ]

pub not_true : (b : Bool) → b ≡ false → ¬ IsTrue b
not_true b is holds = absurd (let e : true ≡ false = sym holds ∙ is in cc)

pub before_through : (box : Box) → IsTransitive (HappensBeforeIn box)
before_through box x y z p q = grind (arith, Chain-append)

pub forced_through : (box : Box) → IsTransitive (IsForcedIn box)
forced_through box x y z p q = Through y p q

-- a given source that synchronizes with its read happens before it
pub synchronized_before : (box : Box) (k r b w : ℕ) → slice_get (byte_reads (box_events box)) k ≡ Some (r, b) → HasAlone box k w
    → CanSynchronize (event_at (box_events box) w) (event_at (box_events box) r) → HappensBeforeIn box w r
synchronized_before box k r b w is_read alone can =
    record { middles = []; chain = inr (inl record { reads = (b, record { place = k; is_read = is_read; alone = alone }); can = can }) }

module _ (box : Box) (before : ℕ → ℕ → Type 0) (k r b w : ℕ) (is_read : slice_get (byte_reads (box_events box)) k ≡ Some (r, b)) (alone : HasAlone box k w) where
  pub synchronized_apart : ¬ CanSynchronize (event_at (box_events box) w) (event_at (box_events box) r) → IsSynchronizedAt box before k
  synchronized_apart apart q c v is_read_too alone_too can = grind arith

  pub synchronized_at : before w r → IsSynchronizedAt box before k
  synchronized_at there q c v is_read_too alone_too can = grind arith

pub synchronized_stays : (box other : Box) (before more : ℕ → ℕ → Type 0) (k : ℕ) → box ≡ other → ((a d : ℕ) → before a d → more a d)
    → IsSynchronizedAt box before k → IsSynchronizedAt other more k
synchronized_stays box other before more k same grows is = grind arith

-- what is so below a number, and at it
pub one_more : (P : ℕ → Type 0) (n : ℕ) (Old New : Type 0) → Old ↔ ((k : ℕ) × (k < n) × P k) → New ↔ (Old ⊎ P n) → New ↔ ((k : ℕ) × (k < n + 1) × P k)
one_more P n Old New old new = grind arith

-- a pair of both relations more
with_pair_more : (before more : ℕ → ℕ → Type 0) → ((x y : ℕ) → before x y → more x y) → (a d x y : ℕ) → WithPair before a d x y → WithPair more a d x y
with_pair_more before more within a d x y h = grind arith

pub record IsClosedWith (was now : TwoWayRows) (a d : ℕ) : Type 0 where
  pub len : rows_len now.rows ≡ rows_len was.rows
  pub pairs : (x y : ℕ) → Holds now.rows x y ↔ WithPair (Holds was.rows) a d x y
  pub transitive : IsTransitive (Holds was.rows) → IsTransitive (Holds now.rows)

pub contained_with : (box : Box) (was now : Frame) (a d : ℕ) → IsContained box was → HappensBeforeIn box a d
    → IsClosedWith was.happens_before now.happens_before a d → IsClosedWith was.forced now.forced a d → IsContained box now
contained_with box was now a d is pair before forced = record {
  is_box = is.is_box;
  some = is.some;
  before_len = before.len ∙ is.before_len;
  forced_len = forced.len ∙ is.forced_len;
  before_closed = before.transitive is.before_closed;
  forced_closed = forced.transitive is.forced_closed;
  unsourced = λ x y h. (before.pairs x y).1 (inl (is.unsourced x y h));
  both = λ x y h. (forced.pairs x y).1 (with_pair_more (Holds was.happens_before.rows) (Holds was.forced.rows) is.both a d x y ((before.pairs x y).0 h));
  before_in =
      λ x y h. WithPair-within (Holds was.happens_before.rows) (HappensBeforeIn box) a d (before_through box) is.before_in pair x y
      ((before.pairs x y).0 h);
  forced_in =
      λ x y h. WithPair-within (Holds was.forced.rows) (IsForcedIn box) a d (forced_through box) is.forced_in (Given pair) x y
      ((forced.pairs x y).0 h);
}

-- a frame whose happens-before has each given source before the read with which it synchronizes, has all of that
module _ (box : Box) (frame : Frame) (is : IsContained box frame) (pairs : (k : ℕ) → k < length (byte_reads (box_events box)) → IsSynchronizedAt box (Holds frame.happens_before.rows) k) where
  step_there : (e d : ℕ) → StepBy (box_events box) (GivenIn box) e d → Holds frame.happens_before.rows e d
  step_there e d (inl agent) = is.unsourced e d (record { middles = []; chain = inl agent })
  step_there e d (inr (inl sync)) =
      let given = sync.reads.1 in
      pairs given.place (slice_get_within (byte_reads (box_events box)) given.place (d, sync.reads.0) given.is_read) d sync.reads.0 e given.is_read
      given.alone sync.can
  step_there e d (inr (inr made)) = is.unsourced e d (record { middles = []; chain = inr (inr made) })

  chain_there : (e : ℕ) (middles : List ℕ) (d : ℕ) → Chain (StepBy (box_events box) (GivenIn box)) e middles d → Holds frame.happens_before.rows e d
  chain_there e [] d step = step_there e d step
  chain_there e (m ∷ middles) d chain = is.before_closed e m d (step_there e m chain.0) (chain_there m middles d chain.1)

  pub before_exact : (a d : ℕ) → HappensBeforeIn box a d → Holds frame.happens_before.rows a d
  before_exact a d h = chain_there a h.middles d h.chain

-- ---- what may not stand between a given source and its read
module _ (box : Box) (before : ℕ → ℕ → Type 0) (within : (a d : ℕ) → before a d → HappensBeforeIn box a d) (exact : (a d : ℕ) → HappensBeforeIn box a d → before a d) where
  module _ (k r b w : ℕ) (is_read : slice_get (byte_reads (box_events box)) k ≡ Some (r, b)) (alone : HasAlone box k w) where
    pub forbidden_at : (x y v : ℕ) → IsForbiddenAt box k x y v
        → (x ≡ w) × (y ≡ r) × (v < length (box_events box)) × IsForbiddenBetween (box_events box) before w r v
    forbidden_at x y v f = grind (arith, between_by, same_Some, write_known)

    pub forbidden_there : (x y v : ℕ) → (x ≡ w) × (y ≡ r) × IsForbiddenBetween (box_events box) before w r v → IsForbiddenAt box k x y v
    forbidden_there x y v (source, read, between) =
        subst (λ (s : ℕ). IsForbiddenAt box k s y v) (sym source) (subst (λ (q : ℕ). IsForbiddenAt box k w q v) (sym read)
        (record { byte = b; is_read = is_read; alone = alone; between = between_by (box_events box) before (HappensBeforeIn box) within w r v between }))

    -- a triple more, where these events are exactly what may not stand between the two
    pub forbidden_more : (Old New : ℕ → ℕ → ℕ → Type 0) (n : ℕ) (others : EventSet) → n ≡ length (box_events box)
        → ((v : ℕ) → HasEvent others v ↔ ((v < length (box_events box)) × IsForbiddenBetween (box_events box) before w r v))
        → ((x y v : ℕ) → New x y v ↔ (Old x y v ⊎ ((x ≡ w) × (y ≡ r) × (v < n) × HasEvent others v))) → (x y v : ℕ) → New x y v
        ↔ (Old x y v ⊎ IsForbiddenAt box k x y v)
    forbidden_more Old New n others len are new x y v = (to, from)
      where
        to_either : Old x y v ⊎ ((x ≡ w) × (y ≡ r) × (v < n) × HasEvent others v) → Old x y v ⊎ IsForbiddenAt box k x y v
        to_either (inl old) = inl old
        to_either (inr (source, read, known, has)) = inr (forbidden_there x y v (source, read, ((are v).0 has).1))

        to : New x y v → Old x y v ⊎ IsForbiddenAt box k x y v
        to h = to_either ((new x y v).0 h)

        from : Old x y v ⊎ IsForbiddenAt box k x y v → New x y v
        from (inl old) = (new x y v).1 (inl old)
        from (inr at) = let f = forbidden_at x y v at in (new x y v).1 (inr (f.0, f.1, subst (λ (m : ℕ). v < m) (sym len) f.2, (are v).1 (f.2, f.3)))

    -- the same of those that are so besides, where these events are exactly those
    module _ (Besides : ℕ → ℕ → ℕ → Type 0) (others : EventSet) (are : (v : ℕ) → HasEvent others v ↔ ((v < length (box_events box)) × IsForbiddenBetween (box_events box) before w r v × Besides w r v)) where
      pub besides_more : (Old New : ℕ → ℕ → ℕ → Type 0) (n : ℕ) → n ≡ length (box_events box)
          → ((x y v : ℕ) → New x y v ↔ (Old x y v ⊎ ((x ≡ w) × (y ≡ r) × (v < n) × HasEvent others v))) → (x y v : ℕ) → New x y v
          ↔ (Old x y v ⊎ (IsForbiddenAt box k x y v × Besides x y v))
      besides_more Old New n len new x y v = (to, from)
        where
          to_either : Old x y v ⊎ ((x ≡ w) × (y ≡ r) × (v < n) × HasEvent others v) → Old x y v ⊎ (IsForbiddenAt box k x y v × Besides x y v)
          to_either (inl old) = inl old
          to_either (inr (source, read, known, has)) =
              let one = (are v).0 has in
              inr (
                forbidden_there x y v (source, read, one.1),
                subst (λ (s : ℕ). Besides s y v) (sym source) (subst (λ (q : ℕ). Besides w q v) (sym read) one.2),
              )

          to : New x y v → Old x y v ⊎ (IsForbiddenAt box k x y v × Besides x y v)
          to h = to_either ((new x y v).0 h)

          from : Old x y v ⊎ (IsForbiddenAt box k x y v × Besides x y v) → New x y v
          from (inl old) = (new x y v).1 (inl old)
          from (inr (at, so)) =
              let f = forbidden_at x y v at in
              (new x y v).1 (inr (
                f.0,
                f.1,
                subst (λ (m : ℕ). v < m) (sym len) f.2,
                (are v).1 (f.2, f.3, subst (λ (q : ℕ). Besides w q v) f.1 (subst (λ (s : ℕ). Besides s y v) f.0 so)),
              ))

      -- none, where there are none
      pub besides_none : (Old : ℕ → ℕ → ℕ → Type 0) → ((v : ℕ) → ¬ HasEvent others v) → (x y v : ℕ) → Old x y v
          ↔ (Old x y v ⊎ (IsForbiddenAt box k x y v × Besides x y v))
      besides_none Old none x y v = (λ old. inl old, from)
        where
          from : Old x y v ⊎ (IsForbiddenAt box k x y v × Besides x y v) → Old x y v
          from (inl old) = old
          from (inr (at, so)) =
              let f = forbidden_at x y v at in
              absurd (none v ((are v).1 (f.2, f.3, subst (λ (q : ℕ). Besides w q v) f.1 (subst (λ (s : ℕ). Besides s y v) f.0 so))))

-- all of them
pub forbidden_in : (box : Box) (n w r v : ℕ) → n ≡ length (byte_reads (box_events box))
    → ((k : ℕ) × (k < n) × IsForbiddenAt box k w r v) ↔ IsForbiddenIn box w r v
forbidden_in box n w r v all = grind (arith, slice_get_within)

-- its triples are of its events
pub triples_below_in : (box : Box) → IsBox box → AreTriplesBelow (length (box_events box)) (IsForbiddenIn box)
triples_below_in box is_box = record {
  source = λ w r v f. let given = f.reads.1 in (is_box.candidates given.place r f.reads.0 w given.is_read given.alone.there).known;
  read = λ w r v f. let given = f.reads.1 in read_known (box_events box) given.place r f.reads.0 given.is_read;
  other = λ w r v f. write_known (box_events box) v f.between.writes;
}

-- ---- triples that a relation settles force nothing more
module _ (before more : ℕ → ℕ → Type 0) (forbidden unsettled : ℕ → ℕ → ℕ → Type 0) (within : (a d : ℕ) → before a d → more a d)
    (all : (w r v : ℕ) → forbidden w r v → unsettled w r v ⊎ (more r v ⊎ more v w)) where
  abbrev forced_or_cycle : ℕ → ℕ → Type 0
  forced_or_cycle a d = IsForced more unsettled a d ⊎ HasForcedCycle more unsettled

  through_or : (a m d : ℕ) → forced_or_cycle a m → forced_or_cycle m d → forced_or_cycle a d
  through_or a m d (inr cycle) _ = inr cycle
  through_or a m d (inl _) (inr cycle) = inr cycle
  through_or a m d (inl p) (inl q) = inl (Through m p q)

  after_or : (w r v : ℕ) → forbidden w r v → v ≢ w → v ≢ r → forced_or_cycle w v → forced_or_cycle r v
  after_or w r v f not_source not_read (inr cycle) = inr cycle
  after_or w r v f not_source not_read (inl p) = elim (all w r v f) [
    | inl yet ↦ inl (AfterRead w yet not_source not_read p)
    | inr settled ↦ elim settled [ inl after ↦ inl (Given after) | inr earlier ↦ inr (v, Through w (Given earlier) p) ]
  ]

  before_or : (w r v : ℕ) → forbidden w r v → v ≢ w → v ≢ r → forced_or_cycle v r → forced_or_cycle v w
  before_or w r v f not_source not_read (inr cycle) = inr cycle
  before_or w r v f not_source not_read (inl p) = elim (all w r v f) [
    | inl yet ↦ inl (BeforeSource r yet not_source not_read p)
    | inr settled ↦ elim settled [ inl after ↦ inr (v, Through r p (Given after)) | inr earlier ↦ inl (Given earlier) ]
  ]

  pub forced_unsettled : (a d : ℕ) → IsForced before forbidden a d → forced_or_cycle a d
  forced_unsettled a d (Given h) = inl (Given (within a d h))
  forced_unsettled a d (Through m p q) = through_or a m d (forced_unsettled a m p) (forced_unsettled m d q)
  forced_unsettled r v (AfterRead w f not_source not_read p) = after_or w r v f not_source not_read (forced_unsettled w v p)
  forced_unsettled v w (BeforeSource r f not_source not_read p) = before_or w r v f not_source not_read (forced_unsettled v r p)

-- a triple that is not unsettled is settled
settled_or_not : (rows : Rows) (forbidden : ℕ → ℕ → ℕ → Type 0) (w r v : ℕ) → forbidden w r v
    → (forbidden w r v × IsUnsettled (Holds rows) w r v) ⊎ (Holds rows r v ⊎ Holds rows v w)
settled_or_not rows forbidden w r v f = elim (holds_or_not rows r v) [
  | inl after ↦ inr (inl after)
  | inr not_after ↦ elim (holds_or_not rows v w) [
    | inl earlier ↦ inr (inr earlier)
    | inr not_earlier ↦ inl (f, record { not_after = not_after; not_earlier = not_earlier })
  ]
]

-- ---- a frame with all that is forced
module _ (box : Box) (was now : Frame) (is : IsContained box was) (exact : (a d : ℕ) → HappensBeforeIn box a d → Holds was.happens_before.rows a d)
    (forbidden : ℕ → ℕ → ℕ → Type 0) (triples : (w r v : ℕ) → forbidden w r v ↔ (IsForbiddenIn box w r v × IsUnsettled (Holds was.forced.rows) w r v)) where
  pub forced_sound : (a d : ℕ) → IsForced (Holds was.forced.rows) forbidden a d → IsForcedIn box a d
  forced_sound =
      IsForced-grow (Holds was.forced.rows) (HappensBeforeIn box) forbidden (IsForbiddenIn box) is.forced_in (λ w r v f. ((triples w r v).0 f).0)

  -- a triple that is not listed is settled
  listed_or_settled : (w r v : ℕ) → IsForbiddenIn box w r v → forbidden w r v ⊎ (Holds was.forced.rows r v ⊎ Holds was.forced.rows v w)
  listed_or_settled w r v f = elim (settled_or_not was.forced.rows (IsForbiddenIn box) w r v f) [
    | inl yet ↦ inl ((triples w r v).1 yet)
    | inr settled ↦ inr settled
  ]

  module _ (acyclic : ¬ HasForcedCycle (Holds was.forced.rows) forbidden) where
    pub forced_whole : (a d : ℕ) → IsForcedIn box a d → IsForced (Holds was.forced.rows) forbidden a d
    forced_whole a d f =
        elim (forced_unsettled (HappensBeforeIn box) (Holds was.forced.rows) (IsForbiddenIn box) forbidden (λ x y h. is.both x y (exact x y h)) listed_or_settled a d f) [
          | inl forced ↦ forced
          | inr cycle ↦ absurd (acyclic cycle)
        ]

    pub forced_exact : now.happens_before ≡ was.happens_before → rows_len now.forced.rows ≡ rows_len was.forced.rows
        → ((a d : ℕ) → Holds now.forced.rows a d ↔ IsForced (Holds was.forced.rows) forbidden a d) → IsExact box now
    forced_exact same len pairs = record {
      contained = record {
        is_box = is.is_box;
        some = is.some;
        before_len = subst (λ (h : TwoWayRows). rows_len h.rows ≡ length (box_events box)) (sym same) is.before_len;
        forced_len = len ∙ is.forced_len;
        before_closed = subst (λ (h : TwoWayRows). IsTransitive (Holds h.rows)) (sym same) is.before_closed;
        forced_closed = λ x y z p q. (pairs x z).1 (Through y ((pairs x y).0 p) ((pairs y z).0 q));
        unsourced = λ a d h. subst (λ (k : TwoWayRows). Holds k.rows a d) (sym same) (is.unsourced a d h);
        both = λ a d h. (pairs a d).1 (Given (is.both a d (subst (λ (k : TwoWayRows). Holds k.rows a d) same h)));
        before_in = λ a d h. is.before_in a d (subst (λ (k : TwoWayRows). Holds k.rows a d) same h);
        forced_in = λ a d h. forced_sound a d ((pairs a d).0 h);
      };
      before = λ a d h. subst (λ (k : TwoWayRows). Holds k.rows a d) (sym same) (exact a d h);
      forced = λ a d f. (pairs a d).1 (forced_whole a d f);
    }

-- the orders of a relation are the same without the triples that it settles
module _ (n : ℕ) (rows : Rows) (forbidden unsettled : ℕ → ℕ → ℕ → Type 0)
    (triples : (w r v : ℕ) → unsettled w r v ↔ (forbidden w r v × IsUnsettled (Holds rows) w r v)) where
  order_settled : (order : List ℕ) → IsOrderOf n (Holds rows) unsettled order → IsOrderOf n (Holds rows) forbidden order
  order_settled order o = record { complete = o.complete; keeps = o.keeps; avoids = never }
    where
      never : (w r v : ℕ) → forbidden w r v → StandsBefore order w v → StandsBefore order v r → ⊥
      never w r v f p q = elim (settled_or_not rows forbidden w r v f) [
        | inl yet ↦ o.avoids w r v ((triples w r v).1 yet) p q
        | inr settled ↦ elim settled [
          | inl after ↦ never_before_itself order o.complete.once r (StandsBefore-through order o.complete.once r v r (o.keeps r v after) q)
          | inr earlier ↦ never_before_itself order o.complete.once v (StandsBefore-through order o.complete.once v w v (o.keeps v w earlier) p)
        ]
      ]

  order_unsettled : (order : List ℕ) → IsOrderOf n (Holds rows) forbidden order → IsOrderOf n (Holds rows) unsettled order
  order_unsettled order o = record { complete = o.complete; keeps = o.keeps; avoids = λ w r v f. o.avoids w r v ((triples w r v).0 f).0 }

  pub least_settled : (order : List ℕ) → IsLeastOrderOf n (Holds rows) unsettled order → IsLeastOrderOf n (Holds rows) forbidden order
  least_settled order l = record { is_order = order_settled order l.is_order; least = λ other o. l.least other (order_unsettled other o) }

  pub none_settled : ((order : List ℕ) → ¬ IsOrderOf n (Holds rows) unsettled order) → (order : List ℕ) → ¬ IsOrderOf n (Holds rows) forbidden order
  none_settled none order o = none order (order_unsettled order o)
