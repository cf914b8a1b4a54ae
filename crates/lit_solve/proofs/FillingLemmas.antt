-- Filling a read byte by byte.
use Rattle.lit_solve.proofs.Words.{◌*◌, ◌+◌, ◌-◌, ◌<◌, [], ◌^◌, ap, arith, Box, box_events, byte_reads, bytes_taken, CanFill, CanFillOn}
use Rattle.lit_solve.proofs.Words.{CanFillWith, CanReadWhole, cases_eq, composed, drop, eq-eqb, Event, event_at, FillsBytes, get_or}
use Rattle.lit_solve.proofs.Words.{HasEmptyDomain, HasEvent, HasFalseGuardOn, HasSource, inl, inr, IsBox, length, LieFrom, List, nat_tests}
use Rattle.lit_solve.proofs.Words.{none-some, payload_at, pow_more, reads_on, ReadsByteFrom, ReadsWholeBy, refl, same_Some, slice_get}
use Rattle.lit_solve.proofs.Words.{slice_get-drop, slice_get-get_or, slice_get_within, Some, subst, suc, sym, Taken, TakesOn, TakesWhole}
use Rattle.lit_solve.proofs.Words.{value_of, WholeWith, WouldNotTear, zero, ℕ, ◌↔◌, ◌∙◌, ◌∷◌, ◌≡◌, ◌≢◌, ◌≤◌, ◌⊎◌}
use Rattle.lit_solve.proofs.BoxLemmas.{has_source}
use Rattle.lit_solve.proofs.ReadByteLemmas.{drop_at}

-- ---- one byte read more in front
-- the read of byte read p is r, and it reads whole from p's source w, which is x
abbrev TakesHere : List Event → ℕ × ℕ → ℕ → ℕ → ℕ → Type 0
TakesHere events p w r x = (p.0 ≡ r) × (x ≡ w) × CanReadWhole (event_at events r) (event_at events w)

module _ (events : List Event) (p : ℕ × ℕ) (reads : List (ℕ × ℕ)) (w : ℕ) (sources : List ℕ) (r : ℕ) where
  taken_same : p.0 ≡ r → bytes_taken events (p ∷ reads) (w ∷ sources) r ≡ payload_at (event_at events w) p.1 ∷ bytes_taken events reads sources r
  taken_same same = grind (arith, eq-eqb)

  pub taken_other : p.0 ≢ r → bytes_taken events (p ∷ reads) (w ∷ sources) r ≡ bytes_taken events reads sources r
  taken_other other = grind (arith, nat_tests)

  whole_later : (x : ℕ) → TakesWhole events reads sources r x → TakesWhole events (p ∷ reads) (w ∷ sources) r x
  whole_later x t = record { place = suc t.place; byte = t.byte; is_read = t.is_read; takes = t.takes; can = t.can }

  whole_here : p.0 ≡ r → CanReadWhole (event_at events r) (event_at events w) → TakesWhole events (p ∷ reads) (w ∷ sources) r w
  whole_here same can = record { place = 0; byte = p.1; is_read = ap (λ (q : ℕ). Some (q, p.1)) same; takes = refl; can = can }

  whole_split : (x : ℕ) → TakesWhole events (p ∷ reads) (w ∷ sources) r x
      → TakesHere events p w r x ⊎ TakesWhole events reads sources r x
  whole_split x t = grind (arith, same_Some)

-- ---- what fills the bytes of a read
module _ (box : Box) (r : ℕ) where
  abbrev events : List Event
  events = box_events box

  abbrev has_false : ℕ → Type 0
  has_false value = HasFalseGuardOn box.test box.combination (Some r) value

  -- with less to be tear free with
  pub FillsBytes-less : (reads : List (ℕ × ℕ)) (less more : ℕ → Type 0) (value bytes : ℕ) (sources : List ℕ) → ((v : ℕ) → less v → more v)
      → FillsBytes box r reads more value bytes sources → FillsBytes box r reads less value bytes sources
  FillsBytes-less reads less more value bytes sources within f = record {
    tear_free = λ w v t other. f.tear_free w v t (elim other [ inl h ↦ inl (within v h) | inr h ↦ inr h ]);
    guards = f.guards;
  }

  module _ (p : ℕ × ℕ) (reads : List (ℕ × ℕ)) (whole : ℕ → Type 0) (value bytes w : ℕ) (sources : List ℕ) where
    -- a byte of another read in front
    fills_past : p.0 ≢ r → FillsBytes box r reads whole value bytes sources → FillsBytes box r (p ∷ reads) whole value bytes (w ∷ sources)
    fills_past other f = record {
      tear_free = λ x v t h. f.tear_free x v (later x t) (elim h [ inl given ↦ inl given | inr u ↦ inr (later v u) ]);
      guards = subst (λ (bs : List ℕ). ¬ has_false (value + 256 ^ bytes * composed bs)) (sym (taken_other events p reads w sources r other)) f.guards;
    }
      where
        later : (x : ℕ) → TakesWhole events (p ∷ reads) (w ∷ sources) r x → TakesWhole events reads sources r x
        later x t = elim (whole_split events p reads w sources r x t) [ inl here ↦ absurd (other here.0) | inr there ↦ there ]

    fills_past_back : p.0 ≢ r → FillsBytes box r (p ∷ reads) whole value bytes (w ∷ sources) → FillsBytes box r reads whole value bytes sources
    fills_past_back other f = record {
      tear_free =
          λ x v t h. f.tear_free x v (whole_later events p reads w sources r x t)
          (elim h [ inl given ↦ inl given | inr u ↦ inr (whole_later events p reads w sources r v u) ]);
      guards = subst (λ (bs : List ℕ). ¬ has_false (value + 256 ^ bytes * composed bs)) (taken_other events p reads w sources r other) f.guards;
    }

    -- a byte of the read
    module _ (same : p.0 ≡ r) where
      pub same_number : (value + 256 ^ bytes * payload_at (event_at events w) p.1) + 256 ^ (bytes + 1) * composed (bytes_taken events reads sources r)
          ≡ value + 256 ^ bytes * composed (bytes_taken events (p ∷ reads) (w ∷ sources) r)
      same_number =
          together (256 ^ bytes) (256 ^ (bytes + 1)) (payload_at (event_at events w) p.1) (composed (bytes_taken events reads sources r)) (pow_more 256 bytes)
          ∙ sym (ap (λ (bs : List ℕ). value + 256 ^ bytes * composed bs) (taken_same events p reads w sources r same))
        where
          together : (unit next byte rest : ℕ) → next ≡ unit * 256 → (value + unit * byte) + next * rest ≡ value + unit * (byte + 256 * rest)
          together unit next byte rest is = ap (λ (n : ℕ). (value + unit * byte) + n * rest) is ∙ omega arith

      fills_with : WouldNotTear events r whole w
          → FillsBytes box r reads (WholeWith events r whole w) (value + 256 ^ bytes * payload_at (event_at events w) p.1) (bytes + 1) sources
          → FillsBytes box r (p ∷ reads) whole value bytes (w ∷ sources)
      fills_with free f = record {
        tear_free =
            λ x v t h. by x v (whole_split events p reads w sources r x t)
            (elim h [ inl given ↦ inl given | inr u ↦ inr (whole_split events p reads w sources r v u) ]);
        guards = subst (λ (n : ℕ). ¬ has_false n) same_number f.guards;
      }
        where
          by : (x v : ℕ) → TakesHere events p w r x ⊎ TakesWhole events reads sources r x
              → whole v ⊎ (TakesHere events p w r v ⊎ TakesWhole events reads sources r v) → v ≡ x
          by x v (inl here) (inl given) = free here.2 v given ∙ sym here.1
          by x v (inl here) (inr (inl other)) = other.1 ∙ sym here.1
          by x v (inl here) (inr (inr later)) = sym (here.1 ∙ f.tear_free v w later (inl (inr (refl, here.2))))
          by x v (inr there) (inl given) = f.tear_free x v there (inl (inl given))
          by x v (inr there) (inr (inl other)) = f.tear_free x v there (inl (inr (other.1, other.2)))
          by x v (inr there) (inr (inr later)) = f.tear_free x v there (inr later)

      fills_with_free : FillsBytes box r (p ∷ reads) whole value bytes (w ∷ sources) → WouldNotTear events r whole w
      fills_with_free f can v given = f.tear_free w v (whole_here events p reads w sources r same can) (inl given)

      fills_with_back : FillsBytes box r (p ∷ reads) whole value bytes (w ∷ sources)
          → FillsBytes box r reads (WholeWith events r whole w) (value + 256 ^ bytes * payload_at (event_at events w) p.1) (bytes + 1) sources
      fills_with_back f = record {
        tear_free = λ x v t h. f.tear_free x v (whole_later events p reads w sources r x t) (elim h [
          | inl given ↦ elim given [
            | inl old ↦ inl old
            | inr new ↦ inr (subst (λ (y : ℕ). TakesWhole events (p ∷ reads) (w ∷ sources) r y) (sym new.0) (whole_here events p reads w sources r same new.1))
          ]
          | inr u ↦ inr (whole_later events p reads w sources r v u)
        ]);
        guards = subst (λ (n : ℕ). ¬ has_false n) (sym same_number) f.guards;
      }

  -- no byte of the read
  pub taken_none : (reads : List (ℕ × ℕ)) (sources : List ℕ) → ((i b : ℕ) → slice_get reads i ≢ Some (r, b)) → bytes_taken events reads sources r ≡ []
  taken_none [] sources none = refl
  taken_none (p ∷ reads) [] none = refl
  taken_none (p ∷ reads) (w ∷ sources) none =
      taken_other events p reads w sources r (λ same. none 0 p.1 (ap (λ (q : ℕ). Some (q, p.1)) same))
      ∙ taken_none reads sources (λ i b at. none (suc i) b at)

  module _ (reads : List (ℕ × ℕ)) (whole : ℕ → Type 0) (value bytes : ℕ) (sources : List ℕ) (none : (i b : ℕ) → slice_get reads i ≢ Some (r, b)) where
    pub no_more : value + 256 ^ bytes * composed (bytes_taken events reads sources r) ≡ value
    no_more = grind (arith, taken_none)

    fills_none : ¬ has_false value → FillsBytes box r reads whole value bytes sources
    fills_none guards = grind (arith, no_more)

    fills_none_back : FillsBytes box r reads whole value bytes sources → ¬ has_false value
    fills_none_back f = subst (λ (n : ℕ). ¬ has_false n) no_more f.guards

-- ---- sources of the byte reads from one on
module _ (box : Box) where
  lies_more : (k w : ℕ) (sources : List ℕ) → HasSource box k w → LieFrom box (k + 1) sources → LieFrom box k (w ∷ sources)
  lies_more k w sources here lie = record {
    one_each = omega (arith, lie.one_each);
    within = by;
  }
    where
      by : (i v : ℕ) → slice_get (w ∷ sources) i ≡ Some v → HasSource box (k + i) v
      by zero v at = let e : k ≡ k + 0 = omega arith in subst (λ (j : ℕ). HasSource box j v) e (subst (λ (u : ℕ). HasSource box k u) (same_Some w v at) here)
      by (suc i) v at = let e : (k + 1) + i ≡ k + suc i = omega arith in subst (λ (j : ℕ). HasSource box j v) e (lie.within i v at)

  lies_head : (k w : ℕ) (sources : List ℕ) → LieFrom box k (w ∷ sources) → HasSource box k w
  lies_head k w sources lie = let e : k + 0 ≡ k = omega arith in subst (λ (j : ℕ). HasSource box j w) e (lie.within 0 w refl)

  lies_less : (k w : ℕ) (sources : List ℕ) → LieFrom box k (w ∷ sources) → LieFrom box (k + 1) sources
  lies_less k w sources lie = record {
    one_each = omega (arith, lie.one_each);
    within = λ i v at. let e : k + suc i ≡ (k + 1) + i = omega arith in subst (λ (j : ℕ). HasSource box j v) e (lie.within (suc i) v at);
  }

  -- there are some
  module _ (is_box : IsBox box) (some : ¬ HasEmptyDomain box) where
    found_below : (k n : ℕ) → ((w : ℕ) × HasSource box k w) ⊎ ((w : ℕ) → w < n → ¬ HasSource box k w)
    found_below k zero = inr (λ w below h. absurd (omega (arith, below)))
    found_below k (suc n) = by (found_below k n) (has_source box k n)
      where
        by : ((w : ℕ) × HasSource box k w) ⊎ ((w : ℕ) → w < n → ¬ HasSource box k w) → HasSource box k n ⊎ ¬ HasSource box k n
            → ((w : ℕ) × HasSource box k w) ⊎ ((w : ℕ) → w < suc n → ¬ HasSource box k w)
        by (inl found) _ = inl found
        by (inr none) (inl here) = inl (n, here)
        by (inr none) (inr not_here) = inr (λ w below h. elim (cases_eq w n) [
          | inl is ↦ not_here (subst (λ (v : ℕ). HasSource box k v) is h)
          | inr other ↦ none w (omega arith) h
        ])

    pub picked : (k : ℕ) → k < length (byte_reads (box_events box)) → (w : ℕ) × HasSource box k w
    picked k within = by (found_below k (length (box_events box)))
      where
        by : ((w : ℕ) × HasSource box k w) ⊎ ((w : ℕ) → w < length (box_events box) → ¬ HasSource box k w) → (w : ℕ) × HasSource box k w
        by (inl found) = found
        by (inr none) =
            let read = get_or (byte_reads (box_events box)) k (0, 0) in
            let at : slice_get (byte_reads (box_events box)) k ≡ Some read = slice_get-get_or (byte_reads (box_events box)) k (0, 0) within in
            absurd (some (k, within, λ w h. none w (is_box.candidates k read.0 read.1 w at h).known h))

    pub some_from : (many k : ℕ) → k + many ≡ length (byte_reads (box_events box)) → (sources : List ℕ) × LieFrom box k sources
    some_from zero k all = ([], record { one_each = all; within = λ i w at. absurd (none-some w at) })
    some_from (suc many) k all =
        let here = picked k (omega arith) in
        let rest = some_from many (k + 1) (omega arith) in
        (here.0 ∷ rest.0, lies_more k here.0 rest.0 here.1 rest.1)

-- ---- on from a byte read
module _ (box : Box) (r : ℕ) where
  abbrev reads : List (ℕ × ℕ)
  reads = byte_reads (box_events box)

  pub CanFillOn-same : (k : ℕ) (one other : ℕ → Type 0) (value bytes new_value new_bytes : ℕ) → ((v : ℕ) → other v → one v) → new_value ≡ value
      → new_bytes ≡ bytes
      → CanFillOn box r k one value bytes → CanFillOn box r k other new_value new_bytes
  CanFillOn-same k one other value bytes new_value new_bytes within same_value same_bytes (sources, lie, f) = (
    sources,
    lie,
    subst (λ (n : ℕ). FillsBytes box r (reads_on (box_events box) k) other n new_bytes sources) (sym same_value)
        (subst (λ (n : ℕ). FillsBytes box r (reads_on (box_events box) k) other value n sources) (sym same_bytes)
        (FillsBytes-less box r (reads_on (box_events box) k) other one value bytes sources within f)),
  )

  module _ (k : ℕ) (whole : ℕ → Type 0) (value bytes : ℕ) where
    parts : k < length reads → CanFillOn box r k whole value bytes
        → (w : ℕ) × (rest : List ℕ) × LieFrom box k (w ∷ rest) × FillsBytes box r (reads_on (box_events box) k) whole value bytes (w ∷ rest)
    parts within ([], lie, f) = absurd (omega (arith, within, lie.one_each))
    parts within (w ∷ rest, lie, f) = (w, rest, lie, f)

    -- by a source of a byte of the read
    module _ (b : ℕ) (at : slice_get reads k ≡ Some (r, b)) where
      pub fill_with : (w : ℕ) → HasSource box k w → CanFillWith box r k b whole value bytes w → CanFillOn box r k whole value bytes
      fill_with w here (free, (rest, lie, f)) = (
        w ∷ rest,
        lies_more box k w rest here lie,
        subst (λ (ps : List (ℕ × ℕ)). FillsBytes box r ps whole value bytes (w ∷ rest)) (sym (drop_at reads k (r, b) at))
            (fills_with box r (r, b) (drop (k + 1) reads) whole value bytes w rest refl free f),
      )

      pub filled_with : CanFillOn box r k whole value bytes → (w : ℕ) × HasSource box k w × CanFillWith box r k b whole value bytes w
      filled_with can =
          let (w, rest, lie, f) = parts (slice_get_within reads k (r, b) at) can in
          let here : FillsBytes box r ((r, b) ∷ drop (k + 1) reads) whole value bytes (w ∷ rest) =
          subst (λ (ps : List (ℕ × ℕ)). FillsBytes box r ps whole value bytes (w ∷ rest)) (drop_at reads k (r, b) at) f in (
            w,
            lies_head box k w rest lie,
            (
              fills_with_free box r (r, b) (drop (k + 1) reads) whole value bytes w rest refl here,
              (rest, lies_less box k w rest lie, fills_with_back box r (r, b) (drop (k + 1) reads) whole value bytes w rest refl here),
            ),
          )

      -- Of two sources that store the same byte, one dominates the other if the read reads whole from no further event because of it: the
      -- other fills the read no better.
      pub filled_no_better : (w v : ℕ) → WouldNotTear (box_events box) r whole w → ((u : ℕ) → WholeWith (box_events box) r whole w u → whole u)
          → payload_at (event_at (box_events box) v) b ≡ payload_at (event_at (box_events box) w) b
          → CanFillWith box r k b whole value bytes v → CanFillWith box r k b whole value bytes w
      filled_no_better w v free within same (_, can) = (
        free,
        CanFillOn-same (k + 1) (WholeWith (box_events box) r whole v) (WholeWith (box_events box) r whole w)
            (value + 256 ^ bytes * payload_at (event_at (box_events box) v) b)
            (bytes + 1) (value + 256 ^ bytes * payload_at (event_at (box_events box) w) b) (bytes + 1) (λ u h. inl (within u h))
            (ap (λ (byte : ℕ). value + 256 ^ bytes * byte) (sym same)) refl can,
      )

    -- past a byte of another read
    module _ (q b : ℕ) (at : slice_get reads k ≡ Some (q, b)) (other : q ≢ r) where
      fill_past : (w : ℕ) → HasSource box k w → CanFillOn box r (k + 1) whole value bytes → CanFillOn box r k whole value bytes
      fill_past w here (rest, lie, f) = (
        w ∷ rest,
        lies_more box k w rest here lie,
        subst (λ (ps : List (ℕ × ℕ)). FillsBytes box r ps whole value bytes (w ∷ rest)) (sym (drop_at reads k (q, b) at))
            (fills_past box r (q, b) (drop (k + 1) reads) whole value bytes w rest other f),
      )

      filled_past : CanFillOn box r k whole value bytes → CanFillOn box r (k + 1) whole value bytes
      filled_past can =
          let (w, rest, lie, f) = parts (slice_get_within reads k (q, b) at) can in (
            rest,
            lies_less box k w rest lie,
            fills_past_back box r (q, b) (drop (k + 1) reads) whole value bytes w rest other
                (subst (λ (ps : List (ℕ × ℕ)). FillsBytes box r ps whole value bytes (w ∷ rest)) (drop_at reads k (q, b) at) f),
          )

  -- what is taken next
  module _ (k b w : ℕ) (taken next : Taken) (takes : TakesOn (box_events box) r k b w taken next) where
    pub next_filled : CanFillOn box r (k + 1) (HasEvent next.whole) next.value next.bytes
        → CanFillWith box r k b (HasEvent taken.whole) taken.value taken.bytes w
    next_filled can = (
      takes.free,
      CanFillOn-same (k + 1) (HasEvent next.whole) (WholeWith (box_events box) r (HasEvent taken.whole) w) next.value next.bytes
          (taken.value + 256 ^ taken.bytes * payload_at (event_at (box_events box) w) b) (taken.bytes + 1) (λ v. (takes.whole v).1) (sym takes.value)
          (sym takes.bytes) can,
    )

    pub next_filled_back : CanFillWith box r k b (HasEvent taken.whole) taken.value taken.bytes w
        → CanFillOn box r (k + 1) (HasEvent next.whole) next.value next.bytes
    next_filled_back (_, can) =
        CanFillOn-same (k + 1) (WholeWith (box_events box) r (HasEvent taken.whole) w) (HasEvent next.whole)
        (taken.value + 256 ^ taken.bytes * payload_at (event_at (box_events box) w) b) (taken.bytes + 1) next.value next.bytes
        (λ v. (takes.whole v).0) takes.value takes.bytes can

    -- it dominates the sources that store the same byte, if the read reads whole from no further event because of it
    pub dominated_in_vain : (at : slice_get reads k ≡ Some (r, b)) (v : ℕ) → ¬ CanFillOn box r (k + 1) (HasEvent next.whole) next.value next.bytes
        → ((u : ℕ) → HasEvent next.whole u → HasEvent taken.whole u) → payload_at (event_at (box_events box) v) b ≡ payload_at (event_at (box_events box) w) b
        → ¬ CanFillWith box r k b (HasEvent taken.whole) taken.value taken.bytes v
    dominated_in_vain at v in_vain within same can =
        in_vain (next_filled_back
        (filled_no_better k (HasEvent taken.whole) taken.value taken.bytes b at w v takes.free (λ u h. within u ((takes.whole u).1 h)) same can))

  module _ (is_box : IsBox box) (some : ¬ HasEmptyDomain box) where
    -- behind the last byte of the read its guards decide
    pub filled_at_end : (k : ℕ) (whole : ℕ → Type 0) (value bytes : ℕ) → k ≤ length reads → ((j b : ℕ) → k ≤ j → slice_get reads j ≢ Some (r, b))
        → CanFillOn box r k whole value bytes ↔ ¬ HasFalseGuardOn box.test box.combination (Some r) value
    filled_at_end k whole value bytes within none = (
      (λ can. fills_none_back box r (reads_on (box_events box) k) whole value bytes can.0 none_left can.2),
      (λ guards.
          let rest = some_from box is_box some (length reads - k) k (omega (arith, within)) in
          (rest.0, rest.1, fills_none box r (reads_on (box_events box) k) whole value bytes rest.0 none_left guards)),
    )
      where
        none_left : (i b : ℕ) → slice_get (reads_on (box_events box) k) i ≢ Some (r, b)
        none_left i b at = none (k + i) b (omega arith) (sym (slice_get-drop k i reads) ∙ at)

    -- from the first byte read on
    module _ (whole : ℕ → Type 0) (not_yet : (v : ℕ) → ¬ whole v) where
      same_value : (sources : List ℕ)
          → 0 + 256 ^ 0 * composed (bytes_taken (box_events box) (reads_on (box_events box) 0) sources r) ≡ value_of (box_events box) sources r
      same_value sources = grind arith

      filled_from_start : CanFill box r → CanFillOn box r 0 whole 0 0
      filled_from_start (sources, lie, filled) = (
        sources,
        record {
          one_each = omega (arith, lie.sourced.one_each);
          within = λ i w at. let e : i ≡ 0 + i = omega arith in subst (λ (j : ℕ). HasSource box j w) e (lie.within i w at);
        },
        record {
          tear_free = λ w v t h. elim h [ inl given ↦ absurd (not_yet v given) | inr u ↦ filled.tear_free w v (read_whole w t) (read_whole v u) ];
          guards = subst (λ (n : ℕ). ¬ HasFalseGuardOn box.test box.combination (Some r) n) (sym (same_value sources)) filled.guards;
        },
      )
        where
          read_whole : (w : ℕ) → TakesWhole (box_events box) reads sources r w → ReadsWholeBy (box_events box) (ReadsByteFrom (box_events box) sources) r w
          read_whole w t = record { reads = (t.byte, (t.place, t.is_read, t.takes)); can = t.can }

      fill_from_start : CanFillOn box r 0 whole 0 0 → CanFill box r
      fill_from_start (sources, lie, f) = (
        sources,
        record {
          sourced = record {
            one_each = omega (arith, lie.one_each);
            each = λ i q b w at source. is_box.candidates i q b w at (there i w source);
          };
          within = there;
        },
        record {
          tear_free = λ w v t u. f.tear_free w v (takes_whole w t) (inr (takes_whole v u));
          guards = subst (λ (n : ℕ). ¬ HasFalseGuardOn box.test box.combination (Some r) n) (same_value sources) f.guards;
        },
      )
        where
          there : (i w : ℕ) → slice_get sources i ≡ Some w → HasSource box i w
          there i w at = let e : 0 + i ≡ i = omega arith in subst (λ (j : ℕ). HasSource box j w) e (lie.within i w at)

          takes_whole : (w : ℕ) → ReadsWholeBy (box_events box) (ReadsByteFrom (box_events box) sources) r w → TakesWhole (box_events box) reads sources r w
          takes_whole w h = record { place = h.reads.1.0; byte = h.reads.0; is_read = h.reads.1.1; takes = h.reads.1.2; can = h.can }

      -- past the bytes of earlier reads
      to_place : (k : ℕ) → k ≤ length reads → ((j q b : ℕ) → j < k → slice_get reads j ≡ Some (q, b) → q ≢ r)
          → CanFillOn box r 0 whole 0 0 ↔ CanFillOn box r k whole 0 0
      to_place zero within others = (λ h. h, λ h. h)
      to_place (suc k) within others =
          let p : ℕ × ℕ = get_or reads k (0, 0) in
          let at : slice_get reads k ≡ Some p = slice_get-get_or reads k (0, 0) (omega arith) in
          let other : p.0 ≢ r = others k p.0 p.1 (omega arith) at in
          let before = to_place k (omega arith) (λ j q b below here. others j q b (omega arith) here) in
          let source = picked box is_box some k (omega arith) in
          let next : k + 1 ≡ suc k = omega arith in (
            (λ can. subst (λ (j : ℕ). CanFillOn box r j whole 0 0) next (filled_past k whole 0 0 p.0 p.1 at other (before.0 can))),
            (λ can. before.1 (fill_past k whole 0 0 p.0 p.1 at other source.0 source.1 (subst (λ (j : ℕ). CanFillOn box r j whole 0 0) (sym next) can))),
          )

      pub filled_from : (k : ℕ) → k ≤ length reads → ((j q b : ℕ) → j < k → slice_get reads j ≡ Some (q, b) → q < r)
          → CanFillOn box r k whole 0 0 ↔ CanFill box r
      filled_from k within before =
          let to = to_place k within (λ j q b below at same. omega (arith, before j q b below at, same)) in (
            (λ can. fill_from_start (to.1 can)),
            (λ can. to.0 (filled_from_start can)),
          )
