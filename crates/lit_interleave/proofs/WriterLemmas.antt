-- The last writer of each byte that is read, in the order of turns, and the block's bytes in the course of the turns.
use Rattle.lit_interleave.proofs.Words.{◌&&◌, ◌+◌, ◌++◌, ◌-◌, ◌<◌, ◌==◌, [], and_from, and_parts, ap, append_assoc, AreOfEvents}
use Rattle.lit_interleave.proofs.Words.{AreSources, arith, Bool, byte_reads, cases_lt, composed, does_read, does_write, drop, eq-eqb}
use Rattle.lit_interleave.proofs.Words.{Event, event_at, false, false≢true, filter, get_or-append_right, get_or-drop}
use Rattle.lit_interleave.proofs.Words.{get_or-map-range_with_len, get_or-replicate, get_or-take, get_or_append_left, get_or_default}
use Rattle.lit_interleave.proofs.Words.{HasByte, if◌then◌else◌, inl, inr, IsCandidate, IsLastWrite, IsSequential, IsTrue, le-leb, leb-true}
use Rattle.lit_interleave.proofs.Words.{length, length-drop, length-map, length-map-range_with_len, length-paste, length-replicate}
use Rattle.lit_interleave.proofs.Words.{length-take, length-take-le, List, lt-leb, lt-ltb, ltb-true, map, maps, nat_le, nat_lt, nat_tests}
use Rattle.lit_interleave.proofs.Words.{no_event, None, none-some, only_its, payload_at, range_with_len, refl, replicate, same_lists}
use Rattle.lit_interleave.proofs.Words.{same_Some, slice_get, slice_get-drop, slice_get-get_or, slice_get-map-found, slice_get_within}
use Rattle.lit_interleave.proofs.Words.{slice_index, Some, StandsBefore, subst, suc, sym, take, take_from, true, value_of, zero, zip, ℕ}
use Rattle.lit_interleave.proofs.Words.{◌∙◌, ◌∷◌, ◌≡◌, ◌≢◌, ◌≤◌, ◌⊎◌}
use Rattle.lit_interleave.proofs.SequentialLemmas.{not_itself}
use Rattle.lit_interleave.proofs.TimeLemmas.{IsTimeline, act_earlier, act_place, complete, event_of, init_earlier, respects_agents, respects_making, order_in_turn, place_of, IsAct}
use Rattle.lit_interleave.proofs.ActLemmas.{after_event, found_at}

-- ---- writes of a byte
abbrev pub writes_byte : ℕ → Event → Bool
writes_byte b e = does_write e.kind && (nat_le e.first b && nat_lt b (e.first + e.size))

pub writes_from : (b : ℕ) (e : Event) → IsTrue (does_write e.kind) → HasByte e b → writes_byte b e ≡ true
writes_from b e writes has =
    and_from (does_write e.kind) (nat_le e.first b && nat_lt b (e.first + e.size)) writes (and_from (nat_le e.first b) (nat_lt b (e.first + e.size)) (le-leb e.first b has.0) (lt-ltb b (e.first + e.size) has.1))

pub writes_parts : (b : ℕ) (e : Event) → writes_byte b e ≡ true → IsTrue (does_write e.kind) × HasByte e b
writes_parts b e is =
    let first = and_parts (does_write e.kind) (nat_le e.first b && nat_lt b (e.first + e.size)) is in
    let second = and_parts (nat_le e.first b) (nat_lt b (e.first + e.size)) first.1 in
    (first.0, (leb-true e.first b second.0, ltb-true b (e.first + e.size) second.1))

-- ---- lists cut short
pub in_front : {X : Type 0} (xs : List X) (k j : ℕ) (x : X) → slice_get (take k xs) j ≡ Some x → (j < k) × (slice_get xs j ≡ Some x)
in_front xs k j x at = (omega (arith, slice_get_within (take k xs) j x at, length-take k xs), take_from k xs j x at)

pub front_has : {X : Type 0} (xs : List X) (k j : ℕ) (x : X) → j < k → slice_get xs j ≡ Some x → slice_get (take k xs) j ≡ Some x
front_has xs zero j x lt at = absurd (omega (arith, lt))
front_has {X} [] (suc k) j x lt at = let no : None ≡ Some x = at in absurd (none-some x no)
front_has (y ∷ xs) (suc k) zero x lt at = at
front_has (y ∷ xs) (suc k) (suc j) x lt at = front_has xs k j x (omega (arith, lt)) at

module _ (number : Event → ℕ) where
  -- the number of what wrote the byte last, where it was this before
  abbrev pub written : ℕ → ℕ → List Event → ℕ
  written b w [] = w
  written b w (e ∷ es) = written b (if writes_byte b e then number e else w) es

  -- none of these writes the byte
  abbrev pub IsNoWrite : ℕ → List Event → Type 0
  IsNoWrite b es = (l : ℕ) (d : Event) → slice_get es l ≡ Some d → writes_byte b d ≡ false

  -- the last one that does has this number
  pub record IsLastOf (b : ℕ) (es : List Event) (w : ℕ) : Type 0 where
    pub place : ℕ
    pub event : Event
    pub there : slice_get es place ≡ Some event
    pub writes : writes_byte b event ≡ true
    pub numbered : number event ≡ w
    pub later : IsNoWrite b (drop (suc place) es)

  none_behind : (b : ℕ) (e : Event) (es : List Event) → writes_byte b e ≡ false → IsNoWrite b es → IsNoWrite b (e ∷ es)
  none_behind b e es is none zero d at = let same : e ≡ d = cc in ap (writes_byte b) (sym same) ∙ is
  none_behind b e es is none (suc l) d at = none l d at

  last_behind : (b : ℕ) (e : Event) (es : List Event) (w : ℕ) → IsLastOf b es w → IsLastOf b (e ∷ es) w
  last_behind b e es w last = record {
    place = suc last.place;
    event = last.event;
    there = last.there;
    writes = last.writes;
    numbered = last.numbered;
    later = last.later;
  }

  pub last_written : (b w : ℕ) (es : List Event) → ((written b w es ≡ w) × IsNoWrite b es) ⊎ IsLastOf b es (written b w es)
  last_written b w [] = inl (refl, λ l d at. let no : None ≡ Some d = at in absurd (none-some d no))
  last_written b w (e ∷ es) =
      (elim (writes_byte b e) as (λ t. writes_byte b e ≡ t → ((written b (if t then number e else w) es ≡ w) × IsNoWrite b (e ∷ es))
      ⊎ IsLastOf b (e ∷ es) (written b (if t then number e else w) es)) [
        | true ↦ λ is. inr (elim (last_written b (number e) es) [
          | inl none ↦ record { place = 0; event = e; there = refl; writes = is; numbered = sym none.0; later = none.1 }
          | inr last ↦ last_behind b e es (written b (number e) es) last
        ])
        | false ↦ λ is. elim (last_written b w es) [
          | inl none ↦ inl (none.0, none_behind b e es is none.1)
          | inr last ↦ inr (last_behind b e es (written b w es) last)
        ]
      ]) refl

  -- those before the one with a number
  abbrev pub acts_before : ℕ → List Event → List Event
  acts_before r [] = []
  acts_before r (e ∷ es) = if number e == r then [] else e ∷ acts_before r es

  pub before_is : (es : List Event) (k : ℕ) (e : Event) → slice_get es k ≡ Some e → ((j : ℕ) (d : Event) → j < k → slice_get es j ≡ Some d → number d ≢ number e) → acts_before (number e) es ≡ take k es
  before_is [] k e at other = let no : None ≡ Some e = at in absurd (none-some e no)
  before_is (x ∷ es) zero e at other =
      let same : x ≡ e = cc in
      rw (eq-eqb (number x) (number e) (ap number same)) refl
  before_is (x ∷ es) (suc k) e at other =
      let h : number x ≢ number e = other 0 x (omega arith) refl in
      let no : (number x == number e) ≡ false = grind (arith, nat_tests) in
      rw no (ap (λ (ds : List Event). x ∷ ds) (before_is es k e at (λ j d lt there. other (suc j) d (omega (arith, lt)) there)))

  -- the last writer of a byte before a read, and so of each byte read
  abbrev pub source_of : List Event → ℕ × ℕ → ℕ
  source_of acts q = written q.1 q.1 (acts_before q.0 acts)

module _ (bytes : ℕ) (events acts : List Event) (number : Event → ℕ) (is : IsTimeline bytes events acts number) where
  abbrev pub sources_in_turn : List ℕ
  sources_in_turn = map (source_of number acts) (byte_reads events)

  pub source_at : (k : ℕ) (e : Event) (b : ℕ) → slice_get acts k ≡ Some e → source_of number acts (number e, b) ≡ written number b b (take k acts)
  source_at k e b at =
      ap (written number b b) (before_is number acts k e at (λ j d lt there same. absurd (omega (arith, lt, is.once j k d e there at same))))

module _ (bytes : ℕ) (events acts : List Event) (number : Event → ℕ) (is : IsTimeline bytes events acts number) (of : AreOfEvents events) where
  abbrev order : List ℕ
  order = order_in_turn bytes acts number

  abbrev sources : List ℕ
  sources = sources_in_turn bytes events acts number is

  -- a byte read is of an act
  record IsReadAt (r b w : ℕ) : Type 0 where
    turn : ℕ
    act : Event
    there : slice_get acts turn ≡ Some act
    numbered : number act ≡ r
    written_by : w ≡ written number b b (take turn acts)
    in_block : b < bytes

  read_at : (i r b w : ℕ) → slice_get (byte_reads events) i ≡ Some (r, b) → slice_get sources i ≡ Some w → IsReadAt r b w
  read_at i r b w at sourced = elim (event_of bytes events acts number is r (of.known i r b at)) [
    | inl init ↦ cc (of.reads i r b at, ap (λ (x : Event). does_read x.kind) init.1)
    | inr a ↦ record {
      turn = a.0;
      act = a.1;
      there = a.2;
      numbered = a.3;
      written_by =
          same_Some w (source_of number acts (r, b)) (sym sourced
          ∙ slice_get-map-found (source_of number acts) (byte_reads events) i (r, b) at)
          ∙ ap (λ (n : ℕ). source_of number acts (n, b)) (sym a.3) ∙ source_at bytes events acts number is a.0 a.1 b a.2;
      in_block = omega (arith, (of.in_range i r b at).1, (is.each a.0 a.1 a.2).access.in_block, ap (λ (x : Event). x.first + x.size) a.4);
    }
  ]

  -- what wrote it last, and what may have
  record IsWritten (r b w : ℕ) : Type 0 where
    candidate : IsCandidate events r b w
    last : IsLastWrite events order r b w

  -- what writes the byte, and stands before a turn
  write_before : (k b v p : ℕ) → IsTrue (does_write (event_at events v).kind) → HasByte (event_at events v) b → p < bytes + k
      → slice_get order p ≡ Some v
      → ((p ≡ b) × (v ≡ b)) ⊎ ((l : ℕ) × (d : Event) × (p ≡ bytes + l) × (slice_get (take k acts) l ≡ Some d) × (writes_byte b d ≡ true))
  write_before k b v p writes has lt at = elim (place_of bytes events acts number is p v at) [
    | inl init ↦
        let made = is.made v (omega arith) in
        let same : v ≡ b = omega (arith, has.0, has.1, ap (λ (x : Event). x.first) made, ap (λ (x : Event). x.size) made) in
        inl (omega (arith, same), same)
    | inr act ↦
        let event : event_at events v ≡ act.act = ap (event_at events) (sym act.numbered) ∙ (is.each act.turn act.act act.there).is in
        inr (
          act.turn,
          act.act,
          act.at,
          front_has acts k act.turn act.act (omega (arith, act.at)) act.there,
          writes_from b act.act
              (subst (λ (x : Event). IsTrue (does_write x.kind)) event writes) (subst (λ (x : Event). HasByte x b) event has),
        )
  ]

  written_last : (r b w : ℕ) → IsReadAt r b w → IsWritten r b w
  written_last r b w read =
      let k = read.turn in
      let whole = complete bytes events acts number is in
      let r_place : slice_get order (bytes + k) ≡ Some r = act_place bytes events acts number is k read.act read.there
      ∙ ap Some read.numbered in
      let r_behind : bytes ≤ r = omega (arith, (is.each k read.act read.there).behind, read.numbered) in
      elim (last_written number b b (take k acts)) [
        | inl none ↦ subst (IsWritten r b) (sym (read.written_by ∙ none.0)) (record {
          candidate = record {
            known = omega (arith, read.in_block, is.whole);
            writes = ap (λ (x : Event). does_write x.kind) (is.made b read.in_block);
            in_range = subst (λ (x : Event). HasByte x b) (sym (is.made b read.in_block)) (omega arith, omega arith);
            other = λ e. absurd (omega (arith, e, read.in_block));
          };
          last = record {
            earlier = subst (StandsBefore order b) read.numbered
                (init_earlier bytes events acts number is b k read.act read.in_block read.there);
            last = λ v writes has after before.
                elim (write_before k b v before.first writes has
                (omega (arith, before.earlier, whole.once before.second (bytes + k) r before.second_is r_place)) before.first_is) [
                  | inl init ↦ not_itself (length events) order whole b (subst (StandsBefore order b) init.1 after)
                  | inr act ↦ false≢true (sym (none.1 act.0 act.1 act.3) ∙ act.4)
                ];
          };
        })
        | inr last ↦
            let at = in_front acts k last.place last.event last.there in
            let event = (is.each last.place last.event at.1).is in
            let parts = writes_parts b last.event last.writes in
            subst (IsWritten r b) (last.numbered ∙ sym read.written_by) (record {
              candidate = record {
                known = (is.each last.place last.event at.1).known;
                writes = subst (λ (x : Event). IsTrue (does_write x.kind)) (sym event) parts.0;
                in_range = subst (λ (x : Event). HasByte x b) (sym event) parts.1;
                other = λ e. absurd (omega (arith, at.0, is.once last.place k last.event read.act at.1 read.there (e ∙ sym read.numbered)));
              };
              last = record {
                earlier = subst (StandsBefore order (number last.event)) read.numbered
                    (act_earlier bytes events acts number is last.place k last.event read.act at.1 read.there at.0);
                last = λ v writes has after before.
                    let first = whole.once after.first (bytes + last.place) (number last.event) after.first_is
                    (act_place bytes events acts number is last.place last.event at.1) in
                    let middle = whole.once after.second before.first v after.second_is before.first_is in
                    elim (write_before k b v before.first writes has
                    (omega (arith, before.earlier, whole.once before.second (bytes + k) r before.second_is r_place)) before.first_is) [
                      | inl init ↦ omega (arith, first, middle, after.earlier, init.0, read.in_block)
                      | inr act ↦
                          let past : suc last.place + (act.0 - suc last.place)
                          ≡ act.0 = omega (arith, first, middle, after.earlier, act.2) in
                          false≢true (sym (last.later (act.0 - suc last.place) act.1
                          (slice_get-drop (suc last.place) (act.0 - suc last.place) (take k acts) ∙ ap (slice_get (take k acts)) past
                          ∙ act.3)) ∙ act.4)
                    ];
              };
            })
      ]

  pub are_sources : AreSources events sources
  are_sources = record {
    one_each = length-map (byte_reads events) (source_of number acts);
    each = λ i r b w at sourced. (written_last r b w (read_at i r b w at sourced)).candidate;
  }

  pub sequential : IsSequential events sources order
  sequential = record {
    complete = complete bytes events acts number is;
    agents = respects_agents bytes events acts number is;
    makes = respects_making bytes events acts number is;
    reads = λ r b w reads. (written_last r b w (read_at reads.0 r b w reads.1 reads.2)).last;
  }

-- ---- the block in the course of the turns: a read finds what its sources store
-- ---- the block after an event
patched : (block payload : List ℕ) (first size b : ℕ) → first + size ≤ length block → size ≤ length payload
    → slice_index (take first block ++ (take size payload ++ drop (first + size) block)) b ≡ (if nat_le first b && nat_lt b (first + size) then slice_index payload (b - first) else slice_index block b)
patched block payload first size b inside stored =
    let rest : List ℕ = take size payload ++ drop (first + size) block in
    let before : length (take first block) ≡ first = length-take-le first block (omega arith) in
    let there = length-take-le size payload stored in
    elim (cases_lt b first) [
      | inl early ↦ rw (lt-leb first b early) (get_or_append_left (take first block) rest 0 b (omega (arith, before))
          ∙ get_or-take first block b 0 early)
      | inr le ↦ elim (cases_lt b (first + size)) [
        | inl lt ↦ rw (le-leb first b le, lt-ltb b (first + size) lt) (get_or-append_right (take first block) rest first b 0 before le
            ∙ get_or_append_left (take size payload) (drop (first + size) block) 0 (b - first) (omega (arith, there))
            ∙ get_or-take size payload (b - first) 0 (omega arith))
        | inr past ↦ rw (le-leb first b le, lt-leb (suc b) (first + size) (omega arith))
            (get_or-append_right (take first block) rest first b 0 before le
            ∙ get_or-append_right (take size payload) (drop (first + size) block) size (b - first) 0 there (omega arith)
            ∙ get_or-drop (first + size) block ((b - first) - size) 0
            ∙ ap (slice_index block) (let e : (first + size) + ((b - first) - size) ≡ b = omega arith in e))
      ]
    ]

byte_after : (e : Event) (block : List ℕ) (b : ℕ) → e.first + e.size ≤ length block → e.size ≤ length e.payload
    → slice_index (after_event e block) b ≡ (if writes_byte b e then payload_at e b else slice_index block b)
byte_after e block b inside stored =
    elim (does_write e.kind) as (λ t. slice_index (if t then take e.first block ++
    (take e.size e.payload ++ drop (e.first + e.size) block) else block) b
    ≡ (if t && (nat_le e.first b && nat_lt b (e.first + e.size)) then payload_at e b else slice_index block b)) [
      | true ↦ patched block e.payload e.first e.size b inside stored
      | false ↦ refl
    ]

length_after : (e : Event) (block : List ℕ) → e.first + e.size ≤ length block → e.size ≤ length e.payload → length (after_event e block) ≡ length block
length_after e block inside stored =
    elim (does_write e.kind) as (λ t. length (if t then take e.first block ++
    (take e.size e.payload ++ drop (e.first + e.size) block) else block) ≡ length block) [
      | true ↦ rw (← append_assoc) (length-paste block e.first e.payload e.size inside stored)
      | false ↦ refl
    ]

-- after events, one after the other
abbrev pub block_after : List ℕ → List Event → List ℕ
block_after block [] = block
block_after block (e ∷ es) = block_after (after_event e block) es

-- ---- the bytes that a read takes
filter_zip : (g : (ℕ × ℕ) × ℕ → ℕ) (f : ℕ × ℕ → ℕ) (r : ℕ) (rs : List (ℕ × ℕ))
    → map g (filter {X = (ℕ × ℕ) × ℕ} (λ p. p.0.0 == r) (zip rs (map f rs))) ≡ map (λ (q : ℕ × ℕ). g (q, f q)) (filter {X = ℕ × ℕ} (λ q. q.0 == r) rs)
filter_zip g f r [] = refl
filter_zip g f r (q ∷ rs) =
    elim (q.0 == r) as (λ t. map g (if t then (q, f q) ∷ filter {X = (ℕ × ℕ) × ℕ} (λ p. p.0.0 == r) (zip rs (map f rs))
    else filter {X = (ℕ × ℕ) × ℕ} (λ p. p.0.0 == r) (zip rs (map f rs)))
    ≡ map (λ (q : ℕ × ℕ). g (q, f q)) (if t then q ∷ filter {X = ℕ × ℕ} (λ q. q.0 == r) rs else filter {X = ℕ × ℕ} (λ q. q.0 == r) rs)) [
      | true ↦ ap (λ (xs : List ℕ). g (q, f q) ∷ xs) (filter_zip g f r rs)
      | false ↦ filter_zip g f r rs
    ]

-- ---- bytes from one on
bytes_from : (block : List ℕ) (first size : ℕ) (h : ℕ → ℕ) → first + size ≤ length block → ((k : ℕ) → k < size → slice_index block (first + k) ≡ h k)
    → take size (drop first block) ≡ map h (range_with_len 0 size)
bytes_from block first size h inside are =
    let rest : length (drop first block) ≡ length block - first = length-drop first block in
    let long : length (take size (drop first block)) ≡ size = length-take-le size (drop first block) (omega (arith, inside, rest)) in
    same_lists (take size (drop first block)) (map h (range_with_len 0 size)) (long ∙ sym (length-map-range_with_len h 0 size)) (λ k d lt.
    let few : k < size = omega (arith, lt, long) in
    get_or-take size (drop first block) k d few ∙ get_or-drop first block k d
    ∙ get_or_default block (first + k) d 0 (omega (arith, inside, few)) ∙ are k few
    ∙ sym (get_or-map-range_with_len h 0 size k k d few (let e : 0 + k ≡ k = omega arith in e)))

module _ (bytes : ℕ) (events acts : List Event) (number : Event → ℕ) (is : IsTimeline bytes events acts number) where
  -- ---- the block's bytes
  -- each byte of the block is what its writer stores there
  pub record IsWrittenBy (block : List ℕ) (writer : ℕ → ℕ) : Type 0 where
    pub long : length block ≡ bytes
    pub stored : (b : ℕ) → b < bytes → slice_index block b ≡ payload_at (event_at events (writer b)) b

  written_after : (es : List Event) (block : List ℕ) (writer : ℕ → ℕ) → ((k : ℕ) (e : Event) → slice_get es k ≡ Some e → IsAct bytes events (number e) e) → IsWrittenBy block writer
      → IsWrittenBy (block_after block es) (λ b. written number b (writer b) es)
  written_after [] block writer acted is_written = is_written
  written_after (e ∷ es) block writer acted is_written = written_after es (after_event e block) (λ b. if writes_byte b e then number e else writer b) (λ k d at. acted (suc k) d at) (record {
    long = length_after e block inside first.access.stored ∙ is_written.long;
    stored = λ b lt. byte_after e block b inside first.access.stored
        ∙ elim (writes_byte b e) as (λ t. (if t then payload_at e b else slice_index block b)
        ≡ payload_at (event_at events (if t then number e else writer b)) b) [
          | true ↦ ap (λ (x : Event). payload_at x b) (sym first.is)
          | false ↦ is_written.stored b lt
        ];
  })
    where
      first : IsAct bytes events (number e) e
      first = acted 0 e refl

      inside : e.first + e.size ≤ length block
      inside = omega (arith, first.access.in_block, is_written.long)

  abbrev pub block_before : ℕ → List ℕ
  block_before k = block_after (replicate bytes 0) (take k acts)

  pub written_before : (k : ℕ) → IsWrittenBy (block_before k) (λ b. written number b b (take k acts))
  written_before k = written_after (take k acts) (replicate bytes 0) (λ b. b) (λ j e at. let there = in_front acts k j e at in is.each j e there.1) (record {
    long = length-replicate bytes 0;
    stored = λ b lt.
        get_or-replicate bytes b 0 0 lt ∙ ap (slice_index (0 ∷ 0 ∷ 0 ∷ 0 ∷ [])) (let e : 0 ≡ b - b = omega arith in e)
        ∙ ap (λ (x : Event). payload_at x b) (sym (is.made b lt));
  })

  -- ---- what a read finds
  pub value_found : (k : ℕ) (e : Event) → slice_get acts k ≡ Some e → does_read e.kind ≡ true
      → value_of events (sources_in_turn bytes events acts number is) (number e) ≡ found_at e (block_before k)
  value_found k e at reads =
      let act = is.each k e at in
      let is_written = written_before k in
      let r = number e in
      let f = source_of number acts in
      let g : (ℕ × ℕ) × ℕ → ℕ = λ p. payload_at (event_at events p.1) p.0.1 in
      let there : slice_get events r ≡ Some e = slice_get-get_or events r no_event act.known ∙ ap Some act.is in
      ap composed (filter_zip g f r (byte_reads events) ∙ ap (map (λ (q : ℕ × ℕ). g (q, f q))) (only_its r 0 r events e (omega arith) there)
      ∙ ap (λ (t : Bool). map (λ (q : ℕ × ℕ). g (q, f q)) (if t then map (λ k. (r, e.first + k)) (range_with_len 0 e.size) else [])) reads
      ∙ maps (λ (k : ℕ). (r, e.first + k)) (λ (q : ℕ × ℕ). g (q, f q)) (range_with_len 0 e.size)
      ∙ sym (bytes_from (block_before k) e.first e.size (λ j. g ((r, e.first + j), f (r, e.first + j)))
      (omega (arith, act.access.in_block, is_written.long)) (λ j lt.
      is_written.stored (e.first + j) (omega (arith, act.access.in_block, lt))
      ∙ ap (λ (w : ℕ). payload_at (event_at events w) (e.first + j)) (sym (source_at bytes events acts number is k e (e.first + j) at)))))
