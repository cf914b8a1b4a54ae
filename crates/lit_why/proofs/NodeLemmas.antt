-- Descending the byte reads of a box: what tries the class by sources in its domains, and which sources remain to be tried.
use Rattle.std.proofs.Common.{◌≡◌, ◌↔◌, ◌⊎◌, inl, inr, ℕ, ◌+◌, ◌<◌, true, List, [], ◌∷◌, ◌++◌, Some, arith, get_or, length, refl, sym, ap}
use Rattle.std.proofs.Common.{subst, ◌∙◌}
use Rattle.std.specs.Prelude.{slice_get, slice_index}
use Rattle.std.specs.Cmp.Lexicographic.{slice_cmp}
use Rattle.std.specs.Ordering.{nat_cmp}
use Rattle.std.specs.declared.cmp.Ordering.TheVariants.{Less}
use Rattle.std.proofs.lemmas.Bool.{cases_eq, cases_order}
use Rattle.std.proofs.lemmas.Grind.{same_number_lists}
use Rattle.std.proofs.lemmas.Option.{same_Some, slice_get_within, slice_get-get_or}
use Rattle.lit_syntax.specs.Syntax.{Litmus}
use Rattle.lit_paths.specs.ByteReads.{byte_reads}
use Rattle.lit_paths.specs.Members.{AreSources}
use Rattle.lit_paths.specs.Event.{event_at, payload_at}
use Rattle.lit_paths.specs.Plan.{HasSources, IsOfCombination, events_in}
use Rattle.lit_rel.specs.declared.event_set.EventSet.{EventSet}
use Rattle.lit_rel.specs.EventSet.{HasEvent, IsSplit}
use Rattle.lit_rel.proofs.SetLemmas.{event_or_not}
use Rattle.lit_valid.specs.declared.class.Class.{Class}
use Rattle.lit_valid.specs.Laws.{Laws}
use Rattle.lit_solve.specs.Box.{Box, HasSource, LiesIn, box_events}
use Rattle.lit_solve.specs.Fill.{AreSourcesIn}
use Rattle.lit_solve.specs.Internal.Cut.{IsGreaterAt}
use Rattle.lit_solve.proofs.DomainLemmas.{domain_here, pruned_at, pruned_is_box, pruned_within, none_empty_at, source_here}
use Rattle.lit_solve.proofs.DomainLemmas.{source_other}
use Rattle.lit_solve.proofs.LexLemmas.{never_both_less}
use Rattle.lit_solve.proofs.RangeLemmas.{not_behind, sourced, sources_rise}
use Rattle.lit_why.specs.declared.attempt.Attempt.{Attempt}
use Rattle.lit_why.specs.Attempts.{HasSoMany, IsOn}
use Rattle.lit_why.specs.Internal.Added.{Adds}
use Rattle.lit_why.specs.Internal.Trials.{IsNode, IsUndecided, MayTry, TriesIn}
use Rattle.lit_why.proofs.AddedLemmas.{adds_more, adds_one}
use Rattle.lit_solve.proofs.RangeLemmas.{one_sources}

-- ---- choices on a combination
pub placed : Laws → (t : Litmus) (n c : ℕ) (sources : List ℕ) → IsOn t n c sources → IsOfCombination t n c
placed laws t n c sources on = laws.placed t n c on.known on.low on.high

pub on_sourced : Laws → (t : Litmus) (n c : ℕ) (sources : List ℕ) → IsOn t n c sources → AreSources (events_in t c) sources
on_sourced laws t n c sources on = sourced t c n sources (placed laws t n c sources on) on.has

-- the one whose sources are greater at a place, and the same before it, is greater
pub rises_at : Laws → (t : Litmus) (m n c : ℕ) (a b : List ℕ) → IsOn t m c a → IsOn t n c b → (place : ℕ) → place < length a
    → IsGreaterAt a place b
    → m < n
rises_at laws t m n c a b on_a on_b place inside greater =
    let le = not_behind t c m n a b (laws.chosen t) (placed laws t m c a on_a)
    (placed laws t n c b on_b) on_a.has on_b.has place greater in
    elim (cases_eq m n) [
      | inl same ↦
          let one : a ≡ b = one_sources t n a b (subst (λ (k : ℕ). HasSources t k a) same on_a.has) on_b.has in
          let at : slice_index a place < slice_index b place = greater.greater inside in
          absurd (omega (arith, at, ap (λ (ws : List ℕ). slice_index ws place) one))
      | inr other ↦ omega (arith, le, other)
    ]

-- those with the same sources are the same
pub one_choice : Laws → (t : Litmus) (m n c : ℕ) (a b : List ℕ) → IsOn t m c a → IsOn t n c b → a ≡ b → m ≡ n
one_choice laws t m n c a b on_a on_b same = elim (cases_order m n) [
  | inl is ↦ is
  | inr apart ↦ elim apart [
    | inl less ↦ absurd (never a (sources_rise t c m n a a (laws.chosen t) (placed laws t m c a on_a) (placed laws t n c b on_b) on_a.has
        (subst (λ (ws : List ℕ). HasSources t n ws) (sym same) on_b.has) less))
    | inr more ↦ absurd (never a (sources_rise t c n m a a (laws.chosen t) (placed laws t n c b on_b) (placed laws t m c a on_a)
        (subst (λ (ws : List ℕ). HasSources t n ws) (sym same) on_b.has) on_a.has more))
  ]
]
  where
    never : (ws : List ℕ) → slice_cmp nat_cmp ws ws ≡ Less → ⊥
    never ws less = never_both_less ws ws refl less less

-- ---- a domain of which some sources remain to be tried
-- choice n tries the class, with a source at the place that was tried before
pub record TriesPast (box : Box) (class : Class) (place : ℕ) (left : EventSet) (n : ℕ) : Type 0 where
  pub is : TriesIn box class n
  pub past : (w : ℕ) → slice_get is.sources place ≡ Some w → ¬ HasEvent left w

-- the remaining sources are of the domain, and greater than those that were tried before
pub record AreLeft (box : Box) (place : ℕ) (left : EventSet) : Type 0 where
  pub within : (w : ℕ) → HasEvent left w → HasSource box place w
  pub greater : (w v : ℕ) → HasSource box place w → ¬ HasEvent left w → HasEvent left v → w < v

module _ (laws : Laws) (box : Box) (class : Class) where
  -- a choice that tries the class has a source for each byte read, in its domain
  pub tries_at : (place n : ℕ) (is : TriesIn box class n) → place < length (byte_reads (box_events box))
      → slice_get is.sources place ≡ Some (get_or is.sources place 0)
  tries_at place n is inside =
      slice_get-get_or is.sources place 0 (omega (arith, inside, (on_sourced laws box.test n box.combination is.sources is.on).one_each))

  -- ---- a leaf: each byte read has one source
  module _ (node : IsNode box (length (byte_reads (box_events box)))) where
    pub decided : ¬ IsUndecided box
    decided some =
        let at = some.1 in
        let one = node.alone some.0 (slice_get_within (byte_reads (box_events box)) some.0 (at.read, at.byte) at.is_read) in
        let same : at.some ≡ at.other = one.1.alone at.some at.some_there ∙ sym (one.1.alone at.other at.other_there) in
        at.apart (ap (λ (w : ℕ). payload_at (event_at (box_events box) w) at.byte) same)

    sources_same : (a b : List ℕ) → AreSources (box_events box) a → AreSources (box_events box) b → LiesIn box a → LiesIn box b → a ≡ b
    sources_same a b are_a are_b in_a in_b = same_number_lists a b (are_a.one_each ∙ sym are_b.one_each) (λ k below.
        let here : k < length b = omega (arith, below, are_a.one_each, are_b.one_each) in
        let one = node.alone k (omega (arith, below, are_a.one_each)) in
        one.1.alone (get_or a k 0) (in_a k (get_or a k 0) (slice_get-get_or a k 0 below))
        ∙ sym (one.1.alone (get_or b k 0) (in_b k (get_or b k 0) (slice_get-get_or b k 0 here))))

    pub leaf_adds : (most : ℕ) (old : List Attempt) (sources : List ℕ) (a : Attempt) → length old < most → AreSourcesIn box sources
        → MayTry box class true → IsOn box.test a.choice box.combination sources → HasSoMany box.test a.choice a.choices
        → Adds box.test most (TriesIn box class) old (old ++ a ∷ [])
    leaf_adds most old sources a room lie can on many =
        adds_one box.test most (TriesIn box class) old a room is many (λ n other.
        one_choice laws box.test a.choice n box.combination sources other.sources on other.on
        (sources_same sources other.sources lie.sourced
        (on_sourced laws box.test n box.combination other.sources other.on) lie.within other.lies))
      where
        is : TriesIn box class a.choice
        is = record { sources = sources; on = on; lies = lie.within; is_try = can sources lie decided }

  -- ---- a domain of which some sources remain to be tried
  module _ (place : ℕ) (inside : place < length (byte_reads (box_events box))) where
    pub all_left : (left : EventSet) → ((w : ℕ) → HasEvent left w ↔ HasSource box place w) → AreLeft box place left
    all_left left same = record {
      within = λ w there. (same w).0 there;
      greater = λ w v there gone at. absurd (gone ((same w).1 there));
    }

    pub fewer_left : (left others : EventSet) (source : ℕ) → IsSplit left source others → AreLeft box place left
        → AreLeft box place others
    fewer_left left others source split are = record {
      within = λ w there. are.within w ((split.rest w).0 there).0;
      greater = λ w v there gone at. elim (event_or_not left w) [
        | inl yet ↦ elim (cases_order w v) [
          | inl same ↦ absurd (gone (subst (HasEvent others) (sym same) at))
          | inr apart ↦ elim apart [
            | inl less ↦ less
            | inr more ↦ absurd (gone ((split.rest w).1 (yet, λ same. split.least v (omega (arith, more, same)) ((split.rest v).0 at).0)))
          ]
        ]
        | inr not_yet ↦ are.greater w v there not_yet ((split.rest v).0 at).0
      ];
    }

    pub none_past : (left : EventSet) → ((w : ℕ) → HasEvent left w ↔ HasSource box place w) → (n : ℕ) → ¬ TriesPast box class place left n
    none_past left same n tries =
        let at = tries_at place n tries.is inside in
        tries.past _ at ((same _).1 (tries.is.lies place _ at))

    pub all_past : (left : EventSet) → ((w : ℕ) → ¬ HasEvent left w) → (n : ℕ) → TriesPast box class place left n ↔ TriesIn box class n
    all_past left none n = (λ tries. tries.is, λ is. record { is = is; past = λ w at. none w })

    -- ---- one source of it
    module _ (room : place < length box.domains) (left others one : EventSet) (source : ℕ) (split : IsSplit left source others)
        (are : AreLeft box place left) (only : (w : ℕ) → HasEvent one w ↔ (w ≡ source)) where
      abbrev next : Box
      next = pruned_at box place one

      one_within : (w : ℕ) → HasEvent one w → HasSource box place w
      one_within w there = subst (HasSource box place) (sym ((only w).0 there)) (are.within source split.there)

      in_next : (k w : ℕ) → HasSource next k w → HasSource box k w
      in_next = (pruned_within box place one room one_within).domains

      its_own : (w : ℕ) → HasSource next place w → w ≡ source
      its_own w there = (only w).0 (subst (λ (set : EventSet). HasEvent set w) (domain_here box place one room) there)

      pub next_node : IsNode box place → IsNode next (place + 1)
      next_node node = record {
        is_box = pruned_is_box box place one room one_within node.is_box;
        some = none_empty_at box place one room node.some (source, (only source).1 refl);
        within = omega (arith, inside);
        alone = λ k below. elim (cases_eq k place) [
          | inl same ↦ (
            source,
            record {
              there = subst (λ (j : ℕ). HasSource next j source) (sym same)
                  (source_here box place one room source ((only source).1 refl));
              alone = λ v there. its_own v (subst (λ (j : ℕ). HasSource next j v) same there);
            },
          )
          | inr other ↦ let was = node.alone k (omega (arith, below, other)) in (
            was.0,
            record {
              there = source_other box place one room k was.0 other was.1.there;
              alone = λ v there. was.1.alone v (in_next k v there);
            },
          )
        ];
      }

      abbrev next_is : (n : ℕ) → TriesIn next class n → TriesIn box class n
      next_is n is = record { sources = is.sources; on = is.on; lies = λ k w at. in_next k w (is.lies k w at); is_try = is.is_try }

      next_at : (n : ℕ) (is : TriesIn next class n) (w : ℕ) → slice_get is.sources place ≡ Some w → w ≡ source
      next_at n is w at = its_own w (is.lies place w at)

      -- the choices that were tried before, once the source is tried too
      pub past_more : (n : ℕ) → TriesPast box class place others n ↔ (TriesPast box class place left n ⊎ TriesIn next class n)
      past_more n = (
        λ tries.
            let at = tries_at place n tries.is inside in
            elim (event_or_not left (get_or tries.is.sources place 0)) [
              | inl yet ↦ inr (here tries at yet)
              | inr gone ↦ inl (record {
                is = tries.is;
                past = λ w at_w there. gone (subst (HasEvent left) (same_Some w (get_or tries.is.sources place 0) (sym at_w ∙ at)) there);
              })
            ],
        λ either. elim either [
          | inl past ↦ record { is = past.is; past = λ w at there. past.past w at ((split.rest w).0 there).0 }
          | inr is ↦ record { is = next_is n is; past = λ w at there. ((split.rest w).0 there).1 (next_at n is w at) }
        ],
      )
        where
          here : (tries : TriesPast box class place others n) → slice_get tries.is.sources place ≡ Some (get_or tries.is.sources place 0)
              → HasEvent left (get_or tries.is.sources place 0) → TriesIn next class n
          here tries at yet = record {
            sources = tries.is.sources;
            on = tries.is.on;
            lies = λ k w at_w. elim (cases_eq k place) [
              | inl same ↦
                  let at_place : slice_get tries.is.sources place
                  ≡ Some w = subst (λ (j : ℕ). slice_get tries.is.sources j ≡ Some w) same at_w in
                  let yet_w : HasEvent left w = subst (HasEvent left)
                  (same_Some (get_or tries.is.sources place 0) w (sym at ∙ at_place)) yet in
                  let is : w ≡ source = elim (cases_eq w source) [
                    | inl is ↦ is
                    | inr other ↦ absurd (tries.past w at_place ((split.rest w).1 (yet_w, other)))
                  ] in
                  subst (λ (j : ℕ). HasSource next j w) (sym same) (source_here box place one room w ((only w).1 is))
              | inr other ↦ source_other box place one room k w other (tries.is.lies k w at_w)
            ];
            is_try = tries.is.is_try;
          }

      -- what was tried before is less
      pub past_less : IsNode box place → (m n : ℕ) → TriesPast box class place left m → TriesIn next class n → m < n
      past_less node m n past is =
          let a = past.is.sources in
          let b = is.sources in
          let are_a = on_sourced laws box.test m box.combination a past.is.on in
          let are_b = on_sourced laws box.test n box.combination b is.on in
          let at_a = tries_at place m past.is inside in
          let at_b : slice_get b place ≡ Some (get_or b place 0) = slice_get-get_or b place 0 (omega (arith, inside, are_b.one_each)) in
          let less : get_or a place 0 < source = are.greater _ source (past.is.lies place _ at_a) (past.past _ at_a) split.there in
          rises_at laws box.test m n box.combination a b past.is.on is.on place (omega (arith, inside, are_a.one_each)) (record {
            same = λ k below.
                let one_there = node.alone k below in
                let k_a : k < length a = omega (arith, below, inside, are_a.one_each) in
                let k_b : k < length b = omega (arith, below, inside, are_b.one_each) in
                one_there.1.alone (get_or b k 0) (in_next k _ (is.lies k (get_or b k 0) (slice_get-get_or b k 0 k_b)))
                ∙ sym (one_there.1.alone (get_or a k 0) (past.is.lies k (get_or a k 0) (slice_get-get_or a k 0 k_a)));
            greater = λ _. omega (arith, less, next_at n is _ at_b);
          })

      pub adds_past : (most : ℕ) (old mid new : List Attempt) → IsNode box place
          → Adds box.test most (TriesPast box class place left) old mid
          → Adds box.test most (TriesIn next class) mid new → Adds box.test most (TriesPast box class place others) old new
      adds_past most old mid new node before behind =
          adds_more box.test most (TriesPast box class place left) (TriesIn next class)
          (TriesPast box class place others) old mid new before behind (past_less node) past_more
