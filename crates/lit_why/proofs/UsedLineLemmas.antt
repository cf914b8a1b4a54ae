-- Marks of the used lines of a derivation, and the moves of these lines to new places.
use Rattle.std.proofs.Common.{◌≡◌, ◌⊎◌, ◌↔◌, ℕ, ◌+◌, ◌-◌, ◌<◌, Bool, true, suc, zero, List, [], ◌∷◌, ◌++◌, length, Some, get_or, set, refl, sym, ap, ◌∙◌, subst, arith, inl, inr}
use Rattle.std.specs.Prelude.{slice_index}
use Rattle.std.specs.List.{slice_get}
use Rattle.std.proofs.Math.Seq.{get_or-append_seam}
use Rattle.std.proofs.lemmas.Bool.{cases_eq, cases_order}
use Rattle.std.proofs.lemmas.List.{get_or_append_left, length-append}
use Rattle.std.proofs.lemmas.Option.{same_Some, slice_get-get_or, slice_get_within}
use Rattle.lit_why.specs.declared.derivations.lines.DerivationLine.{DerivationLine}
use Rattle.lit_why.specs.declared.derivations.lines.Reason.{Reason}
use Rattle.lit_why.specs.declared.derivations.lines.Reason.TheVariants as reasons
use Rattle.lit_why.specs.Derivation.{AreOnce, Cites, EachFollows, EndsInCycle, Follows, IsDerivationBy, IsLineOf}
use Rattle.lit_why.specs.Internal.UsedLines.{AreMoved, CiteEarlier, IsMarked, AreUsedLines, moved_line, moved_reason}
use Rattle.lit_why.proofs.DerivationLemmas.{pushed_same, pushed_last}

pub marked_set : (marks : List Bool) (i k : ℕ) → i < length marks → IsMarked (set marks i true) k ↔ (IsMarked marks k ⊎ (i ≡ k))
marked_set [] i k inside = absurd (omega arith)
marked_set (mark ∷ marks) zero zero inside = ((λ h. inr refl), (λ h. refl))
marked_set (mark ∷ marks) zero (suc k) inside = ((λ h. inl h), (λ h. elim h [ inl old ↦ old | inr apart ↦ absurd (omega arith) ]))
marked_set (mark ∷ marks) (suc i) zero inside = ((λ h. inl h), (λ h. elim h [ inl old ↦ old | inr apart ↦ absurd (omega arith) ]))
marked_set (mark ∷ marks) (suc i) (suc k) inside =
    let rest = marked_set marks i k (omega arith) in (
      (λ h. elim (rest.0 h) [ inl old ↦ inl old | inr same ↦ inr (ap suc same) ]),
      (λ h. rest.1 (elim h [ inl old ↦ inl old | inr same ↦ inr (omega arith) ])),
    )

-- ---- one line more, used or not
module _ (lines : List DerivationLine) (marks : List Bool) (i : ℕ) (places : List ℕ) (used : List DerivationLine) (was : AreMoved lines marks i places used) (earlier : CiteEarlier lines)
    (more : List ℕ) (is : more ≡ places ++ length used ∷ []) where
  stable : (j : ℕ) → j < i → slice_index more j ≡ slice_index places j
  stable j less = let len = was.len in rw is (get_or_append_left places (length used ∷ []) 0 j (omega arith))

  here : slice_index more i ≡ length used
  here = rw (is, ← was.len) (get_or-append_seam places (length used) [] 0)

  moved_stable : (reason : Reason) → ((k : ℕ) → Cites reason k → k < i) → moved_reason more reason ≡ moved_reason places reason
  moved_stable reasons.HappensBefore cited = refl
  moved_stable (reasons.Joined first second) cited = rw (stable first (cited first (inl refl)), stable second (cited second (inr refl))) refl
  moved_stable (reasons.BeforeSource r k) cited = rw (stable k (cited k refl)) refl
  moved_stable (reasons.AfterRead w k) cited = rw (stable k (cited k refl)) refl

  len_more : length more ≡ i + 1
  len_more = let len = was.len in omega (arith, ap length is, length-append places (length used ∷ []))

  line_stable : (j : ℕ) (line : DerivationLine) → j < i → slice_get lines j ≡ Some line → moved_line more line ≡ moved_line places line
  line_stable j line less at =
      ap (λ (reason : Reason). record { before = line.before; after = line.after; reason = reason })
      (moved_stable line.reason (λ k cites. let before : k < j = earlier j line at k cites in omega arith))

  rising_more : (j l : ℕ) → j < l → l < i + 1 → IsMarked marks j → slice_index more j < slice_index more l
  rising_more j l less inside marked =
      elim (cases_eq l i) [
        | inl same ↦ let in_j : j < i = omega arith in rw (same, here, stable j in_j) (was.within j in_j marked)
        | inr other ↦ let in_j : j < i = omega arith in let in_l : l < i = omega arith in rw (stable j in_j, stable l in_l) (was.rising j l less in_l marked)
      ]

  pub moved_skip : (IsMarked marks i → ⊥) → AreMoved lines marks (i + 1) more used
  moved_skip lacks = record {
    len = len_more;
    each = λ j line inside marked at. elim (cases_eq j i) [
      | inl same ↦ absurd (lacks (rw same at marked))
      | inr other ↦ let less : j < i = omega arith in rw (stable j less, line_stable j line less at) (was.each j line less marked at)
    ];
    only = λ p inside. let found = was.only p inside in let less : found.0 < i = found.1 in (found.0, omega arith, found.2, stable found.0 less ∙ found.3);
    rising = rising_more;
    within = λ j inside marked. elim (cases_eq j i) [
      | inl same ↦ absurd (lacks (rw same at marked))
      | inr other ↦ let less : j < i = omega arith in rw (stable j less) (was.within j less marked)
    ];
  }

  pub moved_put : IsMarked marks i → (line new : DerivationLine) → slice_get lines i ≡ Some line → new ≡ moved_line more line → (all : List DerivationLine) → all ≡ used ++ new ∷ []
      → AreMoved lines marks (i + 1) more all
  moved_put marked line new at_i is_new all is_all =
      let len_all : length all ≡ length used + 1 = ap length is_all ∙ length-append used (new ∷ []) in
      record {
        len = len_more;
        each = λ j old inside marked_j at. elim (cases_eq j i) [
          | inl same ↦
              let is_line : line ≡ old = same_Some line old (sym at_i ∙ rw same at at) in
              rw (same, here, is_all) (pushed_last used new ∙ ap Some (is_new ∙ ap (moved_line more) is_line))
          | inr other ↦
              let less : j < i = omega arith in
              rw (stable j less, line_stable j old less at, is_all) (pushed_same used new (slice_index places j) (moved_line places old) (was.each j old less marked_j at))
        ];
        only = λ p inside. elim (cases_eq p (length used)) [
          | inl same ↦ (i, omega arith, marked, here ∙ sym same)
          | inr other ↦ let found = was.only p (omega arith) in let less : found.0 < i = found.1 in (found.0, omega arith, found.2, stable found.0 less ∙ found.3)
        ];
        rising = rising_more;
        within = λ j inside marked_j. elim (cases_eq j i) [
          | inl same ↦ rw (same, here) (omega arith)
          | inr other ↦ let less : j < i = omega arith in let top = was.within j less marked_j in rw (stable j less) (omega arith)
        ];
      }

-- ---- the used lines are a derivation
cites_moved : (places : List ℕ) (reason : Reason) (j : ℕ) → Cites reason j → Cites (moved_reason places reason) (slice_index places j)
cites_moved places reasons.HappensBefore j h = h
cites_moved places (reasons.Joined first second) j (inl h) = inl (ap (slice_index places) h)
cites_moved places (reasons.Joined first second) j (inr h) = inr (ap (slice_index places) h)
cites_moved places (reasons.BeforeSource r k) j h = ap (slice_index places) h
cites_moved places (reasons.AfterRead w k) j h = ap (slice_index places) h

abbrev pub no_line : DerivationLine
no_line = record { before = 0; after = 0; reason = reasons.HappensBefore }

module _ (before : ℕ → ℕ → Type 0) (forbidden : ℕ → ℕ → ℕ → Type 0) (lines used : List DerivationLine) (each : EachFollows before forbidden lines) (ends : EndsInCycle lines)
    (only_used : AreUsedLines lines used) where
  line_moved : (k e d : ℕ) → IsMarked only_used.marks k → IsLineOf lines k e d → IsLineOf used (slice_index only_used.places k) e d
  line_moved k e d marked h = record {
    line = moved_line only_used.places h.line;
    at_place = only_used.moved.each k h.line (slice_get_within lines k h.line h.at_place) marked h.at_place;
    first = h.first;
    second = h.second;
  }

  follows_moved : (j e d : ℕ) (reason : Reason) → j < length lines → ((k : ℕ) → Cites reason k → IsMarked only_used.marks k) → Follows before forbidden lines j e d reason
      → Follows before forbidden used (slice_index only_used.places j) e d (moved_reason only_used.places reason)
  follows_moved j e d reasons.HappensBefore inside cited h = h
  follows_moved j e d (reasons.Joined first second) inside cited h =
      let one = cited first (inl refl) in
      let two = cited second (inr refl) in
      (h.0, only_used.moved.rising first j h.1 inside one, only_used.moved.rising second j h.2 inside two, line_moved first e h.0 one h.3, line_moved second h.0 d two h.4)
  follows_moved j e d (reasons.BeforeSource r k) inside cited h =
      let one = cited k refl in (h.0, only_used.moved.rising k j h.1 inside one, line_moved k e r one h.2)
  follows_moved j e d (reasons.AfterRead w k) inside cited h =
      let one = cited k refl in (h.0, only_used.moved.rising k j h.1 inside one, line_moved k w d one h.2)

  each_moved : EachFollows before forbidden used
  each_moved k line at =
      let found = only_used.moved.only k (slice_get_within used k line at) in
      let j = found.0 in
      let old : DerivationLine = get_or lines j no_line in
      let at_old = slice_get-get_or lines j no_line found.1 in
      let moved_at = only_used.moved.each j old found.1 found.2 at_old in
      let is_line : moved_line only_used.places old ≡ line = same_Some (moved_line only_used.places old) line (sym moved_at ∙ ap (slice_get used) found.3 ∙ at) in
      let follows = follows_moved j old.before old.after old.reason found.1 (λ c cites. only_used.are_marks.all j old (λ no_less. absurd (omega arith)) found.2 at_old c cites) (each j old at_old) in
      let P : DerivationLine → Type 0 = λ l. Follows before forbidden used k l.before l.after l.reason in
      let Q : ℕ → Type 0 = λ p. Follows before forbidden used p old.before old.after (moved_reason only_used.places old.reason) in
      subst P is_line (subst Q found.3 follows)

  last_marked : IsMarked only_used.marks ends.end
  last_marked = only_used.are_marks.last ends.end (sym ends.last)

  last_moved : length used ≡ slice_index only_used.places ends.end + 1
  last_moved =
      let inside : ends.end < length lines = (let last = ends.last in omega arith) in
      let top = only_used.moved.within ends.end inside last_marked in
      let found = only_used.moved.only (length used - 1) (omega arith) in
      let in_lines : found.0 < length lines = found.1 in
      let is = found.3 in
      elim (cases_eq found.0 ends.end) [
        | inl same ↦ let at_end = rw same at is in omega arith
        | inr other ↦
            let less : found.0 < ends.end = (let last = ends.last in omega arith) in
            let rises = only_used.moved.rising found.0 ends.end less inside found.2 in
            omega arith
      ]

  -- no pair of the lines that are used has two of them
  used_once : AreOnce lines → AreOnce used
  used_once once p q a b less at_p at_q same same_too =
      let moved = only_used.moved in
      let from_p = moved.only p (slice_get_within used p a at_p) in
      let from_q = moved.only q (slice_get_within used q b at_q) in
      let line_p = get_or lines from_p.0 a in
      let line_q = get_or lines from_q.0 b in
      let there_p : slice_get lines from_p.0 ≡ Some line_p = slice_get-get_or lines from_p.0 a from_p.1 in
      let there_q : slice_get lines from_q.0 ≡ Some line_q = slice_get-get_or lines from_q.0 b from_q.1 in
      let is_p : moved_line only_used.places line_p ≡ a = same_Some (moved_line only_used.places line_p) a
      (sym (moved.each from_p.0 line_p from_p.1 from_p.2 there_p) ∙ ap (slice_get used) from_p.3 ∙ at_p) in
      let is_q : moved_line only_used.places line_q ≡ b = same_Some (moved_line only_used.places line_q) b
      (sym (moved.each from_q.0 line_q from_q.1 from_q.2 there_q) ∙ ap (slice_get used) from_q.3 ∙ at_q) in
      let before_same : line_p.before ≡ line_q.before = ap (λ (l : DerivationLine). l.before) is_p ∙ same
      ∙ sym (ap (λ (l : DerivationLine). l.before) is_q) in
      let after_same : line_p.after ≡ line_q.after = ap (λ (l : DerivationLine). l.after) is_p ∙ same_too
      ∙ sym (ap (λ (l : DerivationLine). l.after) is_q) in
      elim (cases_order from_p.0 from_q.0) [
        | inl one ↦
            let places : p ≡ q = sym from_p.3 ∙ ap (slice_index only_used.places) one ∙ from_q.3 in
            omega (arith, less, places)
        | inr apart ↦ elim apart [
          | inl earlier ↦ once from_p.0 from_q.0 line_p line_q earlier there_p there_q before_same after_same
          | inr later ↦ once from_q.0 from_p.0 line_q line_p later there_q there_p (sym before_same) (sym after_same)
        ]
      ]

  pub used_lines_derive : AreOnce lines → IsDerivationBy before forbidden used
  used_lines_derive once = record {
    once = used_once once;
    follows = each_moved;
    ends = record { end = slice_index only_used.places ends.end; last = last_moved; event = ends.event; is_cycle = line_moved ends.end ends.event ends.event last_marked ends.is_cycle };
    cited = λ k inside.
        let found = only_used.moved.only k (omega arith) in
        let j = found.0 in
        elim (only_used.are_marks.only j found.2) [
          | inl last ↦
              let same : j ≡ ends.end = (let is = ends.last in omega arith) in
              let at_end : slice_index only_used.places ends.end ≡ k = rw same at found.3 in
              let len = last_moved in
              absurd (omega arith)
          | inr later ↦
              let within = slice_get_within lines later.later later.line later.at_later in
              let rises = only_used.moved.rising j later.later later.after within found.2 in
              record {
                later = slice_index only_used.places later.later;
                line = moved_line only_used.places later.line;
                at_later = only_used.moved.each later.later later.line within later.marked later.at_later;
                after = rw (← found.3) rises;
                cites = rw (← found.3) (cites_moved only_used.places later.line.reason j later.cites);
              }
        ];
  }
