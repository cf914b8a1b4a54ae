-- Lines of a derivation, one more at the end, by wider relations, and what all of them show.
use Rattle.std.proofs.Common.{ap, ◌≡◌, ◌≢◌, ◌⊎◌, ◌↔◌, ℕ, ◌+◌, ◌*◌, ◌<◌, suc, zero, Bool, true, false, cond, List, [], ◌∷◌, ◌++◌, length, Some, refl, sym, ◌∙◌, arith, inl, inr}
use Rattle.std.proofs.lemmas.Bool.{cases_lt}
use Rattle.std.proofs.lemmas.List.{length-append}
use Rattle.std.proofs.lemmas.Option.{same_Some, slice_get_within}
use Rattle.std.specs.List.{slice_get}
use Rattle.lit_order.specs.Forcing.{AfterRead, BeforeSource, Given, HasForcedCycle, IsForced, Through}
use Rattle.lit_paths.proofs.Products.{slice_get_left, slice_get_right}
use Rattle.lit_why.specs.declared.derivations.lines.DerivationLine.{DerivationLine}
use Rattle.lit_why.specs.declared.derivations.lines.Reason.{Reason}
use Rattle.lit_why.specs.declared.derivations.lines.Reason.TheVariants as reasons
use Rattle.lit_why.specs.Derivation.{AreOnce, EachFollows, EndsInCycle, Follows, IsDerivationBy, IsLineOf}
use Rattle.lit_why.specs.Internal.Deriving.{AreGiven, HasForced, HasJoined, HasLine, HasLines, IsGiven}

-- what is at a place after one is put at the end
pub at_pushed : {X : Type 0} (xs : List X) (y : X) (k : ℕ) (x : X) → slice_get (xs ++ y ∷ []) k ≡ Some x → ((k < length xs) × (slice_get xs k ≡ Some x)) ⊎ ((k ≡ length xs) × (y ≡ x))
at_pushed xs y k x at =
    elim (cases_lt k (length xs)) [
      | inl less ↦ inl (less, sym (slice_get_left xs (y ∷ []) k less) ∙ at)
      | inr other ↦
          let within : k < length (xs ++ y ∷ []) = slice_get_within (xs ++ y ∷ []) k x at in
          let len = length-append xs (y ∷ []) in
          let same : k ≡ length xs = omega (arith, within, len) in
          inr (same, same_Some y x (sym (slice_get_right xs (y ∷ []) k 0 (omega arith)) ∙ at))
    ]

pub pushed_same : {X : Type 0} (xs : List X) (y : X) (k : ℕ) (x : X) → slice_get xs k ≡ Some x → slice_get (xs ++ y ∷ []) k ≡ Some x
pushed_same xs y k x at = slice_get_left xs (y ∷ []) k (slice_get_within xs k x at) ∙ at

pub pushed_last : {X : Type 0} (xs : List X) (y : X) → slice_get (xs ++ y ∷ []) (length xs) ≡ Some y
pushed_last xs y = slice_get_right xs (y ∷ []) (length xs) 0 (omega arith)

module _ (lines : List DerivationLine) (line : DerivationLine) where
  pub IsLineOf-more : (k e d : ℕ) → IsLineOf lines k e d → IsLineOf (lines ++ line ∷ []) k e d
  IsLineOf-more k e d h = record { line = h.line; at_place = pushed_same lines line k h.line h.at_place; first = h.first; second = h.second }

  pub IsLineOf-last : IsLineOf (lines ++ line ∷ []) (length lines) line.before line.after
  IsLineOf-last = record { line = line; at_place = pushed_last lines line; first = refl; second = refl }

  pub HasLine-more : (e d : ℕ) → HasLine lines e d → HasLine (lines ++ line ∷ []) e d
  HasLine-more e d h = (h.0, IsLineOf-more h.0 e d h.1)

  pub HasLines-more : (known more : ℕ → ℕ → Type 0) → HasLines lines known → ((x y : ℕ) → more x y ↔ (known x y ⊎ ((x ≡ line.before) × (y ≡ line.after)))) → HasLines (lines ++ line ∷ []) more
  HasLines-more known more has put e d h =
      elim ((put e d).0 h) [ inl old ↦ HasLine-more e d (has e d old) | inr new ↦ rw (new.0, new.1) (length lines, IsLineOf-last) ]

  module _ (before : ℕ → ℕ → Type 0) (forbidden : ℕ → ℕ → ℕ → Type 0) where
    Follows-more : (place e d : ℕ) (reason : Reason) → Follows before forbidden lines place e d reason → Follows before forbidden (lines ++ line ∷ []) place e d reason
    Follows-more place e d reasons.HappensBefore h = h
    Follows-more place e d (reasons.Joined first second) h = (h.0, h.1, h.2, IsLineOf-more first e h.0 h.3, IsLineOf-more second h.0 d h.4)
    Follows-more place e d (reasons.BeforeSource r earlier) h = (h.0, h.1, IsLineOf-more earlier e r h.2)
    Follows-more place e d (reasons.AfterRead w earlier) h = (h.0, h.1, IsLineOf-more earlier w d h.2)

    pub EachFollows-more : EachFollows before forbidden lines → Follows before forbidden lines (length lines) line.before line.after line.reason
        → EachFollows before forbidden (lines ++ line ∷ [])
    EachFollows-more each here k new at =
        elim (at_pushed lines line k new at) [
          | inl old ↦ Follows-more k new.before new.after new.reason (each k new old.1)
          | inr last ↦ rw (last.0, ← last.1) (Follows-more (length lines) line.before line.after line.reason here)
        ]

  pub EndsInCycle-last : line.before ≡ line.after → EndsInCycle (lines ++ line ∷ [])
  EndsInCycle-last same = record {
    end = length lines;
    last = length-append lines (line ∷ []);
    event = line.after;
    is_cycle = record { line = line; at_place = pushed_last lines line; first = same; second = refl };
  }

module _ (before other : ℕ → ℕ → Type 0) (forbidden more : ℕ → ℕ → ℕ → Type 0) (wider : (e d : ℕ) → before e d → other e d) (also : (w r v : ℕ) → forbidden w r v → more w r v) where
  pub Follows-wider : (lines : List DerivationLine) (place e d : ℕ) (reason : Reason) → Follows before forbidden lines place e d reason → Follows other more lines place e d reason
  Follows-wider lines place e d reasons.HappensBefore h = wider e d h
  Follows-wider lines place e d (reasons.Joined first second) h = h
  Follows-wider lines place e d (reasons.BeforeSource r earlier) h = (also d r e h.0, h.1, h.2)
  Follows-wider lines place e d (reasons.AfterRead w earlier) h = (also w e d h.0, h.1, h.2)

-- given lines follow
pub EachFollows-given : (before : ℕ → ℕ → Type 0) (forbidden : ℕ → ℕ → ℕ → Type 0) (lines : List DerivationLine) → AreGiven before lines → EachFollows before forbidden lines
EachFollows-given before forbidden lines given k line at = let is = given k line at in rw is.reason is.has

pub AreGiven-more : (before : ℕ → ℕ → Type 0) (lines : List DerivationLine) (line : DerivationLine) → AreGiven before lines → IsGiven before line → AreGiven before (lines ++ line ∷ [])
AreGiven-more before lines line given here k new at = elim (at_pushed lines line k new at) [ inl old ↦ given k new old.1 | inr last ↦ rw (← last.1) here ]

-- no pair twice
pub once_more : (lines : List DerivationLine) (line : DerivationLine) → AreOnce lines → ¬ HasLine lines line.before line.after
    → AreOnce (lines ++ line ∷ [])
once_more lines line once new j k a b less at_a at_b same same_too = elim (at_pushed lines line k b at_b) [
  | inl old_k ↦ elim (at_pushed lines line j a at_a) [
    | inl old_j ↦ once j k a b less old_j.1 old_k.1 same same_too
    | inr last_j ↦ omega (arith, less, old_k.0, last_j.0)
  ]
  | inr last_k ↦ elim (at_pushed lines line j a at_a) [
    | inl old_j ↦ new (
      j,
      record {
        line = a;
        at_place = old_j.1;
        first = same ∙ sym (ap (λ (l : DerivationLine). l.before) last_k.1);
        second = same_too ∙ sym (ap (λ (l : DerivationLine). l.after) last_k.1);
      },
    )
    | inr last_j ↦ omega (arith, less, last_j.0, last_k.0)
  ]
]

pub only_more : (lines : List DerivationLine) (line : DerivationLine) (e d : ℕ) → HasLine (lines ++ line ∷ []) e d
    → HasLine lines e d ⊎ ((e ≡ line.before) × (d ≡ line.after))
only_more lines line e d h = elim (at_pushed lines line h.0 h.1.line h.1.at_place) [
  | inl old ↦ inl (h.0, record { line = h.1.line; at_place = old.1; first = h.1.first; second = h.1.second })
  | inr last ↦ inr (
    sym h.1.first ∙ sym (ap (λ (l : DerivationLine). l.before) last.1),
    sym h.1.second ∙ sym (ap (λ (l : DerivationLine). l.after) last.1),
  )
]

-- where all pairs that follow are known, all pairs that are forced are known
pub forced_within : (before known : ℕ → ℕ → Type 0) (forbidden : ℕ → ℕ → ℕ → Type 0) → ((e d : ℕ) → before e d → known e d) → HasForced forbidden known known
    → HasJoined known known → (a d : ℕ) → IsForced before forbidden a d → known a d
forced_within before known forbidden has forced joined a d (Given h) = has a d h
forced_within before known forbidden has forced joined a d (Through m p q) =
    joined a m d (forced_within before known forbidden has forced joined a m p) (forced_within before known forbidden has forced joined m d q)
forced_within before known forbidden has forced joined a d (AfterRead w f not_source not_read p) =
    forced.after w a d f (forced_within before known forbidden has forced joined w d p)
forced_within before known forbidden has forced joined a d (BeforeSource r f not_source not_read p) =
    forced.earlier d r a f (forced_within before known forbidden has forced joined a r p)

pub HasForced-from_old : (forbidden : ℕ → ℕ → ℕ → Type 0) (old known : ℕ → ℕ → Type 0) → ((e d : ℕ) → known e d → old e d) → HasForced forbidden old known → HasForced forbidden known known
HasForced-from_old forbidden old known same forced = record {
  after = λ w r v f h. forced.after w r v f (same w v h);
  earlier = λ w r v f h. forced.earlier w r v f (same v r h);
}

-- one pair more, of two events
pub no_cycle_more : (known more : ℕ → ℕ → Type 0) (a d : ℕ) → ((x y : ℕ) → more x y ↔ (known x y ⊎ ((x ≡ a) × (y ≡ d)))) → ((e : ℕ) → ¬ known e e) → (a ≡ d → ⊥)
    → (e : ℕ) → ¬ more e e
no_cycle_more known more a d put none apart e h = elim ((put e e).0 h) [ inl old ↦ none e old | inr new ↦ apart (sym new.0 ∙ new.1) ]

-- the measure of the iterations
pub two_less : (m n : ℕ) (grown : Bool) → n < m → 2 * n + cond true 1 0 < 2 * m + cond grown 1 0
two_less m n true less = omega arith
two_less m n false less = omega arith

-- ---- what each line says is forced
module _ (before : ℕ → ℕ → Type 0) (forbidden : ℕ → ℕ → ℕ → Type 0) (apart : (w r v : ℕ) → forbidden w r v → (v ≢ w) × (v ≢ r)) (lines : List DerivationLine) (each : EachFollows before forbidden lines) where
  follows_forced : (most : ℕ) → ((k e d : ℕ) → k < most → IsLineOf lines k e d → IsForced before forbidden e d) → (k e d : ℕ) → k < most + 1 → (reason : Reason)
      → Follows before forbidden lines k e d reason → IsForced before forbidden e d
  follows_forced most less k e d inside reasons.HappensBefore h = Given h
  follows_forced most less k e d inside (reasons.Joined first second) h =
      let one : first < k = h.1 in let two : second < k = h.2 in Through h.0 (less first e h.0 (omega arith) h.3) (less second h.0 d (omega arith) h.4)
  follows_forced most less k e d inside (reasons.BeforeSource r earlier) h =
      let one : earlier < k = h.1 in let two = apart d r e h.0 in BeforeSource r h.0 two.0 two.1 (less earlier e r (omega arith) h.2)
  follows_forced most less k e d inside (reasons.AfterRead w earlier) h =
      let one : earlier < k = h.1 in let two = apart w e d h.0 in AfterRead w h.0 two.0 two.1 (less earlier w d (omega arith) h.2)

  line_forced : (most k e d : ℕ) → k < most → IsLineOf lines k e d → IsForced before forbidden e d
  line_forced zero k e d inside h = absurd (omega arith)
  line_forced (suc most) k e d inside h =
      rw (← h.first, ← h.second) (follows_forced most (line_forced most) k h.line.before h.line.after (omega arith) h.line.reason (each k h.line h.at_place))

  pub ends_forced : EndsInCycle lines → HasForcedCycle before forbidden
  ends_forced ends = (ends.event, line_forced (ends.end + 1) ends.end ends.event ends.event (omega arith) ends.is_cycle)
