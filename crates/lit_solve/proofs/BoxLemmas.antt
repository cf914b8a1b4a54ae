-- What a box gives, and what becomes of it where domains shrink.
use Rattle.lit_solve.proofs.Words.{ap, arith, Box, box_events, cases_eq, Event, events_in, Given, GivenIn, Grows, Grows-from}
use Rattle.lit_solve.proofs.Words.{HappensBeforeBy, HappensBeforeIn, HasEmptyDomain, HasSource, IsForbiddenBy, IsForbiddenIn}
use Rattle.lit_solve.proofs.Words.{IsForced-grow, IsForcedIn, IsWithin, List, Litmus, slice_get_within, subst, sym, ℕ, ◌∙◌, ◌≡◌, ◌⊎◌}

-- an event is in a domain or not
pub has_source : (box : Box) (k w : ℕ) → HasSource box k w ⊎ ¬ HasSource box k w
has_source box k w = cases_eq _ 1

module _ (inner outer : Box) (within : IsWithin inner outer) where
  pub same_events : box_events outer ≡ box_events inner
  same_events = sym (ap (λ (t : Litmus). events_in t inner.combination) within.test ∙ ap (λ (c : ℕ). events_in outer.test c) within.combination)

  module _ (some : ¬ HasEmptyDomain inner) where
    -- what is given stays so
    pub given_stays : (r b w : ℕ) → GivenIn outer r b w → GivenIn inner r b w
    given_stays r b w g = grind (arith, slice_get_within)

    grows : Grows (box_events inner) (GivenIn outer) (GivenIn inner)
    grows = Grows-from (box_events inner) (GivenIn outer) (GivenIn inner) given_stays

    pub before_grows : (a d : ℕ) → HappensBeforeIn outer a d → HappensBeforeIn inner a d
    before_grows a d h = grows.happens_before a d (subst (λ (es : List Event). HappensBeforeBy es (GivenIn outer) a d) same_events h)

    pub forbidden_grows : (w r v : ℕ) → IsForbiddenIn outer w r v → IsForbiddenIn inner w r v
    forbidden_grows w r v f = grows.forbidden w r v (subst (λ (es : List Event). IsForbiddenBy es (GivenIn outer) w r v) same_events f)

    pub forced_grows : (a d : ℕ) → IsForcedIn outer a d → IsForcedIn inner a d
    forced_grows =
        IsForced-grow (HappensBeforeIn outer) (HappensBeforeIn inner) (IsForbiddenIn outer) (IsForbiddenIn inner)
        (λ a d h. Given (before_grows a d h)) forbidden_grows
