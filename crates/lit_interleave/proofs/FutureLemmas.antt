-- The rest of an interleaving from a moment on: the accesses still to come, and each agent's steps.
use Rattle.lit_interleave.proofs.Words.{◌+◌, ◌++◌, ◌<◌, ◌==◌, [], accesses, after_each, after_end, after_statement, after_turn, AgreesWith}
use Rattle.lit_interleave.proofs.Words.{All, ap, append-nil, append_assoc, ap₂, arith, beginning, cases_eq, cases_lt, Contents, End}
use Rattle.lit_interleave.proofs.Words.{ending, Event, false, filter, found_by, from_access, get_or-range_with_len, get_or-set_other}
use Rattle.lit_interleave.proofs.Words.{get_or-set_same, get_or_past, if◌then◌else◌, inl, inr, is_access, IsWalk, left_behind, length}
use Rattle.lit_interleave.proofs.Words.{length-map, length-range_with_len, length-slice_set, List, Litmus, made_at_end, made_by_each}
use Rattle.lit_interleave.proofs.Words.{made_in_turn, makers_of, map, Moment, nat_tests, next_maker, Option, Progress, progress_of}
use Rattle.lit_interleave.proofs.Words.{range_more, range_with_len, refl, replicate, slice_set, Some, Statement, Statements, Step, subst}
use Rattle.lit_interleave.proofs.Words.{suc, sym, Then, true, zero, zero-add, ℕ, ◌∙◌, ◌∷◌, ◌≡◌, ◌≢◌, ◌≤◌}
use Rattle.lit_paths.specs.Path.{events_on}
use Rattle.lit_interleave.specs.Interleaving.{after}
use Rattle.lit_interleave.proofs.ActLemmas.{act_agrees, act_block, act_events, act_found, act_owner, act_walked, event_made, found_before, found_in_turn, is_owned_by, same_agent, step_made, lead}
use Rattle.lit_interleave.proofs.MomentLemmas.{after_each-more, at_first}
use Rattle.lit_interleave.proofs.NextAccess.{after_from, after_next, each_from, size_less, size_of, accesses_from, one_access}

-- the events of an agent
abbrev pub own_events : ℕ → List Event → List Event
own_events agent es = filter (λ (e : Event). is_owned_by agent e.owner) es

-- The steps that an agent walks from here on, of which the first access gets this place, with the numbers that it finds
-- on the block, where all agents together make these events. In the end its registers have the last numbers.
pub record Course (agent place : ℕ) (block : List ℕ) (acts : List Event) (p : Progress) (last : List ℕ) : Type 0 where
  pub steps : List Step
  pub walked : IsWalk p.left steps
  pub agrees : AgreesWith steps p.registers (found_in_turn agent block acts) last
  pub own : own_events agent acts ≡ events_on agent place steps

differ : (a b : ℕ) → a ≢ b → (a == b) ≡ false
differ a b h = grind (arith, nat_tests)

-- ---- all agents
-- What is to come from a moment up to the end, where the next accesses of the agents get these places. These agents
-- make the accesses.
pub record Future (m end : Moment) (places : ℕ → ℕ) (makers : List ℕ) : Type 0 where
  pub acts : List Event
  pub made_by : map (λ (e : Event). e.owner) acts ≡ map (λ (agent : ℕ). Some agent) makers
  pub course : (agent : ℕ) → Course agent (places agent) m.block acts (progress_of m agent) (progress_of end agent).registers

-- for any places
abbrev pub HasFuture : Moment → Moment → List ℕ → Type 0
HasFuture m end makers = (places : ℕ → ℕ) → Future m end places makers

abbrev pub no_progress : Progress
no_progress = record { left = End; registers = [] }

own_progress : (m : Moment) (agent : ℕ) (left : Statements) (c : Contents) → agent < length m.agents → progress_of (left_behind m agent left c) agent ≡ record { left = left; registers = c.registers }
own_progress m agent left c inside = get_or-set_same m.agents agent (record { left = left; registers = c.registers }) no_progress inside

other_progress : (m : Moment) (agent other : ℕ) (left : Statements) (c : Contents) → other ≢ agent → progress_of (left_behind m agent left c) other ≡ progress_of m other
other_progress m agent other left c apart = get_or-set_other m.agents agent other (record { left = left; registers = c.registers }) no_progress apart

-- a turn without an access
pub idle_future : (m end : Moment) (makers : List ℕ) (agent : ℕ) → agent < length m.agents → from_access (progress_of m agent).registers (progress_of m agent).left ≡ End
    → HasFuture (left_behind m agent End (found_by m agent)) end makers → HasFuture m end makers
idle_future m end makers agent inside is later places =
    let rest = later places in
    record {
      acts = rest.acts;
      made_by = rest.made_by;
      course = λ j. elim (cases_eq j agent) [
        | inl same ↦
            let p = progress_of m agent in
            let c = rw (own_progress m agent End (found_by m agent) inside) at (rest.course agent) in
            let led = lead p.registers p.left c.steps (rw is c.walked) in
            rw same (record {
              steps = led.ifs ++ c.steps;
              walked = led.walked;
              agrees = led.decided.agrees c.steps (found_in_turn agent m.block rest.acts) (progress_of end agent).registers c.agrees;
              own = c.own ∙ sym (led.decided.events agent (places agent) c.steps);
            })
        | inr other ↦ rw (other_progress m agent j End (found_by m agent) other) at (rest.course j)
      ];
    }

-- a turn with one
pub act_future : (m end : Moment) (makers : List ℕ) (agent : ℕ) (s : Statement) (more : Statements) → agent < length m.agents → from_access (progress_of m agent).registers (progress_of m agent).left ≡ Then s more
    → is_access s ≡ true → HasFuture (left_behind m agent more (after_statement s (found_by m agent))) end makers → HasFuture m end (agent ∷ makers)
act_future m end makers agent s more inside is access later places =
    let done = after_statement s (found_by m agent) in
    let rest = later (λ j. if j == agent then places agent + 1 else places j) in
    let made = event_made agent (places agent) s m.block in
    let owner : made.owner ≡ Some agent = act_owner agent (places agent) s m.block access in
    let leaves = act_block agent (places agent) s (found_by m agent) access in
    record {
      acts = made ∷ rest.acts;
      made_by = ap₂ (λ (o : Option ℕ) (os : List (Option ℕ)). o ∷ os) owner rest.made_by;
      course = λ j. elim (cases_eq j agent) [
        | inl same ↦
            let p = progress_of m agent in
            let last = (progress_of end agent).registers in
            let c = rw (same_agent agent, own_progress m agent more done inside) at (rest.course agent) in
            let step = step_made s m.block in
            let values = found_in_turn agent done.block rest.acts in
            let led = lead p.registers p.left (step ∷ c.steps) (rw is (step ∷ [], c.steps, refl, act_walked s m.block access, c.walked)) in
            let mine = ap (is_owned_by agent) owner ∙ same_agent agent in
            rw same (record {
              steps = led.ifs ++ step ∷ c.steps;
              walked = led.walked;
              agrees = rw (act_found agent (places agent) s m.block rest.acts access, leaves)
                  (led.decided.agrees (step ∷ c.steps) (found_before s m.block values) last
                  (act_agrees s (found_by m agent) c.steps values last access c.agrees));
              own = rw mine (ap (λ (es : List Event). made ∷ es) c.own ∙ sym (act_events agent (places agent) s m.block c.steps access)
                  ∙ sym (led.decided.events agent (places agent) (step ∷ c.steps)));
            })
        | inr other ↦
            let c = rw (differ j agent other, other_progress m agent j more done other) at (rest.course j) in
            let no : is_owned_by j made.owner ≡ false = ap (is_owned_by j) owner ∙ differ agent j (λ e. other (sym e)) in
            record { steps = c.steps; walked = c.walked; agrees = rw (no, leaves) c.agrees; own = rw no c.own }
      ];
    }

-- ---- the next access is one
abbrev pub BeginsWithAccess : Statements → Type 0
BeginsWithAccess End = Unit {0}
BeginsWithAccess (Then s ss) = is_access s ≡ true

pub begins_from : (registers : List ℕ) (ss : Statements) → BeginsWithAccess (from_access registers ss)
begins_from registers = each_from registers (λ s left. BeginsWithAccess left) (λ ss left. BeginsWithAccess left) (λ s is. is)
    (λ reg equal value body other b is left p. p) tt (λ s ss left none rest. rest) (λ s ss x more p. p)

-- ---- a turn, and all remaining statements
turn_future : (m end : Moment) (makers : List ℕ) (agent : ℕ) → agent < length m.agents → HasFuture (after_turn m agent) end makers → HasFuture m end (made_in_turn m agent ++ makers)
turn_future m end makers agent inside later =
    let p = progress_of m agent in
    (elim (from_access p.registers p.left) as (λ ss. from_access p.registers p.left ≡ ss
    → HasFuture m end (next_maker agent ss ++ makers)) [
      | End ↦ λ is. idle_future m end makers agent inside is (rw is at later)
      | Then s more ↦ λ is. act_future m end makers agent s more inside is (subst BeginsWithAccess is (begins_from p.registers p.left))
          (rw is at later)
    ]) refl

set_again : (ps : List Progress) (i : ℕ) (p q : Progress) → slice_set (slice_set ps i p) i q ≡ slice_set ps i q
set_again [] i p q = refl
set_again (r ∷ ps) zero p q = refl
set_again (r ∷ ps) (suc i) p q = ap (λ (xs : List Progress). r ∷ xs) (set_again ps i p q)

-- all remaining statements, after the next access
end_later : (m : Moment) (agent : ℕ) (s : Statement) (more : Statements) → agent < length m.agents → from_access (progress_of m agent).registers (progress_of m agent).left ≡ Then s more
    → after_end (left_behind m agent more (after_statement s (found_by m agent))) agent ≡ after_end m agent
end_later m agent s more inside is =
    let c = after_statement s (found_by m agent) in
    rw (own_progress m agent more c inside, set_again, after_next (progress_of m agent) m.block s more c is refl) refl

end_future : (n : ℕ) (m end : Moment) (makers : List ℕ) (agent : ℕ) → agent < length m.agents → size_of (progress_of m agent).left < n → HasFuture (after_end m agent) end makers
    → HasFuture m end (made_at_end m agent ++ makers)
end_future zero m end makers agent inside few later = absurd (omega (arith, few))
end_future (suc n) m end makers agent inside few later =
    let p = progress_of m agent in
    let found = found_by m agent in
    (elim (from_access p.registers p.left) as (λ ss. from_access p.registers p.left ≡ ss
    → HasFuture m end (made_at_end m agent ++ makers)) [
      | End ↦ λ is. rw (← accesses_from p.left found, is) (idle_future m end makers agent inside is
          (rw (← after_from p.left found, is) at later))
      | Then s more ↦ λ is.
          let c = after_statement s found in
          let next = left_behind m agent more c in
          let access : is_access s ≡ true = subst BeginsWithAccess is (begins_from p.registers p.left) in
          let now = own_progress m agent more c inside in
          rw (← accesses_from p.left found, is, one_access s more found access)
          (act_future m end (replicate (accesses more c) agent ++ makers) agent s more inside is access
          (rw now at (end_future n next end makers agent (omega
          (arith, inside, length-slice_set m.agents agent (record { left = more; registers = c.registers })))
          (omega (arith, few, size_less p.registers p.left s more is, ap (λ (q : Progress). size_of q.left) now))
          (subst (λ (w : Moment). HasFuture w end makers) (sym (end_later m agent s more inside is)) later))))
    ]) refl

-- ---- a list of turns, or of agents' ends
each_future : (step : Moment → ℕ → Moment) (made : Moment → ℕ → List ℕ) → ((m : Moment) (agent : ℕ) → length (step m agent).agents ≡ length m.agents)
    → ((m end : Moment) (makers : List ℕ) (agent : ℕ) → agent < length m.agents → HasFuture (step m agent) end makers → HasFuture m end (made m agent ++ makers))
    → (agents : List ℕ) (m end : Moment) (makers : List ℕ) → All (λ agent. agent < length m.agents) agents → HasFuture (after_each step m agents) end makers
    → HasFuture m end (made_by_each step made m agents ++ makers)
each_future step made preserves_count one [] m end makers known later = later
each_future step made preserves_count one (a ∷ agents) m end makers known later =
    let rest = made_by_each step made (step m a) agents in
    subst (HasFuture m end) (sym (append_assoc (made m a) rest makers))
    (one m end (rest ++ makers) a (known 0 a (omega arith))
    (each_future step made preserves_count one agents (step m a) end makers (λ k d lt. omega (arith, known (suc k) d (omega (arith, lt)), preserves_count m a)) later))

-- ---- the end, where no agent has a statement left
pub no_future : (m : Moment) → ((agent : ℕ) → (progress_of m agent).left ≡ End) → HasFuture m m []
no_future m none places = record {
  acts = [];
  made_by = refl;
  course = λ agent. record {
    steps = [];
    walked = subst (λ (ss : Statements). IsWalk ss []) (sym (none agent)) refl;
    agrees = (refl, refl);
    own = refl;
  };
}

-- ---- a whole interleaving
ends_preserve_count : (m : Moment) (agents : List ℕ) → length (after_each after_end m agents).agents ≡ length m.agents
ends_preserve_count m [] = refl
ends_preserve_count m (a ∷ agents) = ends_preserve_count (after_end m a) agents ∙ length-slice_set m.agents a _

turns_preserve_count : (m : Moment) (agents : List ℕ) → length (after_each after_turn m agents).agents ≡ length m.agents
turns_preserve_count m [] = refl
turns_preserve_count m (a ∷ agents) = turns_preserve_count (after_turn m a) agents ∙ length-slice_set m.agents a _

pub ending_agents : (t : Litmus) (schedule : List ℕ) → length (ending t schedule).agents ≡ length t.agents
ending_agents t schedule = ends_preserve_count (after_each after_turn (beginning t) schedule) (range_with_len 0 (length t.agents)) ∙ turns_preserve_count (beginning t) schedule ∙ length-map t.agents at_first

all_ended : (m : Moment) (k j : ℕ) → k ≤ length m.agents → j < k → (progress_of (after_each after_end m (range_with_len 0 k)) j).left ≡ End
all_ended m zero j within lt = absurd (omega (arith, lt))
all_ended m (suc k) j within lt =
    let before = after_each after_end m (range_with_len 0 k) in
    let is : after_each after_end m (range_with_len 0 (suc k)) ≡ after_end before k =
    ap (λ (n : ℕ). after_each after_end m (range_with_len 0 n)) (let e : suc k ≡ k + 1 = omega arith in e)
    ∙ ap (after_each after_end m) (range_more 0 k ∙ ap (λ (n : ℕ). range_with_len 0 k ++ n ∷ []) (zero-add k))
    ∙ after_each-more after_end m (range_with_len 0 k) k in
    rw is (elim (cases_eq j k) [
      | inl same ↦ rw (
        same,
        own_progress before k End (after (progress_of before k).left (found_by before k)) (omega (arith, ends_preserve_count m (range_with_len 0 k))),
      ) refl
      | inr other ↦ rw (other_progress before k j End (after (progress_of before k).left (found_by before k)) other)
          (all_ended m k j (omega (arith, within)) (omega (arith, other)))
    ])

pub interleaving_future : (t : Litmus) (schedule : List ℕ) → All (λ agent. agent < length t.agents) schedule → HasFuture (beginning t) (ending t schedule) (makers_of t schedule)
interleaving_future t schedule known =
    let begun = after_each after_turn (beginning t) schedule in
    let n = length t.agents in
    let all : length (beginning t).agents ≡ n = length-map t.agents at_first in
    let long : length begun.agents ≡ n = turns_preserve_count (beginning t) schedule ∙ all in
    let last = made_by_each after_end made_at_end begun (range_with_len 0 n) in
    each_future after_turn made_in_turn (λ m agent. length-slice_set m.agents agent _) turn_future schedule (beginning t)
    (ending t schedule) last (λ k d lt. omega (arith, known k d lt, all))
    (subst (HasFuture begun (ending t schedule)) (append-nil last)
    (each_future after_end made_at_end (λ m agent. length-slice_set m.agents agent _)
    (λ m end makers agent inside. end_future (size_of (progress_of m agent).left + 1) m end makers agent inside (omega arith))
    (range_with_len 0 n) begun (ending t schedule) [] (λ k d lt. omega
    (arith, long, get_or-range_with_len 0 n k d (omega (arith, lt, length-range_with_len 0 n)), lt, length-range_with_len 0 n))
    (no_future (ending t schedule) (λ j. elim (cases_lt j n) [
      | inl lt ↦ all_ended begun n j (omega (arith, long)) lt
      | inr past ↦ ap (λ (p : Progress). p.left) (get_or_past (ending t schedule).agents j no_progress
          (omega (arith, past, long, ends_preserve_count begun (range_with_len 0 n))))
    ]))))
