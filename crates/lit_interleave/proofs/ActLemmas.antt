-- What an access does, and the course of an agent from its turns: the steps that it walks, the `if`s before each access decided.
use Rattle.lit_interleave.proofs.Words.{◌&&◌, ◌+◌, ◌++◌, ◌==◌, [], after_statement, AgreesWith, ap, append-nil, append_assoc, Bool}
use Rattle.lit_interleave.proofs.Words.{compare_exchange_event, CompareExchange, CompareExchangeMet, composed, Contents, does_read}
use Rattle.lit_interleave.proofs.Words.{does_write, drop, End, eq-eqb, Event, Exchange, ExchangeMet, false, from_access, If, IfMet}
use Rattle.lit_interleave.proofs.Words.{if◌then◌else◌, inl, inr, is_access, IsStatementWalk, IsWalk, joined_statements, List, Load}
use Rattle.lit_interleave.proofs.Words.{LoadMet, no_event, None, number_in, Option, refl, Some, Statement, access_event}
use Rattle.lit_interleave.proofs.Words.{Statements, Step, Store, StoreMet, subst, sym, take, Then, true, with_number, ℕ, ◌∙◌}
use Rattle.lit_interleave.proofs.Words.{◌∷◌, ◌≡◌}
use Rattle.lit_paths.specs.Path.{events_on}
use Rattle.lit_interleave.proofs.NextAccess.{each_from}
use Rattle.lit_paths.specs.declared.event.Kind.TheVariants.{Read, Write, Modify}

-- ---- events on a block
-- the number that an event finds in its range
abbrev pub found_at : Event → List ℕ → ℕ
found_at e block = composed (take e.size (drop e.first block))

-- the block after an event
abbrev pub after_event : Event → List ℕ → List ℕ
after_event e block = if does_write e.kind then take e.first block ++ (take e.size e.payload ++ drop (e.first + e.size) block) else block

abbrev pub is_owned_by : ℕ → Option ℕ → Bool
is_owned_by agent None = false
is_owned_by agent (Some owner) = owner == agent

-- the numbers that the events of an agent find, one after the other
abbrev pub found_in_turn : ℕ → List ℕ → List Event → List ℕ
found_in_turn agent block [] = []
found_in_turn agent block (e ∷ es) =
    if is_owned_by agent e.owner && does_read e.kind then found_at e block ∷ found_in_turn agent (after_event e block) es else found_in_turn agent (after_event e block) es

-- ---- an access
abbrev pub event_made : ℕ → ℕ → Statement → List ℕ → Event
event_made owner place (Load reg window index atomic) block = access_event Read owner place window index 0 atomic
event_made owner place (Store window index value atomic) block = access_event Write owner place window index value atomic
event_made owner place (Exchange reg window index value) block = access_event Modify owner place window index value true
event_made owner place (CompareExchange reg window index expected value) block = compare_exchange_event owner place window index value (number_in block window index == expected)
event_made owner place (If reg equal value body other) block = no_event

abbrev pub step_made : Statement → List ℕ → Step
step_made (Load reg window index atomic) block = LoadMet reg window index atomic
step_made (Store window index value atomic) block = StoreMet window index value atomic
step_made (Exchange reg window index value) block = ExchangeMet reg window index value
step_made (CompareExchange reg window index expected value) block = CompareExchangeMet reg window index expected value (number_in block window index == expected)
step_made (If reg equal value body other) block = IfMet reg equal value true

-- the number that it finds, before others
abbrev pub found_before : Statement → List ℕ → List ℕ → List ℕ
found_before (Load reg window index atomic) block values = number_in block window index ∷ values
found_before (Store window index value atomic) block values = values
found_before (Exchange reg window index value) block values = number_in block window index ∷ values
found_before (CompareExchange reg window index expected value) block values = number_in block window index ∷ values
found_before (If reg equal value body other) block values = values

pub act_agrees : (s : Statement) (c : Contents) (steps : List Step) (values last : List ℕ) → is_access s ≡ true → AgreesWith steps (after_statement s c).registers values last
    → AgreesWith (step_made s c.block ∷ steps) c.registers (found_before s c.block values) last
act_agrees (Store window index value atomic) c steps values last is agrees = agrees
act_agrees (CompareExchange reg window index expected value) c steps values last is agrees =
    (number_in c.block window index, values, refl, refl, agrees)
act_agrees (If reg equal value body other) c steps values last is agrees = absurd (let e : false ≡ true = is in cc)
act_agrees (Load reg window index atomic) c steps values last is agrees = (number_in c.block window index, values, refl, agrees)
act_agrees (Exchange reg window index value) c steps values last is agrees = (number_in c.block window index, values, refl, agrees)

pub act_events : (owner place : ℕ) (s : Statement) (block : List ℕ) (steps : List Step) → is_access s ≡ true
    → events_on owner place (step_made s block ∷ steps) ≡ event_made owner place s block ∷ events_on owner (place + 1) steps
act_events owner place (If reg equal value body other) block steps is = absurd (let e : false ≡ true = is in cc)
act_events owner place s block steps is = refl

pub act_walked : (s : Statement) (block : List ℕ) → is_access s ≡ true → IsStatementWalk s (step_made s block ∷ [])
act_walked (CompareExchange reg window index expected value) block is = (number_in block window index == expected, refl)
act_walked (If reg equal value body other) block is = absurd (let e : false ≡ true = is in cc)
act_walked s block is = refl

pub act_block : (owner place : ℕ) (s : Statement) (c : Contents) → is_access s ≡ true → after_event (event_made owner place s c.block) c.block ≡ (after_statement s c).block
act_block owner place (CompareExchange reg window index expected value) c is =
    elim (number_in c.block window index == expected) as (λ b. after_event (compare_exchange_event owner place window index value b) c.block
    ≡ (if b then with_number c.block window index value else c.block)) [ true ↦ refl | false ↦ refl ]
act_block owner place (If reg equal value body other) c is = absurd (let e : false ≡ true = is in cc)
act_block owner place s c is = refl

-- ---- whose it is
pub same_agent : (n : ℕ) → (n == n) ≡ true
same_agent n = eq-eqb n n refl

pub act_owner : (owner place : ℕ) (s : Statement) (block : List ℕ) → is_access s ≡ true → (event_made owner place s block).owner ≡ Some owner
act_owner owner place (CompareExchange reg window index expected value) block is =
    elim (number_in block window index == expected) as (λ b. (compare_exchange_event owner place window index value b).owner ≡ Some owner) [
      | true ↦ refl
      | false ↦ refl
    ]
act_owner owner place (If reg equal value body other) block is = absurd (let e : false ≡ true = is in cc)
act_owner owner place s block is = refl

-- what its own agent finds, and what another does
pub act_found : (owner place : ℕ) (s : Statement) (block : List ℕ) (es : List Event) → is_access s ≡ true
    → found_in_turn owner block (event_made owner place s block ∷ es) ≡ found_before s block (found_in_turn owner (after_event (event_made owner place s block) block) es)
act_found owner place (CompareExchange reg window index expected value) block es is =
    elim (number_in block window index == expected) as (λ b.
    found_in_turn owner block (compare_exchange_event owner place window index value b ∷ es)
    ≡ number_in block window index ∷ found_in_turn owner (after_event (compare_exchange_event owner place window index value b) block) es) [
      | true ↦ rw (same_agent owner) refl
      | false ↦ rw (same_agent owner) refl
    ]
act_found owner place (If reg equal value body other) block es is = absurd (let e : false ≡ true = is in cc)
act_found owner place s block es is = rw (same_agent owner) refl

-- ---- the course of an agent from its turns: the steps that it walks
-- ---- walks of joined_statements statements
pub record IsJoinedWalk (a b : Statements) (steps : List Step) : Type 0 where
  pub first : List Step
  pub rest : List Step
  pub is : steps ≡ first ++ rest
  pub walked : IsWalk a first
  pub then_walked : IsWalk b rest

pub walk_apart : (a b : Statements) (steps : List Step) → IsWalk (joined_statements a b) steps → IsJoinedWalk a b steps
walk_apart End b steps walked = record { first = []; rest = steps; is = refl; walked = refl; then_walked = walked }
walk_apart (Then s ss) b steps walked =
    let more = walk_apart ss b walked.1 walked.4 in
    record {
      first = walked.0 ++ more.first;
      rest = more.rest;
      is = walked.2 ∙ ap (λ (xs : List Step). walked.0 ++ xs) more.is ∙ sym (append_assoc walked.0 more.first more.rest);
      walked = (walked.0, more.first, refl, walked.3, more.walked);
      then_walked = more.then_walked;
    }

-- ---- the `if`s before an access
-- steps without an event or a value, as the registers decide
pub record AreDecided (registers : List ℕ) (ifs : List Step) : Type 0 where
  pub agrees : (steps : List Step) (values last : List ℕ) → AgreesWith steps registers values last
      → AgreesWith (ifs ++ steps) registers values last
  pub events : (owner place : ℕ) (steps : List Step) → events_on owner place (ifs ++ steps) ≡ events_on owner place steps

none_decided : (registers : List ℕ) → AreDecided registers []
none_decided registers = record { agrees = λ steps values last a. a; events = λ owner place steps. refl }

-- `if`s lead to a walk of the remaining statements from the next access on
pub record LeadsTo (registers : List ℕ) (walk : List Step → Type 0) (steps : List Step) : Type 0 where
  pub ifs : List Step
  pub decided : AreDecided registers ifs
  pub walked : walk (ifs ++ steps)

-- an access leads to itself
itself : (registers : List ℕ) (s : Statement) (steps : List Step) → IsWalk (Then s End) steps → LeadsTo registers (IsStatementWalk s) steps
itself registers s steps walked =
    let same : steps ≡ walked.0 = walked.2 ∙ ap (λ (xs : List Step). walked.0 ++ xs) walked.4 ∙ append-nil walked.0 in
    record { ifs = []; decided = none_decided registers; walked = subst (IsStatementWalk s) (sym same) walked.3 }

pub lead : (registers : List ℕ) (ss : Statements) (steps : List Step) → IsWalk (from_access registers ss) steps → LeadsTo registers (IsWalk ss) steps
lead registers = each_from registers (λ s left. (steps : List Step) → IsWalk left steps → LeadsTo registers (IsStatementWalk s) steps)
    (λ ss left. (steps : List Step) → IsWalk left steps → LeadsTo registers (IsWalk ss) steps)
    (λ s is. itself registers s)
    (λ reg equal value body other b is left leads steps walked.
    let led = leads steps walked in
    record {
      ifs = IfMet reg equal value b ∷ led.ifs;
      decided = record {
        agrees = λ rest values last a. (sym is, led.decided.agrees rest values last a);
        events = led.decided.events;
      };
      walked = (elim b as (λ b. IsWalk (if b then body else other) (led.ifs ++ steps)
          → IsStatementWalk (If reg equal value body other) (IfMet reg equal value b ∷ led.ifs ++ steps)) [
            | true ↦ λ w. inl (led.ifs ++ steps, refl, w)
            | false ↦ λ w. inr (led.ifs ++ steps, refl, w)
          ]) led.walked;
    })
    (λ steps walked. record { ifs = []; decided = none_decided registers; walked = walked })
    (λ s ss left nothing leads steps walked.
    let none = nothing [] refl in
    let rest = leads steps walked in
    record {
      ifs = none.ifs ++ rest.ifs;
      decided = record {
        agrees = λ more values last a. rw append_assoc
            (none.decided.agrees (rest.ifs ++ more) values last (rest.decided.agrees more values last a));
        events = λ owner place more. rw append_assoc (none.decided.events owner place (rest.ifs ++ more)
            ∙ rest.decided.events owner place more);
      };
      walked = (
        none.ifs,
        rest.ifs ++ steps,
        append_assoc none.ifs rest.ifs steps,
        subst (IsStatementWalk s) (append-nil none.ifs) none.walked,
        rest.walked,
      );
    })
    (λ s ss x more leads steps w.
    let cut = walk_apart more ss w.1 w.4 in
    let first = leads (w.0 ++ cut.first) (w.0, cut.first, refl, w.3, cut.walked) in
    let same : first.ifs ++ steps ≡ (first.ifs ++ (w.0 ++ cut.first)) ++ cut.rest =
    ap (λ (xs : List Step). first.ifs ++ xs) (w.2 ∙ ap (λ (xs : List Step). w.0 ++ xs) cut.is
    ∙ sym (append_assoc w.0 cut.first cut.rest)) ∙ sym (append_assoc first.ifs (w.0 ++ cut.first) cut.rest) in
    record {
      ifs = first.ifs;
      decided = first.decided;
      walked = (first.ifs ++ (w.0 ++ cut.first), cut.rest, same, first.walked, cut.then_walked);
    })
