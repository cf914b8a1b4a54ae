-- The texts of single lines, as they are put together.
use Rattle.std.proofs.Common.{◌≡◌, ℕ, ◌+◌, ◌<◌, ◌≤◌, Option, Some, None, List, [], ◌∷◌, ◌++◌, length, take, drop, get_or, codes, refl, sym, ap, ◌∙◌, append_assoc, length-take, arith}
use Rattle.std.proofs.lemmas.List.{drop_more, drop_all, get_or_default}
use Rattle.std.specs.Fmt.{decimal}
use Rattle.std.specs.Option.{option_map_or}
use Rattle.std.proofs.lemmas.Fmt.{decimal_digit}
use Rattle.lit_syntax.specs.Syntax.{Litmus, agent_of}
use Rattle.lit_paths.specs.declared.event.Event.{Event}
use Rattle.lit_paths.specs.Event.{no_event}
use Rattle.lit_paths.specs.Outcome.{names_of}
use Rattle.lit_valid.specs.Entry.{Entry}
use Rattle.lit_report.specs.ChoiceEvents.{choice_at, choice_events}
use Rattle.lit_report.specs.EntryText.{entry_text, event_name, from_lines, line, names_text, registers_text}
use Rattle.lit_report.specs.EntryCache.{first_head, first_value, outcome_head, outcome_text, order_line, register_head}
use Rattle.lit_report.proofs.RegisterLemmas.{register_last, registers_split}

-- a blank, an agent's name, what stands behind it, and a number
pub name_is : (agent behind number : List ℕ) → ((codes " " ++ agent) ++ behind) ++ number ≡ codes " " ++ agent ++ behind ++ number
name_is agent behind number = simp append_assoc

-- the same of a name of one byte and one digit
pub short_name_is : (agent behind : List ℕ) (number d : ℕ) → length agent ≡ 1 → number < 10 → 32 ∷ get_or agent 0 d ∷ (behind ++ (48 + number) ∷ []) ≡ codes " " ++ agent ++ behind ++ decimal number
short_name_is [] behind number d one small = absurd cc
short_name_is (x ∷ []) behind number d one small = rw (decimal_digit number small) refl
short_name_is (x ∷ y ∷ ys) behind number d one small = absurd (let e = one in cc)

-- the name of an event that makes a byte, of one digit
pub short_init_is : (byte : ℕ) → byte < 10 → codes " init[" ++ (48 + byte) ∷ codes "]" ≡ (codes " init[" ++ decimal byte) ++ codes "]"
short_init_is byte small = rw (decimal_digit byte small) refl

-- the name of an event at a place, by its owner
abbrev named : Litmus → ℕ → Option ℕ → List ℕ
named t place owner = option_map_or (λ agent. (agent_of t agent).name ++ codes "." ++ decimal place) owner (codes "init[" ++ decimal place ++ codes "]")

-- the name of an agent's access
pub access_name : (t : Litmus) (e : Event) (agent : ℕ) (name bytes : List ℕ) → e.owner ≡ Some agent → name ≡ (agent_of t agent).name → bytes ≡ name
    → codes " " ++ bytes ++ codes "." ++ decimal e.place ≡ codes " " ++ event_name t e
access_name t e agent name bytes owner is same =
    ap (λ (w : List ℕ). codes " " ++ w ++ codes "." ++ decimal e.place) (same ∙ is) ∙ ap (λ (o : Option ℕ). codes " " ++ named t e.place o) (sym owner)

-- the name of an event that makes a byte
pub init_name : (t : Litmus) (e : Event) → ((agent : ℕ) → e.owner ≡ Some agent → ⊥) → (codes " init[" ++ decimal e.place) ++ codes "]" ≡ codes " " ++ event_name t e
init_name t e none = by e.owner none
  where
    by : (o : Option ℕ) → ((agent : ℕ) → o ≡ Some agent → ⊥) → (codes " init[" ++ decimal e.place) ++ codes "]" ≡ codes " " ++ named t e.place o
    by None h = refl
    by (Some agent) h = absurd (h agent refl)

-- a register up to its value
pub register_head_is : (t : Litmus) (agent register : ℕ) (name bytes : List ℕ) → name ≡ (agent_of t agent).name → bytes ≡ name
    → (codes " " ++ bytes ++ codes ".r" ++ decimal register) ++ codes "=" ≡ register_head t (agent, register)
register_head_is t agent register name bytes is same =
    ap (λ (w : List ℕ). (codes " " ++ w ++ codes ".r" ++ decimal register) ++ codes "=") (same ∙ is) ∙ joined (agent_of t agent).name (decimal register)
  where
    joined : (n r : List ℕ) → (codes " " ++ n ++ codes ".r" ++ r) ++ codes "=" ≡ codes " " ++ n ++ codes ".r" ++ r ++ codes "="
    joined n r = simp append_assoc

-- the names of events, one after the other
pub names_more : (t : Litmus) (events : List Event) (numbers : List ℕ) (i d : ℕ) (none : Event) → i < length numbers → get_or numbers i d < length events
    → names_text t events (drop i numbers) ≡ (codes " " ++ event_name t (get_or events (get_or numbers i d) none)) ++ names_text t events (drop (i + 1) numbers)
names_more t events numbers i d none lt known =
    ap (names_text t events) (drop_more numbers i d lt)
    ∙ ap (λ (e : Event). (codes " " ++ event_name t e) ++ names_text t events (drop (i + 1) numbers)) (get_or_default events (get_or numbers i d) no_event none known)

pub names_end : (t : Litmus) (events : List Event) (numbers : List ℕ) (i : ℕ) → length numbers ≤ i → names_text t events (drop i numbers) ≡ []
names_end t events numbers i le = ap (names_text t events) (drop_all i numbers le)

-- an outcome from its first values, the next register and its value
pub outcome_is : (t : Litmus) (names : List (ℕ × ℕ)) (values : List ℕ) (n : ℕ) → length values ≡ length names → n ≤ length values → length values ≤ n + 1
    → (outcome_head t names (take n values) ++ first_value (drop n values)) ++ codes "\n" ≡ line (outcome_text t names values)
outcome_is t names values n one_each le last =
    let front = registers_text t names (take n values) in
    let long : length (take n values) ≡ n = omega (arith, length-take n values, le) in
    ap (λ (k : ℕ). ((outcome_text t names (take n values) ++ first_head t (drop k names)) ++ first_value (drop n values)) ++ codes "\n") long
    ∙ ap (λ (w : List ℕ). w ++ codes "\n") (append_assoc (outcome_text t names (take n values)) (first_head t (drop n names)) (first_value (drop n values)))
    ∙ ap (λ (w : List ℕ). (outcome_text t names (take n values) ++ w) ++ codes "\n") (register_last t names values n one_each le last)
    ∙ ap (λ (w : List ℕ). w ++ codes "\n") (append_assoc (codes "outcome") front (registers_text t (drop n names) (drop n values)) ∙ ap (λ (w : List ℕ). codes "outcome" ++ w) (registers_split t names values n))

-- an entry from its parts
pub entry_is : (t test : Litmus) (names : List (ℕ × ℕ)) (events : List Event) (sources order : List ℕ) (entry : Entry)
    → test ≡ t → names ≡ names_of t → events ≡ choice_events t (choice_at t entry.choice) → sources ≡ (choice_at t entry.choice).sources → order ≡ entry.order
    → (line (outcome_text test names entry.outcome) ++ from_lines test events sources) ++ order_line test events order ≡ entry_text t entry
entry_is t test names events sources order entry same named evented sourced ordered =
    ap (λ (u : Litmus). text u names events sources order) same
    ∙ ap (λ (ns : List (ℕ × ℕ)). text t ns events sources order) named
    ∙ ap (λ (es : List Event). text t (names_of t) es sources order) evented
    ∙ ap (λ (ws : List ℕ). text t (names_of t) (choice_events t (choice_at t entry.choice)) ws order) sourced
    ∙ ap (λ (ns : List ℕ). text t (names_of t) (choice_events t (choice_at t entry.choice)) (choice_at t entry.choice).sources ns) ordered
  where
    text : Litmus → List (ℕ × ℕ) → List Event → List ℕ → List ℕ → List ℕ
    text u ns es ws os = (line (outcome_text u ns entry.outcome) ++ from_lines u es ws) ++ order_line u es os
