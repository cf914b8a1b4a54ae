-- What accesses and turns preserve.
use Rattle.lit_interleave.proofs.Words.{◌++◌, ◌==◌, [], after_each, after_end, after_statement, after_turn, Agent, ap, append-nil}
use Rattle.lit_interleave.proofs.Words.{append_assoc, AreStatementsIn, arith, beginning, cases_lt, CompareExchange, compares, Contents}
use Rattle.lit_interleave.proofs.Words.{drop, drop_all, End, Exchange, false, first_byte, found_by, from_access, get_or-map, get_or_past}
use Rattle.lit_interleave.proofs.Words.{If, if◌then◌else◌, inl, inr, is_access, is_in_block, IsLitmus, IsStatementIn, IsTrue, left_behind}
use Rattle.lit_interleave.proofs.Words.{length, length-map, length-paste, length-replicate, length-slice_set, List, Litmus, Load, map}
use Rattle.lit_interleave.proofs.Words.{Moment, number_in, payload_of, Progress, progress_of, refl, REGISTERS, replicate, slice_index}
use Rattle.lit_interleave.proofs.Words.{slice_index_or, slice_set, Statement, Statements, Store, subst, suc, sym, take, take_all, Then}
use Rattle.lit_interleave.proofs.Words.{true, Uint16, Uint32, Window, window-in_block, window_size, with_number, zero, ℕ, ◌∙◌, ◌∷◌, ◌≡◌}
use Rattle.lit_interleave.proofs.Words.{◌≤◌}
use Rattle.lit_interleave.specs.Interleaving.{accessed, after}
use Rattle.lit_interleave.proofs.NextAccess.{said_from}

pub few_bytes : (window : Window) → window_size window ≤ 4
few_bytes Uint16 = omega arith
few_bytes Uint32 = omega arith
few_bytes window = omega arith

-- the block preserves its length
pub number_preserves : (block : List ℕ) (window : Window) (index value : ℕ) → IsTrue (is_in_block (length block) window index) → length (with_number block window index value) ≡ length block
number_preserves block window index value h = rw (← append_assoc)
    (length-paste block (first_byte window index) (payload_of value) (window_size window) (window-in_block (length block) index window h)
    (few_bytes window))

pub access_preserves : (s : Statement) (c : Contents) → is_access s ≡ true → IsStatementIn (length c.block) s → length (after_statement s c).block ≡ length c.block
access_preserves (Load reg window index atomic) c is said = refl
access_preserves (Store window index value atomic) c is said = number_preserves c.block window index value said.0
access_preserves (Exchange reg window index value) c is said = number_preserves c.block window index value said.1
access_preserves (CompareExchange reg window index expected value) c is said =
    elim (number_in c.block window index == expected) as (λ b. length (if b then with_number c.block window index value else c.block)
    ≡ length c.block) [
      | true ↦ number_preserves c.block window index value said.1
      | false ↦ refl
    ]
access_preserves (If reg equal value body other) c is said = absurd (let e : false ≡ true = is in cc)

-- ---- what turns preserve, from moment to moment
-- ---- what statements preserve
mutual
  preserves_in : (s : Statement) (c : Contents) (n : ℕ) → length c.block ≡ n → IsStatementIn n s → length (after_statement s c).block ≡ n
  preserves_in (If reg equal value body other) c n long said =
      elim (compares equal (slice_index c.registers reg) value) as (λ b. length (if b then after body c else after other c).block ≡ n) [
        | true ↦ preserves body c n long said.2
        | false ↦ preserves other c n long said.3
      ]
  preserves_in s c n long said = access_preserves s c refl (subst (λ (k : ℕ). IsStatementIn k s) (sym long) said) ∙ long

  pub preserves : (ss : Statements) (c : Contents) (n : ℕ) → length c.block ≡ n → AreStatementsIn n ss → length (after ss c).block ≡ n
  preserves End c n long said = long
  preserves (Then s ss) c n long said = preserves ss (after_statement s c) n (preserves_in s c n long said.0) said.1

accessed_preserves : (ss : Statements) (c : Contents) (n : ℕ) → length c.block ≡ n → AreStatementsIn n ss → (AreStatementsIn n (accessed ss c).0) × (length (accessed ss c).1.block ≡ n)
accessed_preserves End c n long said = (tt, long)
accessed_preserves (Then s ss) c n long said = (said.1, preserves_in s c n long said.0)

-- ---- moments
-- The block is as long as the test says, each agent of the test has a progress, and the remaining statements of each lie in the block.
pub record IsSound (t : Litmus) (m : Moment) : Type 0 where
  pub long : length m.block ≡ t.bytes
  pub one_each : length m.agents ≡ length t.agents
  pub said : (agent : ℕ) → AreStatementsIn t.bytes (progress_of m agent).left

put_one : (P : Progress → Type 0) (ps : List Progress) (i : ℕ) (p d : Progress) → ((k : ℕ) → P (slice_index_or ps k d)) → P p → (k : ℕ) → P (slice_index_or (slice_set ps i p) k d)
put_one P [] i p d all it k = all k
put_one P (q ∷ ps) zero p d all it zero = it
put_one P (q ∷ ps) zero p d all it (suc k) = all (suc k)
put_one P (q ∷ ps) (suc i) p d all it zero = all zero
put_one P (q ∷ ps) (suc i) p d all it (suc k) = put_one P ps i p d (λ j. all (suc j)) it k

sound_behind : (t : Litmus) (m : Moment) (agent : ℕ) (left : Statements) (c : Contents) → IsSound t m → AreStatementsIn t.bytes left → length c.block ≡ t.bytes → IsSound t (left_behind m agent left c)
sound_behind t m agent left c s said long = record {
  long = long;
  one_each = length-slice_set m.agents agent (record { left = left; registers = c.registers }) ∙ s.one_each;
  said = put_one (λ (p : Progress). AreStatementsIn t.bytes p.left) m.agents agent (record { left = left; registers = c.registers }) (record { left = End; registers = [] }) s.said said;
}

pub sound_turn : (t : Litmus) (m : Moment) (agent : ℕ) → IsSound t m → IsSound t (after_turn m agent)
sound_turn t m agent s =
    let p = progress_of m agent in
    let preserved = accessed_preserves (from_access p.registers p.left) (found_by m agent) t.bytes s.long (said_from t.bytes p.registers p.left (s.said agent)) in
    sound_behind t m agent (accessed (from_access p.registers p.left) (found_by m agent)).0 (accessed (from_access p.registers p.left) (found_by m agent)).1 s preserved.0 preserved.1

pub sound_end : (t : Litmus) (m : Moment) (agent : ℕ) → IsSound t m → IsSound t (after_end m agent)
sound_end t m agent s =
    sound_behind t m agent End (after (progress_of m agent).left (found_by m agent)) s tt (preserves (progress_of m agent).left (found_by m agent) t.bytes s.long (s.said agent))

pub sound_each : (t : Litmus) (step : Moment → ℕ → Moment) → ((m : Moment) (agent : ℕ) → IsSound t m → IsSound t (step m agent)) → (m : Moment) (agents : List ℕ) → IsSound t m → IsSound t (after_each step m agents)
sound_each t step one m [] s = s
sound_each t step one m (agent ∷ agents) s = sound_each t step one (step m agent) agents (one m agent s)

-- ---- the beginning
abbrev pub at_first : Agent → Progress
at_first agent = record { left = agent.body; registers = replicate REGISTERS 0 }

pub sound_beginning : (t : Litmus) → IsLitmus t → IsSound t (beginning t)
sound_beginning t is = record {
  long = length-replicate t.bytes 0;
  one_each = length-map t.agents at_first;
  said = λ i. elim (cases_lt i (length t.agents)) [
    | inl lt ↦ rw (get_or-map at_first t.agents i (record { name = []; body = End }) (record { left = End; registers = [] }) lt)
        (is.bodies i lt)
    | inr past ↦ rw (get_or_past (map at_first t.agents) i (record { left = End; registers = [] })
        (omega (arith, length-map t.agents at_first))) tt
  ];
}

-- ---- one agent more
pub after_each-more : (step : Moment → ℕ → Moment) (m : Moment) (agents : List ℕ) (agent : ℕ) → after_each step m (agents ++ agent ∷ []) ≡ step (after_each step m agents) agent
after_each-more step m [] agent = refl
after_each-more step m (a ∷ agents) agent = after_each-more step (step m a) agents agent

-- ---- a turn, or all remaining statements, of one agent of a moment
pub stepped : (F : Progress → List ℕ → Statements × Contents) (m : Moment) (agent : ℕ) (p new : Progress) (found now whole : List ℕ)
    → p ≡ progress_of m agent → found ≡ m.block → new.left ≡ (F p found).0
    → record { block = now; registers = new.registers } ≡ (F p found).1
    → whole ≡ now → record { block = whole; agents = slice_set m.agents agent new }
    ≡ left_behind m agent (F (progress_of m agent) m.block).0 (F (progress_of m agent) m.block).1
stepped F m agent p new found now whole is at left done same = rw (← is, ← at, ← left, ← done, same) refl

-- what a write to all of a list leaves
pub written_whole : (xs ys : List ℕ) (n : ℕ) → length ys ≡ length xs → n ≡ length xs → take n (ys ++ drop (length ys) xs) ≡ ys
written_whole xs ys n same long =
    ap (λ (zs : List ℕ). take n (ys ++ zs)) (drop_all (length ys) xs (omega (arith, same))) ∙ ap (take n) (append-nil ys) ∙ take_all n ys (omega (arith, same, long))
