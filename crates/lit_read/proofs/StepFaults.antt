-- A form that a draft takes has no fault, and one that it refuses has this fault and none with a lower number.
use Rattle.std.proofs.Common.{◌≡◌, ℕ, suc, ◌+◌, ◌<◌, Bool, true, false, cond, not, eqb, ltb, leb, ◌||◌, List, [], ◌∷◌, ◌++◌, length, Option, Some, None, is_some, Result, Ok, Err, refl, ap, sym, ◌∙◌, arith}
use Rattle.std.specs.List.{list_any, list_all}
use Rattle.std.specs.Option.{unwrap_or}
use Rattle.std.specs.Str.{bytes_eq}
use Rattle.std.proofs.lemmas.List.{length-append}
use Rattle.lit_read.specs.declared.fault.ReadKind.{ReadKind}
use Rattle.lit_read.specs.declared.fault.ReadKind.TheVariants.{TooLong, NotAscii, Syntax, Misplaced, BlockSize, TooManyAgents, DuplicateAgent, LiteralRange, OutOfBlock, UnknownName, TooDeep, MissingPart, OutOfMemory}
use Rattle.lit_syntax.specs.declared.limits.TheConstants.{BLOCK_LIMIT, AGENT_LIMIT, COMPARED_LIMIT, IF_LIMIT}
use Rattle.lit_syntax.specs.Syntax.{Statement, Statements, Load, Store, Exchange, CompareExchange, If, End, Agent, writes}
use Rattle.lit_syntax.specs.Tokens.{begins_with}
use Rattle.lit_syntax.specs.Written.{Comparison, Written, written_depths, is_shallow}
use Rattle.lit_syntax.specs.Forms.{Form, Blank, TestLine, BytesLine, AgentLine, StatementLine, IfLine, ElseLine, EndLine, CheckLine}
use Rattle.lit_read.specs.Faults.{number_of, block_of, names_of, open_ifs, agent_writes, is_misplaced, has_large_literal, stays_in_block, is_faulty}
use Rattle.lit_read.specs.Spelling.{written_value}
use Rattle.lit_read.specs.Internal.State.{State, Empty, Named, Sized, Open, Whole, OpenIf, followed_by, with_agent, body_named, is_known, are_known, has_fitting_literals, has_small_numbers, else_from, test_step, block_step, next_step, agent_step, statement_step, if_step, else_step, end_step, test_of, whole, check_step, step}
use Rattle.lit_read.proofs.DraftForms.{Holds, names, any_named, opened, flags, placed, agents_added, agents_wrote}

-- ---- the faults of a form

-- no fault with a lesser number
pub record Clear (n : ℕ) (given : List Form) (f : Form) : Type 0 where
  pub misplaced : 4 < n → is_misplaced given f ≡ false
  pub block : 5 < n → is_faulty BlockSize given f ≡ false
  pub more : 6 < n → is_faulty TooManyAgents given f ≡ false
  pub known : 7 < n → is_faulty DuplicateAgent given f ≡ false
  pub literal : 8 < n → is_faulty LiteralRange given f ≡ false
  pub outside : 9 < n → is_faulty OutOfBlock given f ≡ false
  pub unknown : 10 < n → is_faulty UnknownName given f ≡ false
  pub deep : 11 < n → is_faulty TooDeep given f ≡ false

pub below : (n : ℕ) (given : List Form) (f : Form) → Clear n given f → (j : ReadKind) → number_of j < n → is_faulty j given f ≡ false
unfolding is_faulty
below n given f clear TooLong lt = refl
below n given f clear NotAscii lt = refl
below n given f clear Syntax lt = refl
below n given f clear Misplaced lt = clear.misplaced lt
below n given f clear BlockSize lt = clear.block lt
below n given f clear TooManyAgents lt = clear.more lt
below n given f clear DuplicateAgent lt = clear.known lt
below n given f clear LiteralRange lt = clear.literal lt
below n given f clear OutOfBlock lt = clear.outside lt
below n given f clear UnknownName lt = clear.unknown lt
below n given f clear TooDeep lt = clear.deep lt
below n given f clear MissingPart lt = refl
below n given f clear OutOfMemory lt = refl

-- what a draft's answer says of the form
abbrev pub Outcome : List Form → Form → Result State ReadKind → Type 0
Outcome given f (Ok t) = Clear 17 given f
Outcome given f (Err k) = Clear (number_of k) given f × (is_faulty k given f ≡ true)

misplaced_is : (given : List Form) (f : Form) → is_misplaced given f ≡ true → Outcome given f (Err Misplaced)
unfolding is_faulty
misplaced_is given f is = (
  record { misplaced = λ h. absurd (omega (arith, h)); block = λ h. absurd (omega (arith, h)); more = λ h. absurd (omega (arith, h)); known = λ h. absurd (omega (arith, h)); literal = λ h. absurd (omega (arith, h)); outside = λ h. absurd (omega (arith, h)); unknown = λ h. absurd (omega (arith, h)); deep = λ h. absurd (omega (arith, h)) },
  is,
)

test_outcome : (s : State) (given : List Form) (name : List ℕ) → Holds given s → Outcome given (TestLine name) (test_step s name)
unfolding test_step is_faulty
test_outcome Empty given name h = record { misplaced = λ _. placed Empty given (TestLine name) h; block = λ _. refl; more = λ _. refl; known = λ _. refl; literal = λ _. refl; outside = λ _. refl; unknown = λ _. refl; deep = λ _. refl }
test_outcome (Named m) given name h = misplaced_is given (TestLine name) (placed (Named m) given (TestLine name) h)
test_outcome (Sized m b) given name h = misplaced_is given (TestLine name) (placed (Sized m b) given (TestLine name) h)
test_outcome (Open m b agents agent ifs body) given name h = misplaced_is given (TestLine name) (placed (Open m b agents agent ifs body) given (TestLine name) h)
test_outcome (Whole t) given name h = misplaced_is given (TestLine name) (placed (Whole t) given (TestLine name) h)

block_outcome : (s : State) (given : List Form) (bytes : ℕ) → Holds given s → Outcome given (BytesLine bytes) (block_step s bytes)
unfolding block_step is_faulty
block_outcome (Named m) given bytes h = by (eqb bytes 0 || ltb BLOCK_LIMIT bytes) refl (placed (Named m) given (BytesLine bytes) h)
  where
    by : (b : Bool) → (eqb bytes 0 || ltb BLOCK_LIMIT bytes) ≡ b → is_misplaced given (BytesLine bytes) ≡ false → Outcome given (BytesLine bytes) (cond b (Err BlockSize) (Ok (Sized m bytes)))
    by true is in_place = (record { misplaced = λ _. in_place; block = λ h. absurd (omega (arith, h)); more = λ _. refl; known = λ _. refl; literal = λ _. refl; outside = λ _. refl; unknown = λ _. refl; deep = λ _. refl }, is)
    by false is in_place = record { misplaced = λ _. in_place; block = λ _. is; more = λ _. refl; known = λ _. refl; literal = λ _. refl; outside = λ _. refl; unknown = λ _. refl; deep = λ _. refl }
block_outcome Empty given bytes h = misplaced_is given (BytesLine bytes) (placed Empty given (BytesLine bytes) h)
block_outcome (Sized m b) given bytes h = misplaced_is given (BytesLine bytes) (placed (Sized m b) given (BytesLine bytes) h)
block_outcome (Open m b agents agent ifs body) given bytes h = misplaced_is given (BytesLine bytes) (placed (Open m b agents agent ifs body) given (BytesLine bytes) h)
block_outcome (Whole t) given bytes h = misplaced_is given (BytesLine bytes) (placed (Whole t) given (BytesLine bytes) h)

full_is : (given : List Form) (agents : List Agent) (agent : List ℕ) (name : List ℕ) (x : Bool) → names_of given ≡ names agents ++ agent ∷ [] → leb AGENT_LIMIT (length agents + 1) ≡ x → leb AGENT_LIMIT (length (names_of given)) ≡ x
full_is given agents agent name x are full =
    let len : length (names_of given) ≡ length agents + 1 = ap length are ∙ length-append (names agents) (agent ∷ []) ∙ ap (λ (n : ℕ). n + 1) (names_length agents) in
    ap (λ (n : ℕ). leb AGENT_LIMIT n) len ∙ full
  where
    names_length : (as' : List Agent) → length (names as') ≡ length as'
    names_length [] = refl
    names_length (a ∷ others) = ap suc (names_length others)

names_last : (agents : List Agent) (agent : List ℕ) (body : Statements) → names (with_agent agents agent body) ≡ names agents ++ agent ∷ []
names_last [] agent body = refl
names_last (a ∷ others) agent body = ap (λ (l : List (List ℕ)). a.name ∷ l) (names_last others agent body)

known_is : (given : List Form) (agents : List Agent) (agent : List ℕ) (body : Statements) (name : List ℕ) → names_of given ≡ names agents ++ agent ∷ []
    → list_any (λ n. bytes_eq name n) (names_of given) ≡ list_any (λ a. bytes_eq name a.name) (with_agent agents agent body)
known_is given agents agent body name are = ap (list_any (λ n. bytes_eq name n)) (are ∙ sym (names_last agents agent body)) ∙ any_named name (with_agent agents agent body)

next_outcome : (given : List Form) (m : List ℕ) (b : ℕ) (agents : List Agent) (agent : List ℕ) (body : Statements) (name : List ℕ) → names_of given ≡ names agents ++ agent ∷ [] → is_misplaced given (AgentLine name) ≡ false
    → Outcome given (AgentLine name) (next_step m b agents agent body name)
unfolding next_step is_faulty
next_outcome given m b agents agent body name are in_place =
    by (leb AGENT_LIMIT (length agents + 1)) refl (list_any (λ a. bytes_eq name a.name) (with_agent agents agent body)) refl
  where
    by : (x : Bool) → leb AGENT_LIMIT (length agents + 1) ≡ x → (y : Bool) → list_any (λ a. bytes_eq name a.name) (with_agent agents agent body) ≡ y
        → Outcome given (AgentLine name) (cond x (Err TooManyAgents) (cond y (Err DuplicateAgent) (Ok (Open m b (with_agent agents agent body) name [] End))))
    by true full y known = (record { misplaced = λ _. in_place; block = λ _. refl; more = λ h. absurd (omega (arith, h)); known = λ h. absurd (omega (arith, h)); literal = λ _. refl; outside = λ _. refl; unknown = λ _. refl; deep = λ _. refl }, full_is given agents agent name true are full)
    by false full true known = (record { misplaced = λ _. in_place; block = λ _. refl; more = λ _. full_is given agents agent name false are full; known = λ h. absurd (omega (arith, h)); literal = λ _. refl; outside = λ _. refl; unknown = λ _. refl; deep = λ _. refl }, known_is given agents agent body name are ∙ known)
    by false full false known = record { misplaced = λ _. in_place; block = λ _. refl; more = λ _. full_is given agents agent name false are full; known = λ _. known_is given agents agent body name are ∙ known; literal = λ _. refl; outside = λ _. refl; unknown = λ _. refl; deep = λ _. refl }

agent_outcome : (s : State) (given : List Form) (name : List ℕ) → Holds given s → Outcome given (AgentLine name) (agent_step s name)
unfolding agent_step is_faulty
agent_outcome (Sized m b) given name h = record { misplaced = λ _. placed (Sized m b) given (AgentLine name) h; block = λ _. refl; more = λ _. ap (λ (l : List Form). leb AGENT_LIMIT (length (names_of l))) h; known = λ _. ap (λ (l : List Form). list_any (λ n. bytes_eq name n) (names_of l)) h; literal = λ _. refl; outside = λ _. refl; unknown = λ _. refl; deep = λ _. refl }
agent_outcome (Open m b agents agent [] body) given name h = next_outcome given m b agents agent body name (opened given m b agents agent [] body h).named (placed (Open m b agents agent [] body) given (AgentLine name) h)
agent_outcome (Open m b agents agent (l ∷ ifs) body) given name h = misplaced_is given (AgentLine name) (placed (Open m b agents agent (l ∷ ifs) body) given (AgentLine name) h)
agent_outcome Empty given name h = misplaced_is given (AgentLine name) (placed Empty given (AgentLine name) h)
agent_outcome (Named m) given name h = misplaced_is given (AgentLine name) (placed (Named m) given (AgentLine name) h)
agent_outcome (Whole t) given name h = misplaced_is given (AgentLine name) (placed (Whole t) given (AgentLine name) h)

large_is : (r : Statement) → has_large_literal (StatementLine r) ≡ not (has_fitting_literals r)
large_is (Load reg w i a) = refl
large_is (Store w i v a) = refl
large_is (Exchange reg w i v) = refl
large_is (CompareExchange reg w i e v) = refl
large_is (If reg equal value body other) = refl

statement_outcome : (s : State) (given : List Form) (r : Statement) → Holds given s → Outcome given (StatementLine r) (statement_step s r)
unfolding statement_step is_faulty
statement_outcome (Open m b agents agent ifs body) given r h =
    by (has_fitting_literals r) refl (stays_in_block b r) refl (placed (Open m b agents agent ifs body) given (StatementLine r) h) (ap (λ (n : Option ℕ). stays_in_block (unwrap_or n 0) r) (opened given m b agents agent ifs body h).block)
  where
    by : (x : Bool) → has_fitting_literals r ≡ x → (y : Bool) → stays_in_block b r ≡ y → is_misplaced given (StatementLine r) ≡ false → stays_in_block (unwrap_or (block_of given) 0) r ≡ stays_in_block b r
        → Outcome given (StatementLine r) (cond x (cond y (Ok (Open m b agents agent ifs (followed_by body r))) (Err OutOfBlock)) (Err LiteralRange))
    by false fits y within in_place same = (record { misplaced = λ _. in_place; block = λ _. refl; more = λ _. refl; known = λ _. refl; literal = λ h. absurd (omega (arith, h)); outside = λ h. absurd (omega (arith, h)); unknown = λ _. refl; deep = λ _. refl }, large_is r ∙ ap not fits)
    by true fits false within in_place same = (record { misplaced = λ _. in_place; block = λ _. refl; more = λ _. refl; known = λ _. refl; literal = λ _. large_is r ∙ ap not fits; outside = λ h. absurd (omega (arith, h)); unknown = λ _. refl; deep = λ _. refl }, ap not (same ∙ within))
    by true fits true within in_place same = record { misplaced = λ _. in_place; block = λ _. refl; more = λ _. refl; known = λ _. refl; literal = λ _. large_is r ∙ ap not fits; outside = λ _. ap not (same ∙ within); unknown = λ _. refl; deep = λ _. refl }
statement_outcome Empty given r h = misplaced_is given (StatementLine r) (placed Empty given (StatementLine r) h)
statement_outcome (Named m) given r h = misplaced_is given (StatementLine r) (placed (Named m) given (StatementLine r) h)
statement_outcome (Sized m b) given r h = misplaced_is given (StatementLine r) (placed (Sized m b) given (StatementLine r) h)
statement_outcome (Whole t) given r h = misplaced_is given (StatementLine r) (placed (Whole t) given (StatementLine r) h)

flags_length : (ifs : List OpenIf) → length (flags ifs) ≡ length ifs
flags_length [] = refl
flags_length (l ∷ ifs) = ap suc (flags_length ifs)

if_outcome : (s : State) (given : List Form) (reg : ℕ) (equal : Bool) (value : ℕ) → Holds given s → Outcome given (IfLine reg equal value) (if_step s reg equal value)
unfolding if_step is_faulty
if_outcome (Open m b agents agent ifs body) given reg equal value h =
    by (ltb COMPARED_LIMIT value) refl (leb IF_LIMIT (length ifs)) refl (placed (Open m b agents agent ifs body) given (IfLine reg equal value) h)
    (ap (λ (l : List Bool). leb IF_LIMIT (length l)) (opened given m b agents agent ifs body h).opens ∙ ap (λ (n : ℕ). leb IF_LIMIT n) (flags_length ifs))
  where
    by : (x : Bool) → ltb COMPARED_LIMIT value ≡ x → (y : Bool) → leb IF_LIMIT (length ifs) ≡ y → is_misplaced given (IfLine reg equal value) ≡ false → leb IF_LIMIT (length (open_ifs given)) ≡ leb IF_LIMIT (length ifs)
        → Outcome given (IfLine reg equal value) (cond x (Err LiteralRange) (cond y (Err TooDeep) (Ok (Open m b agents agent (record { reg = reg; equal = equal; value = value; before = body; then_part = None } ∷ ifs) End))))
    by true large y full in_place same = (record { misplaced = λ _. in_place; block = λ _. refl; more = λ _. refl; known = λ _. refl; literal = λ h. absurd (omega (arith, h)); outside = λ _. refl; unknown = λ _. refl; deep = λ h. absurd (omega (arith, h)) }, large)
    by false large true full in_place same = (record { misplaced = λ _. in_place; block = λ _. refl; more = λ _. refl; known = λ _. refl; literal = λ _. large; outside = λ _. refl; unknown = λ _. refl; deep = λ h. absurd (omega (arith, h)) }, same ∙ full)
    by false large false full in_place same = record { misplaced = λ _. in_place; block = λ _. refl; more = λ _. refl; known = λ _. refl; literal = λ _. large; outside = λ _. refl; unknown = λ _. refl; deep = λ _. same ∙ full }
if_outcome Empty given reg equal value h = misplaced_is given (IfLine reg equal value) (placed Empty given (IfLine reg equal value) h)
if_outcome (Named m) given reg equal value h = misplaced_is given (IfLine reg equal value) (placed (Named m) given (IfLine reg equal value) h)
if_outcome (Sized m b) given reg equal value h = misplaced_is given (IfLine reg equal value) (placed (Sized m b) given (IfLine reg equal value) h)
if_outcome (Whole t) given reg equal value h = misplaced_is given (IfLine reg equal value) (placed (Whole t) given (IfLine reg equal value) h)

else_outcome : (s : State) (given : List Form) → Holds given s → Outcome given ElseLine (else_step s)
unfolding else_step is_faulty
else_outcome (Open m b agents agent [] body) given h = misplaced_is given ElseLine (placed (Open m b agents agent [] body) given ElseLine h)
else_outcome (Open m b agents agent (l ∷ ifs) body) given h = by l.then_part refl (placed (Open m b agents agent (l ∷ ifs) body) given ElseLine h)
  where
    by : (p : Option Statements) → l.then_part ≡ p → is_misplaced given ElseLine ≡ not (begins_with not (is_some l.then_part ∷ flags ifs)) → Outcome given ElseLine (else_from m b agents agent l ifs body p)
    by (Some part) is in_place = misplaced_is given ElseLine (in_place ∙ ap (λ (o : Option Statements). not (begins_with not (is_some o ∷ flags ifs))) is)
    by None is in_place = record { misplaced = λ _. in_place ∙ ap (λ (o : Option Statements). not (begins_with not (is_some o ∷ flags ifs))) is; block = λ _. refl; more = λ _. refl; known = λ _. refl; literal = λ _. refl; outside = λ _. refl; unknown = λ _. refl; deep = λ _. refl }
else_outcome Empty given h = misplaced_is given ElseLine (placed Empty given ElseLine h)
else_outcome (Named m) given h = misplaced_is given ElseLine (placed (Named m) given ElseLine h)
else_outcome (Sized m b) given h = misplaced_is given ElseLine (placed (Sized m b) given ElseLine h)
else_outcome (Whole t) given h = misplaced_is given ElseLine (placed (Whole t) given ElseLine h)

end_outcome : (s : State) (given : List Form) → Holds given s → Outcome given EndLine (end_step s)
unfolding end_step is_faulty
end_outcome (Open m b agents agent [] body) given h = misplaced_is given EndLine (placed (Open m b agents agent [] body) given EndLine h)
end_outcome (Open m b agents agent (l ∷ ifs) body) given h = record { misplaced = λ _. placed (Open m b agents agent (l ∷ ifs) body) given EndLine h; block = λ _. refl; more = λ _. refl; known = λ _. refl; literal = λ _. refl; outside = λ _. refl; unknown = λ _. refl; deep = λ _. refl }
end_outcome Empty given h = misplaced_is given EndLine (placed Empty given EndLine h)
end_outcome (Named m) given h = misplaced_is given EndLine (placed (Named m) given EndLine h)
end_outcome (Sized m b) given h = misplaced_is given EndLine (placed (Sized m b) given EndLine h)
end_outcome (Whole t) given h = misplaced_is given EndLine (placed (Whole t) given EndLine h)

known_all : (given : List Form) (agents : List Agent) (xs : List (Comparison × ℕ)) → ((name : List ℕ) (reg : ℕ) → agent_writes name reg given ≡ writes (body_named name agents) reg)
    → list_all (λ p. agent_writes p.0.agent p.0.reg given) xs ≡ list_all (λ p. is_known agents p.0) xs
known_all given agents [] same = refl
known_all given agents (x ∷ xs) same = rw (same x.0.agent x.0.reg, known_all given agents xs same) refl

known_same : (given : List Form) (m : List ℕ) (b : ℕ) (agents : List Agent) (agent : List ℕ) (body : Statements) (w : Written) → Holds given (Open m b agents agent [] body)
    → list_all (λ p. agent_writes p.0.agent p.0.reg given) (written_depths 0 w) ≡ are_known (with_agent agents agent body) w
known_same given m b agents agent body w h =
    known_all given (with_agent agents agent body) (written_depths 0 w)
    (λ name reg. ap (agent_writes name reg) h.2 ∙ agents_wrote name reg (h.0 ++ AgentLine agent ∷ h.1) (with_agent agents agent body) (agents_added h.0 h.1 agents agent body h.3 h.4))

check_outcome : (s : State) (given : List Form) (w : Written) → Holds given s → Outcome given (CheckLine w) (check_step s w)
unfolding check_step test_of is_faulty
check_outcome (Open m b agents agent [] body) given w h =
    by (has_small_numbers w) refl (are_known (with_agent agents agent body) w) refl (is_shallow w) refl (placed (Open m b agents agent [] body) given (CheckLine w) h) (known_same given m b agents agent body w h)
  where
    by : (x : Bool) → has_small_numbers w ≡ x → (y : Bool) → are_known (with_agent agents agent body) w ≡ y → (z : Bool) → is_shallow w ≡ z → is_misplaced given (CheckLine w) ≡ false
        → list_all (λ p. agent_writes p.0.agent p.0.reg given) (written_depths 0 w) ≡ are_known (with_agent agents agent body) w
        → Outcome given (CheckLine w) (whole (cond x (cond y (cond z (Ok (record { name = m; bytes = b; agents = with_agent agents agent body; check = written_value (with_agent agents agent body) w })) (Err TooDeep)) (Err UnknownName)) (Err LiteralRange)))
    by false small y known z shallow in_place same = (record { misplaced = λ _. in_place; block = λ _. refl; more = λ _. refl; known = λ _. refl; literal = λ h. absurd (omega (arith, h)); outside = λ _. refl; unknown = λ h. absurd (omega (arith, h)); deep = λ h. absurd (omega (arith, h)) }, ap not small)
    by true small false known z shallow in_place same = (record { misplaced = λ _. in_place; block = λ _. refl; more = λ _. refl; known = λ _. refl; literal = λ _. ap not small; outside = λ _. refl; unknown = λ h. absurd (omega (arith, h)); deep = λ h. absurd (omega (arith, h)) }, ap not (same ∙ known))
    by true small true known false shallow in_place same = (record { misplaced = λ _. in_place; block = λ _. refl; more = λ _. refl; known = λ _. refl; literal = λ _. ap not small; outside = λ _. refl; unknown = λ _. ap not (same ∙ known); deep = λ h. absurd (omega (arith, h)) }, ap not shallow)
    by true small true known true shallow in_place same = record { misplaced = λ _. in_place; block = λ _. refl; more = λ _. refl; known = λ _. refl; literal = λ _. ap not small; outside = λ _. refl; unknown = λ _. ap not (same ∙ known); deep = λ _. ap not shallow }
check_outcome (Open m b agents agent (l ∷ ifs) body) given w h = misplaced_is given (CheckLine w) (placed (Open m b agents agent (l ∷ ifs) body) given (CheckLine w) h)
check_outcome Empty given w h = misplaced_is given (CheckLine w) (placed Empty given (CheckLine w) h)
check_outcome (Named m) given w h = misplaced_is given (CheckLine w) (placed (Named m) given (CheckLine w) h)
check_outcome (Sized m b) given w h = misplaced_is given (CheckLine w) (placed (Sized m b) given (CheckLine w) h)
check_outcome (Whole t) given w h = misplaced_is given (CheckLine w) (placed (Whole t) given (CheckLine w) h)

pub outcome : (s : State) (given : List Form) (f : Form) → Holds given s → Outcome given f (step s f)
unfolding step is_faulty
outcome s given Blank h = record { misplaced = λ _. refl; block = λ _. refl; more = λ _. refl; known = λ _. refl; literal = λ _. refl; outside = λ _. refl; unknown = λ _. refl; deep = λ _. refl }
outcome s given (TestLine name) h = test_outcome s given name h
outcome s given (BytesLine bytes) h = block_outcome s given bytes h
outcome s given (AgentLine name) h = agent_outcome s given name h
outcome s given (StatementLine r) h = statement_outcome s given r h
outcome s given (IfLine reg equal value) h = if_outcome s given reg equal value h
outcome s given ElseLine h = else_outcome s given h
outcome s given EndLine h = end_outcome s given h
outcome s given (CheckLine w) h = check_outcome s given w h
