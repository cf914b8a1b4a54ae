-- The state of the reader: what the lines read so far say, and the step that each form makes.
use Rattle.std.specs.Prelude.{◌≢◌, ℕ, ◌+◌, ◌≤◌, ◌<◌, ◌==◌, ◌||◌, ◌&&◌, nat_lt, nat_le, Bool, true, if◌then◌else◌}
use Rattle.std.specs.Prelude.{List, [], ◌∷◌, ◌++◌, length, Option, Some, None, Result, Ok, Err, IfSome}
use Rattle.std.specs.List.{list_any, list_all, AllByRecursion}
use Rattle.std.specs.Str.{bytes_eq}
use Rattle.lit_read.specs.declared.fault.ReadKind.{ReadKind}
use Rattle.lit_read.specs.declared.fault.ReadKind.TheVariants.{Misplaced, BlockSize, TooManyAgents, DuplicateAgent}
use Rattle.lit_read.specs.declared.fault.ReadKind.TheVariants.{LiteralRange, OutOfBlock, UnknownName, TooDeep}
use Rattle.lit_syntax.specs.declared.limits.TheConstants.{BLOCK_LIMIT, AGENT_LIMIT, COMPARED_LIMIT, REGISTERS, IF_LIMIT}
use Rattle.lit_syntax.specs.Syntax.{Statement, Statements, Load, Store, Exchange, CompareExchange, If, End, Then, Agent, Litmus, IsLitmus}
use Rattle.lit_syntax.specs.Syntax.{AreStatementsIn, nesting, writes, fits_window}
use Rattle.lit_syntax.specs.Tokens.{IsWord}
use Rattle.lit_syntax.specs.Written.{Comparison, Written, written_depths, is_shallow}
use Rattle.lit_syntax.specs.Forms.{Form, Blank, TestLine, BytesLine, AgentLine, StatementLine, IfLine, ElseLine, EndLine, CheckLine}
use Rattle.lit_read.specs.Faults.{stays_in_block}
use Rattle.lit_read.specs.Spelling.{written_value}
use Rattle.lit_read.specs.Internal.Marks.{Mark, Compares}

-- An open `if`: its line, the statements before it, and the then-part once the else line has come.
pub record OpenIf : Type 0 where
  pub reg : ℕ
  pub equal : Bool
  pub value : ℕ
  pub before : Statements
  pub then_part : Option Statements

pub data State : Type 0 where
  Empty : State
  Named : (name : List ℕ) → State
  Sized : (name : List ℕ) → (bytes : ℕ) → State
  Open : (name : List ℕ) → (bytes : ℕ) → (agents : List Agent) → (agent : List ℕ) → (ifs : List OpenIf) → (body : Statements) → State
  Whole : Litmus → State

-- statements with one more at the end
abbrev pub followed_by : Statements → Statement → Statements
followed_by End s = Then s End
followed_by (Then t ts) s = Then t (followed_by ts s)

-- a draft with one statement more in its open part
abbrev pub with_statement : State → Statement → State
with_statement (Open name bytes agents agent ifs body) s = Open name bytes agents agent ifs (followed_by body s)
with_statement t s = t

-- agents with one more at the end
abbrev pub with_agent : List Agent → List ℕ → Statements → List Agent
with_agent agents name body = agents ++ record { name = name; body = body } ∷ []

-- what the agent with a name says: nothing where no agent has it
abbrev pub body_named : List ℕ → List Agent → Statements
body_named name [] = End
body_named name (a ∷ others) = if bytes_eq name a.name then a.body else body_named name others

-- the comparison names an agent that writes the register
abbrev pub is_known : List Agent → Comparison → Bool
is_known agents c = writes (body_named c.agent agents) c.reg

abbrev pub is_known_mark : List Agent → Mark → Bool
is_known_mark agents (Compares c) = is_known agents c
is_known_mark agents _ = true

abbrev pub are_known : List Agent → Written → Bool
are_known agents w = list_all (λ p. is_known agents p.0) (written_depths 0 w)

-- the numbers that an access writes fit their element
abbrev pub has_fitting_literals : Statement → Bool
has_fitting_literals (Load reg window index atomic) = true
has_fitting_literals (Store window index value atomic) = fits_window window value
has_fitting_literals (Exchange reg window index value) = fits_window window value
has_fitting_literals (CompareExchange reg window index expected value) = fits_window window expected && fits_window window value
has_fitting_literals (If reg equal value body other) = true

-- every comparison compares with a number that a register can hold
abbrev pub has_small_numbers : Written → Bool
has_small_numbers w = list_all (λ p. nat_le p.0.value COMPARED_LIMIT) (written_depths 0 w)

unfoldable pub test_step : State → List ℕ → Result State ReadKind
test_step Empty name = Ok (Named name)
test_step _ name = Err Misplaced

unfoldable pub block_step : State → ℕ → Result State ReadKind
block_step (Named name) bytes = if bytes == 0 || nat_lt BLOCK_LIMIT bytes then Err BlockSize else Ok (Sized name bytes)
block_step _ bytes = Err Misplaced

unfoldable pub next_step : List ℕ → ℕ → List Agent → List ℕ → Statements → List ℕ → Result State ReadKind
next_step name bytes agents agent body next =
    if nat_le AGENT_LIMIT (length agents + 1) then Err TooManyAgents
    else (if list_any (λ a. bytes_eq next a.name) (with_agent agents agent body) then Err DuplicateAgent
    else Ok (Open name bytes (with_agent agents agent body) next [] End))

unfoldable pub agent_step : State → List ℕ → Result State ReadKind
agent_step (Sized name bytes) agent = Ok (Open name bytes [] agent [] End)
agent_step (Open name bytes agents agent [] body) next = next_step name bytes agents agent body next
agent_step _ agent = Err Misplaced

unfoldable pub statement_step : State → Statement → Result State ReadKind
statement_step (Open name bytes agents agent ifs body) s =
    if has_fitting_literals s
    then (if stays_in_block bytes s then Ok (Open name bytes agents agent ifs (followed_by body s)) else Err OutOfBlock)
    else Err LiteralRange
statement_step _ s = Err Misplaced

-- the statement, if its literals fit and it stays in the block
abbrev pub checked_statement : ℕ → Statement → Result Statement ReadKind
checked_statement bytes s =
    if has_fitting_literals s
    then (if stays_in_block bytes s then Ok s else Err OutOfBlock)
    else Err LiteralRange

unfoldable pub if_step : State → ℕ → Bool → ℕ → Result State ReadKind
if_step (Open name bytes agents agent ifs body) reg equal value =
    if nat_lt COMPARED_LIMIT value then Err LiteralRange
    else (if nat_le IF_LIMIT (length ifs) then Err TooDeep
    else Ok (Open name bytes agents agent
    (record { reg = reg; equal = equal; value = value; before = body; then_part = None } ∷ ifs) End))
if_step _ reg equal value = Err Misplaced

-- the open `if` after its else line
abbrev pub else_open_if : OpenIf → Statements → OpenIf
else_open_if l body = record { reg = l.reg; equal = l.equal; value = l.value; before = l.before; then_part = Some body }

abbrev pub else_from : List ℕ → ℕ → List Agent → List ℕ → OpenIf → List OpenIf → Statements → Option Statements → Result State ReadKind
else_from name bytes agents agent l ifs body None = Ok (Open name bytes agents agent (else_open_if l body ∷ ifs) End)
else_from name bytes agents agent l ifs body (Some part) = Err Misplaced

unfoldable pub else_step : State → Result State ReadKind
else_step (Open name bytes agents agent (l ∷ ifs) body) = else_from name bytes agents agent l ifs body l.then_part
else_step _ = Err Misplaced

-- the whole `if`, whose last part has these statements
abbrev pub ended_if : OpenIf → Statements → Option Statements → Statement
ended_if l body None = If l.reg l.equal l.value body End
ended_if l body (Some part) = If l.reg l.equal l.value part body

unfoldable pub end_step : State → Result State ReadKind
end_step (Open name bytes agents agent (l ∷ ifs) body) =
    Ok (Open name bytes agents agent ifs (followed_by l.before (ended_if l body l.then_part)))
end_step _ = Err Misplaced

unfoldable pub test_of : List ℕ → ℕ → List Agent → Written → Result Litmus ReadKind
test_of name bytes agents w =
    if has_small_numbers w
    then (if are_known agents w
    then (if is_shallow w
    then Ok (record { name = name; bytes = bytes; agents = agents; check = written_value agents w })
    else Err TooDeep)
    else Err UnknownName)
    else Err LiteralRange

abbrev pub whole : Result Litmus ReadKind → Result State ReadKind
whole (Ok t) = Ok (Whole t)
whole (Err k) = Err k

unfoldable pub check_step : State → Written → Result State ReadKind
check_step (Open name bytes agents agent [] body) w = whole (test_of name bytes (with_agent agents agent body) w)
check_step _ w = Err Misplaced

-- the state after one more form
unfoldable pub step : State → Form → Result State ReadKind
step s Blank = Ok s
step s (TestLine name) = test_step s name
step s (BytesLine bytes) = block_step s bytes
step s (AgentLine name) = agent_step s name
step s (StatementLine t) = statement_step s t
step s (IfLine reg equal value) = if_step s reg equal value
step s ElseLine = else_step s
step s EndLine = end_step s
step s (CheckLine w) = check_step s w

-- no two agents have one name
abbrev pub AreDistinct : List Agent → Type 0
AreDistinct [] = Unit {0}
AreDistinct (a ∷ others) = AllByRecursion (λ b. a.name ≢ b.name) others × AreDistinct others

-- what the statements of a part inside `outside` open `if`s can be, over a block of `bytes` bytes
abbrev pub IsPart : ℕ → ℕ → Statements → Type 0
IsPart bytes outside body = AreStatementsIn bytes body × (nesting body + outside ≤ IF_LIMIT)

-- what agents over a block of `bytes` bytes can be
pub record AreAgentsIn (bytes : ℕ) (agents : List Agent) : Type 0 where
  pub some_byte : 1 ≤ bytes
  pub block : bytes ≤ BLOCK_LIMIT
  pub few : length agents ≤ AGENT_LIMIT
  pub named : AllByRecursion (λ a. IsWord a.name) agents
  pub distinct : AreDistinct agents
  pub bodies : AllByRecursion (λ a. IsPart bytes 0 a.body) agents

pub record IsOpenIf (bytes outside : ℕ) (l : OpenIf) : Type 0 where
  pub room : outside < IF_LIMIT
  pub register : l.reg < REGISTERS
  pub small : l.value ≤ COMPARED_LIMIT
  pub before : IsPart bytes outside l.before
  pub then_part : IfSome l.then_part (λ part. IsPart bytes (outside + 1) part)

abbrev pub AreOpenIfs : ℕ → List OpenIf → Type 0
AreOpenIfs bytes [] = Unit {0}
AreOpenIfs bytes (l ∷ ifs) = IsOpenIf bytes (length ifs) l × AreOpenIfs bytes ifs

-- the invariant of the state: what lines without a fault can say
unfoldable pub IsState : State → Type 0
IsState (Named name) = IsWord name
IsState (Sized name bytes) = IsWord name × (1 ≤ bytes) × (bytes ≤ BLOCK_LIMIT)
IsState (Open name bytes agents agent ifs body) =
    IsWord name × AreAgentsIn bytes (with_agent agents agent End) × AreOpenIfs bytes ifs × IsPart bytes (length ifs) body
IsState Empty = Unit {0}
IsState (Whole t) = IsLitmus t

-- no check line has ended it
abbrev pub IsUnfinished : State → Type 0
IsUnfinished (Whole t) = ⊥
IsUnfinished _ = Unit {0}
