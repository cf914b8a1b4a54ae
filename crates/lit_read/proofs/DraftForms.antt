-- The forms that a draft holds, and which form can follow them.
use Rattle.std.proofs.Common.{◌≡◌, ℕ, ◌≤◌, Bool, true, false, not, cond, ◌||◌, ◌&&◌, List, [], ◌∷◌, ◌++◌, length, map, Option, Some, None, is_some, is_none, refl, ap, sym, subst, ◌∙◌, arith, append_assoc}
use Rattle.std.specs.Prelude.{fold}
use Rattle.std.specs.List.{list_any}
use Rattle.std.specs.Str.{bytes_eq}
use Rattle.std.proofs.lemmas.Bool.{or_parts}
use Rattle.std.proofs.lemmas.List.{append-nil}
use Rattle.std.proofs.lemmas.List.Sums.{fold-append}
use Rattle.std.proofs.lemmas.List.Folds.{list_any-append}
use Rattle.lit_syntax.specs.Syntax.{Statements, Agent, Litmus, writes}
use Rattle.lit_syntax.specs.Tokens.{begins_with}
use Rattle.lit_syntax.specs.Forms.{Form, Blank, TestLine, BytesLine, AgentLine, StatementLine, IfLine, ElseLine, EndLine, CheckLine}
use Rattle.lit_read.specs.Structure.{is_body_line, AreStatements, AreAgents}
use Rattle.lit_read.specs.Faults.{is_check_line, is_begun, ends_in_test, open_behind, open_ifs, is_empty, block_of, names_of, lines_write, agent_writes, is_misplaced}
use Rattle.lit_read.specs.Spelling.{AreFormsOf}
use Rattle.lit_read.specs.Internal.State.{State, Empty, Named, Sized, Open, Whole, OpenIf, with_agent, body_named, IsUnfinished}
use Rattle.lit_read.proofs.SpellLemmas.{all_joined, are_body_lines, statements_body, statements_open, line_writes, any_writes, statements_wrote, or_right_false}

-- ---- the forms of a draft

-- the lines of the open part of an `if`, and of the part before it
abbrev pub AreParts : List Form → Option Statements → Statements → Type 0
AreParts inner None body = AreStatements inner body
AreParts inner (Some part) body = (thens elses : List Form) × (inner ≡ thens ++ ElseLine ∷ elses) × AreStatements thens part × AreStatements elses body

-- the lines of an agent that more statements may follow
abbrev pub AreOpen : List Form → List OpenIf → Statements → Type 0
AreOpen own [] body = AreStatements own body
AreOpen own (l ∷ ifs) body = (outer inner : List Form) × (own ≡ outer ++ IfLine l.reg l.equal l.value ∷ inner) × AreOpen outer ifs l.before × AreParts inner l.then_part body

abbrev pub opening : List ℕ → ℕ → List Form → List ℕ → List Form → List Form
opening name bytes front agent own = TestLine name ∷ BytesLine bytes ∷ (front ++ AgentLine agent ∷ own)

-- the forms so far, none of them blank, are those of the draft
abbrev pub Holds : List Form → State → Type 0
Holds given Empty = given ≡ []
Holds given (Named name) = given ≡ TestLine name ∷ []
Holds given (Sized name bytes) = given ≡ TestLine name ∷ BytesLine bytes ∷ []
Holds given (Open name bytes agents agent ifs body) = (front own : List Form) × (given ≡ opening name bytes front agent own) × AreAgents front agents × AreOpen own ifs body
Holds given (Whole t) = AreFormsOf given t

-- ---- what they say

parts_body : (inner : List Form) (part : Option Statements) (body : Statements) → AreParts inner part body → are_body_lines inner ≡ true
parts_body inner None body h = statements_body inner body h
parts_body inner (Some part) body h = ap are_body_lines h.2 ∙ all_joined is_body_line h.0 (ElseLine ∷ h.1) (statements_body h.0 part h.3) (statements_body h.1 body h.4)

pub open_body : (own : List Form) (ifs : List OpenIf) (body : Statements) → AreOpen own ifs body → are_body_lines own ≡ true
open_body own [] body h = statements_body own body h
open_body own (l ∷ ifs) body h = ap are_body_lines h.2 ∙ all_joined is_body_line h.0 (IfLine l.reg l.equal l.value ∷ h.1) (open_body h.0 ifs l.before h.3) (parts_body h.1 l.then_part body h.4)

abbrev pub flags : List OpenIf → List Bool
flags ifs = map (λ l. is_some l.then_part) ifs

parts_open : (inner : List Form) (part : Option Statements) (body : Statements) (o : List Bool) → AreParts inner part body → fold open_behind (false ∷ o) inner ≡ is_some part ∷ o
parts_open inner None body o h = statements_open inner body (false ∷ o) h
parts_open inner (Some part) body o h =
    ap (fold open_behind (false ∷ o)) h.2 ∙ fold-append open_behind (false ∷ o) h.0 (ElseLine ∷ h.1) ∙ ap (λ (p : List Bool). fold open_behind p (ElseLine ∷ h.1)) (statements_open h.0 part (false ∷ o) h.3) ∙ statements_open h.1 body (true ∷ o) h.4

open_flags : (own : List Form) (ifs : List OpenIf) (body : Statements) → AreOpen own ifs body → fold open_behind [] own ≡ flags ifs
open_flags own [] body h = statements_open own body [] h
open_flags own (l ∷ ifs) body h =
    ap (fold open_behind []) h.2 ∙ fold-append open_behind [] h.0 (IfLine l.reg l.equal l.value ∷ h.1) ∙ ap (λ (p : List Bool). fold open_behind p (IfLine l.reg l.equal l.value ∷ h.1)) (open_flags h.0 ifs l.before h.3)
    ∙ parts_open h.1 l.then_part body (flags ifs) h.4

agents_open : (front : List Form) (agents : List Agent) (o : List Bool) → AreAgents front agents → fold open_behind o front ≡ o
agents_open front [] o h = ap (fold open_behind o) h
agents_open front (a ∷ others) o h = ap (fold open_behind o) h.2 ∙ fold-append open_behind o h.0 h.1 ∙ ap (λ (p : List Bool). fold open_behind p h.1) (statements_open h.0 a.body o h.3) ∙ agents_open h.1 others o h.4

-- lines of which none is of a kind
abbrev pub IsOther : (Form → Bool) → Type 0
IsOther p = (f : Form) → is_body_line f ≡ true → p f ≡ false

any_body : (p : Form → Bool) (fs : List Form) → IsOther p → are_body_lines fs ≡ true → list_any p fs ≡ false
any_body p [] other h = refl
any_body p (f ∷ fs) other h = by (is_body_line f) refl h (any_body p fs other)
  where
    by : (b : Bool) → is_body_line f ≡ b → (b && are_body_lines fs) ≡ true → (are_body_lines fs ≡ true → list_any p fs ≡ false) → (p f || list_any p fs) ≡ false
    by true e g rest = rw (other f e) (rest g)
    by false e g rest = absurd cc

any_agents : (p : Form → Bool) (front : List Form) (agents : List Agent) → IsOther p → ((n : List ℕ) → p (AgentLine n) ≡ false) → AreAgents front agents → list_any p front ≡ false
any_agents p front [] other named h = ap (list_any p) h
any_agents p front (a ∷ others) other named h =
    ap (list_any p) h.2 ∙ ap (λ (b : Bool). b || list_any p (h.0 ++ h.1)) (named a.name) ∙ list_any-append p h.0 h.1 ∙ ap (λ (b : Bool). b || list_any p h.1) (any_body p h.0 other (statements_body h.0 a.body h.3)) ∙ any_agents p h.1 others other named h.4

abbrev is_test_line : Form → Bool
is_test_line (TestLine n) = true
is_test_line _ = false

pub other_check : IsOther is_check_line
other_check (StatementLine s) e = refl
other_check (IfLine r q v) e = refl
other_check ElseLine e = refl
other_check EndLine e = refl
other_check Blank e = refl
other_check (TestLine n) e = refl
other_check (BytesLine b) e = refl
other_check (AgentLine n) e = refl
other_check (CheckLine w) e = absurd cc

other_test : IsOther is_test_line
other_test (StatementLine s) e = refl
other_test (IfLine r q v) e = refl
other_test ElseLine e = refl
other_test EndLine e = refl
other_test Blank e = refl
other_test (TestLine n) e = absurd cc
other_test (BytesLine b) e = refl
other_test (AgentLine n) e = refl
other_test (CheckLine w) e = refl

lone_end : (f : Form) → ends_in_test (f ∷ []) ≡ is_test_line f
lone_end Blank = refl
lone_end (TestLine n) = refl
lone_end (BytesLine b) = refl
lone_end (AgentLine n) = refl
lone_end (StatementLine s) = refl
lone_end (IfLine r q v) = refl
lone_end ElseLine = refl
lone_end EndLine = refl
lone_end (CheckLine w) = refl

no_end : (f : Form) (fs : List Form) → list_any is_test_line fs ≡ false → 1 ≤ length fs → ends_in_test (f ∷ fs) ≡ false
no_end f [] none some = absurd (omega arith)
no_end f (g ∷ []) none some = lone_end g ∙ (or_parts (is_test_line g) false none).0
no_end f (g ∷ h ∷ fs) none some = no_end g (h ∷ fs) (or_parts (is_test_line g) (list_any is_test_line (h ∷ fs)) none).1 (omega arith)

abbrev pub names : List Agent → List (List ℕ)
names agents = map (λ a. a.name) agents

pub names_skip : (fs rest : List Form) → are_body_lines fs ≡ true → names_of (fs ++ rest) ≡ names_of rest
names_skip [] rest h = refl
names_skip (StatementLine s ∷ fs) rest h = names_skip fs rest h
names_skip (IfLine r q v ∷ fs) rest h = names_skip fs rest h
names_skip (ElseLine ∷ fs) rest h = names_skip fs rest h
names_skip (EndLine ∷ fs) rest h = names_skip fs rest h
names_skip (Blank ∷ fs) rest h = absurd cc
names_skip (TestLine n ∷ fs) rest h = absurd cc
names_skip (BytesLine b ∷ fs) rest h = absurd cc
names_skip (AgentLine n ∷ fs) rest h = absurd cc
names_skip (CheckLine w ∷ fs) rest h = absurd cc

agents_names : (front rest : List Form) (agents : List Agent) → AreAgents front agents → names_of (front ++ rest) ≡ names agents ++ names_of rest
agents_names front rest [] h = ap (λ (l : List Form). names_of (l ++ rest)) h
agents_names front rest (a ∷ others) h =
    ap (λ (l : List Form). names_of (l ++ rest)) h.2 ∙ ap (λ (l : List Form). a.name ∷ names_of l) (append_assoc h.0 h.1 rest)
    ∙ ap (λ (l : List (List ℕ)). a.name ∷ l) (names_skip h.0 (h.1 ++ rest) (statements_body h.0 a.body h.3) ∙ agents_names h.1 rest others h.4)

pub any_named : (name : List ℕ) (agents : List Agent) → list_any (λ n. bytes_eq name n) (names agents) ≡ list_any (λ a. bytes_eq name a.name) agents
any_named name [] = refl
any_named name (a ∷ others) = ap (λ (b : Bool). bytes_eq name a.name || b) (any_named name others)

-- ---- what agents write

writes_skip : (name : List ℕ) (reg : ℕ) (fs rest : List Form) → are_body_lines fs ≡ true → agent_writes name reg (fs ++ rest) ≡ agent_writes name reg rest
writes_skip name reg [] rest h = refl
writes_skip name reg (StatementLine s ∷ fs) rest h = writes_skip name reg fs rest h
writes_skip name reg (IfLine r q v ∷ fs) rest h = writes_skip name reg fs rest h
writes_skip name reg (ElseLine ∷ fs) rest h = writes_skip name reg fs rest h
writes_skip name reg (EndLine ∷ fs) rest h = writes_skip name reg fs rest h
writes_skip name reg (Blank ∷ fs) rest h = absurd cc
writes_skip name reg (TestLine n ∷ fs) rest h = absurd cc
writes_skip name reg (BytesLine b ∷ fs) rest h = absurd cc
writes_skip name reg (AgentLine n ∷ fs) rest h = absurd cc
writes_skip name reg (CheckLine w ∷ fs) rest h = absurd cc

or_assoc : (x y z : Bool) → (x || (y || z)) ≡ ((x || y) || z)
or_assoc true y z = refl
or_assoc false y z = refl

own_lines : (reg : ℕ) (fs rest : List Form) → are_body_lines fs ≡ true → lines_write reg (fs ++ rest) ≡ (any_writes reg fs || lines_write reg rest)
own_lines reg [] rest h = refl
own_lines reg (StatementLine s ∷ fs) rest h = ap (λ (b : Bool). line_writes reg (StatementLine s) || b) (own_lines reg fs rest h) ∙ or_assoc (line_writes reg (StatementLine s)) (any_writes reg fs) (lines_write reg rest)
own_lines reg (IfLine r q v ∷ fs) rest h = own_lines reg fs rest h
own_lines reg (ElseLine ∷ fs) rest h = own_lines reg fs rest h
own_lines reg (EndLine ∷ fs) rest h = own_lines reg fs rest h
own_lines reg (Blank ∷ fs) rest h = absurd cc
own_lines reg (TestLine n ∷ fs) rest h = absurd cc
own_lines reg (BytesLine b ∷ fs) rest h = absurd cc
own_lines reg (AgentLine n ∷ fs) rest h = absurd cc
own_lines reg (CheckLine w ∷ fs) rest h = absurd cc

no_own : (reg : ℕ) (fs : List Form) (agents : List Agent) → AreAgents fs agents → lines_write reg fs ≡ false
no_own reg fs [] h = ap (lines_write reg) h
no_own reg fs (a ∷ others) h = ap (lines_write reg) h.2

pub agents_wrote : (name : List ℕ) (reg : ℕ) (fs : List Form) (agents : List Agent) → AreAgents fs agents → agent_writes name reg fs ≡ writes (body_named name agents) reg
agents_wrote name reg fs [] h = ap (agent_writes name reg) h
agents_wrote name reg fs (a ∷ others) h = ap (agent_writes name reg) h.2 ∙ by (bytes_eq name a.name) (agents_wrote name reg h.1 others h.4)
  where
    here : lines_write reg (h.0 ++ h.1) ≡ writes a.body reg
    here = own_lines reg h.0 h.1 (statements_body h.0 a.body h.3) ∙ ap (λ (b : Bool). any_writes reg h.0 || b) (no_own reg h.1 others h.4) ∙ or_right_false (any_writes reg h.0) ∙ statements_wrote h.0 a.body reg h.3

    by : (b : Bool) → agent_writes name reg h.1 ≡ writes (body_named name others) reg → cond b (lines_write reg (h.0 ++ h.1)) (agent_writes name reg (h.0 ++ h.1)) ≡ writes (cond b a.body (body_named name others)) reg
    by true g = here
    by false g = writes_skip name reg h.0 h.1 (statements_body h.0 a.body h.3) ∙ g

pub agents_added : (front own : List Form) (agents : List Agent) (agent : List ℕ) (body : Statements) → AreAgents front agents → AreStatements own body → AreAgents (front ++ AgentLine agent ∷ own) (with_agent agents agent body)
agents_added front own [] agent body a b = (own, [], ap (λ (l : List Form). l ++ AgentLine agent ∷ own) a ∙ ap (λ (l : List Form). AgentLine agent ∷ l) (sym (append-nil own)), b, refl)
agents_added front own (c ∷ others) agent body a b =
    (a.0, a.1 ++ AgentLine agent ∷ own, ap (λ (l : List Form). l ++ AgentLine agent ∷ own) a.2 ∙ ap (λ (l : List Form). AgentLine c.name ∷ l) (append_assoc a.0 a.1 (AgentLine agent ∷ own)), a.3, agents_added a.1 own others agent body a.4 b)

-- ---- what each draft says of its forms

pub record Opened (given : List Form) (bytes : ℕ) (agents : List Agent) (agent : List ℕ) (ifs : List OpenIf) : Type 0 where
  pub block : block_of given ≡ Some bytes
  pub named : names_of given ≡ names agents ++ agent ∷ []
  pub begun : is_begun given ≡ true
  pub unchecked : list_any is_check_line given ≡ false
  pub ends : ends_in_test given ≡ false
  pub opens : open_ifs given ≡ flags ifs

or_true : (x : Bool) → (x || true) ≡ true
or_true true = refl
or_true false = refl

no_check : (front own : List Form) (agents : List Agent) (agent : List ℕ) (ifs : List OpenIf) (body : Statements) → AreAgents front agents → AreOpen own ifs body → list_any is_check_line (front ++ AgentLine agent ∷ own) ≡ false
no_check front own agents agent ifs body a b =
    list_any-append is_check_line front (AgentLine agent ∷ own) ∙ ap (λ (x : Bool). x || list_any is_check_line own) (any_agents is_check_line front agents other_check (λ n. refl) a) ∙ any_body is_check_line own other_check (open_body own ifs body b)

names_open : (front own : List Form) (agents : List Agent) (agent : List ℕ) (ifs : List OpenIf) (body : Statements) → AreAgents front agents → AreOpen own ifs body → names_of (front ++ AgentLine agent ∷ own) ≡ names agents ++ agent ∷ []
names_open front own agents agent ifs body a b =
    agents_names front (AgentLine agent ∷ own) agents a ∙ ap (λ (l : List (List ℕ)). names agents ++ agent ∷ l) (ap names_of (sym (append-nil own)) ∙ names_skip own [] (open_body own ifs body b))

some_last : (xs : List (List ℕ)) (x : List ℕ) → is_empty (xs ++ x ∷ []) ≡ false
some_last [] x = refl
some_last (y ∷ ys) x = refl

opened_is : (name : List ℕ) (bytes : ℕ) (front own : List Form) (agents : List Agent) (agent : List ℕ) (ifs : List OpenIf) (body : Statements) → AreAgents front agents → AreOpen own ifs body
    → Opened (opening name bytes front agent own) bytes agents agent ifs
opened_is name bytes front own agents agent ifs body a b = record {
  block = refl;
  named = names_open front own agents agent ifs body a b;
  begun = ap (λ (l : List (List ℕ)). not (is_empty l) && not (list_any is_check_line (front ++ AgentLine agent ∷ own))) (names_open front own agents agent ifs body a b)
      ∙ ap (λ (x : Bool). not x && not (list_any is_check_line (front ++ AgentLine agent ∷ own))) (some_last (names agents) agent) ∙ ap not (no_check front own agents agent ifs body a b);
  unchecked = no_check front own agents agent ifs body a b;
  ends = no_end (TestLine name) (BytesLine bytes ∷ (front ++ AgentLine agent ∷ own))
      (list_any-append is_test_line front (AgentLine agent ∷ own) ∙ ap (λ (x : Bool). x || list_any is_test_line own) (any_agents is_test_line front agents other_test (λ n. refl) a) ∙ any_body is_test_line own other_test (open_body own ifs body b)) (omega arith);
  opens = fold-append open_behind [] front (AgentLine agent ∷ own) ∙ ap (λ (p : List Bool). fold open_behind p own) (agents_open front agents [] a) ∙ open_flags own ifs body b;
}

pub opened : (given : List Form) (name : List ℕ) (bytes : ℕ) (agents : List Agent) (agent : List ℕ) (ifs : List OpenIf) (body : Statements) → Holds given (Open name bytes agents agent ifs body) → Opened given bytes agents agent ifs
opened given name bytes agents agent ifs body h = subst (λ (l : List Form). Opened l bytes agents agent ifs) (sym h.2) (opened_is name bytes h.0 h.1 agents agent ifs body h.3 h.4)

checked_is : (given : List Form) (t : Litmus) → AreFormsOf given t → list_any is_check_line given ≡ true
checked_is given t h = ap (list_any is_check_line) h.parts ∙ list_any-append is_check_line h.agents (CheckLine h.check ∷ []) ∙ or_true (list_any is_check_line h.agents)

ends_checked : (given : List Form) (t : Litmus) → AreFormsOf given t → ends_in_test given ≡ false
ends_checked given t h =
    ap ends_in_test h.parts ∙ no_end (TestLine t.name) (BytesLine t.bytes ∷ (h.agents ++ CheckLine h.check ∷ []))
    (list_any-append is_test_line h.agents (CheckLine h.check ∷ []) ∙ ap (λ (x : Bool). x || false) (any_agents is_test_line h.agents t.agents other_test (λ n. refl) h.bodies)) (omega arith)

-- ---- where a form can stand

abbrev pub is_in_then_part : List OpenIf → Bool
is_in_then_part ifs = begins_with not (flags ifs)

abbrev pub has_none : List OpenIf → Bool
has_none ifs = is_empty (flags ifs)

abbrev pub can_follow : State → Form → Bool
can_follow s Blank = true
can_follow Empty (TestLine n) = true
can_follow (Named m) (BytesLine b) = true
can_follow (Sized m b) (AgentLine n) = true
can_follow (Open m b agents agent ifs body) (AgentLine n) = has_none ifs
can_follow (Open m b agents agent ifs body) (StatementLine r) = true
can_follow (Open m b agents agent ifs body) (IfLine r q v) = true
can_follow (Open m b agents agent ifs body) ElseLine = is_in_then_part ifs
can_follow (Open m b agents agent ifs body) EndLine = not (has_none ifs)
can_follow (Open m b agents agent ifs body) (CheckLine w) = has_none ifs
can_follow _ _ = false

placed_empty : (f : Form) → is_misplaced [] f ≡ not (can_follow Empty f)
placed_empty Blank = refl
placed_empty (TestLine n) = refl
placed_empty (BytesLine b) = refl
placed_empty (AgentLine n) = refl
placed_empty (StatementLine r) = refl
placed_empty (IfLine r q v) = refl
placed_empty ElseLine = refl
placed_empty EndLine = refl
placed_empty (CheckLine w) = refl

placed_named : (m : List ℕ) (f : Form) → is_misplaced (TestLine m ∷ []) f ≡ not (can_follow (Named m) f)
placed_named m Blank = refl
placed_named m (TestLine n) = refl
placed_named m (BytesLine b) = refl
placed_named m (AgentLine n) = refl
placed_named m (StatementLine r) = refl
placed_named m (IfLine r q v) = refl
placed_named m ElseLine = refl
placed_named m EndLine = refl
placed_named m (CheckLine w) = refl

placed_sized : (m : List ℕ) (b : ℕ) (f : Form) → is_misplaced (TestLine m ∷ BytesLine b ∷ []) f ≡ not (can_follow (Sized m b) f)
placed_sized m b Blank = refl
placed_sized m b (TestLine n) = refl
placed_sized m b (BytesLine c) = refl
placed_sized m b (AgentLine n) = refl
placed_sized m b (StatementLine r) = refl
placed_sized m b (IfLine r q v) = refl
placed_sized m b ElseLine = refl
placed_sized m b EndLine = refl
placed_sized m b (CheckLine w) = refl

pub not_not : (x : Bool) → x ≡ not (not x)
not_not true = refl
not_not false = refl

placed_open : (given : List Form) (m : List ℕ) (b : ℕ) (agents : List Agent) (agent : List ℕ) (ifs : List OpenIf) (body : Statements) (f : Form) → Holds given (Open m b agents agent ifs body)
    → is_misplaced given f ≡ not (can_follow (Open m b agents agent ifs body) f)
placed_open given m b agents agent ifs body Blank h = refl
placed_open given m b agents agent ifs body (TestLine n) h = rw h.2 refl
placed_open given m b agents agent ifs body (BytesLine c) h = let o = opened given m b agents agent ifs body h in rw o.ends refl
placed_open given m b agents agent ifs body (AgentLine n) h = let o = opened given m b agents agent ifs body h in rw (o.block, o.unchecked, o.opens) refl
placed_open given m b agents agent ifs body (StatementLine r) h = let o = opened given m b agents agent ifs body h in rw o.begun refl
placed_open given m b agents agent ifs body (IfLine r q v) h = let o = opened given m b agents agent ifs body h in rw o.begun refl
placed_open given m b agents agent ifs body ElseLine h = let o = opened given m b agents agent ifs body h in rw (o.begun, o.opens) refl
placed_open given m b agents agent ifs body EndLine h = let o = opened given m b agents agent ifs body h in rw (o.begun, o.opens) (not_not (has_none ifs))
placed_open given m b agents agent ifs body (CheckLine w) h = let o = opened given m b agents agent ifs body h in rw (o.begun, o.opens) refl

ended_begun : (x : Bool) → (x && false) ≡ false
ended_begun true = refl
ended_begun false = refl

not_begun : (given : List Form) (t : Litmus) → AreFormsOf given t → is_begun given ≡ false
not_begun given t h = ap (λ (x : Bool). not (is_empty (names_of given)) && not x) (checked_is given t h) ∙ ended_begun (not (is_empty (names_of given)))

or_middle : (x y z : Bool) → y ≡ true → (x || y || z) ≡ true
or_middle true y z e = refl
or_middle false true z e = refl
or_middle false false z e = absurd cc

placed_whole : (given : List Form) (t : Litmus) (f : Form) → AreFormsOf given t → is_misplaced given f ≡ not (can_follow (Whole t) f)
placed_whole given t Blank h = refl
placed_whole given t (TestLine n) h = rw h.parts refl
placed_whole given t (BytesLine c) h = rw (ends_checked given t h) refl
placed_whole given t (AgentLine n) h = or_middle (is_none (block_of given)) (list_any is_check_line given) (not (is_empty (open_ifs given))) (checked_is given t h)
placed_whole given t (StatementLine r) h = rw (not_begun given t h) refl
placed_whole given t (IfLine r q v) h = rw (not_begun given t h) refl
placed_whole given t ElseLine h = rw (not_begun given t h) refl
placed_whole given t EndLine h = rw (not_begun given t h) refl
placed_whole given t (CheckLine w) h = rw (not_begun given t h) refl

-- a form is misplaced exactly where no draft goes on with it
pub placed : (s : State) (given : List Form) (f : Form) → Holds given s → is_misplaced given f ≡ not (can_follow s f)
placed Empty given f h = ap (λ (l : List Form). is_misplaced l f) h ∙ placed_empty f
placed (Named m) given f h = ap (λ (l : List Form). is_misplaced l f) h ∙ placed_named m f
placed (Sized m b) given f h = ap (λ (l : List Form). is_misplaced l f) h ∙ placed_sized m b f
placed (Open m b agents agent ifs body) given f h = placed_open given m b agents agent ifs body f h
placed (Whole t) given f h = placed_whole given t f h

-- a draft that no check line has ended
pub not_checked : (s : State) (given : List Form) → Holds given s → IsUnfinished s → list_any is_check_line given ≡ false
not_checked Empty given h u = rw h refl
not_checked (Named m) given h u = rw h refl
not_checked (Sized m b) given h u = rw h refl
not_checked (Open m b agents agent ifs body) given h u = (opened given m b agents agent ifs body h).unchecked
not_checked (Whole t) given h u = absurd u

pub is_checked : (t : Litmus) (given : List Form) → Holds given (Whole t) → list_any is_check_line given ≡ true
is_checked t given h = checked_is given t h
