-- What a draft holds with one form more.
use Rattle.std.proofs.Common.{◌≡◌, ℕ, ◌+◌, Bool, true, false, cond, eqb, ltb, leb, ◌||◌, List, [], ◌∷◌, ◌++◌, length, Option, Some, None, Result, Ok, Err, inl, inr, refl, ap, subst, ◌∙◌, append_assoc}
use Rattle.std.specs.List.{list_any}
use Rattle.std.specs.Str.{bytes_eq}
use Rattle.lit_read.specs.declared.fault.ReadKind.{ReadKind}
use Rattle.lit_read.specs.declared.fault.ReadKind.TheVariants.{BlockSize, TooManyAgents, DuplicateAgent, LiteralRange, OutOfBlock, UnknownName, TooDeep}
use Rattle.lit_syntax.specs.declared.limits.TheConstants.{BLOCK_LIMIT, AGENT_LIMIT, COMPARED_LIMIT, IF_LIMIT}
use Rattle.lit_syntax.specs.Syntax.{Statement, Statements, Load, Store, Exchange, CompareExchange, If, End}
use Rattle.lit_syntax.specs.Written.{Written, is_shallow}
use Rattle.lit_syntax.specs.Forms.{Form, Blank, TestLine, BytesLine, AgentLine, StatementLine, IfLine, ElseLine, EndLine, CheckLine, IsForm}
use Rattle.lit_read.specs.Structure.{IsStatement}
use Rattle.lit_read.specs.Faults.{stays_in_block}
use Rattle.lit_read.specs.Spelling.{written_value}
use Rattle.lit_read.specs.Internal.State.{State, Empty, Named, Sized, Open, Whole, OpenIf, followed_by, with_agent, else_from, ended_if, are_known, test_step, block_step, next_step, agent_step, statement_step, if_step, else_step, end_step, test_of, whole, check_step, step, has_fitting_literals, has_small_numbers}
use Rattle.lit_read.proofs.SpellLemmas.{statements_added}
use Rattle.lit_read.proofs.DraftForms.{AreParts, AreOpen, opening, Holds, agents_added}

-- ---- the forms of the next draft

-- the forms with one more, if it is not blank
abbrev pub added : List Form → Form → List Form
added given Blank = given
added given f = given ++ f ∷ []

opening_added : (name : List ℕ) (bytes : ℕ) (front : List Form) (agent : List ℕ) (own more : List Form) → opening name bytes front agent own ++ more ≡ opening name bytes front agent (own ++ more)
opening_added name bytes front agent own more = ap (λ (l : List Form). TestLine name ∷ BytesLine bytes ∷ l) (append_assoc front (AgentLine agent ∷ own) more)

parts_added : (inner gs : List Form) (part : Option Statements) (body : Statements) (s : Statement) → AreParts inner part body → IsStatement gs s → AreParts (inner ++ gs) part (followed_by body s)
parts_added inner gs None body s a b = statements_added inner gs body s a b
parts_added inner gs (Some part) body s a b = (a.0, a.1 ++ gs, ap (λ (l : List Form). l ++ gs) a.2 ∙ append_assoc a.0 (ElseLine ∷ a.1) gs, a.3, statements_added a.1 gs body s a.4 b)

open_added : (own gs : List Form) (ifs : List OpenIf) (body : Statements) (s : Statement) → AreOpen own ifs body → IsStatement gs s → AreOpen (own ++ gs) ifs (followed_by body s)
open_added own gs [] body s a b = statements_added own gs body s a b
open_added own gs (l ∷ ifs) body s a b =
    (a.0, a.1 ++ gs, ap (λ (x : List Form). x ++ gs) a.2 ∙ append_assoc a.0 (IfLine l.reg l.equal l.value ∷ a.1) gs, a.3, parts_added a.1 gs l.then_part body s a.4 b)

pub access_line : (s : Statement) → IsForm (StatementLine s) → IsStatement (StatementLine s ∷ []) s
unfolding IsForm
access_line (Load r w i a) is = refl
access_line (Store w i v a) is = refl
access_line (Exchange r w i v) is = refl
access_line (CompareExchange r w i e v) is = refl
access_line (If r e v b o) is = absurd is

-- the whole `if` behind its end line
pub if_lines : (l : OpenIf) (inner : List Form) (part : Option Statements) (body : Statements) → AreParts inner part body → IsStatement (IfLine l.reg l.equal l.value ∷ (inner ++ EndLine ∷ [])) (ended_if l body part)
if_lines l inner None body h = (inner, [], refl, h, inl (refl, refl))
if_lines l inner (Some part) body h =
    (h.0, ElseLine ∷ h.1, ap (λ (x : List Form). IfLine l.reg l.equal l.value ∷ x) (ap (λ (x : List Form). x ++ EndLine ∷ []) h.2 ∙ append_assoc h.0 (ElseLine ∷ h.1) (EndLine ∷ [])), h.3, inr (h.1, refl, h.4))

abbrev stands : Result State ReadKind → List Form → Type 0
stands (Ok t) given = Holds given t
stands (Err k) given = Unit {0}

test_holds : (s : State) (given : List Form) (name : List ℕ) → Holds given s → stands (test_step s name) (given ++ TestLine name ∷ [])
unfolding test_step
test_holds Empty given name h = rw h refl
test_holds (Named m) given name h = tt
test_holds (Sized m b) given name h = tt
test_holds (Open m b agents agent ifs body) given name h = tt
test_holds (Whole t) given name h = tt

block_holds : (s : State) (given : List Form) (bytes : ℕ) → Holds given s → stands (block_step s bytes) (given ++ BytesLine bytes ∷ [])
unfolding block_step
block_holds (Named m) given bytes h = by (eqb bytes 0 || ltb BLOCK_LIMIT bytes)
  where
    by : (x : Bool) → stands (cond x (Err BlockSize) (Ok (Sized m bytes))) (given ++ BytesLine bytes ∷ [])
    by true = tt
    by false = rw h refl
block_holds Empty given bytes h = tt
block_holds (Sized m b) given bytes h = tt
block_holds (Open m b agents agent ifs body) given bytes h = tt
block_holds (Whole t) given bytes h = tt

agent_holds : (s : State) (given : List Form) (name : List ℕ) → Holds given s → stands (agent_step s name) (given ++ AgentLine name ∷ [])
unfolding agent_step next_step
agent_holds (Sized m b) given name h = ([], [], ap (λ (l : List Form). l ++ AgentLine name ∷ []) h, refl, refl)
agent_holds (Open m b agents agent [] body) given name h = by (leb AGENT_LIMIT (length agents + 1)) (list_any (λ a. bytes_eq name a.name) (with_agent agents agent body))
  where
    by : (x y : Bool) → stands (cond x (Err TooManyAgents) (cond y (Err DuplicateAgent) (Ok (Open m b (with_agent agents agent body) name [] End)))) (given ++ AgentLine name ∷ [])
    by true y = tt
    by false true = tt
    by false false = (h.0 ++ AgentLine agent ∷ h.1, [], ap (λ (l : List Form). l ++ AgentLine name ∷ []) h.2, agents_added h.0 h.1 agents agent body h.3 h.4, refl)
agent_holds (Open m b agents agent (l ∷ ifs) body) given name h = tt
agent_holds Empty given name h = tt
agent_holds (Named m) given name h = tt
agent_holds (Whole t) given name h = tt

statement_holds : (s : State) (given : List Form) (r : Statement) → IsForm (StatementLine r) → Holds given s → stands (statement_step s r) (given ++ StatementLine r ∷ [])
unfolding statement_step
statement_holds (Open m b agents agent ifs body) given r is h = by (has_fitting_literals r) (stays_in_block b r)
  where
    by : (x y : Bool) → stands (cond x (cond y (Ok (Open m b agents agent ifs (followed_by body r))) (Err OutOfBlock)) (Err LiteralRange)) (given ++ StatementLine r ∷ [])
    by false y = tt
    by true false = tt
    by true true =
        (h.0, h.1 ++ StatementLine r ∷ [], ap (λ (l : List Form). l ++ StatementLine r ∷ []) h.2 ∙ opening_added m b h.0 agent h.1 (StatementLine r ∷ []), h.3, open_added h.1 (StatementLine r ∷ []) ifs body r h.4 (access_line r is))
statement_holds Empty given r is h = tt
statement_holds (Named m) given r is h = tt
statement_holds (Sized m b) given r is h = tt
statement_holds (Whole t) given r is h = tt

if_holds : (s : State) (given : List Form) (reg : ℕ) (equal : Bool) (value : ℕ) → Holds given s → stands (if_step s reg equal value) (given ++ IfLine reg equal value ∷ [])
unfolding if_step
if_holds (Open m b agents agent ifs body) given reg equal value h = by (ltb COMPARED_LIMIT value) (leb IF_LIMIT (length ifs))
  where
    by : (x y : Bool)
        → stands (cond x (Err LiteralRange) (cond y (Err TooDeep) (Ok (Open m b agents agent (record { reg = reg; equal = equal; value = value; before = body; then_part = None } ∷ ifs) End)))) (given ++ IfLine reg equal value ∷ [])
    by true y = tt
    by false true = tt
    by false false =
        (h.0, h.1 ++ IfLine reg equal value ∷ [], ap (λ (l : List Form). l ++ IfLine reg equal value ∷ []) h.2 ∙ opening_added m b h.0 agent h.1 (IfLine reg equal value ∷ []), h.3, (h.1, [], refl, h.4, refl))
if_holds Empty given reg equal value h = tt
if_holds (Named m) given reg equal value h = tt
if_holds (Sized m b) given reg equal value h = tt
if_holds (Whole t) given reg equal value h = tt

else_holds : (s : State) (given : List Form) → Holds given s → stands (else_step s) (given ++ ElseLine ∷ [])
unfolding else_step
else_holds (Open m b agents agent (l ∷ ifs) body) given h = by l.then_part h.4.4
  where
    by : (p : Option Statements) → AreParts h.4.1 p body → stands (else_from m b agents agent l ifs body p) (given ++ ElseLine ∷ [])
    by (Some part) parts = tt
    by None parts = (
      h.0,
      h.1 ++ ElseLine ∷ [],
      ap (λ (x : List Form). x ++ ElseLine ∷ []) h.2 ∙ opening_added m b h.0 agent h.1 (ElseLine ∷ []),
      h.3,
      (h.4.0, h.4.1 ++ ElseLine ∷ [], ap (λ (x : List Form). x ++ ElseLine ∷ []) h.4.2 ∙ append_assoc h.4.0 (IfLine l.reg l.equal l.value ∷ h.4.1) (ElseLine ∷ []), h.4.3, (h.4.1, [], refl, parts, refl)),
    )
else_holds (Open m b agents agent [] body) given h = tt
else_holds Empty given h = tt
else_holds (Named m) given h = tt
else_holds (Sized m b) given h = tt
else_holds (Whole t) given h = tt

end_holds : (s : State) (given : List Form) → Holds given s → stands (end_step s) (given ++ EndLine ∷ [])
unfolding end_step
end_holds (Open m b agents agent (l ∷ ifs) body) given h = (
  h.0,
  h.4.0 ++ IfLine l.reg l.equal l.value ∷ (h.4.1 ++ EndLine ∷ []),
  ap (λ (x : List Form). x ++ EndLine ∷ []) h.2 ∙ opening_added m b h.0 agent h.1 (EndLine ∷ []) ∙ ap (opening m b h.0 agent) (ap (λ (x : List Form). x ++ EndLine ∷ []) h.4.2 ∙ append_assoc h.4.0 (IfLine l.reg l.equal l.value ∷ h.4.1) (EndLine ∷ [])),
  h.3,
  open_added h.4.0 (IfLine l.reg l.equal l.value ∷ (h.4.1 ++ EndLine ∷ [])) ifs l.before (ended_if l body l.then_part) h.4.3 (if_lines l h.4.1 l.then_part body h.4.4),
)
end_holds (Open m b agents agent [] body) given h = tt
end_holds Empty given h = tt
end_holds (Named m) given h = tt
end_holds (Sized m b) given h = tt
end_holds (Whole t) given h = tt

check_holds : (s : State) (given : List Form) (w : Written) → Holds given s → stands (check_step s w) (given ++ CheckLine w ∷ [])
unfolding check_step test_of
check_holds (Open m b agents agent [] body) given w h = by (has_small_numbers w) (are_known (with_agent agents agent body) w) (is_shallow w)
  where
    by : (x y z : Bool)
        → stands (whole (cond x (cond y (cond z (Ok (record { name = m; bytes = b; agents = with_agent agents agent body; check = written_value (with_agent agents agent body) w })) (Err TooDeep)) (Err UnknownName)) (Err LiteralRange))) (given ++ CheckLine w ∷ [])
    by false y z = tt
    by true false z = tt
    by true true false = tt
    by true true true = record {
      agents = h.0 ++ AgentLine agent ∷ h.1;
      check = w;
      parts = ap (λ (l : List Form). l ++ CheckLine w ∷ []) h.2;
      bodies = agents_added h.0 h.1 agents agent body h.3 h.4;
      asks = refl;
    }
check_holds (Open m b agents agent (l ∷ ifs) body) given w h = tt
check_holds Empty given w h = tt
check_holds (Named m) given w h = tt
check_holds (Sized m b) given w h = tt
check_holds (Whole t) given w h = tt

all_stand : (s : State) (given : List Form) (f : Form) → IsForm f → Holds given s → stands (step s f) (added given f)
unfolding step IsForm
all_stand s given Blank is h = h
all_stand s given (TestLine name) is h = test_holds s given name h
all_stand s given (BytesLine bytes) is h = block_holds s given bytes h
all_stand s given (AgentLine name) is h = agent_holds s given name h
all_stand s given (StatementLine r) is h = statement_holds s given r is h
all_stand s given (IfLine reg equal value) is h = if_holds s given reg equal value h
all_stand s given ElseLine is h = else_holds s given h
all_stand s given EndLine is h = end_holds s given h
all_stand s given (CheckLine w) is h = check_holds s given w h

pub step_holds : (s t : State) (given : List Form) (f : Form) → IsForm f → Holds given s → step s f ≡ Ok t → Holds (added given f) t
step_holds s t given f is h e = subst (λ (r : Result State ReadKind). stands r (added given f)) e (all_stand s given f is h)
