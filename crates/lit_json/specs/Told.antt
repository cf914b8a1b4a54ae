-- What the JSON of a text says of it (this project's own).
use Rattle.std.specs.Prelude.{◌≡◌, ◌⊎◌, ◌≤◌, ◌++◌, ℕ, Bool, true, false, List, codes, length}
use Rattle.std.specs.Fmt.{decimal}
use Rattle.serde_json.specs.Data.{Data, null, boolean, string, array, object, Items, no_items, item, member, no_members}
use Rattle.lit_syntax.specs.Syntax.{Condition, Any, All, Not, Is, Conditions, NoMore, Also, Litmus, agent_of}
use Rattle.lit_syntax.specs.declared.limits.TheConstants as syntax_limits
use Rattle.lit_read.specs.FaultNames.{kind_text}
use Rattle.lit_read.specs.Faults.{IsFirstFault}
use Rattle.lit_read.specs.Spelling.{Spells}
use Rattle.lit_read.specs.StatementLines.{ListsStatementLines}
use Rattle.lit_read.specs.declared.fault.ReadKind.{ReadKind}
use Rattle.lit_json.specs.StatementData.{agents_data, count}
use Rattle.lit_paths.specs.Choice.{combinations_of, choices_of}
use Rattle.lit_paths.specs.FaultNames.{limit_text}
use Rattle.lit_paths.specs.Refusal.{HasFewEvents, IsRefusal}
use Rattle.lit_paths.specs.declared.fault.PlanFault.{PlanFault}
use Rattle.lit_paths.specs.declared.limits.TheConstants as path_limits

-- the limits, each by what it bounds
abbrev pub limits_data : Data
limits_data = object
    (member (codes "accesses") (count path_limits.ACCESS_LIMIT)
    (member (codes "agents") (count syntax_limits.AGENT_LIMIT)
    (member (codes "block") (count syntax_limits.BLOCK_LIMIT)
    (member (codes "choices") (count path_limits.CHOICE_LIMIT)
    (member (codes "combinations") (count path_limits.COMBINATION_LIMIT)
    (member (codes "compared") (count syntax_limits.COMPARED_LIMIT)
    (member (codes "depth") (count syntax_limits.DEPTH_LIMIT)
    (member (codes "digits") (count syntax_limits.DIGIT_LIMIT)
    (member (codes "ifs") (count syntax_limits.IF_LIMIT)
    (member (codes "registers") (count syntax_limits.REGISTERS)
    (member (codes "text") (count syntax_limits.TEXT_LIMIT)
    (member (codes "word") (count syntax_limits.WORD_LIMIT)
    no_members))))))))))))

-- how many combinations of paths and choices a test has
abbrev pub counts_data : Litmus → Data
counts_data t = object
    (member (codes "choices") (count (length (choices_of t)))
    (member (codes "combinations") (count (length (combinations_of t)))
    no_members))

-- a condition on the agents of a test
abbrev mutual
  pub condition_data : Litmus → Condition → Data
  condition_data t (Any cs) = object (member (codes "any") (array (conditions_data t cs)) no_members)
  condition_data t (All cs) = object (member (codes "all") (array (conditions_data t cs)) no_members)
  condition_data t (Not c) = object (member (codes "not") (condition_data t c) no_members)
  condition_data t (Is agent reg equal value) = object
      (member (codes "agent") (string (agent_of t agent).name)
      (member (codes "equal") (boolean equal)
      (member (codes "number") (count value)
      (member (codes "register") (count reg)
      no_members))))

  pub conditions_data : Litmus → Conditions → Items
  conditions_data t NoMore = no_items
  conditions_data t (Also c cs) = item (condition_data t c) (conditions_data t cs)

-- a test whose statements begin on these lines
abbrev pub test_data : List ℕ → Litmus → Data
test_data lines t = object
    (member (codes "agents") (array (agents_data lines t.agents))
    (member (codes "bytes") (count t.bytes)
    (member (codes "condition") (condition_data t t.check)
    (member (codes "name") (string t.name)
    no_members))))

-- the test, with the lines of the text on which its statements begin
pub record IsTestOf (text : List ℕ) (t : Litmus) (value : Data) : Type 0 where
  pub lines : List ℕ
  pub listed : ListsStatementLines text lines
  pub is : value ≡ test_data lines t

-- a fault by its number and its word, which `jslit` prints with a blank between them; with its line, or with null for the line
pub record IsFaultData (printed : List ℕ) (line value : Data) : Type 0 where
  pub number : ℕ
  pub word : List ℕ
  pub named : printed ≡ decimal number ++ codes " " ++ word
  pub is : value ≡ object
      (member (codes "line") line
      (member (codes "number") (count number)
      (member (codes "word") (string word)
      no_members)))

-- the text spells a test within the limits
pub record IsAllowed (text : List ℕ) (test counts fault : Data) : Type 0 where
  pub litmus : Litmus
  pub spelled : Spells text litmus
  pub few_events : HasFewEvents litmus
  pub few_paths : length (combinations_of litmus) ≤ path_limits.COMBINATION_LIMIT
  pub few_choices : length (choices_of litmus) ≤ path_limits.CHOICE_LIMIT
  pub told : IsTestOf text litmus test
  pub counted : counts ≡ counts_data litmus
  pub faultless : fault ≡ null

-- the text spells a test that is refused
pub record IsTooLarge (text : List ℕ) (test counts fault : Data) : Type 0 where
  pub litmus : Litmus
  pub spelled : Spells text litmus
  pub limit : PlanFault
  pub refused : IsRefusal litmus limit
  pub told : IsTestOf text litmus test
  pub uncounted : counts ≡ null
  pub faulty : IsFaultData (limit_text limit) null fault

-- the text spells no test
pub record IsFaulty (text : List ℕ) (test counts fault : Data) : Type 0 where
  pub kind : ReadKind
  pub line : ℕ
  pub refused : IsFirstFault text kind line
  pub untold : test ≡ null
  pub uncounted : counts ≡ null
  pub faulty : IsFaultData (kind_text kind) (count line) fault

-- what the members of the JSON say of a text that spells a test within the limits, or of another
abbrev pub IsOfText : (allowed : Bool) → List ℕ → Data → Data → Data → Type 0
IsOfText true text test counts fault = IsAllowed text test counts fault
IsOfText false text test counts fault = IsTooLarge text test counts fault ⊎ IsFaulty text test counts fault

-- the JSON with these members
abbrev pub description : (version : List ℕ) → (test counts fault : Data) → Data
description version test counts fault = object
    (member (codes "counts") counts
    (member (codes "fault") fault
    (member (codes "form") (count 1)
    (member (codes "jslit") (string version)
    (member (codes "limits") limits_data
    (member (codes "test") test
    no_members))))))

-- what the JSON says of the text, and whether that spells a test within the limits
pub record Describes (version text : List ℕ) (allowed : Bool) (value : Data) : Type 0 where
  pub test : Data
  pub counts : Data
  pub fault : Data
  pub of_text : IsOfText allowed text test counts fault
  pub is : value ≡ description version test counts fault
