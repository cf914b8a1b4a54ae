-- The trees and lists that a litmus test is made of.
-- The accesses are those of ECMA-262 (2024), clause 25; the text around them is this project's own.
use Rattle.std.specs.Prelude.{ℕ, Bool, List}

-- how an access sees the block: as an element of a typed array, or by a DataView call
pub data Window : Type 0 where
  Uint8 : Window
  Uint16 : Window
  Uint32 : Window
  DataView8 : Window
  DataView16 : Window
  DataView32 : Window

-- A statement. Registers are numbered from 0. An index counts elements, or bytes in a DataView call.
mutual
  pub data Statement : Type 0 where
    Load : (reg : ℕ) → (window : Window) → (index : ℕ) → (atomic : Bool) → Statement
    Store : (window : Window) → (index value : ℕ) → (atomic : Bool) → Statement
    Exchange : (reg : ℕ) → (window : Window) → (index value : ℕ) → Statement
    CompareExchange : (reg : ℕ) → (window : Window) → (index expected value : ℕ) → Statement
    If : (reg : ℕ) → (equal : Bool) → (value : ℕ) → (body other : Statements) → Statement

  -- statements, one after the other
  pub data Statements : Type 0 where
    End : Statements
    Then : Statement → Statements → Statements

-- A condition on the registers at the end. Agents are numbered from 0.
mutual
  pub data Condition : Type 0 where
    Any : Conditions → Condition
    All : Conditions → Condition
    Not : Condition → Condition
    Is : (agent reg : ℕ) → (equal : Bool) → (value : ℕ) → Condition

  -- the members of an Any or an All
  pub data Conditions : Type 0 where
    NoMore : Conditions
    Also : Condition → Conditions → Conditions

-- an agent: its name and its statements
pub record Agent : Type 0 where
  pub name : List ℕ
  pub body : Statements

-- a test
pub record Litmus : Type 0 where
  pub name : List ℕ
  pub bytes : ℕ
  pub agents : List Agent
  pub check : Condition
