-- What the JSON of a text says of the statements of its agents (this project's own).
use Rattle.std.specs.Prelude.{ℕ, ◌*◌, Bool, true, List, [], ◌∷◌, drop, map, filter, codes, slice_index_or}
use Rattle.std.specs.List.{range_with_len}
use Rattle.serde_json.specs.Data.{Data, null, boolean, number, string, array, object, unsigned, Items, no_items, item, member, no_members}
use Rattle.serde_json.specs.View.{items_of}
use Rattle.lit_syntax.specs.Syntax.{Window, Uint8, Uint16, Uint32, DataView8, DataView16, DataView32, window_size, writes}
use Rattle.lit_syntax.specs.Syntax.{Statement, Load, Store, Exchange, CompareExchange, If, Statements, End, Then, Agent}
use Rattle.lit_syntax.specs.StatementOrder.{count_with_parts, statement_count}
use Rattle.lit_syntax.specs.declared.limits.TheConstants.{REGISTERS}

-- a number
abbrev pub count : ℕ → Data
count n = number (unsigned n)

-- a typed array by its size, or a DataView call
abbrev pub window_name : Window → List ℕ
window_name Uint8 = codes "U8"
window_name Uint16 = codes "U16"
window_name Uint32 = codes "U32"
window_name DataView8 = codes "DV"
window_name DataView16 = codes "DV"
window_name DataView32 = codes "DV"

-- the first of the lines that are left; 0 where there is none
abbrev pub next_line : List ℕ → ℕ
next_line lines = slice_index_or lines 0 0

-- an access, with the register that it reads into, or null, and the numbers of its text
abbrev pub access_data : (line : ℕ) → (kind : List ℕ) → (register : Data) → Window → (index : ℕ) → (atomic : Bool) → (values : Items) → Data
access_data line kind register window index atomic values = object
    (member (codes "atomic") (boolean atomic)
    (member (codes "bits") (count (8 * window_size window))
    (member (codes "kind") (string kind)
    (member (codes "line") (count line)
    (member (codes "place") (count index)
    (member (codes "register") register
    (member (codes "values") (array values)
    (member (codes "view") (string (window_name window))
    no_members))))))))

-- an `if` with its parts
abbrev pub if_data : (line reg : ℕ) → (equal : Bool) → (value : ℕ) → (body other : Data) → Data
if_data line reg equal value body other = object
    (member (codes "body") body
    (member (codes "equal") (boolean equal)
    (member (codes "kind") (string (codes "if"))
    (member (codes "line") (count line)
    (member (codes "number") (count value)
    (member (codes "other") other
    (member (codes "register") (count reg)
    no_members)))))))

-- statements in their order, the first of which begins on the first of these lines
abbrev mutual
  pub statement_data : List ℕ → Statement → Data
  statement_data lines (Load reg window index atomic) =
      access_data (next_line lines) (codes "load") (count reg) window index atomic no_items
  statement_data lines (Store window index value atomic) =
      access_data (next_line lines) (codes "store") null window index atomic (item (count value) no_items)
  statement_data lines (Exchange reg window index value) =
      access_data (next_line lines) (codes "exchange") (count reg) window index true (item (count value) no_items)
  statement_data lines (CompareExchange reg window index expected value) =
      access_data (next_line lines) (codes "compareExchange") (count reg) window index true
      (item (count expected) (item (count value) no_items))
  statement_data lines (If reg equal value body other) =
      if_data (next_line lines) reg equal value (array (statements_data (drop 1 lines) body))
      (array (statements_data (drop (statement_count body) (drop 1 lines)) other))

  pub statements_data : List ℕ → Statements → Items
  statements_data lines End = no_items
  statements_data lines (Then s ss) = item (statement_data lines s) (statements_data (drop (count_with_parts s) lines) ss)

-- the registers that statements write, rising
abbrev pub registers_data : Statements → Data
registers_data body = array (items_of (map count (filter (writes body) (range_with_len 0 REGISTERS))))

-- an agent whose first statement begins on the first of these lines
abbrev pub agent_data : List ℕ → Agent → Data
agent_data lines agent = object
    (member (codes "name") (string agent.name)
    (member (codes "registers") (registers_data agent.body)
    (member (codes "statements") (array (statements_data lines agent.body))
    no_members)))

-- agents in their order
abbrev pub agents_data : List ℕ → List Agent → Items
agents_data lines [] = no_items
agents_data lines (agent ∷ others) = item (agent_data lines agent) (agents_data (drop (statement_count agent.body) lines) others)
