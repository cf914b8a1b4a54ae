-- The form that tokens spell, as it is computed. Private contracts alone cite this: `Forms` has the definition.
use Rattle.std.specs.Prelude.{ℕ, ◌-◌, ◌==◌, ◌&&◌, nat_lt, nat_le, Bool, true, false, if◌then◌else◌}
use Rattle.std.specs.Prelude.{List, [], ◌∷◌, Option, Some, None, codes}
use Rattle.std.specs.Option.{option_map}
use Rattle.std.specs.Str.{bytes_eq}
use Rattle.lit_syntax.specs.declared.symbol.Symbol.{Symbol}
use Rattle.lit_syntax.specs.declared.symbol.Symbol.TheVariants.{Same, Differs, And, Or, Gives, Not, OpenBracket, CloseBracket}
use Rattle.lit_syntax.specs.declared.symbol.Symbol.TheVariants.{OpenParen, CloseParen, OpenBrace, CloseBrace, Comma, Dot}
use Rattle.lit_syntax.specs.declared.limits.TheConstants.{REGISTERS}
use Rattle.lit_syntax.specs.Syntax.{Window, Uint8, Uint16, Uint32, DataView8, DataView16, DataView32}
use Rattle.lit_syntax.specs.Syntax.{Load, Store, Exchange, CompareExchange}
use Rattle.lit_syntax.specs.Tokens.{Token, Word, Number, Sign}
use Rattle.lit_syntax.specs.Written.{Comparison}
use Rattle.lit_syntax.specs.Forms.{Form, Blank, TestLine, BytesLine, AgentLine, StatementLine, IfLine, ElseLine, EndLine}
use Rattle.lit_read.specs.Internal.FirstToken.{or_else}

infixl 10 ◌>>=◌
abbrev pub ◌>>=◌ : {A B : Type 0} → Option A → (A → Option B) → Option B
None >>= f = None
(Some x) >>= f = f x

abbrev pub symbol_code : Symbol → ℕ
symbol_code Same = 0
symbol_code Differs = 1
symbol_code And = 2
symbol_code Or = 3
symbol_code Gives = 4
symbol_code Not = 5
symbol_code OpenBracket = 6
symbol_code CloseBracket = 7
symbol_code OpenParen = 8
symbol_code CloseParen = 9
symbol_code OpenBrace = 10
symbol_code CloseBrace = 11
symbol_code Comma = 12
symbol_code Dot = 13

-- ---- the token at the front, and those after it

unfoldable pub after_sign : List Token → Symbol → Option (List Token)
after_sign (Sign symbol ∷ ts) sign = if symbol_code symbol == symbol_code sign then Some ts else None
after_sign _ sign = None

unfoldable pub word_of : List Token → Option (List ℕ × List Token)
word_of (Word word ∷ ts) = Some (word, ts)
word_of _ = None

unfoldable pub number_of : List Token → Option (ℕ × List Token)
number_of (Number number ∷ ts) = Some (number, ts)
number_of _ = None

unfoldable pub after_word : List Token → List ℕ → Option (List Token)
after_word ts text = do
  word ← word_of ts
  if bytes_eq word.0 text then Some word.1 else None

unfoldable pub register_number : List ℕ → Option ℕ
register_number (a ∷ b ∷ []) = if (a == 114) && nat_le 48 b && nat_lt (b - 48) REGISTERS then Some (b - 48) else None
register_number _ = None

unfoldable pub register_of : List Token → Option (ℕ × List Token)
register_of ts = do
  word ← word_of ts
  reg ← register_number word.0
  Some (reg, word.1)

-- the typed array of this name
unfoldable pub window_named : List ℕ → Option Window
window_named word =
    if bytes_eq word (codes "U8") then Some Uint8
    else (if bytes_eq word (codes "U16") then Some Uint16
    else (if bytes_eq word (codes "U32") then Some Uint32
    else None))

unfoldable pub view_of : List Token → Option (Window × List Token)
view_of ts = do
  word ← word_of ts
  view ← window_named word.0
  Some (view, word.1)

unfoldable pub relation_of : List Token → Option (Bool × List Token)
relation_of ts =
    or_else (option_map (λ rest. (true, rest)) (after_sign ts Same)) (option_map (λ rest. (false, rest)) (after_sign ts Differs))

abbrev pub ended : {A : Type 0} → List Token → A → Option A
ended [] x = Some x
ended (t ∷ ts) x = None

-- ---- a row of tokens

-- What can stand in a row: a symbol, this word, any word, a register, a typed array, a number, or `==` or `!=`.
pub data Item : Type 0 where
  Symbols : Symbol → Item
  Keyword : List ℕ → Item
  Name : Item
  Register : Item
  View : Item
  Amount : Item
  Relation : Item

-- what the row tells
abbrev pub Told : List Item → Type 0
Told [] = Unit {0}
Told (Symbols s ∷ is) = Told is
Told (Keyword w ∷ is) = Told is
Told (Name ∷ is) = List ℕ × Told is
Told (Register ∷ is) = ℕ × Told is
Told (View ∷ is) = Window × Told is
Told (Amount ∷ is) = ℕ × Told is
Told (Relation ∷ is) = Bool × Told is

-- what the tokens at the front tell, if they are such a row, and what is made of it and of the tokens behind
abbrev pub along : {A : Type 0} → (items : List Item) → List Token → (Told items → List Token → Option A) → Option A
along [] ts made = made tt ts
along (Symbols s ∷ is) ts made = do
  rest ← after_sign ts s
  along is rest made
along (Keyword w ∷ is) ts made = do
  rest ← after_word ts w
  along is rest made
along (Name ∷ is) ts made = do
  word ← word_of ts
  along is word.1 (λ told rest. made (word.0, told) rest)
along (Register ∷ is) ts made = do
  reg ← register_of ts
  along is reg.1 (λ told rest. made (reg.0, told) rest)
along (View ∷ is) ts made = do
  view ← view_of ts
  along is view.1 (λ told rest. made (view.0, told) rest)
along (Amount ∷ is) ts made = do
  number ← number_of ts
  along is number.1 (λ told rest. made (number.0, told) rest)
along (Relation ∷ is) ts made = do
  relation ← relation_of ts
  along is relation.1 (λ told rest. made (relation.0, told) rest)

-- what the row at the front tells, and the tokens behind it
unfoldable pub front : (items : List Item) → List Token → Option (Told items × List Token)
front items ts = along items ts (λ told rest. Some (told, rest))

-- what rows tell that stand one behind the other
abbrev pub ToldParts : List (List Item) → Type 0
ToldParts [] = Unit {0}
ToldParts (items ∷ parts) = Told items × ToldParts parts

-- the form of the tokens that are these rows, one behind the other, and no more
abbrev pub in_parts : (parts : List (List Item)) → List Token → (ToldParts parts → Form) → Option Form
in_parts [] ts made = ended ts (made tt)
in_parts (items ∷ parts) ts made = do
  part ← front items ts
  in_parts parts part.1 (λ told. made (part.0, told))

-- ---- the parts of accesses

-- REG =
abbrev pub given_to : List Item
given_to = Register ∷ Symbols Gives ∷ []

-- VIEW[NUM]
abbrev pub element : List Item
element = View ∷ Symbols OpenBracket ∷ Amount ∷ Symbols CloseBracket ∷ []

-- = NUM
abbrev pub stored : List Item
stored = Symbols Gives ∷ Amount ∷ []

-- Atomics.NAME(VIEW, NUM
abbrev pub atomic_call : List ℕ → List Item
atomic_call name = Keyword (codes "Atomics") ∷ Symbols Dot ∷ Keyword name ∷ Symbols OpenParen ∷ View ∷ Symbols Comma ∷ Amount ∷ []

-- DV.NAME(NUM
abbrev pub view_call : List ℕ → List Item
view_call name = Keyword (codes "DV") ∷ Symbols Dot ∷ Keyword name ∷ Symbols OpenParen ∷ Amount ∷ []

-- , NUM
abbrev pub argument : List Item
argument = Symbols Comma ∷ Amount ∷ []

-- )
abbrev pub closed : List Item
closed = Symbols CloseParen ∷ []

-- , true)
abbrev pub little_endian : List Item
little_endian = Symbols Comma ∷ Keyword (codes "true") ∷ Symbols CloseParen ∷ []

-- ---- the rows and parts of the forms, and what they make

abbrev pub test_row : List Item
test_row = Keyword (codes "test") ∷ Name ∷ []

abbrev pub test_made : ToldParts (test_row ∷ []) → Form
test_made told = TestLine told.0.0

abbrev pub bytes_row : List Item
bytes_row = Keyword (codes "bytes") ∷ Amount ∷ []

abbrev pub bytes_made : ToldParts (bytes_row ∷ []) → Form
bytes_made told = BytesLine told.0.0

abbrev pub agent_row : List Item
agent_row = Keyword (codes "agent") ∷ Name ∷ []

abbrev pub agent_made : ToldParts (agent_row ∷ []) → Form
agent_made told = AgentLine told.0.0

abbrev pub if_row : List Item
if_row = Keyword (codes "if") ∷ Register ∷ Relation ∷ Amount ∷ Symbols OpenBrace ∷ []

abbrev pub if_made : ToldParts (if_row ∷ []) → Form
if_made told = IfLine told.0.0 told.0.1.0 told.0.1.1.0

abbrev pub else_row : List Item
else_row = Symbols CloseBrace ∷ Keyword (codes "else") ∷ Symbols OpenBrace ∷ []

abbrev pub else_made : ToldParts (else_row ∷ []) → Form
else_made told = ElseLine

abbrev pub end_row : List Item
end_row = Symbols CloseBrace ∷ []

abbrev pub end_made : ToldParts (end_row ∷ []) → Form
end_made told = EndLine

abbrev pub plain_load_parts : List (List Item)
plain_load_parts = given_to ∷ element ∷ []

abbrev pub plain_load_made : ToldParts plain_load_parts → Form
plain_load_made told = StatementLine (Load told.0.0 told.1.0.0 told.1.0.1.0 false)

abbrev pub plain_store_parts : List (List Item)
plain_store_parts = element ∷ stored ∷ []

abbrev pub plain_store_made : ToldParts plain_store_parts → Form
plain_store_made told = StatementLine (Store told.0.0 told.0.1.0 told.1.0.0 false)

abbrev pub atomic_load_parts : List (List Item)
atomic_load_parts = given_to ∷ atomic_call (codes "load") ∷ closed ∷ []

abbrev pub atomic_load_made : ToldParts atomic_load_parts → Form
atomic_load_made told = StatementLine (Load told.0.0 told.1.0.0 told.1.0.1.0 true)

abbrev pub atomic_store_parts : List (List Item)
atomic_store_parts = atomic_call (codes "store") ∷ argument ∷ closed ∷ []

abbrev pub atomic_store_made : ToldParts atomic_store_parts → Form
atomic_store_made told = StatementLine (Store told.0.0 told.0.1.0 told.1.0.0 true)

abbrev pub exchange_parts : List (List Item)
exchange_parts = given_to ∷ atomic_call (codes "exchange") ∷ argument ∷ closed ∷ []

abbrev pub exchange_made : ToldParts exchange_parts → Form
exchange_made told = StatementLine (Exchange told.0.0 told.1.0.0 told.1.0.1.0 told.1.1.0.0)

abbrev pub compare_exchange_parts : List (List Item)
compare_exchange_parts = given_to ∷ atomic_call (codes "compareExchange") ∷ argument ∷ argument ∷ closed ∷ []

abbrev pub compare_exchange_made : ToldParts compare_exchange_parts → Form
compare_exchange_made told = StatementLine (CompareExchange told.0.0 told.1.0.0 told.1.0.1.0 told.1.1.0.0 told.1.1.1.0.0)

abbrev pub byte_load_parts : List (List Item)
byte_load_parts = given_to ∷ view_call (codes "getUint8") ∷ closed ∷ []

abbrev pub byte_load_made : ToldParts byte_load_parts → Form
byte_load_made told = StatementLine (Load told.0.0 DataView8 told.1.0.0 false)

abbrev pub byte_store_parts : List (List Item)
byte_store_parts = view_call (codes "setUint8") ∷ argument ∷ closed ∷ []

abbrev pub byte_store_made : ToldParts byte_store_parts → Form
byte_store_made told = StatementLine (Store DataView8 told.0.0 told.1.0.0 false)

-- a DataView call over several bytes, by its name
abbrev pub wide_load_parts : List ℕ → List (List Item)
wide_load_parts name = given_to ∷ view_call name ∷ little_endian ∷ []

abbrev pub wide_load_made : (name : List ℕ) → Window → ToldParts (wide_load_parts name) → Form
wide_load_made name window told = StatementLine (Load told.0.0 window told.1.0.0 false)

abbrev pub wide_store_parts : List ℕ → List (List Item)
wide_store_parts name = view_call name ∷ argument ∷ little_endian ∷ []

abbrev pub wide_store_made : (name : List ℕ) → Window → ToldParts (wide_store_parts name) → Form
wide_store_made name window told = StatementLine (Store window told.0.0 told.1.0.0 false)

-- ---- the forms

unfoldable pub test_line : List Token → Option Form
test_line ts = in_parts (test_row ∷ []) ts test_made

unfoldable pub bytes_line : List Token → Option Form
bytes_line ts = in_parts (bytes_row ∷ []) ts bytes_made

unfoldable pub agent_line : List Token → Option Form
agent_line ts = in_parts (agent_row ∷ []) ts agent_made

unfoldable pub if_line : List Token → Option Form
if_line ts = in_parts (if_row ∷ []) ts if_made

unfoldable pub else_line : List Token → Option Form
else_line ts = in_parts (else_row ∷ []) ts else_made

unfoldable pub end_line : List Token → Option Form
end_line ts = in_parts (end_row ∷ []) ts end_made

unfoldable pub plain_load : List Token → Option Form
plain_load ts = in_parts plain_load_parts ts plain_load_made

unfoldable pub plain_store : List Token → Option Form
plain_store ts = in_parts plain_store_parts ts plain_store_made

unfoldable pub atomic_load : List Token → Option Form
atomic_load ts = in_parts atomic_load_parts ts atomic_load_made

unfoldable pub atomic_store : List Token → Option Form
atomic_store ts = in_parts atomic_store_parts ts atomic_store_made

unfoldable pub exchange : List Token → Option Form
exchange ts = in_parts exchange_parts ts exchange_made

unfoldable pub compare_exchange : List Token → Option Form
compare_exchange ts = in_parts compare_exchange_parts ts compare_exchange_made

unfoldable pub byte_load : List Token → Option Form
byte_load ts = in_parts byte_load_parts ts byte_load_made

unfoldable pub byte_store : List Token → Option Form
byte_store ts = in_parts byte_store_parts ts byte_store_made

unfoldable pub wide_load : List ℕ → Window → List Token → Option Form
wide_load name window ts = in_parts (wide_load_parts name) ts (wide_load_made name window)

unfoldable pub wide_store : List ℕ → Window → List Token → Option Form
wide_store name window ts = in_parts (wide_store_parts name) ts (wide_store_made name window)

abbrev pub comparison_row : List Item
comparison_row = Name ∷ Symbols Dot ∷ Register ∷ Relation ∷ Amount ∷ []

abbrev pub comparison_made : Told comparison_row → Comparison
comparison_made told = record { agent = told.0; reg = told.1.0; equal = told.1.1.0; value = told.1.1.1.0 }

-- a comparison at the front, and the tokens behind it
unfoldable pub comparison_of : List Token → Option (Comparison × List Token)
comparison_of ts =
    along comparison_row ts (λ told rest. Some (comparison_made told, rest))

-- the forms that say no access, those without DataView, and those with it
unfoldable pub frame_form : List Token → Option Form
frame_form ts =
    or_else (ended ts Blank) (or_else (test_line ts) (or_else (bytes_line ts) (or_else (agent_line ts)
    (or_else (if_line ts) (or_else (else_line ts) (end_line ts))))))

unfoldable pub array_form : List Token → Option Form
array_form ts =
    or_else (plain_load ts)
    (or_else (plain_store ts) (or_else (atomic_load ts) (or_else (atomic_store ts) (or_else (exchange ts) (compare_exchange ts)))))

unfoldable pub view_form : List Token → Option Form
view_form ts =
    or_else (byte_load ts) (or_else (wide_load (codes "getUint16") DataView16 ts) (or_else (wide_load (codes "getUint32") DataView32 ts)
    (or_else (byte_store ts) (or_else (wide_store (codes "setUint16") DataView16 ts) (wide_store (codes "setUint32") DataView32 ts)))))

unfoldable pub fixed_form : List Token → Option Form
fixed_form ts = or_else (frame_form ts) (or_else (array_form ts) (view_form ts))
