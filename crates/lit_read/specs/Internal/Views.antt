-- What the values of the reader represent.
use Rattle.std.specs.Prelude.{◌≡◌, List, map, reverse, Option, Some, None, Result, Ok, Err, string_bytes}
use Rattle.std.specs.Global.{Vec}
use Rattle.lit_read.specs.declared.fault.ReadKind.{ReadKind}
use Rattle.lit_read.specs.declared.fault.ReadKind.TheVariants.{OutOfMemory}
use Rattle.lit_syntax.specs.declared.syntax.Stmt.{Stmt}
use Rattle.lit_read.specs.declared.tokens.Token as code
use Rattle.lit_read.specs.declared.tokens.Token.TheVariants as token
use Rattle.lit_read.specs.declared.forms.Access as accesses
use Rattle.lit_read.specs.declared.forms.Access.TheVariants as access
use Rattle.lit_read.specs.declared.forms.Form as lines
use Rattle.lit_read.specs.declared.forms.Form.TheVariants as form
use Rattle.lit_read.specs.declared.forms.Line as said
use Rattle.lit_read.specs.declared.forms.Line.TheVariants as line
use Rattle.lit_read.specs.declared.forms.marks.Comparison as raw
use Rattle.lit_read.specs.declared.forms.marks.Mark as marks
use Rattle.lit_read.specs.declared.forms.marks.Mark.TheVariants as mark
use Rattle.lit_read.specs.declared.draft.conditions.Group as groups
use Rattle.lit_read.specs.declared.draft.conditions.Groups as building
use Rattle.lit_read.specs.declared.draft.OpenIf as ifs
use Rattle.lit_read.specs.declared.draft.Open as opens
use Rattle.lit_read.specs.declared.draft.Draft as drafts
use Rattle.lit_read.specs.declared.draft.Draft.TheVariants as draft
use Rattle.lit_syntax.specs.Syntax.{Statement, Statements, Load, Store, Exchange, CompareExchange}
use Rattle.lit_syntax.specs.Litmus.{window_of, statement_of, statements_of, conditions_view, agents_view}
use Rattle.lit_syntax.specs.Tokens.{Token, Word, Number, Sign}
use Rattle.lit_syntax.specs.Written.{Comparison, Written}
use Rattle.lit_syntax.specs.Forms.{Form, Blank, TestLine, BytesLine, AgentLine, StatementLine, IfLine, ElseLine, EndLine, CheckLine}
use Rattle.lit_read.specs.Internal.Marks.{Mark, Bang, Opens, Closes, Joins, Parts, Compares, written_marks}
use Rattle.lit_read.specs.Internal.Built.{Group, Groups}
use Rattle.lit_read.specs.Internal.State.{State, Empty, Named, Sized, Open, Whole, OpenIf}

abbrev pub token_view : code.Token → Token
token_view (token.Word word) = Word word.now
token_view (token.Number number) = Number number
token_view (token.Sign symbol) = Sign symbol

abbrev pub token_views : List code.Token → List Token
token_views ts = map token_view ts

abbrev pub comparison_view : raw.Comparison → Comparison
comparison_view c = record { agent = c.agent.now; reg = c.reg; equal = c.equal; value = c.value }

abbrev pub mark_view : marks.Mark → Mark
mark_view mark.Bang = Bang
mark_view mark.Open = Opens
mark_view mark.Close = Closes
mark_view mark.And = Joins
mark_view mark.Or = Parts
mark_view (mark.Is c) = Compares (comparison_view c)

abbrev pub mark_views : List marks.Mark → List Mark
mark_views ms = map mark_view ms

abbrev pub access_view : accesses.Access → Statement
access_view (access.Load reg view index atomic) = Load reg (window_of view) index atomic
access_view (access.Store view index value atomic) = Store (window_of view) index value atomic
access_view (access.Exchange reg view index value) = Exchange reg (window_of view) index value
access_view (access.CompareExchange reg view index expected value) = CompareExchange reg (window_of view) index expected value

abbrev pub form_view : lines.Form → Form
form_view form.Blank = Blank
form_view (form.Test name) = TestLine name.now
form_view (form.Bytes bytes) = BytesLine bytes
form_view (form.Agent name) = AgentLine name.now
form_view (form.Access a) = StatementLine (access_view a)
form_view (form.If reg equal value) = IfLine reg equal value
form_view form.Else = ElseLine
form_view form.End = EndLine

-- the line is of this form
abbrev pub Shows : said.Line → Form → Type 0
Shows (line.Fixed f) form = form ≡ form_view f
Shows (line.Check marks) form = (w : Written) × (form ≡ CheckLine w) × (mark_views marks.items ≡ written_marks w)

abbrev pub result_statement : Result Stmt ReadKind → Result Statement ReadKind
result_statement (Ok s) = Ok (statement_of s)
result_statement (Err kind) = Err kind

abbrev pub group_view : groups.Group → Group
group_view f = record { depth = f.depth; nots = f.nots; any = conditions_view f.any.items; all = conditions_view f.all.items }

abbrev pub groups_view : building.Groups → Groups
groups_view s = record { inner = group_view s.inner; outer = map group_view (reverse s.outer.items) }

abbrev pub part_view : Option (Vec Stmt) → Option Statements
part_view None = None
part_view (Some part) = Some (statements_of part.items)

abbrev pub open_if_view : ifs.OpenIf → OpenIf
open_if_view l =
    record { reg = l.reg; equal = l.equal; value = l.value; before = statements_of l.before.items; then_part = part_view l.then_part }

abbrev pub open_view : opens.Open → State
open_view o =
    Open (string_bytes o.name) o.bytes (agents_view o.agents.entries) (string_bytes o.agent) (map open_if_view (reverse o.ifs.items))
    (statements_of o.body.items)

abbrev pub state_view : drafts.Draft → State
state_view draft.Empty = Empty
state_view (draft.Named name) = Named (string_bytes name)
state_view (draft.Sized name bytes) = Sized (string_bytes name) bytes
state_view (draft.Open o) = open_view o
state_view (draft.Whole t) = Whole t

-- What a function gave, seen by view, is what is read, unless memory ran out.
abbrev pub Fails : {Y : Type 0} → ReadKind → Result Y ReadKind → Type 0
Fails OutOfMemory read = Unit {0}
Fails kind read = read ≡ Err kind

abbrev pub Returns : {X Y : Type 0} → (X → Y) → Result X ReadKind → Result Y ReadKind → Type 0
Returns view (Ok x) read = read ≡ Ok (view x)
Returns view (Err kind) read = Fails kind read
