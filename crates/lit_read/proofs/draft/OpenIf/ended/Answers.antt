use Rattle.std.proofs.Common.{◌≡◌, List, ap, sym, ◌∙◌, Option}
use Rattle.std.specs.Global.{Vec}
use Rattle.lit_syntax.specs.declared.syntax.Stmt.{Stmt}
use Rattle.lit_syntax.specs.Syntax.{Statement, Statements, If}
use Rattle.lit_syntax.specs.Litmus.{statements_of}
use Rattle.lit_read.specs.Internal.State.{followed_by, ended_if}
use Rattle.lit_read.specs.Internal.Views.{open_if_view, part_view}
use Rattle.lit_syntax.proofs.TreeViews.{if_views}
use Rattle.lit_read.proofs.DraftLemmas.{statements_pushed}
use Rattle.lit_read.proofs.draft.OpenIf.ended.Goals as goal
use Rattle.lit_read.proofs.draft.OpenIf.ended.Goals.{in-Some, in-None}

pub returns : goal.returns
returns c =
    let self = c.args.self in
    let body : Statements = statements_of c.args.body.items in
    let parts : If self.reg self.equal self.value (statements_of c.match-then_part.body.0.items) (statements_of c.match-then_part.body.1.items) ≡ ended_if (open_if_view self) body (part_view self.then_part) =
    elim c.match-then_part.branch [
      | in-Some w ↦ (
          ap (λ p. If self.reg self.equal self.value (statements_of p.0.items) (statements_of p.1.items)) w.body-is ∙ ap (λ (o : Option (Vec Stmt)). ended_if (open_if_view self) body (part_view o)) (sym w.in-Some.is)
          )
      | in-None w ↦ (
          ap (λ p. If self.reg self.equal self.value (statements_of p.0.items) (statements_of p.1.items)) w.body-is ∙ ap (λ (l : List Stmt). If self.reg self.equal self.value body (statements_of l)) w.new.ensures.items
          ∙ ap (λ (o : Option (Vec Stmt)). ended_if (open_if_view self) body (part_view o)) (sym w.in-None.is)
          )
    ] in
    ap statements_of c.in_ok-push.ensures.items ∙ statements_pushed self.before.items _
    ∙ ap (λ (s : Statement). followed_by (statements_of self.before.items) s) (if_views self.reg self.equal self.value c.match-then_part.body.0 c.match-then_part.body.1 ∙ parts)
