use Rattle.lit_interleave.proofs.Words.{◌++◌, [], ap, Bor, End, joined_all, List, Progress, REGISTERS, replicate, Statements}
use Rattle.lit_interleave.proofs.Words.{statements_of, Stmt, ◌∙◌, ◌∷◌, ◌≡◌}
use Rattle.lit_interleave.proofs.NextAccess.{joined_end}
use Rattle.lit_interleave.proofs.runner.Runner.new.Goals as goal

pub returns : goal.returns
returns c =
    let items : c.push.new.self.items ≡ c.args.body ∷ [] = c.in_ok-push.ensures.items ∙ ap (λ (lists : List (Bor (List Stmt))). lists ++ c.args.body ∷ []) c.new-left.ensures.items in
    let left : joined_all c.push.new.self.items End ≡ statements_of c.args.body.now = ap (λ (lists : List (Bor (List Stmt))). joined_all lists End) items ∙ joined_end (statements_of c.args.body.now) in
    let P : Statements → Progress = λ x. record { left = x; registers = replicate REGISTERS 0 } in
    ap P left
