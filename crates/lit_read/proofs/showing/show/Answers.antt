use Rattle.std.proofs.Common.{◌≡◌, ◌++◌, List, [], ◌∷◌, ℕ, string_bytes, ap, ◌∙◌}
use Rattle.std.specs.Global.{Vec}
use Rattle.lit_syntax.specs.Forms.{TestLine, BytesLine}
use Rattle.lit_read.specs.CanonicalText.{forms_text}
use Rattle.lit_read.proofs.ShownForms.{test_put}
use Rattle.lit_read.proofs.showing.show.Goals as goal

pub returns-clause-ok : goal.returns-clause-ok
returns-clause-ok c =
    let head : string_bytes c.put_head.new.out ≡ forms_text (TestLine c.args.test.now.name ∷ BytesLine c.args.test.now.bytes ∷ []) =
    c.in_ok-put_head.ensures ∙ ap (λ (bs : List ℕ). bs ++ forms_text (TestLine c.args.test.now.name ∷ BytesLine c.args.test.now.bytes ∷ [])) c.new-out.ensures.bytes in
    ap (λ (w : Vec ℕ). w.items) c.into_bytes.ensures.value ∙ test_put c.args.test.now (string_bytes c.put_head.new.out) (string_bytes c.put_agents.new.out) (string_bytes c.put_check.new.out) head c.in_ok-put_agents.ensures c.in_ok-put_check.ensures
