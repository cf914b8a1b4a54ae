use Rattle.std.proofs.Common.{◌≡◌, ◌++◌, drop, string_bytes}
use Rattle.lit_syntax.specs.Litmus.{statements_of}
use Rattle.lit_read.specs.Canonical.{statements_forms}
use Rattle.lit_read.specs.CanonicalText.{forms_text}
use Rattle.lit_read.proofs.showing.statements.+statements.Given as goal

abbrev pub invariant-put_statements-loop-stmt : goal.invariant-put_statements-loop-stmt
invariant-put_statements-loop-stmt l = string_bytes l.out ++ forms_text (statements_forms (statements_of (drop l.stmt-index l.body))) ≡ string_bytes l.fn.out ++ forms_text (statements_forms (statements_of l.body))
