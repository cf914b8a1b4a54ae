use Rattle.lit_read.proofs.TestForms.{one_test_of}
use Rattle.lit_read.proofs.laws.forms_of_one_test.Goals as goal

pub returns : goal.returns
returns c = one_test_of
