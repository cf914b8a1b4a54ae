use Rattle.std.proofs.Common.{rules, inr}
use Rattle.serde_json.specs.View.{view}
use Rattle.serde_json.specs.declared.value.Value as value
use Rattle.serde_json.specs.declared.value.Value.{the_lemmas}
use Rattle.lit_json.proofs.ToldLemmas.{first_fault}
use Rattle.lit_json.proofs.text.text_value.Goals as goal

pub returns-in_ok-whole-in-Err : goal.returns-in_ok-whole-in-Err
returns-in_ok-whole-in-Err c = record {
  test = view value.Null;
  counts = view value.Null;
  fault = view c.in_ok-fault-in-Err.fault;
  of_text = inr (record {
    kind = c.in-Err.fault.kind;
    line = c.in-Err.fault.line;
    refused = first_fault c.args.text.now c.in-Err.fault.kind c.in-Err.fault.line c.in-Err.ensures.fault c.in_ok-fault-in-Err.ensures.of_text;
    untold = search (rules, the_lemmas);
    uncounted = search (rules, the_lemmas);
    faulty = c.in_ok-fault-in-Err.ensures.told;
  });
  is = c.in_ok-whole-in-Err.ensures;
}
