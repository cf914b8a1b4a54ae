use Rattle.std.proofs.Common.{◌≡◌, ◌<◌, ◌+◌, ℕ, List, Option, Some, None, length, sym, subst, ◌∙◌, unwrap_or, arith, Bor, true≢false}
use Rattle.std.specs.Prelude.{IfSome}
use Rattle.std.specs.Option.{option_map}
use Rattle.lit_read.proofs.ListedLines.{IsListing, listing_begins, listing_ends, listing_passes, listing_adds, number_within}
use Rattle.lit_read.proofs.line_numbers.statement_lines.Goals as goal

pub loop-rest-init : goal.loop-rest-init
loop-rest-init c = listing_begins c.args.text.now c.new-lines.result.items c.new-lines.ensures.items

pub number_after-number-requires : goal.number_after-number-requires
number_after-number-requires c =
    let l = subst (λ (r : Option (Bor (List ℕ))). IsListing c.args.text.now c.loop-rest.number c.loop-rest.lines.items (option_map (λ x. x.now) r)) c.in-Some.is c.loop-rest.invariant in
    omega (arith, number_within c.args.text.now c.in-Some.left.now c.split_line.result.0.now c.loop-rest.number c.loop-rest.lines.items (option_map (λ x. x.now) c.split_line.result.1) l c.split_line.ensures.value)

shorter : (rest : Option (Bor (List ℕ))) (left : Bor (List ℕ)) (after : Option (Bor (List ℕ))) → rest ≡ Some left → IfSome after (λ r. length r.now < length left.now)
    → unwrap_or (option_map (λ x. length x.now + 1) after) 0 < unwrap_or (option_map (λ x. length x.now + 1) rest) 0
shorter rest left None is h = rw is (omega arith)
shorter rest left (Some r) is h = rw is (omega (arith, h))

pub loop-rest-smaller-in_ok-push : goal.loop-rest-smaller-in_ok-push
loop-rest-smaller-in_ok-push c = shorter c.loop-rest.rest c.in-Some.left c.split_line.result.1 c.in-Some.is c.split_line.ensures.shorter

pub loop-rest-preserved-in_ok-push : goal.loop-rest-preserved-in_ok-push
loop-rest-preserved-in_ok-push c =
    let l = subst (λ (r : Option (Bor (List ℕ))). IsListing c.args.text.now c.loop-rest.number c.loop-rest.lines.items (option_map (λ x. x.now) r)) c.in-Some.is c.loop-rest.invariant in
    listing_adds c.args.text.now c.in-Some.left.now c.split_line.result.0.now c.loop-rest.number c.loop-rest.lines.items (option_map (λ x. x.now) c.split_line.result.1) l c.split_line.ensures.value
    c.number_after-number.result c.push.new.self.items c.number_after-number.ensures c.in_ok-push.ensures.items (c.in_ok-begins_statement.ensures.0 c.if-branch.true)

pub loop-rest-smaller : goal.loop-rest-smaller
loop-rest-smaller c = shorter c.loop-rest.rest c.in-Some.left c.split_line.result.1 c.in-Some.is c.split_line.ensures.shorter

pub loop-rest-preserved : goal.loop-rest-preserved
loop-rest-preserved c =
    let l = subst (λ (r : Option (Bor (List ℕ))). IsListing c.args.text.now c.loop-rest.number c.loop-rest.lines.items (option_map (λ x. x.now) r)) c.in-Some.is c.loop-rest.invariant in
    listing_passes c.args.text.now c.in-Some.left.now c.split_line.result.0.now c.loop-rest.number c.loop-rest.lines.items (option_map (λ x. x.now) c.split_line.result.1) l c.split_line.ensures.value
    c.number_after-number.result c.number_after-number.ensures (λ begun. true≢false (sym (c.in_ok-begins_statement.ensures.1 begun) ∙ c.if-branch.false))

pub returns : goal.returns
returns c =
    listing_ends c.args.text.now c.loop-rest.number c.loop-rest.lines.items
    (subst (λ (r : Option (Bor (List ℕ))). IsListing c.args.text.now c.loop-rest.number c.loop-rest.lines.items (option_map (λ x. x.now) r)) c.in_default.is c.loop-rest.invariant)
