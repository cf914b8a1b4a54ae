use Rattle.std.proofs.Common.{refl}
use Rattle.std.proofs.lemmas.Bool.{false≢true}
use Rattle.lit_rel.proofs.OrderLemmas.{IsOrder-alone, IsOrder-with_pair}
use Rattle.lit_rel.proofs.given.relations.order_with.Goals as goal

pub returns-then-can_synchronize : goal.returns-then-can_synchronize
returns-then-can_synchronize c sources left is =
    let can = rw (c.event_at.ensures, c.event_at-2.ensures, c.from-source.ensures, c.from-read.ensures) at (c.if-can_synchronize.ensures.0 refl) in
    let closed = rw (c.from-source.ensures, c.from-read.ensures) at c.close_with.ensures.pairs in
    IsOrder-with_pair c.args.events.now sources c.args.byte left c.args.before.now.rows is c.close_with.new.self.rows can c.close_with.ensures.len closed

pub returns-else-can_synchronize : goal.returns-else-can_synchronize
returns-else-can_synchronize c sources left is =
    IsOrder-alone c.args.events.now sources c.args.byte left c.args.before.now.rows is
    (λ can. false≢true (c.if-can_synchronize.ensures.1 (rw (c.event_at.ensures, c.event_at-2.ensures, c.from-source.ensures, c.from-read.ensures) can)))
