use Rattle.lit_search.proofs.Words.{ap, arith, joined_entries, length, ranked_entry, Some, sym, ◌∙◌}
use Rattle.lit_search.specs.Internal.Ranks.{IsRank}
use Rattle.lit_search.proofs.MergedEntries.{taken_less}
use Rattle.lit_search.proofs.Popped.{fewer_first, fewer_second, front_is, rest_are, taken_equal, taken_greater}
use Rattle.lit_search.proofs.found.merging.take_least.Goals as goal

pub returns-in-Less-clause-taken : goal.returns-in-Less-clause-taken
returns-in-Less-clause-taken c =
    taken_less (ranked_entry (joined_entries c.args.parts.now)) c.args.a.now.items c.pop_front.new.self.items c.args.b.now.items c.pop_front.result (sym c.compared.ensures ∙ c.in-Less.is) c.pop_front.ensures.items

pub returns-in-Less-clause-rank : goal.returns-in-Less-clause-rank
returns-in-Less-clause-rank c =
    front_is (IsRank (joined_entries c.args.parts.now)) c.pop_front.result c.args.a.now.items c.pop_front.new.self.items
    c.pop_front.ensures.items c.requires.first

pub returns-in-Less-clause-first : goal.returns-in-Less-clause-first
returns-in-Less-clause-first c =
    rest_are (IsRank (joined_entries c.args.parts.now)) c.pop_front.result c.args.a.now.items c.pop_front.new.self.items
    c.pop_front.ensures.items c.requires.first

pub returns-in-Less-clause-second : goal.returns-in-Less-clause-second
returns-in-Less-clause-second c = c.requires.second

pub returns-in-Less-clause-fewer : goal.returns-in-Less-clause-fewer
returns-in-Less-clause-fewer c =
    fewer_first c.pop_front.result c.args.a.now.items c.pop_front.new.self.items (length c.args.b.now.items) c.pop_front.ensures.items

pub returns-in-Greater-clause-taken : goal.returns-in-Greater-clause-taken
returns-in-Greater-clause-taken c =
    taken_greater (ranked_entry (joined_entries c.args.parts.now)) c.args.a.now.items c.args.b.now.items
    c.pop_front-in-Greater.new.self.items
    c.pop_front-in-Greater.result (sym c.compared.ensures ∙ c.in-Greater.is) c.pop_front-in-Greater.ensures.items

pub returns-in-Greater-clause-rank : goal.returns-in-Greater-clause-rank
returns-in-Greater-clause-rank c =
    front_is (IsRank (joined_entries c.args.parts.now)) c.pop_front-in-Greater.result c.args.b.now.items
    c.pop_front-in-Greater.new.self.items
    c.pop_front-in-Greater.ensures.items c.requires.second

pub returns-in-Greater-clause-first : goal.returns-in-Greater-clause-first
returns-in-Greater-clause-first c = c.requires.first

pub returns-in-Greater-clause-second : goal.returns-in-Greater-clause-second
returns-in-Greater-clause-second c =
    rest_are (IsRank (joined_entries c.args.parts.now)) c.pop_front-in-Greater.result c.args.b.now.items
    c.pop_front-in-Greater.new.self.items
    c.pop_front-in-Greater.ensures.items c.requires.second

pub returns-in-Greater-clause-fewer : goal.returns-in-Greater-clause-fewer
returns-in-Greater-clause-fewer c =
    fewer_second c.pop_front-in-Greater.result c.args.b.now.items c.pop_front-in-Greater.new.self.items (length c.args.a.now.items)
    c.pop_front-in-Greater.ensures.items

pub returns-in_ok-pop_front-in-Equal-2-clause-taken : goal.returns-in_ok-pop_front-in-Equal-2-clause-taken
returns-in_ok-pop_front-in-Equal-2-clause-taken c =
    taken_equal (ranked_entry (joined_entries c.args.parts.now)) c.args.a.now.items c.args.b.now.items c.pop_front-in-Equal.new.self.items
    c.pop_front-in-Equal-2.new.self.items c.in_ok-pop_front-in-Equal.field-0 c.in_ok-pop_front-in-Equal-2.field-0 c.lesser.result
    (sym c.compared.ensures ∙ c.in-Equal.is) c.in_ok-pop_front-in-Equal.ensures.items c.in_ok-pop_front-in-Equal-2.ensures.items
    c.lesser.ensures.lesser

pub returns-in_ok-pop_front-in-Equal-2-clause-rank : goal.returns-in_ok-pop_front-in-Equal-2-clause-rank
returns-in_ok-pop_front-in-Equal-2-clause-rank c = c.lesser.ensures.rank

pub returns-in_ok-pop_front-in-Equal-2-clause-first : goal.returns-in_ok-pop_front-in-Equal-2-clause-first
returns-in_ok-pop_front-in-Equal-2-clause-first c =
    rest_are (IsRank (joined_entries c.args.parts.now)) (Some c.in_ok-pop_front-in-Equal.field-0) c.args.a.now.items
    c.pop_front-in-Equal.new.self.items
    c.in_ok-pop_front-in-Equal.ensures.items c.requires.first

pub returns-in_ok-pop_front-in-Equal-2-clause-second : goal.returns-in_ok-pop_front-in-Equal-2-clause-second
returns-in_ok-pop_front-in-Equal-2-clause-second c =
    rest_are (IsRank (joined_entries c.args.parts.now)) (Some c.in_ok-pop_front-in-Equal-2.field-0) c.args.b.now.items
    c.pop_front-in-Equal-2.new.self.items
    c.in_ok-pop_front-in-Equal-2.ensures.items c.requires.second

pub returns-in_ok-pop_front-in-Equal-2-clause-fewer : goal.returns-in_ok-pop_front-in-Equal-2-clause-fewer
returns-in_ok-pop_front-in-Equal-2-clause-fewer c =
    omega (arith, ap length c.in_ok-pop_front-in-Equal.ensures.items, ap length c.in_ok-pop_front-in-Equal-2.ensures.items)
