use Rattle.jslit.proofs.Schedules.{before_comma, first_member}
use Rattle.jslit.proofs.interleaving.schedule.split_member.Goals as goal

pub returns-in-empty-clause-member : goal.returns-in-empty-clause-member
returns-in-empty-clause-member c = rw (c.split_at.ensures.front, c.member_len.ensures.value) (before_comma c.args.text.now)

pub returns-in-len1-up-clause-parts : goal.returns-in-len1-up-clause-parts
returns-in-len1-up-clause-parts c =
    rw (c.split_at.ensures.front, c.split_at.ensures.back) (first_member c.args.text.now c.member_len.result c.member_len.ensures.value (rw (← c.split_at.ensures.back) c.in-len1-up.len_at_least))

pub returns-in-len1-up-clause-member : goal.returns-in-len1-up-clause-member
returns-in-len1-up-clause-member c = rw (c.split_at.ensures.front, c.member_len.ensures.value) (before_comma c.args.text.now)
