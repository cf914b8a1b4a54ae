use Rattle.lit_solve.proofs.Words.{byte_read_at, events_on, HasRoom, subst, sym, ℕ}
use Rattle.lit_rel.proofs.SourceLemmas.{read_known}
use Rattle.lit_solve.proofs.ReadByteLemmas.{read_there}
use Rattle.lit_solve.proofs.problem.Problem.take.Goals as goal

pub whole_with-requires-clause-read : goal.whole_with-requires-clause-read
whole_with-requires-clause-read c =
    let events = events_on c.args.self.now in
    read_known events c.args.place c.args.read (byte_read_at events c.args.place).1
    (read_there events c.args.place c.args.read c.requires.place c.requires.read)

pub with_byte-next-requires-clause-room : goal.with_byte-next-requires-clause-room
with_byte-next-requires-clause-room c =
    subst (λ (r : ℕ). HasRoom (events_on c.args.self.now) r c.args.place c.args.taken) (sym c.requires.read) c.requires.room
