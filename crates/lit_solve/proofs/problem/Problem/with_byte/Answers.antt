use Rattle.lit_solve.proofs.Words.{◌*◌, ◌+◌, ◌<◌, ◌^◌, ap, arith, byte_read_at, byte_reads, common_steps, Event, events_on, HasRoom}
use Rattle.lit_solve.proofs.Words.{length, List, refl, slice_get, Some, Taken, ℕ, ◌∙◌, ◌≡◌, ◌≤◌}
use Rattle.lit_solve.proofs.ReadByteLemmas.{read_there, fits_word, room_on, small_unit}
use Rattle.lit_solve.proofs.problem.Problem.with_byte.Goals as goal

-- ---- a byte read of the read, with what is taken before it
module _ (events : List Event) (read place : ℕ) (taken : Taken) (inside : place < length (byte_reads events)) (is : (byte_read_at events place).0 ≡ read)
    (room : HasRoom events read place taken) where
  here : slice_get (byte_reads events) place ≡ Some (read, (byte_read_at events place).1)
  here = read_there events place read inside is

  unit_small : 256 ^ taken.bytes ≤ 256 ^ 3
  unit_small = small_unit events read place (byte_read_at events place).1 here taken room

  fits : (unit byte : ℕ) → unit ≡ 256 ^ taken.bytes → byte < 256 → taken.value + unit * byte < 4294967296
  fits = fits_word events read place (byte_read_at events place).1 here taken room

pub pow-unit-requires : goal.pow-unit-requires
pow-unit-requires c =
    omega (arith, unit_small (events_on c.args.self.now) _ c.args.place c.args.taken c.requires.place refl c.requires.room)

pub overflow_mul-result : goal.overflow_mul-result
overflow_mul-result c =
    let below = fits (events_on c.args.self.now) _ c.args.place c.args.taken c.requires.place refl c.requires.room in
    omega (arith, below c.pow-unit.result c.from.result c.pow-unit.ensures (omega (arith, c.from.ensures, c.stored.type_inv)))

pub overflow_add-result : goal.overflow_add-result
overflow_add-result c =
    let below = fits (events_on c.args.self.now) _ c.args.place c.args.taken c.requires.place refl c.requires.room in
    omega (arith, below c.pow-unit.result c.from.result c.pow-unit.ensures (omega (arith, c.from.ensures, c.stored.type_inv)))

pub returns-clause-value : goal.returns-clause-value
returns-clause-value c =
    ap (λ (n : ℕ). c.args.taken.value + n * c.from.result) c.pow-unit.ensures
    ∙ ap (λ (n : ℕ). c.args.taken.value + 256 ^ c.args.taken.bytes * n) (c.from.ensures ∙ c.stored.ensures)

pub returns-clause-room : goal.returns-clause-room
returns-clause-room c = grind (arith, common_steps, here, room_on, c.requires.place, c.requires.room)
