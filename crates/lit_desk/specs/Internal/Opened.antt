-- An open desk as the contracts see it.
use Rattle.std.specs.Prelude.{◌≡◌, ◌≤◌}
use Rattle.lit_desk.specs.declared.desk.Desk.TheInside.{Inside}
use Rattle.lit_desk.specs.declared.limits.TheConstants.{MOST_PIECES, MOST_SEATS}
use Rattle.lit_desk.specs.Desk.{DeskName, desk_name}

abbrev pub name_of : Inside → DeskName
name_of d = desk_name d.table.shared.table_id d.terms.pieces d.terms.seats

-- its table has the three words, no slot, and terms within the limits
pub record IsOpen (d : Inside) : Type 0 where
  pub words : d.table.shared.table_id.words ≡ 3
  pub slots : d.table.shared.table_id.slots ≡ 0
  pub key : d.table.shared.key ≡ d.terms
  pub few_pieces : d.terms.pieces ≤ MOST_PIECES
  pub few_seats : d.terms.seats ≤ MOST_SEATS
