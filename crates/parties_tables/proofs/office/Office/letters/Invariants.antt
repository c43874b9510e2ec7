use Rattle.std.proofs.Common.{◌≡◌, map, take, vec_items}
use Rattle.protocol_tables.specs.Office.{again}
use Rattle.parties_tables.specs.Offices.{number_of, office_of, letter_of}
use Rattle.parties_tables.proofs.office.Office.letters.Given as goal

abbrev pub invariant-loop-number : goal.invariant-loop-number
invariant-loop-number l = map letter_of (vec_items l.letters) ≡ map (again (office_of l.self).desks) (map number_of (take l.number-index l.number-items))
