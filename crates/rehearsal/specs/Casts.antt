-- The parties of a rehearsal, as the rules have them.
-- Assumes nothing.
use Rattle.std.specs.Prelude.{◌≡◌, ℕ, List, map, slice_index_or}
use Rattle.register.specs.Count.{put}
use Rattle.register.specs.Note.{Note, none}
use Rattle.protocol.specs.Message.{Message, Sends}
use Rattle.protocol.specs.Step.{Outcome}
use Rattle.protocol.specs.Warden.{WardenDone}
use Rattle.protocol.specs.Reader as rules
use Rattle.protocol_tables.specs.Keep.{Keep, empty}
use Rattle.protocol_tables.specs.Warden.{warden_keeps}
use Rattle.parties.specs.Readers.{reader_of}
use Rattle.parties.specs.declared.reader.Reader.{Reader}
use Rattle.parties_tables.specs.Wardens.{notes_of}
use Rattle.parties_tables.specs.declared.warden.Warden.{Warden}
use Rattle.rehearsal.specs.declared.readers.Readers.{Readers}

-- what each warden has
abbrev pub keeps_of : List Warden → ℕ → Keep Note
keeps_of ws i = slice_index_or (map notes_of ws) i (empty none)

-- the warden i has done with a message about the note k what the rules say
pub record HeardBy (i from k : ℕ) (m : Message) (before after : ℕ → Keep Note) (sends : Sends) (outcome : Outcome WardenDone) : Type 0 where
  pub keeps_are : after ≡ put i (warden_keeps (before i) from k m).next before
  pub sends_is : sends ≡ (warden_keeps (before i) from k m).sends
  pub outcome_is : outcome ≡ (warden_keeps (before i) from k m).outcome

-- each reader, counted from 0
abbrev pub readers_of : Readers → ℕ → rules.Reader
readers_of r j = slice_index_or (map reader_of r.each) j (rules.new_reader 1)

-- the numbers that each reader reckons with: of wardens, and of those that may lie
abbrev pub numbers_by : Reader → ℕ × ℕ
numbers_by q = (q.quorum.wardens, q.quorum.faults)

abbrev pub numbers_of : Readers → ℕ → ℕ × ℕ
numbers_of r j = slice_index_or (map numbers_by r.each) j (0, 0)
