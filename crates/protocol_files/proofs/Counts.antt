-- What the office is still writing has not been taken by enough wardens, as far as it knows.
-- Assumes nothing.
use Rattle.std.proofs.Common.{◌≡◌, ℕ, ◌*◌, ◌<◌, Bool, true, cond, List, [], ◌++◌, arith}
use Rattle.std.proofs.lemmas.Bool.{cond_both}
use Rattle.register.proofs.Put.{put_all}
use Rattle.protocol.specs.Message.{Message}
use Rattle.protocol.specs.Step.{Step}
use Rattle.protocol.specs.Office.{OfficeDone, Desk, begin_writing, office_on}
use Rattle.protocol.proofs.Sound.{SoundDesk, too_few, sound_office}
use Rattle.protocol_tables.specs.Keep.{store}
use Rattle.protocol_tables.specs.Office.{Office, OfficeStep, counts, ends, without, leave, office_writes, office_hears}
use Rattle.protocol_tables.proofs.TableCases.{Written, begins_it, refuses, written}
use Rattle.frames.specs.Format.{Frame}
use Rattle.protocol_files.specs.Records.{office_of}
use Rattle.protocol_files.specs.System.{System, Move, writes, office_tick, office_hear, write_stops, hear_stops, office_falls, office_opens, office_scribbles, office_renames, warden_hear, warden_flushes, warden_falls, warden_opens, warden_scribbles, warden_renames, loses, reads, reader_ticks, reader_hears, reader_restarts, lies, Run, begin, then}
use Rattle.protocol_files.proofs.OfficeSteps.{fresh_of}

module _ (n f : ℕ) (liar : ℕ → Bool) (least : 4 * f < n) where
  abbrev SoundOffice : Office → Type 0
  SoundOffice o = (k : ℕ) → SoundDesk n f (o.desks.at k)

  some : f < n
  some = omega arith

  writes_sound : (o : Office) (k : ℕ) (v : List ℕ) → SoundOffice o → SoundOffice (office_writes o k v).next
  writes_sound o k v h = go (written o k v)
    where
      go : {s : OfficeStep} → Written o k v s → SoundOffice s.next
      go (begins_it ready) = put_all (λ _ d. SoundDesk n f d) k (begin_writing (o.desks.at k) v).next o.desks.at (λ _. too_few n f some) h
      go (refuses m) = h

  hears_sound : (o : Office) (from k : ℕ) (m : Message) → SoundOffice o → SoundOffice (office_hears n f o from k m).next
  hears_sound o from k m h =
      cond_both (counts st.outcome) (record { next = record { desks = store k st.next o.desks; under_way = cond (ends st.outcome) (without k o.under_way) o.under_way }; letters = []; outcome = st.outcome }) (leave o st.outcome) (λ (s : OfficeStep). SoundOffice s.next)
      (λ _. put_all (λ _ d. SoundDesk n f d) k st.next o.desks.at (sound_office n f some (o.desks.at k) from m (h k)) h)
      (λ _. h)
    where
      st : Step Desk OfficeDone
      st = office_on n f (o.desks.at k) from m

  -- who has only read its file has counted nobody
  opens_sound : (fs : List Frame) → SoundOffice (office_of fs)
  opens_sound fs k busy = rw ((fresh_of fs).acks k) (too_few n f some)

  abbrev Sound : System → Type 0
  Sound s = s.office.up ≡ true → SoundOffice s.office.memory

  move_sound : {s t : System} → Move n f liar s t → Sound s → Sound t
  move_sound {s} (writes k v fits on) h up = writes_sound s.office.memory k v (h up)
  move_sound (office_tick on) h up = h up
  move_sound {s} (office_hear p on m to) h up = hears_sound s.office.memory p.from p.note p.message (h up)
  move_sound (write_stops k v j left fits on) h up = cc
  move_sound (hear_stops p j left on m to) h up = cc
  move_sound (office_falls d left fall) h up = cc
  move_sound (office_opens ss ps rest down found) h up = opens_sound (ss ++ ps)
  move_sound (office_scribbles g) h up = h up
  move_sound (office_renames left anew) h up = cc
  move_sound (warden_hear i p below own on m to) h up = h up
  move_sound (warden_flushes i fs below own on pending records) h up = h up
  move_sound (warden_falls i d left below own fall) h up = h up
  move_sound (warden_opens i ss ps rest below own down found) h up = h up
  move_sound (warden_scribbles i g below own) h up = h up
  move_sound (warden_renames i left below own anew) h up = h up
  move_sound (loses i) h up = h up
  move_sound (reads j k own) h up = h up
  move_sound (reader_ticks j own) h up = h up
  move_sound (reader_hears j p own m to) h up = h up
  move_sound (reader_restarts j first low) h up = h up
  move_sound (lies p so other) h up = h up

  pub run_sound : {s : System} → Run n f liar s → s.office.up ≡ true → (k : ℕ) → SoundDesk n f (s.office.memory.desks.at k)
  run_sound begin up = cc
  run_sound (then before m) up = move_sound m (run_sound before) up
