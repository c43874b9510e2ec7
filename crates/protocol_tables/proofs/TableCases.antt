-- What a warden and the office with their tables do, case by case.
-- Assumes nothing.
use Rattle.std.proofs.Common.{◌≡◌, ℕ, ◌<◌, true, false, leb, List, [], ◌∷◌, ◌++◌}
use Rattle.std.proofs.lemmas.Bool.{cond_both}
use Rattle.register.specs.Note.{Note}
use Rattle.protocol.specs.Message.{office, Message, Take, Took, Ask, Told, One}
use Rattle.protocol.specs.Step.{Step, Done, Refused, refuse}
use Rattle.protocol.specs.Warden.{WardenDone, taken, answered}
use Rattle.protocol.specs.Office.{OfficeDone, Desk, last_edition, begin_writing}
use Rattle.protocol.proofs.PartyCases.{WardenCase, warden_takes, warden_had, warden_answers, warden_passes, warden_case, WriteCase, write_begins, write_refused, write_case}
use Rattle.protocol_tables.specs.Keep.{Keep, room, store}
use Rattle.protocol_tables.specs.Warden.{keep_note, warden_keeps}
use Rattle.protocol_tables.specs.Office.{Office, OfficeStep, leave, keep_writing, office_writes}

-- A WARDEN hears a message
-- it takes x
abbrev pub took_step : (k : ℕ) → Note → Keep Note → Step (Keep Note) WardenDone
took_step k x d = record { next = store k x d; sends = One office (Took x.edition); outcome = Done taken }

pub data KeepCase (d : Keep Note) (from k : ℕ) : Message → Step (Keep Note) WardenDone → Type 0 where
  keep_takes : (x : Note) → from ≡ office → (d.at k).edition < x.edition → room k d ≡ true → KeepCase d from k (Take x) (took_step k x d)
  keep_full : (x : Note) → from ≡ office → room k d ≡ false → KeepCase d from k (Take x) (refuse d 6)
  keep_had : (x : Note) → KeepCase d from k (Take x) (record { next = d; sends = One office (Took x.edition); outcome = Refused 2 })
  keep_answers : (r : ℕ) → KeepCase d from k (Ask r) (record { next = d; sends = One from (Told r (d.at k)); outcome = Done answered })
  keep_passes : {m : Message} → KeepCase d from k m (refuse d 1)

pub keep_case : (d : Keep Note) (from k : ℕ) (m : Message) → KeepCase d from k m (warden_keeps d from k m)
keep_case d from k m = go (warden_case (d.at k) from m)
  where
    go : {m : Message} {o : Step Note WardenDone} → WardenCase (d.at k) from m o → KeepCase d from k m (keep_note d k o)
    go (warden_takes x own late) = cond_both (room k d) (took_step k x d) (refuse d 6) (KeepCase d from k (Take x)) (keep_takes x own late) (keep_full x own)
    go (warden_had x own early) = keep_had x
    go (warden_answers r) = keep_answers r
    go warden_passes = keep_passes

-- THE OFFICE is told to write
-- a writing of k may begin
pub record Ready (a : Office) (k : ℕ) : Type 0 where
  pub idle : (a.desks.at k).busy ≡ false
  pub low : leb last_edition (a.desks.at k).now.edition ≡ false
  pub roomy : room k a.desks ≡ true

-- it begins, by that step
abbrev pub begun_by : Office → (k : ℕ) → Step Desk OfficeDone → OfficeStep
begun_by a k st =
    record { next = record { desks = store k st.next a.desks; under_way = a.under_way ++ (k ∷ []) }; letters = record { note = k; sends = st.sends } ∷ []; outcome = st.outcome }

pub data Written (a : Office) (k : ℕ) (v : List ℕ) : OfficeStep → Type 0 where
  begins_it : Ready a k → Written a k v (begun_by a k (begin_writing (a.desks.at k) v))
  refuses : (m : ℕ) → Written a k v (leave a (Refused m))

pub written : (a : Office) (k : ℕ) (v : List ℕ) → Written a k v (office_writes a k v)
written a k v = go (write_case (a.desks.at k) v)
  where
    go : {st : Step Desk OfficeDone} → WriteCase (a.desks.at k) v st → Written a k v (keep_writing a k st)
    go (write_begins idle low) =
        cond_both (room k a.desks) (begun_by a k (begin_writing (a.desks.at k) v)) (leave a (Refused 6)) (Written a k v) (λ roomy. begins_it (record { idle = idle; low = low; roomy = roomy })) (λ _. refuses 6)
    go write_refused = refuses 5
