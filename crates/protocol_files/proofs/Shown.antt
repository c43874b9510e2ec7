-- How a run without files shows in one with files. It may have more on its way, and know of an end that the office's file lacks.
-- Assumes nothing.
use Rattle.std.proofs.Common.{◌≡◌, ℕ, ◌*◌, ◌<◌, Bool, false, List, [], ◌∷◌, ◌++◌, refl, ⊎_elim}
use mathlib.Core.List.Memᴰ
use mathlib.Core.List.{Memᴰ}
use Rattle.register.specs.Note.{Note}
use Rattle.protocol.specs.Message.{office, Take, Took, Ask, Told, Packet}
use Rattle.protocol.specs.Step.{Outcome, Done, Refused}
use Rattle.protocol.specs.Reader.{ReaderDone, asked, asked_again, retried, no_reading, heard, undecided, read, unsure, Reader}
use Rattle.protocol.specs.Log.{Event, Began, Log}
use Rattle.protocol.specs.System.{reader_event}
use Rattle.protocol_tables.specs.Keep.{Keep}
use Rattle.protocol_tables.specs.Office.{Office}
use Rattle.protocol_tables.specs.System as tables
use Rattle.protocol_tables.proofs.Within.{Within}
use Rattle.frames.specs.Format.{Frame, Sent, Begun, Ended, Fits}
use Rattle.protocol_files.specs.Records.{took_by, took_all}
use Rattle.protocol_files.specs.System.{System}
use Rattle.protocol_files.proofs.WardenFiles.{OfficeFits, WardenShows}
use Rattle.protocol_files.proofs.OfficeFiles.{OfficeShows}
use Rattle.protocol_files.proofs.Posted.{run_posted}

-- what has begun has room in a record
abbrev pub LogFits : Log → Type 0
LogFits l = (k e : ℕ) (v : List ℕ) → Memᴰ (Began k e v) l → Fits (Begun k (record { edition = e; value = v }))

-- nothing begins in these
abbrev pub NoneBegin : List Event → Type 0
NoneBegin xs = (k e : ℕ) (v : List ℕ) → Memᴰ (Began k e v) xs → ⊥

pub fits_more : (xs : List Event) {l : Log} → NoneBegin xs → LogFits l → LogFits (xs ++ l)
fits_more xs none h k e v at = ⊎_elim (λ at. absurd (none k e v at)) (h k e v) (Memᴰ.append_cases xs at)

took_none : (i : ℕ) (f : Frame) → NoneBegin (took_by i f)
took_none i (Sent k (Take x)) = λ k e v at. cc (Memᴰ.eq_of_singleton at)
took_none i (Sent k (Took e)) = λ k e v at. Memᴰ.not-nil at
took_none i (Sent k (Ask r)) = λ k e v at. Memᴰ.not-nil at
took_none i (Sent k (Told r x)) = λ k e v at. Memᴰ.not-nil at
took_none i (Begun k x) = λ k e v at. Memᴰ.not-nil at
took_none i (Ended k e) = λ k e v at. Memᴰ.not-nil at

pub took_fits : (i : ℕ) (fs : List Frame) {l : Log} → LogFits l → LogFits (took_all i fs l)
took_fits i [] h = h
took_fits i (f ∷ fs) {l} h = took_fits i fs {l = took_by i f ++ l} (fits_more (took_by i f) {l = l} (took_none i f) h)

pub reader_none : (j : ℕ) (q : Reader) (out : Outcome ReaderDone) → NoneBegin (reader_event j q out)
reader_none j q (Done asked) = λ k e v at. cc (Memᴰ.eq_of_singleton at)
reader_none j q (Done asked_again) = λ k e v at. Memᴰ.not-nil at
reader_none j q (Done retried) = λ k e v at. cc (Memᴰ.eq_of_singleton at)
reader_none j q (Done no_reading) = λ k e v at. Memᴰ.not-nil at
reader_none j q (Done heard) = λ k e v at. Memᴰ.not-nil at
reader_none j q (Done undecided) = λ k e v at. Memᴰ.not-nil at
reader_none j q (Done (read x)) = λ k e v at. cc (Memᴰ.eq_of_singleton at)
reader_none j q (Done unsure) = λ k e v at. cc (Memᴰ.eq_of_singleton at)
reader_none j q (Refused m) = λ k e v at. Memᴰ.not-nil at

module _ (n f : ℕ) (liar : ℕ → Bool) where
  -- without files: the office has o, the wardens have w, and b is on its way
  abbrev pub plain : Office → (ℕ → Keep Note) → List Packet → System → tables.System
  plain o w b s = record { office = o; warden = w; reader = s.reader; bag = b; log = s.log }

  pub record Shown (s : System) (o : Office) (w : ℕ → Keep Note) (b : List Packet) : Type 0 where
    pub run : tables.Run n f liar (plain o w b s)
    pub bag : Within s.bag b
    pub fits : LogFits s.log
    pub office : OfficeShows n b s.log o s.office
    pub warden : (i : ℕ) → i < n → liar i ≡ false → WardenShows n i s.bag (w i) (s.warden i)

  abbrev pub Followed : System → Type 0
  Followed s = (o : Office) × (w : ℕ → Keep Note) × (b : List Packet) × Shown s o w b

  -- what the office sends has room in a record
  pub sent_fits : 4 * f < n → {s : System} {o : Office} {w : ℕ → Keep Note} {b : List Packet} → Shown s o w b → OfficeFits b
  sent_fits least {s} h to k x at = h.fits k x.edition x.value (run_posted n f liar least h.run (record { from = office; to = to; note = k; message = Take x }) x at refl refl)
