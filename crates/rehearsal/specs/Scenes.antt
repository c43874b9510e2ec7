-- The parties and what is on its way between them, as the rules have it, and how a step changes that.
-- Assumes nothing.
use Rattle.std.specs.Prelude.{◌≡◌, ℕ, ◌+◌, ◌<◌, ◌≤◌, true, false, ◌⊎◌, List, [], ◌∷◌, ◌++◌, Ok, Err, vec_items, vec_len, Result, Option, option_map, MatchOption, option_and_then}
use Rattle.register.specs.Count.{put}
use Rattle.register.specs.Note.{Note}
use Rattle.notes.specs.Views.{members}
use Rattle.protocol.specs.Message as rules
use Rattle.protocol.specs.Message.{office, packets}
use Rattle.protocol.specs.Step.{Step, Outcome}
use Rattle.protocol.specs.Warden.{WardenDone}
use Rattle.protocol.specs.Reader.{Reader as AnyReader, ReaderDone, reader_tick, reader_on}
use Rattle.protocol_tables.specs.Keep.{Keep}
use Rattle.protocol_tables.specs.Warden.{warden_keeps}
use Rattle.protocol_tables.specs.Office as offices
use Rattle.protocol_tables.specs.Office.{Letter, OfficeStep, office_hears}
use Rattle.parties.specs.Views.{message_of, OfficeOutcome, WardenOutcome, ReaderOutcome, office_outcome, warden_outcome, reader_outcome}
use Rattle.parties_tables.specs.Offices.{office_of}
use Rattle.rehearsal.specs.Casts.{keeps_of, readers_of, numbers_of}
use Rattle.rehearsal.specs.Seeds.{answer_by, after_answer}
use Rattle.rehearsal.specs.Ways.{packets_of}
use Rattle.rehearsal.specs.declared.failure.Failure.{Failure}
use Rattle.rehearsal.specs.declared.failure.Failure.TheVariants.{Script, Memory}
use Rattle.rehearsal.specs.declared.stage.Stage.{Stage}
use Rattle.rehearsal.specs.declared.stage.Arrival.{Arrival}
use Rattle.rehearsal.specs.declared.stage.Arrival.TheVariants.{Office, Warden, Reader, Liar, Nobody}
use Rattle.rehearsal.specs.declared.way.Packet.{Packet}

-- on_way: what is on its way, the oldest first
pub record Scene : Type 0 where
  pub office : offices.Office
  pub warden : ℕ → Keep Note
  pub reader : ℕ → AnyReader
  pub on_way : List rules.Packet

abbrev pub scene_of : Stage → Scene
scene_of s = record { office = office_of s.cast.office; warden = keeps_of (vec_items s.cast.wardens); reader = readers_of s.cast.readers; on_way = packets_of s.way }

-- how many wardens all reckon with
abbrev pub wardens_of : Stage → ℕ
wardens_of s = s.cast.office.quorum.wardens

-- the packets of the office's letters, one letter after the other
abbrev pub posted : (n : ℕ) → List Letter → List rules.Packet
posted n [] = []
posted n (l ∷ ls) = packets n office l.note l.sends ++ posted n ls

-- A PARTY HAS MADE A STEP, with n wardens: what it sends goes behind all that is on its way
abbrev pub by_office : (n : ℕ) → OfficeStep → Scene → Scene
by_office n o s = record { office = o.next; warden = s.warden; reader = s.reader; on_way = s.on_way ++ posted n o.letters }

-- a warden, about the note k
abbrev pub by_warden : (n i k : ℕ) → Step (Keep Note) WardenDone → Scene → Scene
by_warden n i k o s =
    record { office = s.office; warden = put i o.next s.warden; reader = s.reader; on_way = s.on_way ++ packets n i k o.sends }

abbrev pub by_reader : (n j : ℕ) → Step AnyReader ReaderDone → Scene → Scene
by_reader n j o s =
    record { office = s.office; warden = s.warden; reader = put j o.next s.reader; on_way = s.on_way ++ packets n (65 + j) o.next.note o.sends }

-- a step was made that leads to this scene, and comes to this
pub record Made {D : Type 0} (scene after : Scene) (comes_to outcome : Outcome D) : Type 0 where
  pub scene_is : after ≡ scene
  pub outcome_is : outcome ≡ comes_to

-- what stays as it is in every step: how many wardens there are, for all and for each reader, and how many take part; who lies; the seed
pub record Stays (s t : Stage) : Type 0 where
  pub numbers_are : numbers_of t.cast.readers ≡ numbers_of s.cast.readers
  pub quorum_is : t.cast.office.quorum ≡ s.cast.office.quorum
  pub wardens_are : vec_len t.cast.wardens ≡ vec_len s.cast.wardens
  pub liars_is : t.cast.liars ≡ s.cast.liars
  pub seed_is : t.seed ≡ s.seed

-- the office has made this step; the warden i, about the note k; the reader j, counted from 0
abbrev pub OfficeMade : (s t : Stage) → OfficeStep → OfficeOutcome → Type 0
OfficeMade s t step o = Made (by_office (wardens_of s) step (scene_of s)) (scene_of t) step.outcome (office_outcome o)

abbrev pub WardenMade : (s t : Stage) (i k : ℕ) → Step (Keep Note) WardenDone → WardenOutcome → Type 0
WardenMade s t i k step o = Made (by_warden (wardens_of s) i k step (scene_of s)) (scene_of t) step.outcome (warden_outcome o)

abbrev pub ReaderMade : (s t : Stage) (j : ℕ) → Step AnyReader ReaderDone → ReaderOutcome → Type 0
ReaderMade s t j step o = Made (by_reader (wardens_of s) j step (scene_of s)) (scene_of t) step.outcome (reader_outcome o)

-- WHAT IS DONE when time passes for a reader, and when a message comes
abbrev pub ticked : Stage → (j : ℕ) → Step AnyReader ReaderDone
ticked s j = reader_tick (numbers_of s.cast.readers j).0 (numbers_of s.cast.readers j).1 ((scene_of s).reader j)

abbrev pub at_office : Stage → Packet → OfficeStep
at_office s p = office_hears (wardens_of s) s.cast.office.quorum.faults (scene_of s).office p.from.0 p.note.0 (message_of p.message)

abbrev pub at_warden : Stage → (i : ℕ) → Packet → Step (Keep Note) WardenDone
at_warden s i p = warden_keeps ((scene_of s).warden i) p.from.0 p.note.0 (message_of p.message)

abbrev pub at_reader : Stage → (j : ℕ) → Packet → Step AnyReader ReaderDone
at_reader s j p = reader_on (numbers_of s.cast.readers j).0 (numbers_of s.cast.readers j).1 ((scene_of s).reader j) p.from.0 p.note.0 (message_of p.message)

-- somebody of this number takes part, where so many wardens do; no warden has a number above 62
abbrev pub Present : (wardens number : ℕ) → Type 0
Present n i = ((i < n) × (i < 63)) ⊎ ((i ≡ office) ⊎ ((65 ≤ i) × (i < 69)))

-- A MESSAGE HAS COME, and this is what it came to
abbrev pub Arrived : (s t : Stage) → Packet → Arrival → Type 0
Arrived s t p (Office o) = (p.to.0 ≡ office) × OfficeMade s t (at_office s p) o
Arrived s t p (Warden o) =
    (p.to.0 < vec_len s.cast.wardens) × (members s.cast.liars p.to.0 ≡ false) × WardenMade s t p.to.0 p.note.0 (at_warden s p.to.0 p) o
Arrived s t p (Reader o) = (j : ℕ) × (p.to.0 ≡ 65 + j) × ReaderMade s t j (at_reader s j p) o
Arrived s t p Liar = (p.to.0 < vec_len s.cast.wardens) × (members s.cast.liars p.to.0 ≡ true) × (t ≡ s)
Arrived s t p Nobody = (Present (vec_len s.cast.wardens) p.to.0 → ⊥) × (t ≡ s)

-- one message is sent
abbrev pub sending : (from to k : ℕ) → rules.Message → Scene → Scene
sending from to k m s =
    record { office = s.office; warden = s.warden; reader = s.reader; on_way = s.on_way ++ (record { from = from; to = to; note = k; message = m } ∷ []) }

-- a liar to whom p came has said nothing, or has sent one message as from itself about the same note
abbrev pub Lied : (s t : Scene) → Packet → Type 0
Lied s t p = (t ≡ s) ⊎ ((to : ℕ) × (m : rules.Message) × (t ≡ sending p.to.0 to p.note.0 m s))

-- to whom a liar says this, when p came to it
abbrev pub answered_to : Packet → rules.Message → ℕ
answered_to p (rules.Take x) = p.from.0
answered_to p (rules.Took e) = office
answered_to p (rules.Ask r) = p.from.0
answered_to p (rules.Told r x) = p.from.0

-- a liar to whom p came has answered by the seed, if there is one
abbrev pub Answered : (s t : Stage) → Packet → Type 0
Answered s t p =
    MatchOption (option_and_then (λ d. answer_by d.state (message_of p.message)) s.seed) (scene_of t ≡ scene_of s)
    (λ m. scene_of t ≡ sending p.to.0 (answered_to p m) p.note.0 m (scene_of s))

-- the state of the seed, if there is one; and the state once a liar has answered a message by it
abbrev pub seed_state : Stage → Option ℕ
seed_state s = option_map (λ d. d.state) s.seed

abbrev pub seed_after : Stage → rules.Message → Option ℕ
seed_after s m = option_map (λ d. after_answer d.state m) s.seed

-- what a command that was turned away left as it was
abbrev pub IfTurnedAway : Result Unit Failure → Type 0 → Type 0
IfTurnedAway (Ok x) P = Unit {0}
IfTurnedAway (Err (Script e)) P = P
IfTurnedAway (Err (Memory e)) P = Unit {0}
