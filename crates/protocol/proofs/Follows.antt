-- Every run is a run of the model, for each note and each reader; so its log is good.
-- Assumes nothing.
use Rattle.std.proofs.Common.{◌≡◌, ℕ, ◌*◌, ◌<◌, Bool, true, [], ◌∷◌, ◌++◌, refl, subst, inl, ⊎_elim, arith}
use mathlib.Core.Path.{fun_ext}
use mathlib.Core.List.Memᴰ
use Rattle.std.proofs.lemmas.Bool.{cases_eq, both_ways}
use Rattle.register.specs.Count.{put}
use Rattle.register.specs.Note.{Note, none}
use Rattle.register.specs.Model.{World, start}
use Rattle.register.specs.Model as M
use Rattle.register.proofs.Put.{put_at, put_all, put_map}
use Rattle.protocol.specs.Message.{office, Message, Take, Took, Ask, Told, packets}
use Rattle.protocol.specs.Step.{Step}
use Rattle.protocol.specs.Warden.{WardenDone, warden_on}
use Rattle.protocol.specs.Office.{OfficeDone, Desk, write_on, office_tick, office_on}
use Rattle.protocol.specs.Reader.{ReaderDone, Reader, new_reader, read_on, reader_tick, reader_on}
use Rattle.protocol.specs.Log.{Event, Lost, Log}
use Rattle.protocol.specs.Promise.{Good}
use Rattle.protocol.specs.System.{warden_event, office_event, reader_event, System, boot, by_office, by_warden, by_reader, Move, writes, office_ticks, office_hears, warden_hears, reads, reader_ticks, reader_hears, office_restarts, reader_restarts, lies, loses, Run, begin, then, Holds}
use Rattle.protocol.proofs.Logs.{Rights, good_more, rights_good}
use Rattle.protocol.proofs.Sound.{SoundDesk, SoundReader, too_few, sound_write, sound_office_tick, sound_office, sound_idle, sound_read, sound_reader_tick, sound_reader}
use Rattle.protocol.proofs.Shows.{Says, seen, also, desked, wardened, readered, Followed}
use Rattle.protocol.proofs.OfficeSteps as O
use Rattle.protocol.proofs.WardenSteps as W
use Rattle.protocol.proofs.ReaderSteps as R

-- what is seen of one note after a warden has changed it, or another, or lost all
store_here : (i k : ℕ) (y : Note) (c : ℕ → ℕ → Note) → put i y (λ i. c i k) ≡ (λ i'. put i (put k y (c i)) c i' k)
store_here i k y c = fun_ext (λ j. grind arith)

store_there : (i k k' : ℕ) (y : Note) (c : ℕ → ℕ → Note) → (k ≡ k' → ⊥) → ◌≡◌ {A = ℕ → Note} (λ i. c i k) (λ i'. put i (put k' y (c i)) c i' k)
store_there i k k' y c apart = fun_ext (λ j. grind arith)

nowhere : {P : Type 0} (later l : Log) (x : Event) → [] ≡ later ++ (x ∷ l) → P
nowhere [] l x e = cc
nowhere (y ∷ later) l x e = cc

module _ (n f : ℕ) (liar : ℕ → Bool) where
  -- what every run keeps
  pub record Kept (s : System) : Type 0 where
    pub followed : (k j : ℕ) → Followed n f liar k j (seen k j s)
    pub desks : (k : ℕ) → SoundDesk n f (s.office k)
    pub readers : (j : ℕ) → SoundReader n f (s.reader j)
    pub good : Good n f liar s.log

  -- who lies is known for it
  lie_says : (k j from to k' : ℕ) (m : Message) → liar from ≡ true → (from ≡ office → ⊥) → (w : World) → Says n liar k j w from to k' m
  lie_says k j from to k' (Take x) so other w = λ sent. absurd (other sent)
  lie_says k j from to k' (Took e) so other w = λ _. inl so
  lie_says k j from to k' (Ask r) so other w = λ mine fair. absurd (both_ways (liar j) fair (rw mine at so))
  lie_says k j from to k' (Told r x) so other w = λ _. inl so

  -- the office has made a step about k': the step itself where that is the note, and nothing but packets and events where it is another
  office_moved : {s : System} (k' : ℕ) (o : Step Desk OfficeDone) → SoundDesk n f o.next →
      ((j : ℕ) → Followed n f liar k' j (desked n k' o (seen k' j s)) × Rights n f liar (office_event k' o.next o.outcome) s.log) →
      ((k j : ℕ) → (k ≡ k' → ⊥) → Followed n f liar k j (also (packets n office k' o.sends) (office_event k' o.next o.outcome) (seen k j s))) →
      Kept s → Kept (by_office n k' o s)
  office_moved {s} k' o sound here there kept =
      record {
        followed = λ k j. put_at (λ d. Followed n f liar k j (record { desk = d; warden = λ i. s.warden i k; reader = s.reader j; bag = packets n office k' o.sends ++ s.bag; log = office_event k' o.next o.outcome ++ s.log })) k k' o.next s.office (λ same. rw same (here j).0) (there k j);
        desks = put_all (λ _ d. SoundDesk n f d) k' o.next s.office sound kept.desks;
        readers = kept.readers;
        good = rights_good n f liar (office_event k' o.next o.outcome) s.log (here 0).1 kept.good;
      }

  warden_moved : {s : System} (i k' : ℕ) (o : Step Note WardenDone) →
      ((j : ℕ) → Followed n f liar k' j (wardened n i k' o (seen k' j s)) × Rights n f liar (warden_event i k' o.next o.outcome) s.log) →
      ((k j : ℕ) → (k ≡ k' → ⊥) → Followed n f liar k j (also (packets n i k' o.sends) (warden_event i k' o.next o.outcome) (seen k j s))) →
      Kept s → Kept (by_warden n i k' o s)
  warden_moved {s} i k' o here there kept =
      record { followed = λ k j. ⊎_elim (λ same. rw same (mine j)) (others k j) (cases_eq k k'); desks = kept.desks; readers = kept.readers; good = rights_good n f liar (warden_event i k' o.next o.outcome) s.log (here 0).1 kept.good }
    where
      mine : (j : ℕ) → Followed n f liar k' j (seen k' j (by_warden n i k' o s))
      mine j = subst (λ (c : ℕ → Note). Followed n f liar k' j (record { desk = s.office k'; warden = c; reader = s.reader j; bag = packets n i k' o.sends ++ s.bag; log = warden_event i k' o.next o.outcome ++ s.log })) (store_here i k' o.next s.warden) (here j).0

      others : (k j : ℕ) → (k ≡ k' → ⊥) → Followed n f liar k j (seen k j (by_warden n i k' o s))
      others k j apart = subst (λ (c : ℕ → Note). Followed n f liar k j (record { desk = s.office k; warden = c; reader = s.reader j; bag = packets n i k' o.sends ++ s.bag; log = warden_event i k' o.next o.outcome ++ s.log })) (store_there i k k' o.next s.warden apart) (there k j apart)

  reader_moved : {s : System} (j' : ℕ) (o : Step Reader ReaderDone) → SoundReader n f o.next →
      ((k : ℕ) → Followed n f liar k j' (readered n j' o (seen k j' s)) × ((s.reader j').note ≡ k → Rights n f liar (reader_event j' o.next o.outcome) s.log)) →
      ((k j : ℕ) → (j ≡ j' → ⊥) → Followed n f liar k j (also (packets n j' o.next.note o.sends) (reader_event j' o.next o.outcome) (seen k j s))) →
      Kept s → Kept (by_reader n j' o s)
  reader_moved {s} j' o sound here there kept =
      record {
        followed = λ k j. put_at (λ q. Followed n f liar k j (record { desk = s.office k; warden = λ i. s.warden i k; reader = q; bag = packets n j' o.next.note o.sends ++ s.bag; log = reader_event j' o.next o.outcome ++ s.log })) j j' o.next s.reader (λ same. rw same (here k).0) (there k j);
        desks = kept.desks;
        readers = put_all (λ _ q. SoundReader n f q) j' o.next s.reader sound kept.readers;
        good = rights_good n f liar (reader_event j' o.next o.outcome) s.log ((here (s.reader j').note).1 refl) kept.good;
      }

  module _ (least : 4 * f < n) where
    some : f < n
    some = omega arith

    kept_by : {s t : System} → Move n f liar s t → Kept s → Kept t
    kept_by {s} (writes k v) h =
        office_moved k (write_on (s.office k) v) (sound_write n f some (s.office k) v (h.desks k))
        (λ j. O.write_follows n f liar k j v (h.followed k j))
        (λ k' j apart. O.write_beside n f liar k' j k apart (h.followed k' j) (s.office k) v) h
    kept_by {s} (office_ticks k) h =
        office_moved k (office_tick (s.office k)) (sound_office_tick n f some (s.office k) (h.desks k))
        (λ j. O.tick_follows n f liar k j (h.followed k j))
        (λ k' j apart. O.tick_beside n f liar k' j k apart (h.followed k' j) (s.office k)) h
    kept_by {s} (office_hears p m to) h =
        office_moved p.note (office_on n f (s.office p.note) p.from p.message) (sound_office n f some (s.office p.note) p.from p.message (h.desks p.note))
        (λ j. O.office_follows n f liar p.note j p.from p.to p.message m (h.followed p.note j))
        (λ k' j apart. O.office_beside n f liar k' j p.note apart (h.followed k' j) (s.office p.note) p.from p.message) h
    kept_by {s} (warden_hears i p l honest m to) h =
        warden_moved i p.note (warden_on (s.warden i p.note) p.from p.message)
        (λ j. W.warden_follows n f liar p.note j i p.from p.to p.message l honest to m (h.followed p.note j))
        (λ k' j apart. W.warden_beside n f liar k' j i p.note apart (h.followed k' j) (s.warden i p.note) p.from p.message) h
    kept_by {s} (reads j k fair) h =
        reader_moved j (read_on (s.reader j) k) (sound_read n f some (s.reader j) k (h.readers j))
        (λ k'. R.read_follows n f liar k' j least k (h.followed k' j))
        (λ k' j' apart. R.read_beside n f liar k' j' j apart (h.followed k' j') (s.reader j) k) h
    kept_by {s} (reader_ticks j fair) h =
        reader_moved j (reader_tick n f (s.reader j)) (sound_reader_tick n f some (s.reader j) (h.readers j))
        (λ k'. R.tick_follows n f liar k' j least (h.readers j) (h.followed k' j))
        (λ k' j' apart. R.tick_beside n f liar k' j' j apart (h.followed k' j') (s.reader j)) h
    kept_by {s} (reader_hears j p fair m to) h =
        reader_moved j (reader_on n f (s.reader j) p.from p.note p.message) (sound_reader n f some (s.reader j) p.from p.note p.message (h.readers j))
        (λ k'. R.reader_follows n f liar k' j least p.from p.to p.note p.message to fair (h.readers j) m (h.followed k' j))
        (λ k' j' apart. R.reader_beside n f liar k' j' j apart (h.followed k' j') (s.reader j) p.from p.note p.message) h
    kept_by office_restarts h = record { followed = λ k j. O.forgetting n f liar k j (h.followed k j); desks = λ k _. too_few n f some; readers = h.readers; good = h.good }
    kept_by {s} (reader_restarts j first up) h =
        record {
          followed = λ k j'. put_at (λ q. Followed n f liar k j' (record { desk = s.office k; warden = λ i. s.warden i k; reader = q; bag = s.bag; log = s.log })) j' j (new_reader first) s.reader (λ same. R.restarting n f liar k j' first (rw same up) (h.followed k j')) (λ _. h.followed k j');
          desks = h.desks;
          readers = put_all (λ _ q. SoundReader n f q) j (new_reader first) s.reader (sound_idle n f some (new_reader first) refl) h.readers;
          good = h.good;
        }
    kept_by (lies p so other) h =
        record { followed = λ k j. W.lying n f liar k j p (lie_says k j p.from p.to p.note p.message so other) (h.followed k j); desks = h.desks; readers = h.readers; good = h.good }
    kept_by {s} (loses i) h =
        record {
          followed = λ k j. subst (λ (c : ℕ → Note). Followed n f liar k j (record { desk = s.office k; warden = c; reader = s.reader j; bag = s.bag; log = Lost i ∷ s.log })) (put_map (λ (g : ℕ → Note). g k) i (λ k. none) s.warden) (W.losing n f liar k j i (h.followed k j));
          desks = h.desks;
          readers = h.readers;
          good = good_more n f liar s.log (Lost i) tt h.good;
        }

    boot_kept : Kept boot
    boot_kept =
        record {
          followed = λ k j. (
            start,
            M.begin,
            record {
              desk = record { edition = refl; value = refl; idle = λ _. refl; busy = λ e. cc; acks = λ i e. cc; begun = λ e one below. absurd (omega arith); most = omega arith; some = λ e v m. absurd (Memᴰ.not-nil m); done = λ e one below. absurd (omega arith); ended = omega arith };
              warden = λ i. record { store = refl; held = omega arith; high = refl };
              reader = record { shut = λ r l. refl; now = λ e _. cc; reads = λ e _. cc; left = λ e _. cc };
              bag = λ p at. absurd (Memᴰ.not-nil at);
            },
          );
          desks = λ k e. cc;
          readers = λ j. sound_idle n f some (new_reader 0) refl;
          good = λ later l x e. nowhere later l x e;
        }

    pub run_kept : {s : System} → Run n f liar s → Kept s
    run_kept begin = boot_kept
    run_kept (then before m) = kept_by m (run_kept before)

pub holds : Holds
holds n f liar least s r = (run_kept n f liar least r).good
