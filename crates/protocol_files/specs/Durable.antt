-- What a party has said is on its file, whatever happens.
-- Assumes nothing.
use Rattle.std.specs.Prelude.{◌≡◌, ℕ, ◌*◌, ◌<◌, ◌≤◌, Bool, false, ◌⊎◌, List, ◌∷◌, ◌++◌}
use mathlib.Core.List.{Memᴰ}
use Rattle.register.specs.Note.{Note}
use Rattle.protocol.specs.Message.{office, Take, Took, Told, Packet}
use Rattle.protocol.specs.Log.{Log, high, held}
use Rattle.protocol.specs.Log as events
use Rattle.frames.specs.Format.{Frame}
use Rattle.frames.specs.Journal.{encode_all, Records}
use Rattle.frames.specs.declared.role.Role.TheVariants as roles
use Rattle.protocol_files.specs.Disk.{File, Disk, Cut}
use Rattle.protocol_files.specs.Records.{warden_of}
use Rattle.protocol_files.specs.System.{System, Found, Run}

-- OF AN HONEST WARDEN i
pub record WardenKeeps (i : ℕ) (s : System) : Type 0 where
  -- what it has taken since it last lost its file is on the file, synced, and on each that a power cut may bring back
  pub synced : (g : File) → Memᴰ g ((s.warden i).disk.file ∷ (s.warden i).disk.former) →
      (ss : List Frame) × (g.synced ≡ encode_all ss) × Records roles.Warden ss × ((k : ℕ) → ((warden_of ss).at k).edition ≡ held i k s.log)
  -- it has said that it took an edition only if it has had it, or a later one, so; and has told only what it had so, or that it has nothing
  pub said : (p : Packet) (e : ℕ) → Memᴰ p s.bag → p.from ≡ i → p.message ≡ Took e → e ≤ high i p.note s.log
  pub told : (p : Packet) (r : ℕ) (x : Note) → Memᴰ p s.bag → p.from ≡ i → p.message ≡ Told r x → (x.edition ≡ 0) ⊎ Memᴰ (events.Took i p.note x.edition) s.log
  -- wherever it falls, once it opens its file it has of each note what was synced, or a later edition that the office had sent it
  pub recovers : (d : Disk) (ss ps : List Frame) (rest : List ℕ) → Cut (s.warden i).disk d → Found roles.Warden d.file ss ps rest → (k : ℕ) →
      ((warden_of (ss ++ ps)).at k ≡ (warden_of ss).at k)
      ⊎ ((((warden_of ss).at k).edition < ((warden_of (ss ++ ps)).at k).edition)
      × Memᴰ (record { from = office; to = i; note = k; message = Take ((warden_of (ss ++ ps)).at k) }) s.bag)

-- OF THE OFFICE: it never sends two values under one edition, and sends none that did not begin
pub record OfficeKeeps (s : System) : Type 0 where
  pub begun : (p : Packet) (x : Note) → Memᴰ p s.bag → p.from ≡ office → p.message ≡ Take x → Memᴰ (events.Began p.note x.edition x.value) s.log
  pub one_value : (p q : Packet) (x y : Note) → Memᴰ p s.bag → Memᴰ q s.bag → p.from ≡ office → q.from ≡ office → p.note ≡ q.note →
      p.message ≡ Take x → q.message ≡ Take y → x.edition ≡ y.edition → x ≡ y

abbrev pub Durable : Type 0
Durable =
    (n f : ℕ) (liar : ℕ → Bool) → 4 * f < n → (s : System) → Run n f liar s →
    OfficeKeeps s × ((i : ℕ) → i < n → liar i ≡ false → WardenKeeps i s)
