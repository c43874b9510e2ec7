-- Bytes that are written and synced at once, and a message that goes to each warden.
-- Assumes nothing.
use Rattle.std.specs.Prelude.{ℕ, List, map, take, Ok, Err, Result}
use Rattle.protocol.specs.Message.{office, Message, Packet, Each, packets}
use Rattle.protocol_files.specs.Disk.{Disk, append, sync}
use Rattle.storage.specs.Changes.{Parcel}
use Rattle.storage.specs.declared.fault.Fault.{Fault}

-- a, b: the storage before and after
abbrev pub Commits : {A : Type 0} → (A → Disk → Type 0) → (a b : A) (bytes : List ℕ) → Result (Unit {0}) Fault → Type 0
Commits holds a b bytes (Ok _) = (d : Disk) → holds a d → holds b (sync (append bytes d))
Commits holds a b bytes (Err _) = (d : Disk) → holds a d → (j : ℕ) × holds b (append (take j bytes) d)

-- what goes out of a packet
abbrev pub parcel : Packet → Parcel
parcel p = record { to = p.to; note = p.note; message = p.message }

-- one message to each of n wardens, in their order
abbrev pub each : (n k : ℕ) → Message → List Parcel
each n k m = map parcel (packets n office k (Each m))
