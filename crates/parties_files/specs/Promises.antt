-- What a call of a party with a file promises for every run in which the party is as it was before the call.
-- P, Q: of the disk before and after the call; w, v: the party.
-- Assumes nothing.
use Rattle.std.specs.Prelude.{◌≡◌, ℕ, ◌*◌, ◌<◌, Bool, false, List, []}
use mathlib.Core.List.{Memᴰ}
use Rattle.protocol.specs.Message.{office, Message, Packet}
use Rattle.protocol_files.specs.Disk.{Disk}
use Rattle.protocol_files.specs.System.{System, Run}
use Rattle.protocol_files.specs.Runs.{WardenGoesOn, OfficeGoesOn}
use Rattle.parties_files.specs.Wardens as wardens
use Rattle.parties_files.specs.Offices as offices
use Rattle.parties_files.specs.declared.warden.Warden.{Warden}
use Rattle.parties_files.specs.declared.office.Office.{Office}

-- A WARDEN: whatever run it was in, as the honest warden i, the run goes on with what it is now, and `out` is on its way
abbrev pub WardenRuns : (P Q : Disk → Type 0) (w v : Warden) (out : ℕ → List Packet) → Type 0
WardenRuns P Q w v out =
    (d : Disk) → P d → (n f : ℕ) (liar : ℕ → Bool) (s : System) (i : ℕ) → 4 * f < n → Run n f liar s → i < n → liar i ≡ false → s.warden i ≡ wardens.node_of i w d →
    (e : Disk) × Q e × WardenGoesOn n f liar i s (wardens.node_of i v e) (out i)

-- the same if the message that came to it was on its way
abbrev pub WardenHears : (P Q : Disk → Type 0) (w v : Warden) (from k : ℕ) → Message → Type 0
WardenHears P Q w v from k m =
    (d : Disk) → P d → (n f : ℕ) (liar : ℕ → Bool) (s : System) (i : ℕ) → 4 * f < n → Run n f liar s → i < n → liar i ≡ false → s.warden i ≡ wardens.node_of i w d →
    Memᴰ (record { from = from; to = i; note = k; message = m }) s.bag → (e : Disk) × Q e × WardenGoesOn n f liar i s (wardens.node_of i v e) []

-- THE OFFICE, with n wardens of whom f may lie: `posts` is what is on its way then, by what was
abbrev pub OfficeRuns : (n f : ℕ) (P Q : Disk → Type 0) (w v : Office) (posts : List Packet → List Packet) → Type 0
OfficeRuns n f P Q w v posts =
    (d : Disk) → P d → (liar : ℕ → Bool) (s : System) → Run n f liar s → s.office ≡ offices.node_of w d →
    (e : Disk) × Q e × OfficeGoesOn n f liar s (offices.node_of v e) (posts s.bag)

abbrev pub OfficeHears : (n f : ℕ) (P Q : Disk → Type 0) (w v : Office) (from k : ℕ) → Message → Type 0
OfficeHears n f P Q w v from k m =
    (d : Disk) → P d → (liar : ℕ → Bool) (s : System) → Run n f liar s → s.office ≡ offices.node_of w d → Memᴰ (record { from = from; to = office; note = k; message = m }) s.bag →
    (e : Disk) × Q e × OfficeGoesOn n f liar s (offices.node_of v e) s.bag
