-- One note, kept by wardens of whom some lie; the office that writes it; and those who read it, each in rounds of its own.
-- Assumes nothing.
use Rattle.std.specs.Prelude.{◌≡◌, ℕ, suc, ◌+◌, ◌<◌, ◌≤◌, max, Bool, true, false, ◌||◌, ◌⊎◌, List, [], ◌∷◌, nat_lt}
use mathlib.Core.List.{Memᴰ}
use Rattle.register.specs.Count.{count, put}
use Rattle.register.specs.Note.{Note, none}
use Rattle.register.specs.Rule.{Replies, silence, reply}

-- THE OFFICE
-- value: of each edition begun so far; edition: the last begun; ended: the last whose writing came to an end; acks: who is known to have taken the last
pub record Office : Type 0 where
  pub value : ℕ → List ℕ
  pub edition : ℕ
  pub ended : ℕ
  pub acks : ℕ → Bool

-- a writing is under way
abbrev pub Writing : Office → Type 0
Writing o = o.ended < o.edition

-- the note of an edition
abbrev pub note : Office → ℕ → Note
note o e = record { edition = e; value = o.value e }

abbrev pub begun : List ℕ → Office → Office
begun v o = record { value = put (suc o.edition) v o.value; edition = suc o.edition; ended = o.ended; acks = λ i. false }

abbrev pub acked : ℕ → Office → Office
acked i o = record { value = o.value; edition = o.edition; ended = o.ended; acks = put i true o.acks }

abbrev pub closed : Office → Office
closed o = record { value = o.value; edition = o.edition; ended = o.edition; acks = o.acks }

-- A WARDEN
-- store: what it has; high: the highest edition that it ever had
pub record Warden : Type 0 where
  pub store : Note
  pub high : ℕ

-- it lost what it had, and has not yet taken again as late an edition as it once had
abbrev pub behind : Warden → Bool
behind d = nat_lt d.store.edition d.high

abbrev pub stored : Note → Warden → Warden
stored x d = record { store = x; high = max d.high x.edition }

abbrev pub emptied : Warden → Warden
emptied d = record { store = none; high = d.high }

-- A ROUND OF READING
-- live: it has begun; since: the last edition that had ended when it began; tops: the highest edition that each warden had ever had when it began;
-- replies: what was heard; offered: what each honest warden has told in it, heard or not; lapsed: who was behind at some moment since it began
pub record Round : Type 0 where
  pub live : Bool
  pub since : ℕ
  pub tops : ℕ → ℕ
  pub replies : Replies
  pub offered : ℕ → List Note
  pub lapsed : ℕ → Bool

abbrev pub opened : Office → (ℕ → Warden) → Round
opened o d =
    record { live = true; since = o.ended; tops = λ i. (d i).high; replies = silence; offered = λ i. []; lapsed = λ i. behind (d i) }

abbrev pub offering : ℕ → Note → Round → Round
offering i x r =
    record { live = r.live; since = r.since; tops = r.tops; replies = r.replies; offered = put i (x ∷ r.offered i) r.offered; lapsed = r.lapsed }

abbrev pub hearing : ℕ → Note → Round → Round
hearing i x r =
    record { live = r.live; since = r.since; tops = r.tops; replies = reply i x r.replies; offered = r.offered; lapsed = r.lapsed }

abbrev pub lapsing : ℕ → Bool → Round → Round
lapsing i b r =
    record { live = r.live; since = r.since; tops = r.tops; replies = r.replies; offered = r.offered; lapsed = put i (r.lapsed i || b) r.lapsed }

-- THE WORLD
pub record World : Type 0 where
  pub office : Office
  pub warden : ℕ → Warden
  pub round : ℕ → Round

-- the world with one part changed
abbrev pub new_office : Office → World → World
new_office o w = record { office = o; warden = w.warden; round = w.round }

abbrev pub new_warden : ℕ → Warden → World → World
new_warden i d w = record { office = w.office; warden = put i d w.warden; round = w.round }

abbrev pub new_round : ℕ → Round → World → World
new_round r c w = record { office = w.office; warden = w.warden; round = put r c w.round }

abbrev pub start : World
start =
    record {
      office = record { value = λ e. []; edition = 0; ended = 0; acks = λ i. false };
      warden = λ i. record { store = none; high = 0 };
      round = λ r. record { live = false; since = 0; tops = λ i. 0; replies = silence; offered = λ i. []; lapsed = λ i. false };
    }

-- what can happen, with n wardens, of whom those of `liar` may say anything, and f the number of liars that is reckoned with
pub data Step (n f : ℕ) (liar : ℕ → Bool) : World → World → Type 0 where
  -- the office begins the next edition when the last has ended
  begins : {w : World} (v : List ℕ) → w.office.ended ≡ w.office.edition →
      Step n f liar w (new_office (begun v w.office) w)
  -- a warden takes a later edition than it has
  stores : {w : World} (i e : ℕ) → e ≤ w.office.edition → (w.warden i).store.edition < e →
      Step n f liar w (new_warden i (stored (note w.office e) (w.warden i)) w)
  -- the office hears that a warden has taken the edition
  hears : {w : World} (i : ℕ) → i < n → Writing w.office → (liar i ≡ true) ⊎ (w.office.edition ≤ (w.warden i).high) →
      Step n f liar w (new_office (acked i w.office) w)
  -- all but f have taken it
  ends : {w : World} → Writing w.office → n ≤ count n w.office.acks + f →
      Step n f liar w (new_office (closed w.office) w)
  -- somebody begins a round
  opens : {w : World} (r : ℕ) → (w.round r).live ≡ false →
      Step n f liar w (new_round r (opened w.office w.warden) w)
  -- an honest warden tells what it has
  tells : {w : World} (r i : ℕ) → liar i ≡ false → (w.round r).live ≡ true →
      Step n f liar w (new_round r (offering i (w.warden i).store (w.round r)) w)
  -- the reader hears a warden for the first time in the round
  listens : {w : World} (r i : ℕ) (x : Note) → i < n → (w.round r).live ≡ true → (w.round r).replies.heard i ≡ false → (liar i ≡ true) ⊎ Memᴰ x ((w.round r).offered i) →
      Step n f liar w (new_round r (hearing i x (w.round r)) w)
  -- a warden loses what it had
  loses : {w : World} (i : ℕ) →
      Step n f liar w (record { office = w.office; warden = put i (emptied (w.warden i)) w.warden; round = λ r. lapsing i (nat_lt 0 (w.warden i).high) (w.round r) })

pub data Reach (n f : ℕ) (liar : ℕ → Bool) : World → Type 0 where
  begin : Reach n f liar start
  then : {w v : World} → Reach n f liar w → Step n f liar w v → Reach n f liar v
