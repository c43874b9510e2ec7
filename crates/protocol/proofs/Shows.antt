-- How the model's world of one note and one reader shows in the system, and in its log.
-- Assumes nothing.
use Rattle.std.proofs.Common.{◌≡◌, ℕ, suc, ◌+◌, ◌<◌, ◌≤◌, Bool, true, false, ◌⊎◌, List, [], ◌∷◌, ◌++◌, ◌∙◌, inl, inr, ⊎_elim, arith}
use mathlib.Core.List.Memᴰ
use mathlib.Core.List.{Memᴰ}
use Rattle.register.specs.Count.{put}
use Rattle.register.specs.Note.{Note}
use Rattle.register.specs.Rule.{Replies}
use Rattle.register.specs.Model.{Office, Warden, Round, World, Step, Reach}
use Rattle.register.proofs.Grows.{step_grows, step_grows_round}
use Rattle.register.proofs.Keeps.{Written}
use Rattle.protocol.specs.Message.{office, Message, Take, Took, Ask, Told, Packet, packets}
use Rattle.protocol.specs.Step as steps
use Rattle.protocol.specs.Office.{OfficeDone, Desk}
use Rattle.protocol.specs.Warden.{WardenDone}
use Rattle.protocol.specs.Reader.{ReaderDone, more_rounds, Reader}
use Rattle.protocol.specs.Log.{Event, Began, Ended, Log, took, asks, retries, opens, by, high, held, lapsed, before_round, reading, retried_since}
use Rattle.protocol.specs.System.{warden_event, office_event, reader_event, System}
use Rattle.protocol.proofs.Logs.{ended_in, last_ended, begun_in, last_begun, not_begun}

pub record ShowsDesk (k : ℕ) (o : Office) (d : Desk) (l : Log) : Type 0 where
  pub edition : o.edition ≡ d.now.edition
  pub value : o.value d.now.edition ≡ d.now.value
  pub idle : d.busy ≡ false → o.ended ≡ o.edition
  pub busy : d.busy ≡ true → o.edition ≡ suc o.ended
  pub acks : (i : ℕ) → d.acks i ≡ true → o.acks i ≡ true
  pub most : last_begun k l ≤ suc o.edition
  pub some : (e : ℕ) (v : List ℕ) → Memᴰ (Began k e v) l → 1 ≤ e
  pub begun : (e : ℕ) → 1 ≤ e → e ≤ o.edition → Memᴰ (Began k e (o.value e)) l
  pub done : (e : ℕ) → 1 ≤ e → e ≤ o.ended → Memᴰ (Ended k e) l
  pub ended : last_ended k l ≤ o.ended

pub record ShowsWarden (k i : ℕ) (c : Warden) (x : Note) (l : Log) : Type 0 where
  pub store : c.store ≡ x
  pub held : held i k l ≤ c.store.edition
  pub high : c.high ≡ high i k l

-- of the round that a reader of k is in
pub record ShowsRound (k j : ℕ) (c : Round) (p : Replies) (l : Log) : Type 0 where
  pub live : c.live ≡ true
  pub replies : c.replies ≡ p
  pub since : last_ended k (before_round j l) ≤ c.since
  pub tops : (i : ℕ) → high i k (before_round j l) ≤ c.tops i
  pub lapsed : (i : ℕ) → c.lapsed i ≡ true → lapsed i j k l ≡ true

pub record ShowsReader (k j : ℕ) (round : ℕ → Round) (q : Reader) (l : Log) : Type 0 where
  pub shut : (r : ℕ) → q.next ≤ r → (round r).live ≡ false
  pub now : q.busy ≡ true → q.note ≡ k → ShowsRound k j (round q.round) q.replies l
  pub reads : q.busy ≡ true → q.note ≡ k → reading j k l ≡ true
  pub left : q.busy ≡ true → q.note ≡ k → q.left + retried_since j l ≡ more_rounds

-- what a message says of the world of the note k and the honest reader j
abbrev pub Says : (n : ℕ) (liar : ℕ → Bool) (k j : ℕ) → World → (from to k' : ℕ) → Message → Type 0
Says n liar k j w from to k' (Take x) = from ≡ office → k' ≡ k → Written w.office x
Says n liar k j w from to k' (Took e) = from < n → (liar from ≡ true) ⊎ (k' ≡ k → e ≤ (w.warden from).high)
Says n liar k j w from to k' (Ask r) = from ≡ j → liar j ≡ false → k' ≡ k → (w.round r).live ≡ true
Says n liar k j w from to k' (Told r x) = from < n → (liar from ≡ true) ⊎ (to ≡ j → liar j ≡ false → k' ≡ k → ((w.round r).live ≡ true) × Memᴰ x ((w.round r).offered from))

abbrev pub Means : (n : ℕ) (liar : ℕ → Bool) (k j : ℕ) → World → Packet → Type 0
Means n liar k j w p = Says n liar k j w p.from p.to p.note p.message

-- what there is of one note and one reader in a system
pub record Seen : Type 0 where
  pub desk : Desk
  pub warden : ℕ → Note
  pub reader : Reader
  pub bag : List Packet
  pub log : Log

abbrev pub seen : (k j : ℕ) → System → Seen
seen k j s = record { desk = s.office k; warden = λ i. s.warden i k; reader = s.reader j; bag = s.bag; log = s.log }

-- it stays, but something is sent and seen
abbrev pub also : List Packet → List Event → Seen → Seen
also ps xs z = record { desk = z.desk; warden = z.warden; reader = z.reader; bag = ps ++ z.bag; log = xs ++ z.log }

-- a party has made a step
abbrev pub desked : (n k : ℕ) → steps.Step Desk OfficeDone → Seen → Seen
desked n k o z = record { desk = o.next; warden = z.warden; reader = z.reader; bag = packets n office k o.sends ++ z.bag; log = office_event k o.next o.outcome ++ z.log }

abbrev pub wardened : (n i k : ℕ) → steps.Step Note WardenDone → Seen → Seen
wardened n i k o z = record { desk = z.desk; warden = put i o.next z.warden; reader = z.reader; bag = packets n i k o.sends ++ z.bag; log = warden_event i k o.next o.outcome ++ z.log }

abbrev pub readered : (n j : ℕ) → steps.Step Reader ReaderDone → Seen → Seen
readered n j o z = record { desk = z.desk; warden = z.warden; reader = o.next; bag = packets n j o.next.note o.sends ++ z.bag; log = reader_event j o.next o.outcome ++ z.log }

pub record Shows (n : ℕ) (liar : ℕ → Bool) (k j : ℕ) (w : World) (z : Seen) : Type 0 where
  pub desk : ShowsDesk k w.office z.desk z.log
  pub warden : (i : ℕ) → ShowsWarden k i (w.warden i) (z.warden i) z.log
  pub reader : ShowsReader k j w.round z.reader z.log
  pub bag : (p : Packet) → Memᴰ p z.bag → Means n liar k j w p

module _ (n f : ℕ) (liar : ℕ → Bool) (k j : ℕ) where
  -- what a message says stays true
  says_lasts : {w v : World} → Step n f liar w v → (from to k' : ℕ) (m : Message) → Says n liar k j w from to k' m → Says n liar k j v from to k' m
  says_lasts step from to k' (Take x) said = λ sent same. let (below, is) = said sent same in let g = step_grows step in (omega (arith, g.edition), is ∙ g.value x.edition below)
  says_lasts step from to k' (Took e) said = λ l. ⊎_elim inl (λ low. inr (λ same. omega (arith, low same, (step_grows step).high from))) (said l)
  says_lasts step from to k' (Ask r) live = λ mine honest same. (step_grows_round step r (live mine honest same)).live
  says_lasts step from to k' (Told r x) said =
      λ l. ⊎_elim inl (λ old. inr (λ mine honest same. let (live, m) = old mine honest same in let g = step_grows_round step r live in (g.live, g.offered from x m))) (said l)

  abbrev pub Followed : Seen → Type 0
  Followed z = (w : World) × Reach n f liar w × Shows n liar k j w z

  -- each of these packets means what it says
  abbrev pub AllMean : World → List Packet → Type 0
  AllMean w ps = (p : Packet) → Memᴰ p ps → Means n liar k j w p

  pub more_mean : (w : World) (ps : List Packet) {old : List Packet} → AllMean w ps → AllMean w old → AllMean w (ps ++ old)
  more_mean w ps new old p at = ⊎_elim (new p) (old p) (Memᴰ.append_cases ps at)

  pub still_mean : {w v : World} {ps : List Packet} → Step n f liar w v → AllMean w ps → AllMean v ps
  still_mean step old p at = says_lasts step p.from p.to p.note p.message (old p at)

-- events that say nothing of the note and its wardens, or of the reader
pub record Outside (k : ℕ) (x : Event) : Type 0 where
  pub begun : begun_in k x ≡ 0
  pub ended : ended_in k x ≡ 0
  pub took : (i : ℕ) → took i k x ≡ 0

abbrev pub Outsides : (k : ℕ) → List Event → Type 0
Outsides k [] = Unit {0}
Outsides k (x ∷ xs) = Outside k x × Outsides k xs

pub record Unsaid (j : ℕ) (x : Event) : Type 0 where
  pub asks : asks j x ≡ false
  pub retries : retries j x ≡ false
  pub by : by j x ≡ false

abbrev pub Unsaids : (j : ℕ) → List Event → Type 0
Unsaids j [] = Unit {0}
Unsaids j (x ∷ xs) = Unsaid j x × Unsaids j xs

-- one more event in the log
pub desk_log : {k : ℕ} {o : Office} {d : Desk} {l : Log} (x : Event) → begun_in k x ≡ 0 → ended_in k x ≡ 0 → ShowsDesk k o d l → ShowsDesk k o d (x ∷ l)
desk_log {k} x new none h =
    record {
      edition = h.edition;
      value = h.value;
      idle = h.idle;
      busy = h.busy;
      acks = h.acks;
      begun = λ e one below. Memᴰ.tail (h.begun e one below);
      most = omega (arith, h.most);
      some = λ e v m. ⊎_elim (λ is. absurd (not_begun k e v x new is)) (h.some e v) (Memᴰ.cases_cons m);
      done = λ e one below. Memᴰ.tail (h.done e one below);
      ended = omega (arith, h.ended);
    }

pub warden_log : {k i : ℕ} {c : Warden} {y : Note} {l : Log} (x : Event) → took i k x ≡ 0 → ShowsWarden k i c y l → ShowsWarden k i c y (x ∷ l)
warden_log x none h = record { store = h.store; held = let old = h.held in grind arith; high = omega (arith, h.high) }

pub round_log : {k j : ℕ} {c : Round} {p : Replies} {l : Log} (x : Event) → opens j x ≡ false → ShowsRound k j c p l → ShowsRound k j c p (x ∷ l)
round_log x none h = record { live = h.live; replies = h.replies; since = rw none h.since; tops = λ i. rw none (h.tops i); lapsed = λ i e. let old = h.lapsed i e in grind arith }

pub reader_log : {k j : ℕ} {round : ℕ → Round} {q : Reader} {l : Log} (x : Event) → Unsaid j x → ShowsReader k j round q l → ShowsReader k j round q (x ∷ l)
reader_log x u h =
    record {
      shut = h.shut;
      now = λ busy same. round_log x (rw (u.asks, u.retries)) (h.now busy same);
      reads = λ busy same. rw u.by (h.reads busy same);
      left = λ busy same. rw (u.asks, u.retries) (omega (arith, h.left busy same));
    }

pub desk_logs : {k : ℕ} {o : Office} {d : Desk} {l : Log} (xs : List Event) → Outsides k xs → ShowsDesk k o d l → ShowsDesk k o d (xs ++ l)
desk_logs [] a h = h
desk_logs (x ∷ xs) (a, rest) h = desk_log x a.begun a.ended (desk_logs xs rest h)

pub warden_logs : {k i : ℕ} {c : Warden} {y : Note} {l : Log} (xs : List Event) → Outsides k xs → ShowsWarden k i c y l → ShowsWarden k i c y (xs ++ l)
warden_logs [] a h = h
warden_logs {i = i} (x ∷ xs) (a, rest) h = warden_log x (a.took i) (warden_logs xs rest h)

pub reader_logs : {k j : ℕ} {round : ℕ → Round} {q : Reader} {l : Log} (xs : List Event) → Unsaids j xs → ShowsReader k j round q l → ShowsReader k j round q (xs ++ l)
reader_logs [] a h = h
reader_logs (x ∷ xs) (a, rest) h = reader_log x a (reader_logs xs rest h)

module _ (n f : ℕ) (liar : ℕ → Bool) (k j : ℕ) where
  pub nothing_sent : (w : World) → AllMean n f liar k j w []
  nothing_sent w p at = absurd (Memᴰ.not-nil at)

  -- the reader changes, and the model does not
  pub changes : {z : Seen} (q : Reader) (ps : List Packet) (xs : List Event) → Outsides k xs → ((w : World) → Reach n f liar w → Shows n liar k j w z → AllMean n f liar k j w ps × ShowsReader k j w.round q (xs ++ z.log)) → Followed n f liar k j z → Followed n f liar k j (record { desk = z.desk; warden = z.warden; reader = q; bag = ps ++ z.bag; log = xs ++ z.log })
  changes q ps xs outside new (w, reach, h) =
      let (mean, reader) = new w reach h in
      (w, reach, record { desk = desk_logs xs outside h.desk; warden = λ i. warden_logs xs outside (h.warden i); reader = reader; bag = more_mean n f liar k j w ps mean h.bag })

  -- nothing changes, but something is sent and seen
  pub stays : {z : Seen} (ps : List Packet) (xs : List Event) → ((w : World) → Reach n f liar w → Shows n liar k j w z → AllMean n f liar k j w ps) → Outsides k xs → Unsaids j xs → Followed n f liar k j z → Followed n f liar k j (also ps xs z)
  stays {z} ps xs mean outside unsaid at = changes z.reader ps xs outside (λ w reach h. (mean w reach h, reader_logs xs unsaid h.reader)) at
