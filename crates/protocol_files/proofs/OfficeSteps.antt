-- What the office does when it is told to write and when a message comes, and which offices do the same.
-- Assumes nothing.
use Rattle.std.proofs.Common.{◌≡◌, ℕ, suc, true, false, ◌&&◌, eqb, List, [], ◌∷◌, ◌++◌, sym, refl, ap, ◌∙◌}
use Rattle.std.proofs.lemmas.Bool.{cond_both, cond-true, eq-eqb}
use Rattle.register.specs.Count.{put}
use Rattle.register.proofs.Put.{put_all, put_both, put_idle}
use Rattle.protocol.specs.Office.{Desk, begin_writing, close}
use Rattle.protocol_tables.specs.Keep.{Keep, room, store}
use Rattle.protocol_tables.specs.Office.{Office, OfficeStep, empty_office, without, office_writes, close_writing}
use Rattle.protocol_tables.proofs.Orders.{Ordered, empty_ordered, write_ordered, ended_ordered}
use Rattle.protocol_tables.proofs.TableCases.{Ready, begun_by, Written, begins_it, refuses, written}
use Rattle.frames.specs.Format.{Frame, Sent, Begun, Ended}
use Rattle.protocol_files.specs.Records.{office_replays, office_replays_all, office_of}

-- TOLD TO WRITE
-- an office whose desk has the same note, and that is ready, begins by the same step
pub ready_writes : (a : Office) (k : ℕ) (v : List ℕ) (d : Desk) → Ready a k → (a.desks.at k).now ≡ d.now → office_writes a k v ≡ begun_by a k (begin_writing d v)
ready_writes a k v d h now = rw (h.idle, h.low, h.roomy, now)

-- OFFICES THAT ARE ALIKE, but for whom they have counted
pub record DeskLike (d e : Desk) : Type 0 where
  pub now : d.now ≡ e.now
  pub busy : d.busy ≡ e.busy

pub record Like (a b : Office) : Type 0 where
  pub desk : (k : ℕ) → DeskLike (a.desks.at k) (b.desks.at k)
  pub had : a.desks.had ≡ b.desks.had
  pub many : a.desks.many ≡ b.desks.many

pub alike : (a : Office) → Like a a
alike a = record { desk = λ k. record { now = refl; busy = refl }; had = refl; many = refl }

pub room_alike : {A B : Type 0} (k : ℕ) (c : Keep A) (d : Keep B) → c.had ≡ d.had → c.many ≡ d.many → room k d ≡ true → room k c ≡ true
room_alike k c d had many roomy = rw (had, many) roomy

pub like_ready : {a b : Office} {k : ℕ} → Like a b → Ready a k → Ready b k
like_ready {a} {b} {k} h r =
    record { idle = sym (h.desk k).busy ∙ r.idle; low = rw (h.desk k).now at r.low; roomy = room_alike k b.desks a.desks (sym h.had) (sym h.many) r.roomy }

-- both have a new desk for k
pub like_stored : {a b : Office} (k : ℕ) (d e : Desk) (us vs : List ℕ) → DeskLike d e → Like a b → Like (record { desks = store k d a.desks; under_way = us }) (record { desks = store k e b.desks; under_way = vs })
like_stored {a} {b} k d e us vs same h =
    record { desk = put_both (λ _ d e. DeskLike d e) k d e a.desks.at b.desks.at same h.desk; had = ap (put k true) h.had; many = rw (h.had, h.many) }

-- one of them has a new desk for a note that it had
pub like_kept : {a b : Office} (k : ℕ) (d : Desk) (us : List ℕ) → a.desks.had k ≡ true → DeskLike d (b.desks.at k) → Like a b → Like (record { desks = store k d a.desks; under_way = us }) b
like_kept {a} {b} k d us had same h =
    record { desk = put_all (λ j d. DeskLike d (b.desks.at j)) k d a.desks.at same h.desk; had = put_idle k true a.desks.had had ∙ h.had; many = cond-true (a.desks.had k) a.desks.many (suc a.desks.many) had ∙ h.many }

-- WHAT RECORDS MEAN
pub office_replays-++ : (o : Office) (fs gs : List Frame) → office_replays_all o (fs ++ gs) ≡ office_replays_all (office_replays_all o fs) gs
office_replays-++ o [] gs = refl
office_replays-++ o (f ∷ fs) gs = office_replays-++ (office_replays o f) fs gs

-- it is in order, and has counted nobody
pub record Fresh (o : Office) : Type 0 where
  pub order : Ordered o
  pub acks : (k : ℕ) → (o.desks.at k).acks ≡ (λ i. false)

fresh_writes : (o : Office) (k : ℕ) (v : List ℕ) → Fresh o → Fresh (office_writes o k v).next
fresh_writes o k v h = record { order = write_ordered o h.order k v; acks = go (written o k v) }
  where
    go : {s : OfficeStep} → Written o k v s → (j : ℕ) → (s.next.desks.at j).acks ≡ (λ i. false)
    go (begins_it r) = put_all (λ _ (d : Desk). d.acks ≡ (λ i. false)) k (begin_writing (o.desks.at k) v).next o.desks.at refl h.acks
    go (refuses m) = h.acks

abbrev pub closed : Office → (k : ℕ) → Office
closed o k = record { desks = store k (close (o.desks.at k)) o.desks; under_way = without k o.under_way }

pub closes : (o : Office) (k : ℕ) → (o.desks.at k).busy ≡ true → close_writing o k (o.desks.at k).now.edition ≡ closed o k
closes o k busy = rw (busy, eq-eqb (o.desks.at k).now.edition (o.desks.at k).now.edition refl)

fresh_replays : (o : Office) (f : Frame) → Fresh o → Fresh (office_replays o f)
fresh_replays o (Sent k m) h = h
fresh_replays o (Begun k x) h = cond_both (eqb x.edition (suc (o.desks.at k).now.edition)) (office_writes o k x.value).next o Fresh (λ _. fresh_writes o k x.value h) (λ _. h)
fresh_replays o (Ended k e) h =
    cond_both ((o.desks.at k).busy && eqb e (o.desks.at k).now.edition) (closed o k) o Fresh
    (λ _. record { order = ended_ordered h.order k (close (o.desks.at k)) refl; acks = put_all (λ _ (d : Desk). d.acks ≡ (λ i. false)) k (close (o.desks.at k)) o.desks.at (h.acks k) h.acks })
    (λ _. h)

fresh_all : (o : Office) (fs : List Frame) → Fresh o → Fresh (office_replays_all o fs)
fresh_all o [] h = h
fresh_all o (f ∷ fs) h = fresh_all (office_replays o f) fs (fresh_replays o f h)

pub fresh_of : (fs : List Frame) → Fresh (office_of fs)
fresh_of fs = fresh_all empty_office fs (record { order = empty_ordered; acks = λ k. refl })
