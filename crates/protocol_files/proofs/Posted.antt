-- Without files: what the office sends has begun, and so has what it is writing.
-- Assumes nothing.
use Rattle.std.proofs.Common.{◌≡◌, ℕ, ◌*◌, ◌<◌, Bool, true, List, [], ◌∷◌, ◌++◌, map, sym, ap, subst, ⊎_elim, arith}
use mathlib.Core.List.Memᴰ
use mathlib.Core.List.{Memᴰ}
use Rattle.register.specs.Note.{Note}
use Rattle.register.proofs.Put.{put_same}
use Rattle.protocol.specs.Message.{office, Message, Take, Packet, Each, packets}
use Rattle.protocol.specs.Step.{Step}
use Rattle.protocol.specs.Office.{OfficeDone, Desk, begin_writing}
use Rattle.protocol.specs.Reader.{asked, more_rounds, ReaderDone, Reader, read_on, reader_tick, reader_on}
use Rattle.protocol.specs.Log.{Began, Log}
use Rattle.protocol.specs.Warden.{WardenDone}
use Rattle.protocol.specs.System as P
use Rattle.protocol.proofs.Follows as F
use Rattle.protocol.proofs.Packets.{of_each}
use Rattle.protocol.proofs.PartyCases.{OfficeCase, took_counts, took_ends, office_passes, office_case}
use Rattle.protocol_tables.specs.Keep.{Keep}
use Rattle.protocol_tables.specs.Warden.{warden_keeps}
use Rattle.protocol_tables.specs.Office.{OfficeStep, Letter, post, keep_counting, again, office_ticks}
use Rattle.protocol_tables.specs.System.{System, by_office, by_reader, Move, writes, office_tick, office_hear, warden_hear, reads, reader_ticks, reader_hears, office_restarts, reader_restarts, lies, loses, Run, begin, then}
use Rattle.protocol_tables.proofs.Refines.{refines, run_kept}
use Rattle.protocol_tables.proofs.Room.{brings, plain_sends, warden_plain, Asks, asks_plain, round_asks, tick_asks, reader_asks, of_post}
use Rattle.protocol_tables.proofs.Within.{Within}
use Rattle.protocol_tables.proofs.TableCases.{Written, begins_it, refuses, written}

-- each note that was sent to be taken has begun
abbrev pub Posted : List Packet → Log → Type 0
Posted bag l = (p : Packet) (x : Note) → Memᴰ p bag → p.from ≡ office → p.message ≡ Take x → Memᴰ (Began p.note x.edition x.value) l

posted_more : {bag : List Packet} {l log : Log} (ps : List Packet) → ((p : Packet) → Memᴰ p ps → brings p.message ≡ true → p.from ≡ office → ⊥) → Within l log → Posted bag l → Posted (ps ++ bag) log
posted_more ps plain news h p x at from is = ⊎_elim (λ at. absurd (plain p at (ap brings is) from)) (λ at. news (Began p.note x.edition x.value) (h p x at from is)) (Memᴰ.append_cases ps at)

-- one note is sent to each
posted_each : {l : Log} (n k : ℕ) (x : Note) → Memᴰ (Began k x.edition x.value) l → (p : Packet) (y : Note) → Memᴰ p (packets n office k (Each (Take x))) → p.message ≡ Take y → Memᴰ (Began p.note y.edition y.value) l
posted_each {l = l} n k x began p y at is =
    let (i, _, same) = of_each n (λ i. record { from = office; to = i; note = k; message = Take x }) p at in
    let text : x ≡ y = cc (ap (λ (p : Packet). p.message) same, is) in
    let about : k ≡ p.note = sym (ap (λ (p : Packet). p.note) same) in
    subst (λ (k : ℕ). Memᴰ (Began k y.edition y.value) l) about (subst (λ (x : Note). Memᴰ (Began k x.edition x.value) l) text began)

module _ (n f : ℕ) (liar : ℕ → Bool) (least : 4 * f < n) where
  pub began_busy : {s : System} → Run n f liar s → (k : ℕ) → (s.office.desks.at k).busy ≡ true → Memᴰ (Began k (s.office.desks.at k).now.edition (s.office.desks.at k).now.value) s.log
  began_busy {s} run k on =
      let (w, _, h) = (F.run_kept n f liar least (refines n f liar s run)).followed k 0 in
      let d = h.desk in
      let is = d.edition in
      let up = d.busy on in
      subst (λ (v : List ℕ). Memᴰ (Began k (s.office.desks.at k).now.edition v) s.log) d.value (d.begun (s.office.desks.at k).now.edition (omega arith) (omega arith))

  abbrev Kept : System → Type 0
  Kept s = Posted s.bag s.log

  writes_posted : (s : System) (k : ℕ) (v : List ℕ) {o : OfficeStep} → Written s.office k v o → Kept s → Kept (by_office n k o s)
  writes_posted s k v (begins_it ready) h = λ p x at from is.
      ⊎_elim
      (λ at. posted_each n k (begin_writing (s.office.desks.at k) v).next.now (Memᴰ.head (ap (λ (d : Desk). Began k d.now.edition d.now.value) (sym (put_same k (begin_writing (s.office.desks.at k) v).next s.office.desks.at)))) p x at is)
      (λ at. Memᴰ.tail (h p x at from is))
      (Memᴰ.append_cases (packets n office k (Each (Take (begin_writing (s.office.desks.at k) v).next.now))) at)
  writes_posted s k v (refuses m) h = h

  hears_posted : (s : System) (k from : ℕ) {m : Message} {st : Step Desk OfficeDone} → OfficeCase n f (s.office.desks.at k) from m st → Kept s → Kept (by_office n k (keep_counting s.office k st) s)
  hears_posted s k from (office_passes e) h = h
  hears_posted s k from (took_counts below busy short) h = h
  hears_posted s k from (took_ends below busy all) h = λ p x at from_office is. Memᴰ.tail (h p x at from_office is)

  ticks_posted : (s : System) → Run n f liar s → Kept s → Posted (post n (office_ticks s.office).letters s.bag) s.log
  ticks_posted s run h p x at from is = ⊎_elim (λ at. h p x at from is) again_posted (of_post n (office_ticks s.office).letters s.bag p at)
    where
      again_posted : (l : Letter) × Memᴰ l (map (again s.office.desks) s.office.under_way) × Memᴰ p (packets n office l.note l.sends) → Memᴰ (Began p.note x.edition x.value) s.log
      again_posted (l, listed, at) =
          let (k, under_way, same) = Memᴰ.of_map (again s.office.desks) s.office.under_way listed in
          posted_each n k (s.office.desks.at k).now (began_busy run k ((run_kept n f liar run).order.busy k under_way)) p x (subst (λ (l : Letter). Memᴰ p (packets n office l.note l.sends)) (sym same) at) is

  reader_posted : (s : System) (j : ℕ) (o : Step Reader ReaderDone) → Asks o.sends → Kept s → Kept (by_reader n j o s)
  reader_posted s j o asks h = posted_more (packets n j o.next.note o.sends) (λ p at so _. plain_sends n j o.next.note o.sends (asks_plain o.sends asks) p at so) (λ x at. Memᴰ.append_right (P.reader_event j o.next o.outcome) at) h

  posted_by : {s t : System} → Move n f liar s t → Run n f liar s → Kept s → Kept t
  posted_by {s} (writes k v) run h = writes_posted s k v (written s.office k v) h
  posted_by {s} office_tick run h = ticks_posted s run h
  posted_by {s} (office_hear p m to) run h = hears_posted s p.note p.from (office_case n f (s.office.desks.at p.note) p.from p.message) h
  posted_by {s} (warden_hear i p l own m to) run h =
      posted_more (packets n i p.note o.sends) (λ q at so _. plain_sends n i p.note o.sends (warden_plain (s.warden i) p.from p.note p.message) q at so) (λ x at. Memᴰ.append_right (P.warden_event i p.note (o.next.at p.note) o.outcome) at) h
    where
      o : Step (Keep Note) WardenDone
      o = warden_keeps (s.warden i) p.from p.note p.message
  posted_by {s} (reads j k own) run h = reader_posted s j (read_on (s.reader j) k) (round_asks k more_rounds asked (s.reader j)) h
  posted_by {s} (reader_ticks j own) run h = reader_posted s j (reader_tick n f (s.reader j)) (tick_asks n f (s.reader j)) h
  posted_by {s} (reader_hears j p own m to) run h = reader_posted s j (reader_on n f (s.reader j) p.from p.note p.message) (reader_asks n f (s.reader j) p.from p.note p.message) h
  posted_by office_restarts run h = h
  posted_by (reader_restarts j first up) run h = h
  posted_by (lies p so other) run h = posted_more (p ∷ []) (λ q at _ from. other (rw (Memᴰ.eq_of_singleton at) at from)) (λ x at. at) h
  posted_by (loses i) run h = λ p x at from is. Memᴰ.tail (h p x at from is)

  pub run_posted : {s : System} → Run n f liar s → Posted s.bag s.log
  run_posted begin = λ p x at. absurd (Memᴰ.not-nil at)
  run_posted (then before m) = posted_by m before (run_posted before)
