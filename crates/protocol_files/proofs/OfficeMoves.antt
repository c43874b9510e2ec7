-- What the office with files does when it is told to write, when it sends again and when it comes up, a run without files goes on with.
-- Assumes nothing.
use Rattle.std.proofs.Common.{◌≡◌, ℕ, ◌*◌, ◌<◌, Bool, true, false, List, [], ◌∷◌, ◌++◌, map, take, sym, refl, ap, ◌∙◌, subst, ⊎_elim, append-nil, arith}
use mathlib.Core.List.Memᴰ
use mathlib.Core.List.{Memᴰ}
use Rattle.register.specs.Note.{Note}
use Rattle.register.proofs.Put.{put_both, put_same}
use Rattle.protocol.specs.Message.{office, Take, Each, Packet, packets}
use Rattle.protocol.specs.Step.{Step}
use Rattle.protocol.specs.Office.{OfficeDone, Desk, begin_writing}
use Rattle.protocol.specs.Log.{Began, Log}
use Rattle.protocol.specs.System.{forget}
use Rattle.protocol.proofs.Packets.{of_each}
use Rattle.protocol_tables.specs.Keep.{Keep}
use Rattle.protocol_tables.specs.Office.{Office, OfficeStep, Letter, office_writes, again, office_ticks}
use Rattle.protocol_tables.specs.System as tables
use Rattle.protocol_tables.proofs.Orders.{Ordered, write_ordered}
use Rattle.protocol_tables.proofs.Lifts.{in_post}
use Rattle.protocol_tables.proofs.Room.{run_fits, of_post}
use Rattle.protocol_tables.proofs.Within.{Within, within_more}
use Rattle.protocol_tables.proofs.TableCases.{Ready, begun_by, Written, begins_it, refuses, written}
use Rattle.frames.specs.Format.{Frame, Begun, Ended}
use Rattle.frames.specs.Journal.{Records, encode_all}
use Rattle.frames.specs.declared.role.Role.TheVariants as roles
use Rattle.protocol_files.specs.Disk.{append, sync}
use Rattle.protocol_files.specs.Records.{office_of}
use Rattle.protocol_files.specs.Nodes.{Node, opened}
use Rattle.protocol_files.specs.System.{System, by_office, office_posts, office_stops, office_opened, Found, Writable}
use Rattle.protocol_files.proofs.Disks.{one}
use Rattle.protocol_files.proofs.WardenFiles.{warden_more}
use Rattle.protocol_files.proofs.OfficeSteps.{ready_writes, Like, alike, like_ready, like_stored, fresh_of, closed}
use Rattle.protocol_files.proofs.OfficeFiles.{Stands, Waits, idle, starts, stops, start_fits, OfficeFile, OfficeUp, OfficeShows, sure_file, begun_means, ended_means, now_file, office_finds}
use Rattle.protocol_files.proofs.OfficeFiles as O
use Rattle.protocol_files.proofs.OfficeStands.{stands_ready, stands_begun, stands_closed, stands_forgetful}
use Rattle.protocol_files.proofs.Shown.{LogFits, plain, Shown, Followed}

module _ (n f : ℕ) (liar : ℕ → Bool) (s : System) where
  -- only the office has changed, without files too
  pub office_changes : (c : Node Office) (o' : Office) (bag more : List Packet) (log : Log) {o : Office} {w : ℕ → Keep Note} {b : List Packet} → Shown n f liar s o w b →
      tables.Run n f liar (record { office = o'; warden = w; reader = s.reader; bag = more; log = log }) → Within bag more → Within s.bag bag → LogFits log → OfficeShows n more log o' c →
      Followed n f liar (record { office = c; warden = s.warden; reader = s.reader; bag = bag; log = log })
  office_changes c o' bag more log {w = w} h run within old fits shows =
      (o', w, more, record { run = run; bag = within; fits = fits; office = shows; warden = λ i below own. warden_more n i s.bag (w i) (s.warden i) (h.warden i below own) old })

  -- what is being written by the records, it has
  pub had_busy : 4 * f < n → {o : Office} {w : ℕ → Keep Note} {b : List Packet} (h : Shown n f liar s o w b) (k : ℕ) → (h.office.base.desks.at k).busy ≡ true → o.desks.had k ≡ true
  had_busy least h k on = (run_fits n f liar h.run).posted (record { from = office; to = 0; note = k; message = Take (h.office.base.desks.at k).now }) ((h.office.stands.desk k).sent on 0 (omega arith)) refl refl

  -- nothing is recorded
  pub as_it_is : (o : Office) (b : List Packet) (l : Log) (shows : OfficeShows n b l o s.office) (up : s.office.up ≡ true) → (o' m : Office) → Stands n b l shows.base o' → Like m shows.base → Ordered m → ((k : ℕ) → (o'.desks.at k).busy ≡ true → m.desks.at k ≡ o'.desks.at k) →
      OfficeShows n b l o' (record { disk = sync (append [] s.office.disk); up = s.office.up; memory = m })
  as_it_is o b l shows up o' m stands like order same =
      O.office_records n b l o s.office shows up o' b l [] shows.base m tt (ap office_of (append-nil (now_file n b l o s.office shows).old) ∙ (now_file n b l o s.office shows).means) stands like order same

  -- a writing begins, without files
  begins : {o : Office} {w : ℕ → Keep Note} {b : List Packet} (h : Shown n f liar s o w b) (k : ℕ) (v : List ℕ) → Ready h.office.base k →
      tables.Run n f liar (record { office = (begun_by o k (begin_writing (h.office.base.desks.at k) v)).next; warden = w; reader = s.reader; bag = packets n office k (Each (Take (begin_writing (h.office.base.desks.at k) v).next.now)) ++ b; log = Began k (begin_writing (h.office.base.desks.at k) v).next.now.edition v ∷ s.log })
  begins {o} {w} {b} h k v ready =
      subst (λ (d : Desk). tables.Run n f liar (record { office = (begun_by o k st).next; warden = w; reader = s.reader; bag = packets n office k (Each (Take st.next.now)) ++ b; log = Began k d.now.edition d.now.value ∷ s.log })) (put_same k st.next o.desks.at)
      (subst (λ (os : OfficeStep). tables.Run n f liar (tables.by_office n k os (plain n f liar o w b s))) (ready_writes o k v (h.office.base.desks.at k) (stands_ready h.office.stands k ready) (sym (h.office.stands.desk k).now))
      (tables.then h.run (tables.writes k v)))
    where
      st : Step Desk OfficeDone
      st = begin_writing (h.office.base.desks.at k) v

  begun_fits : {o : Office} {w : ℕ → Keep Note} {b : List Packet} (h : Shown n f liar s o w b) (k : ℕ) (v : List ℕ) → Writable k v → Ready h.office.base k → LogFits (Began k (begin_writing (h.office.base.desks.at k) v).next.now.edition v ∷ s.log)
  begun_fits h k v fits ready k' e' v' (Memᴰ.head is) =
      let a : k' ≡ k = cc in
      let b : e' ≡ (begin_writing (h.office.base.desks.at k) v).next.now.edition = cc in
      let c : v' ≡ v = cc in
      rw (a, b, c) (start_fits v fits ready).0.0
  begun_fits h k v fits ready k' e' v' (Memᴰ.tail at) = h.fits k' e' v' at

  module _ (k : ℕ) (v : List ℕ) (fits : Writable k v) (up : s.office.up ≡ true) where
    -- it begins by the note that its records ask for
    same_step : {o : Office} {w : ℕ → Keep Note} {b : List Packet} (h : Shown n f liar s o w b) → begin_writing (h.office.base.desks.at k) v ≡ begin_writing (s.office.memory.desks.at k) v
    same_step h = rw ((h.office.working up).like.desk k).now

    pub writes : Followed n f liar s → Followed n f liar (by_office n k (office_writes s.office.memory k v) s)
    writes (o, w, b, h) = go (written m k v)
      where
        m : Office
        m = s.office.memory

        base : Office
        base = h.office.base

        st : Step Desk OfficeDone
        st = begin_writing (base.desks.at k) v

        x : Note
        x = st.next.now

        work : OfficeUp base o s.office
        work = h.office.working up

        begun : Ready m k → Followed n f liar (by_office n k (begun_by m k st) s)
        begun ready =
            subst (λ (d : Desk). Followed n f liar (record { office = record { disk = sync (append (encode_all (Begun k d.now ∷ [])) s.office.disk); up = s.office.up; memory = (begun_by m k st).next }; warden = s.warden; reader = s.reader; bag = packets n office k (Each (Take x)) ++ s.bag; log = Began k d.now.edition d.now.value ∷ s.log })) (sym (put_same k st.next m.desks.at))
            (office_changes (record { disk = sync (append (encode_all (Begun k x ∷ [])) s.office.disk); up = s.office.up; memory = (begun_by m k st).next }) (begun_by o k st).next (packets n office k (Each (Take x)) ++ s.bag) (packets n office k (Each (Take x)) ++ b) (Began k x.edition v ∷ s.log) h
            (begins h k v ready_base) (within_more (packets n office k (Each (Take x))) h.bag) (λ p at. Memᴰ.append_right (packets n office k (Each (Take x))) at) (begun_fits h k v fits ready_base)
            (O.office_records n b s.log o s.office h.office up (begun_by o k st).next (packets n office k (Each (Take x)) ++ b) (Began k x.edition v ∷ s.log) (Begun k x ∷ []) (begun_by base k st).next (begun_by m k st).next
            (start_fits v fits ready_base) (begun_means base (now_file n b s.log o s.office h.office).old k v (now_file n b s.log o s.office h.office).means ready_base)
            (stands_begun h.office.stands k v)
            (like_stored k st.next st.next (m.under_way ++ (k ∷ [])) (base.under_way ++ (k ∷ [])) (record { now = refl; busy = refl }) work.like)
            (subst (λ (os : OfficeStep). Ordered os.next) (ready_writes m k v (base.desks.at k) ready (work.like.desk k).now) (write_ordered m work.order k v))
            (put_both (λ _ (d e : Desk). e.busy ≡ true → d ≡ e) k st.next st.next m.desks.at o.desks.at (λ _. refl) work.same)))
          where
            ready_base : Ready base k
            ready_base = like_ready work.like ready

        go : {os : OfficeStep} → Written m k v os → Followed n f liar (by_office n k os s)
        go (begins_it ready) = subst (λ (st : Step Desk OfficeDone). Followed n f liar (by_office n k (begun_by m k st) s)) (same_step h) (begun ready)
        go (refuses e) =
            office_changes (record { disk = sync (append [] s.office.disk); up = s.office.up; memory = m }) o s.bag b s.log h h.run h.bag (λ p at. at) h.fits
            (as_it_is o b s.log h.office up o m h.office.stands work.like work.order work.same)

    pub write_stops : (j : ℕ) (left : Office) → Followed n f liar s → Followed n f liar (office_stops k (office_writes s.office.memory k v) j left s)
    write_stops j left (o, w, b, h) = go (written m k v)
      where
        m : Office
        m = s.office.memory

        -- records are pending, and nothing else has changed
        pends : (fs : List Frame) → Waits h.office.base o fs → Followed n f liar (record { office = record { disk = append (take j (encode_all fs)) s.office.disk; up = false; memory = left }; warden = s.warden; reader = s.reader; bag = s.bag; log = s.log })
        pends fs waits =
            office_changes (record { disk = append (take j (encode_all fs)) s.office.disk; up = false; memory = left }) o s.bag b s.log h h.run h.bag (λ p at. at) h.fits
            (O.office_stops n b s.log o s.office h.office up o b s.log fs j left waits h.office.stands)

        go : {os : OfficeStep} → Written m k v os → Followed n f liar (office_stops k os j left s)
        go (begins_it ready) =
            subst (λ (st : Step Desk OfficeDone). Followed n f liar (office_stops k (begun_by m k st) j left s)) (same_step h)
            (subst (λ (d : Desk). Followed n f liar (record { office = record { disk = append (take j (encode_all (Begun k d.now ∷ []))) s.office.disk; up = false; memory = left }; warden = s.warden; reader = s.reader; bag = s.bag; log = s.log })) (sym (put_same k (begin_writing (h.office.base.desks.at k) v).next m.desks.at))
            (pends (Begun k (begin_writing (h.office.base.desks.at k) v).next.now ∷ []) (starts k v fits (like_ready (h.office.working up).like ready))))
        go (refuses e) = pends [] idle

  -- it sends again what was sent
  pub ticks : s.office.up ≡ true → Followed n f liar s → Followed n f liar (office_posts n (office_ticks s.office.memory) s)
  ticks up (o, w, b, h) = (
    o,
    w,
    b,
    record {
      run = h.run;
      bag = λ p at. ⊎_elim (h.bag p) (again_sent p) (of_post n (office_ticks m).letters s.bag p at);
      fits = h.fits;
      office = h.office;
      warden = λ i below own. warden_more n i s.bag (w i) (s.warden i) (h.warden i below own) (in_post n (office_ticks m).letters s.bag);
    },
  )
    where
      m : Office
      m = s.office.memory

      work : OfficeUp h.office.base o s.office
      work = h.office.working up

      again_sent : (p : Packet) → (l : Letter) × Memᴰ l (map (again m.desks) m.under_way) × Memᴰ p (packets n office l.note l.sends) → Memᴰ p b
      again_sent p (l, listed, at) =
          let (k, under_way, is) = Memᴰ.of_map (again m.desks) m.under_way listed in
          let (i, below, same) = of_each n (λ i. record { from = office; to = i; note = k; message = Take (m.desks.at k).now }) p (subst (λ (l : Letter). Memᴰ p (packets n office l.note l.sends)) (sym is) at) in
          subst (λ (q : Packet). Memᴰ q b) (sym same)
          (subst (λ (y : Note). Memᴰ (record { from = office; to = i; note = k; message = Take y }) b) (sym (work.like.desk k).now)
          ((h.office.stands.desk k).sent (sym (work.like.desk k).busy ∙ work.order.busy k under_way) i below))

  -- it comes up with these records, and counts from nothing
  comes_up : (o : Office) (b : List Packet) (log : Log) (base : Office) (fs : List Frame) → Records roles.Office fs → office_of fs ≡ base → Stands n b log base o → OfficeShows n b log (tables.forgetful o) (opened fs (office_of fs))
  comes_up o b log base fs records is stands =
      record {
        base = base;
        files = one (OfficeFile base (tables.forgetful o)) (sure_file (tables.forgetful o) fs refl records refl is);
        stands = stands_forgetful stands;
        working = λ _. record { former = refl; pending = refl; like = rw is (alike base); order = (fresh_of fs).order; same = same };
      }
    where
      same : (k : ℕ) → (o.desks.at k).busy ≡ true → (office_of fs).desks.at k ≡ forget (o.desks.at k)
      same k on =
          let now : ((office_of fs).desks.at k).now ≡ (o.desks.at k).now = ap (λ (a : Office). (a.desks.at k).now) is ∙ (stands.desk k).now in
          let busy : ((office_of fs).desks.at k).busy ≡ (o.desks.at k).busy = ap (λ (a : Office). (a.desks.at k).busy) is ∙ (stands.desk k).busy on ∙ sym on in
          λ t. record { now = now t; busy = busy t; acks = (fresh_of fs).acks k t }

  pub opens : 4 * f < n → (ss ps : List Frame) (rest : List ℕ) → Found roles.Office s.office.disk.file ss ps rest → Followed n f liar s → Followed n f liar (office_opened ss ps s)
  opens least ss ps rest found (o, w, b, h) = let (waits, is) = office_finds n b s.log o s.office h.office found in go waits is found.splits.records
    where
      base : Office
      base = h.office.base

      up_with : (o' : Office) (more : List Packet) (log : Log) (base' : Office) (fs : List Frame) → tables.Run n f liar (record { office = o'; warden = w; reader = s.reader; bag = more; log = log }) → Within b more → LogFits log → Records roles.Office (ss ++ fs) → office_of (ss ++ fs) ≡ base' → Stands n more log base' o' →
          Followed n f liar (record { office = opened (ss ++ fs) (office_of (ss ++ fs)); warden = s.warden; reader = s.reader; bag = s.bag; log = log })
      up_with o' more log base' fs run grown fits records means stands =
          office_changes (opened (ss ++ fs) (office_of (ss ++ fs))) (tables.forgetful o') s.bag more log h (tables.then run tables.office_restarts) (λ p at. grown p (h.bag p at)) (λ p at. at) fits (comes_up o' more log base' (ss ++ fs) records means stands)

      go : {fs : List Frame} → Waits base o fs → office_of ss ≡ base → Records roles.Office (ss ++ fs) → Followed n f liar (office_opened ss fs s)
      go idle is records = up_with o b s.log base [] h.run (λ p at. at) h.fits records (ap office_of (append-nil ss) ∙ is) h.office.stands
      go (starts k v fits ready) is records =
          up_with (begun_by o k (begin_writing (base.desks.at k) v)).next (packets n office k (Each (Take x)) ++ b) (Began k x.edition v ∷ s.log) (begun_by base k (begin_writing (base.desks.at k) v)).next (Begun k x ∷ []) (begins h k v ready) (λ p at. Memᴰ.append_right (packets n office k (Each (Take x))) at) (begun_fits h k v fits ready) records (begun_means base ss k v is ready) (stands_begun h.office.stands k v)
        where
          x : Note
          x = (begin_writing (base.desks.at k) v).next.now
      go (stops k small low on off) is records =
          up_with o b s.log (closed base k) (Ended k (base.desks.at k).now.edition ∷ []) h.run (λ p at. at) h.fits records (ended_means base ss k is on) (stands_closed h.office.stands k (had_busy least h k on) off)
