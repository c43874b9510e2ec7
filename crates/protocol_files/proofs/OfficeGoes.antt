-- A run goes on with what the office with its file does, and its log is good.
-- Assumes nothing.
use Rattle.std.proofs.Common.{◌≡◌, ℕ, ◌*◌, ◌<◌, Bool, true, false, List, [], ◌∷◌, ◌++◌, sym, refl, ap, ◌∙◌, subst, append_assoc, append-nil}
use mathlib.Core.List.{Memᴰ}
use Rattle.std.proofs.lemmas.Bool.{cond_both}
use Rattle.protocol.specs.Message.{office, Message, Packet}
use Rattle.protocol.specs.Office.{office_on}
use Rattle.protocol.specs.Log.{Ended, Log}
use Rattle.protocol.specs.System.{office_event}
use Rattle.protocol_tables.specs.Office.{Office, OfficeStep, Letter, post, ends, office_writes, office_hears}
use Rattle.protocol_tables.proofs.Room.{no_letters}
use Rattle.frames.specs.Format.{Frame}
use Rattle.frames.specs.Journal.{Records, encode_all, Splits}
use Rattle.frames.specs.declared.role.Role.TheVariants as roles
use Rattle.frames.proofs.Files.{once}
use Rattle.protocol_files.specs.Disk.{File, Disk, contents, with_beside, rename, Cut}
use Rattle.protocol_files.specs.Records.{office_of, began_by, began_all}
use Rattle.protocol_files.specs.Nodes.{Node, fallen, opened, recorded, stopped}
use Rattle.protocol_files.specs.System.{System, has_ended, ended_news, office_news, unsure_news, with_office, Writable, writes, office_hear, write_stops, hear_stops, office_falls, office_opens, office_scribbles, office_renames, Run, then}
use Rattle.protocol_files.specs.Runs.{OfficeGoesOn}
use Rattle.protocol_files.proofs.Journals.{all_of_it, known, found_in, found_all}
use Rattle.protocol_files.proofs.Sound.{good_run, sound_office}

-- WHAT IS SEEN stands before what was seen
abbrev pub Front : Log → Log → Type 0
Front l now = (more : Log) × (now ≡ more ++ l)

ended_front : (k e : ℕ) (l : Log) → Front l (ended_news k e l)
ended_front k e l = cond_both (has_ended k e l) l (Ended k e ∷ l) (Front l) (λ _. ([], refl)) (λ _. (Ended k e ∷ [], refl))

pub news_front : (k : ℕ) (o : OfficeStep) (l : Log) → Front l (office_news k o l)
news_front k o l =
    cond_both (ends o.outcome) (ended_news k (o.next.desks.at k).now.edition l) (office_event k (o.next.desks.at k) o.outcome ++ l) (Front l)
    (λ _. ended_front k (o.next.desks.at k).now.edition l) (λ _. (office_event k (o.next.desks.at k) o.outcome, refl))

unsure_front : (k : ℕ) (o : OfficeStep) (l : Log) → Front l (unsure_news k o l)
unsure_front k o l = cond_both (ends o.outcome) (ended_news k (o.next.desks.at k).now.edition l) l (Front l) (λ _. ended_front k (o.next.desks.at k).now.edition l) (λ _. ([], refl))

pub began_front : (fs : List Frame) (l : Log) → Front l (began_all fs l)
began_front [] l = ([], refl)
began_front (f ∷ fs) l = let (more, is) = began_front fs (began_by f ++ l) in (more ++ began_by f, is ∙ sym (append_assoc more (began_by f) l))

module _ (n f : ℕ) (liar : ℕ → Bool) (s : System) (least : 4 * f < n) (run : Run n f liar s) where
  grows : (c : Node Office) (bag : List Packet) (now : Log) → Front s.log now → Run n f liar (record { office = c; warden = s.warden; reader = s.reader; bag = bag; log = now }) → OfficeGoesOn n f liar s c bag
  grows c bag now (more, is) at =
      (more, good_run n f liar (record { office = c; warden = s.warden; reader = s.reader; bag = bag; log = more ++ s.log }) least (subst (λ (l : Log). Run n f liar (record { office = c; warden = s.warden; reader = s.reader; bag = bag; log = l })) is at))

  goes_on : (c : Node Office) → Run n f liar (with_office c s) → OfficeGoesOn n f liar s c s.bag
  goes_on c at = grows c s.bag s.log ([], refl) at

  pub office_stays_on : OfficeGoesOn n f liar s s.office s.bag
  office_stays_on = goes_on s.office run

  pub office_falls_on : (e : Disk) (m : Office) → Cut s.office.disk e → OfficeGoesOn n f liar s (fallen e m) s.bag
  office_falls_on e m fall = goes_on (fallen e m) (then run (office_falls e m fall))

  pub office_writes_on : (k : ℕ) (v : List ℕ) → Writable k v → s.office.up ≡ true →
      OfficeGoesOn n f liar s (recorded k (office_writes s.office.memory k v) s.office) (post n (office_writes s.office.memory k v).letters s.bag)
  office_writes_on k v fits up =
      let o = office_writes s.office.memory k v in
      grows (recorded k o s.office) (post n o.letters s.bag) (office_news k o s.log) (news_front k o s.log) (then run (writes k v fits up))

  pub office_write_stops_on : (k : ℕ) (v : List ℕ) (j : ℕ) (m : Office) → Writable k v → s.office.up ≡ true → OfficeGoesOn n f liar s (stopped k (office_writes s.office.memory k v) j m s.office) s.bag
  office_write_stops_on k v j m fits up =
      let o = office_writes s.office.memory k v in
      grows (stopped k o j m s.office) s.bag (unsure_news k o s.log) (unsure_front k o s.log) (then run (write_stops k v j m fits up))

  module _ (from k : ℕ) (m : Message) (up : s.office.up ≡ true) (at : Memᴰ (record { from = from; to = office; note = k; message = m }) s.bag) where
    abbrev heard : OfficeStep
    heard = office_hears n f s.office.memory from k m

    pub office_hears_on : OfficeGoesOn n f liar s (recorded k heard s.office) s.bag
    office_hears_on =
        subst (λ (ls : List Letter). OfficeGoesOn n f liar s (recorded k heard s.office) (post n ls s.bag)) (no_letters s.office.memory k (office_on n f (s.office.memory.desks.at k) from m))
        (grows (recorded k heard s.office) (post n heard.letters s.bag) (office_news k heard s.log) (news_front k heard s.log) (then run (office_hear (record { from = from; to = office; note = k; message = m }) up at refl)))

    pub office_hear_stops_on : (j : ℕ) (left : Office) → OfficeGoesOn n f liar s (stopped k heard j left s.office) s.bag
    office_hear_stops_on j left =
        grows (stopped k heard j left s.office) s.bag (unsure_news k heard s.log) (unsure_front k heard s.log) (then run (hear_stops (record { from = from; to = office; note = k; message = m }) j left up at refl))

  pub office_opens_on : (fs : List Frame) (rest : List ℕ) → s.office.up ≡ false → Splits roles.Office (contents s.office.disk.file) fs rest → OfficeGoesOn n f liar s (opened fs (office_of fs)) s.bag
  office_opens_on fs rest down splits =
      let (ss, sure, records) = sound_office n f liar s least run in
      let (ps, is, found) = found_in ss sure records splits in
      subst (λ (gs : List Frame). OfficeGoesOn n f liar s (opened gs (office_of gs)) s.bag) (sym is)
      (grows (opened (ss ++ ps) (office_of (ss ++ ps))) s.bag (began_all ps s.log) (began_front ps s.log) (then run (office_opens ss ps rest down found)))

  -- ITS FILE IS WRITTEN ANEW
  module _ (fs : List Frame) (records : Records roles.Office fs) (same : (ss : List Frame) → s.office.disk.file.synced ≡ encode_all ss → Records roles.Office ss → office_of fs ≡ office_of ss) where
    -- the new file
    abbrev fresh : File
    fresh = record { synced = encode_all fs; pending = [] }

    renamed : (m : Office) → Run n f liar (with_office (fallen (rename (with_beside fresh s.office.disk)) m) s)
    renamed m =
        let (ss, sure, read) = sound_office n f liar s least run in
        then (then run (office_scribbles fresh)) (office_renames m (record { old = ss; new = fs; sure = sure; read = read; beside = refl; records = records; same = same ss sure read }))

    pub office_compacting_on : (e : Disk) (m : Office) → Cut (rename (with_beside fresh s.office.disk)) e → OfficeGoesOn n f liar s (fallen e m) s.bag
    office_compacting_on e m fall = goes_on (fallen e m) (then (renamed m) (office_falls e m fall))

    pub office_compacts_on : OfficeGoesOn n f liar s (opened fs (office_of fs)) s.bag
    office_compacts_on =
        subst (λ (gs : List Frame). OfficeGoesOn n f liar s (opened gs (office_of gs)) s.bag) (append-nil fs)
        (goes_on (opened (fs ++ []) (office_of (fs ++ []))) (then (renamed s.office.memory) (office_opens fs [] [] refl (found_all roles.Office fs records))))

  -- by what is synced
  as_synced : (fs : List Frame) → s.office.disk.file.synced ≡ encode_all fs → Records roles.Office fs → (ss : List Frame) → s.office.disk.file.synced ≡ encode_all ss → Records roles.Office ss → office_of fs ≡ office_of ss
  as_synced fs is a ss sure b = ap office_of (known roles.Office fs ss a b (sym is ∙ sure))

  pub office_restores_on : (fs : List Frame) (rest : List ℕ) → Splits roles.Office s.office.disk.file.synced fs rest → OfficeGoesOn n f liar s (opened fs (office_of fs)) s.bag
  office_restores_on fs rest splits =
      let (ss, sure, records) = sound_office n f liar s least run in
      let is : ss ≡ fs = (once roles.Office s.office.disk.file.synced ss fs [] rest (subst (λ (bs : List ℕ). Splits roles.Office bs ss []) (sym sure) (all_of_it roles.Office ss records)) splits).0 in
      subst (λ (gs : List Frame). OfficeGoesOn n f liar s (opened gs (office_of gs)) s.bag) is (office_compacts_on ss records (as_synced ss sure records))

  pub office_renewed_on : (e : Disk) (m : Office) → Cut (rename (with_beside (record { synced = s.office.disk.file.synced; pending = [] }) s.office.disk)) e → OfficeGoesOn n f liar s (fallen e m) s.bag
  office_renewed_on e m fall =
      let (ss, sure, records) = sound_office n f liar s least run in
      office_compacting_on ss records (as_synced ss sure records) e m (subst (λ (bs : List ℕ). Cut (rename (with_beside (record { synced = bs; pending = [] }) s.office.disk)) e) sure fall)
