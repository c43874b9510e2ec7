-- The office by its records, beside the office without files: both begin, one counts, one closes, one starts again.
-- Assumes nothing.
use Rattle.std.proofs.Common.{◌≡◌, ℕ, suc, Bool, true, false, eqb, List, [], ◌∷◌, ◌++◌, sym, refl, ap, ◌∙◌, ⊎_elim}
use mathlib.Core.List.Memᴰ
use mathlib.Core.List.{Memᴰ}
use Rattle.std.proofs.lemmas.Bool.{both_ways, false_from_ne_true, cond-true, cond_both, eq-eqb, eqb-true, and_parts, or_cases, or_left, or_right}
use Rattle.register.specs.Count.{put}
use Rattle.register.specs.Note.{Note}
use Rattle.register.proofs.Put.{put_all, put_both, put_idle}
use Rattle.protocol.specs.Message.{office, Take, Each, Packet, packets}
use Rattle.protocol.specs.Step.{Step}
use Rattle.protocol.specs.Office.{OfficeDone, Desk, begin_writing, close}
use Rattle.protocol.specs.Log.{Event, Began, Ended, Took, Lost, Asked, Retried, Read, Unsure, Log}
use Rattle.protocol.proofs.Packets.{at_each}
use Rattle.protocol_tables.specs.Keep.{store}
use Rattle.protocol_tables.specs.Office.{Office}
use Rattle.protocol_tables.specs.System.{forgetful}
use Rattle.protocol_tables.proofs.TableCases.{Ready, begun_by}
use Rattle.protocol_files.specs.System.{ends_in, has_ended, ended_news}
use Rattle.protocol_files.proofs.OfficeSteps.{room_alike, closed}
use Rattle.protocol_files.proofs.OfficeFiles.{DeskStands, Stands, desk_more}
use Rattle.protocol_files.proofs.Shown.{LogFits}

module _ {n : ℕ} {bag : List Packet} {l : Log} {base o : Office} (h : Stands n bag l base o) (k : ℕ) where
  pub stands_ready : Ready base k → Ready o k
  stands_ready ready =
      record {
        idle = false_from_ne_true (o.desks.at k).busy (λ on. both_ways (base.desks.at k).busy ready.idle ((h.desk k).busy on));
        low = rw (h.desk k).now at ready.low;
        roomy = room_alike k o.desks base.desks (sym h.had) (sym h.many) ready.roomy;
      }

  -- the note that begins
  abbrev pub first_step : List ℕ → Step Desk OfficeDone
  first_step v = begin_writing (base.desks.at k) v

  pub stands_begun : (v : List ℕ) → Stands n (packets n office k (Each (Take (first_step v).next.now)) ++ bag) (Began k (first_step v).next.now.edition v ∷ l) (begun_by base k (first_step v)).next (begun_by o k (first_step v)).next
  stands_begun v =
      record {
        desk = put_both (λ j d e. DeskStands n j (ps ++ bag) (Began k x.edition v ∷ l) d e) k (first_step v).next (first_step v).next base.desks.at o.desks.at
            (record { now = refl; busy = λ on. on; ended = λ _ off. cc; sent = λ _ i below. Memᴰ.append_left bag (at_each n (λ i. record { from = office; to = i; note = k; message = Take x }) i below) })
            (λ j. desk_more (λ p at. Memᴰ.append_right ps at) (λ e at. Memᴰ.tail at) (h.desk j));
        had = ap (put k true) h.had;
        many = rw (h.had, h.many);
      }
    where
      x : Note
      x = (first_step v).next.now

      ps : List Packet
      ps = packets n office k (Each (Take x))

  -- without files, it has another desk for a note that it had
  pub stands_kept : (e : Desk) (us : List ℕ) → o.desks.had k ≡ true → DeskStands n k bag l (base.desks.at k) e → Stands n bag l base (record { desks = store k e o.desks; under_way = us })
  stands_kept e us had new =
      record {
        desk = put_all (λ j e. DeskStands n j bag l (base.desks.at j) e) k e o.desks.at new h.desk;
        had = h.had ∙ sym (put_idle k true o.desks.had had);
        many = h.many ∙ sym (cond-true (o.desks.had k) o.desks.many (suc o.desks.many) had);
      }

  -- the record of an end is there
  pub stands_closed : o.desks.had k ≡ true → (o.desks.at k).busy ≡ false → Stands n bag l (closed base k) o
  stands_closed had off =
      record {
        desk = put_all (λ j d. DeskStands n j bag l d (o.desks.at j)) k (close (base.desks.at k)) base.desks.at (record { now = (h.desk k).now; busy = λ on. cc; ended = λ on. cc; sent = λ on. cc }) h.desk;
        had = put_idle k true base.desks.had (ap (λ (g : ℕ → Bool). g k) h.had ∙ had) ∙ h.had;
        many = cond-true (base.desks.had k) base.desks.many (suc base.desks.many) (ap (λ (g : ℕ → Bool). g k) h.had ∙ had) ∙ h.many;
      }

pub stands_forgetful : {n : ℕ} {bag : List Packet} {l : Log} {base o : Office} → Stands n bag l base o → Stands n bag l base (forgetful o)
stands_forgetful h = record { desk = λ k. record { now = (h.desk k).now; busy = (h.desk k).busy; ended = (h.desk k).ended; sent = (h.desk k).sent }; had = h.had; many = h.many }

-- ENDS IN THE LOG
ends_there : (k e : ℕ) (x : Event) → ends_in k e x ≡ true → Ended k e ≡ x
ends_there k e (Began k' e' v) so = cc
ends_there k e (Ended k' e') so = let (here, there) = and_parts (eqb k k') (eqb e e') so in rw (eqb-true k k' here, eqb-true e e' there)
ends_there k e (Took i k' e') so = cc
ends_there k e (Lost i) so = cc
ends_there k e (Asked j k') so = cc
ends_there k e (Retried j k') so = cc
ends_there k e (Read j k' e' v) so = cc
ends_there k e (Unsure j k') so = cc

pub ended_there : (k e : ℕ) (l : Log) → has_ended k e l ≡ true → Memᴰ (Ended k e) l
ended_there k e [] so = cc
ended_there k e (x ∷ l) so = ⊎_elim (λ here. Memᴰ.head (ends_there k e x here)) (λ there. Memᴰ.tail (ended_there k e l there)) (or_cases (ends_in k e x) (has_ended k e l) so)

pub ended_so : (k e : ℕ) (l : Log) → Memᴰ (Ended k e) l → has_ended k e l ≡ true
ended_so k e [] at = absurd (Memᴰ.not-nil at)
ended_so k e (x ∷ l) (Memᴰ.head is) = or_left (ends_in k e x) (has_ended k e l) (ap (ends_in k e) (sym is) ∙ rw (eq-eqb k k refl, eq-eqb e e refl))
ended_so k e (x ∷ l) (Memᴰ.tail at) = or_right (ends_in k e x) (has_ended k e l) (ended_so k e l at)

pub news_fits : (k e : ℕ) (l : Log) → LogFits l → LogFits (ended_news k e l)
news_fits k e l h =
    cond_both (has_ended k e l) l (Ended k e ∷ l) LogFits (λ _. h)
    (λ _ k' e' v at. ⊎_elim (λ (is : Began k' e' v ≡ Ended k e). cc) (h k' e' v) (Memᴰ.cases_cons at))
