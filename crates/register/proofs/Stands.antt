-- The promise, from what holds of every world that can be reached.
-- Assumes nothing.
use Rattle.std.proofs.Common.{◌≡◌, ℕ, ◌<◌, ◌≤◌, Bool, true, false, ◌&&◌, ◌||◌, ltb, leb, ◌⊎◌, sym, refl, ap, ◌∙◌, inl, inr, ⊎_elim, arith}
use Rattle.std.proofs.lemmas.Bool.{and_parts, cases_lt, cases_eq, cases_Bool}
use Rattle.register.specs.Count.{count}
use Rattle.register.specs.Note.{Note, none, same}
use Rattle.register.specs.Rule.{answers, IsRead}
use Rattle.register.specs.Model.{Office, note, Warden, Round}
use Rattle.register.specs.Promise.{faults, Settled, Heard, Stands, Stand, Read}
use Rattle.register.proofs.Counting.{within, either, beyond, overlap}
use Rattle.register.proofs.Notes.{note_path, same_true, true_same}
use Rattle.register.proofs.Keeps.{Written, Said, OfficeKept, RoundKept, reach_kept}

-- two notes that were written, of one edition, are one
written_path : (o : Office) (x y : Note) → Written o x → Written o y → x.edition ≡ y.edition → x ≡ y
written_path o x y wx wy e = note_path x y e (wx.1 ∙ (ap o.value e ∙ sym wy.1))

module _ (n f : ℕ) (liar : ℕ → Bool) (o : Office) (d : ℕ → Warden) (r : Round) (office : OfficeKept n f liar o d) (kept : RoundKept n f liar o d r) where
  -- the tests that are counted: i told x, i told a later edition than e, i lies or lapsed
  abbrev told : Note → ℕ → Bool
  told x i = r.replies.heard i && same (r.replies.told i) x

  abbrev above : ℕ → ℕ → Bool
  above e i = r.replies.heard i && ltb e (r.replies.told i).edition

  abbrev faulty : ℕ → Bool
  faulty i = liar i || r.lapsed i

  -- what was heard of an honest warden, it has said
  honest : (i : ℕ) → r.replies.heard i ≡ true → liar i ≡ false → Said o (r.tops i) (r.lapsed i) (r.replies.told i)
  honest i heard fair = ⊎_elim (λ (lies : liar i ≡ true). grind arith) (kept.said i (r.replies.told i)) (kept.told i heard)

  -- more than f were heard, had had the edition e when the round began, and neither lie nor lapsed: a test that they all pass is passed by more than f
  most : Heard n f liar r → (e : ℕ) → Settled n f liar r e → (s : ℕ → Bool) → ((i : ℕ) → r.replies.heard i ≡ true → Written o (r.replies.told i) → e ≤ (r.replies.told i).edition → s i ≡ true) → f < count n s
  most heard e settled s h =
      omega (
        arith,
        overlap n (answers n r.replies) (faults n liar r) f r.replies.heard (λ i. liar i || leb e (r.tops i)) faulty s (omega arith) settled (omega arith) (λ i _ heard has. ⊎_elim inl (λ fine. inr (each i heard has fine)) (cases_Bool (faulty i))),
      )
    where
      each : (i : ℕ) → r.replies.heard i ≡ true → (liar i || leb e (r.tops i)) ≡ true → faulty i ≡ false → s i ≡ true
      each i heard has fine =
          let said = honest i heard (grind arith) in
          let late = said.late (grind arith) in
          h i heard said.written (grind arith)

  read_written : count n liar ≤ f → (x : Note) → IsRead n f r.replies x → Written o x
  read_written few x read =
      let (i, l, voted, fine) = beyond n (told x) liar (omega (arith, read.enough)) in
      let (heard, alike) = and_parts (r.replies.heard i) (same (r.replies.told i) x) voted in
      rw (same_true (r.replies.told i) x alike) at (honest i heard fine).written

  -- else those who told one of e or later would be too many
  read_fresh : Heard n f liar r → (x : Note) → IsRead n f r.replies x → (e : ℕ) → Settled n f liar r e → e ≤ x.edition
  read_fresh heard x read e settled = ⊎_elim stale (λ l. l) (cases_lt x.edition e)
    where
      stale : x.edition < e → e ≤ x.edition
      stale l = omega (arith, read.last, most heard e settled (above x.edition) (λ i heard _ late. grind arith))

  -- else those who told y would be too many
  no_later : (x y : Note) → IsRead n f r.replies x → IsRead n f r.replies y → y.edition ≤ x.edition
  no_later x y read_x read_y = ⊎_elim over (λ l. l) (cases_lt x.edition y.edition)
    where
      over : x.edition < y.edition → y.edition ≤ x.edition
      over l = omega (arith, read_x.last, read_y.enough, within n (told y) (above x.edition) (λ i _ e. let alike = same_true (r.replies.told i) y in grind arith))

  read_unique : count n liar ≤ f → (x y : Note) → IsRead n f r.replies x → IsRead n f r.replies y → x ≡ y
  read_unique few x y read_x read_y =
      written_path o x y (read_written few x read_x) (read_written few y read_y) (omega (arith, no_later x y read_x read_y, no_later y x read_y read_x))

  read_sure : Heard n f liar r → faults n liar r ≤ f → o.edition ≡ r.since → IsRead n f r.replies (note o r.since)
  read_sure heard few still =
      record {
        enough = most heard r.since kept.quorum (told x) (λ i heard written late. let alike = true_same (r.replies.told i) x (written_path o (r.replies.told i) x written (omega arith, refl) (omega arith)) in grind arith);
        last = omega (arith, within n (above r.since) faulty (λ i _ e. lies i e (cases_Bool (liar i))));
      }
    where
      x : Note
      x = note o r.since

      lies : (i : ℕ) → above r.since i ≡ true → (liar i ≡ true) ⊎ (liar i ≡ false) → faulty i ≡ true
      lies i e (inl so) = grind arith
      lies i e (inr fair) = let said = honest i (grind arith) fair in grind arith

  stands : Stands n f liar o r
  stands = record { written = λ few x read. named x (read_written few x read); unique = read_unique; fresh = read_fresh; ended = kept.quorum; sure = read_sure }
    where
      named : (x : Note) → Written o x → (x ≡ none) ⊎ ((1 ≤ x.edition) × (x.edition ≤ o.edition) × (x.value ≡ o.value x.edition))
      named x written = ⊎_elim (λ e. inl (note_path x none e (written.1 ∙ (ap o.value e ∙ office.blank)))) (λ e. inr (omega arith, written.0, written.1)) (cases_eq x.edition 0)

pub stand : Stand
stand n f liar w reach r =
    let kept = reach_kept reach in
    stands n f liar w.office w.warden (w.round r) kept.office (kept.round r)

pub reads : Read
reads n f liar least w reach r full =
    let s = stand n f liar w reach r in
    let few : count n liar ≤ f = omega (arith, full.few, either n liar (w.round r).lapsed) in
    let heard : Heard n f liar (w.round r) = omega (arith, full.few, full.enough) in
    record {
      written = s.written few;
      unique = s.unique few;
      fresh = λ x read. s.fresh heard x read (w.round r).since s.ended;
      sure = s.sure heard full.few;
    }
