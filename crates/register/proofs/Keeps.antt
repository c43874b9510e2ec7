-- What holds of every world that can be reached.
-- Assumes nothing.
use Rattle.std.proofs.Common.{◌≡◌, ℕ, ◌+◌, ◌≤◌, Bool, true, false, ◌||◌, ltb, leb, ◌⊎◌, List, [], ◌∷◌, sym, refl, ◌∙◌, inl, inr, ⊎_elim, arith}
use mathlib.Core.List.Memᴰ
use mathlib.Core.List.{Memᴰ}
use Rattle.std.proofs.lemmas.Bool.{ltb-false}
use Rattle.register.specs.Count.{count, put}
use Rattle.register.specs.Note.{Note}
use Rattle.register.specs.Model.{Office, note, begun, acked, closed, Warden, stored, emptied, Round, opened, offering, hearing, lapsing, World, new_office, new_round, start, Step, begins, stores, hears, ends, opens, tells, listens, loses, Reach, begin, then}
use Rattle.register.proofs.Counting.{within, everybody}
use Rattle.register.proofs.Put.{put_all, put_both}
use Rattle.register.proofs.Grows.{Grows, step_grows}

-- the note of an edition begun so far
abbrev pub Written : Office → Note → Type 0
Written o x = (x.edition ≤ o.edition) × (x.value ≡ o.value x.edition)

-- of who has once had the edition e, or lies
abbrev pub has : (ℕ → Bool) → (ℕ → Warden) → ℕ → ℕ → Bool
has liar d e i = liar i || leb e (d i).high

pub record OfficeKept (n f : ℕ) (liar : ℕ → Bool) (o : Office) (d : ℕ → Warden) : Type 0 where
  pub blank : o.value 0 ≡ []
  pub order : o.ended ≤ o.edition
  pub taken : (i : ℕ) → o.acks i ≡ true → has liar d o.edition i ≡ true
  pub quorum : n ≤ count n (has liar d o.ended) + f

pub record WardenKept (o : Office) (c : Warden) : Type 0 where
  pub written : Written o c.store
  pub top : c.store.edition ≤ c.high

-- of what an honest warden has said in a round
pub record Said (o : Office) (top : ℕ) (lapsed : Bool) (x : Note) : Type 0 where
  pub written : Written o x
  pub late : lapsed ≡ false → top ≤ x.edition

pub record RoundKept (n f : ℕ) (liar : ℕ → Bool) (o : Office) (d : ℕ → Warden) (r : Round) : Type 0 where
  pub order : r.since ≤ o.ended
  pub quorum : n ≤ count n (λ i. liar i || leb r.since (r.tops i)) + f
  pub high : (i : ℕ) → r.tops i ≤ (d i).high
  pub ahead : (i : ℕ) → r.lapsed i ≡ false → (d i).high ≤ (d i).store.edition
  pub said : (i : ℕ) (x : Note) → Memᴰ x (r.offered i) → Said o (r.tops i) (r.lapsed i) x
  pub told : (i : ℕ) → r.replies.heard i ≡ true → (liar i ≡ true) ⊎ Memᴰ (r.replies.told i) (r.offered i)

pub record Kept (n f : ℕ) (liar : ℕ → Bool) (w : World) : Type 0 where
  pub office : OfficeKept n f liar w.office w.warden
  pub warden : (i : ℕ) → WardenKept w.office (w.warden i)
  pub round : (r : ℕ) → RoundKept n f liar w.office w.warden (w.round r)

written_grows : {o o' : Office} {d d' : ℕ → Warden} {x : Note} → Grows o o' d d' → Written o x → Written o' x
written_grows {x = x} g w = (omega (arith, g.edition), w.1 ∙ g.value x.edition w.0)

round_grows : {n f : ℕ} {liar : ℕ → Bool} {o o' : Office} {d d' : ℕ → Warden} {r : Round} → Grows o o' d d' → ((i : ℕ) → r.lapsed i ≡ false → (d' i).high ≤ (d' i).store.edition) → RoundKept n f liar o d r → RoundKept n f liar o' d' r
round_grows g ahead k =
    record {
      order = omega (arith, g.ended);
      quorum = k.quorum;
      high = λ i. omega (arith, g.high i, k.high i);
      ahead = ahead;
      said = λ i x m. record { written = written_grows g (k.said i x m).written; late = (k.said i x m).late };
      told = k.told;
    }

office_grows : {n f : ℕ} {liar : ℕ → Bool} {o : Office} {d d' : ℕ → Warden} → Grows o o d d' → OfficeKept n f liar o d → OfficeKept n f liar o d'
office_grows {n} {f} {liar} {o} {d} {d'} g k =
    record {
      blank = k.blank;
      order = k.order;
      taken = λ i a. still o.edition i (k.taken i a);
      quorum = omega (arith, k.quorum, within n (has liar d o.ended) (has liar d' o.ended) (λ i _. still o.ended i));
    }
  where
    still : (e i : ℕ) → has liar d e i ≡ true → has liar d' e i ≡ true
    still e i h = let up = g.high i in grind arith

module _ {n f : ℕ} {liar : ℕ → Bool} where
  begin_kept : Kept n f liar start
  begin_kept =
      record {
        office = record { blank = refl; order = omega arith; taken = λ i e. grind arith; quorum = omega (arith, everybody n (has liar start.warden 0) (λ i l. grind arith)) };
        warden = λ i. record { written = (omega arith, refl); top = omega arith };
        round = λ r. record {
          order = omega arith;
          quorum = omega (arith, everybody n (λ i. liar i || leb 0 0) (λ i l. grind arith));
          high = λ i. omega arith;
          ahead = λ i e. omega arith;
          said = λ i x m. absurd (Memᴰ.not-nil m);
          told = λ i e. cc;
        };
      }

  -- a step of the office: the wardens and the rounds stay
  by_office : {w : World} (o : Office) → Grows w.office o w.warden w.warden → OfficeKept n f liar o w.warden → Kept n f liar w → Kept n f liar (new_office o w)
  by_office o g new k =
      record { office = new; warden = λ i. record { written = written_grows g (k.warden i).written; top = (k.warden i).top }; round = λ r. round_grows g (k.round r).ahead (k.round r) }

  -- a step of one round: all else stays
  by_round : {w : World} (r : ℕ) (q : Round) → RoundKept n f liar w.office w.warden q → Kept n f liar w → Kept n f liar (new_round r q w)
  by_round {w} r q new k =
      record { office = k.office; warden = k.warden; round = put_all (λ _ q. RoundKept n f liar w.office w.warden q) r q w.round new k.round }

  opened_kept : {o : Office} {d : ℕ → Warden} → OfficeKept n f liar o d → RoundKept n f liar o d (opened o d)
  opened_kept {o} {d} k =
      record {
        order = omega arith;
        quorum = k.quorum;
        high = λ i. omega arith;
        ahead = λ i e. ltb-false (d i).store.edition (d i).high e;
        said = λ i x m. absurd (Memᴰ.not-nil m);
        told = λ i e. cc;
      }

  offering_kept : {o : Office} {d : ℕ → Warden} {r : Round} (i : ℕ) → Written o (d i).store → RoundKept n f liar o d r → RoundKept n f liar o d (offering i (d i).store r)
  offering_kept {o} {d} {r} i written k =
      record {
        order = k.order;
        quorum = k.quorum;
        high = k.high;
        ahead = k.ahead;
        said = put_all (λ j xs. (x : Note) → Memᴰ x xs → Said o (r.tops j) (r.lapsed j) x) i ((d i).store ∷ r.offered i) r.offered (λ x m. ⊎_elim (λ e. rw e now) (k.said i x) (Memᴰ.cases_cons m)) k.said;
        told = put_all (λ j xs. r.replies.heard j ≡ true → (liar j ≡ true) ⊎ Memᴰ (r.replies.told j) xs) i ((d i).store ∷ r.offered i) r.offered (λ e. ⊎_elim inl (λ m. inr (Memᴰ.tail m)) (k.told i e)) k.told;
      }
    where
      now : Said o (r.tops i) (r.lapsed i) (d i).store
      now = record { written = written; late = λ lapsed. omega (arith, k.high i, k.ahead i lapsed) }

  hearing_kept : {o : Office} {d : ℕ → Warden} {r : Round} (i : ℕ) (x : Note) → (liar i ≡ true) ⊎ Memᴰ x (r.offered i) → RoundKept n f liar o d r → RoundKept n f liar o d (hearing i x r)
  hearing_kept {o} {d} {r} i x from k =
      record {
        order = k.order;
        quorum = k.quorum;
        high = k.high;
        ahead = k.ahead;
        said = k.said;
        told = put_both (λ j b y. b ≡ true → (liar j ≡ true) ⊎ Memᴰ y (r.offered j)) i true x r.replies.heard r.replies.told (λ _. from) k.told;
      }

  lapsing_kept : {o : Office} {d : ℕ → Warden} {r : Round} (i : ℕ) → RoundKept n f liar o d r → RoundKept n f liar o (put i (emptied (d i)) d) (lapsing i (ltb 0 (d i).high) r)
  lapsing_kept {o} {d} {r} i k =
      record {
        order = k.order;
        quorum = k.quorum;
        high = put_all (λ j c. r.tops j ≤ c.high) i (emptied (d i)) d (k.high i) k.high;
        ahead = put_both (λ j b c. b ≡ false → c.high ≤ c.store.edition) i (r.lapsed i || ltb 0 (d i).high) (emptied (d i)) r.lapsed d (λ e. grind arith) k.ahead;
        said = λ j x m. record { written = (k.said j x m).written; late = λ lapsed. (k.said j x m).late (before j lapsed) };
        told = k.told;
      }
    where
      before : (j : ℕ) → put i (r.lapsed i || ltb 0 (d i).high) r.lapsed j ≡ false → r.lapsed j ≡ false
      before = put_all (λ j b. b ≡ false → r.lapsed j ≡ false) i (r.lapsed i || ltb 0 (d i).high) r.lapsed (λ e. grind arith) (λ j e. e)

  -- the last edition whose writing ended is held by all but f: when the writing ends, by those who have said so
  closed_kept : {o : Office} {d : ℕ → Warden} → n ≤ count n o.acks + f → OfficeKept n f liar o d → OfficeKept n f liar (closed o) d
  closed_kept {o} {d} enough k =
      record { blank = k.blank; order = omega arith; taken = k.taken; quorum = omega (arith, within n o.acks (has liar d o.edition) (λ i _. k.taken i)) }

  acked_kept : {o : Office} {d : ℕ → Warden} (i : ℕ) → (liar i ≡ true) ⊎ (o.edition ≤ (d i).high) → OfficeKept n f liar o d → OfficeKept n f liar (acked i o) d
  acked_kept {o} {d} i has_it k =
      record { blank = k.blank; order = k.order; taken = put_all (λ j b. b ≡ true → has liar d o.edition j ≡ true) i true o.acks (λ _. grind arith) k.taken; quorum = k.quorum }

  begun_kept : {o : Office} {d : ℕ → Warden} (v : List ℕ) → OfficeKept n f liar o d → OfficeKept n f liar (begun v o) d
  begun_kept {o} {d} v k =
      record { blank = grind (arith, k.blank); order = omega (arith, k.order); taken = λ i e. cc; quorum = k.quorum }

  -- by each step
  kept_by : {w v : World} → Step n f liar w v → Grows w.office v.office w.warden v.warden → Kept n f liar w → Kept n f liar v
  kept_by {w} (begins v done) g k = by_office (begun v w.office) g (begun_kept v k.office) k
  kept_by {w} (stores i e begun late) g k =
      record {
        office = office_grows g k.office;
        warden = put_all (λ _ c. WardenKept w.office c) i new w.warden (record { written = (begun, refl); top = omega arith }) k.warden;
        round = λ r. round_grows g (put_all (λ j c. (w.round r).lapsed j ≡ false → c.high ≤ c.store.edition) i new w.warden (λ lapsed. omega (arith, (k.round r).ahead i lapsed)) (k.round r).ahead) (k.round r);
      }
    where
      new : Warden
      new = stored (note w.office e) (w.warden i)
  kept_by {w} (hears i l writing taken) g k = by_office (acked i w.office) g (acked_kept i taken k.office) k
  kept_by {w} (ends writing enough) g k = by_office (closed w.office) g (closed_kept enough k.office) k
  kept_by {w} (opens r shut) g k = by_round r (opened w.office w.warden) (opened_kept k.office) k
  kept_by {w} (tells r i honest live) g k = by_round r (offering i (w.warden i).store (w.round r)) (offering_kept i (k.warden i).written (k.round r)) k
  kept_by {w} (listens r i x l live first from) g k = by_round r (hearing i x (w.round r)) (hearing_kept i x from (k.round r)) k
  kept_by {w} (loses i) g k =
      record {
        office = office_grows g k.office;
        warden = put_all (λ _ c. WardenKept w.office c) i (emptied (w.warden i)) w.warden (record { written = (omega arith, sym k.office.blank); top = omega arith }) k.warden;
        round = λ r. lapsing_kept i (k.round r);
      }

  pub step_kept : {w v : World} → Step n f liar w v → Kept n f liar w → Kept n f liar v
  step_kept step k = kept_by step (step_grows step) k

  pub reach_kept : {w : World} → Reach n f liar w → Kept n f liar w
  reach_kept begin = begin_kept
  reach_kept (then before step) = step_kept step (reach_kept before)
