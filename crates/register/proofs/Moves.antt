-- A writing and a round go forward, and come to an end by the honest alone.
-- Assumes nothing.
use Rattle.std.proofs.Common.{◌≡◌, ℕ, zero, suc, ◌+◌, ◌<◌, ◌≤◌, Bool, true, false, not, ◌||◌, ◌⊎◌, ◌∷◌, refl, ap, ◌∙◌, inl, inr, ⊎_elim, arith}
use mathlib.Core.List.{Memᴰ}
use Rattle.std.proofs.lemmas.Bool.{cases_lt}
use Rattle.register.specs.Count.{count, put}
use Rattle.register.specs.Note.{Note}
use Rattle.register.specs.Rule.{answers}
use Rattle.register.specs.Model.{Writing, note, begun, acked, closed, stored, Round, offering, hearing, World, new_office, new_warden, new_round, Step, begins, stores, hears, ends, opens, tells, listens, loses}
use Rattle.register.specs.Progress.{missing, Moving, fair, Way, here, next, Finishes}
use Rattle.register.proofs.Counting.{within, cover, fewer, nobody, beyond}
use Rattle.register.proofs.Put.{put_same, put_stay}
use Rattle.register.proofs.Grows.{step_grows_round}
use Rattle.register.proofs.Keeps.{Kept, step_kept, reach_kept}

module _ (n : ℕ) (liar : ℕ → Bool) where
  -- who is neither known nor a liar is missing
  pub enough : (known : ℕ → Bool) → n ≤ count n known + (count n liar + missing n liar known)
  enough known = cover n known liar (λ i. not (liar i || known i)) (λ i _. grind arith)

  -- more are known, so no more are missing
  pub stay : (known known' : ℕ → Bool) → ((i : ℕ) → known i ≡ true → known' i ≡ true) → missing n liar known' ≤ missing n liar known
  stay known known' h = within n (λ i. not (liar i || known' i)) (λ i. not (liar i || known i)) (λ i _ e. let up = h i in grind arith)

  pub fall : (known : ℕ → Bool) (k : ℕ) → k < n → liar k ≡ false → known k ≡ false → missing n liar (put k true known) < missing n liar known
  fall known k l fair new = fewer n (λ i. not (liar i || put k true known i)) (λ i. not (liar i || known i)) (λ i _ e. let up = put_stay k known i in grind arith) k l (grind arith) (grind arith)

module _ {n f : ℕ} {liar : ℕ → Bool} where
  acks_stay : {w v : World} → Step n f liar w v → v.office.edition ≡ w.office.edition → missing n liar v.office.acks ≤ missing n liar w.office.acks
  acks_stay (begins v done) same = absurd (omega arith)
  acks_stay (stores i e begun late) same = omega arith
  acks_stay {w} (hears i l writing taken) same = stay n liar w.office.acks (put i true w.office.acks) (put_stay i w.office.acks)
  acks_stay (ends writing enough) same = omega arith
  acks_stay (opens r shut) same = omega arith
  acks_stay (tells r i honest live) same = omega arith
  acks_stay (listens r i x l live first from) same = omega arith
  acks_stay (loses i) same = omega arith

  heard_stay : {w v : World} → Step n f liar w v → (r : ℕ) → (w.round r).live ≡ true → missing n liar (v.round r).replies.heard ≤ missing n liar (w.round r).replies.heard
  heard_stay {w} {v} step r live = stay n liar (w.round r).replies.heard (v.round r).replies.heard (step_grows_round step r live).heard

pub moving : Moving
moving n f liar w reach =
    record {
      takes = λ i writing. ⊎_elim (λ l. inr (omega (arith, (kept.warden i).top))) inl (cases_lt (w.warden i).high w.office.edition);
      ends = λ few none. omega (arith, enough n liar w.office.acks);
      answered = λ few r none. omega (arith, enough n liar (w.round r).replies.heard);
      acks_stay = λ v step. acks_stay step;
      heard_stay = λ v step. heard_stay step;
      acks_fall = λ i. fall n liar w.office.acks i;
      heard_fall = λ r i x. fall n liar (w.round r).replies.heard i;
    }
  where
    kept : Kept n f liar w
    kept = reach_kept reach

-- somebody who is honest is missing
pub who : (n : ℕ) (liar known : ℕ → Bool) → 0 < missing n liar known → (i : ℕ) × (i < n) × (liar i ≡ false) × (known i ≡ false)
who n liar known some =
    let (i, l, out, _) = beyond n (λ i. not (liar i || known i)) (λ i. false) (omega (arith, nobody n)) in
    (i, l, grind arith, grind arith)

-- in two steps an honest warden says what it has in the round r, and is heard
pub record Telling (n f : ℕ) (liar : ℕ → Bool) (w : World) (r i : ℕ) : Type 0 where
  pub said : World
  pub heard : World
  pub first : Step n f liar w said
  pub second : Step n f liar said heard
  pub fair_first : fair first ≡ true
  pub fair_second : fair second ≡ true
  pub office : heard.office ≡ w.office
  pub warden : heard.warden ≡ w.warden
  pub round : heard.round r ≡ hearing i (w.warden i).store (offering i (w.warden i).store (w.round r))

pub telling : (n f : ℕ) (liar : ℕ → Bool) (w : World) (r i : ℕ) → i < n → liar i ≡ false → (w.round r).live ≡ true → (w.round r).replies.heard i ≡ false → Telling n f liar w r i
telling n f liar w r i l honest live new =
    record { said = t; heard = u; first = first; second = second; fair_first = refl; fair_second = rw honest; office = refl; warden = refl; round = put_same r (hearing i x (t.round r)) t.round ∙ ap (hearing i x) said_is }
  where
    x : Note
    x = (w.warden i).store

    said : Round
    said = offering i x (w.round r)

    t : World
    t = new_round r said w

    u : World
    u = new_round r (hearing i x (t.round r)) t

    said_is : t.round r ≡ said
    said_is = put_same r said w.round

    offered : Memᴰ x (said.offered i)
    offered = rw (put_same i (x ∷ (w.round r).offered i) (w.round r).offered) (Memᴰ.head refl)

    first : Step n f liar w t
    first = tells r i honest live

    second : Step n f liar t u
    second = listens r i x l (rw said_is live) (rw said_is new) (inr (rw said_is offered))

-- a world with less to do, from which the goal comes back
abbrev pub Nearer : {A : Type 0} (Inv Goal : A → Type 0) (μ : A → ℕ) → A → Type 0
Nearer {A} Inv Goal μ w = (u : A) × Inv u × (μ u < μ w) × (Goal u → Goal w)

pub descend : {A : Type 0} (Inv Goal : A → Type 0) (μ : A → ℕ) → ((w : A) → Inv w → Goal w ⊎ Nearer Inv Goal μ w) → (m : ℕ) (w : A) → Inv w → μ w < m → Goal w
descend Inv Goal μ further zero w inv l = absurd (omega arith)
descend Inv Goal μ further (suc m) w inv l = ⊎_elim (λ goal. goal) (λ (u, inv_u, less, back). back (descend Inv Goal μ further m u inv_u (omega arith))) (further w inv)

module _ (n f : ℕ) (liar : ℕ → Bool) where
  abbrev unwritten : World → ℕ
  unwritten w = missing n liar w.office.acks

  abbrev InWriting : World → Type 0
  InWriting w = Kept n f liar w × Writing w.office

  -- from w the writing comes to an end by the honest alone
  abbrev Ended : World → Type 0
  Ended w = (v : World) × Way n f liar w v × (v.office.edition ≡ w.office.edition) × (v.office.ended ≡ w.office.edition)

  -- who is missing says that it has taken the edition
  by_hearing : (w : World) (i : ℕ) → i < n → liar i ≡ false → w.office.acks i ≡ false → w.office.edition ≤ (w.warden i).high → InWriting w → Nearer InWriting Ended unwritten w
  by_hearing w i l honest new taken (kept, writing) =
      let step : Step n f liar w (new_office (acked i w.office) w) = hears i l writing (inr taken) in
      (new_office (acked i w.office) w, (step_kept step kept, writing), fall n liar w.office.acks i l honest new, λ (v, way, same, done). (v, next step (rw honest) way, same, done))

  -- and takes it before, where it never had it
  by_storing : (w : World) (i : ℕ) → i < n → liar i ≡ false → w.office.acks i ≡ false → (w.warden i).high < w.office.edition → InWriting w → Nearer InWriting Ended unwritten w
  by_storing w i l honest new low (kept, writing) =
      let d = stored (note w.office w.office.edition) (w.warden i) in
      let step : Step n f liar w (new_warden i d w) = stores i w.office.edition (omega arith) (omega (arith, (kept.warden i).top)) in
      let (u, in_writing, less, back) = by_hearing (new_warden i d w) i l honest new (rw (put_same i d w.warden) (omega arith)) (step_kept step kept, writing) in
      (u, in_writing, less, λ ended. let (v, way, same, done) = back ended in (v, next step (rw honest) way, same, done))

  writing_further : count n liar ≤ f → (w : World) → InWriting w → Ended w ⊎ Nearer InWriting Ended unwritten w
  writing_further few w (kept, writing) = ⊎_elim (λ more. inr (by (who n liar w.office.acks more))) (λ none. inl (done none)) (cases_lt 0 (unwritten w))
    where
      done : unwritten w ≤ 0 → Ended w
      done none = (new_office (closed w.office) w, next (ends writing (omega (arith, enough n liar w.office.acks))) refl here, refl, refl)

      by : (i : ℕ) × (i < n) × (liar i ≡ false) × (w.office.acks i ≡ false) → Nearer InWriting Ended unwritten w
      by (i, l, honest, new) = ⊎_elim (λ low. by_storing w i l honest new low (kept, writing)) (λ taken. by_hearing w i l honest new taken (kept, writing)) (cases_lt (w.warden i).high w.office.edition)

  module _ (r : ℕ) where
    abbrev unheard : World → ℕ
    unheard w = missing n liar (w.round r).replies.heard

    abbrev Live : World → Type 0
    Live w = (w.round r).live ≡ true

    -- from w the round comes to hear enough by the honest alone
    abbrev Answered : World → Type 0
    Answered w = (v : World) × Way n f liar w v × ((v.round r).since ≡ (w.round r).since) × ((v.round r).lapsed ≡ (w.round r).lapsed) × (n ≤ answers n (v.round r).replies + f)

    -- who is missing says what it has, and is heard
    by_telling : (w : World) (i : ℕ) → i < n → liar i ≡ false → (w.round r).replies.heard i ≡ false → Live w → Nearer Live Answered unheard w
    by_telling w i l honest new live =
        let t = telling n f liar w r i l honest live new in (
          t.heard,
          rw t.round live,
          rw t.round (fall n liar (w.round r).replies.heard i l honest new),
          λ (v, way, since, lapsed, enough). (v, next t.first t.fair_first (next t.second t.fair_second way), since ∙ ap (λ (c : Round). c.since) t.round, lapsed ∙ ap (λ (c : Round). c.lapsed) t.round, enough),
        )

    round_further : count n liar ≤ f → (w : World) → Live w → Answered w ⊎ Nearer Live Answered unheard w
    round_further few w live = ⊎_elim (λ more. inr (by (who n liar (w.round r).replies.heard more))) (λ none. inl (w, here, refl, refl, omega (arith, enough n liar (w.round r).replies.heard))) (cases_lt 0 (unheard w))
      where
        by : (i : ℕ) × (i < n) × (liar i ≡ false) × ((w.round r).replies.heard i ≡ false) → Nearer Live Answered unheard w
        by (i, l, honest, new) = by_telling w i l honest new live

pub finishes : Finishes
finishes n f liar few w reach = (
  λ writing. descend (InWriting n f liar) (Ended n f liar) (unwritten n f liar) (writing_further n f liar few) (suc (unwritten n f liar w)) w (reach_kept reach, writing) (omega arith),
  λ r live. descend (Live n f liar r) (Answered n f liar r) (unheard n f liar r) (round_further n f liar r few) (suc (unheard n f liar r w)) w live (omega arith),
)
