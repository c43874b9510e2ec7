-- The rule as it is computed.
-- Assumes nothing.
use Rattle.std.proofs.Common.{◌≡◌, ℕ, zero, suc, ◌<◌, ◌≤◌, Bool, true, false, cond, ◌&&◌, ltb, leb, ◌⊎◌, refl, inl, inr, ⊎_elim, arith}
use Rattle.std.proofs.lemmas.Bool.{cases_eq, and_parts, ltb-true, leb-true}
use Rattle.register.specs.Note.{Note}
use Rattle.register.specs.Rule.{Replies, IsRead, votes, later, readable, Reading, Found, Nothing, or_else, pick}
use Rattle.register.specs.Promise.{Picked}
use Rattle.register.proofs.Notes.{teller}

pub readable_read : (n f : ℕ) (p : Replies) (x : Note) → readable n f p x ≡ true → IsRead n f p x
readable_read n f p x e =
    let (a, b) = and_parts (ltb f (votes n p x)) (leb (later n p x.edition) f) e in
    record { enough = ltb-true f (votes n p x) a; last = leb-true (later n p x.edition) f b }

pub read_readable : (n f : ℕ) (p : Replies) (x : Note) → IsRead n f p x → readable n f p x ≡ true
read_readable n f p x r = let a = r.enough in let b = r.last in grind arith

-- a loop's start and its steps
pub pick_none : (n f : ℕ) (p : Replies) → pick n f p 0 ≡ Nothing
unfolding pick
pick_none n f p = refl

module _ (n f : ℕ) (p : Replies) where
  pub pick_past : (m : ℕ) → pick n f p m ≡ Nothing → (p.heard m && readable n f p (p.told m)) ≡ false → pick n f p (suc m) ≡ Nothing
  unfolding pick
  pick_past m none so = rw (none, so)

  pub pick_here : (m : ℕ) → pick n f p m ≡ Nothing → (p.heard m && readable n f p (p.told m)) ≡ true → pick n f p (suc m) ≡ Found (p.told m)
  unfolding pick
  pick_here m none so = rw (none, so)

  -- what was found among the first stays
  pub pick_stays : (x : Note) (m k : ℕ) → m ≤ k → pick n f p m ≡ Found x → pick n f p k ≡ Found x
  unfolding pick
  pick_stays x m zero below found = let same : m ≡ 0 = omega arith in rw same at found
  pick_stays x m (suc k) below found =
      ⊎_elim
      (λ (same : m ≡ suc k). rw same at found)
      (λ (apart : m ≡ suc k → ⊥). let down = pick_stays x m k (omega arith) found in rw down)
      (cases_eq m (suc k))

  -- what the warden m adds to what was found before it
  before_or_here : (m : ℕ) (x : Note) (r : Reading) (t : Bool) → or_else r (cond t (Found (p.told m)) Nothing) ≡ Found x → (r ≡ Found x) ⊎ ((t ≡ true) × (p.told m ≡ x))
  before_or_here m x (Found y) t e = inl e
  before_or_here m x Nothing true e = inr (refl, cc)
  before_or_here m x Nothing false e = cc

  pub pick_found : (m : ℕ) (x : Note) → pick n f p m ≡ Found x → IsRead n f p x
  unfolding pick
  pick_found zero x e = cc
  pick_found (suc m) x e =
      ⊎_elim
      (pick_found m x)
      (λ (so, is). rw is at (readable_read n f p (p.told m) (and_parts (p.heard m) (readable n f p (p.told m)) so).1))
      (before_or_here m x (pick n f p m) (p.heard m && readable n f p (p.told m)) e)

  neither : (m : ℕ) (r : Reading) (t : Bool) → or_else r (cond t (Found (p.told m)) Nothing) ≡ Nothing → (r ≡ Nothing) × (t ≡ false)
  neither m (Found y) t e = cc
  neither m Nothing true e = cc
  neither m Nothing false e = (refl, refl)

  none_below : (m : ℕ) → pick n f p m ≡ Nothing → (i : ℕ) → i < m → p.heard i ≡ true → readable n f p (p.told i) ≡ false
  unfolding pick
  none_below zero e i l heard = absurd (omega arith)
  none_below (suc m) e i l heard =
      let (none, so) = neither m (pick n f p m) (p.heard m && readable n f p (p.told m)) e in
      ⊎_elim
      (λ (same : i ≡ m). let h : p.heard m ≡ true = rw same at heard in rw same (grind arith))
      (λ (apart : i ≡ m → ⊥). none_below m none i (omega arith) heard)
      (cases_eq i m)

  pub pick_nothing : pick n f p n ≡ Nothing → (x : Note) → IsRead n f p x → ⊥
  pick_nothing e x read =
      let (i, l, heard, is) = teller read in
      let no_vote = none_below n e i l heard in
      let so : readable n f p (p.told i) ≡ true = rw is (read_readable n f p x read) in
      grind arith

pub picked : Picked
picked n f p = record { found = pick_found n f p n; nothing = pick_nothing n f p }
