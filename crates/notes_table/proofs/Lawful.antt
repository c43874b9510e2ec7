-- What follows for whoever has tables.
-- Assumes nothing.
use Rattle.std.proofs.Common.{◌≡◌, ℕ, ◌<◌, ◌≤◌, Bool, true, false, get_or, is_some, Some, Ok, Err, Option, Result, refl, ap, ◌∙◌, ⊎_elim, arith}
use Rattle.std.proofs.lemmas.Bool.{both_ways, ne_eqb, cases_lt}
use Rattle.register.specs.Count.{put}
use Rattle.register.proofs.Put.{put_same}
use Rattle.notes.specs.declared.ids.NoteId.{NoteId}
use Rattle.notes_table.specs.Laws.{Laws}
use Rattle.notes_table.specs.Views.{map_of, many, had, Sets, Puts}
use Rattle.notes_table.specs.declared.table.Table.{Table}
use Rattle.notes_table.specs.declared.unplaced.Unplaced.{Unplaced}
use Rattle.notes_table.specs.declared.unplaced.Unplaced.TheVariants.{Full, Memory}
use Rattle.notes_table.proofs.Counted.{counted, placed}

module _ {T : Type 0} where
  at : (j : ℕ) (f g : ℕ → Option T) → f ≡ g → f j ≡ g j
  at j f g e = ap (λ (h : ℕ → Option T). h j) e

  module _ (k j : ℕ) (w : T) (t u : Table T) where
    changed : map_of u ≡ put k (Some w) (map_of t) → (j ≡ k → ⊥) → map_of u j ≡ map_of t j
    changed map other = at j (map_of u) (put k (Some w) (map_of t)) map ∙ rw (ne_eqb j k other) refl

    others : (r : Result (Unit {0}) Unplaced) → Puts k w t u r → (j ≡ k → ⊥) → map_of u j ≡ map_of t j
    others (Ok x) (map, more, room) other = changed map other
    others (Err Full) (same, new, full) other = at j (map_of u) (map_of t) same.0
    others (Err Memory) (same, new, few) other = at j (map_of u) (map_of t) same.0

    others_set : (r : Bool) → Sets k w t u r → (j ≡ k → ⊥) → map_of u j ≡ map_of t j
    others_set true (over, some) other = changed over.0 other
    others_set false (same, new) other = at j (map_of u) (map_of t) same.0

  module _ (k : ℕ) (w : T) (t u : Table T) where
    over : (r : Result (Unit {0}) Unplaced) → Puts k w t u r → had t k ≡ true → r ≡ Ok tt
    over (Ok x) h some = refl
    over (Err Full) (same, new, full) some = absurd (both_ways (had t k) new some)
    over (Err Memory) (same, new, few) some = absurd (both_ways (had t k) new some)

    full : (r : Result (Unit {0}) Unplaced) → Puts k w t u r → had t k ≡ false → many t ≡ 4096 → r ≡ Err Full
    full (Ok x) (map, more, room) new all = absurd (omega (arith, room new))
    full (Err Full) h new all = refl
    full (Err Memory) (same, _, few) new all = absurd (omega arith)

  -- a number that is had is below n, if none from n on is
  low : (t : Table T) (n : ℕ) → ((k : ℕ) → n ≤ k → had t k ≡ false) → (i : ℕ) (d : NoteId × T) → i < many t → (get_or t.notes.entries i d).0.0 < n
  low t n none i d within =
      let k : ℕ = (get_or t.notes.entries i d).0.0 in
      ⊎_elim (λ l. l) (λ l. absurd (both_ways (had t k) (none k l) (ap is_some (placed t.notes.entries i d t.rising within)))) (cases_lt k n)

  pub laws : Laws T
  laws = record {
    own = λ k w t u h. at k (map_of u) (put k (Some w) (map_of t)) h.0 ∙ put_same k (Some w) (map_of t);
    others = others;
    others_set = others_set;
    over = over;
    full = full;
    placed = λ t i d within. placed t.notes.entries i d t.rising within;
    counted = λ t n none. counted t.notes.entries n t.rising (low t n none);
    few = λ t. t.few;
  }
