-- What is found in a table, before and after something is put there.
-- Assumes nothing.
use Rattle.std.proofs.Common.{◌≡◌, ℕ, ◌+◌, ◌<◌, ◌≤◌, Bool, false, cond, eqb, List, is_some, Some, None, Ok, Err, IfOk, OnErr, IsErrAnd, Option, Result, length, refl, sym, ap, ◌∙◌, arith, rules}
use mathlib.Core.Path.{fun_ext}
use Rattle.std.specs.BTreeMap.{BTreeMap, IsOrdered, get, is_at, btree_map_len}
use Rattle.std.specs.Map.{lookup}
use Rattle.std.specs.Ordering.{is_eq}
use Rattle.notes.specs.declared.ids.NoteId.{NoteId}
use Rattle.notes.specs.contracts.ids.NoteIdOrd.TheImpl.{cmp-value}
use Rattle.std.proofs.Math.Path.{path_j}
use Rattle.std.proofs.Math.Bridge.{le_prop}
use Rattle.std.proofs.lemmas.Map.Keys.{IsStrictlySortedBy-prop}
use Rattle.register.specs.Count.{put}
use Rattle.notes_table.specs.Views.{many, had, Puts}
use Rattle.notes_table.specs.declared.unplaced.Unplaced.{Unplaced}
use Rattle.notes_table.specs.declared.unplaced.Unplaced.TheVariants.{Memory}
use Rattle.notes_table.specs.declared.table.Table.{Table}

-- a number is looked up as numbers are told apart
is_number : (a b : NoteId) → is_eq (cmp-value.it a b) ≡ eqb a.0 b.0
is_number a b = Prim.search rules

is_changed : (a b : NoteId) → is_eq (cmp-value.it a b) ≡ eqb b.0 a.0
is_changed a b = Prim.search rules

module _ {T : Type 0} where
  pub looked : (k : NoteId) (es : List (NoteId × T)) → lookup (is_at (cmp-value.it k)) es ≡ lookup (λ n. eqb k.0 n.0) es
  looked k es = ap (λ (test : NoteId → Bool). lookup test es) (fun_ext (is_number k))

  -- what is found of each number
  abbrev found : BTreeMap NoteId T → ℕ → Option T
  found m k = lookup (λ n. eqb k n.0) m.entries

  -- and once something was written under one
  pub updated : (k : NoteId) (w : T) (m n : BTreeMap NoteId T) → ((q : NoteId) → get cmp-value.it n q ≡ cond (is_at (cmp-value.it k) q) (Some w) (get cmp-value.it m q)) → found n ≡ put k.0 (Some w) (found m)
  updated k w m n h =
      fun_ext (λ j.
      let q : NoteId = record { 0 = j } in
      sym (looked q n.entries) ∙ h q ∙ rw (is_changed k q, looked q m.entries) refl)

  -- two tables of the same entries
  abbrev made : (m : BTreeMap NoteId T) → IsOrdered cmp-value.it m → btree_map_len m ≤ 4096 → Table T
  made m rising few = record { notes = m; rising = rising; few = few }

  pair_same : (t : Table T) (rising : IsOrdered cmp-value.it t.notes) (few : btree_map_len t.notes ≤ 4096) → ◌≡◌ {A = IsOrdered cmp-value.it t.notes × (btree_map_len t.notes ≤ 4096)} (t.rising, t.few) (rising, few)
  pair_same t rising few = ap (λ p. (p, t.few)) (IsStrictlySortedBy-prop _ _ t.rising rising) ∙ ap (λ q. (rising, q)) (le_prop t.few few)

  pub same_table : (t u : Table T) → t.notes ≡ u.notes → t ≡ u
  same_table t u e =
      path_j (λ m _. (rising : IsOrdered cmp-value.it m) (few : btree_map_len m ≤ 4096) → t ≡ made m rising few) (λ rising few. ap (λ (p : IsOrdered cmp-value.it t.notes × (btree_map_len t.notes ≤ 4096)). made t.notes p.0 p.1) (pair_same t rising few)) e u.rising u.few

  -- whether something is had under a number, as the map says it
  had_by : (k : NoteId) (t : Table T) (o : Option T) → o ≡ get cmp-value.it t.notes k → is_some o ≡ had t k.0
  had_by k t o is = ap is_some (is ∙ looked k t.notes.entries)

  -- what comes of putting something under the number k, where there is a place for it
  module _ (k : NoteId) (t : Table T) (room : had t k.0 ≡ false → many t < 4096) where
    pub few_after : {E : Type 0} (n : BTreeMap NoteId T) (r : Result (Option T) E) → IfOk r (λ o. o ≡ get cmp-value.it t.notes k) → IfOk r (λ o. btree_map_len n ≡ many t + cond (is_some o) 0 1) → OnErr r (n.entries ≡ t.notes.entries) → btree_map_len n ≤ 4096
    few_after n (Ok o) is len same = let e = had_by k t o is in let few = t.few in grind arith
    few_after n (Err e) is len same = rw same t.few

    -- it is there, in place of what was had
    pub put_in : (w : T) (n : BTreeMap NoteId T) → ((q : NoteId) → get cmp-value.it n q ≡ cond (is_at (cmp-value.it k) q) (Some w) (get cmp-value.it t.notes q)) → (o : Option T) → o ≡ get cmp-value.it t.notes k → btree_map_len n ≡ many t + cond (is_some o) 0 1 →
        (found n ≡ put k.0 (Some w) (found t.notes)) × (btree_map_len n ≡ cond (had t k.0) (many t) (many t + 1)) × (had t k.0 ≡ false → many t < 4096)
    put_in w n h o is len = let e = had_by k t o is in (updated k w t.notes n h, grind arith, room)

    -- there is no memory
    pub unplaced : (w : T) (n : BTreeMap NoteId T) (rising : IsOrdered cmp-value.it n) (r : Result (Unit {0}) Unplaced) → IsErrAnd r (λ e. e ≡ Memory) → (same : n.entries ≡ t.notes.entries) → get cmp-value.it t.notes k ≡ None → Puts k.0 w t (made n rising (rw same t.few)) r
    unplaced w n rising (Ok x) is same absent = absurd is
    unplaced w n rising (Err e) is same absent =
        let new : false ≡ had t k.0 = had_by k t None (sym absent) in
        rw is ((ap (λ es. λ j. lookup (λ n. eqb j n.0) es) same, ap length same), sym new, room (sym new))
