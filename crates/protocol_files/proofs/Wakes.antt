-- Whoever is honest comes up.
-- Assumes nothing.
use Rattle.std.proofs.Common.{◌≡◌, ℕ, zero, suc, ◌*◌, ◌<◌, ◌≤◌, Bool, true, false, ◌++◌, sym, refl, ap, ◌∙◌, subst, ⊎_elim, arith}
use mathlib.Core.List.Memᴰ
use Rattle.std.proofs.lemmas.Bool.{both_ways, cases_Bool, cases_eq}
use Rattle.register.specs.Count.{put}
use Rattle.register.proofs.Put.{put_at}
use Rattle.protocol_files.specs.Records.{warden_of}
use Rattle.protocol_files.specs.Nodes.{Node, Warden, flushed, opened_warden}
use Rattle.protocol_files.specs.System.{System, warden_flushed, warden_opened, office_opened, office_opens, warden_flushes, warden_opens, Run}
use Rattle.protocol_files.specs.Progress.{Way, here, Onward, Awake, Up, ComesUp}
use Rattle.protocol_files.proofs.Journals.{finds_some}
use Rattle.protocol_files.proofs.WardenFiles.{file_in_use}
use Rattle.protocol_files.proofs.OfficeFiles.{now_file}
use Rattle.protocol_files.proofs.Refines.{followed}
use Rattle.protocol_files.proofs.Sound.{up_warden}
use Rattle.protocol_files.proofs.WardenGoes.{took_front}
use Rattle.protocol_files.proofs.OfficeGoes.{began_front}
use Rattle.protocol_files.proofs.Ways.{one, along, way_run, stays, further}

module _ (n f : ℕ) (liar : ℕ → Bool) (least : 4 * f < n) where
  -- ONE WARDEN: it opens its file, or syncs what it wrote; and nobody else has changed
  record Wakes (i : ℕ) (s t : System) : Type 0 where
    way : Way n f liar s t
    onward : Onward s t
    office : t.office ≡ s.office
    node : Node Warden
    awake : Awake node
    warden : t.warden ≡ put i node s.warden

  wakes : (i : ℕ) → i < n → liar i ≡ false → (s : System) → Run n f liar s → (t : System) × Wakes i s t
  wakes i below own s run = ⊎_elim up down (cases_Bool (s.warden i).up)
    where
      up : (s.warden i).up ≡ true → (t : System) × Wakes i s t
      up on =
          let w = up_warden n f liar s least run i below own on in
          let (more, is) = took_front i w.new s.log in (
            warden_flushed i w.new s,
            record {
              way = one n f liar (warden_flushes i w.new below own on w.pending w.more, refl);
              onward = record { reader = refl; bag = λ p at. Memᴰ.append_right (s.warden i).memory.outbox at; more = more; log = is };
              office = refl;
              node = flushed (s.warden i);
              awake = record { up = on; synced = refl };
              warden = refl;
            },
          )

      down : (s.warden i).up ≡ false → (t : System) × Wakes i s t
      down off =
          let (o, w, b, h) = followed n f liar least run in
          let file = file_in_use n i s.bag (w i) (s.warden i) (h.warden i below own) in
          let ss = file.old in
          let (ps, rest, found) = finds_some file.has in
          let (more, is) = took_front i ps s.log in (
            warden_opened i ss ps s,
            record {
              way = one n f liar (warden_opens i ss ps rest below own off found, refl);
              onward = record { reader = refl; bag = λ p at. at; more = more; log = is };
              office = refl;
              node = opened_warden (ss ++ ps) (warden_of (ss ++ ps));
              awake = record { up = refl; synced = refl };
              warden = refl;
            },
          )

  -- ALL WARDENS
  pub record AllWake (s t : System) : Type 0 where
    pub way : Way n f liar s t
    pub onward : Onward s t
    pub office : t.office ≡ s.office
    pub awake : (i : ℕ) → i < n → liar i ≡ false → Awake (t.warden i)

  -- the first m of them
  record FirstWake (m : ℕ) (s t : System) : Type 0 where
    way : Way n f liar s t
    onward : Onward s t
    office : t.office ≡ s.office
    awake : (i : ℕ) → i < m → liar i ≡ false → Awake (t.warden i)

  first_wake : (m : ℕ) → m ≤ n → (s : System) → Run n f liar s → (t : System) × FirstWake m s t
  first_wake zero few s run = (s, record { way = here; onward = stays s; office = refl; awake = λ i below. absurd (omega arith) })
  first_wake (suc m) few s run = let (t, h) = first_wake m (omega arith) s run in ⊎_elim (lies t h) (own t h) (cases_Bool (liar m))
    where
      lies : (t : System) → FirstWake m s t → liar m ≡ true → (t : System) × FirstWake (suc m) s t
      lies t h so =
          (t, record { way = h.way; onward = h.onward; office = h.office; awake = λ i below own. ⊎_elim (λ (is : i ≡ m). absurd (both_ways (liar m) (subst (λ (j : ℕ). liar j ≡ false) is own) so)) (λ apart. h.awake i (omega arith) own) (cases_eq i m) })

      own : (t : System) → FirstWake m s t → liar m ≡ false → (t : System) × FirstWake (suc m) s t
      own t h so =
          let (u, w) = wakes m (omega arith) so t (way_run n f liar run h.way) in (
            u,
            record {
              way = along n f liar h.way w.way;
              onward = further h.onward w.onward;
              office = w.office ∙ h.office;
              awake = λ i below own. subst (λ (c : ℕ → Node Warden). Awake (c i)) (sym w.warden) (put_at Awake i m w.node t.warden (λ _. w.awake) (λ apart. h.awake i (omega arith) own));
            },
          )

  pub all_wake : (s : System) → Run n f liar s → (t : System) × AllWake s t
  all_wake s run = let (t, h) = first_wake n (omega arith) s run in (t, record { way = h.way; onward = h.onward; office = h.office; awake = h.awake })

-- and the office
pub comes_up : ComesUp
comes_up n f liar least s run = ⊎_elim up down (cases_Bool s.office.up)
  where
    up : s.office.up ≡ true → (t : System) × Up n f liar s t
    up on =
        let (t, h) = all_wake n f liar least s run in
        (t, record { way = h.way; onward = h.onward; all = record { office = ap (λ c. c.up) h.office ∙ on; warden = h.awake }; office = λ _. h.office })

    down : s.office.up ≡ false → (t : System) × Up n f liar s t
    down off =
        let (o, w, b, shown) = followed n f liar least run in
        let file = now_file n b s.log o s.office shown.office in
        let ss = file.old in
        let (ps, rest, found) = finds_some file.has in
        let (more, is) = began_front ps s.log in
        let way = one n f liar (office_opens ss ps rest off found, refl) in
        let (t, h) = all_wake n f liar least (office_opened ss ps s) (way_run n f liar run way) in (
          t,
          record {
            way = along n f liar way h.way;
            onward = further (record { reader = refl; bag = λ p at. at; more = more; log = is }) h.onward;
            all = record { office = ap (λ c. c.up) h.office; warden = h.awake };
            office = λ on. cc;
          },
        )
