-- A run that ends in a reading, computed; and logs that are not good.
-- Assumes nothing.
use Rattle.std.proofs.Common.{◌≡◌, ℕ, zero, suc, ◌≤◌, cond, eqb, ltb, List, [], ◌∷◌, refl, ⊎_elim, arith}
use mathlib.Core.List.Memᴰ
use mathlib.Core.List.{Memᴰ}
use borrow.Author.Tests.{clash}
use Rattle.std.proofs.lemmas.Bool.{cond_both, eqb-true, ltb-true}
use Rattle.register.specs.Count.{count}
use Rattle.register.specs.Rule.{pick}
use Rattle.protocol.specs.Message.{office, Packet, to_each}
use Rattle.protocol.specs.Warden.{warden_on}
use Rattle.protocol.specs.Office.{office_on}
use Rattle.protocol.specs.Reader.{reader_on}
use Rattle.protocol.specs.Log.{Began, Asked, Retried, Read, Unsure}
use Rattle.protocol.specs.Promise.{Busy}
use Rattle.protocol.specs.System.{System, by_office, by_warden, by_reader, Run, begin, then}
use Rattle.protocol.specs.System as S
use Rattle.protocol.specs.Samples.{honest_all, Choice, Write, Deliver, Start, deliver, deliver_at, play, choices, wrote, Sample, BadLogs}

module _ (n f : ℕ) where
  abbrev Runs : System → Type 0
  Runs = Run n f honest_all

  deliver_runs : (p : Packet) (s : System) → Memᴰ p s.bag → Runs s → Runs (deliver n f p s)
  deliver_runs p s m run =
      cond_both (eqb p.to office) to_office (cond (ltb p.to n) to_warden to_reader) Runs
      (λ to. then run (S.office_hears p m (eqb-true p.to office to)))
      (λ _. cond_both (ltb p.to n) to_warden to_reader Runs (λ l. then run (S.warden_hears p.to p (ltb-true p.to n l) refl m refl)) (λ _. then run (S.reader_hears p.to p refl m refl)))
    where
      to_office : System
      to_office = by_office n p.note (office_on n f (s.office p.note) p.from p.message) s

      to_warden : System
      to_warden = by_warden n p.to p.note (warden_on (s.warden p.to p.note) p.from p.message) s

      to_reader : System
      to_reader = by_reader n p.to (reader_on n f (s.reader p.to) p.from p.note p.message) s

  deliver_at_runs : (place : ℕ) (ps : List Packet) (s : System) → ((p : Packet) → Memᴰ p ps → Memᴰ p s.bag) → Runs s → Runs (deliver_at n f place ps s)
  deliver_at_runs zero [] s all run = run
  deliver_at_runs (suc place) [] s all run = run
  deliver_at_runs zero (p ∷ ps) s all run = deliver_runs p s (all p (Memᴰ.head refl)) run
  deliver_at_runs (suc place) (p ∷ ps) s all run = deliver_at_runs place ps s (λ q m. all q (Memᴰ.tail m)) run

  play_runs : (cs : List Choice) (s : System) → Runs s → Runs (play n f cs s)
  play_runs [] s run = run
  play_runs (Write k v ∷ cs) s run = play_runs cs (play n f (Write k v ∷ []) s) (then run (S.writes k v))
  play_runs (Deliver place ∷ cs) s run = play_runs cs (deliver_at n f place s.bag s) (deliver_at_runs place s.bag s (λ p m. m) run)
  play_runs (Start j k ∷ cs) s run = play_runs cs (play n f (Start j k ∷ []) s) (then run (S.reads j k refl))

pub sample : Sample
unfolding count pick to_each
sample = record { run = play_runs 5 1 choices S.boot begin; log = refl; few = omega arith }

-- what was begun in the sample
only_begun : (e : ℕ) (v : List ℕ) → Memᴰ (Began 7 e v) wrote → (e ≡ 1) × (v ≡ 111 ∷ [])
only_begun e v (Memᴰ.head is) = cc
only_begun e v (Memᴰ.tail (Memᴰ.head is)) = cc
only_begun e v (Memᴰ.tail (Memᴰ.tail (Memᴰ.head is))) = cc
only_begun e v (Memᴰ.tail (Memᴰ.tail (Memᴰ.tail (Memᴰ.head is)))) = cc
only_begun e v (Memᴰ.tail (Memᴰ.tail (Memᴰ.tail (Memᴰ.tail (Memᴰ.head is))))) = cc
only_begun e v (Memᴰ.tail (Memᴰ.tail (Memᴰ.tail (Memᴰ.tail (Memᴰ.tail (Memᴰ.head is)))))) = (cc, cc)
only_begun e v (Memᴰ.tail (Memᴰ.tail (Memᴰ.tail (Memᴰ.tail (Memᴰ.tail (Memᴰ.tail m)))))) = absurd (Memᴰ.not-nil m)

-- and nothing else, so nothing is under way
not_busy : Busy 65 7 (Asked 65 7 ∷ wrote) → ⊥
not_busy (e, v, Memᴰ.head is, unended) = cc
not_busy (e, v, Memᴰ.tail m, unended) = unended (rw (only_begun e v m).0 (Memᴰ.head refl))

-- nor anything of another value
made_up : Memᴰ (Began 7 1 (112 ∷ [])) (Asked 65 7 ∷ wrote) → ⊥
made_up (Memᴰ.head is) = cc
made_up (Memᴰ.tail m) = let is = (only_begun 1 (112 ∷ []) m).1 in let z : ◌≡◌ {A = ℕ} 112 111 = cc in omega arith

pub bad_logs : BadLogs
unfolding count
bad_logs =
    record {
      stale = λ good. let late : 1 ≤ 0 = (good [] (Asked 65 7 ∷ wrote) (Read 65 7 0 []) refl).fresh (omega arith) 1 (Memᴰ.head refl) in omega arith;
      made_up = λ good. ⊎_elim made_up (λ (e, v). omega arith) ((good [] (Asked 65 7 ∷ wrote) (Read 65 7 1 (112 ∷ [])) refl).written (omega arith));
      idle_retry = λ good. not_busy ((good [] (Asked 65 7 ∷ wrote) (Retried 65 7) refl).busy (omega arith));
      idle_unsure = λ good. not_busy ((good [] (Asked 65 7 ∷ wrote) (Unsure 65 7) refl).busy (omega arith));
      two_values = λ good. let (less, _) = (good [] wrote (Began 7 1 (112 ∷ [])) refl).next 1 (111 ∷ []) (Memᴰ.tail (Memᴰ.tail (Memᴰ.tail (Memᴰ.tail (Memᴰ.tail (Memᴰ.head refl)))))) in omega arith;
      unasked = λ good. clash (good [] wrote (Read 65 7 1 (111 ∷ [])) refl).due;
    }
