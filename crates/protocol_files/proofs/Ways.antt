-- Ways of fair moves.
-- Assumes nothing.
use Rattle.std.proofs.Common.{◌≡◌, ℕ, Bool, true, [], ◌++◌, sym, refl, ap, ◌∙◌, append_assoc}
use Rattle.protocol.specs.Log.{Log}
use Rattle.protocol_files.specs.System.{System, Move, Run, then}
use Rattle.protocol_files.specs.Progress.{fair, Way, here, next, Onward}

module _ (n f : ℕ) (liar : ℕ → Bool) where
  -- a fair move
  abbrev pub Fair : System → System → Type 0
  Fair s t = (m : Move n f liar s t) × (fair m ≡ true)

  pub by : {s t u : System} → Fair s t → Way n f liar t u → Way n f liar s u
  by (m, so) way = next m so way

  pub one : {s t : System} → Fair s t → Way n f liar s t
  one m = by m here

  pub along : {s t u : System} → Way n f liar s t → Way n f liar t u → Way n f liar s u
  along here rest = rest
  along (next m so way) rest = next m so (along way rest)

  pub way_run : {s t : System} → Run n f liar s → Way n f liar s t → Run n f liar t
  way_run r here = r
  way_run r (next m so way) = way_run (then r m) way

pub stays : (s : System) → Onward s s
stays s = record { reader = refl; bag = λ p at. at; more = []; log = refl }

pub further : {s t u : System} → Onward s t → Onward t u → Onward s u
further {s} a b =
    record {
      reader = b.reader ∙ a.reader;
      bag = λ p at. b.bag p (a.bag p at);
      more = b.more ++ a.more;
      log = b.log ∙ ap (λ (l : Log). b.more ++ l) a.log ∙ sym (append_assoc b.more a.more s.log);
    }
