-- The loop that looks for the note that is read: one turn of it, and what it comes to.
-- Assumes nothing.
use Rattle.std.proofs.Common.{◌≡◌, ℕ, suc, ◌+◌, ◌<◌, true, false, Some, None, Option, sym, ap, ◌∙◌, add-one, arith, Bor, MatchOption}
use Rattle.std.proofs.lemmas.Bool.{and_left, and_right, and_from}
use Rattle.register.specs.Note as rules
use Rattle.register.specs.Rule.{Replies, readable, pick, Found, Nothing, IsRead}
use Rattle.register.proofs.Picks.{pick_past, pick_here, pick_stays, pick_found, pick_nothing}
use Rattle.notes.specs.Views.{note_of, reading_of}
use Rattle.notes.specs.declared.note.Note.{Note}

module _ (n f : ℕ) (p : Replies) where
  -- x: the note that was looked at, as the code has it
  module _ (i : ℕ) (before : pick n f p i ≡ Nothing) where
    pub unheard : false ≡ p.heard i → pick n f p (i + 1) ≡ Nothing
    unheard e = rw add-one (pick_past n f p i before (and_left _ _ (sym e)))

    pub unread : (x : rules.Note) → x ≡ p.told i → false ≡ readable n f p x → pick n f p (i + 1) ≡ Nothing
    unread x is e = rw add-one (pick_past n f p i before (and_right _ _ (ap (readable n f p) (sym is) ∙ sym e)))

    pub found : (x : rules.Note) → x ≡ p.told i → i < n → true ≡ p.heard i → true ≡ readable n f p x → pick n f p n ≡ Found (p.told i)
    found x is below heard e = pick_stays n f p (p.told i) (suc i) n (omega arith) (pick_here n f p i before (and_from _ _ (sym heard) (ap (readable n f p) (sym is) ∙ sym e)))

  -- what is computed is what the rule says
  pub rule_of : (r : Option (Bor Note)) → reading_of r ≡ pick n f p n → MatchOption r ((x : rules.Note) → IsRead n f p x → ⊥) (λ x. IsRead n f p (note_of x.now))
  rule_of None e = pick_nothing n f p (sym e)
  rule_of (Some x) e = pick_found n f p n (note_of x.now) (sym e)
