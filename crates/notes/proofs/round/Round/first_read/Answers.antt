use Rattle.std.proofs.Common.{refl, arith}
use Rattle.register.proofs.Picks.{pick_none}
use Rattle.notes.proofs.Turns.{unheard, unread, found}
use Rattle.notes.proofs.round.Round.first_read.Goals as goal

pub told-init : goal.told-init
told-init c = record { none = refl; before = pick_none _ _ _ }

pub told-preserved-then-not-has_told : goal.told-preserved-then-not-has_told
told-preserved-then-not-has_told c = record {
  none = c.told.invariant.none;
  before = unheard _ _ _ _ c.told.invariant.before c.if-not-has_told.ensures;
}

pub told-preserved : goal.told-preserved
told-preserved c = record {
  none = c.told.invariant.none;
  before = unread _ _ _ _ c.told.invariant.before _ c.told_by.ensures c.if-is_read.ensures;
}

pub returns-then-is_read : goal.returns-then-is_read
returns-then-is_read c =
    found _ _ _ _ c.told.invariant.before _ c.told_by.ensures (omega arith) c.if-not-has_told.ensures c.if-is_read.ensures
