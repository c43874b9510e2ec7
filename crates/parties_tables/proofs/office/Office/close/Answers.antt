use Rattle.std.proofs.Common.{◌≡◌, true, sym, ap, ◌∙◌, ◌==◌}
use Rattle.protocol.specs.Office.{Desk, close, empty_desk}
use Rattle.parties.specs.Desks.{desk_of}
use Rattle.protocol_tables.specs.Keep.{store}
use Rattle.parties_tables.specs.Keeps.{keep_of}
use Rattle.parties_tables.specs.Offices.{office_of}
use Rattle.parties_tables.proofs.Tables.{set_had, busy_had}
use Rattle.parties_tables.proofs.office.Office.close.Goals as goal

pub returns-then-eq-clause-closed : goal.returns-then-eq-clause-closed
returns-then-eq-clause-closed c =
    let k = c.args.number.0 in
    let t = c.args.self.now.desks in
    let at = (office_of c.args.self.now).desks.at k in
    let is : desk_of c.desk-ended.result ≡ at = c.desk-ended.ensures in
    let busy : at.busy ≡ true = sym (ap (λ (d : Desk). d.busy) is) ∙ c.if-ended.true in
    let same : (c.args.edition.0 == at.now.edition) ≡ true = ap (λ (d : Desk). c.args.edition.0 == d.now.edition) (sym is) ∙ sym c.if-eq.ensures in
    let kept = set_had desk_of empty_desk k _ t c.set.new.self c.set.result c.set.ensures (busy_had k t busy) ∙ ap (λ (d : Desk). store k (close d) (keep_of desk_of empty_desk t)) is in
    rw (busy, same) (λ i. record { desks = kept i; under_way = c.remove.ensures i })
