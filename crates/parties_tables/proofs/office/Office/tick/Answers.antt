use Rattle.std.proofs.Common.{List, sym, subst}
use Rattle.protocol_tables.specs.Office.{Letter, office_ticks}
use Rattle.protocol_tables.specs.Runs.{OfficeTicks}
use Rattle.protocol_tables.proofs.Runs.{ticking_runs}
use Rattle.parties_tables.specs.Offices.{office_of}
use Rattle.parties_tables.proofs.Along.{if_made}
use Rattle.parties_tables.proofs.office.Office.tick.Goals as goal

pub returns-clause-runs : goal.returns-clause-runs
returns-clause-runs c =
    let office = office_of c.args.self.now in
    let quorum = c.args.self.now.quorum in
    if_made c.letters.result (λ _ is. subst (λ (ls : List Letter). OfficeTicks quorum.wardens quorum.faults office (record { next = office; letters = ls; outcome = (office_ticks office).outcome })) (sym is) (ticking_runs _ _ quorum.few _)) c.letters.ensures
