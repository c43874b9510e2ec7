-- A step of the office, with its file.
-- Assumes nothing.
use Rattle.std.proofs.Common.{◌≡◌, ℕ, true, false, List, [], ◌∷◌, take, Ok, sym, ap, ◌∙◌, subst, append-nil}
use Rattle.parties.specs.Views.{OfficeOutcome, office_outcome}
use Rattle.parties.specs.declared.step.OfficeDone.TheVariants as outcomes
use Rattle.protocol_tables.specs.Office.{OfficeStep, begins, ends}
use Rattle.frames.specs.Format.{Frame, Begun, Ended, encode}
use Rattle.frames.specs.Journal.{encode_all}
use Rattle.protocol_files.specs.Disk.{Disk, append}
use Rattle.protocol_files.specs.Records.{office_records}

-- what a step leaves on the file
module _ (k : ℕ) (step : OfficeStep) (o : OfficeOutcome) (did : office_outcome o ≡ step.outcome) where
  pub begun_recorded : o ≡ Ok outcomes.Begun → office_records k step ≡ Begun k (step.next.desks.at k).now ∷ []
  begun_recorded is = let begun : begins step.outcome ≡ true = ap begins (sym did ∙ ap office_outcome is) in rw begun

  pub ended_recorded : o ≡ Ok outcomes.Ended → office_records k step ≡ Ended k (step.next.desks.at k).now.edition ∷ []
  ended_recorded is =
      let begun : begins step.outcome ≡ false = ap begins (sym did ∙ ap office_outcome is) in
      let ended : ends step.outcome ≡ true = ap ends (sym did ∙ ap office_outcome is) in
      rw (begun, ended)

-- of the bytes of the one record f that it leaves, some first part was written
pub some_written : (Q : Disk → Type 0) (k : ℕ) (step : OfficeStep) (f : Frame) → office_records k step ≡ f ∷ [] → (bytes : List ℕ) → bytes ≡ encode f → (d : Disk) → (j : ℕ) × Q (append (take j bytes) d) →
    (j : ℕ) × Q (append (take j (encode_all (office_records k step))) d)
some_written Q k step f records bytes is d (j, q) = (j, subst (λ (bs : List ℕ). Q (append (take j bs) d)) (is ∙ sym (append-nil (encode f)) ∙ ap encode_all (sym records)) q)
