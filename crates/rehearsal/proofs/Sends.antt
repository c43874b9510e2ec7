-- One packet more, to each of the wardens in turn; one letter more of the office.
-- Assumes nothing.
use Rattle.std.proofs.Common.{◌≡◌, ℕ, ◌+◌, ◌<◌, List, [], ◌∷◌, ◌++◌, map, length, get_or, take, sym, ap, ◌∙◌, append_assoc, append-nil, add-one, take-suc}
use Rattle.std.proofs.lemmas.List.{map-append}
use Rattle.protocol.specs.Message.{office, Packet, to_each, packets}
use Rattle.protocol_tables.specs.Office.{Letter}
use Rattle.parties.specs.Views.{sends_of}
use Rattle.parties_tables.specs.Offices.{letter_of}
use Rattle.parties_tables.specs.declared.office.Letter.{Letter as CodeLetter}
use Rattle.rehearsal.specs.Scenes.{posted}

pub each_none : (old : List Packet) (g : ℕ → Packet) → old ≡ old ++ to_each 0 g
unfolding to_each
each_none old g = sym (append-nil old)

pub each_more : (old now new : List Packet) (n : ℕ) (g : ℕ → Packet) → now ≡ old ++ to_each n g → new ≡ now ++ g n ∷ [] → new ≡ old ++ to_each (n + 1) g
unfolding to_each
each_more old now new n g e f = rw add-one (f ∙ ap (λ t. t ++ g n ∷ []) e ∙ append_assoc old (to_each n g) (g n ∷ []))

-- one letter more
posted_more : (n : ℕ) (ls : List Letter) (x : Letter) → posted n (ls ++ (x ∷ [])) ≡ posted n ls ++ packets n office x.note x.sends
posted_more n [] x = append-nil (packets n office x.note x.sends)
posted_more n (l ∷ ls) x = ap (λ (ps : List Packet). packets n office l.note l.sends ++ ps) (posted_more n ls x) ∙ sym (append_assoc (packets n office l.note l.sends) (posted n ls) (packets n office x.note x.sends))

pub post_more : (n m : ℕ) (old now new : List Packet) (ls : List CodeLetter) (i : ℕ) (x : CodeLetter) → i < length ls → x ≡ get_or ls i x → m ≡ n → now ≡ old ++ posted n (map letter_of (take i ls)) → new ≡ now ++ packets m office x.note.0 (sends_of x.sends) → new ≡ old ++ posted n (map letter_of (take (i + 1) ls))
post_more n m old now new ls i x l at is before after =
    after ∙ (ap (λ (k : ℕ). now ++ packets k office x.note.0 (sends_of x.sends)) is ∙ (ap (λ (ps : List Packet). ps ++ last) before ∙ (append_assoc old (posted n (map letter_of (take i ls))) last ∙ ap (λ (ps : List Packet). old ++ ps) (sym whole))))
  where
    last : List Packet
    last = packets n office x.note.0 (sends_of x.sends)

    longer : take (i + 1) ls ≡ take i ls ++ (get_or ls i x ∷ [])
    longer = rw add-one (take-suc ls i x l)

    whole : posted n (map letter_of (take (i + 1) ls)) ≡ posted n (map letter_of (take i ls)) ++ last
    whole = ap (λ (xs : List CodeLetter). posted n (map letter_of xs)) (longer ∙ ap (λ (y : CodeLetter). take i ls ++ (y ∷ [])) (sym at)) ∙ (ap (posted n) (map-append letter_of (take i ls) (x ∷ [])) ∙ posted_more n (map letter_of (take i ls)) (letter_of x))
