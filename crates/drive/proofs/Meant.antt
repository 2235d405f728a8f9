-- The sector meant lies on its track, with the number and the size asked for.
use Rattle.std.proofs.Common.{◌≡◌, ℕ, ◌<◌, List, length, get_or, Some, ◌∙◌}
use Rattle.std.proofs.lemmas.Bool.{and_parts, eqb-true}
use Rattle.std.proofs.lemmas.List.Quantifiers.{position-Some}
use Rattle.std.proofs.lemmas.Iterator.Adapters.{position_from-zero}
use Rattle.sector.specs.declared.size.SizeCode.{SizeCode}
use Rattle.sector.proofs.Sizes.{same_number}
use Rattle.drive.specs.Model.{Sector, no_sector, is_meant, slot_of}

pub meant_at : (track : List Sector) (number : ℕ) (size : SizeCode) (k : ℕ) → slot_of track number size ≡ Some k
    → (k < length track) × ((get_or track k no_sector).number ≡ number) × ((get_or track k no_sector).size ≡ size)
meant_at track number size k e =
    let found = position-Some (is_meant number size) track k no_sector (position_from-zero (is_meant number size) track ∙ e) in
    let same = and_parts _ _ found.1 in
    (found.0, eqb-true _ _ same.0, same_number _ _ (eqb-true _ _ same.1))
