-- Where the loop ends by itself, one of the texts has ended.
use Rattle.std.proofs.Common.{◌≡◌, ℕ, ◌⊎◌, List, [], ◌∷◌, refl, ⊎_elim, arith}
use Rattle.std.proofs.lemmas.Slice.Zip.{either_empty_from_Zip}
use Rattle.std.specs.Iterator.Adapters.{zip_first, zip_second}
use Rattle.std.specs.Slice.Iter.{iter_rest}
use Rattle.cue_sheet.specs.Lines.{newlines_alike}
use Rattle.cue_sheet.proofs.lines.first_difference.Goals as goal

no_more : (xs ys : List ℕ) → (xs ≡ []) ⊎ (ys ≡ []) → newlines_alike xs ys ≡ 0
no_more [] ys end = refl
no_more (x ∷ xs) [] end = refl
no_more (x ∷ xs) (y ∷ ys) end = ⊎_elim (λ p. cc) (λ p. cc) end

pub returns-in-None-clause-line : goal.returns-in-None-clause-line
returns-in-None-clause-line c =
    let l = c.loop-x in
    let end = either_empty_from_Zip l.x-iterator c.next.new.self c.next.result c.in-None.is c.next.ensures.steps in
    grind (arith, no_more (iter_rest (zip_first l.x-iterator)) (iter_rest (zip_second l.x-iterator)) end)
