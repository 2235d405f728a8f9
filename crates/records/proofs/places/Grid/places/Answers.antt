-- One more place is that of the next record.
use Rattle.std.proofs.Common.{◌≡◌, ◌++◌, ◌∷◌, [], Some, map, ap, ◌∙◌, ap₂, sym, arith, rules}
use Rattle.std.proofs.lemmas.List.FromFn.{map-range_with_len_more}
use Rattle.std.proofs.lemmas.List.{map-append}
use Rattle.records.specs.Places.{place_of}
use Rattle.records.proofs.places.Grid.places.Goals as goal

pub loop-index-preserved : goal.loop-index-preserved
loop-index-preserved c =
    let places = c.loop-index.places.items in
    let at = place_of c.args.self in
    let more : c.push.new.self.items ≡ places ++ c.in_ok-place.place ∷ [] = search rules in
    let found : Some c.in_ok-place.place ≡ at c.loop-index.index = search rules in
    ap (map Some) more ∙ map-append Some places (c.in_ok-place.place ∷ [])
    ∙ ap₂ (λ ps p. ps ++ p ∷ []) c.loop-index.invariant found ∙ sym (map-range_with_len_more at 0 c.loop-index.index c.loop-index.index (omega arith))
