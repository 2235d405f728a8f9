-- The four writes make the record of the format.
use Rattle.std.proofs.Common.{ℕ, List, [], ◌∷◌, ◌++◌, length, drop, replicate, ap, ◌∙◌, rules}
use Rattle.image.proofs.Formats.{format_is}
use Rattle.image.proofs.record.format_track.Goals as goal

pub returns-clause-after : goal.returns-clause-after
returns-clause-after c =
    let head = c.copy_from_slice.ensures.after ∙ ap (λ (n : ℕ). length c.args.ids.now ∷ n ∷ []) c.from.ensures in
    format_is c.args.ids.now c.args.size c.args.check c.args.track.now c.requires.0 (search rules) c.requires.1 c.bytes.result _ _ _ _
    c.bytes.ensures (ap (λ (ys : List ℕ). ys ++ drop 2 c.args.track.now) head) c.write_pairs.ensures c.write_checks.ensures
    (c.fill.ensures.after (λ y e. e) ∙ ap (λ (n : ℕ). replicate n 0) (search rules))
