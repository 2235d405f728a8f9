-- The front of the part, and what is left of the zeros.
use Rattle.std.proofs.Common.{ℕ, List, ◌++◌, take, replicate, ap, ◌∙◌, ap₂, arith}
use Rattle.std.proofs.lemmas.List.{take_min, drop-replicate}
use Rattle.records.proofs.bytes.record_of.Goals as goal

pub returns : goal.returns
returns c =
    let part : List ℕ = c.args.part.now in
    let front = c.copy_from_slice.ensures.after ∙ ap (λ n. take n part) c.min-length.ensures ∙ take_min 512 part in
    let rest = drop-replicate c.min-length.result 512 0 ∙ ap (λ n. replicate n 0) (omega (arith, c.min-length.ensures)) in
    ap₂ ◌++◌ front rest
