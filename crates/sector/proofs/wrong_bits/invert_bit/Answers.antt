-- The byte that is written is the one with that bit inverted; where none is written, the part has not that bit.
use Rattle.std.proofs.Common.{◌+◌, ◌-◌, eqb, sym, ◌∙◌, arith}
use Rattle.std.proofs.lemmas.Bool.{ne_eqb}
use Rattle.sector.proofs.Inverted.{inverted_one, inverted_none, inverted_cong, eqb_moved}
use Rattle.sector.proofs.wrong_bits.invert_bit.Goals as goal

pub returns-then-bit-start : goal.returns-then-bit-start
returns-then-bit-start c =
    let a = c.args in sym (inverted_none _ a.part.now (λ j l. ne_eqb (a.start + j) a.bit (omega arith)))

pub returns-then-i-part : goal.returns-then-i-part
returns-then-i-part c =
    let a = c.args in
    let i = a.bit - a.start in
    inverted_one a.part.now i (omega arith)
    ∙ inverted_cong (λ j. eqb j i) (λ j. eqb (a.start + j) a.bit) a.part.now (λ j l. eqb_moved a.start j i a.bit (omega arith))

pub returns-else-i-part : goal.returns-else-i-part
returns-else-i-part c =
    let a = c.args in sym (inverted_none _ a.part.now (λ j l. ne_eqb (a.start + j) a.bit (omega arith)))
