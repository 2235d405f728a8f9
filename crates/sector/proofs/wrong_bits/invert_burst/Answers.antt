-- Each turn inverts one bit more, where the pattern has it; and it has none from its eighth on.
use Rattle.std.proofs.Common.{ℕ, ◌+◌, ◌≤◌, ◌&&◌, eqb, ltb, sym, ap, ◌∙◌, arith, rules}
use Rattle.std.proofs.lemmas.Bool.{eq-eqb, ne_eqb}
use Rattle.sector.specs.Bits.{BitSet, inverted, set_of, both_of}
use Rattle.sector.proofs.Inverted.{inverted_none, inverted_both, inverted_cong}
use Rattle.sector.proofs.Marked.{marked_at, marked_before, marked_beyond, below_none, below_on, below_off, below_all}
use Rattle.sector.proofs.wrong_bits.invert_burst.Goals as goal
use Rattle.sector.proofs.wrong_bits.invert_burst.Goals.{then-burst-k-eq1, else-burst-k-eq1}

pub loop-k-init : goal.loop-k-init
loop-k-init c =
    let b = c.args.burst in
    sym (inverted_none _ c.args.part.now (λ i l. below_none b.first (c.args.start + i) _ (marked_before b.first b.pattern (c.args.start + i))))

pub loop-k-preserved : goal.loop-k-preserved
loop-k-preserved c =
    let b = c.args.burst in
    let f : ℕ = b.first in
    let k = c.loop-k.k in
    let start = c.args.start in
    let bytes = c.args.part.now in
    let before : BitSet = λ i. ltb (start + i) (f + k) && set_of b (start + i) in
    let bit : BitSet = λ i. eqb (start + i) (f + k) in
    elim c.if-burst-k-eq1.branch [
      | then-burst-k-eq1 w ↦
          w.part-is ∙ w.invert_bit.ensures ∙ ap (inverted bit) c.loop-k.invariant ∙ inverted_both before bit bytes
          ∙ inverted_cong (both_of before bit) _ bytes
          (λ i l. below_on f k (start + i) _ (λ e. ap (set_of b) e ∙ marked_at f b.pattern k ∙ eq-eqb _ 1 w.if-burst-k-eq1.true))
      | else-burst-k-eq1 w ↦
          w.part-is ∙ c.loop-k.invariant
          ∙ inverted_cong before _ bytes
          (λ i l. below_off f k (start + i) _ (λ e. ap (set_of b) e ∙ marked_at f b.pattern k ∙ ne_eqb _ 1 w.if-burst-k-eq1.false))
    ]

pub returns : goal.returns
returns c =
    let b = c.args.burst in
    let end : 8 ≤ c.loop-k.k = omega arith in
    c.loop-k.invariant
    ∙ inverted_cong _ _ c.args.part.now
    (λ i l. below_all (b.first + c.loop-k.k) (c.args.start + i) _ (λ m. marked_beyond b.first b.pattern 8 (c.args.start + i) (search rules) (omega arith)))
