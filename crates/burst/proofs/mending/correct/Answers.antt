-- Each answer is the definition's; what it leaves is what was written.
use Rattle.std.proofs.Common.{◌≡◌, ℕ, eqb, length, None, Some, Ok, Err, ok_or, option_map, sym, refl, ap, ◌∙◌, rules}
use Rattle.std.proofs.lemmas.Bool.{cond-false, ne_eqb}
use Rattle.sector.specs.Sizes.{size_with}
use Rattle.burst.specs.declared.mending.CorrectionError.TheVariants.{Uncorrectable, UnknownSize}
use Rattle.burst.specs.Search.{first_burst}
use Rattle.burst.specs.Mending.{judged, correction, mended_by}
use Rattle.burst.proofs.Restoring.{restored_by}
use Rattle.burst.proofs.mending.correct.Goals as goal

pub returns-in_err-size-clause-restored : goal.returns-in_err-size-clause-restored
returns-in_err-size-clause-restored c = restored_by c.args.bytes.now c.args.check (Err UnknownSize) (search rules) c.args.bytes.now refl

pub returns-then-difference-eq0-clause-restored : goal.returns-then-difference-eq0-clause-restored
returns-then-difference-eq0-clause-restored c = restored_by c.args.bytes.now c.args.check (Ok None) (search rules) c.args.bytes.now refl

pub returns-in_err-burst-clause-restored : goal.returns-in_err-burst-clause-restored
returns-in_err-burst-clause-restored c =
    let none : c.correct_by.result ≡ None = search rules in
    restored_by c.args.bytes.now c.args.check (Err Uncorrectable) (search rules) c.correct_by.new.bytes
    (c.correct_by.ensures.after ∙ ap (λ o. mended_by o c.args.bytes.now) none)

pub returns : goal.returns
returns c =
    let bytes = c.args.bytes.now in
    let check = c.args.check in
    let size = c.in_ok-size.size in
    let burst = c.in_ok-burst.burst in
    let d : ℕ = c.difference-difference.result in
    let long : size_with (length bytes) ≡ Some size = cc c.in_ok-size.ensures.ok_part in
    let found : first_burst size d ≡ Some burst = cc (c.correct_by.ensures.answer, c.in_ok-burst.ensures.ok_part) in
    let answer : Ok (Some burst) ≡ correction (size_with (length bytes)) bytes check =
    ap (λ o. ok_or (option_map Some o) Uncorrectable) (sym found)
    ∙ sym (cond-false (eqb d 0) (Ok None) _ (ne_eqb d 0 c.if-difference-eq0.false))
    ∙ ap (judged size) c.difference-difference.ensures ∙ ap (λ o. correction o bytes check) (sym long) in
    let after = c.correct_by.ensures.after ∙ ap (λ o. mended_by o bytes) (c.correct_by.ensures.answer ∙ found) in
    record { answer = answer; after = after; restored = restored_by bytes check (Ok (Some burst)) answer c.correct_by.new.bytes after }
