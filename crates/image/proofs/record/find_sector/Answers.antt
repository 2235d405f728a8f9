-- The first pair with the number is that of the sector meant.
use Rattle.std.proofs.Common.{◌≡◌, sym, ap, ◌∙◌, rules}
use denote.Enum.Bare.{same_false}
use Rattle.std.specs.List.{position_from}
use Rattle.std.proofs.lemmas.Bool.{cond-true, cond-false, eq-eqb, ne_eqb}
use Rattle.sector.specs.Sizes.{number_of}
use Rattle.sector.specs.contracts.size.SizeCode.{the_type}
use Rattle.sector.proofs.Sizes.{same_number}
use Rattle.image.specs.Record.{is_named}
use Rattle.image.proofs.Tracks.{slot_named, slot_meant}
use Rattle.image.proofs.record.find_sector.Goals as goal

pub returns-then-eq-clause-slot : goal.returns-then-eq-clause-slot
returns-then-eq-clause-slot c =
    let h = c.in_ok-held.ensures in
    let same : c.in_ok-held.held ≡ c.args.size = search rules in
    c.first_named.ensures ∙ ap (position_from (is_named c.args.number) 0) h.2
    ∙ sym (slot_named c.args.track.now c.args.number c.args.size h.0 ∙ cond-true _ _ _ (eq-eqb _ _ (ap number_of (sym h.1 ∙ same))))

pub returns-then-eq-clause-found : goal.returns-then-eq-clause-found
returns-then-eq-clause-found c = slot_meant c.args.track.now c.args.number c.args.size _ c.requires (returns-then-eq-clause-slot c)

pub returns-else-eq-clause-slot : goal.returns-else-eq-clause-slot
returns-else-eq-clause-slot c =
    let h = c.in_ok-held.ensures in
    sym (slot_named c.args.track.now c.args.number c.args.size h.0
    ∙ cond-false _ _ _ (ne_eqb _ _ (λ e. same_false the_type _ _ (sym c.if-eq.ensures) (h.1 ∙ same_number _ _ e))))
