-- An attempt uses up one entry of the combined outlook, at its own place only.
use Rattle.std.proofs.Common.{◌≡◌, ℕ, ◌+◌, ◌-◌, cond, List, [], ◌∷◌, Some, None, Option, ap, ◌∙◌, ⊎_elim, arith}
use mathlib.Core.Path.{fun_ext}
use Rattle.std.specs.List.{find}
use Rattle.std.proofs.lemmas.Bool.{cases_Bool}
use Rattle.std.proofs.lemmas.Bool.Decides.{nat_tests}
use Rattle.sector.specs.Bits.{set_of}
use Rattle.drive.specs.declared.place.Place.{Place}
use Rattle.drive.specs.Model.{Showing, Outlook, used_up}
use Rattle.fault_table.specs.declared.entry.FaultEntry.{FaultEntry}
use Rattle.fault_table.specs.Entries.{same_place, applies_at, hides_all, spent}
use Rattle.fault_table.specs.Faults.{shown_under, used_below, covered, laid_over}

-- what is shown under what is met
abbrev pub shown_by : Option FaultEntry → Showing → Showing
shown_by None s = s
shown_by (Some e) s = shown_under e.kind (set_of e.burst) s

-- what the first attempt at a place shows
pub covered_first : (p : Place) (es : List FaultEntry) (below : ℕ → Showing) (u : ℕ) → covered p es below u 0 ≡ shown_by (find (applies_at p) es) (below u)
covered_first p [] below u = ap below (omega arith)
covered_first p (e ∷ es) below u = grind (arith, nat_tests, covered_first p es below u, covered_first p es below (u + used_below e.kind 0))

-- how many attempts at a place reached the drive below, once one was made at another or at this
abbrev reached : Place → Place → List FaultEntry → ℕ
reached p q es = cond (same_place q p) (cond (hides_all (find (applies_at p) es)) 0 1) 0

-- what the attempts after it show
module _ (p q : Place) (below : ℕ → Showing) where
  abbrev Next : List FaultEntry → ℕ → ℕ → Type 0
  Next es u k = covered q (spent p es) below (u + reached p q es) k ≡ cond (same_place q p) (covered q es below u (k + 1)) (covered q es below u k)

  more : (e : FaultEntry) (es : List FaultEntry) (u k : ℕ) → Next es u k → Next es (u + used_below e.kind e.attempts) (k - e.attempts) → Next (e ∷ es) u k
  more e es u k passed covers =
      ⊎_elim (λ here. grind (arith, nat_tests))
      (λ there. ⊎_elim (λ on. grind (arith, nat_tests)) (λ off. grind (arith, nat_tests)) (cases_Bool (same_place e.place q)))
      (cases_Bool (same_place q p))

  covered_next : (es : List FaultEntry) (u k : ℕ) → Next es u k
  covered_next [] u k = grind (arith, nat_tests)
  covered_next (e ∷ es) u k = more e es u k (covered_next es u k) (covered_next es (u + used_below e.kind e.attempts) (k - e.attempts))

-- what they show over a drive that some of the attempts reached before
past : (p : Place) (es : List FaultEntry) (below later : ℕ → Showing) (s : ℕ) → ((j : ℕ) → later j ≡ below (j + s)) → (u k : ℕ) → covered p es later u k ≡ covered p es below (u + s) k
past p [] below later s is u k = is (u + k) ∙ ap below (omega arith)
past p (e ∷ es) below later s is u k = grind (arith, is (u + k), past p es below later s is u k, past p es below later s is (u + used_below e.kind e.attempts) (k - e.attempts))

-- the whole outlook after an attempt at a place
pub laid_next : (p : Place) (es : List FaultEntry) (o : Outlook)
    → laid_over (spent p es) (cond (hides_all (find (applies_at p) es)) o (used_up o p.cylinder p.head p.number)) ≡ used_up (laid_over es o) p.cylinder p.head p.number
laid_next p es o =
    fun_ext (λ c. fun_ext (λ h. fun_ext (λ n. fun_ext (λ k.
    let q : Place = record { cylinder = c; head = h; number = n } in
    past q (spent p es) (o c h n) (cond (hides_all (find (applies_at p) es)) o (used_up o p.cylinder p.head p.number) c h n) (reached p q es) (λ j. grind arith) 0 k
    ∙ covered_next p q (o c h n) es 0 k))))
