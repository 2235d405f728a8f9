-- What is met and spent, by where the first entry that applies stands.
use Rattle.std.proofs.Common.{◌≡◌, ℕ, suc, ◌+◌, ◌<◌, ◌≤◌, Bool, true, false, cond, List, [], ◌∷◌, length, get_or, set, Some, None, Option, ◌⊎◌, inl, inr, refl, ap, ◌∙◌, arith}
use Rattle.std.proofs.lemmas.Bool.{and_parts, ltb-true}
use Rattle.std.specs.List.{find, position_from}
use Rattle.drive.specs.declared.place.Place.{Place}
use Rattle.fault_table.specs.declared.entry.FaultEntry.{FaultEntry}
use Rattle.fault_table.specs.declared.entry.FaultKind.TheVariants.{NoId}
use Rattle.fault_table.specs.Entries.{same_place, applies_at, worn, spent}

abbrev blank : FaultEntry
blank = record { place = record { cylinder = 0; head = 0; number = 0 }; kind = NoId; burst = record { first = 0; pattern = 0 }; attempts = 0 }

abbrev Looked : ℕ → List FaultEntry → Option ℕ → Option FaultEntry → List FaultEntry → Type 0
Looked i es first met left =
    ((first ≡ None) × (met ≡ None) × (left ≡ es))
    ⊎ ((k : ℕ) × (first ≡ Some (i + k)) × (k < length es) × (1 ≤ (get_or es k blank).attempts) × (met ≡ Some (get_or es k blank)) × (left ≡ set es k (worn (get_or es k blank))))

pub looked : (p : Place) (i : ℕ) (es : List FaultEntry) → Looked i es (position_from (applies_at p) i es) (find (applies_at p) es) (spent p es)
looked p i [] = inl (refl, refl, refl)
looked p i (e ∷ es) = by (applies_at p e) refl (looked p (i + 1) es)
  where
    by : (b : Bool) → applies_at p e ≡ b → Looked (i + 1) es (position_from (applies_at p) (i + 1) es) (find (applies_at p) es) (spent p es)
        → Looked i (e ∷ es) (cond b (Some i) (position_from (applies_at p) (i + 1) es)) (cond b (Some e) (find (applies_at p) es)) (cond b (worn e ∷ es) (e ∷ spent p es))
    by true on rest = inr (0, ap Some (omega arith), omega arith, ltb-true 0 e.attempts (and_parts (same_place e.place p) _ on).1, refl, refl)
    by false off (inl none) = inl (none.0, none.1, ap (λ (l : List FaultEntry). e ∷ l) none.2)
    by false off (inr some) = inr (suc some.0, some.1 ∙ ap Some (omega arith), omega (arith, some.2), some.3, some.4, ap (λ (l : List FaultEntry). e ∷ l) some.5)
