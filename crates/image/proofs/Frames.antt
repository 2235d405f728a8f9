-- One record changes, and the other tracks do not.
use Rattle.std.specs.Prelude.{◌≡◌, ℕ, ◌+◌, ◌*◌, ◌<◌, ◌≤◌, false, cond, ◌&&◌, List, [], length, ◌==◌, ◌≢◌, min, nat_lt}
use Rattle.std.proofs.Common.{sym, ap, ap₂, ◌∙◌, inl, inr, ⊎_elim, arith}
use Rattle.std.proofs.Math.Path.{fun_ext}
use Rattle.std.proofs.lemmas.Nat.{mul-add-lt, row_fits, same_from_place}
use Rattle.std.proofs.lemmas.Bool.{cases_Bool, cases_lt, cases_order, eqb-true, eq-eqb, lt-ltb, le-ltb, and_parts, and_from, and_right, cond-true, cond-false, true≢false}
use Rattle.drive.specs.declared.geometry.Geometry.{Geometry}
use Rattle.drive.specs.Model.{replaced}
use Rattle.image.specs.Parts.{part, over}
use Rattle.image.specs.Record.{track_in}
use Rattle.image.specs.Image.{record_start, record_of, tracks_of, memory_length}
use Rattle.image.proofs.Windows.{part_over_other, part_over_same}

module _ (g : Geometry) (c h : ℕ) (lc : c < g.cylinders) (lh : h < g.heads) where
  -- a track's record lies in the memory
  pub record_inside : (memory : List ℕ) → g.capacity ≤ 65536 → length memory ≡ memory_length g → record_start g c h + (386 + g.capacity) ≤ length memory
  record_inside memory small whole =
      omega (arith, row_fits (c * g.heads + h) (386 + g.capacity) (g.cylinders * g.heads) (386 + min g.capacity 65536) (omega (arith, mul-add-lt c g.heads h g.cylinders lc lh)) (omega (arith, small)))

  pub track_inside : (memory : List ℕ) → tracks_of g memory c h ≡ track_in (record_of g c h memory)
  track_inside memory = cond-true _ _ _ (and_from _ _ (lt-ltb c g.cylinders lc) (lt-ltb h g.heads lh))

  module _ (memory new : List ℕ) (fits : record_start g c h + length new ≤ length memory) (long : length new ≡ 386 + g.capacity) where
    abbrev after : List ℕ
    after = over (record_start g c h) new memory

    -- the record that is written, and another
    record_here : record_of g c h after ≡ new
    record_here = ap (λ (n : ℕ). part (record_start g c h) n after) (sym long) ∙ part_over_same (record_start g c h) new memory fits

    record_there : (c' h' : ℕ) → (c' * g.heads + h' ≢ c * g.heads + h) → record_of g c' h' after ≡ record_of g c' h' memory
    record_there c' h' ne =
        part_over_other (record_start g c h) new memory (record_start g c' h') (386 + g.capacity) fits
        (⊎_elim (λ e. absurd (ne e))
        (⊎_elim (λ s. inl (row_fits _ _ _ _ s (omega arith)))
        (λ s. inr (omega (arith, row_fits (c * g.heads + h) (386 + g.capacity) (c' * g.heads + h') (386 + g.capacity) s (omega arith)))))
        (cases_order (c' * g.heads + h') (c * g.heads + h)))

    track_there : (c' h' : ℕ) → (c' == c && h' == h) ≡ false → tracks_of g after c' h' ≡ tracks_of g memory c' h'
    track_there c' h' s =
        ⊎_elim
        (λ l. ap (λ (r : List ℕ). cond (nat_lt c' g.cylinders && nat_lt h' g.heads) (track_in r) [])
        (record_there c' h'
        (λ e. let p = same_from_place c' h' c h g.heads l lh e in
        true≢false (sym (and_from _ _ (eq-eqb _ _ p.0) (eq-eqb _ _ p.1)) ∙ s))))
        (λ l. let past = and_right (nat_lt c' g.cylinders) _ (le-ltb h' g.heads l) in cond-false _ _ _ past ∙ sym (cond-false _ _ _ past))
        (cases_lt h' g.heads)

    pub tracks_after : tracks_of g after ≡ replaced (tracks_of g memory) c h (track_in new)
    tracks_after =
        fun_ext (λ c'. fun_ext (λ h'.
        ⊎_elim
        (λ s.
        let p = and_parts _ _ s in
        ap₂ (tracks_of g after) (eqb-true _ _ p.0) (eqb-true _ _ p.1) ∙ track_inside after ∙ ap track_in record_here ∙ sym (cond-true _ _ _ s))
        (λ s. track_there c' h' s ∙ sym (cond-false _ _ _ s))
        (cases_Bool (c' == c && h' == h))))
