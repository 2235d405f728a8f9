-- A new controller has a drive in each bay, and calls that led to a controller lead on from it by one call more.
use Rattle.std.proofs.Common.{◌≡◌, ℕ, zero, suc, ◌<◌, List, [], ◌∷◌, ◌++◌, length, map, cond, nat_eq, slice_set, slice_index_or, Some, sym, ap, ◌∙◌, subst, rules, arith}
use Rattle.std.proofs.Math.Logic.{∥∥₁_map}
use Rattle.std.proofs.Math.Path.{fun_ext}
use Rattle.std.proofs.lemmas.List.{map-set, length-map, get_or-map, get_or-set_other}
use Rattle.std.proofs.lemmas.Grind.{get_or-set_at}
use Rattle.drive.specs.Model.{DriveModel}
use Rattle.drive.specs.Bounds.{Limits, Bounded, Measures, ADrive}
use Rattle.drive.specs.Empty.{empty_model}
use Rattle.task_file.specs.declared.bay.Bay.{Bay}
use Rattle.task_file.specs.declared.sdh.Selection.{Selection}
use Rattle.task_file.specs.declared.state.Job.{Job}
use Rattle.task_file.specs.declared.state.Phase.TheVariants.{Busy}
use Rattle.task_file.specs.declared.state.State.{State}
use Rattle.task_file.specs.Bays.{bay_index, same_bay}
use Rattle.task_file.specs.Sdh.{selected}
use Rattle.task_file.specs.State.{fresh}
use Rattle.controller.specs.Turns.{Turned, turned, worked}
use Rattle.controller.specs.Model.{ControllerModel, drives_of, model, with_drive, after_turn, turned_in}
use Rattle.controller.specs.declared.call.Call.{Call}
use Rattle.controller.specs.Runs.{called, runs, IsNew, Reached}
use Rattle.controller.proofs.Runs.{runs_joined}

pub led_on : (c : Call) (b e : ControllerModel) → e ≡ called b c → ∥ Reached b ∥₁ → ∥ Reached e ∥₁
unfolding runs
led_on c b e is h =
    ∥∥₁_map h (λ (r : Reached b). record {
      new = r.new;
      is_new = r.is_new;
      history = r.history ++ (c ∷ []);
      leads = runs_joined r.new r.history (c ∷ []) ∙ ap (λ x. called x c) r.leads ∙ sym is;
    })

-- ---- the making
-- what holds of every drive of a make, and of an empty bay, holds of the drive in each bay
module _ {D : Type 0} (meaning : D → DriveModel) (P : DriveModel → Type 0) (of_none : P (empty_model [])) (of_make : (d : D) → P (meaning d)) where
  at_place : (ds : List D) (i : ℕ) → P (slice_index_or (map meaning ds) i (empty_model []))
  at_place [] i = of_none
  at_place (d ∷ ds) zero = of_make d
  at_place (d ∷ ds) (suc i) = at_place ds i

  pub in_each_bay : (ds : List D) (bay : Bay) → P (drives_of meaning ds bay)
  in_each_bay ds bay = at_place ds (bay_index bay)

module _ {D : Type 0} (meaning : D → DriveModel) (most : Measures) (limits : Limits most) (bounded : (d : D) → Bounded most (meaning d)) where
  a_drive : (d : D) → ADrive (meaning d)
  a_drive d = let b = bounded d in search (rules, arith)

  pub new_made : (ds : List D) (s : State) → s ≡ fresh → IsNew (model meaning s ds)
  new_made ds s is = record { is_fresh = is; a_drive = in_each_bay meaning ADrive (search (rules, arith)) a_drive ds }

-- ---- turns
-- a drive that is lent from its bay is put back there
module _ {D : Type 0} (meaning : D → DriveModel) (s t : State) (ds : List D) where
  in_bay : (ms : List DriveModel) (i j : ℕ) (d none : DriveModel) → i < length ms → slice_index_or (slice_set ms i d) j none ≡ cond (nat_eq j i) d (slice_index_or ms j none)
  in_bay ms i j d none inside = grind (arith, get_or-set_at ms i j d none, get_or-set_other ms i j d none)

  same_place : (a b : Bay) → nat_eq (bay_index a) (bay_index b) ≡ same_bay a b
  same_place a b = grind arith

  put_back : (bay : Bay) (x : D) → bay_index bay < length ds → model meaning t (slice_set ds (bay_index bay) x) ≡ with_drive (model meaning s ds) t bay (meaning x)
  put_back bay x inside =
      ap (λ (f : Bay → DriveModel). record { state = t; drives = f })
      (fun_ext (λ q.
      ap (λ ms. slice_index_or ms (bay_index q) (empty_model [])) (map-set meaning ds (bay_index bay) x)
      ∙ in_bay (map meaning ds) (bay_index bay) (bay_index q) (meaning x) (empty_model []) (rw (length-map ds meaning) inside)
      ∙ ap (λ z. cond z (meaning x) (slice_index_or (map meaning ds) (bay_index q) (empty_model []))) (same_place q bay)))

  -- a job's turn on the drive that is lent is the model's turn
  pub turned_back : (j : Job) (at : Selection) (i : ℕ) (x y : D) → s.phase ≡ Busy j → selected s.registers.sdh ≡ Some at → i ≡ bay_index at.bay → i < length ds
      → turned t (meaning x) ≡ worked j s at (meaning (slice_index_or ds i y)) → model meaning t (slice_set ds i x) ≡ after_turn (model meaning s ds)
  turned_back j at i x y busy chosen is inside works =
      let here : bay_index at.bay < length ds = subst (λ k. k < length ds) is inside in
      let lent : meaning (slice_index_or ds i y) ≡ drives_of meaning ds at.bay =
      sym (get_or-map meaning ds i y (empty_model []) inside) ∙ ap (λ k. slice_index_or (map meaning ds) k (empty_model [])) is in
      let works_there : turned t (meaning x) ≡ worked j s at (drives_of meaning ds at.bay) = works ∙ ap (worked j s at) lent in
      ap (λ k. model meaning t (slice_set ds k x)) is
      ∙ put_back at.bay x here
      ∙ ap (λ (z : Turned). with_drive (model meaning s ds) z.state at.bay z.drive) works_there
      ∙ sym (ap (λ p. turned_in p (selected s.registers.sdh) (model meaning s ds)) busy ∙ ap (λ o. turned_in (Busy j) o (model meaning s ds)) chosen)
