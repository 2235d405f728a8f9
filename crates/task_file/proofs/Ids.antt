-- The sectors of a format, made one after another by a function of the pair's number.
use Rattle.std.proofs.Common.{◌≡◌, ℕ, zero, suc, ◌+◌, ◌≤◌, List, [], ◌∷◌, ◌++◌, length, take, sym, ap, ap₂, ◌∙◌, subst, ⊎_elim, add-one, arith}
use Rattle.std.proofs.lemmas.List.{take_more}
use Rattle.std.proofs.lemmas.Bool.{cases_lt}
use Rattle.std.specs.Array.{IsFromFnResultFrom}
use denote.Param.Members.{Mut, Called}
use Rattle.drive.specs.declared.answers.SectorId.{SectorId}
use Rattle.task_file.specs.Pairs.{id_at, ids_of}

module _ {F : Type 0} (g : Mut F (ℕ × Unit {0}) SectorId) (bytes : List ℕ) (f : F)
    (gives : (i : ℕ) (id : SectorId) (f' : F) → Called g f (i, tt) id f' → (id ≡ id_at bytes i) × (f' ≡ f)) (ids : List SectorId) where
  pub ids_made : (n i : ℕ) → IsFromFnResultFrom g f ids i n → i + n ≤ length ids → take i ids ≡ ids_of bytes i
      → (m : ℕ) → i ≤ m → m ≤ i + n → take m ids ≡ ids_of bytes m
  ids_made zero i made long before m lo hi = let e : i ≡ m = omega arith in subst (λ k. take k ids ≡ ids_of bytes k) e before
  ids_made (suc n) i (q, id, here, call, rest) long before m lo hi =
      let e = gives i id q call in
      let last : take (i + 1) ids ≡ ids_of bytes (i + 1) =
      take_more ids i id (omega arith) ∙ ap₂ (λ (xs : List SectorId) (x : SectorId). xs ++ (x ∷ [])) before (here.1 id ∙ e.0)
      ∙ ap (ids_of bytes) (sym (add-one i)) in
      ⊎_elim
      (λ l. ids_made n (i + 1) (subst (λ x. IsFromFnResultFrom g x ids (i + 1) n) e.1 rest) (omega arith) last m (omega arith) (omega arith))
      (λ l. let s : i ≡ m = omega arith in subst (λ k. take k ids ≡ ids_of bytes k) s before)
      (cases_lt i m)
