-- The first of numbered things that passes a test, if one does.
use Rattle.std.proofs.Common.{◌≡◌, ℕ, ◌<◌, Bool, true, false, ◌⊎◌, List, map, length, get_or, Some, None, find, sym, ap, ◌∙◌, inl, inr, ⊎_elim, zero-add, arith}
use Rattle.std.specs.List.{range_with_len, position_or_len}
use Rattle.std.proofs.lemmas.Bool.{cases_lt}
use Rattle.std.proofs.lemmas.List.Folds.{find_at}
use Rattle.std.proofs.lemmas.List.FromFn.{length-map-range_with_len, get_or-map-range_with_len}
use Rattle.std.proofs.lemmas.List.Sums.{fails_before_first, passes_at_first}
use Rattle.std.proofs.lemmas.Option.{slice_get-get_or, slice_get_past}

module _ {A : Type 0} (p : A → Bool) (f : ℕ → A) (n : ℕ) where
  -- number k is the first that passes
  pub record First : Type 0 where
    pub k : ℕ
    pub within : k < n
    pub passes : p (f k) ≡ true
    pub fails : (i : ℕ) → i < k → p (f i) ≡ false
    pub is : find p (map f (range_with_len 0 n)) ≡ Some (f k)

  pub searched : First ⊎ (((i : ℕ) → i < n → p (f i) ≡ false) × (find p (map f (range_with_len 0 n)) ≡ None))
  searched =
      let xs : List A = map f (range_with_len 0 n) in
      let k : ℕ = position_or_len p xs in
      let long : length xs ≡ n = length-map-range_with_len f 0 n in
      let at : (i : ℕ) → i < n → get_or xs i (f 0) ≡ f i = λ i l. get_or-map-range_with_len f 0 n i i (f 0) l (zero-add i) in
      ⊎_elim
      (λ l. inl (record {
        k = k;
        within = l;
        passes = ap p (sym (at k l)) ∙ passes_at_first p xs (f 0) (omega arith);
        fails = λ i m. ap p (sym (at i (omega arith))) ∙ fails_before_first p xs i (f 0) m;
        is = find_at p xs ∙ slice_get-get_or xs k (f 0) (omega arith) ∙ ap Some (at k l);
      }))
      (λ m. inr ((λ i l. ap p (sym (at i l)) ∙ fails_before_first p xs i (f 0) (omega arith)), find_at p xs ∙ slice_get_past xs k (omega arith)))
      (cases_lt k n)
