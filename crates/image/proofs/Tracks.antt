-- The track that a record holds: its sectors, its pairs as they are cut out of it, and where these name the sector meant.
use Rattle.std.proofs.Common.{◌≡◌, ℕ, zero, suc, ◌+◌, ◌*◌, ◌<◌, ◌≤◌, Bool, true, false, cond, ◌&&◌, eqb, List, [], ◌∷◌, map, length, get_or, take, drop, drop-cons, Some, None, Option, sym, refl, ap, ap₂, ◌∙◌, ⊎_elim, subst, arith}
use Rattle.std.specs.List.{position_from, range_with_len}
use Rattle.std.specs.Option.{IfSome}
use Rattle.std.specs.Simd.{first_chunks}
use Rattle.std.proofs.lemmas.List.FromFn.{get_or-map-range_with_len, length-map-range_with_len}
use Rattle.std.proofs.lemmas.Bool.{cases_Bool, cond_both, cond-true, cond-false}
use Rattle.sector.specs.Sizes.{bytes_of, number_of}
use Rattle.sector.specs.declared.size.SizeCode.{SizeCode}
use Rattle.drive.specs.Model.{Sector, no_sector, is_meant, slot_of}
use Rattle.drive.proofs.Meant.{meant_at}
use Rattle.image.specs.Holds.{sectors_fit}
use Rattle.image.specs.Record.{size_in, number_at, mark_at, is_named, pairs_in, count_in, formatted, sector_at, sectors_in, track_in, Slot}

pub held : (r : List ℕ) → formatted r ≡ true → track_in r ≡ sectors_in r
held r e = cond-true (formatted r) (sectors_in r) [] e

pub held_at : (r : List ℕ) (i : ℕ) (d : Sector) → formatted r ≡ true → i < count_in r → get_or (track_in r) i d ≡ sector_at r i
held_at r i d e h =
    ap (λ (l : List Sector). get_or l i d) (held r e) ∙ get_or-map-range_with_len (sector_at r) 0 (count_in r) i i d h (omega arith)

-- ---- pairs
module _ (r : List ℕ) where
  -- the pairs from sector i on, k of them
  abbrev pub pairs_from : ℕ → ℕ → List (List ℕ)
  pairs_from i k = map (λ i. number_at r i ∷ mark_at r i ∷ []) (range_with_len i k)

  -- a pair, and what stands after it
  pair_first : (i : ℕ) → (2 + 2 * i) + 2 ≤ length r → drop (2 + 2 * i) r ≡ number_at r i ∷ mark_at r i ∷ drop (2 + 2 * (i + 1)) r
  pair_first i h =
      let m : suc (2 + 2 * i) ≡ 3 + 2 * i = omega arith in
      let n : suc (3 + 2 * i) ≡ 2 + 2 * (i + 1) = omega arith in
      drop-cons r (2 + 2 * i) 0 (omega arith)
      ∙ ap (λ (xs : List ℕ). number_at r i ∷ xs)
      (ap (λ (a : ℕ). drop a r) m ∙ drop-cons r (3 + 2 * i) 0 (omega arith) ∙ ap (λ (a : ℕ). mark_at r i ∷ drop a r) n)

  pub pairs_cut : (i k : ℕ) → (2 + 2 * i) + 2 * k ≤ length r → first_chunks 2 k (take (2 * k) (drop (2 + 2 * i) r)) ≡ pairs_from i k
  pairs_cut i zero h = refl
  pairs_cut i (suc k) h =
      let m : 2 * suc k ≡ suc (suc (2 * k)) = omega arith in
      ap₂ (λ (a : ℕ) (xs : List ℕ). first_chunks 2 (suc k) (take a xs)) m (pair_first i (omega arith))
      ∙ ap (λ (ps : List (List ℕ)). (number_at r i ∷ mark_at r i ∷ []) ∷ ps) (pairs_cut (i + 1) k (omega arith))

  module _ (number : ℕ) (size : SizeCode) where
    -- one sector before the others: t says whether it has the number, and b whether it has the size
    one_more : (t b : Bool) (i : ℕ) (o p : Option ℕ) → o ≡ cond b p None → cond (t && b) (Some i) o ≡ cond b (cond t (Some i) p) None
    one_more true true i o p e = refl
    one_more true false i o p e = e
    one_more false b i o p e = e

    -- the sector meant is the one that the first pair with its number names, where the size is the record's
    meant_from : (i k : ℕ) → position_from (is_meant number size) i (map (sector_at r) (range_with_len i k)) ≡ cond (eqb (number_of (size_in r)) (number_of size)) (position_from (is_named number) i (pairs_from i k)) None
    meant_from i zero = sym (cond_both _ None None (λ o. o ≡ None) (λ _. refl) (λ _. refl))
    meant_from i (suc k) = one_more (eqb (number_at r i) number) (eqb (number_of (size_in r)) (number_of size)) i _ (position_from (is_named number) (i + 1) (pairs_from (i + 1) k)) (meant_from (i + 1) k)

    pub slot_named : formatted r ≡ true → slot_of (track_in r) number size ≡ cond (eqb (number_of (size_in r)) (number_of size)) (position_from (is_named number) 0 (pairs_in r)) None
    slot_named e = ap (λ (ss : List Sector). slot_of ss number size) (held r e) ∙ meant_from 0 (count_in r)

    -- and its slot is one of the record's
    pub slot_meant : (o : Option ℕ) → 386 ≤ length r → o ≡ slot_of (track_in r) number size → IfSome o (λ k. Slot r size k)
    slot_meant None long e = tt
    slot_meant (Some k) long e =
        let m = meant_at (track_in r) number size k (sym e) in
        ⊎_elim
        (λ w.
        let f = sectors_fit r w in
        let below : k < count_in r = omega (arith, m.0, ap length (held r w), length-map-range_with_len (sector_at r) 0 (count_in r)) in
        let same : size_in r ≡ size = sym (ap (λ (x : Sector). x.size) (held_at r k no_sector w below)) ∙ m.2 in
        record {
          whole = w;
          below = below;
          few = f.0;
          same_size = same;
          room = subst (λ (z : SizeCode). 386 + count_in r * bytes_of z ≤ length r) same (omega (arith, f.1));
        })
        (λ n. absurd (omega (arith, m.0, ap length (cond-false (formatted r) (sectors_in r) [] n))))
        (cases_Bool (formatted r))
