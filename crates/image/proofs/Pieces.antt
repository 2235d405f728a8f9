-- Pieces of one length, written one after another over the front of a list.
use Rattle.std.proofs.Common.{◌≡◌, ℕ, ◌+◌, ◌-◌, ◌*◌, ◌<◌, ◌≤◌, List, [], ◌∷◌, ◌++◌, length, get_or, take, sym, ap, ◌∙◌, ap₂, mul-add, arith}
use borrow.Rule.Slice.PartMut.{put_mid}
use Rattle.std.specs.List.{flat_map}
use Rattle.std.proofs.lemmas.Nat.{row_fits}
use Rattle.std.proofs.lemmas.List.{same_lists, length-append, length-take-le, take_more, flat_map_more}
use Rattle.std.proofs.lemmas.List.Concat.{get_or-flat_map}
use Rattle.image.specs.Holds.{length_part}
use Rattle.image.specs.Parts.{part, over}
use Rattle.image.proofs.Windows.{put_over, over_more, get_d_part}

module _ {X : Type 0} (f : X → List ℕ) (w : ℕ) (each : (x : X) → length (f x) ≡ w) where
  pub length_joined : (xs : List X) → length (flat_map f xs) ≡ w * length xs
  length_joined [] = omega arith
  length_joined (x ∷ xs) =
      length-append (f x) (flat_map f xs) ∙ ap₂ ◌+◌ (each x) (length_joined xs) ∙ omega (arith, mul-add w 1 (length xs))

  module _ (xs : List X) (i : ℕ) (d : X) (h : i < length xs) where
    front : length (flat_map f (take i xs)) ≡ w * i
    front = length_joined (take i xs) ∙ ap (λ (n : ℕ). w * n) (length-take-le i xs (omega arith))

    up : w * i + w ≤ w * length xs
    up = omega (arith, row_fits i w (length xs) w h (omega arith))

    -- one piece more
    pub joined_over : (old new piece : List ℕ) → w * length xs ≤ length old → new ≡ over 0 (flat_map f (take i xs)) old → piece ≡ f (get_or xs i d) → put_mid (w * i) ((w * i + w) - w * i) new piece ≡ over 0 (flat_map f (take (i + 1) xs)) old
    joined_over old new piece room en ep =
        let long : length piece ≡ w = ap length ep ∙ each (get_or xs i d) in
        put_over (w * i) (w * i + w) piece new (omega arith) (omega arith)
        ∙ ap₂ (λ (n : ℕ) (t : List ℕ). over n piece t) (let e : w * i ≡ 0 + length (flat_map f (take i xs)) = omega (arith, front) in e) en
        ∙ over_more 0 (flat_map f (take i xs)) piece old (omega (arith, front, up))
        ∙ ap (λ (t : List ℕ). over 0 t old)
        (ap (λ (t : List ℕ). flat_map f (take i xs) ++ t) ep ∙ flat_map_more f [] (take i xs) (get_or xs i d) ∙ ap (flat_map f) (sym (take_more xs i d h)))

    -- piece i of the whole, element by element and as one
    pub joined_at : (j e : ℕ) → j < w → get_or (flat_map f xs) (w * i + j) e ≡ get_or (f (get_or xs i d)) j e
    joined_at j e l =
        ap (λ (n : ℕ). get_or (flat_map f xs) (n + j) e) (sym front) ∙ get_or-flat_map f xs i j d e h (omega (arith, each (get_or xs i d)))

    pub joined_part : part (w * i) w (flat_map f xs) ≡ f (get_or xs i d)
    joined_part =
        let long : length (part (w * i) w (flat_map f xs)) ≡ w = length_part (w * i) w (flat_map f xs) (omega (arith, length_joined xs, up)) in
        same_lists _ _ (long ∙ sym (each (get_or xs i d))) (λ k e l. get_d_part (w * i) w (flat_map f xs) k e (omega arith) ∙ joined_at k e (omega arith))
