-- Parts of a list that is written over.
use Rattle.std.specs.Prelude.{◌≡◌, ℕ, ◌+◌, ◌-◌, ◌<◌, ◌≤◌, ◌⊎◌, List, ◌++◌, length, take, drop, get_or}
use Rattle.std.proofs.Common.{sym, ap, ◌∙◌, arith}
use borrow.Rule.Slice.PartMut.{put_mid, put_same}
use Rattle.std.proofs.lemmas.List.{places, same_lists, length-take, length-drop, length-append, drop-drop, get_or-take, get_or-drop}
use Rattle.drive.specs.Bounds.{Bytes}
use Rattle.image.specs.Holds.{length_part}
use Rattle.image.specs.Parts.{part, over}

pub length_over : (a : ℕ) (ys xs : List ℕ) → a + length ys ≤ length xs → length (over a ys xs) ≡ length xs
length_over a ys xs h = simp (length-append, length-take, length-drop) (omega arith)

-- what stands outside of what is written stays
pub get_or-over_outside : (a : ℕ) (ys xs : List ℕ) (k d : ℕ) → a + length ys ≤ length xs → (k < a) ⊎ (a + length ys ≤ k) → get_or (over a ys xs) k d ≡ get_or xs k d
get_or-over_outside a ys xs k d h w = grind (arith, places)

pub get_or-over_inside : (a : ℕ) (ys xs : List ℕ) (k d : ℕ) → a + length ys ≤ length xs → k < length ys → get_or (over a ys xs) (a + k) d ≡ get_or ys k d
get_or-over_inside a ys xs k d h u = grind (arith, places)

-- nothing but bytes are written over bytes
pub bytes_over : (a : ℕ) (ys xs : List ℕ) → a + length ys ≤ length xs → Bytes ys → Bytes xs → Bytes (over a ys xs)
bytes_over a ys xs fits by bx i = grind (arith, places, by, bx)

-- a part beside what is written
pub part_over_other : (a : ℕ) (ys xs : List ℕ) (i n : ℕ) → a + length ys ≤ length xs → (i + n ≤ a) ⊎ (a + length ys ≤ i) → part i n (over a ys xs) ≡ part i n xs
part_over_other a ys xs i n h w =
    same_lists _ _ (simp (length-take, length-drop, length-append) (omega arith)) (λ k d l. grind (arith, places))

-- a part of what is written
pub part_over_part : (a : ℕ) (ys xs : List ℕ) (i n : ℕ) → a + length ys ≤ length xs → i + n ≤ length ys → part (a + i) n (over a ys xs) ≡ part i n ys
part_over_part a ys xs i n h w =
    same_lists _ _ (simp (length-take, length-drop, length-append) (omega arith)) (λ k d l. grind (arith, places))

pub part_over_same : (a : ℕ) (ys xs : List ℕ) → a + length ys ≤ length xs → part a (length ys) (over a ys xs) ≡ ys
part_over_same a ys xs h =
    same_lists _ _ (simp (length-take, length-drop, length-append) (omega arith)) (λ k d l. grind (arith, places))

-- two writes, one after the other
pub over_more : (a : ℕ) (ys zs xs : List ℕ) → (a + length ys) + length zs ≤ length xs → over (a + length ys) zs (over a ys xs) ≡ over a (ys ++ zs) xs
over_more a ys zs xs h =
    same_lists _ _ (simp (length-take, length-drop, length-append) (omega arith)) (λ k d l. grind (arith, places))

-- a write to the part from a to e
pub put_over : (a e : ℕ) (ys xs : List ℕ) → length ys ≡ e - a → a ≤ e → put_mid a (e - a) xs ys ≡ over a ys xs
put_over a e ys xs l h =
    let m : a + (e - a) ≡ a + length ys = omega arith in
    ap (λ (t : List ℕ). take a xs ++ (ys ++ t)) (drop-drop (e - a) a xs ∙ ap (λ (n : ℕ). drop n xs) m)

-- a part laid back where it stood
pub over_back : (a n : ℕ) (xs : List ℕ) → a + n ≤ length xs → over a (part a n xs) xs ≡ xs
over_back a n xs h =
    let m : (a + n) - a ≡ n = omega arith in
    sym (put_over a (a + n) (part a n xs) xs (length_part a n xs h ∙ sym m) (omega arith))
    ∙ ap (λ (k : ℕ). put_mid a k xs (part a n xs)) m
    ∙ put_same a n xs

-- a write over the front of the part from a to e
pub put_front : (a e : ℕ) (ys xs : List ℕ) → a ≤ e → e ≤ length xs → length ys ≤ e - a → put_mid a (e - a) xs (over 0 ys (part a (e - a) xs)) ≡ over a ys xs
put_front a e ys xs h l m =
    put_over a e (over 0 ys (part a (e - a) xs)) xs
    (length_over 0 ys (part a (e - a) xs) (omega (arith, length_part a (e - a) xs (omega arith))) ∙ length_part a (e - a) xs (omega arith)) h
    ∙ same_lists _ _ (simp (length-take, length-drop, length-append) (omega arith)) (λ k d l. grind (arith, places))

pub get_d_part : (a n : ℕ) (xs : List ℕ) (i d : ℕ) → i < n → get_or (part a n xs) i d ≡ get_or xs (a + i) d
get_d_part a n xs i d h = get_or-take n (drop a xs) i d h ∙ get_or-drop a xs i d
