-- The record after a format.
use Rattle.std.proofs.Common.{◌≡◌, ℕ, zero, suc, ◌+◌, ◌-◌, ◌*◌, ◌<◌, ◌≤◌, Bool, true, false, cond, ◌||◌, eqb, List, [], ◌∷◌, map, length, get_or, take, replicate, sym, refl, ap, ◌∙◌, ap₂, inl, arith}
use borrow.Rule.Slice.PartMut.{put_mid}
use Rattle.std.specs.List.{list_all, range_with_len, flat_map}
use Rattle.std.proofs.lemmas.Nat.{row_fits}
use Rattle.std.proofs.lemmas.List.{length-replicate, length-map, get_or-map, take-replicate, drop-replicate}
use Rattle.std.proofs.lemmas.List.FromFn.{fill_by_all}
use Rattle.std.proofs.lemmas.Bool.{and_from}
use Rattle.std.proofs.lemmas.Bool.Decides.{nat_tests}
use Rattle.sector.specs.Sizes.{bytes_of, number_of, size_numbered}
use Rattle.sector.specs.declared.size.SizeCode.{SizeCode}
use Rattle.sector.specs.declared.size.SizeCode.TheVariants.{Bytes256, Bytes512, Bytes1024, Bytes128}
use Rattle.sector.proofs.Sizes.{told_by_number}
use Rattle.drive.specs.declared.answers.SectorId.{SectorId}
use Rattle.drive.specs.Model.{no_sector, blank_sector, blank_track}
use Rattle.image.specs.Parts.{part, over}
use Rattle.image.specs.Record.{count_in, code_in, size_in, mark_at, bad_mark, is_marked, pairs_in, formatted, sector_at, track_in, pair_of, with_format}
use Rattle.image.proofs.Windows.{length_over, get_or-over_outside, get_or-over_inside, part_over_other, part_over_part, put_over, put_front, over_more}
use Rattle.image.proofs.Pieces.{length_joined, joined_at, joined_part}
use Rattle.image.proofs.Tracks.{held, pairs_from}

no_id : SectorId
no_id = record { number = 0; bad = false }

-- a size code is at most 3
number_small : (size : SizeCode) → number_of size ≤ 3
number_small Bytes256 = omega arith
number_small Bytes512 = omega arith
number_small Bytes1024 = omega arith
number_small Bytes128 = omega arith

-- a mark that is written is one, and says what it was written for
mark_fits : (b : Bool) → (eqb (cond b bad_mark 0) 0 || eqb (cond b bad_mark 0) bad_mark) ≡ true
mark_fits true = refl
mark_fits false = refl

marked_back : (b : Bool) → eqb (cond b bad_mark 0) bad_mark ≡ b
marked_back true = refl
marked_back false = refl

module _ (ids : List SectorId) (size : SizeCode) (check r : List ℕ) (few : length ids ≤ 64) (four : length check ≡ 4) (room : 386 + length ids * bytes_of size ≤ length r) where
  abbrev pairs : List ℕ
  pairs = flat_map pair_of ids

  abbrev checks : List ℕ
  checks = flat_map (λ _. check) ids

  abbrev zeros : List ℕ
  zeros = replicate (length ids * bytes_of size) 0

  -- the record with its new count, size code and pairs, and then with its new check bytes too
  abbrev headed : List ℕ
  headed = over 0 (length ids ∷ number_of size ∷ pairs) r

  abbrev checked : List ℕ
  checked = over 130 checks headed

  pairs_long : length pairs ≡ 2 * length ids
  pairs_long = length_joined pair_of 2 (λ _. refl) ids

  checks_long : length checks ≡ 4 * length ids
  checks_long = length_joined (λ _. check) 4 (λ _. four) ids

  zeros_long : length zeros ≡ length ids * bytes_of size
  zeros_long = length-replicate (length ids * bytes_of size) 0

  headed_long : length headed ≡ length r
  headed_long = length_over 0 (length ids ∷ number_of size ∷ pairs) r (omega (arith, pairs_long))

  checks_fit : 130 + length checks ≤ length headed
  checks_fit = omega (arith, checks_long, headed_long)

  zeros_fit : 386 + length zeros ≤ length checked
  zeros_fit = omega (arith, zeros_long, length_over 130 checks headed checks_fit, headed_long)

  pub format_long : length (with_format ids size check r) ≡ length r
  format_long = length_over 386 zeros checked zeros_fit ∙ length_over 130 checks headed checks_fit ∙ headed_long

  -- what the four writes of a format leave
  pub format_is : (m : ℕ) (base p c z : List ℕ) → m ≡ bytes_of size
      → base ≡ over 0 (length ids ∷ number_of size ∷ []) r
      → p ≡ over 0 pairs (part 2 128 base)
      → c ≡ over 0 checks (part 130 256 (put_mid 2 128 base p))
      → z ≡ replicate (length ids * m) 0
      → put_mid 386 ((386 + length ids * m) - 386) (put_mid 130 256 (put_mid 2 128 base p) c) z ≡ with_format ids size check r
  format_is m base p c z em eb ep ec ez =
      let long : length base ≡ length r = ap length eb ∙ length_over 0 (length ids ∷ number_of size ∷ []) r (omega arith) in
      let first : put_mid 2 128 base p ≡ headed =
      ap (put_mid 2 128 base) ep ∙ put_front 2 130 pairs base (omega arith) (omega arith) (omega (arith, pairs_long))
      ∙ ap (over 2 pairs) eb ∙ over_more 0 (length ids ∷ number_of size ∷ []) pairs r (omega (arith, pairs_long)) in
      let second : put_mid 130 256 (put_mid 2 128 base p) c ≡ checked =
      ap₂ (put_mid 130 256) first (ec ∙ ap (λ (t : List ℕ). over 0 checks (part 130 256 t)) first)
      ∙ put_front 130 386 checks headed (omega arith) (omega (arith, headed_long)) (omega (arith, checks_long)) in
      let third : z ≡ zeros = ez ∙ ap (λ (t : ℕ). replicate (length ids * t) 0) em in
      let used : length z ≡ (386 + length ids * m) - 386 = ap length ez ∙ length-replicate (length ids * m) 0 ∙ omega arith in
      put_over 386 (386 + length ids * m) z _ used (omega arith) ∙ ap₂ (over 386) third second

  -- ---- what the record then says
  abbrev new : List ℕ
  new = with_format ids size check r

  head_of : (j : ℕ) → j < 2 + 2 * length ids → get_or new j 0 ≡ get_or (length ids ∷ number_of size ∷ pairs) j 0
  head_of j h =
      get_or-over_outside 386 zeros checked j 0 zeros_fit (inl (omega arith))
      ∙ get_or-over_outside 130 checks headed j 0 checks_fit (inl (omega arith))
      ∙ ap (λ (n : ℕ). get_or headed n 0) (let e : j ≡ 0 + j = omega arith in e)
      ∙ get_or-over_inside 0 (length ids ∷ number_of size ∷ pairs) r j 0 (omega (arith, pairs_long)) (omega (arith, pairs_long))

  count_new : count_in new ≡ length ids
  count_new = head_of 0 (omega arith)

  code_new : code_in new ≡ number_of size
  code_new = head_of 1 (omega arith)

  size-new : size_in new ≡ size
  size-new = ap size_numbered code_new ∙ told_by_number size

  module _ (i : ℕ) (h : i < length ids) where
    abbrev id : SectorId
    id = get_or ids i no_id

    pair_new : (n j : ℕ) → n ≡ suc (suc (2 * i + j)) → j < 2 → get_or new n 0 ≡ get_or (pair_of id) j 0
    pair_new n j e l =
        ap (λ (m : ℕ). get_or new m 0) e ∙ head_of (suc (suc (2 * i + j))) (omega arith) ∙ joined_at pair_of 2 (λ _. refl) ids i no_id h j 0 l

    mark_new : mark_at new i ≡ cond id.bad bad_mark 0
    mark_new = pair_new (3 + 2 * i) 1 (omega arith) (omega arith)

    check-new : part (130 + 4 * i) 4 new ≡ check
    check-new =
        part_over_other 386 zeros checked (130 + 4 * i) 4 zeros_fit (inl (omega arith))
        ∙ part_over_part 130 checks headed (4 * i) 4 checks_fit (omega (arith, checks_long))
        ∙ joined_part (λ _. check) 4 (λ _. four) ids i no_id h

    bytes_new : part (386 + i * bytes_of size) (bytes_of size) new ≡ replicate (bytes_of size) 0
    bytes_new =
        let low : i * bytes_of size + bytes_of size ≤ length ids * bytes_of size = row_fits i (bytes_of size) (length ids) (bytes_of size) h (omega arith) in
        part_over_part 386 zeros checked (i * bytes_of size) (bytes_of size) zeros_fit (omega (arith, zeros_long))
        ∙ ap (take (bytes_of size)) (drop-replicate (i * bytes_of size) (length ids * bytes_of size) 0)
        ∙ take-replicate (bytes_of size) (length ids * bytes_of size - i * bytes_of size) 0 (omega arith)

    sector_new : sector_at new i ≡ blank_sector size check id
    sector_new =
        λ j.
        record {
          number = pair_new (2 + 2 * i) 0 (omega arith) (omega arith) j;
          size = size-new j;
          bad = (ap (λ (m : ℕ). eqb m bad_mark) mark_new ∙ marked_back id.bad) j;
          bytes = (ap (λ (z : ℕ). part (386 + i * z) z new) (ap bytes_of size-new) ∙ bytes_new) j;
          check = check-new j;
        }

  marks_new : (i n : ℕ) → i + n ≤ length ids → list_all is_marked (pairs_from new i n) ≡ true
  marks_new i zero h = refl
  marks_new i (suc n) h =
      and_from _ _ (ap (λ (m : ℕ). eqb m 0 || eqb m bad_mark) (mark_new i (omega arith)) ∙ mark_fits (get_or ids i no_id).bad)
      (marks_new (i + 1) n (omega arith))

  formatted-new : 1 ≤ length ids → formatted new ≡ true
  formatted-new some =
      let count = count_new in
      let code : code_in new ≤ 3 = omega (arith, code_new, number_small size) in
      let bytes = ap bytes_of size-new in
      let long = format_long in
      let marks : list_all is_marked (pairs_in new) ≡ true = ap (λ (n : ℕ). list_all is_marked (pairs_from new 0 n)) count_new ∙ marks_new 0 (length ids) (omega arith) in
      grind (arith, nat_tests)

  -- the track is the one that a format lays down
  pub track_formatted : 1 ≤ length ids → track_in new ≡ blank_track ids size check
  track_formatted some =
      held new (formatted-new some) ∙ ap (λ (n : ℕ). map (sector_at new) (range_with_len 0 n)) count_new
      ∙ sym (fill_by_all (sector_at new) (blank_track ids size check) (length ids) no_sector (length-map ids (blank_sector size check))
      (λ i h. get_or-map (blank_sector size check) ids i no_id no_sector h ∙ sym (sector_new i h)))
