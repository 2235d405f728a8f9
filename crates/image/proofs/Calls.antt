-- What attempts at an image and formats of it answer and leave.
use Rattle.std.proofs.Common.{◌≡◌, ℕ, ◌+◌, ◌-◌, ◌*◌, ◌<◌, ◌≤◌, Bool, true, false, cond, not, eqb, List, length, get_or, take, drop, set, Some, Option, Err, Result, is_ok, sym, refl, ap, ◌∙◌, subst, ap₂, arith}
use Rattle.std.proofs.Math.Path.{fun_ext}
use borrow.Rule.Slice.PartMut.{put_mid}
use Rattle.std.specs.Vec.{with_items}
use Rattle.sector.specs.Sizes.{bytes_of}
use Rattle.sector.specs.declared.size.SizeCode.{SizeCode}
use Rattle.drive.specs.declared.buffer.SectorBuffer.{SectorBuffer}
use Rattle.drive.specs.declared.answers.SectorId.{SectorId}
use Rattle.drive.specs.declared.answers.ReadError.{ReadError}
use Rattle.drive.specs.declared.answers.ReadError.TheVariants as read_error
use Rattle.drive.specs.declared.answers.WriteError.{WriteError}
use Rattle.drive.specs.declared.answers.WriteError.TheVariants as write_error
use Rattle.drive.specs.Bounds.{measures, Bytes}
use Rattle.drive.specs.Model.{Sector, no_sector, intact, slot_of, rewritten, DriveModel, blank_track, replaced, Change, sector, track, with_track}
use Rattle.drive.specs.Calls.{done, on_slot, delivered, track_under, attempted_at, written, read_answer, handed_over, write_answer, after_write, format_answer, after_format}
use Rattle.image.specs.declared.make.Make.{Ghosts}
use Rattle.image.specs.declared.image.Image.{Image}
use Rattle.image.specs.Holds.{length_part}
use Rattle.image.specs.Parts.{part, over}
use Rattle.image.specs.Record.{Slot, track_in, sector_at, mark_at, bad_mark, with_sector, with_format}
use Rattle.image.specs.Image.{record_start, record_of, tracks_of, Admissible, image_layout, image_model}
use Rattle.image.specs.Meaning.{model_of}
use Rattle.std.proofs.lemmas.Bool.{cond-true, cond_both, not_from_false}
use Rattle.std.proofs.lemmas.List.{with_items_is}
use Rattle.image.proofs.Windows.{length_over, bytes_over, put_over, over_back}
use Rattle.image.proofs.Tracks.{held_at}
use Rattle.image.proofs.Writes.{track_written, written_long}
use Rattle.image.proofs.Formats.{format_long, track_formatted}
use Rattle.image.proofs.Frames.{record_inside, track_inside, tracks_after}

cond_ap : {A B : Type 0} (f : A → B) (t : Bool) (x y : A) → f (cond t x y) ≡ cond t (f x) (f y)
cond_ap f true x y = refl
cond_ap f false x y = refl

module _ {M : Type 0} {g : Ghosts M} (s : Image M g) (head : ℕ) where
  abbrev memory : List ℕ
  memory = s.memory.items

  -- where the record of the track under the head stands, that record, and the image with another one there
  abbrev pub start_under : ℕ
  start_under = record_start s.geometry s.cylinder head

  abbrev pub record_under : List ℕ
  record_under = record_of s.geometry s.cylinder head memory

  abbrev pub laid : List ℕ → DriveModel
  laid new = image_model s.geometry s.protected s.cylinder (over start_under new memory)

  -- other items in its memory are as many
  pub still_admissible : (new : List ℕ) → Admissible (measures g.MOST_CYLINDERS g.MOST_HEADS) s.geometry (length (with_items s.memory new).items)
  still_admissible new = subst (Admissible _ s.geometry) (sym s.memory.ok.0 ∙ (with_items s.memory new).ok.0) s.fits

  -- an image has nothing to use up
  pub unused : (number : ℕ) → attempted_at (model_of s) head number ≡ model_of s
  unused number =
      ap (λ o. record (model_of s) { outlook = o })
      (fun_ext (λ c. fun_ext (λ h. fun_ext (λ n. fun_ext (λ k. cond_both _ intact intact (λ x. x ≡ intact) (λ _. refl) (λ _. refl))))))

  module _ (below : head < s.geometry.heads) where
    record_room : start_under + (386 + s.geometry.capacity) ≤ length memory
    record_room = record_inside s.geometry s.cylinder head s.inside below memory s.fits.small s.fits.whole

    pub record_long : length record_under ≡ 386 + s.geometry.capacity
    record_long = length_part start_under (386 + s.geometry.capacity) memory record_room

    record_held : track_under (model_of s) head ≡ track_in record_under
    record_held = track_inside s.geometry s.cylinder head s.inside below memory

    -- a change of the track's record, and of no other
    pub changed_model : (change : Change) (new : List ℕ) (ss : List Sector) → over start_under new memory ≡ image_layout s.geometry change memory → length new ≡ 386 + s.geometry.capacity → track_in new ≡ ss → laid new ≡ with_track (model_of s) head ss change
    changed_model change new ss same long holds =
        let tracks : tracks_of s.geometry (over start_under new memory) ≡ replaced (tracks_of s.geometry memory) s.cylinder head ss =
        tracks_after s.geometry s.cylinder head s.inside below memory new (omega (arith, record_room)) long
        ∙ ap (replaced (tracks_of s.geometry memory) s.cylinder head) holds in
        λ j. record (model_of s) { track = tracks j; memory = same j }

    -- the part of the memory that is lent for the record
    module _ (start end : ℕ) (lent : List ℕ) (same : lent ≡ memory) (from : start ≡ start_under) (to : end ≡ start + (386 + s.geometry.capacity)) where
      size_cut : end - start ≡ 386 + s.geometry.capacity
      size_cut = omega arith

      pub cut_out : take (end - start) (drop start lent) ≡ record_under
      cut_out =
          ap (λ (n : ℕ). take n (drop start lent)) size_cut ∙ ap₂ (λ (a : ℕ) (m : List ℕ). part a (386 + s.geometry.capacity) m) from same

      -- the memory with another record laid back there
      module _ (new : List ℕ) (long : length new ≡ length (take (end - start) (drop start lent))) where
        abbrev back : List ℕ
        back = (with_items s.memory (put_mid start (end - start) lent new)).items

        full : length new ≡ 386 + s.geometry.capacity
        full = long ∙ ap length cut_out ∙ record_long

        fits : start_under + length new ≤ length memory
        fits = omega (arith, record_room, full)

        pub laid_is : back ≡ over start_under new memory
        laid_is =
            let put : put_mid start (end - start) lent new ≡ over start_under new memory =
            put_over start end new lent (full ∙ sym size_cut) (omega arith) ∙ ap₂ (λ (a : ℕ) (m : List ℕ). over a new m) from same in
            with_items_is s.memory _ (ap length put ∙ length_over start_under new memory fits ∙ sym s.memory.ok.0) ∙ put

        pub laid_bytes : Bytes new → Bytes back
        laid_bytes b = subst Bytes (sym laid_is) (bytes_over start_under new memory fits b s.bytes)

    module _ (number : ℕ) (size : SizeCode) where
      abbrev meant : Option ℕ
      meant = slot_of (track_under (model_of s) head) number size

      -- ---- with the sector meant in slot k; `r` is the record, as it is cut out of the memory
      module _ (k : ℕ) (there : Some k ≡ meant) (slot : Slot record_under size k) (r : List ℕ) (same : r ≡ record_under) where
        sector_cut : get_or (track_under (model_of s) head) k no_sector ≡ sector_at r k
        sector_cut =
            ap (λ (ss : List Sector). get_or ss k no_sector) record_held ∙ held_at record_under k no_sector slot.whole slot.below
            ∙ ap (λ (x : List ℕ). sector_at x k) (sym same)

        on_cut : {A : Type 0} (missing marked : A) (good : ℕ → A) → on_slot meant (track_under (model_of s) head) missing marked good ≡ cond (eqb (mark_at r k) bad_mark) marked (good k)
        on_cut missing marked good =
            ap (λ (o : Option ℕ). on_slot o (track_under (model_of s) head) missing marked good) (sym there)
            ∙ ap (λ (x : Sector). cond x.bad marked (good k)) sector_cut

        pub read_there : (a : Result (Unit {0}) ReadError) → a ≡ cond (eqb (mark_at r k) bad_mark) (Err read_error.BadBlock) done → a ≡ read_answer (model_of s) head number size
        unfolding read_answer
        read_there a e = e ∙ sym (on_cut (Err read_error.NoId) (Err read_error.BadBlock) (λ _. done))

        pub hand_there : (b new : SectorBuffer) → new ≡ cond (eqb (mark_at r k) bad_mark) b (delivered intact (sector_at r k) b) → new ≡ handed_over (model_of s) head number size b
        unfolding handed_over
        hand_there b new e =
            e
            ∙ ap (λ (x : Sector). cond (eqb (mark_at r k) bad_mark) b (delivered intact x b)) (sym sector_cut)
            ∙ sym (on_cut b b (λ i. delivered intact (get_or (track_under (model_of s) head) i no_sector) b))

        pub write_there : s.protected ≡ false → (a : Result (Unit {0}) WriteError) → a ≡ cond (eqb (mark_at r k) bad_mark) (Err write_error.BadBlock) done → a ≡ write_answer (model_of s) head number size
        unfolding write_answer
        write_there free a e =
            e ∙ sym (on_cut (Err write_error.NoId) (Err write_error.BadBlock) (λ _. done)) ∙ sym (cond-true (not s.protected) _ _ (not_from_false s.protected free))

        -- the memory after the attempt, with the record laid back
        pub after_there : s.protected ≡ false → (b : SectorBuffer) (new : List ℕ) → length (take (bytes_of size) b.bytes) ≡ bytes_of size → length b.check ≡ 4 → new ≡ cond (eqb (mark_at r k) bad_mark) r (with_sector k (take (bytes_of size) b.bytes) b.check r) → laid new ≡ after_write (model_of s) head number size b
        unfolding after_write
        after_there free b new full four e =
            let bytes : List ℕ = take (bytes_of size) b.bytes in
            let kept : laid record_under ≡ model_of s = ap (image_model s.geometry s.protected s.cylinder) (over_back start_under (386 + s.geometry.capacity) memory record_room) in
            let done : laid (with_sector k bytes b.check record_under) ≡ written (model_of s) head size b k =
            changed_model (sector s.cylinder head k bytes b.check) _ _ refl
            (written_long record_under size k bytes b.check slot full four ∙ record_long)
            (track_written record_under size k bytes b.check slot full four
            ∙ ap (λ (l : List Sector). set l k (rewritten (get_or l k no_sector) bytes b.check)) (sym record_held)) in
            ap laid (e ∙ ap (λ (x : List ℕ). cond (eqb (mark_at r k) bad_mark) x (with_sector k bytes b.check x)) same)
            ∙ cond_ap laid (eqb (mark_at r k) bad_mark) _ _
            ∙ ap₂ (cond (eqb (mark_at r k) bad_mark)) kept done
            ∙ ap (λ (d : DriveModel). cond (eqb (mark_at r k) bad_mark) d (written d head size b k)) (sym (unused number))
            ∙ sym (on_cut (attempted_at (model_of s) head number) (attempted_at (model_of s) head number) (written (attempted_at (model_of s) head number) head size b))
            ∙ sym (cond-true (not s.protected) _ _ (not_from_false s.protected free))

    -- the memory after a format, with the record laid back
    pub format_done : (ids : List SectorId) (size : SizeCode) (check new : List ℕ) → done ≡ format_answer (model_of s) head ids size → 1 ≤ length ids → length ids ≤ 64 → length ids * bytes_of size ≤ s.geometry.capacity → length check ≡ 4 → new ≡ with_format ids size check record_under → laid new ≡ after_format (model_of s) head ids size check
    unfolding after_format
    format_done ids size check new granted some few fits four e =
        let room : 386 + length ids * bytes_of size ≤ length record_under = omega (arith, record_long) in
        ap laid e
        ∙ changed_model (track s.cylinder head ids size check) (with_format ids size check record_under) (blank_track ids size check) refl
        (format_long ids size check record_under few four room ∙ record_long) (track_formatted ids size check record_under few four room some)
        ∙ sym (cond-true _ _ _ (ap is_ok (sym granted)))
