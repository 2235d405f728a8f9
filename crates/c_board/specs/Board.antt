-- The board that C describes.
use Rattle.std.specs.Prelude.{ℕ, cond, List, [], ◌∷◌, length, map, is_none, ◌==◌}
use Rattle.drive.specs.declared.geometry.Geometry.{Geometry}
use Rattle.drive.specs.Bounds.{Measures, measures}
use Rattle.drive.specs.Model.{DriveModel}
use Rattle.drive.specs.Empty.{empty_model}
use Rattle.image.specs.Image.{image_model, refusal_of}
use Rattle.fault_table.specs.declared.entry.FaultEntry.{FaultEntry}
use Rattle.fault_table.specs.declared.entry.FaultKind.{FaultKind}
use Rattle.fault_table.specs.declared.entry.FaultKind.TheVariants.{NoId, NoDataMark, WrongBits}
use Rattle.fault_table.specs.Adding.{all_added}
use Rattle.fault_table.specs.Faults.{with_faults}
use Rattle.task_file.specs.declared.bay.Bay.{Bay}
use Rattle.controller.specs.Model.{ControllerModel, drives_of, made}
use Rattle.c_board.specs.declared.board.ImageMeasures.{ImageMeasures}
use Rattle.c_board.specs.declared.board.PlainFault.{PlainFault}

-- the measures of an image, without whether it is protected
abbrev pub geometry_of : ImageMeasures → Geometry
geometry_of m = record { cylinders = m.cylinders; heads = m.heads; capacity = m.capacity }

-- ---- faults
-- the kind of a number; one that no kind has stands for wrong bits
abbrev pub kind_of : ℕ → FaultKind
kind_of n = cond (n == 1) NoId (cond (n == 2) NoDataMark WrongBits)

-- the entry that a fault of C makes
abbrev pub entry_of : PlainFault → FaultEntry
entry_of f =
    record {
      place = record { cylinder = f.cylinder; head = f.head; number = f.number };
      kind = kind_of f.kind;
      burst = record { first = f.first; pattern = f.pattern };
      attempts = f.attempts;
    }

-- ---- drives
-- what a bay means that an image of a make with these limits was made for; it is empty where the image is refused
abbrev pub bay_model : Measures → ImageMeasures → List ℕ → DriveModel
bay_model most m memory =
    cond (is_none (refusal_of most (geometry_of m) (length memory))) (image_model (geometry_of m) m.protected 0 memory) (empty_model memory)

-- the Winchester under its faults, the floppy, and a controller that is made now over both
unfoldable pub board_model : ImageMeasures → List ℕ → List PlainFault → ImageMeasures → List ℕ → ControllerModel
board_model w winchester faults f floppy =
    let table = with_faults (all_added [] (map entry_of faults)) (bay_model (measures 1024 8) w winchester) in
    made (drives_of (λ d. d) (table ∷ bay_model (measures 256 2) f floppy ∷ []))

-- ---- what is left in the bytes that C gave
-- what the drive in a bay holds
unfoldable pub held : ControllerModel → Bay → List ℕ
held b bay = (b.drives bay).memory

-- others of the same number; where they are more or fewer, the old ones stay
unfoldable pub fitting : {A : Type 0} → List A → List A → List A
fitting new old = cond (length new == length old) new old
