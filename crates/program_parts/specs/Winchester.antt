-- A Winchester that holds nothing yet.
use Rattle.std.specs.Prelude.{◌≡◌, false, replicate}
use Rattle.drive.specs.declared.geometry.Geometry.{Geometry}
use Rattle.image.specs.declared.make.Make.{Ghosts}
use Rattle.image.specs.declared.image.Image.{Image}
use Rattle.image.specs.Image.{image_model, memory_length}
use Rattle.image.specs.Meaning.{model_of}

-- the image has these measures, is unprotected and at cylinder 0, over nothing but zeros
abbrev pub IsBlank : {M : Type 0} {ghosts : Ghosts M} → Geometry → Image M ghosts → Type 0
IsBlank g image = model_of image ≡ image_model g false 0 (replicate (memory_length g) 0)
