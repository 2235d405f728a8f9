-- The meaning of an image.
use Rattle.drive.specs.Model.{DriveModel}
use Rattle.image.specs.declared.make.Make.{Ghosts}
use Rattle.image.specs.declared.image.Image.{Image}
use Rattle.image.specs.Image.{image_model}

-- the meaning of an image, from its fields
abbrev pub model_of : {M : Type 0} {g : Ghosts M} → Image M g → DriveModel
model_of s = image_model s.geometry s.protected s.cylinder s.memory.items
