-- A controller's drives, and its model, by what the make of its drives means.
use Rattle.std.specs.Prelude.{List}
use Rattle.drive.specs.Model.{DriveModel}
use Rattle.controller.specs.declared.controller.Controller.{Controller}
use Rattle.controller.specs.Model.{ControllerModel, model}

-- its drives, in the order of their bays
abbrev pub drives_in : {D : Type 0} {g : _} → Controller D g → List D
drives_in c = c.drives

-- its model
abbrev pub model_of : {D : Type 0} {g : _} → (D → DriveModel) → Controller D g → ControllerModel
model_of meaning c = model meaning c.state c.drives
