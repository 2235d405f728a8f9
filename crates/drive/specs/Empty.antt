-- The bay without a drive, and its meaning.
use Rattle.std.specs.Prelude.{ℕ, false, List, [], Vec}
use Rattle.std.specs.declared.alloc.Global.{Global}
use Rattle.drive.specs.declared.empty.EmptyBay.{EmptyBay}
use Rattle.drive.specs.Model.{DriveModel, intact}

-- one cylinder, one head, no room and no sectors; never ready, unprotected; what memory it has been left stays as it is
abbrev pub empty_model : List ℕ → DriveModel
empty_model memory =
    record {
      geometry = record { cylinders = 1; heads = 1; capacity = 0 };
      ready = false;
      protected = false;
      cylinder = 0;
      track = λ _ _. [];
      outlook = λ _ _ _ _. intact;
      memory = memory;
      layout = λ _ m. m;
    }

-- a bay without a drive that keeps this memory
abbrev pub keeping : Vec ℕ Global → EmptyBay
keeping memory = record { memory = memory }

-- the bytes that it keeps
abbrev pub kept_in : EmptyBay → List ℕ
kept_in b = b.memory.items
