-- Failures: their bits in the error register, their layers, and the last fault.
use Rattle.std.specs.Prelude.{ℕ, Option}
use Rattle.std.specs.Option.{option_map, option_map_or}
use Rattle.task_file.specs.declared.failure.SectorError.{SectorError}
use Rattle.task_file.specs.declared.failure.SectorError.TheVariants.{BadBlock, Data, IdNotFound, NoDataMark}
use Rattle.task_file.specs.declared.failure.Failure.{Failure}
use Rattle.task_file.specs.declared.failure.Failure.TheVariants.{Aborted, TrackZero, Sector}
use Rattle.task_file.specs.declared.failure.Layer.{Layer}
use Rattle.task_file.specs.declared.failure.Layer.TheVariants.{Controller, Drive, CheckCode}
use Rattle.task_file.specs.declared.failure.Fault.{Fault}

-- the bit of the error register: bit 7 bad block, 6 data, 4 ID not found, 0 no data mark
abbrev pub sector_error_bit : SectorError → ℕ
sector_error_bit BadBlock = 0x80
sector_error_bit Data = 0x40
sector_error_bit IdNotFound = 0x10
sector_error_bit NoDataMark = 0x01

-- bit 2 aborted, 1 track 000
abbrev pub error_bit : Failure → ℕ
error_bit Aborted = 0x04
error_bit TrackZero = 0x02
error_bit (Sector f) = sector_error_bit f.error

-- the layer that a sector's failure comes from: the code where the data were wrong, else the drive
abbrev pub sector_layer : SectorError → Layer
sector_layer Data = CheckCode
sector_layer e = Drive

-- the layer that a failure comes from
abbrev pub layer_of : Failure → Layer
layer_of (Sector f) = sector_layer f.error
layer_of f = Controller

-- its number
abbrev pub layer_number : Layer → ℕ
layer_number Controller = 1
layer_number Drive = 2
layer_number CheckCode = 3

-- what a read of the error register gives: 0 without a failure
abbrev pub error_byte : Option Failure → ℕ
error_byte f = option_map_or error_bit f 0

-- a fault of the controller itself, with place and attempts 0
abbrev pub controller_fault : ℕ → Fault
controller_fault error = record { layer = 1; error = error; cylinder = 0; head = 0; number = 0; attempts = 0 }

-- a failure as numbers
abbrev pub fault_of : Failure → Fault
fault_of Aborted = controller_fault 0x04
fault_of TrackZero = controller_fault 0x02
fault_of (Sector f) =
    record {
      layer = layer_number (sector_layer f.error);
      error = sector_error_bit f.error;
      cylinder = f.place.cylinder;
      head = f.place.head;
      number = f.place.number;
      attempts = f.attempts;
    }

-- the last fault: absent without a failure
abbrev pub last_fault : Option Failure → Option Fault
last_fault = option_map fault_of
