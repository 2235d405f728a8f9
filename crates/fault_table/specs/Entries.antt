-- The entries of a fault table: their kinds and ranges, and which one an attempt meets.
use Rattle.std.specs.Prelude.{ℕ, ◌-◌, ◌%◌, Bool, true, false, cond, ◌&&◌, List, [], ◌∷◌, Some, None, Option, ◌==◌, nat_le, nat_lt}
use Rattle.drive.specs.declared.place.Place.{Place}
use Rattle.fault_table.specs.declared.entry.FaultKind.{FaultKind}
use Rattle.fault_table.specs.declared.entry.FaultKind.TheVariants.{NoId, NoDataMark, WrongBits}
use Rattle.fault_table.specs.declared.entry.FaultEntry.{FaultEntry}

-- the kinds by number
abbrev pub kind_number : FaultKind → ℕ
kind_number NoId = 1
kind_number NoDataMark = 2
kind_number WrongBits = 3

-- Is an entry in range? Its cylinder is below 1,024, its head below 8, its burst's first bit below 8,224 and its pattern odd and
-- below 32, whatever its kind; its attempts are 1 to 65,535, where a u16 ends.
abbrev pub in_range : FaultEntry → Bool
in_range e =
    nat_lt e.place.cylinder 1024
    && (nat_lt e.place.head 8
    && (nat_lt e.burst.first 8224
    && (e.burst.pattern % 2 == 1
    && (nat_lt e.burst.pattern 32
    && nat_le 1 e.attempts))))

-- are they one place?
abbrev pub same_place : Place → Place → Bool
same_place p q = p.cylinder == q.cylinder && (p.head == q.head && p.number == q.number)

-- does an entry apply at this place? A used-up one is passed over
abbrev pub applies_at : Place → FaultEntry → Bool
applies_at p e = same_place e.place p && nat_lt 0 e.attempts

-- an entry with one attempt less
abbrev pub worn : FaultEntry → FaultEntry
worn e = record e { attempts = e.attempts - 1 }

-- the entries once an attempt is made at a place: the first that applies there is worn
abbrev pub spent : Place → List FaultEntry → List FaultEntry
spent p [] = []
spent p (e ∷ es) = cond (applies_at p e) (worn e ∷ es) (e ∷ spent p es)

-- does an entry of this kind keep an attempt from the drive below? No ID does
abbrev pub hides : FaultKind → Bool
hides NoId = true
hides NoDataMark = false
hides WrongBits = false

-- does what an attempt meets?
abbrev pub hides_all : Option FaultEntry → Bool
hides_all None = false
hides_all (Some e) = hides e.kind
