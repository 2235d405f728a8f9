-- What comes of adding an entry.
use Rattle.std.specs.Prelude.{ℕ, cond, List, [], ◌∷◌, ◌++◌, length, fold, is_ok, Ok, Err, Result, nat_lt}
use Rattle.fault_table.specs.declared.refusal.AddRefusal.{AddRefusal}
use Rattle.fault_table.specs.declared.refusal.AddRefusal.TheVariants.{TableFull, OutOfRange}
use Rattle.fault_table.specs.declared.entry.FaultEntry.{FaultEntry}
use Rattle.fault_table.specs.Entries.{in_range}

-- the refusals by number
abbrev pub refusal_number : AddRefusal → ℕ
refusal_number TableFull = 10
refusal_number OutOfRange = 11

-- a table takes 32 entries, used-up ones counted, and only such as are in range
abbrev pub add_answer : List FaultEntry → FaultEntry → Result (Unit {0}) AddRefusal
add_answer es e = cond (nat_lt (length es) 32) (cond (in_range e) (Ok tt) (Err OutOfRange)) (Err TableFull)

-- an entry that is taken comes last; a refused one changes nothing
abbrev pub after_add : List FaultEntry → FaultEntry → List FaultEntry
after_add es e = cond (is_ok (add_answer es e)) (es ++ e ∷ []) es

-- the entries once others were added one after another, as far as they are taken
abbrev pub all_added : List FaultEntry → List FaultEntry → List FaultEntry
all_added = fold after_add
