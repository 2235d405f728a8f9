-- What holds of the state along every history: the buffer has its room, the bytes taken are the front of it, and what is under way is the command in force.
use Rattle.std.proofs.Common.{◌≡◌, ℕ, ◌+◌, ◌<◌, Bool, true, false, cond, not, ◌&&◌, ◌||◌, ◌⊎◌, List, [], ◌∷◌, ◌++◌, length, take, set, Some, None, Option, sym, ◌∙◌, subst, ap₂, arith, length-set, Result, get_or-set_same}
use Rattle.std.proofs.lemmas.List.{take_more, take-set}
use Rattle.std.proofs.lemmas.Bool.Decides.{nat_tests}
use Rattle.std.proofs.lemmas.Grind.{common_steps}
use Rattle.sector.specs.Sizes.{bytes_of}
use Rattle.sector.proofs.Sizes.{bytes_most}
use Rattle.sector.proofs.Inverted.{length-inverted}
use Rattle.check_code.specs.Code.{check_bytes_of}
use Rattle.check_code.specs.Mode.{code_of}
use Rattle.drive.specs.declared.buffer.SectorBuffer.{SectorBuffer}
use Rattle.drive.specs.declared.answers.ReadError.{ReadError}
use Rattle.drive.specs.declared.answers.WriteError.{WriteError}
use Rattle.drive.specs.declared.answers.FormatError.{FormatError}
use Rattle.task_file.specs.declared.sdh.Selection.{Selection}
use Rattle.task_file.specs.declared.registers.Registers.{Registers}
use Rattle.task_file.specs.declared.command.Command.{Command}
use Rattle.task_file.specs.declared.command.Command.TheVariants as command
use Rattle.task_file.specs.declared.attempts.Verdict.{Verdict}
use Rattle.task_file.specs.declared.state.ReadJob.{ReadJob}
use Rattle.task_file.specs.declared.state.WriteJob.{WriteJob}
use Rattle.task_file.specs.declared.state.Job.TheVariants.{Test, Restore, Seek, Read, Write, Format}
use Rattle.task_file.specs.declared.state.Load.{Load}
use Rattle.task_file.specs.declared.state.Load.TheVariants.{Sector, Track}
use Rattle.task_file.specs.declared.state.Phase.{Phase}
use Rattle.task_file.specs.declared.state.Phase.TheVariants.{Rest, Busy, Offering, Taking}
use Rattle.task_file.specs.declared.state.State.{State}
use Rattle.task_file.specs.declared.view.DriveView.{DriveView}
use Rattle.task_file.specs.Sdh.{size_at, mode_at}
use Rattle.task_file.specs.State.{requests}
use Rattle.task_file.specs.Beginning.{begun}
use Rattle.task_file.specs.Moving.{drawn_at, put_at}
use Rattle.task_file.specs.Attempts.{read_by, read_judged, write_judged, format_judged}
use Rattle.controller.specs.Access.{state_after_read}
use Rattle.histories.specs.Working.{Counted}
use Rattle.round_trip.proofs.Sound.{Buffered}

-- ---- the invariant of the state
-- the bytes taken so far for a plain write or a format are the front of the buffer; once all of a write are taken their check bytes are there
abbrev pub TakenFits : Phase → Registers → SectorBuffer → List ℕ → Type 0
TakenFits (Busy (Write j)) r b taken =
    j.mode.long ≡ false → (take (bytes_of (size_at r.sdh)) b.bytes ≡ taken) × (b.check ≡ check_bytes_of (code_of (mode_at r.sdh)) taken)
TakenFits (Busy Format) r b taken = take (bytes_of (size_at r.sdh)) b.bytes ≡ taken
TakenFits (Taking (Sector m) at) r b taken = m.long ≡ false → take at b.bytes ≡ taken
TakenFits (Taking Track at) r b taken = take at b.bytes ≡ taken
TakenFits p r b taken = Unit {0}

-- what is under way is the command in force
abbrev pub Agrees : Phase → Option Command → Type 0
Agrees Rest o = Unit {0}
Agrees (Busy Test) o = (o ≡ None) ⊎ (o ≡ Some command.Test)
Agrees (Busy (Restore k)) o = o ≡ Some command.Restore
Agrees (Busy Seek) o = o ≡ Some command.Seek
Agrees (Busy (Read j)) o = o ≡ Some (command.Read j.mode)
Agrees (Busy (Write j)) o = o ≡ Some (command.Write j.mode)
Agrees (Busy Format) o = o ≡ Some command.Format
Agrees (Offering m at) o = o ≡ Some (command.Read m)
Agrees (Taking (Sector m) at) o = o ≡ Some (command.Write m)
Agrees (Taking Track at) o = o ≡ Some command.Format

pub record Kept (taken : List ℕ) (o : Option Command) (s : State) : Type 0 where
  pub buffered : Buffered s.buffer
  pub fits : TakenFits s.phase s.registers s.buffer taken
  pub agrees : Agrees s.phase o

-- ---- DRQ coming on
-- between two phases, where a command was accepted or not
abbrev pub news : Phase → Phase → Bool → Bool
news p q accepted = requests q && (not (requests p) || accepted)

-- what is taken after a call
abbrev pub taken_now : Phase → Phase → Bool → List ℕ → List ℕ
taken_now p q accepted taken = cond (news p q accepted) [] taken

no_news : (p : Phase) → news p p false ≡ false
no_news p = grind arith

pub kept_same : (taken : List ℕ) (o : Option Command) (s : State) → Kept taken o s → Kept (taken_now s.phase s.phase false taken) o s
kept_same taken o s k = subst (λ x. Kept (cond x [] taken) o s) (sym (no_news s.phase)) k

-- ---- calls that are no turns
-- a register read
pub kept_read : (taken : List ℕ) (o : Option Command) (s : State) (n : ℕ) → Kept taken o s → Kept (taken_now s.phase (state_after_read s n).phase false taken) o (state_after_read s n)
unfolding state_after_read drawn_at
kept_read taken o s n k = record { buffered = record { bytes_long = grind arith; check_long = grind arith }; fits = grind (arith, nat_tests); agrees = grind (arith, nat_tests) }

-- one byte more at the front
front_more : (xs taken : List ℕ) (at byte : ℕ) → at < length xs → take at xs ≡ taken → take (at + 1) (set xs at byte) ≡ taken ++ (byte ∷ [])
front_more xs taken at byte here e =
    take_more (set xs at byte) at 0 (subst (λ n. at < n) (sym (length-set xs at byte)) here)
    ∙ ap₂ (λ ys y. ys ++ (y ∷ [])) (take-set xs at byte ∙ e) (get_or-set_same xs at byte 0 here)

-- a byte taken
pub kept_put : (taken : List ℕ) (o : Option Command) (s : State) (byte : ℕ) → Kept taken o s → Counted s.phase s.registers → (l : Load) (at : ℕ) → s.phase ≡ Taking l at → Kept (taken ++ (byte ∷ [])) o (put_at s l at byte)
unfolding put_at
kept_put taken o s byte k counted l at e =
    record {
      buffered = record { bytes_long = grind (arith, length-set {A = ℕ}); check_long = grind (arith, length-set {A = ℕ}) };
      fits = grind (arith, nat_tests, front_more);
      agrees = grind arith;
    }

-- a command begun
pub kept_begun : (taken : List ℕ) (s : State) (c : Command) (v : Option DriveView) → Buffered s.buffer → Kept (taken_now s.phase (begun s c v).phase true taken) (Some c) (begun s c v)
unfolding begun
kept_begun taken s c v f = record { buffered = record { bytes_long = grind arith; check_long = grind arith }; fits = grind arith; agrees = grind arith }

-- ---- a turn
abbrev pub turn_taken : List ℕ → State → List ℕ
turn_taken taken t = cond (requests t.phase) [] taken

-- wherever a read leads, a read is in force, and nothing is being taken
verdict_kept : (more : List ℕ) (o : Option Command) (j : ReadJob) → o ≡ Some (command.Read j.mode) → (u : Verdict) (s : State) (on : Selection) → Buffered s.buffer → Kept more o (read_by u s j on)
verdict_kept more o j agrees u s on f =
    record {
      buffered = record { bytes_long = grind (arith, common_steps, length-inverted, bytes_most); check_long = grind arith };
      fits = grind arith;
      agrees = grind arith;
    }

pub read_kept : (more : List ℕ) (o : Option Command) (j : ReadJob) → o ≡ Some (command.Read j.mode) → (a : Result (Unit {0}) ReadError) (s : State) (on : Selection) → Buffered s.buffer → Kept more o (read_judged a s j on)
unfolding read_judged
read_kept more o j agrees a s on f = verdict_kept more o j agrees _ s on f

pub write_kept : (taken : List ℕ) (o : Option Command) (s : State) (j : WriteJob) → Kept taken o (record s { phase = Busy (Write j) }) → (a : Result (Unit {0}) WriteError) (on : Selection)
    → Kept (turn_taken taken (write_judged a s j on)) o (write_judged a s j on)
write_kept taken o s j k a on =
    record { buffered = record { bytes_long = grind arith; check_long = grind arith }; fits = grind arith; agrees = grind arith }

pub format_kept : (more : List ℕ) (o : Option Command) (s : State) → Buffered s.buffer → (a : Result (Unit {0}) FormatError) → Kept more o (format_judged a s)
format_kept more o s f a = record { buffered = record { bytes_long = grind arith; check_long = grind arith }; fits = grind arith; agrees = grind arith }
