-- What comes of an attempt at a sector, and of a format.
use Rattle.std.specs.Prelude.{ℕ, ◌+◌, min, Bool, true, false, cond, not, ◌&&◌, ◌||◌, List, ◌++◌, take, drop, replicate, Some, None, Option, Ok, Err, Result, ◌==◌, nat_lt}
use Rattle.sector.specs.declared.size.SizeCode.{SizeCode}
use Rattle.sector.specs.declared.wrong_bits.Burst.{Burst}
use Rattle.sector.specs.Sizes.{bytes_of}
use Rattle.sector.specs.Bits.{inverted, set_of}
use Rattle.check_code.specs.declared.mode.CheckMode.{CheckMode}
use Rattle.check_code.specs.Code.{check_bytes_of, difference_of}
use Rattle.check_code.specs.Mode.{code_of}
use Rattle.burst.specs.Search.{first_burst}
use Rattle.drive.specs.declared.buffer.SectorBuffer.{SectorBuffer}
use Rattle.drive.specs.declared.answers.ReadError.{ReadError}
use Rattle.drive.specs.declared.answers.ReadError.TheVariants as read_error
use Rattle.drive.specs.declared.answers.WriteError.{WriteError}
use Rattle.drive.specs.declared.answers.WriteError.TheVariants as write_error
use Rattle.drive.specs.declared.answers.FormatError.{FormatError}
use Rattle.drive.specs.Calls.{blank_buffer}
use Rattle.task_file.specs.declared.sdh.Selection.{Selection}
use Rattle.task_file.specs.declared.registers.Registers.{Registers}
use Rattle.task_file.specs.declared.command.ReadMode.{ReadMode}
use Rattle.task_file.specs.declared.command.WriteMode.{WriteMode}
use Rattle.task_file.specs.declared.failure.SectorError.{SectorError}
use Rattle.task_file.specs.declared.failure.SectorError.TheVariants as error
use Rattle.task_file.specs.declared.failure.Failure.{Failure}
use Rattle.task_file.specs.declared.failure.Failure.TheVariants as failure
use Rattle.task_file.specs.declared.state.ReadJob.{ReadJob}
use Rattle.task_file.specs.declared.state.WriteJob.{WriteJob}
use Rattle.task_file.specs.declared.state.Job.TheVariants as job
use Rattle.task_file.specs.declared.state.Load.TheVariants.{Sector}
use Rattle.task_file.specs.declared.state.Phase.TheVariants.{Busy, Offering, Taking}
use Rattle.task_file.specs.declared.state.State.{State}
use Rattle.task_file.specs.declared.attempts.Verdict.{Verdict}
use Rattle.task_file.specs.declared.attempts.Verdict.TheVariants.{Take, Correct, Retry, Fail, Abort}
use Rattle.task_file.specs.Registers.{place_under, next_sector}
use Rattle.task_file.specs.Sdh.{size_at, mode_at}
use Rattle.task_file.specs.Aborting.{is_ecc}
use Rattle.task_file.specs.State.{ended, failed}

-- ---- failures
-- the attempts made at a sector, with one more; they are never more than nine
abbrev pub attempts_with : ℕ → ℕ
attempts_with attempts = min attempts 8 + 1

-- a failure at the sector that the registers name, after so many attempts and one more
abbrev pub sector_failure : Registers → Selection → ℕ → SectorError → Failure
sector_failure r at attempts e = failure.Sector (record { error = e; place = place_under r at; attempts = attempts_with attempts })

-- ---- judging a read attempt
-- What an attempt showed, by its answer and what it left in the buffer: an error, or the difference of what was delivered.
-- With L = 1 a delivery is not judged, and shows no difference.
abbrev pub outcome_of : Result (Unit {0}) ReadError → Bool → CheckMode → SizeCode → SectorBuffer → Result (Option ℕ) ReadError
outcome_of (Err e) long mode size b = Err e
outcome_of (Ok _) long mode size b =
    Ok (cond long None (Some (difference_of (code_of mode) (take (bytes_of size) b.bytes) b.check)))

-- the attempt just before had this difference
abbrev pub seen_before : Option ℕ → ℕ → Bool
seen_before (Some before) d = before == d
seen_before None d = false

-- another attempt, up to nine; the ninth one's cause is the failure
abbrev pub retried : ℕ → Option ℕ → SectorError → Verdict
retried attempts previous e = cond (nat_lt attempts 8) (Retry previous) (Fail e)

-- What is done about an attempt, by the attempts made before it and the difference of the one just before.
-- Bad block fails at once; a drive that is not ready, which no history meets, aborts. Under ECC a nonzero difference equal to
-- the one just before is corrected.
abbrev pub verdict_of : CheckMode → ℕ → Option ℕ → Result (Option ℕ) ReadError → Verdict
verdict_of mode attempts previous (Err read_error.NotReady) = Abort
verdict_of mode attempts previous (Err read_error.NoId) = retried attempts None error.IdNotFound
verdict_of mode attempts previous (Err read_error.BadBlock) = Fail error.BadBlock
verdict_of mode attempts previous (Err read_error.NoDataMark) = retried attempts None error.NoDataMark
verdict_of mode attempts previous (Ok None) = Take
verdict_of mode attempts previous (Ok (Some d)) =
    cond (d == 0) Take (cond (is_ecc mode && seen_before previous d) (Correct d) (retried attempts (Some d) error.Data))

-- ---- what a read attempt leads to
-- the buffer is offered; INTRQ comes with the last sector's DRQ unless D is 1
abbrev pub offering : State → ReadMode → Bool → State
offering s m last = record s { intrq = s.intrq || (last && not m.dma); phase = Offering m 0 }

-- the sector in the buffer is taken: with M = 1 the count goes down and the number up, and it is the last when the count is 0
abbrev pub sector_taken : State → ReadMode → State
sector_taken s m =
    cond m.multiple
    (offering (record s { registers = next_sector s.registers }) m ((next_sector s.registers).count == 0))
    (offering s m true)

-- a failed read offers as many zeros where it is single, and ends without data where M = 1
abbrev pub read_failed : State → ReadMode → Failure → State
read_failed s m f = cond m.multiple (failed s f) (offering (record s { failure = Some f; buffer = blank_buffer }) m true)

-- the buffer with a burst mended in the sector's n bytes
abbrev pub mended_buffer : ℕ → Burst → SectorBuffer → SectorBuffer
mended_buffer n burst b = record b { bytes = inverted (set_of burst) (take n b.bytes) ++ drop n b.bytes }

-- a correction: by the burst that the search takes, or a data error where no burst fits
abbrev pub corrected_by : Option Burst → State → ReadMode → Failure → State
corrected_by (Some burst) s m f =
    sector_taken (record s { corrected = true; buffer = mended_buffer (bytes_of (size_at s.registers.sdh)) burst s.buffer }) m
corrected_by None s m f = read_failed s m f

-- what a verdict leads to
abbrev pub read_by : Verdict → State → ReadJob → Selection → State
read_by Take s j at = sector_taken s j.mode
read_by (Correct d) s j at =
    corrected_by (first_burst (size_at s.registers.sdh) d) s j.mode (sector_failure s.registers at j.attempts error.Data)
read_by (Retry previous) s j at =
    record s { phase = Busy (job.Read (record j { attempts = attempts_with j.attempts; previous = previous })) }
read_by (Fail e) s j at = read_failed s j.mode (sector_failure s.registers at j.attempts e)
read_by Abort s j at = failed s failure.Aborted

-- what an attempt's answer leads to, with what it delivered in the buffer
unfoldable pub read_judged : Result (Unit {0}) ReadError → State → ReadJob → Selection → State
read_judged a s j at =
    read_by
    (verdict_of (mode_at s.registers.sdh) j.attempts j.previous
    (outcome_of a j.mode.long (mode_at s.registers.sdh) (size_at s.registers.sdh) s.buffer))
    s j at

-- ---- what a write attempt leads to
-- the sector is written: with M = 1 the count goes down and the number up, and the next sector is asked for until the count is 0
abbrev pub sector_written : State → WriteMode → State
sector_written s m =
    cond m.multiple
    (let t = record s { registers = next_sector s.registers } in cond (t.registers.count == 0) (ended t) (record t { phase = Taking (Sector m) 0 }))
    (ended s)

-- what an attempt's answer leads to; that the drive refuses is met in no history
abbrev pub write_judged : Result (Unit {0}) WriteError → State → WriteJob → Selection → State
write_judged (Ok _) s j at = sector_written s j.mode
write_judged (Err write_error.NotReady) s j at = failed s failure.Aborted
write_judged (Err write_error.Protected) s j at = failed s failure.Aborted
write_judged (Err write_error.NoId) s j at =
    cond (nat_lt j.attempts 8)
    (record s { phase = Busy (job.Write (record j { attempts = attempts_with j.attempts })) })
    (failed s (sector_failure s.registers at j.attempts error.IdNotFound))
write_judged (Err write_error.BadBlock) s j at = failed s (sector_failure s.registers at j.attempts error.BadBlock)

-- ---- formats
-- the check bytes of a sector of zeros
abbrev pub zero_check : CheckMode → SizeCode → List ℕ
zero_check mode size = check_bytes_of (code_of mode) (replicate (bytes_of size) 0)

-- a done format ends with count 0; that the drive refuses is met in no history
abbrev pub format_judged : Result (Unit {0}) FormatError → State → State
format_judged (Ok _) s = ended (record s { registers = record s.registers { count = 0 } })
format_judged (Err e) s = failed s failure.Aborted
