-- Bytes that move between the host and the buffer.
use Rattle.std.specs.Prelude.{ℕ, ◌+◌, ◌-◌, Bool, false, cond, not, ◌&&◌, take, ◌==◌, nat_lt, slice_index, slice_set}
use Rattle.sector.specs.declared.size.SizeCode.{SizeCode}
use Rattle.sector.specs.Sizes.{bytes_of}
use Rattle.check_code.specs.Code.{check_bytes_of}
use Rattle.check_code.specs.Mode.{code_of}
use Rattle.drive.specs.declared.buffer.SectorBuffer.{SectorBuffer}
use Rattle.task_file.specs.declared.command.ReadMode.{ReadMode}
use Rattle.task_file.specs.declared.state.Job.TheVariants as job
use Rattle.task_file.specs.declared.state.Load.{Load}
use Rattle.task_file.specs.declared.state.Load.TheVariants.{Sector, Track}
use Rattle.task_file.specs.declared.state.Phase.TheVariants.{Rest, Busy, Offering, Taking}
use Rattle.task_file.specs.declared.state.State.{State}
use Rattle.task_file.specs.Sdh.{size_at, mode_at}
use Rattle.task_file.specs.State.{first_read, ended}

-- how many bytes move for a sector: its own, and four check bytes where L is 1
abbrev pub moved_length : SizeCode → Bool → ℕ
moved_length size long = cond long (bytes_of size + 4) (bytes_of size)

-- the byte of a buffer that moves at a place: the n bytes of the sector first, then the check bytes
abbrev pub byte_at : SectorBuffer → ℕ → ℕ → ℕ
byte_at b n at = cond (nat_lt at n) (slice_index b.bytes at) (slice_index b.check (at - n))

-- the buffer with another byte at a place
abbrev pub with_byte : SectorBuffer → ℕ → ℕ → ℕ → SectorBuffer
with_byte b n at byte =
    cond (nat_lt at n) (record b { bytes = slice_set b.bytes at byte }) (record b { check = slice_set b.check (at - n) byte })

-- ---- bytes offered
-- the last byte offered was drawn: the next sector of a multiple read begins, or the read is over, with INTRQ where D is 1
abbrev pub all_drawn : State → ReadMode → State
all_drawn s m =
    cond (m.multiple && not (s.registers.count == 0))
    (record s { phase = Busy (job.Read (first_read m)) })
    (cond m.dma (ended s) (record s { phase = Rest }))

-- the byte at a place was drawn
unfoldable pub drawn_at : State → ReadMode → ℕ → State
drawn_at s m at =
    cond (nat_lt at (moved_length (size_at s.registers.sdh) m.long - 1)) (record s { phase = Offering m (at + 1) }) (all_drawn s m)

-- the byte that is offered; in another phase 0
abbrev pub offered : State → ℕ
offered s =
    elim s.phase [
      | Rest ↦ 0
      | Busy j ↦ 0
      | Offering m at ↦ byte_at s.buffer (bytes_of (size_at s.registers.sdh)) at
      | Taking l at ↦ 0
    ]

-- it was drawn; in another phase nothing changes
abbrev pub drawn : State → State
drawn s = elim s.phase [ Rest ↦ s | Busy j ↦ s | Offering m at ↦ drawn_at s m at | Taking l at ↦ s ]

-- ---- bytes taken
-- four check bytes come too
abbrev pub load_is_long : Load → Bool
load_is_long (Sector m) = m.long
load_is_long Track = false

-- with the check bytes of the bytes in the buffer, by the code that SDH selects
abbrev pub checked : State → State
checked s =
    let bytes = take (bytes_of (size_at s.registers.sdh)) s.buffer.bytes in
    record s { buffer = record s.buffer { check = check_bytes_of (code_of (mode_at s.registers.sdh)) bytes } }

-- the last byte was taken: a plain write's check bytes are made, a long one's came from the host
abbrev pub filled : State → Load → State
filled s (Sector m) = record (cond m.long s (checked s)) { phase = Busy (job.Write (record { mode = m; attempts = 0 })) }
filled s Track = record s { phase = Busy job.Format }

-- a byte was taken at a place
unfoldable pub put_at : State → Load → ℕ → ℕ → State
put_at s l at byte =
    let size = size_at s.registers.sdh in
    let t = record s { buffer = with_byte s.buffer (bytes_of size) at byte } in
    cond (nat_lt at (moved_length size (load_is_long l) - 1)) (record t { phase = Taking l (at + 1) }) (filled t l)

-- a byte was taken; in another phase it is dropped
abbrev pub put : State → ℕ → State
put s byte = elim s.phase [ Rest ↦ s | Busy j ↦ s | Offering m at ↦ s | Taking l at ↦ put_at s l at byte ]
