-- Every history leads to a controller that is in order, and a turn of a busy one leaves fewer turns to make.
use Rattle.std.proofs.Common.{◌≡◌, ℕ, zero, suc, ◌+◌, ◌<◌, ◌≤◌, true, false, List, [], ◌∷◌, ◌++◌, Some, None, Option, sym, refl, ap, ◌∙◌, subst, add-one, arith}
use Rattle.std.proofs.lemmas.Bool.Decides.{nat_tests}
use Rattle.std.specs.Option.{option_map}
use Rattle.drive.specs.Model.{DriveModel}
use Rattle.task_file.specs.declared.registers.Registers.{Registers}
use Rattle.task_file.specs.declared.bay.Bay.{Bay}
use Rattle.task_file.specs.declared.sdh.Selection.{Selection}
use Rattle.task_file.specs.declared.state.Job.{Job}
use Rattle.task_file.specs.declared.state.Job.TheVariants.{Test}
use Rattle.task_file.specs.declared.state.Phase.{Phase}
use Rattle.task_file.specs.declared.state.Phase.TheVariants.{Busy}
use Rattle.task_file.specs.declared.state.State.{State}
use Rattle.task_file.specs.declared.view.DriveView.{DriveView}
use Rattle.task_file.specs.Registers.{cylinder_of}
use Rattle.task_file.specs.Sdh.{selected}
use Rattle.task_file.specs.State.{is_busy}
use Rattle.task_file.specs.Beginning.{begun}
use Rattle.task_file.specs.Moving.{drawn_at, put_at}
use Rattle.controller.specs.Turns.{worked}
use Rattle.controller.specs.Model.{ControllerModel, with_drive, seen_at, seen, turned_in, after_turn}
use Rattle.controller.specs.declared.call.Call.{Call}
use Rattle.controller.specs.declared.call.Call.TheVariants as call
use Rattle.controller.specs.Runs.{called, runs, IsNew, Reached}
use Rattle.histories.specs.Working.{turn_calls, turns, under_way, Able, Counted, InOrder, AlwaysInOrder}
use Rattle.controller.specs.Access.{state_after_read, state_after_write}
use Rattle.controller.proofs.Runs.{runs_joined}
use Rattle.task_file.proofs.Bays.{same_bay_self}
use Rattle.histories.proofs.Working.{able_job, able_none, moves_some, left_in, same_view, advances}

-- ---- calls that are no turns
-- what is seen of the drives depends on SDH alone
seen_same : (b : ControllerModel) (s : State) → s.registers.sdh ≡ b.state.registers.sdh → seen (record b { state = s }) ≡ seen b
seen_same b s e = ap (λ x. option_map (seen_at b) (selected x)) e

-- a state that is in order at a drive, and at any other unless SDH is as it was
record Orderly (v : Option DriveView) (sdh : ℕ) (s : State) : Type 0 where
  able : (z : Option DriveView) → (s.registers.sdh ≡ sdh → z ≡ v) → Able (under_way s.phase) s.registers z
  counted : Counted s.phase s.registers

in_order : (b : ControllerModel) (s : State) → Orderly (seen b) b.state.registers.sdh s → InOrder (record b { state = s })
in_order b s orderly = record { able = orderly.able _ (seen_same b s); counted = orderly.counted }

module _ (v : Option DriveView) (s : State) (able : Able (under_way s.phase) s.registers v) (counted : Counted s.phase s.registers) where
  orderly_read : (n : ℕ) → Orderly v s.registers.sdh (state_after_read s n)
  unfolding state_after_read drawn_at
  orderly_read n = record { able = λ z same. grind arith; counted = grind (arith, nat_tests) }

  orderly_write : (n byte : ℕ) → Orderly v s.registers.sdh (state_after_write s v n byte)
  unfolding state_after_write put_at begun
  orderly_write n byte = record { able = λ z same. grind arith; counted = grind (arith, nat_tests, moves_some) }

-- ---- turns
-- the cylinder that the head of the selected drive stands at
abbrev pub head_in : Option Selection → ControllerModel → ℕ
head_in (Some at) b = (b.drives at.bay).cylinder
head_in None b = 0

-- at most how many turns a controller has left
abbrev pub left : ControllerModel → ℕ
left b = left_in b.state.phase (head_in (selected b.state.registers.sdh) b) (cylinder_of b.state.registers)

-- the drive that is put into a bay is there
pub drive_put : (b : ControllerModel) (s : State) (bay : Bay) (d : DriveModel) → (with_drive b s bay d).drives bay ≡ d
drive_put b s bay d = rw (same_bay_self bay) refl

-- what a turn of a busy controller leads to
pub record Turning (n : ℕ) (e : ControllerModel) : Type 0 where
  pub order : InOrder e
  pub fewer : left e + 1 ≤ n

turning_in : (j : Job) (sel : Option Selection) (b : ControllerModel) → b.state.phase ≡ Busy j → selected b.state.registers.sdh ≡ sel
    → Able (under_way (Busy j)) b.state.registers (option_map (seen_at b) sel) → Counted (Busy j) b.state.registers
    → Turning (left_in (Busy j) (head_in sel b) (cylinder_of b.state.registers)) (turned_in (Busy j) sel b)
turning_in j (Some at) b phase chosen able counted =
    let on = advances at b.state (b.drives at.bay) j phase able counted in
    let t = worked j b.state at (b.drives at.bay) in
    let same = ap selected on.same_sdh ∙ chosen in
    let there = drive_put b t.state at.bay t.drive in
    record {
      order = record { able = rw (same, there, same_view at b.state (b.drives at.bay) j) on.able; counted = on.counted };
      fewer = rw (same, ap (λ (d : DriveModel). d.cylinder) there) on.fewer;
    }
-- without a drive only Test is under way
turning_in Test None b phase chosen able counted = record { order = record { able = tt; counted = tt }; fewer = omega arith }
turning_in j None b phase chosen able counted = absurd (able_none j b.state.registers able (λ e. cc))

-- a turn by phase: at rest and while bytes move nothing changes
turning_by : (p : Phase) (b : ControllerModel) → b.state.phase ≡ p → InOrder b
    → (is_busy p ≡ true → Turning (left b) (turned_in p (selected b.state.registers.sdh) b)) × InOrder (turned_in p (selected b.state.registers.sdh) b)
turning_by (Busy j) b e o =
    let sel = selected b.state.registers.sdh in
    let t = turning_in j sel b e refl (subst (λ q. Able (under_way q) b.state.registers (seen b)) e o.able) (rw e at o.counted) in
    (λ busy. subst (λ q. Turning (left_in q (head_in sel b) (cylinder_of b.state.registers)) (turned_in (Busy j) sel b)) (sym e) t, t.order)
turning_by p b e o = (λ busy. cc, o)

-- a busy controller in order has fewer turns left after one
pub turn_falls : (b : ControllerModel) → InOrder b → is_busy b.state.phase ≡ true → left (after_turn b) + 1 ≤ left b
turn_falls b o busy = ((turning_by b.state.phase b refl o).0 busy).fewer

pub order_turn : (b : ControllerModel) → InOrder b → InOrder (after_turn b)
order_turn b o = (turning_by b.state.phase b refl o).1

-- ---- histories
pub order_new : (b : ControllerModel) → IsNew b → InOrder b
order_new b new = record { able = rw new.is_fresh tt; counted = rw new.is_fresh tt }

pub order_call : (b : ControllerModel) (c : Call) → InOrder b → InOrder (called b c)
order_call b (call.Read n) o = in_order b _ (orderly_read (seen b) b.state o.able o.counted n)
order_call b (call.Write n byte) o = in_order b _ (orderly_write (seen b) b.state o.able o.counted n byte)
order_call b call.Turn o = order_turn b o
order_call b call.Reset o = record { able = tt; counted = tt }

pub order_runs : (b : ControllerModel) (cs : List Call) → InOrder b → InOrder (runs b cs)
unfolding runs
order_runs b [] o = o
order_runs b (c ∷ cs) o = order_runs (called b c) cs (order_call b c o)

-- whatever a history leads to is in order
pub order_reached : (b : ControllerModel) → Reached b → InOrder b
order_reached b r = subst InOrder r.leads (order_runs r.new r.history (order_new r.new r.is_new))

pub always_in_order : AlwaysInOrder
unfolding AlwaysInOrder
always_in_order b new history = order_runs b history (order_new b new)

-- where no turn is left, BUSY is off
pub none_left : (p : Phase) (r : Registers) (at goal : ℕ) → Counted p r → left_in p at goal ≤ 0 → is_busy p ≡ false
none_left p r at goal counted none = grind arith

-- ---- how many turns there can be
-- each head stands, and the cylinders of each drive end, below a number
pub record Within (most : ℕ) (b : ControllerModel) : Type 0 where
  pub stands : (bay : Bay) → (b.drives bay).cylinder < most
  pub ends : (bay : Bay) → (b.drives bay).geometry.cylinders ≤ most

-- a seek over all cylinders but one, and nine attempts
pub left_most : (most : ℕ) (b : ControllerModel) → Within most b → InOrder b → left b ≤ most + 8
left_most most b within order = grind (arith, able_job, able_none, within.stands, within.ends)

-- ---- turns one after another
pub turns_none : (b : ControllerModel) → turns 0 b ≡ b
unfolding runs
turns_none b = refl

pub turns_more : (b : ControllerModel) (k : ℕ) → turns (k + 1) b ≡ after_turn (turns k b)
unfolding runs
turns_more b zero = refl
turns_more b (suc k) = rw (add-one (suc k)) (rw (add-one k) at (turns_more (after_turn b) k))

-- turns continue the calls that led to where they begin
pub turns_on : (b : ControllerModel) (history : List Call) (a e : ControllerModel) (k : ℕ) → runs b history ≡ a → e ≡ turns k a → runs b (history ++ turn_calls k) ≡ e
turns_on b history a e k leads made = runs_joined b history (turn_calls k) ∙ ap (turns k) leads ∙ sym made

-- a controller that is in order, and has so many turns left after those that were made
pub record Still (b : ControllerModel) (made most : ℕ) : Type 0 where
  pub order : InOrder b
  pub few : left b + made ≤ most

pub still_more : (b : ControllerModel) (made most : ℕ) → is_busy b.state.phase ≡ true → Still b made most → Still (after_turn b) (made + 1) most
still_more b made most busy still = record { order = order_turn b still.order; few = omega (arith, still.few, turn_falls b still.order busy) }

pub still_ends : (b : ControllerModel) (most : ℕ) → Still b most most → is_busy b.state.phase ≡ false
still_ends b most still = let none : left b ≤ 0 = omega (arith, still.few) in none_left b.state.phase b.state.registers _ _ still.order.counted none
