-- The worked examples, computed from the definitions.
use Rattle.std.proofs.Common.{rules}
use Rattle.burst.specs.Search.{first_burst}
use Rattle.check_code.proofs.Examples.{examples}
use Rattle.drive.specs.Calls.{stepped_in, stepped_out, read_answer, handed_over, after_read, format_answer, after_format}
use Rattle.task_file.specs.Commands.{command_of}
use Rattle.task_file.specs.Aborting.{aborts}
use Rattle.task_file.specs.Beginning.{begun}
use Rattle.task_file.specs.Moving.{drawn_at, put_at}
use Rattle.task_file.specs.Attempts.{read_judged}
use Rattle.controller.specs.Access.{read_answer_of, state_after_read, write_answer_of, state_after_write}
use Rattle.controller.specs.Turns.{worked}
use Rattle.controller.specs.Runs.{runs}
use Rattle.histories.proofs.examples.examples_stand.Goals as goal

pub returns : goal.returns
unfolding runs command_of aborts begun drawn_at put_at read_judged read_answer_of state_after_read write_answer_of state_after_write worked stepped_in stepped_out read_answer handed_over after_read format_answer after_format first_burst
returns c = search (rules, examples)
