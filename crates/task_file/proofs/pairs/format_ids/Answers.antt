-- Each call makes the sector of its pair.
use Rattle.std.proofs.Common.{rules, refl, arith}
use Rattle.task_file.proofs.Ids.{ids_made}
use Rattle.task_file.proofs.pairs.format_ids.Goals as goal

pub returns : goal.returns
returns c n le =
    let made = c.from_fn.ensures.items in
    ids_made _ c.args.bytes.now _ (λ i id f k. search rules) c.from_fn.result 64 0 made.each (omega (arith, made.long)) refl n (omega arith) (omega arith)
