use Rattle.std.proofs.Common.{◌<◌, ◌≤◌, ◌++◌, length, arith}
use Rattle.gap_cert.specs.Fields.{entry_bytes}
use Rattle.gap_writer.proofs.Spelled.{entries_on, entries_over}
use Rattle.gap_writer.proofs.numbers.put_eighths_entries.Goals as goal

pub loop-i-preserved : goal.loop-i-preserved
loop-i-preserved c =
    let here : c.loop-i.i < length c.args.y.now = omega arith in
    entries_on 4 c.args.y.now c.loop-i.out.items c.put_eighths_entry.new.out.items (c.args.out.now.items ++ entry_bytes 4 1 c.args.y.now) c.loop-i.i c.get.result here c.get.ensures.or_zero c.in_ok-put_eighths_entry.ensures c.loop-i.invariant

pub returns : goal.returns
returns c =
    let over : length c.args.y.now ≤ c.loop-i.i = omega arith in
    entries_over 4 c.args.y.now c.loop-i.out.items (c.args.out.now.items ++ entry_bytes 4 1 c.args.y.now) c.loop-i.i over c.loop-i.invariant
