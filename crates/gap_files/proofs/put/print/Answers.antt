use Rattle.std.proofs.Common.{inl}
use Rattle.gap_files.specs.declared.trouble.Trouble.TheVariants.{Failed, OutOfMemory}
use Rattle.gap_files.proofs.PutLaws.{print_done, print_front, keeps_sink, rose_by_one}
use Rattle.gap_files.proofs.put.print.Goals as goal

pub returns-in-Ok : goal.returns-in-Ok
returns-in-Ok g c = λ name files. record {
  does = print_done name files (g.S.Sink.sink c.args.out.now) (g.S.Sink.sink c.write.new.self) c.args.bytes.now tt c.in-Ok.ensures.bytes;
  cause = tt;
  keeps = keeps_sink name files (g.S.Sink.sink c.args.out.now) (g.S.Sink.sink c.write.new.self) c.write.ensures.later;
}

pub returns-in-Err-Failed : goal.returns-in-Err-Failed
returns-in-Err-Failed g c = λ name files.
    let e = rw c.in-Err-Failed.field-0-is at c.in-Err-Failed.ensures.bytes in
    let n = rw c.in-Err-Failed.field-0-is at c.in-Err-Failed.ensures.counted in
    record {
      does = print_front name files (g.S.Sink.sink c.args.out.now) (g.S.Sink.sink c.write.new.self) c.args.bytes.now Failed e;
      cause = inl (rose_by_one _ _ n);
      keeps = keeps_sink name files (g.S.Sink.sink c.args.out.now) (g.S.Sink.sink c.write.new.self) c.write.ensures.later;
    }

pub returns-in-Err-OutOfMemory : goal.returns-in-Err-OutOfMemory
returns-in-Err-OutOfMemory g c = λ name files.
    let e = rw c.in-Err-OutOfMemory.field-0-is at c.in-Err-OutOfMemory.ensures.bytes in
    record {
      does = print_front name files (g.S.Sink.sink c.args.out.now) (g.S.Sink.sink c.write.new.self) c.args.bytes.now OutOfMemory e;
      cause = tt;
      keeps = keeps_sink name files (g.S.Sink.sink c.args.out.now) (g.S.Sink.sink c.write.new.self) c.write.ensures.later;
    }
