use Rattle.std.proofs.Common.{inr}
use Rattle.gap_files.specs.declared.trouble.Trouble.TheVariants.{Failed, OutOfMemory}
use Rattle.gap_files.proofs.PutLaws.{append_done, append_front, append_less, keeps_files, rose_by_one}
use Rattle.gap_files.proofs.put.append.Goals as goal

pub returns-in-Ok-clause-step : goal.returns-in-Ok-clause-step
returns-in-Ok-clause-step g c = λ sink. record {
  does = append_done c.args.name.now (g.F.Files.files c.args.files.now) (g.F.Files.files c.append.new.self) sink c.args.bytes.now tt c.in-Ok.ensures.bytes;
  cause = tt;
  keeps = keeps_files c.args.name.now (g.F.Files.files c.args.files.now) (g.F.Files.files c.append.new.self) sink c.append.ensures.contents c.append.ensures.reads c.append.ensures.others c.append.ensures.later;
}

pub returns-in-Err-Failed-clause-step : goal.returns-in-Err-Failed-clause-step
returns-in-Err-Failed-clause-step g c = λ sink.
    let e = rw c.in-Err-Failed.field-0-is at c.in-Err-Failed.ensures.bytes in
    let n = rw c.in-Err-Failed.field-0-is at c.in-Err-Failed.ensures.counted in
    record {
      does = append_front c.args.name.now (g.F.Files.files c.args.files.now) (g.F.Files.files c.append.new.self) sink c.args.bytes.now Failed e;
      cause = inr (rose_by_one _ _ n);
      keeps = keeps_files c.args.name.now (g.F.Files.files c.args.files.now) (g.F.Files.files c.append.new.self) sink c.append.ensures.contents c.append.ensures.reads c.append.ensures.others c.append.ensures.later;
    }

pub returns-in-Err-Failed-clause-less : goal.returns-in-Err-Failed-clause-less
returns-in-Err-Failed-clause-less g c = λ err some sink.
    let e = rw c.in-Err-Failed.field-0-is at c.in-Err-Failed.ensures.bytes in
    append_less c.args.name.now (g.F.Files.files c.args.files.now) (g.F.Files.files c.append.new.self) sink c.args.bytes.now Failed some e

pub returns-in-Err-OutOfMemory-clause-step : goal.returns-in-Err-OutOfMemory-clause-step
returns-in-Err-OutOfMemory-clause-step g c = λ sink.
    let e = rw c.in-Err-OutOfMemory.field-0-is at c.in-Err-OutOfMemory.ensures.bytes in
    record {
      does = append_front c.args.name.now (g.F.Files.files c.args.files.now) (g.F.Files.files c.append.new.self) sink c.args.bytes.now OutOfMemory e;
      cause = tt;
      keeps = keeps_files c.args.name.now (g.F.Files.files c.args.files.now) (g.F.Files.files c.append.new.self) sink c.append.ensures.contents c.append.ensures.reads c.append.ensures.others c.append.ensures.later;
    }

pub returns-in-Err-OutOfMemory-clause-less : goal.returns-in-Err-OutOfMemory-clause-less
returns-in-Err-OutOfMemory-clause-less g c = λ err some sink.
    let e = rw c.in-Err-OutOfMemory.field-0-is at c.in-Err-OutOfMemory.ensures.bytes in
    append_less c.args.name.now (g.F.Files.files c.args.files.now) (g.F.Files.files c.append.new.self) sink c.args.bytes.now OutOfMemory some e
