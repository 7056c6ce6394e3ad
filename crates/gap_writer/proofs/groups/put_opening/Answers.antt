use Rattle.gap_cert.specs.Certificates.{claim_of}
use Rattle.gap_writer.proofs.Spelled.{opened}
use Rattle.gap_writer.proofs.groups.put_opening.Goals as goal

pub returns : goal.returns
returns c = λ last.
    let part = c.args.part.now in
    opened c.args.out.now.items c.put_start.new.out.items c.put_claim.new.out.items part.weight (claim_of part.outcome part.overall) c.number_of.result last (c.number_of.ensures part.overall) c.in_ok-put_start.ensures c.in_ok-put_claim.ensures
