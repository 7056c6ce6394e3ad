use Rattle.gap_relax.specs.Rows.{difference_at, slope_at}
use Rattle.gap_relax.proofs.LeastLaws.{least_chosen}
use Rattle.gap_relax.proofs.row.LeastRow.chosen.Goals as goal

pub returns : goal.returns
returns c =
    let r = c.args.self.now in
    let t = c.taken.ensures in
    let s = c.sum_of.ensures in
    record {
      least = λ w h n m. least_chosen w r.seen r.count r.fewest r.most c.taken.result r.value r.slope c.sum_of.result.value c.sum_of.result.slope (difference_at r.extras) (slope_at r.extras) n m h.fewest_are h.most_are r.order r.count_few h.least t.few t.many t.cheaper t.dearer s.value s.slope;
    }
