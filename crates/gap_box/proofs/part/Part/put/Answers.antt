use Rattle.gap_box.proofs.PartLaws.{put_is}
use Rattle.gap_box.proofs.part.Part.put.Goals as goal

pub returns : goal.returns
returns c = put_is _ _ _ _ _ _ c.self.view_is c.requires.there c.from.ensures
