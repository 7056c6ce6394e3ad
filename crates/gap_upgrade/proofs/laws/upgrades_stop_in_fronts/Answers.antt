use Rattle.gap_upgrade.proofs.UpgradeLaws.{holds_less}
use Rattle.gap_upgrade.proofs.laws.upgrades_stop_in_fronts.Goals as goal

pub returns : goal.returns
returns c = holds_less
