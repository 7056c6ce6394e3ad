use Rattle.gap_upgrade.proofs.UpgradeLaws.{holds_all}
use Rattle.gap_upgrade.proofs.laws.upgrades_encode.Goals as goal

pub returns : goal.returns
returns c = holds_all
