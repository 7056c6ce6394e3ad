use Rattle.gap_rule.proofs.RuleLaws.{fits_demo}
use Rattle.gap_rule.proofs.ruling.rule.Goals as goal

pub returns-in-Solve-clause-ruled : goal.returns-in-Solve-clause-ruled
returns-in-Solve-clause-ruled g c = rw (c.in-Solve.is) (c.rule_solve.ensures.ruled c.in-Solve.cert.now)

pub returns-in-Solve-clause-fits : goal.returns-in-Solve-clause-fits
returns-in-Solve-clause-fits g c = rw (c.in-Solve.is) (c.rule_solve.ensures.fits c.in-Solve.cert.now)

pub returns-in-Demo-clause-fits : goal.returns-in-Demo-clause-fits
returns-in-Demo-clause-fits g c = rw (c.in-Demo.is) (fits_demo c.in-Demo.asked c.rule_demo.result c.rule_demo.ensures.halts c.rule_demo.ensures.ready)

pub returns-in-Upgrade-clause-ruled : goal.returns-in-Upgrade-clause-ruled
returns-in-Upgrade-clause-ruled g c = rw (c.in-Upgrade.is) (c.rule_upgrade.ensures.ruled c.in-Upgrade.new.now)

pub returns-in-Upgrade-clause-fits : goal.returns-in-Upgrade-clause-fits
returns-in-Upgrade-clause-fits g c = rw (c.in-Upgrade.is) (c.rule_upgrade.ensures.fits c.in-Upgrade.new.now)
