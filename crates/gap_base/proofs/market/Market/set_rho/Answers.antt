use Rattle.std.proofs.Common.{rules, arith, subst}
use Rattle.gap_base.specs.Markets.{IsMarket, with_rho}
use Rattle.gap_base.proofs.MarketLaws.{IsMarket-rho, rho_of-one_way, rho_of-other_way, rho_of-others, rho_of-along}
use Rattle.gap_base.proofs.market.Market.set_rho.Goals as goal

pub invariant_of-self : goal.invariant_of-self
invariant_of-self c =
    rw (c.from.ensures, c.from-2.ensures, c.from-3.ensures, c.from-4.ensures, c.from-count.ensures)
    (IsMarket-rho _ c.args.i c.args.j _ c.self.invariant (search rules) (search rules) c.requires.two (search rules))

pub returns-clause-one_way : goal.returns-clause-one_way
returns-clause-one_way c =
    let known : IsMarket c.args.self.now = subst IsMarket c.self.view_is c.self.invariant in
    rho_of-along _ (with_rho c.args.self.now c.args.i c.args.j c.args.v) _ _ _ (search rules)
    (rho_of-one_way _ _ _ _ known c.requires.first_in c.requires.second_in c.requires.two)

pub returns-clause-other_way : goal.returns-clause-other_way
returns-clause-other_way c =
    let known : IsMarket c.args.self.now = subst IsMarket c.self.view_is c.self.invariant in
    rho_of-along _ (with_rho c.args.self.now c.args.i c.args.j c.args.v) _ _ _ (search rules)
    (rho_of-other_way _ _ _ _ known c.requires.first_in c.requires.second_in c.requires.two)

pub returns-clause-others : goal.returns-clause-others
returns-clause-others c =
    let known : IsMarket c.args.self.now = subst IsMarket c.self.view_is c.self.invariant in
    λ a b p q first second.
    rho_of-along _ (with_rho c.args.self.now c.args.i c.args.j c.args.v) _ _ _ (search rules)
    (rho_of-others _ _ _ _ a b known c.requires.first_in c.requires.second_in c.requires.two p q first second)
