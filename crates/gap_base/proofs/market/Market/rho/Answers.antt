use Rattle.std.proofs.Common.{rules, arith, sym, ◌∙◌, subst, ◌≡◌, ◌≢◌, ◌+◌, ◌*◌, ◌≤◌, ap, slice_index_or, pos, SFits, w32}
use Rattle.std.proofs.lemmas.Int.{to_z-of_z}
use Rattle.std.proofs.lemmas.List.{get_or_read}
use Rattle.gap_base.specs.Markets.{IsMarket, rho_of}
use Rattle.gap_base.proofs.MarketLaws.{rho_of-same, rho_of-two, place_in}
use Rattle.gap_base.proofs.market.Market.rho.Goals as goal

pub returns-then-i-j-clause-value : goal.returns-then-i-j-clause-value
returns-then-i-j-clause-value c = sym (rho_of-same c.args.self.now c.args.i c.args.j c.if-i-j.true)

pub returns-then-i-j-clause-symmetric : goal.returns-then-i-j-clause-symmetric
returns-then-i-j-clause-symmetric c = sym (rho_of-same c.args.self.now c.args.j c.args.i (sym c.if-i-j.true))

pub returns-else-i-j-clause-value : goal.returns-else-i-j-clause-value
returns-else-i-j-clause-value c =
    let m = c.args.self.now in
    let known : IsMarket m = subst IsMarket c.self.view_is c.self.invariant in
    let at : c.from.result * c.from-else-i-j.result + c.from-else-i-j-2.result ≡ c.args.i * m.assets + c.args.j = search rules in
    let list : c.self.inside.correlations.items ≡ m.correlations = search rules in
    let got : c.index.result.now ≡ slice_index_or m.correlations (c.args.i * m.assets + c.args.j) c.index.result.now = rw (at, list) at c.index.ensures in
    let read = get_or_read m.correlations _ _ (place_in m known c.args.i c.args.j c.requires.first_in c.requires.second_in) got (pos 0) in
    let fits : SFits w32 c.index.result.now = search rules in
    to_z-of_z w32 c.index.result.now fits ∙ read ∙ sym (rho_of-two m c.args.i c.args.j c.if-i-j.false)

pub returns-else-i-j-clause-size : goal.returns-else-i-j-clause-size
returns-else-i-j-clause-size c =
    let known : IsMarket c.args.self.now = subst IsMarket c.self.view_is c.self.invariant in
    rw (returns-else-i-j-clause-value c) (known.rho_sizes c.args.i c.args.j)

pub returns-else-i-j-clause-symmetric : goal.returns-else-i-j-clause-symmetric
returns-else-i-j-clause-symmetric c =
    let known : IsMarket c.args.self.now = subst IsMarket c.self.view_is c.self.invariant in
    returns-else-i-j-clause-value c ∙ known.symmetric c.args.i c.args.j c.requires.first_in c.requires.second_in
