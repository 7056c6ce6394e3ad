use Rattle.std.proofs.Common.{rules, ◌∙◌, subst, ◌≡◌, ◌+◌, ◌*◌, ap, slice_index_or, pos, SFits, w64}
use Rattle.std.proofs.lemmas.Int.{to_z-of_z}
use Rattle.std.proofs.lemmas.List.{get_or_read}
use Rattle.std.proofs.lemmas.Nat.{mul-add-lt}
use Rattle.gap_instance.specs.Instances.{InstanceValue}
use Rattle.gap_instance.specs.Tables.{IsKept}
use Rattle.gap_instance.proofs.ObjectiveLaws.{cov_of-size, cov_of-symmetric}
use Rattle.gap_instance.proofs.TableLaws.{IsTable-inside}
use Rattle.gap_instance.proofs.instance.Instance.cov.Goals as goal

pub returns-clause-value : goal.returns-clause-value
returns-clause-value c =
    let m = c.args.self.now.market in
    let table = c.self.inside.covariances.items in
    let kept : IsKept c.args.self.now table = subst (λ (I : InstanceValue). IsKept I table) c.self.view_is c.self.invariant in
    let same : c.self.inside.market ≡ m = ap (λ (I : InstanceValue). I.market) c.self.view_is in
    let count : c.from-2.result ≡ m.assets = c.from-2.ensures ∙ c.n.ensures.value ∙ ap (λ v. v.assets) same in
    let place : c.from.result * c.from-2.result + c.from-3.result ≡ c.args.i * m.assets + c.args.j = rw (c.from.ensures, c.from-3.ensures, count) in
    let got : c.index.result.now ≡ slice_index_or table (c.args.i * m.assets + c.args.j) c.index.result.now = rw place at c.index.ensures in
    let read = get_or_read table _ _ (IsTable-inside m table kept.table_is c.args.i c.args.j c.requires.row c.requires.column) got (pos 0) in
    let fits : SFits w64 c.index.result.now = search rules in
    to_z-of_z w64 c.index.result.now fits ∙ read ∙ kept.table_is.entries c.args.i c.args.j c.requires.column (mul-add-lt c.args.i m.assets c.args.j m.assets c.requires.row c.requires.column)

pub returns-clause-small : goal.returns-clause-small
returns-clause-small c =
    let kept : IsKept c.args.self.now c.self.inside.covariances.items = subst (λ (I : InstanceValue). IsKept I c.self.inside.covariances.items) c.self.view_is c.self.invariant in
    rw (returns-clause-value c) (cov_of-size c.args.self.now.market kept.instance_is.market_is c.args.i c.args.j)

pub returns-clause-symmetric : goal.returns-clause-symmetric
returns-clause-symmetric c =
    let kept : IsKept c.args.self.now c.self.inside.covariances.items = subst (λ (I : InstanceValue). IsKept I c.self.inside.covariances.items) c.self.view_is c.self.invariant in
    returns-clause-value c ∙ cov_of-symmetric c.args.self.now.market kept.instance_is.market_is c.args.i c.args.j c.requires.row c.requires.column
