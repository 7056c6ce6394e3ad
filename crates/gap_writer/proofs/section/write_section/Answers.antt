use Rattle.std.proofs.Common.{◌≡◌, ◌<◌, List, ℕ, length, sym, ap, ◌∙◌, subst}
use Rattle.std.proofs.lemmas.Result.{err_from_is_err_and}
use Rattle.gap_model.specs.declared.section_head.SectionHead.{SectionHead}
use Rattle.gap_model.specs.Nodes.{Node}
use Rattle.gap_cert.specs.Certificates.{claim_of, opening_fields}
use Rattle.gap_files.specs.Drains.{Fills}
use Rattle.gap_writer.specs.Writing.{Written, blank, put_all}
use Rattle.gap_writer.specs.Filled.{section_bytes, Owes, root_stack}
use Rattle.gap_writer.proofs.Pouring.{refused_at_once, root_owes, blank_some, fills_end}
use Rattle.gap_writer.proofs.section.write_section.Goals as goal

pub returns-in_err-section : goal.returns-in_err-section
returns-in_err-section g c = λ sink s is.
    let p = err_from_is_err_and c.from_residual.result c.from_residual.ensures.1 in
    rw (p.1, p.2) (refused_at_once c.args.name.now (g.F.Files.files c.args.files.now) sink s)

pub write_tree-requires-clause-some : goal.write_tree-requires-clause-some
write_tree-requires-clause-some g c =
    let e : c.section.new.self ≡ put_all blank (opening_fields c.args.solved.now.weight (claim_of c.args.solved.now.outcome c.args.solved.now.overall)) =
    c.in_ok-section.ensures.ok ∙ ap (λ (x : Written). put_all x (opening_fields c.head_of.result.weight (claim_of c.head_of.result.outcome c.head_of.result.overall))) c.new-writer.ensures
    ∙ ap (λ (x : SectionHead). put_all blank (opening_fields x.weight (claim_of x.outcome x.overall))) c.head_of.ensures in
    blank_some c.section.new.self c.args.solved.now.weight (claim_of c.args.solved.now.outcome c.args.solved.now.overall) e

pub returns-in_err-write_tree : goal.returns-in_err-write_tree
returns-in_err-write_tree g c = λ sink s is.
    let p = err_from_is_err_and c.from_residual-in_err-write_tree.result c.from_residual-in_err-write_tree.ensures.1 in
    let e : c.section.new.self ≡ put_all blank (opening_fields c.args.solved.now.weight (claim_of c.args.solved.now.outcome c.args.solved.now.overall)) =
    c.in_ok-section.ensures.ok ∙ ap (λ (x : Written). put_all x (opening_fields c.head_of.result.weight (claim_of c.head_of.result.outcome c.head_of.result.overall))) c.new-writer.ensures
    ∙ ap (λ (x : SectionHead). put_all blank (opening_fields x.weight (claim_of x.outcome x.overall))) c.head_of.ensures in
    let o = subst (λ (nodes : List Node). Owes c.args.inst.now.market.assets nodes root_stack c.section.new.self (section_bytes s)) (sym c.tree.ensures.nodes) (root_owes c.args.inst.now.market.assets c.args.solved.now s c.section.new.self is e) in
    rw (p.1, p.2) (c.in_err-write_tree.ensures.drains sink (section_bytes s) o)

pub append_some-requires : goal.append_some-requires
append_some-requires g c = subst (λ (x : List ℕ). 0 < length x) (sym c.bytes.ensures) c.in_ok-write_tree.ensures.some

pub returns : goal.returns
returns g c = λ sink s is.
    let e : c.section.new.self ≡ put_all blank (opening_fields c.args.solved.now.weight (claim_of c.args.solved.now.outcome c.args.solved.now.overall)) =
    c.in_ok-section.ensures.ok ∙ ap (λ (x : Written). put_all x (opening_fields c.head_of.result.weight (claim_of c.head_of.result.outcome c.head_of.result.overall))) c.new-writer.ensures
    ∙ ap (λ (x : SectionHead). put_all blank (opening_fields x.weight (claim_of x.outcome x.overall))) c.head_of.ensures in
    let o = subst (λ (nodes : List Node). Owes c.args.inst.now.market.assets nodes root_stack c.section.new.self (section_bytes s)) (sym c.tree.ensures.nodes) (root_owes c.args.inst.now.market.assets c.args.solved.now s c.section.new.self is e) in
    fills_end c.args.name.now (g.F.Files.files c.args.files.now) (g.F.Files.files c.write_tree.new.files) (g.F.Files.files c.append_some.new.files) sink (section_bytes s) c.write_tree.new.writer.bytes c.append_some.result
    (c.in_ok-write_tree.ensures.drains sink (section_bytes s) o)
    (subst (λ (x : List ℕ). Fills c.args.name.now (g.F.Files.files c.write_tree.new.files) (g.F.Files.files c.append_some.new.files) sink x c.append_some.result) c.bytes.ensures (c.append_some.ensures sink))
