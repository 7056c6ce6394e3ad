-- The group that was read ends within the buffer.
use Rattle.std.proofs.Common.{arith, sym, ap, ◌∙◌, ◌≡◌, length, ◌+◌, ◌-◌, ℕ, List, None, drop}
use Rattle.gap_cert.specs.declared.context.Context.{Context}
use Rattle.gap_scan.specs.Scans.{Scan}
use Rattle.std.proofs.lemmas.List.{length-drop}
use Rattle.gap_scan.proofs.ScanLaws.{scan_goes, stands_behind, scanned, behind_place}
use Rattle.gap_cert.specs.Contexts.{after}
use Rattle.gap_scan.proofs.scanner.Scanner.next.Goals as goal

pub overflow_sub-self : goal.overflow_sub-self
overflow_sub-self c =
    let g = scan_goes c.self.inside.context c.in-Ok.group c.deref.result.now c.self.inside.buffer.items c.self.inside.at c.self.inside.place c.new-cursor.result c.read_group.new.cursor c.self.invariant.4 c.deref.ensures.value c.self.invariant.0 c.new-cursor.ensures.place c.new-cursor.ensures.rest c.in-Ok.ensures.read in
    omega (arith, g.forward, c.place-behind.ensures)

pub overflow_add-self : goal.overflow_add-self
overflow_add-self c =
    let g = scan_goes c.self.inside.context c.in-Ok.group c.deref.result.now c.self.inside.buffer.items c.self.inside.at c.self.inside.place c.new-cursor.result c.read_group.new.cursor c.self.invariant.4 c.deref.ensures.value c.self.invariant.0 c.new-cursor.ensures.place c.new-cursor.ensures.rest c.in-Ok.ensures.read in
    omega (arith, g.within, c.place-behind.ensures, c.deref.ensures.len, ap length c.deref.ensures.value)

pub invariant_of-self-in-Ok : goal.invariant_of-self-in-Ok
invariant_of-self-in-Ok c =
    let g = scan_goes c.self.inside.context c.in-Ok.group c.deref.result.now c.self.inside.buffer.items c.self.inside.at c.self.inside.place c.new-cursor.result c.read_group.new.cursor c.self.invariant.4 c.deref.ensures.value c.self.invariant.0 c.new-cursor.ensures.place c.new-cursor.ensures.rest c.in-Ok.ensures.read in
    let i = c.self.invariant.1 in
    let left = c.self.invariant.3 in
    (omega (arith, g.within, c.place-behind.ensures), omega (arith, g.within, g.forward, c.place-behind.ensures, i), c.advance.ensures.kept, omega (arith, g.forward, c.place-behind.ensures, left, c.advance.ensures.left), c.self.invariant.4, c.self.invariant.5)

pub returns-in-Ok-clause-stands : goal.returns-in-Ok-clause-stands
returns-in-Ok-clause-stands c =
    let g = scan_goes c.self.inside.context c.in-Ok.group c.deref.result.now c.self.inside.buffer.items c.self.inside.at c.self.inside.place c.new-cursor.result c.read_group.new.cursor c.self.invariant.4 c.deref.ensures.value c.self.invariant.0 c.new-cursor.ensures.place c.new-cursor.ensures.rest c.in-Ok.ensures.read in
    let items = c.self.inside.buffer.items in
    let at = c.self.inside.at + (c.place-behind.result - c.self.inside.place) in
    let none : c.self.inside.fault ≡ None = c.in_default.is in
    let behind : drop at items ≡ c.read_group.new.cursor.rest = ap (λ (k : ℕ). drop (c.self.inside.at + (k - c.self.inside.place)) items) c.place-behind.ensures ∙ sym g.rest_is in
    stands_behind c.args.self.now (scanned c.advance.new.self c.place-behind.result (drop at items) c.self.inside.fault) c.self.inside.context c.in-Ok.group c.self.inside.place (drop c.self.inside.at items) c.new-cursor.result c.read_group.new.cursor
    (sym c.self.view_is ∙ ap (scanned c.self.inside.context c.self.inside.place (drop c.self.inside.at items)) none)
    c.new-cursor.ensures.place (c.new-cursor.ensures.rest ∙ behind_place c.deref.result.now items c.self.inside.at c.deref.ensures.value) c.in-Ok.ensures.read
    (ap (λ (d : Context). scanned d c.place-behind.result (drop at items) c.self.inside.fault) c.advance.ensures.after ∙ ap (λ (k : ℕ). scanned (after c.self.inside.context c.in-Ok.group) k (drop at items) c.self.inside.fault) c.place-behind.ensures
    ∙ ap (λ (l : List ℕ). scanned (after c.self.inside.context c.in-Ok.group) c.read_group.new.cursor.place l c.self.inside.fault) behind ∙ ap (scanned (after c.self.inside.context c.in-Ok.group) c.read_group.new.cursor.place c.read_group.new.cursor.rest) none)

pub returns-in-Ok-clause-whole : goal.returns-in-Ok-clause-whole
returns-in-Ok-clause-whole c =
    let g = scan_goes c.self.inside.context c.in-Ok.group c.deref.result.now c.self.inside.buffer.items c.self.inside.at c.self.inside.place c.new-cursor.result c.read_group.new.cursor c.self.invariant.4 c.deref.ensures.value c.self.invariant.0 c.new-cursor.ensures.place c.new-cursor.ensures.rest c.in-Ok.ensures.read in
    let was = ap (λ (s : Scan). s.place + length s.rest) c.self.view_is in
    let now = length-drop (c.self.inside.at + (c.place-behind.result - c.self.inside.place)) c.self.inside.buffer.items in
    let then = length-drop c.self.inside.at c.self.inside.buffer.items in
    omega (arith, g.within, g.forward, c.place-behind.ensures, was, now, then, c.self.invariant.0)
