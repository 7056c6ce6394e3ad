-- A checker behind the next item, and where there is none.
use Rattle.std.proofs.Common.{◌≡◌, ℕ, zero, suc, ◌*◌, ◌<◌, ◌≤◌, List, ◌++◌, length, Option, Some, None, Result, Ok, Err, refl, sym, ap, ◌∙◌, arith, length-append}
use Rattle.gap_model.specs.declared.cert_fault.CertFault.{CertFault}
use Rattle.gap_cert.specs.declared.field.Version.{Version}
use Rattle.gap_cert.specs.declared.field.Version.TheVariants.{One, Two}
use Rattle.gap_cert.specs.declared.field.Group.{Group}
use Rattle.gap_cert.specs.declared.field.Item.{Item}
use Rattle.gap_cert.specs.declared.field.Stop.{Stop}
use Rattle.gap_cert.specs.declared.field.Stop.TheVariants.{More, Fault}
use Rattle.gap_cert.specs.declared.context.Phase.{Phase}
use Rattle.gap_cert.specs.declared.context.Phase.TheVariants as phase
use Rattle.gap_cert.specs.declared.context.Context.{Context}
use Rattle.gap_cert.specs.Bytes.{be}
use Rattle.gap_cert.specs.Formats.{Format, natural, signed, guard, says, Spells, Spot, read}
use Rattle.gap_cert.specs.Contexts.{head_format, asset_format, start_format, entries_format, portfolio_format, overall_format, node_format, format_of}
use Rattle.gap_cert.proofs.Numbers.{length-be}
use Rattle.gap_scan.specs.Scans.{Scan, next_of, next_by, answered}
use Rattle.gap_scan.proofs.ScanLaws.{spot_at}
use Rattle.gap_judge.specs.Progress.{Progress, progress_behind}
use Rattle.gap_judge.specs.Faults.{IsItemRight}
use Rattle.gap_judge.specs.Ready.{IsDue}
use Rattle.gap_judge.specs.Stops.{IsStop}
use Rattle.gap_judge.specs.declared.stop.CertStop.{CertStop}
use Rattle.gap_judge.specs.declared.stop.CertStop.TheVariants as stop
use Rattle.gap_check.specs.Stages.{IsStage, IsAt}
use Rattle.gap_check.specs.Histories.{HasJudged, IsFaultIn}
use Rattle.gap_check.specs.Going.{IsOn}
use Rattle.gap_check.proofs.HistoryLaws.{Given, given_is, behind, item_fault}

-- ---- a group has a byte

abbrev IsLong : Format → Type 0
IsLong (natural zero wrong least greatest next) = ⊥
IsLong (natural (suc w) wrong least greatest next) = Unit {0}
IsLong (signed zero least greatest next) = ⊥
IsLong (signed (suc w) least greatest next) = Unit {0}
IsLong (guard test back wrong F) = IsLong F
IsLong (says g) = ⊥

longer : (w n : ℕ) (more bytes : List ℕ) → bytes ≡ be (suc w) n ++ more → 1 ≤ length bytes
longer w n more bytes e = let a = ap length e ∙ length-append (be (suc w) n) more in omega (arith, a, length-be (suc w) n)

long_group : (F : Format) (g : Group) (bytes : List ℕ) → IsLong F → Spells F g bytes → 1 ≤ length bytes
unfolding Spells
long_group (natural zero wrong least greatest next) g bytes l h = absurd l
long_group (natural (suc w) wrong least greatest next) g bytes l h = longer w h.value h.more bytes h.bytes_are
long_group (signed zero least greatest next) g bytes l h = absurd l
long_group (signed (suc w) least greatest next) g bytes l h = longer w _ h.more bytes h.bytes_are
long_group (guard test back wrong F) g bytes l h = long_group F g bytes l h.1
long_group (says said) g bytes l h = absurd l

long_entries : (count n w greatest most last total : ℕ) (x : List ℕ) (next : List ℕ → Format) → 1 ≤ count → IsLong (entries_format count n w greatest most last total x next)
unfolding entries_format
long_entries zero n w greatest most last total x next h = absurd (omega arith)
long_entries (suc count) n w greatest most last total x next h = tt

long_portfolio : (v : Version) (n held held_most : ℕ) → 1 ≤ held → IsLong (portfolio_format v n held held_most)
unfolding portfolio_format
long_portfolio One n held held_most h = long_entries held n 2 10000 (10000 * held) 0 0 _ _ h
long_portfolio Two n held held_most h = tt

long_format : (q : Phase) (c : Context) (p : Progress) → IsStage q c p → IsLong (format_of c q)
unfolding IsStage head_format asset_format start_format overall_format node_format
long_format phase.Head c p s = tt
long_format phase.Assets c p s = tt
long_format phase.Correlations c p s = tt
long_format phase.Factor c p s = tt
long_format phase.Diagonal c p s = tt
long_format phase.Sections c p s = tt
long_format phase.Section c p s = tt
long_format phase.Portfolio c p s = long_portfolio c.version c.n c.held c.held_most (omega (arith, s.0.whole.head_is.held_least, s.0.whole.same.held_is))
long_format phase.Objective c p s = tt
long_format phase.Bound c p s = tt
long_format phase.Overall c p s = tt
long_format phase.Node c p s = tt
long_format phase.End c p s = tt
long_format phase.Over c p s = tt

-- ---- the next item

abbrev given : Item → Result (Option Item) CertFault
given i = Ok (Some i)

shorter_by : (s : Scan) (p : Progress) (item : Item) → IsAt s.context p → Given s item → length (next_of s).stands.rest < length s.rest
shorter_by s p item i g =
    let l = long_group (format_of s.context s.context.phase) g.group g.written.bytes (long_format s.context.phase s.context p i.stage) g.written.spells in
    let a = ap length g.written.rest_is ∙ length-append g.written.bytes g.spot.rest in
    let b = ap (λ (d : Scan). length d.rest) g.stands_is in omega (arith, l, a, b)

pub shorter : (s : Scan) (p : Progress) (item : Item) → IsOn s p → (next_of s).answer ≡ given item → length (next_of s).stands.rest < length s.rest
shorter s p item o e = shorter_by s p item o.at (given_is s item o.bytes_are o.sound e)

pub due : (s : Scan) (p : Progress) (item : Item) → IsOn s p → (next_of s).answer ≡ given item → IsDue p item.field
due s p item o e = (behind s p item o.bytes_are o.sound o.at e).due

pub on_behind : (s : Scan) (p : Progress) (item : Item) → IsOn s p → (next_of s).answer ≡ given item → IsItemRight p item.field → IsOn (next_of s).stands (progress_behind p item.field)
on_behind s p item o e r = let b = behind s p item o.bytes_are o.sound o.at e in record { at = b.stage r; bytes_are = b.bytes_are; sound = b.sound }

-- where there is none the scanner stands as before
none_by : (s : Scan) (r : Result (Group × Spot) Stop) → (answered s r).answer ≡ Ok None → (answered s r).stands ≡ s
none_by s (Ok r) e = cc
none_by s (Err More) e = refl
none_by s (Err (Fault f)) e = cc

pub none_stands : (s : Scan) → s.fault ≡ None → (next_of s).answer ≡ Ok None → (next_of s).stands ≡ s
unfolding next_of
none_stands s sound e =
    let a = sym (ap (λ (f : Option CertFault). (next_by s f).answer) sound) ∙ e in
    ap (λ (f : Option CertFault). (next_by s f).stands) sound ∙ none_by s (read (format_of s.context s.context.phase) (spot_at s.place s.rest)) a

-- ---- steps

-- what an answer that stops says of the bytes
abbrev pub StopsAs : List ℕ → CertStop → Type 0
StopsAs seen (stop.Fault f) = IsFaultIn seen f
StopsAs seen stop.OutOfMemory = Unit {0}

pub item_stop : (seen : List ℕ) (s : Scan) (p : Progress) (item : Item) (end : CertStop) → (next_of s).answer ≡ given item → IsStop p item.field item.place (next_of s).stands.place end → HasJudged seen s p → StopsAs seen end
item_stop seen s p item (stop.Fault f) e w h = item_fault seen s p item f h e w
item_stop seen s p item stop.OutOfMemory e w h = tt
