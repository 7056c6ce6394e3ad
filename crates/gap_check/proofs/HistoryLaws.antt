-- The items of bytes, one more at a time, and with more bytes behind them.
use Rattle.std.proofs.Common.{◌≡◌, ℕ, ◌⊎◌, inl, inr, List, [], ◌∷◌, ◌++◌, Option, Some, None, Result, Ok, Err, refl, sym, ap, ◌∙◌, subst}
use Rattle.std.proofs.lemmas.List.{append_assoc}
use Rattle.gap_model.specs.declared.cert_fault.CertFault.{CertFault}
use Rattle.gap_cert.specs.declared.field.Group.{Group}
use Rattle.gap_cert.specs.declared.field.Field.{Field}
use Rattle.gap_cert.specs.declared.field.Item.{Item}
use Rattle.gap_cert.specs.declared.field.Stop.{Stop}
use Rattle.gap_cert.specs.declared.field.Stop.TheVariants.{More, Fault}
use Rattle.gap_cert.specs.Bytes.{AreBytes}
use Rattle.gap_cert.specs.Formats.{Spot, read}
use Rattle.gap_cert.specs.Contexts.{format_of, after, Runs}
use Rattle.gap_cert.proofs.FormatLaws.{Written, writes}
use Rattle.gap_scan.specs.Scans.{Scan, Scanned, HasScanned, HasScannedMore, fresh_scan, fed_more, next_of, next_by, answered}
use Rattle.gap_scan.proofs.ScanLaws.{scan_at, spot_at, bytes_append}
use Rattle.gap_scan.proofs.ScannedLaws.{scanned_more}
use Rattle.gap_scan.proofs.MoreLaws.{answers_stay}
use Rattle.gap_judge.specs.Progress.{Progress, fresh_progress, progress_behind}
use Rattle.gap_judge.specs.Faults.{IsItemRight, IsItemFault}
use Rattle.gap_judge.specs.Ready.{IsDue}
use Rattle.gap_check.specs.Stages.{IsAt}
use Rattle.gap_check.specs.Histories.{Judged, HasJudged, IsFaultIn}
use Rattle.gap_check.proofs.StageLaws.{goes}

-- ---- items judged

pub judged_more : (p m q : Progress) (xs ys : List Group) → Judged p xs m → Judged m ys q → Judged p (xs ++ ys) q
unfolding Judged
judged_more p m q [] ys h k = subst (λ (r : Progress). Judged r ys q) (sym h) k
judged_more p m q (x ∷ xs) ys h k = (h.0, judged_more (progress_behind p x.field) m q xs ys h.1 k)

judged_one : (p q : Progress) (g : Group) (xs : List Group) → Judged p xs q → IsItemRight q g.field → Judged p (xs ++ g ∷ []) (progress_behind q g.field)
unfolding Judged
judged_one p q g xs h r = judged_more p q (progress_behind q g.field) xs (g ∷ []) h (r, refl)

-- ---- an item that is answered

item_at : ℕ → Field → Item
item_at place f = record { place = place; field = f }

-- an answered item is a group that the bytes begin with
pub record Given (s : Scan) (item : Item) : Type 0 where
  pub group : Group
  pub spot : Spot
  pub written : Written (format_of s.context s.context.phase) group (spot_at s.place s.rest) spot
  pub field_is : item.field ≡ group.field
  pub place_is : item.place ≡ s.place
  pub stands_is : (next_of s).stands ≡ scan_at (after s.context group) spot.place spot.rest

abbrev given : Item → Result (Option Item) CertFault
given i = Ok (Some i)

item_is : (a b : Item) → given a ≡ given b → a ≡ b
item_is a b e = cc

answer_is : (s : Scan) (item : Item) (r : Result (Group × Spot) Stop) → (answered s r).answer ≡ given item → (g : Group) × (t : Spot) × (r ≡ Ok (g, t)) × (record { place = s.place; field = g.field } ≡ item)
answer_is s item (Ok r) h = (r.0, r.1, refl, item_is (record { place = s.place; field = r.0.field }) item h)
answer_is s item (Err More) h = cc
answer_is s item (Err (Fault f)) h = cc

pub given_is : (s : Scan) (item : Item) → AreBytes s.rest → s.fault ≡ None → (next_of s).answer ≡ given item → Given s item
unfolding next_of
given_is s item b sound e =
    let a : (next_by s None).answer ≡ given item = sym (ap (λ (f : Option CertFault). (next_by s f).answer) sound) ∙ e in
    let r = answer_is s item (read (format_of s.context s.context.phase) (spot_at s.place s.rest)) a in
    record {
      group = r.0;
      spot = r.1;
      written = writes (format_of s.context s.context.phase) r.0 (spot_at s.place s.rest) r.1 b r.2;
      field_is = sym (ap (λ (i : Item). i.field) r.3);
      place_is = sym (ap (λ (i : Item). i.place) r.3);
      stands_is = ap (λ (f : Option CertFault). (next_by s f).stands) sound ∙ ap (λ (q : Result (Group × Spot) Stop). (answered s q).stands) r.2;
    }

tail_bytes : (xs ys : List ℕ) → AreBytes (xs ++ ys) → AreBytes ys
tail_bytes [] ys h = h
tail_bytes (x ∷ xs) ys h = tail_bytes xs ys h.1

-- behind an item that is answered
pub record Behind (s : Scan) (p : Progress) (item : Item) : Type 0 where
  pub due : IsDue p item.field
  pub stage : IsItemRight p item.field → IsAt (next_of s).stands.context (progress_behind p item.field)
  pub bytes_are : AreBytes (next_of s).stands.rest
  pub sound : (next_of s).stands.fault ≡ None

behind_by : (s : Scan) (p : Progress) (item : Item) → AreBytes s.rest → IsAt s.context p → Given s item → Behind s p item
behind_by s p item b i g =
    let go = goes s.context p g.group g.written.bytes i g.written.spells in
    record {
      due = subst (IsDue p) (sym g.field_is) go.due;
      stage = λ right. subst (λ (d : Scan). IsAt d.context (progress_behind p item.field)) (sym g.stands_is)
          (subst (λ (f : Field). IsAt (after s.context g.group) (progress_behind p f)) (sym g.field_is) (go.stage (subst (IsItemRight p) g.field_is right)));
      bytes_are = subst (λ (d : Scan). AreBytes d.rest) (sym g.stands_is) (tail_bytes g.written.bytes g.spot.rest (subst AreBytes g.written.rest_is b));
      sound = ap (λ (d : Scan). d.fault) g.stands_is;
    }

pub behind : (s : Scan) (p : Progress) (item : Item) → AreBytes s.rest → s.fault ≡ None → IsAt s.context p → (next_of s).answer ≡ given item → Behind s p item
behind s p item b sound i e = behind_by s p item b i (given_is s item b sound e)

-- ---- histories

rest_bytes : (fed : List ℕ) (s : Scan) (p : Progress) → HasJudged fed s p → AreBytes s.rest
rest_bytes fed s p h = tail_bytes h.scanned.bytes s.rest (subst AreBytes h.scanned.fed_is h.bytes_are)

pub judged_fresh : HasJudged [] fresh_scan fresh_progress
unfolding Judged Runs
judged_fresh = record { bytes_are = tt; groups = []; scanned = record { bytes = []; run = (refl, refl); fed_is = refl; place_is = refl; sound = refl }; judged = refl }

-- more bytes
pub scanned_longer : (fed more : List ℕ) (s : Scan) (groups : List Group) → HasScanned s fed groups → HasScanned (fed_more s more) (fed ++ more) groups
scanned_longer fed more s groups h = record {
  bytes = h.bytes;
  run = h.run;
  fed_is = ap (λ (l : List ℕ). l ++ more) h.fed_is ∙ append_assoc h.bytes s.rest more;
  place_is = h.place_is;
  sound = h.sound;
}

pub judged_longer : (fed more : List ℕ) (s : Scan) (p : Progress) → AreBytes more → HasJudged fed s p → HasJudged (fed ++ more) (fed_more s more) p
judged_longer fed more s p b h = record { bytes_are = bytes_append fed more h.bytes_are b; groups = h.groups; scanned = scanned_longer fed more s h.groups h.scanned; judged = h.judged }

-- one item more
judged_given : (fed : List ℕ) (s : Scan) (p : Progress) (item : Item) (h : HasJudged fed s p) → HasScannedMore s fed h.groups item → IsItemRight p item.field → HasJudged fed (next_of s).stands (progress_behind p item.field)
judged_given fed s p item h m r = record {
  bytes_are = h.bytes_are;
  groups = h.groups ++ m.group ∷ [];
  scanned = m.more;
  judged = subst (λ (f : Field). Judged fresh_progress (h.groups ++ m.group ∷ []) (progress_behind p f)) (sym m.field_is) (judged_one fresh_progress p m.group h.groups h.judged (subst (IsItemRight p) m.field_is r));
}

pub judged_item : (fed : List ℕ) (s : Scan) (p : Progress) (item : Item) → HasJudged fed s p → (next_of s).answer ≡ given item → IsItemRight p item.field → HasJudged fed (next_of s).stands (progress_behind p item.field)
judged_item fed s p item h e r = judged_given fed s p item h (scanned_more s fed h.groups item (rest_bytes fed s p h) h.scanned e) r

-- ---- faults

pub grammar_fault : (fed : List ℕ) (s : Scan) (p : Progress) (f : CertFault) → HasJudged fed s p → (next_of s).answer ≡ Err f → IsFaultIn fed f
grammar_fault fed s p f h e = record { scan = s; progress = p; items = h; found = inl e }

pub item_fault : (fed : List ℕ) (s : Scan) (p : Progress) (item : Item) (f : CertFault) → HasJudged fed s p → (next_of s).answer ≡ given item → IsItemFault p item.field item.place (next_of s).stands.place f → IsFaultIn fed f
item_fault fed s p item f h e w = record { scan = s; progress = p; items = h; found = inr (item, e, w) }

not_none : (r : Result (Option Item) CertFault) (f : CertFault) → r ≡ Err f → r ≡ Ok None → ⊥
not_none r f e n = cc

not_given : (r : Result (Option Item) CertFault) (i : Item) → r ≡ given i → r ≡ Ok None → ⊥
not_given r i e n = cc

-- a fault that bytes decide stays, whatever follows
pub fault_stays : (fed more : List ℕ) (f : CertFault) → AreBytes more → IsFaultIn fed f → IsFaultIn (fed ++ more) f
fault_stays fed more f b h = by h.found
  where
    by : ((next_of h.scan).answer ≡ Err f) ⊎ ((item : Item) × ((next_of h.scan).answer ≡ Ok (Some item)) × IsItemFault h.progress item.field item.place (next_of h.scan).stands.place f) → IsFaultIn (fed ++ more) f
    by (inl e) = record {
      scan = fed_more h.scan more;
      progress = h.progress;
      items = judged_longer fed more h.scan h.progress b h.items;
      found = inl (ap (λ (a : Scanned). a.answer) (answers_stay h.scan more (not_none (next_of h.scan).answer f e)) ∙ e);
    }
    by (inr e) =
        let same = answers_stay h.scan more (not_given (next_of h.scan).answer e.0 e.1) in
        record {
          scan = fed_more h.scan more;
          progress = h.progress;
          items = judged_longer fed more h.scan h.progress b h.items;
          found = inr (e.0, ap (λ (a : Scanned). a.answer) same ∙ e.1, subst (λ (a : Scanned). IsItemFault h.progress e.0.field e.0.place a.stands.place f) (sym same) e.2);
        }
