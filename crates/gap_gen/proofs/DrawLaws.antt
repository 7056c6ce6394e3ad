-- Laws of drawing: a generator some words on, and what one more asset keeps.
use Rattle.std.proofs.Common.{◌≡◌, ◌≢◌, ℕ, zero, suc, ◌+◌, ◌*◌, ◌<◌, ◌≤◌, ⊎_elim, List, length, replicate, slice_index_or, slice_set, ℤ, pos, refl, sym, ap, ◌∙◌, arith}
use Rattle.std.proofs.lemmas.Bool.{cases_eq}
use Rattle.std.proofs.lemmas.List.{length-set, length-replicate, get_or-set_other}
use Rattle.std.proofs.lemmas.Grind.{get_or-set_at, common_steps}
use Rattle.std.proofs.Math.Nat.{mul_comm}
use Rattle.gap_base.specs.Markets.{MarketValue, IsMarket, rho_of, fresh_market, with_mean, with_deviation}
use Rattle.gap_base.proofs.MarketLaws.{rho_of-same_list, set_below}
use Rattle.rand_pcg.specs.Lcg.{Lcg, advance, state_after, next_state}
use Rattle.rand_pcg.specs.Pcg.{multiplier_64, pcg32}
use Rattle.gap_gen.specs.Demo.{load_of, drawn_mean, drawn_deviation, word_after, IsGenerated, generator_of}
use Rattle.gap_gen.specs.Draws.{KeepsAssets, AreTied, AreDrawn, IsAsset, stands_at}

-- j words after i words are i + j words
pub state_after-add : (w m c i j s : ℕ) → state_after w m c j (state_after w m c i s) ≡ state_after w m c (i + j) s
unfolding state_after
state_after-add w m c zero j s = let e : 0 + j ≡ j = omega arith in rw e refl
state_after-add w m c (suc i) j s =
    let e : suc i + j ≡ suc (i + j) = omega arith in rw e (state_after-add w m c i j (next_state w m c s))

one_word : (w m c s : ℕ) → next_state w m c s ≡ state_after w m c 1 s
unfolding state_after
one_word w m c s = refl

-- a generator that is g after k words is g after k + 1 words when it has given one
pub word_on : (g w : Lcg) (k : ℕ) → w ≡ advance 64 multiplier_64 k g → (pcg32 w).1 ≡ advance 64 multiplier_64 (k + 1) g
word_on g w k e =
    ap (λ (v : Lcg). (pcg32 v).1) e
    ∙ ap (λ (s : ℕ). record g { state = s }) (one_word 64 multiplier_64 g.increment (state_after 64 multiplier_64 g.increment k g.state) ∙ state_after-add 64 multiplier_64 g.increment k 1 g.state)

-- three words from where those of the asset i begin are its three, and behind them those of the next begin
pub record AreThree (g : Lcg) (i a b c : ℕ) (last : Lcg) : Type 0 where
  pub first : a ≡ word_after g (3 * i)
  pub second : b ≡ word_after g (3 * i + 1)
  pub third : c ≡ word_after g (3 * i + 2)
  pub next : stands_at g (i + 1) last

word_is : (g w v : Lcg) (k a : ℕ) → (a, v) ≡ pcg32 w → w ≡ advance 64 multiplier_64 k g → a ≡ word_after g k
word_is g w v k a h e = ap (λ (p : ℕ × Lcg). p.0) h ∙ ap (λ (u : Lcg). (pcg32 u).0) e

after_is : (g w v : Lcg) (k a : ℕ) → (a, v) ≡ pcg32 w → w ≡ advance 64 multiplier_64 k g → v ≡ advance 64 multiplier_64 (k + 1) g
after_is g w v k a h e = ap (λ (p : ℕ × Lcg). p.1) h ∙ word_on g w k e

pub three_words : (g : Lcg) (i a b c : ℕ) (w0 w1 w2 w3 : Lcg) → (a, w1) ≡ pcg32 w0 → (b, w2) ≡ pcg32 w1 → (c, w3) ≡ pcg32 w2 → stands_at g i w0 → AreThree g i a b c w3
three_words g i a b c w0 w1 w2 w3 h0 h1 h2 e0 =
    let e1 : w1 ≡ advance 64 multiplier_64 (3 * i + 1) g = after_is g w0 w1 (3 * i) a h0 e0 in
    let two : 3 * i + 1 + 1 ≡ 3 * i + 2 = omega arith in
    let e2 : w2 ≡ advance 64 multiplier_64 (3 * i + 2) g = after_is g w1 w2 (3 * i + 1) b h1 e1 ∙ ap (λ (k : ℕ). advance 64 multiplier_64 k g) two in
    let three : 3 * i + 2 + 1 ≡ 3 * (i + 1) = omega arith in
    record {
      first = word_is g w0 w1 (3 * i) a h0 e0;
      second = word_is g w1 w2 (3 * i + 1) b h1 e1;
      third = word_is g w2 w3 (3 * i + 2) c h2 e2;
      next = after_is g w2 w3 (3 * i + 2) c h2 e2 ∙ ap (λ (k : ℕ). advance 64 multiplier_64 k g) three;
    }

-- one more entry of a list whose first i entries are known
entries_on : {X : Type 0} (l : List X) (i : ℕ) (v d : X) (f : ℕ → X) → i < length l → ((a : ℕ) → a < i → slice_index_or l a d ≡ f a) → v ≡ f i
    → (a : ℕ) → a < i + 1 → slice_index_or (slice_set l i v) a d ≡ f a
entries_on l i v d f h before e a lt =
    ⊎_elim (λ q. get_or-set_at l i a v d q h ∙ e ∙ ap f (sym q)) (λ ne. get_or-set_other l i a v d ne ∙ before a (omega arith)) (cases_eq a i)

-- the correlations of the first i assets are those of their loads, and those of the asset i too
ties_on : (g : Lcg) (n i : ℕ) (m k : MarketValue) (loads : List ℕ)
    → ((a b : ℕ) → a < i → b < i → a ≢ b → rho_of k a b ≡ pos (load_of g a * load_of g b))
    → AreTied k loads i i
    → ((a : ℕ) → a < i + 1 → slice_index_or loads a 0 ≡ load_of g a)
    → (a b : ℕ) → a < i + 1 → b < i + 1 → a ≢ b → rho_of k a b ≡ pos (load_of g a * load_of g b)
ties_on g n i m k loads before tied known a b p q ne =
    ⊎_elim
    (λ (ea : a ≡ i). rw ea (tied.one_way b (omega arith) ∙ ap pos (rw (known i (omega arith), known b q) refl)))
    (λ (na : a ≢ i).
    ⊎_elim
    (λ (eb : b ≡ i). rw eb (tied.other_way a (omega arith) ∙ ap pos (rw (known i (omega arith), known a p) (mul_comm (load_of g i) (load_of g a)))))
    (λ (nb : b ≢ i). before a b (omega arith) (omega arith) ne)
    (cases_eq b i))
    (cases_eq a i)

-- what one more asset keeps, and what it adds
pub drawn_step : (g : Lcg) (n i : ℕ) (m k : MarketValue) (loads : List ℕ) (load : ℕ) (mean : ℤ) (deviation : ℕ)
    → IsMarket m → i < m.assets → load ≤ 900
    → KeepsAssets (with_deviation (with_mean m i mean) i deviation) k i → AreTied k (slice_set loads i load) i i
    → AreDrawn g n m loads i → IsAsset g i load mean deviation → AreDrawn g n k (slice_set loads i load) (i + 1)
drawn_step g n i m k loads load mean deviation market lt most kept tied was asset =
    let places : i < length loads = rw (was.places ∙ sym was.assets) lt in
    let known : (a : ℕ) → a < i + 1 → slice_index_or (slice_set loads i load) a 0 ≡ load_of g a = entries_on loads i load 0 (load_of g) places was.drawn asset.load_is in
    record {
      assets = kept.assets ∙ was.assets;
      places = length-set loads i load ∙ was.places;
      rounded = kept.rounded ∙ was.rounded;
      means = rw kept.means (entries_on m.means i mean (pos 0) (drawn_mean g) (rw market.means_length lt) was.means asset.mean_is);
      deviations = rw kept.deviations (entries_on m.deviations i deviation 0 (drawn_deviation g) (rw market.deviations_length lt) was.deviations asset.deviation_is);
      drawn = known;
      small = λ x. set_below loads i x load 900 places most (was.small x);
      correlations =
          ties_on g n i m k (slice_set loads i load)
          (λ a b p q ne. kept.correlations a b p q ∙ rho_of-same_list (with_deviation (with_mean m i mean) i deviation) m a b refl refl ∙ was.correlations a b p q ne)
          tied known;
    }

replicate_900 : (n k : ℕ) → slice_index_or (replicate n 0) k 0 ≤ 900
replicate_900 n k = grind (arith, common_steps)

none_drawn : (g : Lcg) (n : ℕ) → AreDrawn g n (fresh_market n) (replicate n 0) 0
none_drawn g n =
    record {
      assets = refl;
      places = length-replicate {A = ℕ} n 0;
      rounded = refl;
      means = λ k lt. absurd (omega arith);
      deviations = λ k lt. absurd (omega arith);
      drawn = λ k lt. absurd (omega arith);
      small = λ k. replicate_900 n k;
      correlations = λ a b p q ne. absurd (omega arith);
    }

-- before the first asset, in a new market and a list of nothing
pub drawn_start : (g : Lcg) (n : ℕ) (m : MarketValue) (loads : List ℕ) (count : ℕ) → m ≡ fresh_market n → loads ≡ replicate count 0 → count ≡ n → AreDrawn g n m loads 0
drawn_start g n m loads count e f h = rw (e, f, h) (none_drawn g n)

pub start_here : (g : Lcg) → stands_at g 0 g
unfolding state_after
start_here g = refl

-- a market whose n assets are drawn is the generated one
pub all_drawn : (number n : ℕ) (m : MarketValue) (loads : List ℕ) → AreDrawn (generator_of number) n m loads n → IsGenerated number n m
all_drawn number n m loads d =
    record { assets = d.assets; means = d.means; deviations = d.deviations; correlations = λ i j p q ne. d.correlations i j p q ne; rounded = d.rounded }
