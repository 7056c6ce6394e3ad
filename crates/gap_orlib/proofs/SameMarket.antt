-- Bytes are a file of one market alone.
use Rattle.std.proofs.Common.{◌≡◌, ℕ, ◌+◌, ◌*◌, ◌<◌, inl, inr, ⊎_elim, List, length, ℤ, pos, Ok, sym, ap, ◌∙◌, subst, arith}
use Rattle.std.proofs.lemmas.Bool.{cases_eq, cases_lt}
use Rattle.gap_base.specs.Sums.{count_if}
use Rattle.gap_base.specs.Numerals.{numeral_of}
use Rattle.gap_base.specs.Markets.{MarketValue, mean_of, deviation_of, rho_of}
use Rattle.gap_base.proofs.MarketLaws.{rho_of-same}
use Rattle.gap_orlib.specs.Tokens.{Token, tokens}
use Rattle.gap_orlib.specs.Ports.{port}
use Rattle.gap_orlib.specs.Fields.{text_at, IsTriple, NamesPair, triple_at, is_rounded, IsMarketOf, HaveSameValues}
use Rattle.gap_orlib.proofs.Reading.{option_nat, value_same, triple_same, file_is_read}
use Rattle.gap_orlib.proofs.MarketFields.{market_in_words}

pos_same : (a b : ℕ) → pos a ≡ pos b → a ≡ b
pos_same a b e = cc

-- a triple of one market is one of the other, with its correlation
other_triple : (ts : List Token) (n n' t i j : ℕ) (v : ℤ) (rho : ℕ → ℕ → ℤ) → n ≡ n' → IsTriple ts n t i j v → (k : ℕ) × (l : ℕ) × IsTriple ts n' t k l (rho k l) → v ≡ rho i j
other_triple ts n n' t i j v rho e a (k, l, b) =
    let same : (i ≡ k) × (j ≡ l) × (v ≡ rho k l) = triple_same ts n' t i j k l v (rho k l) (subst (λ (x : ℕ). IsTriple ts x t i j v) e a) b in
    rw (same.0, same.1) same.2

triple_in : (n t u l : ℕ) → triple_at n t + 2 < l → l ≡ triple_at n u → t < u
triple_in n t u l h e = omega arith

rising : (bytes : List ℕ) (m k : MarketValue) → IsMarketOf bytes m → IsMarketOf bytes k → m.assets ≡ k.assets → (i j : ℕ) → i < j → j < m.assets → rho_of m i j ≡ rho_of k i j
rising bytes m k a b e i j order there = by_turn (a.each_pair i j order there).0 (a.each_pair i j order there).1
  where
    by_turn : (t : ℕ) → NamesPair (tokens bytes) m.assets t i j (rho_of m i j) → rho_of m i j ≡ rho_of k i j
    by_turn t (inl x) = other_triple (tokens bytes) m.assets k.assets t i j (rho_of m i j) (rho_of k) e x (b.each_triple t (triple_in k.assets t b.triples (length (tokens bytes)) (rw e at x.ends) b.whole_triples))
    by_turn t (inr x) =
        other_triple (tokens bytes) m.assets k.assets t j i (rho_of m i j) (rho_of k) e x (b.each_triple t (triple_in k.assets t b.triples (length (tokens bytes)) (rw e at x.ends) b.whole_triples))
        ∙ b.market.symmetric j i (omega (arith, e, there)) (omega (arith, e, order, there))

same_values : (bytes : List ℕ) (m k : MarketValue) → IsMarketOf bytes m → IsMarketOf bytes k → HaveSameValues m k
same_values bytes m k a b =
    let e : m.assets ≡ k.assets = option_nat m.assets k.assets (sym a.count ∙ b.count) in
    record {
      assets = e;
      means = λ i less. value_same (numeral_of (text_at (tokens bytes) (2 * i + 1))) (mean_of m i) (mean_of k i) (a.means i less) (b.means i (omega (arith, e, less)));
      deviations = λ i less. pos_same (deviation_of m i) (deviation_of k i)
          (value_same (numeral_of (text_at (tokens bytes) (2 * i + 2))) (pos (deviation_of m i)) (pos (deviation_of k i)) (a.deviations i less) (b.deviations i (omega (arith, e, less))));
      rhos = λ i j x y. ⊎_elim
          (λ same. rho_of-same m i j same ∙ sym (rho_of-same k i j same))
          (λ other. ⊎_elim
          (λ order. rising bytes m k a b e i j order y)
          (λ back. (let order : j < i = omega (arith, back, other) in
          a.market.symmetric i j x y ∙ (rising bytes m k a b e j i order x ∙ b.market.symmetric j i (omega (arith, e, y)) (omega (arith, e, x)))))
          (cases_lt i j))
          (cases_eq i j);
      rounded = a.rounded ∙ ap (λ (n : ℕ). count_if (length (tokens bytes)) (is_rounded (tokens bytes) n)) e ∙ sym b.rounded;
    }

-- bytes that are a file of a market are read as one with its values
pub read_as_said : (bytes : List ℕ) (m : MarketValue) → IsMarketOf bytes m → (k : MarketValue) × (port bytes ≡ Ok k) × HaveSameValues k m
read_as_said bytes m a =
    let k : (k : MarketValue) × (port bytes ≡ Ok k) = file_is_read bytes m a in
    (k.0, k.1, same_values bytes k.0 m (market_in_words bytes k.0 k.1) a)
