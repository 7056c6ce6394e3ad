-- The worked certificate is valid: each fact by a computation.

use Rattle.std.proofs.Common.{◌≡◌, ℕ, zero, suc, ◌<◌, ◌≤◌, [], ◌∷◌, None, slice_index_or, ℤ, pos, negsuc, unsigned_abs, refl, sym, arith}
use Rattle.std.proofs.lemmas.Int.{ints}
use Rattle.std.specs.Int.Signed.{le_z_yes}
use Rattle.std.proofs.lemmas.List.Elements.{All-nil, All-cons}
use Rattle.gap_base.specs.Sums.{sum_below, count_if}
use Rattle.gap_base.specs.Markets.{rho_of}
use Rattle.gap_instance.specs.Limits.{MeetsLimits}
use Rattle.gap_instance.specs.Objective.{cov_of, risk_of, return_of, objective}
use Rattle.gap_psd.specs.Forms.{others, gram}
use Rattle.gap_psd.specs.Shifts.{IsDominantShift}
use Rattle.gap_model.specs.Settings.{product_of}
use Rattle.gap_model.specs.Lagrangian.{rewards_of, squares_of, void_lag, lag}
use Rattle.gap_model.specs.Theta.{lists_of, picks, theta}
use Rattle.gap_cert.specs.Certificates.{tangent}
use Rattle.gap_valid.specs.Heads.{market_in, instance_in, shift_in, setting_in, root_in, IsAssetLine, IsDiagonal, IsHead}
use Rattle.gap_valid.specs.CertTrees.{PlacedLeaf, leaf_shows, shown_bound, IsWitness}
use Rattle.gap_valid.specs.Valid.{IsRightLeaf, IsValidSection, IsValid, Shows}
use Rattle.gap_valid.specs.Worked.{first_asset, second_asset, worked_head, worked_section, worked}

abbrev Small : ℕ → ℤ → Type 0
Small most v = unsigned_abs v ≤ most

worked_head_is : IsHead worked_head
worked_head_is = record {
  few = omega arith;
  many = omega arith;
  lots_least = omega arith;
  lots_most = omega arith;
  held_least = omega arith;
  held_range = omega arith;
  held_most = omega arith;
  turnover_most = λ t e. absurd (cc);
  nodes_most = omega arith;
  assets_count = refl;
  assets_are = All-cons (IsAssetLine 10) first_asset (second_asset ∷ []) (record { mean_most = omega arith; dev_most = omega arith; least_least = omega arith; least_most = omega arith; greatest_least = omega arith; greatest_most = omega arith; present_most = omega arith })
      (All-cons (IsAssetLine 10) second_asset [] (record { mean_most = omega arith; dev_most = omega arith; least_least = omega arith; least_most = omega arith; greatest_least = omega arith; greatest_most = omega arith; present_most = omega arith }) (All-nil (IsAssetLine 10)));
  correlations_count = refl;
  correlations_are = All-cons (Small 1000000) (pos 0) [] (omega arith) (All-nil (Small 1000000));
  factor_count = refl;
  factor_are = All-cons (Small 1000000000000000) (pos 100000000000000) (pos 0 ∷ pos 200000000000000 ∷ []) (omega arith) (All-cons (Small 1000000000000000) (pos 0) (pos 200000000000000 ∷ []) (omega arith) (All-cons (Small 1000000000000000) (pos 200000000000000) [] (omega arith) (All-nil (Small 1000000000000000))));
  diagonal_count = refl;
  diagonal_are = All-cons IsDiagonal (pos 0) (pos 0 ∷ []) zero_diagonal (All-cons IsDiagonal (pos 0) [] zero_diagonal (All-nil IsDiagonal));
}
  where
    zero_diagonal : IsDiagonal (pos 0)
    zero_diagonal = record { least = omega arith; most = omega arith }

-- 10^12 C - R R' is the matrix of zeros
worked_dominant : IsDominantShift (cov_of (instance_in worked_head).market) (shift_in worked_head)
unfolding instance_in market_in shift_in cov_of rho_of others gram sum_below
worked_dominant zero h = le_z_yes tt
worked_dominant (suc zero) h = le_z_yes tt
worked_dominant (suc (suc i)) h = absurd (omega arith)

worked_meets : MeetsLimits (instance_in worked_head) (8 ∷ 2 ∷ [])
unfolding instance_in market_in sum_below count_if
worked_meets = record {
  assets_are = refl;
  lots_are = refl;
  fewest = omega arith;
  many = omega arith;
  least_kept = least_kept;
  greatest_kept = greatest_kept;
  turnover_kept = λ t e. absurd (cc);
}
  where
    least_kept : (i : ℕ) → i < 2 → 0 < slice_index_or (8 ∷ 2 ∷ []) i 0 → slice_index_or (1 ∷ 1 ∷ []) i 0 ≤ slice_index_or (8 ∷ 2 ∷ []) i 0
    least_kept zero h p = omega arith
    least_kept (suc zero) h p = omega arith
    least_kept (suc (suc i)) h p = absurd (omega arith)

    greatest_kept : (i : ℕ) → i < 2 → slice_index_or (8 ∷ 2 ∷ []) i 0 ≤ slice_index_or (10 ∷ 10 ∷ []) i 0
    greatest_kept zero h = omega arith
    greatest_kept (suc zero) h = omega arith
    greatest_kept (suc (suc i)) h = absurd (omega arith)

worked_value : objective (instance_in worked_head) 1 1 (8 ∷ 2 ∷ []) ≡ pos 800000000000000000
unfolding instance_in market_in objective risk_of return_of cov_of rho_of sum_below
worked_value = refl

-- theta over the hundred lists of the root with both assets held is 64 times the objective
worked_shown : Shows worked_head worked_section.weight None worked_section.tree (pos 800000000000000000)
unfolding instance_in market_in shift_in shown_bound leaf_shows theta picks lists_of lag void_lag product_of rewards_of squares_of cov_of rho_of sum_below
worked_shown = le_z_yes tt

worked_witness : IsWitness (instance_in worked_head) (record { y = 64 ∷ 16 ∷ []; alpha = negsuc 10239999999999999999; tau = pos 0 })
unfolding instance_in market_in
worked_witness = record {
  point = record { count = refl; most = omega arith };
  multipliers = record { alpha_most = omega arith; tau_least = omega (arith, ints); tau_most = omega arith; tau_unset = λ e. refl };
}

abbrev worked_leaf : PlacedLeaf
worked_leaf = record { part = root_in worked_head; leaf = tangent (record { y = 64 ∷ 16 ∷ []; alpha = negsuc 10239999999999999999; tau = pos 0 }) }

worked_section_is : IsValidSection worked_head worked_section
worked_section_is = record {
  weight_is = record { least = omega arith; most = omega arith; within = omega arith };
  formed = tt;
  leaves_are = All-cons (IsRightLeaf (setting_in worked_head worked_section.weight)) worked_leaf [] (record { ranges = worked_witness; empty = λ e. absurd (cc) }) (All-nil (IsRightLeaf (setting_in worked_head worked_section.weight)));
  within = omega arith;
  claim_is = record { overall_is = λ w e. absurd (cc); portfolio = record { meets = worked_meets; value_is = sym worked_value }; shown = worked_shown };
}

pub worked_is : IsValid worked
worked_is = record {
  head_is = worked_head_is;
  dominant = worked_dominant;
  some = omega arith;
  few = omega arith;
  sections_are = All-cons (IsValidSection worked_head) worked_section [] worked_section_is (All-nil (IsValidSection worked_head));
}
