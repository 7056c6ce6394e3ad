-- The greatest sizes of the numbers that a portfolio problem holds and of the sums that are formed from them. They are
-- chosen so that each sum stays below `most_sum`, which an i128 holds. Own to portgap.

use Rattle.std.specs.Prelude.{ℕ, ◌*◌, ◌^◌}

-- a mean, a deviation or a correlation, in millionths
abbrev pub most_millionths : ℕ
most_millionths = 10 ^ 6

-- the lots of a portfolio, and of one asset
abbrev pub most_lots : ℕ
most_lots = 10 ^ 4

-- the sum of a tangent point, in eighths of a lot
abbrev pub most_eighths : ℕ
most_eighths = 8 * 10 ^ 4

-- the limit on turnover, in lots
abbrev pub most_turnover : ℕ
most_turnover = 3 * 10 ^ 6

-- the sizes that a numeral of a port file can say, in millionths; a greater one is cut off there
abbrev pub most_numeral : ℕ
most_numeral = 10 ^ 30

-- a covariance C_ij, in units of 10^-18
abbrev pub most_covariance : ℕ
most_covariance = 10 ^ 18

-- an entry of the factor R, and of the diagonal shift D
abbrev pub most_factor : ℕ
most_factor = 10 ^ 15

abbrev pub most_diagonal : ℕ
most_diagonal = 10 ^ 21

-- an entry of A, the covariances with D added on the diagonal
abbrev pub most_shifted : ℕ
most_shifted = 1001 * 10 ^ 18

-- an entry of 10^12 A - RR', and what a row's diagonal and the sum of its other entries may reach
abbrev pub most_remainder : ℕ
most_remainder = 1257 * 10 ^ 30

-- what one lot of an asset adds to the return term of the objective: (q - p) 10^12 L mu_i
abbrev pub most_reward : ℕ
most_reward = 10 ^ 24

-- the scaled objective F of a list of lots
abbrev pub most_objective : ℕ
most_objective = 2 * 10 ^ 33

-- a multiplier of the sum of lots or of the turnover
abbrev pub most_multiplier : ℕ
most_multiplier = 10 ^ 30

-- an entry of Cy at a tangent point y
abbrev pub most_row : ℕ
most_row = 8 * 10 ^ 22

-- of one asset in a tangent bound: the price of a lot without and with the multiplier of the sum, the price of a
-- square of lots, and the whole cost of holding it or not
abbrev pub most_slope : ℕ
most_slope = 13 * 10 ^ 28

abbrev pub most_price : ℕ
most_price = 113 * 10 ^ 28

abbrev pub most_bend : ℕ
most_bend = 64 * 10 ^ 23

abbrev pub most_asset_cost : ℕ
most_asset_cost = 23 * 10 ^ 33

-- the terms of a tangent bound that speak of no single asset: without and with the prices of the limits
abbrev pub most_constant : ℕ
most_constant = 17 * 10 ^ 34

abbrev pub most_fixed : ℕ
most_fixed = 318 * 10 ^ 34

-- a cost of one asset where the least sum over all ways to hold some of them is asked for
abbrev pub most_cost : ℕ
most_cost = 3 * 10 ^ 34

-- theta at a part, and what a leaf shows of the objective
abbrev pub most_theta : ℕ
most_theta = 91 * 10 ^ 35

abbrev pub most_bound : ℕ
most_bound = 10 ^ 36

-- every sum that is formed is below this in size, intermediate ones too
abbrev pub most_sum : ℕ
most_sum = 10 ^ 37
