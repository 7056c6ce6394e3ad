-- The worked certificate of two assets, without correlation, of which both are held: the tests alone use it. Own to portgap.

use Rattle.std.specs.Prelude.{ℕ, List, [], ◌∷◌, None, pos, negsuc}
use Rattle.gap_cert.specs.Certificates.{tangent, tip, closed, AssetLine, CertHead, CertSection, Certificate}

abbrev pub first_asset : AssetLine
first_asset = record { mean = pos 1000; dev = 100000; least = 1; greatest = 10; present = 0 }

abbrev pub second_asset : AssetLine
second_asset = record { mean = pos 2000; dev = 200000; least = 1; greatest = 10; present = 0 }

abbrev pub worked_head : CertHead
worked_head = record {
  n = 2;
  lots = 10;
  held = 2;
  held_most = 2;
  turnover = None;
  nodes = 0;
  assets = first_asset ∷ second_asset ∷ [];
  correlations = pos 0 ∷ [];
  factor = pos 100000000000000 ∷ pos 0 ∷ pos 200000000000000 ∷ [];
  diagonal = pos 0 ∷ pos 0 ∷ [];
}

-- all weight on risk: 8 and 2 lots have the objective 8 * 10^17, and the tangent at them shows it
abbrev pub worked_section : CertSection
worked_section = record {
  weight = record { p = 1; q = 1 };
  claim = closed (record { lots = 8 ∷ 2 ∷ []; value = pos 800000000000000000 }) None;
  tree = tip (tangent (record { y = 64 ∷ 16 ∷ []; alpha = negsuc 10239999999999999999; tau = pos 0 }));
}

abbrev pub worked : Certificate
worked = record { head = worked_head; sections = worked_section ∷ [] }

-- its bytes in version 1, made by a computation apart from this repository
abbrev pub worked_bytes : List ℕ
worked_bytes =
    71 ∷ 65 ∷ 80 ∷ 67 ∷ 69 ∷ 82 ∷ 84 ∷ 49 ∷ 0 ∷ 2 ∷ 0 ∷ 10 ∷ 0 ∷ 2 ∷ 0 ∷ 0 ∷ 0 ∷ 0 ∷ 0 ∷ 0 ∷ 0 ∷ 3 ∷ 232 ∷ 0 ∷ 1 ∷
    134 ∷ 160 ∷ 0 ∷ 1 ∷ 0 ∷ 10 ∷ 0 ∷ 0 ∷ 0 ∷ 0 ∷ 7 ∷ 208 ∷ 0 ∷ 3 ∷ 13 ∷ 64 ∷ 0 ∷ 1 ∷ 0 ∷ 10 ∷ 0 ∷ 0 ∷ 0 ∷ 0 ∷ 0 ∷
    0 ∷ 0 ∷ 0 ∷ 90 ∷ 243 ∷ 16 ∷ 122 ∷ 64 ∷ 0 ∷ 0 ∷ 0 ∷ 0 ∷ 0 ∷ 0 ∷ 0 ∷ 0 ∷ 0 ∷ 0 ∷ 0 ∷ 181 ∷ 230 ∷ 32 ∷ 244 ∷ 128 ∷
    0 ∷ 0 ∷ 0 ∷ 0 ∷ 0 ∷ 0 ∷ 0 ∷ 0 ∷ 0 ∷ 0 ∷ 0 ∷ 0 ∷ 0 ∷ 0 ∷ 0 ∷ 0 ∷ 0 ∷ 0 ∷ 0 ∷ 0 ∷ 0 ∷ 0 ∷ 0 ∷ 0 ∷ 0 ∷ 0 ∷ 0 ∷ 0 ∷
    0 ∷ 0 ∷ 0 ∷ 0 ∷ 0 ∷ 1 ∷ 1 ∷ 1 ∷ 1 ∷ 0 ∷ 1 ∷ 0 ∷ 8 ∷ 0 ∷ 2 ∷ 0 ∷ 2 ∷ 0 ∷ 0 ∷ 0 ∷ 0 ∷ 0 ∷ 0 ∷ 0 ∷ 0 ∷ 11 ∷ 26 ∷
    43 ∷ 194 ∷ 236 ∷ 80 ∷ 0 ∷ 0 ∷ 0 ∷ 3 ∷ 0 ∷ 2 ∷ 0 ∷ 1 ∷ 0 ∷ 0 ∷ 0 ∷ 64 ∷ 0 ∷ 2 ∷ 0 ∷ 0 ∷ 0 ∷ 16 ∷ 255 ∷ 255 ∷
    255 ∷ 255 ∷ 255 ∷ 255 ∷ 255 ∷ 255 ∷ 113 ∷ 228 ∷ 54 ∷ 64 ∷ 252 ∷ 0 ∷ 0 ∷ 0 ∷ 0 ∷ 0 ∷ 0 ∷ 0 ∷ 0 ∷ 0 ∷ 0 ∷ 0 ∷ 0 ∷
    0 ∷ 0 ∷ 0 ∷ 0 ∷ 0 ∷ 0 ∷ 0 ∷ 69 ∷ 78 ∷ 68 ∷ 10 ∷ []
