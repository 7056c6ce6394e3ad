-- One item more of a head, of the certificate that the items so far begin.
use Rattle.std.proofs.Common.{◌≡◌, List, [], ◌∷◌, ◌++◌, map, length, ℤ, refl, sym, ap, ◌∙◌, arith}
use Rattle.std.proofs.lemmas.List.{append_assoc, append-nil, map-append}
use Rattle.gap_cert.specs.declared.field.Version.{Version}
use Rattle.gap_cert.specs.declared.field.Field.{Field}
use Rattle.gap_cert.specs.declared.field.Field.TheVariants as field
use Rattle.gap_cert.specs.declared.field.Group.{Group}
use Rattle.gap_cert.specs.Certificates.{AssetLine, CertHead, asset_field, head_fields, group_in}
use Rattle.gap_judge.specs.Progress.{with_asset, with_correlation, with_factor, with_diagonal}
use Rattle.gap_check.proofs.SoFar.{Are}

-- a list is empty
pub none_there : {X : Type 0} (xs : List X) → length xs ≡ 0 → xs ≡ []
none_there [] e = refl
none_there (x ∷ xs) e = absurd (omega (arith, e))

abbrev first_field : CertHead → Field
first_field h = field.Head h.n h.lots h.held h.held_most h.turnover h.nodes

end_one : (al bl cl dl : List Field) (x : Field) → bl ≡ [] → cl ≡ [] → dl ≡ [] → (al ++ x ∷ []) ++ bl ++ cl ++ dl ≡ (al ++ bl ++ cl ++ dl) ++ x ∷ []
end_one al bl cl dl x p q r = rw p (rw q (rw r (simp (append_assoc, append-nil))))

end_two : (al bl cl dl : List Field) (x : Field) → cl ≡ [] → dl ≡ [] → al ++ (bl ++ x ∷ []) ++ cl ++ dl ≡ (al ++ bl ++ cl ++ dl) ++ x ∷ []
end_two al bl cl dl x q r = rw q (rw r (simp (append_assoc, append-nil)))

end_three : (al bl cl dl : List Field) (x : Field) → dl ≡ [] → al ++ bl ++ (cl ++ x ∷ []) ++ dl ≡ (al ++ bl ++ cl ++ dl) ++ x ∷ []
end_three al bl cl dl x r = rw r (simp (append_assoc, append-nil))

end_four : (al bl cl dl : List Field) (x : Field) → al ++ bl ++ cl ++ (dl ++ x ∷ []) ≡ (al ++ bl ++ cl ++ dl) ++ x ∷ []
end_four al bl cl dl x = simp append_assoc

mapped_none : {X : Type 0} (f : X → Field) (xs : List X) → length xs ≡ 0 → map f xs ≡ []
mapped_none f xs e = ap (map f) (none_there xs e)

pub asset_end : (h : CertHead) (a : AssetLine) → length h.correlations ≡ 0 → length h.factor ≡ 0 → length h.diagonal ≡ 0 → head_fields (with_asset h a) ≡ head_fields h ++ asset_field a ∷ []
unfolding head_fields
asset_end h a p q r = ap (λ (l : List Field). first_field h ∷ l)
    (ap (λ (l : List Field). l ++ map field.Correlation h.correlations ++ map field.FactorEntry h.factor ++ map field.ShiftEntry h.diagonal) (map-append asset_field h.assets (a ∷ []))
    ∙ end_one (map asset_field h.assets) (map field.Correlation h.correlations) (map field.FactorEntry h.factor) (map field.ShiftEntry h.diagonal) (asset_field a) (mapped_none field.Correlation h.correlations p) (mapped_none field.FactorEntry h.factor q) (mapped_none field.ShiftEntry h.diagonal r))

pub correlation_end : (h : CertHead) (v : ℤ) → length h.factor ≡ 0 → length h.diagonal ≡ 0 → head_fields (with_correlation h v) ≡ head_fields h ++ field.Correlation v ∷ []
unfolding head_fields
correlation_end h v q r = ap (λ (l : List Field). first_field h ∷ l)
    (ap (λ (l : List Field). map asset_field h.assets ++ l ++ map field.FactorEntry h.factor ++ map field.ShiftEntry h.diagonal) (map-append field.Correlation h.correlations (v ∷ []))
    ∙ end_two (map asset_field h.assets) (map field.Correlation h.correlations) (map field.FactorEntry h.factor) (map field.ShiftEntry h.diagonal) (field.Correlation v) (mapped_none field.FactorEntry h.factor q) (mapped_none field.ShiftEntry h.diagonal r))

pub factor_end : (h : CertHead) (v : ℤ) → length h.diagonal ≡ 0 → head_fields (with_factor h v) ≡ head_fields h ++ field.FactorEntry v ∷ []
unfolding head_fields
factor_end h v r = ap (λ (l : List Field). first_field h ∷ l)
    (ap (λ (l : List Field). map asset_field h.assets ++ map field.Correlation h.correlations ++ l ++ map field.ShiftEntry h.diagonal) (map-append field.FactorEntry h.factor (v ∷ []))
    ∙ end_three (map asset_field h.assets) (map field.Correlation h.correlations) (map field.FactorEntry h.factor) (map field.ShiftEntry h.diagonal) (field.FactorEntry v) (mapped_none field.ShiftEntry h.diagonal r))

pub diagonal_end : (h : CertHead) (v : ℤ) → head_fields (with_diagonal h v) ≡ head_fields h ++ field.ShiftEntry v ∷ []
unfolding head_fields
diagonal_end h v = ap (λ (l : List Field). first_field h ∷ l)
    (ap (λ (l : List Field). map asset_field h.assets ++ map field.Correlation h.correlations ++ map field.FactorEntry h.factor ++ l) (map-append field.ShiftEntry h.diagonal (v ∷ []))
    ∙ end_four (map asset_field h.assets) (map field.Correlation h.correlations) (map field.FactorEntry h.factor) (map field.ShiftEntry h.diagonal) (field.ShiftEntry v))

-- items with one more
pub are_more : (v : Version) (gs : List Group) (fields more : List Field) (f : Field) → Are v gs fields → more ≡ fields ++ f ∷ [] → Are v (gs ++ group_in v f ∷ []) more
are_more v gs fields more f h e = ap (λ (l : List Group). l ++ group_in v f ∷ []) h ∙ sym (map-append (group_in v) fields (f ∷ [])) ∙ ap (map (group_in v)) (sym e)
