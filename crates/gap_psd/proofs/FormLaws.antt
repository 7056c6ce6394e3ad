-- The laws of quadratic forms.
use Rattle.std.proofs.Common.{◌≡◌, ℕ, zero, suc, ◌+◌, ◌*◌, ◌<◌, ◌≤◌, ◌==◌, if◌then◌else◌, List, length, ℤ, pos, negsuc, ◌+ℤ◌, ◌-ℤ◌, ◌*ℤ◌, neg_ℤ, ◌≤ℤ◌, refl, sym, ap, ◌∙◌, arith}
use Rattle.std.proofs.Math.IntN.{*ℤ_comm}
use Rattle.std.proofs.lemmas.Int.{ints}
use Rattle.gap_base.specs.Sums.{sum_below, at}
use Rattle.gap_base.proofs.Ring.{expand, linear, square_not_negative, +ℤ-*ℤ, *ℤ-+ℤ, *ℤ_assoc, *ℤ_left_comm}
use Rattle.gap_base.proofs.SumLaws.{sum_same, sum-add, sum-neg, sum-sub, sum-scale, sum-scale_right, sum-swap, sum-product, sum_not_negative}
use Rattle.gap_base.proofs.Lists.{list_of}
use Rattle.gap_psd.specs.Forms.{form, gram, IsSemi, IsSymmetric}

pub form_is : (n : ℕ) (A : ℕ → ℕ → ℤ) (v w : ℕ → ℤ) → form n A v w ≡ sum_below n (λ i. sum_below n (λ j. A i j *ℤ v i *ℤ w j))
unfolding form
form_is n A v w = refl

-- from an equation of the terms to one of the forms
pub form_from_terms : (n : ℕ) (A B : ℕ → ℕ → ℤ) (v w x y : ℕ → ℤ) → ((i j : ℕ) → i < n → j < n → A i j *ℤ v i *ℤ w j ≡ B i j *ℤ x i *ℤ y j) → form n A v w ≡ form n B x y
unfolding form
form_from_terms n A B v w x y h = sum_same n (λ i. sum_below n (λ j. A i j *ℤ v i *ℤ w j)) (λ i. sum_below n (λ j. B i j *ℤ x i *ℤ y j)) (λ i l. sum_same n (λ j. A i j *ℤ v i *ℤ w j) (λ j. B i j *ℤ x i *ℤ y j) (λ j m. h i j l m))

term_same : (a b c d e f : ℤ) → a ≡ b → c ≡ d → e ≡ f → a *ℤ c *ℤ e ≡ b *ℤ d *ℤ f
term_same a b c d e f p q r = rw p (rw q (rw r refl))

-- only the places below n count
pub form_same : (n : ℕ) (A B : ℕ → ℕ → ℤ) (v w x y : ℕ → ℤ) → ((i j : ℕ) → i < n → j < n → A i j ≡ B i j) → ((i : ℕ) → i < n → v i ≡ x i) → ((i : ℕ) → i < n → w i ≡ y i) → form n A v w ≡ form n B x y
form_same n A B v w x y h p q = form_from_terms n A B v w x y (λ i j l m. term_same (A i j) (B i j) (v i) (x i) (w j) (y j) (h i j l m) (p i l) (q j m))

row_term : (a v w : ℤ) → a *ℤ w *ℤ v ≡ a *ℤ v *ℤ w
row_term a v w = simp expand refl

-- row by row: (A w)_i v_i summed up
pub form_rows : (n : ℕ) (A : ℕ → ℕ → ℤ) (v w : ℕ → ℤ) → sum_below n (λ i. sum_below n (λ j. A i j *ℤ w j) *ℤ v i) ≡ form n A v w
unfolding form
form_rows n A v w = sum_same n (λ i. sum_below n (λ j. A i j *ℤ w j) *ℤ v i) (λ i. sum_below n (λ j. A i j *ℤ v i *ℤ w j)) (λ i l. sym (sum-scale_right n (λ j. A i j *ℤ w j) (v i)) ∙ sum_same n (λ j. A i j *ℤ w j *ℤ v i) (λ j. A i j *ℤ v i *ℤ w j) (λ j m. row_term (A i j) (v i) (w j)))

-- with a symmetric matrix both sides can be exchanged
pub form_swap : (n : ℕ) (A : ℕ → ℕ → ℤ) (v w : ℕ → ℤ) → IsSymmetric n A → form n A v w ≡ form n A w v
unfolding form
form_swap n A v w s = sum-swap n n (λ i j. A i j *ℤ v i *ℤ w j) ∙ sum_same n (λ j. sum_below n (λ i. A i j *ℤ v i *ℤ w j)) (λ j. sum_below n (λ i. A j i *ℤ w j *ℤ v i)) (λ j l. sum_same n (λ i. A i j *ℤ v i *ℤ w j) (λ i. A j i *ℤ w j *ℤ v i) (λ i m. ap (λ a. a *ℤ v i *ℤ w j) (s i j m l) ∙ sym (row_term (A j i) (v i) (w j))))

linear_term : (e k l a c w : ℤ) → e *ℤ (k *ℤ a +ℤ l *ℤ c) *ℤ w ≡ k *ℤ (e *ℤ a *ℤ w) +ℤ l *ℤ (e *ℤ c *ℤ w)
linear_term e k l a c w = simp expand refl

double_add : (n : ℕ) (f g : ℕ → ℕ → ℤ) → sum_below n (λ i. sum_below n (λ j. f i j +ℤ g i j)) ≡ sum_below n (λ i. sum_below n (λ j. f i j)) +ℤ sum_below n (λ i. sum_below n (λ j. g i j))
double_add n f g = sum_same n (λ i. sum_below n (λ j. f i j +ℤ g i j)) (λ i. sum_below n (λ j. f i j) +ℤ sum_below n (λ j. g i j)) (λ i l. sum-add n (λ j. f i j) (λ j. g i j)) ∙ sum-add n (λ i. sum_below n (λ j. f i j)) (λ i. sum_below n (λ j. g i j))

double_scale : (n : ℕ) (k : ℤ) (f : ℕ → ℕ → ℤ) → sum_below n (λ i. sum_below n (λ j. k *ℤ f i j)) ≡ k *ℤ sum_below n (λ i. sum_below n (λ j. f i j))
double_scale n k f = sum_same n (λ i. sum_below n (λ j. k *ℤ f i j)) (λ i. k *ℤ sum_below n (λ j. f i j)) (λ i l. sum-scale n k (λ j. f i j)) ∙ sum-scale n k (λ i. sum_below n (λ j. f i j))

double_same : (n : ℕ) (f g : ℕ → ℕ → ℤ) → ((i j : ℕ) → i < n → j < n → f i j ≡ g i j) → sum_below n (λ i. sum_below n (λ j. f i j)) ≡ sum_below n (λ i. sum_below n (λ j. g i j))
double_same n f g h = sum_same n (λ i. sum_below n (λ j. f i j)) (λ i. sum_below n (λ j. g i j)) (λ i l. sum_same n (λ j. f i j) (λ j. g i j) (λ j m. h i j l m))

-- the form is linear on the left
pub form_linear_left : (n : ℕ) (A : ℕ → ℕ → ℤ) (k l : ℤ) (a c w : ℕ → ℤ) → form n A (λ i. k *ℤ a i +ℤ l *ℤ c i) w ≡ k *ℤ form n A a w +ℤ l *ℤ form n A c w
unfolding form
form_linear_left n A k l a c w =
    let e = double_same n (λ i j. A i j *ℤ (k *ℤ a i +ℤ l *ℤ c i) *ℤ w j) (λ i j. k *ℤ (A i j *ℤ a i *ℤ w j) +ℤ l *ℤ (A i j *ℤ c i *ℤ w j)) (λ i j p q. linear_term (A i j) k l (a i) (c i) (w j)) in
    let f = double_add n (λ i j. k *ℤ (A i j *ℤ a i *ℤ w j)) (λ i j. l *ℤ (A i j *ℤ c i *ℤ w j)) in
    let g = double_scale n k (λ i j. A i j *ℤ a i *ℤ w j) in
    let h = double_scale n l (λ i j. A i j *ℤ c i *ℤ w j) in
    omega (arith, linear)

-- and on the right
right_term : (e k l a c v : ℤ) → e *ℤ v *ℤ (k *ℤ a +ℤ l *ℤ c) ≡ k *ℤ (e *ℤ v *ℤ a) +ℤ l *ℤ (e *ℤ v *ℤ c)
right_term e k l a c v = simp expand refl

pub form_linear_right : (n : ℕ) (A : ℕ → ℕ → ℤ) (k l : ℤ) (v a c : ℕ → ℤ) → form n A v (λ j. k *ℤ a j +ℤ l *ℤ c j) ≡ k *ℤ form n A v a +ℤ l *ℤ form n A v c
unfolding form
form_linear_right n A k l v a c =
    let e = double_same n (λ i j. A i j *ℤ v i *ℤ (k *ℤ a j +ℤ l *ℤ c j)) (λ i j. k *ℤ (A i j *ℤ v i *ℤ a j) +ℤ l *ℤ (A i j *ℤ v i *ℤ c j)) (λ i j p q. right_term (A i j) k l (a j) (c j) (v i)) in
    let f = double_add n (λ i j. k *ℤ (A i j *ℤ v i *ℤ a j)) (λ i j. l *ℤ (A i j *ℤ v i *ℤ c j)) in
    let g = double_scale n k (λ i j. A i j *ℤ v i *ℤ a j) in
    let h = double_scale n l (λ i j. A i j *ℤ v i *ℤ c j) in
    omega (arith, linear)

-- the form of a sum of two matrices with a factor: s A = E + G gives s form A = form E + form G
split_term : (s a e g v w : ℤ) → s *ℤ a ≡ e +ℤ g → s *ℤ (a *ℤ v *ℤ w) ≡ e *ℤ v *ℤ w +ℤ g *ℤ v *ℤ w
split_term s a e g v w h = let p : s *ℤ (a *ℤ v *ℤ w) ≡ (s *ℤ a) *ℤ v *ℤ w = simp expand refl in p ∙ ap (λ x. x *ℤ v *ℤ w) h ∙ ap (λ x. x *ℤ w) (+ℤ-*ℤ e g v) ∙ +ℤ-*ℤ (e *ℤ v) (g *ℤ v) w

pub form_split : (n : ℕ) (s : ℤ) (A E G : ℕ → ℕ → ℤ) (v w : ℕ → ℤ) → ((i j : ℕ) → i < n → j < n → s *ℤ A i j ≡ E i j +ℤ G i j) → s *ℤ form n A v w ≡ form n E v w +ℤ form n G v w
unfolding form
form_split n s A E G v w h =
    sym (double_scale n s (λ i j. A i j *ℤ v i *ℤ w j))
    ∙ double_same n (λ i j. s *ℤ (A i j *ℤ v i *ℤ w j)) (λ i j. E i j *ℤ v i *ℤ w j +ℤ G i j *ℤ v i *ℤ w j) (λ i j p q. split_term s (A i j) (E i j) (G i j) (v i) (w j) (h i j p q))
    ∙ double_add n (λ i j. E i j *ℤ v i *ℤ w j) (λ i j. G i j *ℤ v i *ℤ w j)

-- R R' has squares for its form
gram_term : (r q v w : ℤ) → r *ℤ q *ℤ v *ℤ w ≡ (r *ℤ v) *ℤ (q *ℤ w)
gram_term r q v w = simp expand refl

gram_entry : (n : ℕ) (R : ℕ → ℕ → ℤ) (v w : ℕ → ℤ) (i j : ℕ) → gram n R i j *ℤ v i *ℤ w j ≡ sum_below n (λ k. (R i k *ℤ v i) *ℤ (R j k *ℤ w j))
unfolding gram
gram_entry n R v w i j =
    ap (λ x. x *ℤ w j) (sym (sum-scale_right n (λ k. R i k *ℤ R j k) (v i)))
    ∙ sym (sum-scale_right n (λ k. R i k *ℤ R j k *ℤ v i) (w j))
    ∙ sum_same n (λ k. R i k *ℤ R j k *ℤ v i *ℤ w j) (λ k. (R i k *ℤ v i) *ℤ (R j k *ℤ w j)) (λ k l. gram_term (R i k) (R j k) (v i) (w j))

pub form_gram : (n : ℕ) (R : ℕ → ℕ → ℤ) (v w : ℕ → ℤ) → form n (gram n R) v w ≡ sum_below n (λ k. sum_below n (λ i. R i k *ℤ v i) *ℤ sum_below n (λ j. R j k *ℤ w j))
unfolding form
form_gram n R v w =
    double_same n (λ i j. gram n R i j *ℤ v i *ℤ w j) (λ i j. sum_below n (λ k. (R i k *ℤ v i) *ℤ (R j k *ℤ w j))) (λ i j p q. gram_entry n R v w i j)
    ∙ sum_same n (λ i. sum_below n (λ j. sum_below n (λ k. (R i k *ℤ v i) *ℤ (R j k *ℤ w j)))) (λ i. sum_below n (λ k. sum_below n (λ j. (R i k *ℤ v i) *ℤ (R j k *ℤ w j)))) (λ i l. sum-swap n n (λ j k. (R i k *ℤ v i) *ℤ (R j k *ℤ w j)))
    ∙ sum-swap n n (λ i k. sum_below n (λ j. (R i k *ℤ v i) *ℤ (R j k *ℤ w j)))
    ∙ sum_same n (λ k. sum_below n (λ i. sum_below n (λ j. (R i k *ℤ v i) *ℤ (R j k *ℤ w j)))) (λ k. sum_below n (λ i. R i k *ℤ v i) *ℤ sum_below n (λ j. R j k *ℤ w j)) (λ k l. sum-product n n (λ i. R i k *ℤ v i) (λ j. R j k *ℤ w j))

pub semi_gram : (n : ℕ) (R : ℕ → ℕ → ℤ) (v : ℕ → ℤ) → pos 0 ≤ℤ form n (gram n R) v v
semi_gram n R v = rw (form_gram n R v v) (sum_not_negative n (λ k. sum_below n (λ i. R i k *ℤ v i) *ℤ sum_below n (λ j. R j k *ℤ v j)) (λ k l. square_not_negative (sum_below n (λ i. R i k *ℤ v i))))

pub gram_symmetric : (n : ℕ) (R : ℕ → ℕ → ℤ) (i j : ℕ) → gram n R i j ≡ gram n R j i
unfolding gram
gram_symmetric n R i j = sum_same n (λ k. R i k *ℤ R j k) (λ k. R j k *ℤ R i k) (λ k l. *ℤ_comm (R i k) (R j k))

-- semidefinite over lists is semidefinite over functions of the place
pub semi_everywhere : (n : ℕ) (A : ℕ → ℕ → ℤ) → IsSemi n A → (v : ℕ → ℤ) → pos 0 ≤ℤ form n A v v
semi_everywhere n A h v = let l = list_of n v in let e = form_same n A A (at l.0) (at l.0) v v (λ i j p q. refl) l.2 l.2 in let s = h l.0 l.1 in rw e at s
