-- Integers as differences of two natural numbers, z = up z − dn z, of which one is 0. `omega` reads sums and orders of natural
-- numbers only; by these laws it reads integers too. Assumes nothing.
use Rattle.std.specs.Prelude.{◌≡◌, refl, Bool, true, false, not, cond, ◌↔◌, ◌⊎◌, ℕ, zero, suc, ◌+◌, ◌-◌, ◌<◌, ◌≤◌, T, ltb, ℤ, pos, negsuc, ◌+ℤ◌, neg_ℤ, nat_abs, ◌≤ℤ◌, ◌<ℤ◌}
use Rattle.std.proofs.Common.{ap, true≢false, inl, inr, arith, ltb→lt, nltb→le, ltb-true, ltb-false, leb-true, leb-false}
use Rattle.std.proofs.lemmas.Bool.{false≢true}
use Rattle.std.proofs.Math.IntN.{sub_ℕ}
use Rattle.std.specs.Int.Signed.{lt_z, le_z, mag, non_neg}
use Rattle.lists.specs.Bools.{by_cases, T_true, true_T}

abbrev pub up : ℤ → ℕ
up (pos n) = n
up (negsuc n) = 0

abbrev pub dn : ℤ → ℕ
dn (pos n) = 0
dn (negsuc n) = suc n

cond_ind : (c : Bool) (x y : ℤ) (P : ℤ → Type 0) → (T c → P x) → (T (not c) → P y) → P (cond c x y)
cond_ind true x y P f g = f tt
cond_ind false x y P f g = g tt

sub_parts : (a b : ℕ) → up (sub_ℕ a b) + b ≡ a + dn (sub_ℕ a b)
sub_parts a b = cond_ind (ltb a b) (negsuc (b - suc a)) (pos (a - b)) (λ z. up z + b ≡ a + dn z)
    (λ t. let h : a < b = ltb→lt a b t in omega arith) (λ t. let h : b ≤ a = nltb→le a b t in omega arith)

sub-up : (a b : ℕ) → up (sub_ℕ a b) ≤ a + 0
sub-up a b = cond_ind (ltb a b) (negsuc (b - suc a)) (pos (a - b)) (λ z. up z ≤ a + 0)
    (λ t. omega arith) (λ t. omega arith)

-- the sum
pub add_parts : (a b : ℤ) → up (a +ℤ b) + (dn a + dn b) ≡ up a + up b + dn (a +ℤ b)
add_parts (pos a) (pos b) = omega arith
add_parts (pos a) (negsuc b) = omega (arith, sub_parts a (suc b))
add_parts (negsuc a) (pos b) = omega (arith, sub_parts b (suc a))
add_parts (negsuc a) (negsuc b) = omega arith

-- and it grows neither side by more
pub add-up : (a b : ℤ) → up (a +ℤ b) ≤ up a + up b
add-up (pos a) (pos b) = omega arith
add-up (pos a) (negsuc b) = sub-up a (suc b)
add-up (negsuc a) (pos b) = omega (arith, sub-up b (suc a))
add-up (negsuc a) (negsuc b) = omega arith

pub add-dn : (a b : ℤ) → dn (a +ℤ b) ≤ dn a + dn b
add-dn a b = omega (arith, add-up a b, add_parts a b)

-- one of the two is 0
pub one_side : (a : ℤ) → (up a ≡ 0) ⊎ (dn a ≡ 0)
one_side (pos a) = inr refl
one_side (negsuc a) = inl refl

-- so a part that is at most a limit more than the other is at most the limit
pub up_most : (a : ℤ) (l : ℕ) → up a ≤ l + dn a → up a ≤ l
up_most (pos a) l h = omega arith
up_most (negsuc a) l h = omega arith

pub dn_most : (a : ℤ) (l : ℕ) → dn a ≤ l + up a → dn a ≤ l
dn_most (pos a) l h = omega arith
dn_most (negsuc a) l h = omega arith

-- equal where the differences are
pub eq_of_parts : (a b : ℤ) → up a + dn b ≡ up b + dn a → a ≡ b
eq_of_parts (pos a) (pos b) h = let e : a ≡ b = omega arith in ap pos e
eq_of_parts (pos a) (negsuc b) h = absurd (let z : ◌≡◌ {A = ℕ} 0 1 = omega arith in omega arith)
eq_of_parts (negsuc a) (pos b) h = absurd (let z : ◌≡◌ {A = ℕ} 0 1 = omega arith in omega arith)
eq_of_parts (negsuc a) (negsuc b) h = let e : a ≡ b = omega arith in ap negsuc e

-- the range
pub mag_of_parts : (a : ℤ) (H : ℕ) → up a < H → dn a ≤ H → mag a < H
mag_of_parts (pos a) H h k = h
mag_of_parts (negsuc a) H h k = k

-- the tests of order, each way
pub lt_z_true : (a b : ℤ) → lt_z a b ≡ true → up a + dn b < up b + dn a
lt_z_true (pos a) (pos b) h = omega (arith, ltb-true a b h)
lt_z_true (pos a) (negsuc b) h = absurd (false≢true h)
lt_z_true (negsuc a) (pos b) h = omega arith
lt_z_true (negsuc a) (negsuc b) h = omega (arith, ltb-true b a h)

pub lt_z_false : (a b : ℤ) → lt_z a b ≡ false → up b + dn a ≤ up a + dn b
lt_z_false (pos a) (pos b) h = omega (arith, ltb-false a b h)
lt_z_false (pos a) (negsuc b) h = omega arith
lt_z_false (negsuc a) (pos b) h = absurd (true≢false h)
lt_z_false (negsuc a) (negsuc b) h = omega (arith, ltb-false b a h)

pub le_z_true : (a b : ℤ) → le_z a b ≡ true → up a + dn b ≤ up b + dn a
le_z_true (pos a) (pos b) h = omega (arith, leb-true a b h)
le_z_true (pos a) (negsuc b) h = absurd (false≢true h)
le_z_true (negsuc a) (pos b) h = omega arith
le_z_true (negsuc a) (negsuc b) h = omega (arith, leb-true b a h)

pub le_z_false : (a b : ℤ) → le_z a b ≡ false → up b + dn a < up a + dn b
le_z_false (pos a) (pos b) h = omega (arith, leb-false a b h)
le_z_false (pos a) (negsuc b) h = omega arith
le_z_false (negsuc a) (pos b) h = absurd (true≢false h)
le_z_false (negsuc a) (negsuc b) h = omega (arith, leb-false b a h)

pub lt_lt_z : (a b : ℤ) → up a + dn b < up b + dn a → lt_z a b ≡ true
lt_lt_z a b h = by_cases (lt_z a b) (λ e. e) (λ e. absurd (let k : up b + dn a ≤ up a + dn b = lt_z_false a b e in omega arith))

pub le_le_z : (a b : ℤ) → up a + dn b ≤ up b + dn a → le_z a b ≡ true
le_le_z a b h = by_cases (le_z a b) (λ e. e) (λ e. absurd (let k : up b + dn a < up a + dn b = le_z_false a b e in omega arith))

-- one test from the other
pub lt_z_no_le_z : (a b : ℤ) → lt_z a b ≡ true → le_z b a ≡ false
lt_z_no_le_z a b h = by_cases (le_z b a) (λ e. absurd (omega (arith, lt_z_true a b h, le_z_true b a e))) (λ e. e)

pub no_lt_z_le_z : (a b : ℤ) → lt_z a b ≡ false → le_z b a ≡ true
no_lt_z_le_z a b h = le_le_z b a (lt_z_false a b h)

-- negation, magnitude, sign
pub neg-up : (z : ℤ) → up (neg_ℤ z) ≡ dn z
neg-up (pos zero) = refl
neg-up (pos (suc n)) = refl
neg-up (negsuc n) = refl

pub neg-dn : (z : ℤ) → dn (neg_ℤ z) ≡ up z
neg-dn (pos zero) = refl
neg-dn (pos (suc n)) = refl
neg-dn (negsuc n) = refl

pub abs_parts : (z : ℤ) → nat_abs z ≡ up z + dn z
abs_parts (pos n) = omega arith
abs_parts (negsuc n) = omega arith

pub non_neg_of : (z : ℤ) → dn z ≡ 0 → T (non_neg z)
non_neg_of (pos n) h = tt
non_neg_of (negsuc n) h = absurd (let k : ◌≡◌ {A = ℕ} 0 1 = omega arith in omega arith)

-- ---- the library's order relations

pub le_parts : (a b : ℤ) → a ≤ℤ b → up a + dn b ≤ up b + dn a
le_parts a b h = le_z_true a b (T_true (le_z a b) h.le)

pub parts_le : (a b : ℤ) → up a + dn b ≤ up b + dn a → a ≤ℤ b
parts_le a b h = record { le = true_T (le_z a b) (le_le_z a b h) }

pub lt_parts : (a b : ℤ) → a <ℤ b → up a + dn b < up b + dn a
lt_parts a b h = lt_z_true a b (T_true (lt_z a b) h.lt)

pub parts_lt : (a b : ℤ) → up a + dn b < up b + dn a → a <ℤ b
parts_lt a b h = record { lt = true_T (lt_z a b) (lt_lt_z a b h) }

-- ---- z is x − y

abbrev pub IsDiff : ℤ → ℕ → ℕ → Type 0
IsDiff z x y = (up z + y ≡ x + dn z)

pub diff_self : (z : ℤ) → IsDiff z (up z) (dn z)
diff_self z = refl

pub diff_add : (z w : ℤ) (x y u v : ℕ) → IsDiff z x y → IsDiff w u v → IsDiff (z +ℤ w) (x + u) (y + v)
diff_add z w x y u v h k = omega (arith, add_parts z w)

pub diff_neg : (z : ℤ) (x y : ℕ) → IsDiff z x y → IsDiff (neg_ℤ z) y x
diff_neg z x y h = omega (arith, neg-up z, neg-dn z)

pub diff_le : (z w : ℤ) (x y u v : ℕ) → IsDiff z x y → IsDiff w u v → (z ≤ℤ w) ↔ (x + v ≤ u + y)
diff_le z w x y u v h k = ((λ l. omega (arith, le_parts z w l)), λ l. parts_le z w (omega arith))

pub diff_lt : (z w : ℤ) (x y u v : ℕ) → IsDiff z x y → IsDiff w u v → (z <ℤ w) ↔ (x + v < u + y)
diff_lt z w x y u v h k = ((λ l. omega (arith, lt_parts z w l)), λ l. parts_lt z w (omega arith))

pub diff_eq : (z w : ℤ) (x y u v : ℕ) → IsDiff z x y → IsDiff w u v → z ≡ w → x + v ≡ u + y
diff_eq z w x y u v h k e = omega (arith, ap up e, ap dn e)

-- two integers that are one difference are one
pub diff_one : (z w : ℤ) (x y : ℕ) → IsDiff z x y → IsDiff w x y → z ≡ w
diff_one z w x y h k = eq_of_parts z w (omega arith)
