-- Two vertices climb to where they meet: on the way they pass every vertex whose edge is on the circle, and no other. Each step keeps
-- `Climbing`, which does not tell the two apart, so they may change places. Assumes nothing.
use Rattle.std.specs.Prelude.{◌≡◌, refl, ◌≢◌, ◌⊎◌, List, ℕ, ◌<◌, ◌≤◌, length, get_or, set}
use Rattle.std.proofs.Common.{◌∙◌, sym, ap, inl, inr, true≢false, arith, length-set, get_or-set_same, get_or-set_other}
use Rattle.std.proofs.Math.Decide.{ℕ_discrete}
use Rattle.swaps.specs.Hanging.{
  Shape,
  Hangs,
  Vertex,
  Child,
  Splits,
  above,
  splits_sym,
  above_parent,
  above_self,
  not-above,
  not_parent,
}

-- a charge c was offered to x: the list keeps the lesser of c and what stood at x
pub record Offered (old : List ℕ) (c x : ℕ) (rep : List ℕ) : Type 0 where
  pub here : get_or rep x 0 ≤ c
  pub same : (v : ℕ) → v ≢ x → get_or rep v 0 ≡ get_or old v 0
  pub what : (get_or rep x 0 ≡ get_or old x 0) ⊎ (get_or rep x 0 ≡ c)
  pub less : get_or rep x 0 ≤ get_or old x 0
  pub long : length rep ≡ length old

pub offered_lesser : (old : List ℕ) (c x y : ℕ) → x < length old → y ≤ get_or old x 0 → y ≤ c → (y ≡ get_or old x 0) ⊎ (y ≡ c)
    → Offered old c x (set old x y)
offered_lesser old c x y h l m w = record {
  here = omega (arith, at);
  same = λ v f. get_or-set_other old x v y 0 f;
  what = rw at w;
  less = omega (arith, at);
  long = length-set old x y;
}
  where
    at : get_or (set old x y) x 0 ≡ y
    at = get_or-set_same old x y 0 h

-- top is 0, or the weight of a vertex on the circle of p and q
abbrev pub Reached : Shape → (ℕ → ℕ) → ℕ → ℕ → ℕ → Type 0
Reached t weigh p q top = (top ≡ 0) ⊎ ((v : ℕ) × Child t v × Splits t v p q × (weigh v ≡ top))

-- v has what stood there, or c, and then it is on the circle
abbrev pub Fresh : Shape → List ℕ → ℕ → ℕ → ℕ → List ℕ → ℕ → Type 0
Fresh t old c p q rep v = (get_or rep v 0 ≡ get_or old v 0) ⊎ ((get_or rep v 0 ≡ c) × Splits t v p q)

-- v was passed: the largest weight is no smaller than its own, and it knows of c
abbrev pub Passed : (ℕ → ℕ) → ℕ → ℕ → List ℕ → ℕ → Type 0
Passed weigh c top rep v = (weigh v ≤ top) × (get_or rep v 0 ≤ c)

-- the climb from p and q has come to x and y
pub record Climbing (t : Shape) (weigh : ℕ → ℕ) (old : List ℕ) (c p q x y top : ℕ) (rep : List ℕ) : Type 0 where
  pub one : Vertex t x
  pub two : Vertex t y
  pub left : (v : ℕ) → Splits t v p q → Splits t v x y ⊎ Passed weigh c top rep v
  pub only : (v : ℕ) → Splits t v x y → Splits t v p q
  pub best : Reached t weigh p q top
  pub fresh : (v : ℕ) → Fresh t old c p q rep v
  pub lower : (v : ℕ) → get_or rep v 0 ≤ get_or old v 0
  pub long : length rep ≡ 21

-- and it is over
pub record Climbed (t : Shape) (weigh : ℕ → ℕ) (old : List ℕ) (c p q top : ℕ) (rep : List ℕ) : Type 0 where
  pub passed : (v : ℕ) → Splits t v p q → Passed weigh c top rep v
  pub best : Reached t weigh p q top
  pub fresh : (v : ℕ) → Fresh t old c p q rep v
  pub lower : (v : ℕ) → get_or rep v 0 ≤ get_or old v 0
  pub long : length rep ≡ 21

module _ (t : Shape) (h : Hangs t) (weigh : ℕ → ℕ) (old : List ℕ) (c p q : ℕ) where
  pub climb_start : Vertex t p → Vertex t q → length old ≡ 21 → Climbing t weigh old c p q p q 0 old
  climb_start hp hq l = record {
    one = hp;
    two = hq;
    left = λ v s. inl s;
    only = λ v s. s;
    best = inl refl;
    fresh = λ v. inl refl;
    lower = λ v. omega arith;
    long = l;
  }

  module _ (x y top : ℕ) (rep : List ℕ) (k : Climbing t weigh old c p q x y top rep) where
    pub climb_swap : Climbing t weigh old c p q y x top rep
    climb_swap = record {
      one = k.two;
      two = k.one;
      left = λ v s. turn v (k.left v s);
      only = λ v s. k.only v (splits_sym t v y x s);
      best = k.best;
      fresh = k.fresh;
      lower = k.lower;
      long = k.long;
    }
      where
        turn : (v : ℕ) → Splits t v x y ⊎ Passed weigh c top rep v → Splits t v y x ⊎ Passed weigh c top rep v
        turn v (inl s) = inl (splits_sym t v x y s)
        turn v (inr s) = inr s

    pub climb_met : x ≡ y → Climbed t weigh old c p q top rep
    climb_met e = record { passed = λ v s. all v (k.left v s); best = k.best; fresh = k.fresh; lower = k.lower; long = k.long }
      where
        all : (v : ℕ) → Splits t v x y ⊎ Passed weigh c top rep v → Passed weigh c top rep v
        all v (inl s) = absurd (s (ap (above t v) e))
        all v (inr s) = s

    module _ (ne : x ≢ y) (deeper : t.depth y ≤ t.depth x) where
      -- the deeper of two is not the root
      pub climb_child : Child t x
      climb_child = (go (ℕ_discrete x 2) (ℕ_discrete y 2), k.one.1)
        where
          go : Dec (x ≡ 2) → Dec (y ≡ 2) → 3 ≤ x
          go (no f) g = omega (arith, k.one.0)
          go (yes f) (yes g) = absurd (ne (f ∙ sym g))
          go (yes f) (no g) = absurd (omega (arith, ap t.depth f, h.root, h.deep y j, (h.inside y j).1))
            where
              j : Child t y
              j = (omega (arith, k.two.0), k.two.1)

      here : Splits t x x y
      here e = true≢false (sym (above_self t h x k.one) ∙ e ∙ not-above t h x y k.two ne deeper)

      gone : (v : ℕ) → Splits t v (t.parent x) y → v ≢ x
      gone v s f = s (rw f (not_parent t h x climb_child ∙ sym (not-above t h x y k.two ne deeper)))

      pub climb_step : (top' : ℕ) (rep' : List ℕ) → top ≤ top' → weigh x ≤ top' → (top' ≡ top) ⊎ (top' ≡ weigh x) → Offered rep c x rep'
          → Climbing t weigh old c p q (t.parent x) y top' rep'
      climb_step top' rep' more enough which o = record {
        one = h.inside x climb_child;
        two = k.two;
        left = λ v s. left_at v (ℕ_discrete v x) (k.left v s);
        only = λ v s. k.only v (λ e. s (sym (above_parent t h v x climb_child (gone v s)) ∙ e));
        best = best_at which k.best;
        fresh = λ v. fresh_at v (ℕ_discrete v x) (k.fresh v);
        lower = λ v. omega (arith, less v (ℕ_discrete v x), k.lower v);
        long = o.long ∙ k.long;
      }
        where
          less : (v : ℕ) → Dec (v ≡ x) → get_or rep' v 0 ≤ get_or rep v 0
          less v (yes e) = rw e o.less
          less v (no e) = omega (arith, o.same v e)

          left_at : (v : ℕ) → Dec (v ≡ x) → Splits t v x y ⊎ Passed weigh c top rep v
              → Splits t v (t.parent x) y ⊎ Passed weigh c top' rep' v
          left_at v (yes e) s = inr (rw e (enough, o.here))
          left_at v (no e) (inl s) = inl (λ f. s (above_parent t h v x climb_child e ∙ f))
          left_at v (no e) (inr s) = inr (omega (arith, s.0), omega (arith, s.1, less v (no e)))

          best_at : (top' ≡ top) ⊎ (top' ≡ weigh x) → Reached t weigh p q top → Reached t weigh p q top'
          best_at (inl e) b = rw e b
          best_at (inr e) b = inr (x, climb_child, k.only x here, sym e)

          fresh_at : (v : ℕ) → Dec (v ≡ x) → Fresh t old c p q rep v → Fresh t old c p q rep' v
          fresh_at v (no f) b = rw (o.same v f) b
          fresh_at v (yes f) b = rw f (what o.what (rw f at b))
            where
              what : (get_or rep' x 0 ≡ get_or rep x 0) ⊎ (get_or rep' x 0 ≡ c) → Fresh t old c p q rep x → Fresh t old c p q rep' x
              what (inl e) g = rw e g
              what (inr e) g = inr (e, k.only x here)
