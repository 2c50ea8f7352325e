-- Laws that no proof cites today: a list in which every number is at most a limit, by its members; the answer and the report, by any fault. Assumes
-- nothing.
use Rattle.std.specs.Prelude.{◌≡◌, refl, true, false, List, ℕ, zero, suc, ◌≤◌, ◌<◌, leb, length, get_or, ℤ}
use Rattle.std.proofs.Common.{sym, ◌∙◌, arith, leb-true, le-leb}
use Rattle.lists.specs.Bools.{by_cases}
use Rattle.lists.specs.All.{every_of, every_is, each-passes}
use Rattle.graph.specs.declared.Graph.{Graph}
use Rattle.machine.specs.Calls.{refused}
use Rattle.compare.specs.AtMost as at_most
use Rattle.compare.specs.declared.Terms.{Terms}
use Rattle.compare.specs.Comparison.{counts, compare_fault, answer_by, compare_reply, left_by, compare_leaves}

module _ (limit : ℕ) where
  pub every_at : (xs : List ℕ) → every_of (λ x. leb x limit) xs ≡ true → (i : ℕ) → leb (get_or xs i 0) limit ≡ true
  every_at xs h i = at_most.every_at limit xs (sym (every_is (λ x. leb x limit) xs) ∙ h) i

  pub at_every : (xs : List ℕ) → ((i : ℕ) → i < length xs → get_or xs i 0 ≤ limit) → every_of (λ x. leb x limit) xs ≡ true
  at_every xs h = each-passes (λ x. leb x limit) 0 xs (λ i l. le-leb (get_or xs i 0) limit (h i l))

  pub above-one : (xs : List ℕ) (i : ℕ) → limit < get_or xs i 0 → every_of (λ x. leb x limit) xs ≡ false
  above-one xs i h =
      by_cases (every_of (λ x. leb x limit) xs)
      (λ t. absurd (omega (arith, leb-true (get_or xs i 0) limit (every_at xs t i))))
      (λ t. t)

-- ---- the answer and the report, by the fault

module _ (g : Graph) (d : List ℤ) (l : List ℕ) (terms : Terms) (sweeps steps : List ℕ) where
  pub reply-refused : (report f : ℕ) → compare_fault g d l terms sweeps steps report ≡ f → ¬ (f ≡ 0)
      → compare_reply g d l terms sweeps steps report ≡ refused f 0
  unfolding compare_reply
  reply-refused report f is h = rw is (go f h)
    where
      go : (f : ℕ) → ¬ (f ≡ 0) → answer_by f ≡ refused f 0
      go zero h = absurd (h refl)
      go (suc f) h = refl

  pub refused-leaves : (report : List ℕ) (f : ℕ) → compare_fault g d l terms sweeps steps (length report) ≡ f → ¬ (f ≡ 0)
      → compare_leaves g d l terms sweeps steps report ≡ report
  unfolding compare_leaves
  refused-leaves report f is h = rw is (go f h)
    where
      go : (f : ℕ) → ¬ (f ≡ 0) → left_by f (counts g d l terms sweeps steps) report ≡ report
      go zero h = absurd (h refl)
      go (suc f) h = refl
