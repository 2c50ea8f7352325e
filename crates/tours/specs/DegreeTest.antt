-- A 1-tree is a tour exactly where every degree is 2: so code tests for one.
use Rattle.std.specs.Prelude.{◌≡◌, ◌≢◌, true, false, ℕ}
use Rattle.lists.specs.Bools.{by_cases}
use Rattle.lists.specs.Members.{◌∈◌}
use Rattle.lists.specs.Numbers.{up_to}
use Rattle.graph.specs.Network.{Network}
use Rattle.tree_theory.specs.OneTree.{Edges, OneTree}
use Rattle.tree_theory.specs.Valid.{Valid}
use Rattle.tours.specs.Tours.{degree, is_tour}
use Rattle.tours.specs.TourTest.{test_tour, tour_test}
use Rattle.tours.specs.Degrees.{tour_degree}
use Rattle.tours.specs.TwoEach.{degree_tour}

module _ (g : Network) (vg : Valid g) (t : Edges) where
  pub test_yes : OneTree g t → ((v : ℕ) → v ∈ up_to g.n → degree g t v ≡ 2) → is_tour g t ≡ true
  test_yes o deg = tour_test g t (degree_tour g t deg vg o)

  pub test_no : (v : ℕ) → v ∈ up_to g.n → degree g t v ≢ 2 → is_tour g t ≡ false
  test_no v m h = by_cases (is_tour g t) (λ e. absurd (h (tour_degree g vg t (test_tour g t e) v m))) (λ e. e)
