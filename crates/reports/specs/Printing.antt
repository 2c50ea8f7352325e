-- The three cases of what is printed of an input, as the code comes to them. Assumes nothing.
use Rattle.std.specs.Prelude.{ℕ, ◌<◌, ◌≤◌, ◌≡◌, List, ℤ, length}
use Rattle.std.proofs.Common.{lt-ltb, le-ltb}
use Rattle.graph.specs.declared.Graph.{Graph}
use Rattle.charts.specs.Answers.{accepted, refused}
use Rattle.charts.specs.Chart.{reading}
use Rattle.reports.specs.Text.{refused_line}
use Rattle.reports.specs.Input.{ceiling_size, ceiling_of, chart_of, printed}

module _ (text : ℤ → Graph → List ℕ) (input : List ℕ) where
  pub short_input : length input < ceiling_size → printed text input ≡ refused_line 1 0
  unfolding printed
  short_input h = rw (lt-ltb (length input) ceiling_size h)

  module _ (h : ceiling_size ≤ length input) where
    pub refused-chart : (number place : ℕ) → (reading (chart_of input)).outcome ≡ refused number place
        → printed text input ≡ refused_line number place
    unfolding printed
    refused-chart number place e = rw (le-ltb (length input) ceiling_size h, e)

    pub read_chart : (reading (chart_of input)).outcome ≡ accepted
        → printed text input ≡ text (ceiling_of input) (reading (chart_of input)).graph
    unfolding printed
    read_chart e = rw (le-ltb (length input) ceiling_size h, e)
