-- What the choice comes to (found, missing), and the bound that its charges stand for (bound_is).
use Rattle.std.proofs.Common.{◌≡◌, ◌∙◌, sym, ap, subst, List, ℕ, ◌*◌, ◌<◌, ◌≤◌, length, ℤ, None, Some, arith}
use Rattle.std.specs.Int.Signed.{mag}
use Rattle.lists.specs.Fill.{replicate-at}
use Rattle.integers.specs.Differences.{diff_range}
use Rattle.integers.specs.Words.{back64}
use Rattle.graph.specs.declared.Graph.{Graph}
use Rattle.graph.specs.Limits.{max_edges}
use Rattle.graph.specs.Network.{Network, network}
use Rattle.graph.specs.Valid.{Valid}
use Rattle.tree_theory.specs.OneTree.{Least, bound}
use Rattle.tree_theory.specs.Inputs.{multiplier}
use Rattle.tree_theory.specs.Scaled.{scaled_by}
use Rattle.tree_theory.specs.Arrays.{bytes}
use Rattle.tree_theory.specs.Merges.{Merges}
use Rattle.greedy.specs.declared.Lists.{Lists}
use Rattle.greedy.specs.declared.Found.{Found}
use Rattle.greedy.specs.declared.kruskal.Chosen.{Chosen}
use Rattle.greedy.specs.Charged.{max_charge, Charged}
use Rattle.greedy.specs.Charging.{BoundOf, AllCharged, charged_of, bound_is}
use Rattle.greedy.specs.Hint.{Hinted}
use Rattle.greedy.specs.Hinting.{keyed_hinted}
use Rattle.greedy.specs.Kruskal.{Whole, found, missing, weighs, bit_at, past_none}
use Rattle.greedy.specs.Chosen.{ChosenIs, SumOf}
use Rattle.greedy.specs.Least.{blank_lists, Weighed, TreeFound}
use Rattle.greedy.proofs.Sorted.{refilled}
use Rattle.greedy.proofs.checked.Checked.find.Goals as goal

module _ (q : ℕ) (g : Graph) (d : List ℤ) (after : Lists) (r : Chosen) (k : ChosenIs g after.charges after.tree after.labels r)
    (v : Valid g) (weighed : Weighed q g d after) (live : ℕ) (hinted : Hinted g.mark g.m after.order live) where
  abbrev H : Network
  H = scaled_by q (network g)

  charged : Charged q g d k.made.charges
  charged = subst (λ (c : List ℕ). Charged q g d c) (sym k.charges_are) weighed.charged

  tree_found : (f : Found) → f.live ≡ live → (sum : ℕ) → Whole g k.made × (k.made.sum ≡ sum) × (sum ≤ max_charge * max_edges) → BoundOf g.n d sum f.bound
      → mag f.bound < 9223372036854775808 → TreeFound q g d f after
  tree_found f live_is sum s low fits =
      let l = found g k.made q d charged s.0 in
      let b = bound_is q g v d k.made.charges k.made.tree f.bound k.made.sum low.0 charged l.tree (weighs g k.made) low.1 (rw s.1 low.2) in
      let range = diff_range f.bound _ _ low.2 in
      record {
        weighed = weighed;
        least = subst (λ (w : List ℕ). Least H (multiplier d) (bytes w)) k.tree_is l;
        bound_is = subst (λ (w : List ℕ). f.bound ≡ bound H (multiplier d) (bytes w)) k.tree_is b;
        fits = fits;
        high = omega (arith, range.0, s.2);
        low = omega (arith, range.1, low.1.1, v.high);
        bits = λ i. rw k.tree_is at (bit_at g k.made i);
        past = λ i h. rw k.tree_is at (past_none g k.made i h);
        long = k.long;
        hinted = rw live_is hinted;
      }

-- past the edges stand the zeros that stood there
weighed_of : (q : ℕ) (g : Graph) (d : List ℤ) (before after : Lists) → before ≡ blank_lists → AllCharged q g d before.charges after.charges
    → Merges g after.labels → Weighed q g d after
weighed_of q g d before after is made merges = record {
  charged = charged_of q g d after.charges made.0;
  rest = λ k h. made.2 k h ∙ rw is (replicate-at 190 0 k);
  long = made.1;
  merges = merges;
}

pub returns-in_default : goal.returns-in_default
returns-in_default c =
    let q = c.args.q.q in
    let g = c.args.self.now.graph.now in
    let chosen = c.choose-chosen in
    let is = chosen.ensures.0 in
    let weighed = weighed_of q g c.args.self.now.multipliers.now c.args.lists.now _ c.requires c.charge.ensures is.merges in
    let none : SumOf g is.made None = rw c.in_default.is at is.sum in
    ((weighed, missing g is.made q none), is.looked q _ weighed.charged)

pub returns : goal.returns
returns c =
    let q = c.args.q.q in
    let me = c.args.self.now in
    let g = me.graph.now in
    let d = me.multipliers.now in
    let chosen = c.choose-chosen in
    let is = chosen.ensures.0 in
    let olds : List ℕ = c.order-front.new.meeting.keys.items in
    let keys : List ℕ = chosen.new.keys in
    let size : length keys ≡ length olds = chosen.auto.keys ∙ ap length c.as_mut_slice.ensures.value in
    let slice : List ℕ = c.as_slice-keys.result.now in
    let same : slice ≡ keys = c.as_slice-keys.ensures.value ∙ refilled olds keys size in
    let low = c.bound in
    let after : Lists = record { tree = chosen.new.tree; charges = c.charge.new.charges; order = c.places.new.order; labels = chosen.new.labels } in
    let weighed : Weighed q g d after = weighed_of q g d c.args.lists.now after c.requires c.charge.ensures is.merges in
    let hinted : Hinted g.mark g.m after.order (length keys) =
    keyed_hinted g after.charges keys (length keys) after.order me.valid.few chosen.ensures.1 (rw same at c.places.ensures.0) c.places.ensures.1 in
    let whole : SumOf g is.made (Some c.in-Some.sum) = rw c.in-Some.is at is.sum in
    rw (back64 low.result low.type_inv) (
      tree_found q g d after chosen.result is me.valid weighed (length keys) hinted (record { bound = low.result; live = length slice }) (ap length same)
          c.in-Some.sum whole low.ensures low.type_inv,
      is.looked q d weighed.charged,
    )
