-- The words of each node have every bit of those that exclude just what touches a vertex ashore.
use Rattle.std.proofs.Common.{◌≡◌, true, ℕ, List, length, replicate, sym, ap, subst, ◌∙◌, rules, arith}
use Rattle.lists.specs.Fill.{fit, fit-size, replicate-at}
use Rattle.graph.specs.Network.{network}
use Rattle.afloat.specs.Over.{ashore, ashore_fits, marks_over}
use Rattle.mark_rows.specs.MarkRows.{rows_of}
use Rattle.node.specs.Marks.{with_bytes}
use Rattle.search.specs.Canonical.{touching_in}
use Rattle.search.specs.Checks.Struck.{says_struck}
use Rattle.search.specs.Vertices.{unmarked-valid, unmarked-size, unmarked_is}
use Rattle.search.specs.declared.Search.{Search}
use Rattle.search.proofs.Listed.{valid, fits, first}
use Rattle.search.proofs.Search.is_struck.Goals as goal

pub shared_ref_as_front-afloat : goal.shared_ref_as_front-afloat
shared_ref_as_front-afloat c = omega (arith, c.from-n.ensures, (valid c.args.self.now c.requires.0).high)

pub invariant_of-afloat : goal.invariant_of-afloat
invariant_of-afloat c =
    let s : Search = c.args.self.now in
    let long : length s.ashore ≡ 20 = search (rules, c.well_formed) in
    let e = first s _ c.requires.0 long c.from-n.ensures in
    record {
      valid = unmarked-valid (ashore s.ashore) s.graph (replicate 190 0) (λ k. replicate-at {A = ℕ} 190 0 k) (valid s c.requires.0);
      fits = subst (λ (l : List ℕ). ashore_fits l s.graph.n ≡ true) (sym e) (fits s c.requires.0);
      long = ap length e ∙ fit-size s.graph.n 0 s.ashore;
    }

pub returns : goal.returns
returns c =
    let s : Search = c.args.self.now in
    let long : length s.ashore ≡ 20 = search (rules, c.well_formed) in
    let e = first s _ c.requires.0 long c.from-n.ensures in
    let afloat = ashore (fit s.graph.n 0 s.ashore) in
    says_struck s.graph.m (valid s c.requires.0).few _ (unmarked-size afloat s.graph (replicate 190 0) (λ k. replicate-at {A = ℕ} 190 0 k)) (touching_in s)
    (unmarked_is afloat s.graph (replicate 190 0) (λ k. replicate-at {A = ℕ} 190 0 k)) s.depth s.stack _ c.nodes_exclude.ensures.words
    (c.struck_rows.ensures ∙ ap (λ (l : List ℕ). rows_of (marks_over (ashore l) (network (with_bytes s.graph (replicate 190 0))))) e) _
    c.nodes_exclude.ensures.covers
