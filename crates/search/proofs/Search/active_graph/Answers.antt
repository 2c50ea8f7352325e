-- None is inactive; or the graph is made of the record's own, whose list is the first n of its bytes.
use Rattle.std.proofs.Common.{◌≡◌, true, ℕ, List, length, sym, ap, subst, ◌∙◌, rules, arith}
use Rattle.lists.specs.Bools.{says_yes}
use Rattle.lists.specs.Fill.{fit-size}
use Rattle.graph.specs.Network.{network}
use Rattle.afloat.specs.Over.{ashore, ashore_fits}
use Rattle.afloat.specs.Reduced.{reduced}
use Rattle.search.specs.Record.{opening_in}
use Rattle.search.specs.Vertices.{zeros_none, network_none}
use Rattle.search.specs.declared.Search.{Search}
use Rattle.search.proofs.Listed.{valid, fits, first}
use Rattle.search.proofs.Search.active_graph.Goals as goal

pub returns-then-none_ashore : goal.returns-then-none_ashore
unfolding opening_in
returns-then-none_ashore c =
    let s : Search = c.args.self.now in
    let long : length s.ashore ≡ 20 = search (rules, c.well_formed) in
    network_none s.ashore (zeros_none s.ashore long (says_yes c.none_ashore.result c.none_ashore.ensures c.if-none_ashore.true)) s.graph.n s.graph

pub shared_ref_as_front-afloat : goal.shared_ref_as_front-afloat
shared_ref_as_front-afloat c = omega (arith, c.from-n.ensures, (valid c.args.self.now c.requires).high)

pub invariant_of-afloat : goal.invariant_of-afloat
invariant_of-afloat c =
    let s : Search = c.args.self.now in
    let long : length s.ashore ≡ 20 = search (rules, c.well_formed) in
    let e = first s _ c.requires long c.from-n.ensures in
    record {
      valid = valid s c.requires;
      fits = subst (λ (l : List ℕ). ashore_fits l s.graph.n ≡ true) (sym e) (fits s c.requires);
      long = ap length e ∙ fit-size s.graph.n 0 s.ashore;
    }

pub returns : goal.returns
unfolding opening_in
returns c =
    let s : Search = c.args.self.now in
    let long : length s.ashore ≡ 20 = search (rules, c.well_formed) in
    c.reduced.ensures.network
    ∙ ap (λ (l : List ℕ). reduced (ashore l) (network s.graph)) (first s _ c.requires long c.from-n.ensures)
