-- All are; or of the record's list the first n bytes count.
use Rattle.std.proofs.Common.{◌≡◌, length, ap, ◌∙◌, rules}
use Rattle.lists.specs.Bools.{says_yes}
use Rattle.afloat.specs.Over.{ashore, active_count}
use Rattle.search.specs.Vertices.{zeros_none, active_all, active_first}
use Rattle.search.specs.declared.Search.{Search}
use Rattle.search.proofs.Search.active.Goals as goal

pub returns-then-none : goal.returns-then-none
returns-then-none c =
    let s : Search = c.args.self.now in
    let long : length s.ashore ≡ 20 = search (rules, c.well_formed) in
    c.from-n.ensures
    ∙ active_all s.ashore s.graph.n (zeros_none s.ashore long (says_yes c.args.none c.requires c.if-none.true))

pub returns : goal.returns
returns c =
    let s : Search = c.args.self.now in
    c.active.ensures ∙ ap (active_count (ashore s.ashore)) c.from-n.ensures ∙ active_first s.ashore s.graph.n
