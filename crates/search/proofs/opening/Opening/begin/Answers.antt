-- The trimmed graph, the padded lists and the one node are those of the record of `begin`.
use Rattle.std.proofs.Common.{◌≡◌, true, false, ℕ, List, ℤ, pos, length, sym, ap, subst, ◌∙◌, eqb, rules}
use Rattle.std.specs.List.{list_any}
use Rattle.lists.specs.Bools.{says_yes}
use Rattle.lists.specs.Fill.{fit}
use Rattle.graph.specs.declared.Graph.{Graph}
use Rattle.graph.specs.Limits.{max_vertices}
use Rattle.graph.specs.Network.{network}
use Rattle.integers.specs.Words.{back64}
use Rattle.graph.specs.Valid.{Valid}
use Rattle.afloat.specs.Lists.{reduced_list}
use Rattle.afloat.specs.Over.{ashore, ashore_fits, marks_over}
use Rattle.machine.specs.Machine.{Opening, trimmed}
use Rattle.machine.specs.Calls.{fault}
use Rattle.mark_rows.specs.MarkRows.{rows_of}
use Rattle.search.specs.Canonical.{Zeros}
use Rattle.search.specs.Vertices.{listed_none, marks_none, multipliers_none}
use Rattle.search.specs.Begun.{asked, begun_valid, begun_trimmed, begun_list, begun_fits, begun_long, begun_few, settings_stored, begun}
use Rattle.search.proofs.opening.Opening.begin.Goals as goal
use Rattle.search.proofs.opening.Opening.begin.Goals.{then-none_ashore, else-none_ashore}

-- the graph is the trimmed one
module _ (a : Opening) (h : fault a ≡ 0) (g : Graph) (e : g ≡ trimmed a.graph) where
  valid : Valid g
  valid = subst Valid (sym e) (begun_trimmed a h)

  fits : ashore_fits a.ashore g.n ≡ true
  fits = subst (λ (q : Graph). ashore_fits a.ashore q.n ≡ true) (sym e) (begun_fits a h)

  long : length a.ashore ≡ g.n
  long = subst (λ (q : Graph). length a.ashore ≡ q.n) (sym e) (begun_list a h)

  size : length a.multipliers ≡ g.n
  size = subst (λ (q : Graph). length a.multipliers ≡ q.n) (sym e) (begun_long a h)

  -- of a list that the record has in its places
  none : (l : List ℕ) → l ≡ fit max_vertices 0 a.ashore → Zeros 0 max_vertices 0 l → list_any (λ (b : ℕ). eqb b 1) a.ashore ≡ false
  none l q z = listed_none a.ashore (begun_few a h) (subst (λ (r : List ℕ). Zeros 0 max_vertices 0 r) q z)

pub listed-requires : goal.listed-requires
listed-requires c = begun_few (asked c.args.self.now) c.requires

pub trim-requires : goal.trim-requires
trim-requires c = let a : Opening = asked c.args.self.now in (begun_valid a c.requires).few

pub invariant_of-rows_of : goal.invariant_of-rows_of
invariant_of-rows_of c = record { valid = valid (asked c.args.self.now) c.requires _ c.trim.ensures }

pub struck_node-first-requires : goal.struck_node-first-requires
struck_node-first-requires c =
    let a : Opening = asked c.args.self.now in
    record {
      valid = valid a c.requires _ c.trim.ensures;
      fits = fits a c.requires _ c.trim.ensures;
      long = long a c.requires _ c.trim.ensures;
    }

pub returns : goal.returns
returns c =
    let a : Opening = asked c.args.self.now in
    let g : Graph = c.trim.new.g in
    let ceiling = back64 c.args.self.now.settings.ceiling (search (rules, c.well_formed)) in
    let first : record {
      rows : c.if-none_ashore.first.0 ≡ rows_of (marks_over (ashore a.ashore) (network g));
      multipliers : c.if-none_ashore.first.1 ≡ fit max_vertices (pos 0) (reduced_list (ashore a.ashore) g.n a.multipliers);
    } = elim c.if-none_ashore.branch [
      | then-none_ashore w ↦
          let h = says_yes c.none_ashore.result c.none_ashore.ensures w.if-none_ashore.true in
          let z = none a c.requires g c.trim.ensures c.listed.result c.listed.ensures h in
          record {
            rows = ap (λ (p : List ℕ × List ℤ). p.0) w.first-is ∙ w.rows_of.ensures ∙ ap rows_of (marks_none a.ashore z g);
            multipliers =
                ap (λ (p : List ℕ × List ℤ). p.1) w.first-is ∙ c.padded.ensures
                ∙ multipliers_none a.ashore z g.n a.multipliers (size a c.requires g c.trim.ensures);
          }
      | else-none_ashore w ↦ record {
        rows = ap (λ (p : List ℕ × List ℤ). p.0) w.first-is ∙ w.struck_node-first.ensures.rows;
        multipliers = ap (λ (p : List ℕ × List ℤ). p.1) w.first-is ∙ w.struck_node-first.ensures.multipliers;
      }
    ] in
    begun a c.requires _ c.trim.ensures _ c.padded.ensures _ (settings_stored c.args.self.now.settings _ _ ceiling c.from.ensures) _ ceiling _ _
    first.rows (c.put.ensures 0) _ _ first.multipliers (c.put-2.ensures (pos 0)) _ c.listed.ensures
