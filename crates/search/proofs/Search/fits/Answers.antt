-- A graph that is valid has few vertices and few edges, so the nodes are few.
use Rattle.std.proofs.Common.{◌≡◌, ◌≤◌, ◌<◌, ℕ, ◌+◌, length, true, true≢false, sym, ◌∙◌, subst, rules, arith}
use Rattle.lists.specs.Bools.{Says, says_yes, says_no, says_both}
use Rattle.machine.specs.Calls.{fault}
use Rattle.thinning.specs.Ranks.{rank_most}
use Rattle.afloat.specs.Over.{active, ashore}
use Rattle.machine.specs.Active.{active_most}
use Rattle.search.specs.Record.{ashore_in, opening_in, active_in}
use Rattle.search.specs.Begun.{begun_valid}
use Rattle.integers.specs.Words.{back64}
use Rattle.tree_theory.specs.Inputs.{ceiling_fits}
use Rattle.search.specs.Canonical.{StackFits, StackStruck, touching_in, CarriedFits, Bits, Fits}
use Rattle.search.specs.Checks.Loops.{says_holds}
use Rattle.search.specs.Vertices.{zeros_none, none_touching}
use Rattle.graph.specs.Limits.{max_count}
use Rattle.graph.specs.Network.{network}
use Rattle.search.specs.declared.Search.{Search}
use Rattle.search.proofs.Search.fits.Goals as goal
use Rattle.search.proofs.Search.fits.Goals.{then-not-carried_fits-via-then-not-carried_fits, then-not-carried_fits-via-else-not-carried_fits+then-not-stack_fits}

few : (s : Search) → fault (opening_in s) ≡ 0 → (active_in s ≤ 20) × (s.graph.m ≤ 190)
unfolding opening_in
few s e = let v = begun_valid (opening_in s) e in (omega (arith, v.high, active_most (opening_in s)), v.few)

pub carried_fits-requires : goal.carried_fits-requires
carried_fits-requires c =
    let e = few c.args.self.now (says_yes c.opening_fits.result c.opening_fits.ensures c.if-not-opening_fits.false) in
    (omega (arith, e.0, c.requires.active), omega (arith, e.0, c.requires.active, c.if-depth-active.false))

pub stack_fits-requires : goal.stack_fits-requires
stack_fits-requires c =
    let e = few c.args.self.now (says_yes c.opening_fits.result c.opening_fits.ensures c.if-not-opening_fits.false) in
    (omega (arith, e.1, c.from-m.ensures), omega (arith, e.0, c.requires.active, c.if-depth-active.false))

pub is_struck-requires : goal.is_struck-requires
is_struck-requires c =
    let fine = says_yes c.opening_fits.result c.opening_fits.ensures c.if-not-opening_fits.false in
    let e = few c.args.self.now fine in
    (fine, omega (arith, e.0, c.requires.active, c.if-depth-active.false))

-- the number of vertices fits a byte
pub overflow_add-active : goal.overflow_add-active
overflow_add-active c =
    let s : Search = c.args.self.now in
    let byte : s.graph.n < 256 = search (rules, c.well_formed) in
    record { fits = omega (arith, c.requires.active, rank_most (active (ashore (ashore_in s))) s.graph.n, byte) }

-- the record fits, if the nodes exclude what touches a vertex ashore
fitting : (s : Search) → StackStruck s.graph.m (touching_in s) s.depth s.stack → fault (opening_in s) ≡ 0 → s.settings.lifting ≤ 1
    → ceiling_fits s.upper ≡ true → s.depth ≤ active_in s + 2 → StackFits s.graph.m s.depth s.stack → CarriedFits (active_in s) s.depth s.carried
    → Bits s.best → s.count ≤ max_count → Fits s
fitting s l o f u d n k b c = record { opening = o; lifting = f; upper = u; depth = d; stack = n; struck = l; carried = k; best = b; count = c }

pub returns-then-none-clause-fits : goal.returns-then-none-clause-fits
returns-then-none-clause-fits c =
    let s : Search = c.args.self.now in
    let long : length s.ashore ≡ 20 = search (rules, c.well_formed) in
    let bounded : c.ceiling_fits.result ≡ ceiling_fits s.upper = rw (back64 s.upper (search rules)) at c.ceiling_fits.ensures in
    let nodes = subst (λ (k : ℕ). Says c.stack_fits.result (StackFits k s.depth s.stack)) c.from-m.ensures c.stack_fits.ensures.fits in
    let carried = subst (λ (k : ℕ). Says c.carried_fits.result (CarriedFits k s.depth s.carried)) c.requires.active c.carried_fits.ensures in
    says_holds c.args.none c.if-none.true (fitting s
    (λ p d k b e.
    absurd (true≢false (sym e
    ∙ none_touching s.ashore (zeros_none s.ashore long (says_yes c.args.none c.requires.none c.if-none.true)) s.graph.n (network s.graph) _)))
    (says_yes c.opening_fits.result c.opening_fits.ensures c.if-not-opening_fits.false) c.if-self-gt1.false (sym bounded ∙ c.if-not-ceiling_fits.false)
    (omega (arith, c.requires.active, c.if-depth-active.false)) (says_yes c.stack_fits.result nodes c.if-not-stack_fits.false)
    (says_yes c.carried_fits.result carried c.if-not-carried_fits.false) (says_yes c.bits.result c.bits.ensures c.if-not-bits.false)
    c.if-self-gt-MAX_COUNT.false)

pub returns-else-none-clause-fits : goal.returns-else-none-clause-fits
returns-else-none-clause-fits c =
    let s : Search = c.args.self.now in
    let bounded : c.ceiling_fits.result ≡ ceiling_fits s.upper = rw (back64 s.upper (search rules)) at c.ceiling_fits.ensures in
    let nodes = subst (λ (k : ℕ). Says c.stack_fits.result (StackFits k s.depth s.stack)) c.from-m.ensures c.stack_fits.ensures.fits in
    let carried = subst (λ (k : ℕ). Says c.carried_fits.result (CarriedFits k s.depth s.carried)) c.requires.active c.carried_fits.ensures in
    says_both c.is_struck.result {Q = Fits s} (λ l. fitting s l
    (says_yes c.opening_fits.result c.opening_fits.ensures c.if-not-opening_fits.false) c.if-self-gt1.false (sym bounded ∙ c.if-not-ceiling_fits.false)
    (omega (arith, c.requires.active, c.if-depth-active.false)) (says_yes c.stack_fits.result nodes c.if-not-stack_fits.false)
    (says_yes c.carried_fits.result carried c.if-not-carried_fits.false) (says_yes c.bits.result c.bits.ensures c.if-not-bits.false)
    c.if-self-gt-MAX_COUNT.false)
    (λ f. f.struck) c.is_struck.ensures

-- what the nodes carry, or their rows, do not fit
pub returns-then-not-carried_fits-clause-fits : goal.returns-then-not-carried_fits-clause-fits
returns-then-not-carried_fits-clause-fits c = λ f.
    let s : Search = c.args.self.now in
    elim c.then-not-carried_fits.branch [
      | then-not-carried_fits-via-then-not-carried_fits w ↦
          says_no c.carried_fits.result c.carried_fits.ensures w.if-not-carried_fits.true
          (subst (λ (k : ℕ). CarriedFits k s.depth s.carried) (sym c.requires.active) f.carried)
      | then-not-carried_fits-via-else-not-carried_fits+then-not-stack_fits w ↦
          says_no w.stack_fits.result w.stack_fits.ensures.fits w.if-not-stack_fits.true
          (subst (λ (k : ℕ). StackFits k s.depth s.stack) (sym c.from-m.ensures) f.stack)
    ]
