-- The chain is the cyclic order (dispatch_theory's `first_around`).
use Rattle.std.proofs.Common.{◌≡◌, ◌∙◌, ap, length, take, drop, ◌%◌, ◌+◌, eqb, rules, tests}
use Rattle.std.specs.Option.{option_map}
use Rattle.std.proofs.lemmas.Iterator.{YieldsList-from_slice}
use Rattle.std.proofs.lemmas.Iterator.Consumers.{YieldsList-from_chain}
use Rattle.std.proofs.lemmas.Iterator.Search.{position_from_yields_List}
use Rattle.search.specs.declared.State.TheVariants.{Broken}
use Rattle.search_records.specs.Seen.{kind}
use Rattle.dispatch_theory.specs.Cyclic.{first_around}
use Rattle.dispatcher.proofs.survey.first_after.Goals as goal

pub returns-clause-found : goal.returns-clause-found
returns-clause-found c =
    let seen = c.args.seen.now in
    let last = c.args.last in
    let long : length seen ≡ 8 = search rules in
    let found = position_from_yields_List (λ x. eqb (kind x) (kind c.args.wanted)) _ _ c.position.result c.position.ensures.ran
    (YieldsList-from_chain {xs = drop last seen} {ys = take last seen} (YieldsList-from_slice _ (cc)) (YieldsList-from_slice _ (cc)) (cc) (cc))
    (λ x b q k. search (rules, tests)) in
    let placed : c.map.result ≡ option_map (λ p. (last + p) % 8) c.position.result = search rules in
    placed ∙ ap (option_map (λ p. (last + p) % 8)) found ∙ first_around (λ x. eqb (kind x) (kind c.args.wanted)) Broken last seen long c.requires
