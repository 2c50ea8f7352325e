-- Each place is seen as it is.
use denote.Ref.{Bor}
use Rattle.std.proofs.Common.{◌≡◌, ◌<◌, ◌∙◌, ℕ, sym, ap, subst, length, get_or, map, ext_get_or, arith, rules}
use Rattle.std.proofs.lemmas.List.{length-map, get_or_default}
use Rattle.std.proofs.Math.ListN.{get_or-map}
use Rattle.lists.specs.Rows.{long_of}
use Rattle.search.specs.Record.{fresh}
use Rattle.search.specs.Seen.{state_in, Again}
use Rattle.search.specs.declared.Search.{Search}
use Rattle.search.specs.declared.State.TheVariants.{Broken}
use Rattle.dispatcher.proofs.Dispatcher.states.Goals as goal

pub returns : goal.returns
returns c =
    let l = c.args.self.now.places in
    let refs = c.each_ref.result in
    let eight : length l ≡ 8 = search (rules, long_of) in
    let items = c.map.ensures.items in
    let lent : Bor Search = record { ref_ptr = c.args.self.ref_ptr; now = fresh } in
    let each : (i : ℕ) → i < 8 → (get_or c.map.result i Broken ≡ state_in (get_or refs i lent).now) × Again (get_or refs i lent).now =
    λ i h. let called = (items.at i lent Broken h).2 in search rules in
    let same : (i : ℕ) → (get_or refs i lent).now ≡ get_or l i fresh =
    λ i. sym (get_or-map (λ r. r.now) refs i lent) ∙ ap (λ x. get_or x i fresh) c.each_ref.ensures.items in
    record {
      laid = record { eight = eight; again = λ i z b. let h : i < 8 = omega (arith, eight) in subst Again (same i ∙ get_or_default l i fresh z b) (each i h).1 };
      seen = ext_get_or Broken c.map.result (map state_in l) (items.long ∙ sym (length-map l state_in ∙ eight))
          (λ j b. let h : j < 8 = omega (arith, items.long) in
          (each j h).0 ∙ ap state_in (same j) ∙ sym (get_or-map state_in l j fresh)
          ∙ get_or_default (map state_in l) j (state_in fresh) Broken (omega (arith, length-map l state_in, eight)));
    }
