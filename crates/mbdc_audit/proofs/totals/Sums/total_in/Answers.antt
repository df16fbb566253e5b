use Rattle.std.proofs.Common.{◌≡◌, ℕ, List, ap, ◌∙◌}
use Rattle.mbdc_audit.specs.Index.{at, flat_key}
use Rattle.mbdc_audit.specs.Totals.{no_total, place_sum}
use Rattle.mbdc_audit.specs.Walk.{holder_of}
use Rattle.mbdc_audit.proofs.IndexPlaces.{last_one, next_none, next_some, none_added}
use Rattle.mbdc_audit.proofs.totals.Sums.total_in.Goals as goal
use Rattle.mbdc_audit.proofs.totals.Sums.total_in.Goals.{in-Some+in_ok-total, in_default}

pub numbers-preserved : goal.numbers-preserved
numbers-preserved g c =
    let f = place_sum (holder_of c.args.holder) c.args.span c.args.used in
    let ns : List ℕ = at c.args.self.now.flats (flat_key c.args.flat.now) in
    let of : c.at-number-items.result.now ≡ ns = c.at-number-items.ensures ∙ ap (λ (k : ℕ). at c.args.self.now.flats k) c.flat_key.ensures in
    elim c.match-get.branch [
      | in-Some+in_ok-total w ↦ w.total-is ∙ (w.in_ok-total.ensures
          ∙ next_some f no_total c.numbers.total c.args.self.now.house.now.places.items c.deref.result.now ns c.at-number-items.result.now
          c.numbers.number-index _ w.in-Some.place.now c.deref.ensures.value of c.numbers-test.true w.in-Some.ensures.lookup.3.0 w.in-Some.ensures.lookup.1
          c.numbers.invariant)
      | in_default w ↦ w.total-is
          ∙ next_none f no_total c.numbers.total c.args.self.now.house.now.places.items c.deref.result.now ns c.at-number-items.result.now
          c.numbers.number-index _ c.deref.ensures.value of c.numbers-test.true w.in_default.ensures.lookup.3 c.numbers.invariant
    ]

pub returns : goal.returns
returns g c = λ none.
    let f = place_sum (holder_of c.args.holder) c.args.span c.args.used in
    let key : ℕ = flat_key c.args.flat.now in
    let ns : List ℕ = at c.args.self.now.flats key in
    let of : c.at-number-items.result.now ≡ ns = c.at-number-items.ensures ∙ ap (λ (k : ℕ). at c.args.self.now.flats k) c.flat_key.ensures in
    last_one f no_total c.numbers.total key c.numbers.number-index c.args.self.now.house.now.places.items ns c.at-number-items.result.now of
    c.numbers-test.false (c.args.self.now.indexed key)
    (none_added (holder_of c.args.holder) c.args.span c.args.used key c.args.self.now.house.now.places.items none) c.numbers.invariant
