use Rattle.std.proofs.Common.{◌≡◌, ◌&&◌, ◌||◌, ℕ, Bool, true, false, List, None, Some, length, refl, ap, sym, ◌∙◌}
use Rattle.std.proofs.lemmas.Option.{slice_get_past, slice_get_read}
use Rattle.std.specs.List.{list_all}
use Rattle.std.specs.Prelude.{◌==◌, find, slice_get}
use Rattle.mbdc_audit.specs.declared.house.Span.{Span}
use Rattle.mbdc_audit.specs.Index.{at, flat_key}
use Rattle.mbdc_audit.specs.Totals.{has_own, is_filled}
use Rattle.mbdc_audit.specs.View.{span_of}
use Rattle.mbdc_audit.proofs.IndexPlaces.{all_of, any_of, filled_are, next_none, next_some, own_is}
use Rattle.mbdc_audit.proofs.Whole.{no_span, no_user, whole_is}
use Rattle.mbdc_audit.proofs.totals.Sums.has_whole.Goals as goal
use Rattle.mbdc_audit.proofs.totals.Sums.has_whole.Goals.{in-Some-get-2+then-is_filled, then-is_own, else-is_own, in-Some-get-2+else-is_filled, in_default-get-2}

pub returns-in_default : goal.returns-in_default
returns-in_default g c =
    let e : find (λ u. u.number == c.args.number.now.user) c.args.self.now.house.now.users.items ≡ None = sym c.user.ensures ∙ c.in_default.is in
    sym (no_user c.args.self.now.house.now c.args.span c.args.number.now.user c.args.number.now.used e)

pub returns-in_default-get : goal.returns-in_default-get
returns-in_default-get g c =
    let e : slice_get c.args.self.now.house.now.spans.items c.args.span ≡ None =
    ap (λ (xs : List Span). slice_get xs c.args.span) (sym c.deref.ensures.value)
    ∙ slice_get_past c.deref.result.now c.args.span c.in_default-get.ensures.lookup.3 in
    sym (no_span c.args.self.now.house.now c.args.span c.args.number.now.user c.args.number.now.used e)

pub numbers-preserved : goal.numbers-preserved
numbers-preserved g c =
    let own = has_own c.in-Some.user.flat.now c.args.number.now.used c.args.span in
    let filled = is_filled c.args.number.now.user c.in-Some.user.flat.now c.args.number.now.used c.args.span (span_of c.in-Some-get.within.now) in
    let ns : List ℕ = at c.args.self.now.flats (flat_key c.in-Some.user.flat.now) in
    let of : c.at-i-items.result.now ≡ ns = c.at-i-items.ensures ∙ ap (λ (k : ℕ). at c.args.self.now.flats k) c.flat_key.ensures in
    let or = λ (o : Bool). o || c.numbers.has_own in
    let and = λ (o : Bool). o && c.numbers.are_filled in
    elim c.match-get-2.branch [
      | in-Some-get-2+then-is_filled w ↦
          let e : c.match-get-2.has_own ≡ (w.is_own.result || c.numbers.has_own) = elim w.if-is_own.branch [
            | then-is_own w' ↦ w.has_own-is ∙ (w'.has_own-is ∙ (w'.if-is_own.true ∙ ap or (sym w'.if-is_own.true)))
            | else-is_own w' ↦ w.has_own-is ∙ (w'.has_own-is ∙ ap or (sym w'.if-is_own.false))
          ] in (
            e ∙ (ap or w.is_own.ensures
                ∙ next_some (any_of own) false c.numbers.has_own c.args.self.now.house.now.places.items c.deref-in-numbers.result.now ns c.at-i-items.result.now
                c.numbers.i-index _ w.in-Some-get-2.place.now c.deref-in-numbers.ensures.value of c.numbers-test.true w.in-Some-get-2.ensures.lookup.3.0 w.in-Some-get-2.ensures.lookup.1
                c.numbers.invariant.0),
            w.are_filled-is ∙ (ap and (sym w.if-is_filled.true ∙ w.is_filled.ensures)
                ∙ next_some (all_of filled) true c.numbers.are_filled c.args.self.now.house.now.places.items c.deref-in-numbers.result.now ns c.at-i-items.result.now
                c.numbers.i-index _ w.in-Some-get-2.place.now c.deref-in-numbers.ensures.value of c.numbers-test.true w.in-Some-get-2.ensures.lookup.3.0 w.in-Some-get-2.ensures.lookup.1
                c.numbers.invariant.1),
          )
      | in-Some-get-2+else-is_filled w ↦
          let e : c.match-get-2.has_own ≡ (w.is_own.result || c.numbers.has_own) = elim w.if-is_own.branch [
            | then-is_own w' ↦ w.has_own-is ∙ (w'.has_own-is ∙ (w'.if-is_own.true ∙ ap or (sym w'.if-is_own.true)))
            | else-is_own w' ↦ w.has_own-is ∙ (w'.has_own-is ∙ ap or (sym w'.if-is_own.false))
          ] in (
            e ∙ (ap or w.is_own.ensures
                ∙ next_some (any_of own) false c.numbers.has_own c.args.self.now.house.now.places.items c.deref-in-numbers.result.now ns c.at-i-items.result.now
                c.numbers.i-index _ w.in-Some-get-2.place.now c.deref-in-numbers.ensures.value of c.numbers-test.true w.in-Some-get-2.ensures.lookup.3.0 w.in-Some-get-2.ensures.lookup.1
                c.numbers.invariant.0),
            w.are_filled-is ∙ (w.if-is_filled.false ∙ (ap and (sym w.if-is_filled.false ∙ w.is_filled.ensures)
                ∙ next_some (all_of filled) true c.numbers.are_filled c.args.self.now.house.now.places.items c.deref-in-numbers.result.now ns c.at-i-items.result.now
                c.numbers.i-index _ w.in-Some-get-2.place.now c.deref-in-numbers.ensures.value of c.numbers-test.true w.in-Some-get-2.ensures.lookup.3.0 w.in-Some-get-2.ensures.lookup.1
                c.numbers.invariant.1)),
          )
      | in_default-get-2 w ↦ (
        w.has_own-is ∙ next_none (any_of own) false c.numbers.has_own c.args.self.now.house.now.places.items c.deref-in-numbers.result.now ns c.at-i-items.result.now
            c.numbers.i-index _ c.deref-in-numbers.ensures.value of c.numbers-test.true w.in_default-get-2.ensures.lookup.3 c.numbers.invariant.0,
        w.are_filled-is ∙ next_none (all_of filled) true c.numbers.are_filled c.args.self.now.house.now.places.items c.deref-in-numbers.result.now ns c.at-i-items.result.now
            c.numbers.i-index _ c.deref-in-numbers.ensures.value of c.numbers-test.true w.in_default-get-2.ensures.lookup.3 c.numbers.invariant.1,
      )
    ]

pub returns-then-has_own : goal.returns-then-has_own
returns-then-has_own g c =
    let found : find (λ u. u.number == c.args.number.now.user) c.args.self.now.house.now.users.items ≡ Some c.in-Some.user = sym c.user.ensures ∙ c.in-Some.is in
    let there : slice_get c.args.self.now.house.now.spans.items c.args.span ≡ Some c.in-Some-get.within.now =
    ap (λ (xs : List Span). slice_get xs c.args.span) (sym c.deref.ensures.value)
    ∙ slice_get_read c.deref.result.now (length c.deref.result.now) c.args.span c.in-Some-get.within.now refl
    c.in-Some-get.ensures.lookup.3.0 c.in-Some-get.ensures.lookup.1 in
    let places = c.args.self.now.house.now.places.items in
    let ns : List ℕ = at c.args.self.now.flats (flat_key c.in-Some.user.flat.now) in
    let of : c.at-i-items.result.now ≡ ns = c.at-i-items.ensures ∙ ap (λ (k : ℕ). at c.args.self.now.flats k) c.flat_key.ensures in
    let index = c.args.self.now.indexed (flat_key c.in-Some.user.flat.now) in
    let own = own_is c.in-Some.user.flat.now c.args.number.now.used c.args.span c.numbers.i-index places ns c.at-i-items.result.now c.numbers.has_own of
    c.numbers-test.false index c.numbers.invariant.0 in
    let filled = filled_are c.args.number.now.user c.in-Some.user.flat.now c.args.number.now.used c.args.span (span_of c.in-Some-get.within.now) c.numbers.i-index places ns
    c.at-i-items.result.now c.numbers.are_filled of c.numbers-test.false index c.numbers.invariant.1 in
    filled ∙ ap (λ (b : Bool). b && list_all (is_filled c.args.number.now.user c.in-Some.user.flat.now c.args.number.now.used c.args.span (span_of c.in-Some-get.within.now)) places)
    (sym c.if-has_own.true ∙ own)
    ∙ sym (whole_is c.args.self.now.house.now c.args.span c.args.number.now.user c.args.number.now.used c.in-Some.user c.in-Some-get.within.now found there)

pub returns-else-has_own : goal.returns-else-has_own
returns-else-has_own g c =
    let found : find (λ u. u.number == c.args.number.now.user) c.args.self.now.house.now.users.items ≡ Some c.in-Some.user = sym c.user.ensures ∙ c.in-Some.is in
    let there : slice_get c.args.self.now.house.now.spans.items c.args.span ≡ Some c.in-Some-get.within.now =
    ap (λ (xs : List Span). slice_get xs c.args.span) (sym c.deref.ensures.value)
    ∙ slice_get_read c.deref.result.now (length c.deref.result.now) c.args.span c.in-Some-get.within.now refl
    c.in-Some-get.ensures.lookup.3.0 c.in-Some-get.ensures.lookup.1 in
    let places = c.args.self.now.house.now.places.items in
    let ns : List ℕ = at c.args.self.now.flats (flat_key c.in-Some.user.flat.now) in
    let of : c.at-i-items.result.now ≡ ns = c.at-i-items.ensures ∙ ap (λ (k : ℕ). at c.args.self.now.flats k) c.flat_key.ensures in
    let own = own_is c.in-Some.user.flat.now c.args.number.now.used c.args.span c.numbers.i-index places ns c.at-i-items.result.now c.numbers.has_own of
    c.numbers-test.false (c.args.self.now.indexed (flat_key c.in-Some.user.flat.now)) c.numbers.invariant.0 in
    c.if-has_own.false ∙ ap (λ (b : Bool). b && list_all (is_filled c.args.number.now.user c.in-Some.user.flat.now c.args.number.now.used c.args.span (span_of c.in-Some-get.within.now)) places)
    (sym c.if-has_own.false ∙ own)
    ∙ sym (whole_is c.args.self.now.house.now c.args.span c.args.number.now.user c.args.number.now.used c.in-Some.user c.in-Some-get.within.now found there)
