-- A second meter that matches makes more than one.
use Rattle.std.proofs.Common.{◌≡◌, ℕ, ◌+◌, ◌<◌, ◌≤◌, Bool, true, List, Option, Some, None, cond, filter, take, drop, is_some, length, get_or, arith, ap, sym, ◌∙◌, length-append}
use Rattle.std.specs.Option.{option_to_list}
use Rattle.std.proofs.lemmas.List.{take-append-drop}
use Rattle.std.proofs.lemmas.List.Elements.{filter-append}
use Rattle.std.proofs.lemmas.List.Filters.{length-filter_more}
use Rattle.dc_address.specs.Mask.{matches}
use Rattle.dc_address.specs.declared.identity.Identity.{Identity}
use Rattle.dc_search.proofs.bus.matches_on.Goals as goal

some_one : (only : Option Identity) → is_some only ≡ true → length (option_to_list only) ≡ 1
some_one None is = cc
some_one (Some meter) is = omega arith

kept : (p : Identity → Bool) (meters : List Identity) (n : ℕ) → length (filter p (take n meters)) ≤ length (filter p meters)
kept p meters n =
    let whole : length (filter p meters) ≡ length (filter p (take n meters)) + length (filter p (drop n meters)) =
    ap (λ l. length (filter p l)) (sym (take-append-drop n meters))
    ∙ ap length (filter-append p (take n meters) (drop n meters))
    ∙ length-append (filter p (take n meters)) (filter p (drop n meters)) in
    omega arith

two : (p : Identity → Bool) (meters : List Identity) (n : ℕ) (only : Option Identity) (meter : Identity) → n < length meters
    → filter p (take n meters) ≡ option_to_list only → is_some only ≡ true → meter ≡ get_or meters n meter → p meter ≡ true → 1 < length (filter p meters)
two p meters n only meter within so some is passes =
    let more : length (filter p (take (n + 1) meters)) ≡ length (filter p (take n meters)) + 1 =
    length-filter_more p meters n meter within ∙ ap (λ b. length (filter p (take n meters)) + cond b 1 0) (ap p (sym is) ∙ passes) in
    let before : length (filter p (take n meters)) ≡ 1 = ap length so ∙ some_one only some in
    let all : length (filter p (take (n + 1) meters)) ≤ length (filter p meters) = kept p meters (n + 1) in
    omega arith

pub returns-then-is_some : goal.returns-then-is_some
returns-then-is_some c =
    two (matches c.args.mask.now) c.args.bus.now c.loop-meter.meter-index c.loop-meter.only c.meter-item.result (omega (arith, c.loop-meter-test.true))
    c.loop-meter.invariant (sym c.is_some.ensures ∙ c.if-is_some.true) c.meter-item.is (sym c.matches.ensures ∙ c.if-matches.true)
