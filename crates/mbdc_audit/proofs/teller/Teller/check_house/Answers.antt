use Rattle.std.proofs.Common.{◌≡◌, ◌++◌, List, [], flat_map, length, sym, ap, ◌∙◌, refl, Some}
use Rattle.mbdc_audit.specs.Walk.{IsSeen}
use Rattle.mbdc_audit.proofs.Checks.{same}
use Rattle.mbdc_audit.specs.View.{house_of}
use Rattle.mbdc_audit.proofs.Ends.{walks_then, walks_by, walks_ends}
use Rattle.std.specs.BTreeMap.{get}
use Rattle.std.specs.Ordering.{nat_cmp}
use Rattle.std.proofs.lemmas.List.{append-nil}
use Rattle.std.proofs.lemmas.List.Elements.{All-nil}
use Rattle.mbdc_audit.specs.House.{End}
use Rattle.std.proofs.lemmas.Option.{none-some}
use Rattle.mbdc_audit.proofs.Offsets.{no_entry}
use Rattle.mbdc_audit.specs.File.{all_numbers}
use Rattle.mbdc_audit.specs.Sound.{ends_of_place, ends_of_spans}
use Rattle.mbdc_audit.proofs.Checks.{pairs_of}
use Rattle.mbdc_audit.proofs.Houses.{house_is}
use Rattle.mbdc_audit.proofs.teller.Teller.check_house.Goals as goal

pub returns : goal.returns
returns g c = λ built read found.
    let h = house_of c.args.house.now in
    let is_empty = c.new-offsets.ensures.empty in
    let none : IsSeen (get nat_cmp c.new-offsets.result) [] = record { each = All-nil (λ e. get nat_cmp c.new-offsets.result e.day ≡ Some e.offset); only = λ day o f. absurd (none-some o (sym (no_entry c.new-offsets.result is_empty day) ∙ f)) } in
    let users = same c.in_ok-check_users.ensures (pairs_of (λ a b. a.flat.now ≡ b.flat.now → a.area ≡ b.area) c.deref.ensures.value) in
    let one = walks_then c.in_ok-check_spans.ensures (walks_by (get nat_cmp c.check_spans.new.offsets) users) in
    let two = walks_then one (c.in_ok-check_places.ensures built found) in
    let asked = walks_by {a = c.check_places.new.self.counts} {b = c.unless.new.self.counts} (get nat_cmp c.check_places.new.offsets) (same c.in_ok-unless.ensures c.is_asked.ensures) in
    let all = walks_then two asked in
    let x = (walks_ends (append-nil _ ∙ ap (λ (es : List End). es ++ flat_map ends_of_place h.places) (append-nil (ends_of_spans h))) all).exact [] (λ clean. none) in
    let sound = house_is h c.args.house.now.users.items (length (all_numbers h)) refl built read in
    (λ clean. let p = x.0 clean in (p.0, sound.0 (p.1, p.2)), λ r. let q = sound.1 r.1 in x.1 (r.0, q.0, q.1))
