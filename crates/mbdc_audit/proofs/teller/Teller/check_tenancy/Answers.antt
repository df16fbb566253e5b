use Rattle.std.proofs.Common.{◌≡◌, ◌<◌, ◌≤◌, ◌+◌, ◌++◌, ◌∷◌, [], List, ap, arith, flat_map, get_or, length, map, subst, sym, take, ◌∙◌}
use Rattle.std.proofs.lemmas.List.{append-nil, take_all}
use Rattle.std.proofs.lemmas.List.Concat.{flat_map-append}
use Rattle.mbdc_audit.specs.Sound.{IsOneTenancy, Lived}
use Rattle.mbdc_audit.specs.View.{part_of}
use Rattle.mbdc_audit.specs.Walk.{Meets, key_lived, live}
use Rattle.mbdc_audit.specs.declared.house.Part as part_type
use Rattle.mbdc_audit.proofs.Checks.{took}
use Rattle.mbdc_audit.proofs.PairsMet.{lived_windows, meets_more, meets_none}
use Rattle.mbdc_audit.proofs.teller.Teller.check_tenancy.Goals as goal

pub windows-init : goal.windows-init
windows-init g c = λ xs met. meets_none key_lived live IsOneTenancy c.args.self.now.counts c.args.met.now xs met

pub windows-preserved : goal.windows-preserved
windows-preserved g c = λ xs met.
    let windows = c.args.place.now.windows.items in
    let below : c.windows.window-index < length windows = omega arith in
    let is = subst (λ ws. c.window-item.result ≡ get_or ws c.windows.window-index c.window-item.result) c.deref-window-items.ensures.value c.window-item.is in
    let view : part_type.Part → Lived = λ x. record { flat = c.args.place.now.flat.now; part = part_of x } in
    let more = ap (λ ws. flat_map (λ w. map view w.parts.items) ws) (took windows c.windows.window-index c.window-item.result below is)
    ∙ (flat_map-append (λ w. map view w.parts.items) (take c.windows.window-index windows) (c.window-item.result ∷ [])
    ∙ ap (λ (ys : List Lived). flat_map (λ w. map view w.parts.items) (take c.windows.window-index windows) ++ ys)
    (append-nil (map view c.window-item.result.parts.items) ∙ ap (λ (ps : List part_type.Part). map view ps) (sym c.deref.ensures.value))) in
    meets_more key_lived live IsOneTenancy c.args.self.now.counts c.windows.self.counts c.check_users_of.new.self.counts c.windows.met
    c.check_users_of.new.met xs (flat_map (λ w. map view w.parts.items) (take c.windows.window-index windows)) (map view c.deref.result.now)
    (flat_map (λ w. map view w.parts.items) (take (c.windows.window-index + 1) windows)) more
    (c.windows.invariant xs met) (c.in_ok-check_users_of.ensures (xs ++ flat_map (λ w. map view w.parts.items) (take c.windows.window-index windows)))

pub returns : goal.returns
returns g c = λ xs met.
    let windows = c.args.place.now.windows.items in
    let past : length windows ≤ c.windows.window-index = omega arith in
    let view : part_type.Part → Lived = λ x. record { flat = c.args.place.now.flat.now; part = part_of x } in
    subst (λ (ys : List Lived). Meets key_lived live IsOneTenancy c.args.self.now.counts c.windows.self.counts c.windows.met xs ys)
    (ap (λ ws. flat_map (λ w. map view w.parts.items) ws) (take_all c.windows.window-index windows past)
    ∙ lived_windows c.args.place.now.flat.now windows) (c.windows.invariant xs met)
