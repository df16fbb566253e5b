use Rattle.std.proofs.Common.{◌≡◌, Some, None, ap, sym, ◌∙◌}
use Rattle.std.specs.Prelude.{is_some, not, ◌&&◌}
use Rattle.std.specs.List.{list_any}
use Rattle.std.specs.BTreeMap.{is_at}
use Rattle.dc_address.specs.Identity.{identity_cmp}
use Rattle.mbdc_change.specs.State.{Held, MeterRow, row_of}
use Rattle.mbdc_change.specs.Accepts.{occupies}
use Rattle.dc_meters.proofs.house.House.check_swap.Goals as goal

pub returns-in_default : goal.returns-in_default
returns-in_default g c =
    let known = ap (λ (x : Held). is_some (row_of c.args.new.now x.state)) (sym c.self.view_is) ∙ sym c.contains_key.ensures ∙ c.if-contains_key.false in
    let absent : row_of c.args.old.now c.args.self.now.state ≡ None = ap (λ (x : Held). row_of c.args.old.now x.state) (sym c.self.view_is) ∙ sym c.in_default.ensures.value in
    rw (known, absent)

pub returns-then-is_taken_by_other : goal.returns-then-is_taken_by_other
returns-then-is_taken_by_other g c =
    let row : MeterRow = c.in-Some.row.now in
    let known = ap (λ (x : Held). is_some (row_of c.args.new.now x.state)) (sym c.self.view_is) ∙ sym c.contains_key.ensures ∙ c.if-contains_key.false in
    let there : row_of c.args.old.now c.args.self.now.state ≡ Some row = ap (λ (x : Held). row_of c.args.old.now x.state) (sym c.self.view_is) ∙ sym c.in-Some.ensures.value in
    let taken = ap (λ (line : _). list_any (λ e. not (is_at (identity_cmp c.args.old.now) e.0) && occupies line c.args.address e.1) c.args.self.now.state.meters) (sym c.line.ensures.line) ∙ sym c.is_taken_by_other.ensures ∙ c.if-is_taken_by_other.true in
    rw (known, there, taken)

pub returns : goal.returns
returns g c =
    let row : MeterRow = c.in-Some.row.now in
    let known = ap (λ (x : Held). is_some (row_of c.args.new.now x.state)) (sym c.self.view_is) ∙ sym c.contains_key.ensures ∙ c.if-contains_key.false in
    let there : row_of c.args.old.now c.args.self.now.state ≡ Some row = ap (λ (x : Held). row_of c.args.old.now x.state) (sym c.self.view_is) ∙ sym c.in-Some.ensures.value in
    let free = ap (λ (line : _). list_any (λ e. not (is_at (identity_cmp c.args.old.now) e.0) && occupies line c.args.address e.1) c.args.self.now.state.meters) (sym c.line.ensures.line) ∙ sym c.is_taken_by_other.ensures ∙ c.if-is_taken_by_other.false in
    rw (known, there, free)
