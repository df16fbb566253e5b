-- The flats' names of a state that an image reads as are valid.
use Rattle.std.proofs.Common.{ℕ, zero, suc, Bool, true, false, Option, None, Some, List, [], ◌∷◌, All, sym, subst}
use Rattle.std.specs.Prelude.{IfSome, nat_lt}
use Rattle.std.specs.BTreeMap.{is_at}
use Rattle.std.specs.Map.{values_of}
use Rattle.std.proofs.lemmas.List.Elements.{All-weaker, All-filter, All-push, All-head, All-tail}
use Rattle.std.proofs.lemmas.Map.Views.{All-values-insert_entry, All-values-set_value, All-map-remove_entry, IfSome-lookup_from_All}
use Rattle.dc_sectors.specs.Disk.{Image}
use Rattle.dc_address.specs.declared.identity.Identity.{Identity}
use Rattle.dc_address.specs.Identity.{identity_cmp}
use Rattle.dc_roots.specs.declared.root.Root.{Root}
use Rattle.mbdc_change.specs.Flat.{IsFlat}
use Rattle.mbdc_change.specs.State.{State, MeterRow, PartRow, ReadingRow, row_of}
use Rattle.mbdc_change.specs.Apply.{applied, heard, moved, swapped, commanded, fitted}
use Rattle.mbdc_change.specs.Valid.{IsChange, IsMeter, IsReading}
use Rattle.mbdc_change.specs.Command.{IsCommand}
use Rattle.mbdc_change.specs.History.{after}
use Rattle.mbdc_change.specs.declared.change.Change.{Change}
use Rattle.mbdc_change.specs.declared.change.Change.TheVariants.{Telegram, Command as Numbered}
use Rattle.mbdc_change.specs.declared.command.Command.{Command}
use Rattle.mbdc_change.specs.declared.command.Command.TheVariants.{Fit, Move, Out, Confirm, Swap}
use Rattle.mbdc_log.specs.Stands.{Holds}
use Rattle.dc_upload.proofs.ShownReadings.{HasFlat, IsOfFlat, AreFlats}
use Rattle.dc_meters.specs.Language.{register}

-- ---- a change keeps that

row_flat : (meter : Identity) (s : State) → AreFlats s → IfSome (row_of meter s) HasFlat
row_flat meter s are = IfSome-lookup_from_All HasFlat (is_at (identity_cmp meter)) s.meters are.meters

heard_flats : (meter : Identity) (more : Bool) (number : ℕ) (part : PartRow) (found : Option MeterRow) (s : State) → IfSome found HasFlat → AreFlats s → AreFlats (heard meter more number part found s)
heard_flats meter more number part None s flat are = are
heard_flats meter true number part (Some row) s flat are = record {
  meters = All-values-set_value (is_at (identity_cmp meter)) HasFlat s.meters _ are.meters flat;
  readings = are.readings;
}
heard_flats meter false number part (Some row) s flat are = record {
  meters = All-values-set_value (is_at (identity_cmp meter)) HasFlat s.meters _ are.meters flat;
  readings = All-push IsOfFlat s.readings _ are.readings flat;
}

moved_flats : (meter : Identity) (flat : List ℕ) (found : Option MeterRow) (s : State) → IsFlat flat → AreFlats s → AreFlats (moved meter flat found s)
moved_flats meter flat None s is are = are
moved_flats meter flat (Some row) s is are = record {
  meters = All-values-set_value (is_at (identity_cmp meter)) HasFlat s.meters _ are.meters is;
  readings = are.readings;
}

fitted_flats : (meter : Identity) (row : MeterRow) (s : State) → HasFlat row → AreFlats s → AreFlats (fitted meter row s)
fitted_flats meter row s is are = record {
  meters = All-values-insert_entry identity_cmp meter row HasFlat s.meters are.meters is;
  readings = are.readings;
}

swapped_flats : (old new : Identity) (address : Option ℕ) (found : Option MeterRow) (s : State) → IfSome found HasFlat → AreFlats s → AreFlats (swapped old new address found s)
swapped_flats old new address None s flat are = are
swapped_flats old new address (Some row) s flat are =
    let with_new = fitted_flats new (record { line = row.line; address = address; flat = row.flat; parts = [] }) s flat are in
    record {
      meters = All-map-remove_entry (is_at (identity_cmp old)) (λ e. e.1) HasFlat _ with_new.meters;
      readings = are.readings;
    }

commanded_flats : (command : Command) (s : State) → IsCommand command → AreFlats s → AreFlats (commanded command s)
commanded_flats (Fit meter line address flat) s is are = fitted_flats meter (record { line = line; address = address; flat = flat; parts = [] }) s is.2 are
commanded_flats (Move meter flat) s is are = moved_flats meter flat (row_of meter s) s is are
commanded_flats (Out meter) s is are = record {
  meters = All-map-remove_entry (is_at (identity_cmp meter)) (λ e. e.1) HasFlat s.meters are.meters;
  readings = are.readings;
}
commanded_flats (Confirm serial) s is are = record {
  meters = are.meters;
  readings = All-filter (λ (r : ReadingRow). nat_lt serial r.serial) IsOfFlat s.readings are.readings;
}
commanded_flats (Swap old new address) s is are = swapped_flats old new address (row_of old s) s (row_flat old s are) are

applied_flats : (change : Change) (s : State) → IsChange change → AreFlats s → AreFlats (applied change s)
applied_flats (Telegram part moment body) s is are =
    heard_flats body.meter body.more part (record { moment = moment; body = body.bytes }) (row_of body.meter s) s (row_flat body.meter s are) are
applied_flats (Numbered number command) s is are =
    let done = commanded_flats command s is.1 are in
    record { meters = done.meters; readings = done.readings }

after_flats : (changes : List Change) (s : State) → All IsChange changes → AreFlats s → AreFlats (after s changes)
after_flats [] s each are = are
after_flats (change ∷ changes) s each are =
    after_flats changes (applied change s) (All-tail IsChange change changes each) (applied_flats change s (All-head IsChange change changes each) are)

-- ---- what an image reads as

pub held_flats : (half_len : ℕ) (root : Root) (image : Image) (m place : ℕ) (s : State) → Holds register half_len root image m place s → AreFlats s
held_flats half_len root image zero place s holds =
    let is = holds.spells.is_state in
    record {
      meters = All-weaker IsMeter HasFlat (λ row of. of.flat_is) (values_of s.meters) is.meters_are;
      readings = All-weaker IsReading IsOfFlat (λ r of. of.flat_is) s.readings is.readings_are;
    }
held_flats half_len root image (suc m) place s holds =
    let before = held_flats half_len root image m holds.from holds.was holds.before in
    subst AreFlats (sym holds.state_is) (after_flats holds.changes holds.was holds.spells.are_changes before)
