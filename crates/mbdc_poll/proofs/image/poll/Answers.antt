use Rattle.std.proofs.Common.{◌≡◌, ℕ, List, length, map, take, ap, refl, sym, subst, ◌∙◌, arith}
use Rattle.std.specs.Prelude.{min}
use Rattle.std.specs.List.{All}
use Rattle.dc_address.specs.declared.identity.Identity.{Identity}
use Rattle.mbdc_io.specs.Failures.{HasRisen}
use Rattle.mbdc_change.specs.State.{State}
use Rattle.dc_core.specs.Core.{present}
use Rattle.mbdc_poll.specs.Telling.{TakesAll}
use Rattle.mbdc_poll.specs.Clock.{ComparesClock}
use Rattle.mbdc_poll.specs.Planned.{ArePlanned, AreQueues, AreStations, asked_for, has_bus, refused_count, refused_events}
use Rattle.mbdc_poll.specs.Polls.{PollsAll}
use Rattle.mbdc_poll.specs.Round.{IsFresh, most_lines}
use Rattle.mbdc_poll.specs.declared.station.Station.{Station}
use Rattle.mbdc_poll.proofs.Exhausting.{all_fresh}
use Rattle.mbdc_poll.proofs.Planning.{planned_by}
use Rattle.mbdc_poll.proofs.Running.{runs_from, runs_none, runs_as}
use Rattle.std.proofs.lemmas.List.{length-take, length-map}
use Rattle.mbdc_poll.proofs.image.poll.Goals as goal

pub returns-in-Err-clause-went : goal.returns-in-Err-clause-went
returns-in-Err-clause-went g c = runs_none g.D.Disk _ c.args.concentrator.now (λ image left. g.met.D.Disk.only_now c.args.concentrator.now.store.disk image left) (λ core. tt)

pub returns-in-Err-clause-starved : goal.returns-in-Err-clause-starved
returns-in-Err-clause-starved g c is = (refl, runs_none g.D.Disk _ c.args.concentrator.now (λ image left. g.met.D.Disk.only_now c.args.concentrator.now.store.disk image left) (λ core. refl))

pub returns-in-Err-stations_of-clause-went : goal.returns-in-Err-stations_of-clause-went
returns-in-Err-stations_of-clause-went g c = runs_none g.D.Disk _ c.args.concentrator.now (λ image left. g.met.D.Disk.only_now c.args.concentrator.now.store.disk image left) (λ core. tt)

pub returns-in-Err-stations_of-clause-starved : goal.returns-in-Err-stations_of-clause-starved
returns-in-Err-stations_of-clause-starved g c is = (refl, runs_none g.D.Disk _ c.args.concentrator.now (λ image left. g.met.D.Disk.only_now c.args.concentrator.now.store.disk image left) (λ core. refl))

pub returns-in-Err-asked_for-clause-went : goal.returns-in-Err-asked_for-clause-went
returns-in-Err-asked_for-clause-went g c = runs_none g.D.Disk _ c.args.concentrator.now (λ image left. g.met.D.Disk.only_now c.args.concentrator.now.store.disk image left) (λ core. tt)

pub returns-in-Err-asked_for-clause-starved : goal.returns-in-Err-asked_for-clause-starved
returns-in-Err-asked_for-clause-starved g c is = (refl, runs_none g.D.Disk _ c.args.concentrator.now (λ image left. g.met.D.Disk.only_now c.args.concentrator.now.store.disk image left) (λ core. refl))

pub returns-in-Err-refuse_others-clause-went : goal.returns-in-Err-refuse_others-clause-went
returns-in-Err-refuse_others-clause-went g c = runs_none g.D.Disk _ c.args.concentrator.now (λ image left. g.met.D.Disk.only_now c.args.concentrator.now.store.disk image left) (λ core. tt)

pub returns-clause-write : goal.returns-clause-write
returns-clause-write g c is = subst (λ (n : ℕ). HasRisen n (g.N.Teller.failures c.read_all.new.teller)) c.in-Ok-refuse_others.ensures.counted.0 c.in-Err-read_all.ensures.counted.1

pub returns-in-Ok-read_all-clause-went : goal.returns-in-Ok-read_all-clause-went
returns-in-Ok-read_all-clause-went g c =
    let bus_of : Station g.row.B.Denot → g.row.B.Denot = λ s. s.bus in
    let lost = g.B.HalfBus.lost in
    let only : List Identity = c.args.plan.only.now in
    let all : List g.row.B.Denot = c.args.plan.buses.items in
    let stations : List (Station g.row.B.Denot) = c.in-Ok-stations_of.stations.items in
    let slice : c.as_mut_slice-2.result.now ≡ stations = c.as_mut_slice-2.ensures.value in
    let cut : c.truncate.new.self.items ≡ take most_lines all = c.truncate.ensures.items in
    let buses : map bus_of stations ≡ c.truncate.new.self.items = c.in-Ok-stations_of.ensures.buses in
    let seen : map bus_of c.as_slice-2.result.now ≡ take most_lines all = ap (λ (xs : List (Station g.row.B.Denot)). map bus_of xs) c.as_slice-2.ensures.value ∙ buses ∙ cut in
    let given : c.as_slice.result.now ≡ c.truncate.new.self.items = c.as_slice.ensures.value in
    let queues : AreQueues (λ v. v.items) lost c.house.result.now.state only c.truncate.new.self.items c.in-Ok.queues.items =
    subst (λ (bs : List g.row.B.Denot). AreQueues (λ v. v.items) lost c.house.result.now.state only bs c.in-Ok.queues.items) given c.in-Ok.ensures.queues in
    let count : length c.in-Ok.queues.items ≡ length c.truncate.new.self.items = c.in-Ok.ensures.count ∙ ap length given in
    let lent : c.as_mut_slice.result.now ≡ c.in-Ok.queues.items = c.as_mut_slice.ensures.value in
    let each : AreStations (λ v. v.items) lost c.in-Ok.queues.items stations = subst (λ qs. AreStations (λ v. v.items) lost qs stations) lent c.in-Ok-stations_of.ensures.each in
    let planned : ArePlanned lost c.house.result.now.state only all stations =
    planned_by (λ v. v.items) lost c.house.result.now.state only all c.truncate.new.self.items c.in-Ok.queues.items stations cut queues count buses each in
    let wanted : c.as_slice-3.result.now ≡ asked_for only c.house-2.result.now.state = c.as_slice-3.ensures.value ∙ c.in-Ok-asked_for.ensures in
    let compared : ComparesClock g.T.Timer.tells g.T.Timer.warns c.house-4.result.now.state c.args.timer.now c.compare_clock.new.timer = c.compare_clock.ensures in
    let takes = g.N.Teller.takes in
    let old = c.args.teller.now in
    let between = c.refuse_others.new.teller in
    runs_from g.D.Disk _ _ c.args.concentrator.now c.read_all.new.concentrator c.in-Ok-read_all.ensures.went
    (λ core happened is p.
    let state : c.house.result.now.state ≡ present core = ap (λ h. h.state) c.house.ensures ∙ is in
    let state-2 : c.house-2.result.now.state ≡ present core = ap (λ h. h.state) c.house-2.ensures ∙ is in
    let state-3 : c.house-3.result.now.state ≡ present core = ap (λ h. h.state) c.house-3.ensures ∙ is in
    let state-4 : c.house-4.result.now.state ≡ present core = ap (λ h. h.state) c.house-4.ensures ∙ is in
    let wanted_is : c.as_slice-3.result.now ≡ asked_for only (present core) = wanted ∙ ap (λ (s : State). asked_for only s) state-2 in
    record {
      olds = c.as_mut_slice-2.result.now;
      news = c.read_all.new.stations;
      between = between;
      begun = c.compare_clock.new.timer;
      planned = subst (λ (xs : List (Station g.row.B.Denot)). ArePlanned lost (present core) only all xs) (sym slice) (subst (λ (s : State). ArePlanned lost s only all stations) state planned);
      compares = subst (λ (s : State). ComparesClock g.T.Timer.tells g.T.Timer.warns s c.args.timer.now c.compare_clock.new.timer) state-4 compared;
      refuses = subst (λ (ms : List Identity). TakesAll takes old between (refused_events (has_bus lost (take most_lines all)) (present core) ms)) wanted_is
          (subst (λ (s : State). TakesAll takes old between (refused_events (has_bus lost (take most_lines all)) s c.as_slice-3.result.now)) state-3
          (subst (λ (bs : List g.row.B.Denot). TakesAll takes old between (refused_events (has_bus lost bs) c.house-3.result.now.state c.as_slice-3.result.now)) seen c.in-Ok-refuse_others.ensures.told));
      polls = subst (λ (n : ℕ). PollsAll g.B.HalfBus g.T.Timer.tells g.T.Timer.passes c.args.plan.tries c.as_mut_slice-2.result.now c.read_all.new.stations c.compare_clock.new.timer c.read_all.new.timer (TakesAll takes between c.read_all.new.teller) (record { read = 0; failed = n }) c.in-Ok-read_all.outcome core happened)
          (c.in-Ok-refuse_others.ensures.count
          ∙ ap (λ (bs : List g.row.B.Denot). min 4294967295 (refused_count (has_bus lost bs) c.house-3.result.now.state c.as_slice-3.result.now)) seen
          ∙ ap (λ (s : State). min 4294967295 (refused_count (has_bus lost (take most_lines all)) s c.as_slice-3.result.now)) state-3
          ∙ ap (λ (ms : List Identity). min 4294967295 (refused_count (has_bus lost (take most_lines all)) (present core) ms)) wanted_is) p;
    })

pub read_all-requires-clause-sound : goal.read_all-requires-clause-sound
read_all-requires-clause-sound g c =
    let bus_of : Station g.row.B.Denot → g.row.B.Denot = λ s. s.bus in
    let lost = g.B.HalfBus.lost in
    let only : List Identity = c.args.plan.only.now in
    let all : List g.row.B.Denot = c.args.plan.buses.items in
    let stations : List (Station g.row.B.Denot) = c.in-Ok-stations_of.stations.items in
    let slice : c.as_mut_slice-2.result.now ≡ stations = c.as_mut_slice-2.ensures.value in
    let cut : c.truncate.new.self.items ≡ take most_lines all = c.truncate.ensures.items in
    let buses : map bus_of stations ≡ c.truncate.new.self.items = c.in-Ok-stations_of.ensures.buses in
    let given : c.as_slice.result.now ≡ c.truncate.new.self.items = c.as_slice.ensures.value in
    let queues : AreQueues (λ v. v.items) lost c.house.result.now.state only c.truncate.new.self.items c.in-Ok.queues.items =
    subst (λ (bs : List g.row.B.Denot). AreQueues (λ v. v.items) lost c.house.result.now.state only bs c.in-Ok.queues.items) given c.in-Ok.ensures.queues in
    let count : length c.in-Ok.queues.items ≡ length c.truncate.new.self.items = c.in-Ok.ensures.count ∙ ap length given in
    let lent : c.as_mut_slice.result.now ≡ c.in-Ok.queues.items = c.as_mut_slice.ensures.value in
    let each : AreStations (λ v. v.items) lost c.in-Ok.queues.items stations = subst (λ qs. AreStations (λ v. v.items) lost qs stations) lent c.in-Ok-stations_of.ensures.each in
    let planned : ArePlanned lost c.house.result.now.state only all stations =
    planned_by (λ v. v.items) lost c.house.result.now.state only all c.truncate.new.self.items c.in-Ok.queues.items stations cut queues count buses each in
    all_fresh g.B.HalfBus c.args.plan.tries c.as_mut_slice-2.result.now c.requires (subst (λ (xs : List (Station g.row.B.Denot)). All IsFresh xs) (sym slice) (λ k d below. (planned.each k d below).fresh))

pub queues_of-requires : goal.queues_of-requires
queues_of-requires g c =
    let few = length-take most_lines c.args.plan.buses.items in
    omega (arith, few, ap length c.as_slice.ensures.value, ap length c.truncate.ensures.items)

pub returns-in-Err-clause-write : goal.returns-in-Err-clause-write
returns-in-Err-clause-write g c is = absurd cc

pub stations_of-requires : goal.stations_of-requires
stations_of-requires g c =
    ap length c.as_mut_slice.ensures.value ∙ c.in-Ok.ensures.count ∙ ap length c.as_slice.ensures.value

pub returns-in-Err-stations_of-clause-write : goal.returns-in-Err-stations_of-clause-write
returns-in-Err-stations_of-clause-write g c is = absurd cc

pub returns-in-Err-asked_for-clause-write : goal.returns-in-Err-asked_for-clause-write
returns-in-Err-asked_for-clause-write g c is = absurd cc

pub returns-in-Err-refuse_others-clause-starved : goal.returns-in-Err-refuse_others-clause-starved
returns-in-Err-refuse_others-clause-starved g c is = absurd cc

pub returns-in-Err-refuse_others-clause-write : goal.returns-in-Err-refuse_others-clause-write
returns-in-Err-refuse_others-clause-write g c is = c.in-Err-refuse_others.ensures.counted.1

pub read_all-requires-clause-lines : goal.read_all-requires-clause-lines
read_all-requires-clause-lines g c =
    let few = length-take most_lines c.args.plan.buses.items in
    let same = length-map c.in-Ok-stations_of.stations.items (λ (s : Station g.row.B.Denot). s.bus) in
    omega (
      arith,
      few,
      same,
      ap length c.as_mut_slice-2.ensures.value,
      ap length c.in-Ok-stations_of.ensures.buses,
      ap length c.truncate.ensures.items,
    )

pub read_all-requires-clause-few : goal.read_all-requires-clause-few
read_all-requires-clause-few g c = omega (arith, c.in-Ok-refuse_others.ensures.count)

pub returns-in-Ok-read_all-clause-starved : goal.returns-in-Ok-read_all-clause-starved
returns-in-Ok-read_all-clause-starved g c is = absurd cc

pub returns-in-Ok-read_all-clause-write : goal.returns-in-Ok-read_all-clause-write
returns-in-Ok-read_all-clause-write g c is = absurd cc

pub returns-clause-went : goal.returns-clause-went
returns-clause-went g c =
    runs_as g.D.Disk _ _ c.args.concentrator.now c.read_all.new.concentrator
    c.in-Err-read_all.ensures.went (λ core happened a. tt)

pub returns-clause-starved : goal.returns-clause-starved
returns-clause-starved g c is = absurd cc
