-- What a poll does to an image (this product): the concentrator is opened, the meters are read, and it is closed.
use Rattle.std.specs.Prelude.{◌≡◌, ℕ, ◌-◌, ◌^◌, min, Bool, List, [], take}
use Rattle.dc_address.specs.declared.identity.Identity.{Identity}
use Rattle.mbdc_change.specs.State.{State}
use Rattle.dc_core.specs.Core.{Core, present}
use Rattle.dc_core.specs.Images.{Machine}
use Rattle.dc_core.specs.OpenedOn.{IsOpenedOn}
use Rattle.dc_sectors.specs.declared.device.Disk.{Ghosts}
use Rattle.mbdc_poll.specs.Bus.{Bus}
use Rattle.mbdc_poll.specs.Clock.{ComparesClock}
use Rattle.mbdc_poll.specs.Happening.{Happening}
use Rattle.mbdc_poll.specs.Planned.{ArePlanned, asked_for, has_bus, refused_count, refused_events}
use Rattle.mbdc_poll.specs.Polls.{PollsAll}
use Rattle.mbdc_poll.specs.Round.{Happens, most_lines}
use Rattle.mbdc_poll.specs.Telling.{TakesAll}
use Rattle.mbdc_poll.specs.declared.event.Event.{Event as Told}
use Rattle.mbdc_poll.specs.declared.outcome.Outcome.{Outcome}
use Rattle.mbdc_poll.specs.declared.station.Station.{Station}

-- A LIFE FROM THE DISK TO THE DISK: the concentrator is opened, and such things happen, whose turns are a run of it
-- from its beginning.
pub record ImageTurned {D : Type 0} (g : Ghosts D) (such : Core → List Happening → Type 0)
    (disk new : D)
    : Type 0 where
  pub state : State
  pub first : Machine D
  pub last : Machine D
  pub opening : IsOpenedOn g disk state first
  pub happens : Happens g first.store.disk state [] such first last
  pub disk_is : new ≡ last.store.disk

-- THE METERS OF A PLAN ARE READ. The lines are those of the first eight buses; on each whose bus isn't lost the
-- meters of the register that hang there are read, or those of them that are named, in order of identity. Before it,
-- an event comes for each meter that is to be read and can't be; these count as failed (up to 2^32 - 1 of
-- them). Before anything is asked the clock is compared with the time stamps of the register.
pub record PlanPolled {B T N : Type 0} (g : Bus B) (told : T → ℕ → T → Type 0)
    (passes : T → Bool → T → Type 0) (warned : T → T → Type 0) (takes : N → Told → N → Type 0)
    (buses : List B) (only : List Identity) (tries : ℕ) (first last : T) (old new : N) (now : Outcome)
    (core : Core) (happened : List Happening) : Type 0 where
  pub olds : List (Station B)
  pub news : List (Station B)
  pub between : N
  pub begun : T
  pub planned : ArePlanned g.lost (present core) only buses olds
  pub compares : ComparesClock told warned (present core) first begun
  pub refuses : TakesAll takes old between (refused_events (has_bus g.lost (take most_lines buses))
      (present core) (asked_for only (present core)))
  pub polls : PollsAll g told passes tries olds news begun last (TakesAll takes between new)
      (record {
        read = 0;
        failed = min (2 ^ 32 - 1)
            (refused_count (has_bus g.lost (take most_lines buses)) (present core)
            (asked_for only (present core)));
      })
      now core happened
