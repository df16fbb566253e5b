-- The turns of a run are one life.
use Rattle.std.proofs.Common.{ℕ, List, [], ◌∷◌, ◌++◌, refl, sym, subst, ◌∙◌}
use Rattle.dc_sectors.specs.declared.device.Disk.{Ghosts}
use Rattle.mbdc_change.specs.State.{State}
use Rattle.dc_core.specs.Core.{Core, opened}
use Rattle.dc_core.specs.Headline.{IsOpened, in_a_run}
use Rattle.dc_core.specs.Images.{Machine}
use Rattle.dc_core.specs.Run.{DidAll}
use Rattle.dc_core.specs.Step.{next}
use Rattle.dc_core.specs.Transcript.{Turn, leads}
use Rattle.dc_poller.specs.ImageRun.{IsOneLife}
use Rattle.dc_core.specs.Went.{Went}

module _ {D : Type 0} (g : Ghosts D) where
  -- turns that were done may be split anywhere
  does_split : (origin : D) (budget : ℕ) (core : Core) (done more : List Turn) (first last : Machine D) → DidAll g origin budget core (done ++ more) first last
      → (now : Machine D) × DidAll g origin budget core done first now × DidAll g origin budget (leads core done) more now last
  does_split origin budget core [] more first last did = (first, refl, did)
  does_split origin budget core (t ∷ done) more first last did =
      let rest = does_split origin budget (next core t.0 t.1) done more did.0 last did.2 in
      (rest.0, (did.0, did.1, rest.1), rest.2)

  pub one_life : (state : State) (turns : List Turn) (first last : Machine D) → IsOpened g state first → g.keeps first.store.disk
      → Went g first.store.disk first.house.budget state [] turns first last
      → IsOneLife g state turns last
  one_life state turns first last opens keeps went done more parts =
      let origin = first.store.disk in
      let budget = first.house.budget in
      let all = subst (λ (ts : List Turn). DidAll g origin budget (opened state) ts first last) (went.turns_are ∙ sym parts) went.ran.steps in
      let split = does_split origin budget (opened state) done more first last all in
      (split.0, λ disk left. in_a_run first split.0 last disk opens keeps split.1 split.2 left)
