-- Turns that were run, one after the other, and what is said of them.
use Rattle.std.proofs.Common.{◌≡◌, ℕ, List, [], ◌∷◌, ◌++◌, ap, refl, sym, subst}
use Rattle.dc_sectors.specs.Disk.{Image, IsImage}
use Rattle.dc_sectors.specs.declared.device.Disk.{Ghosts}
use Rattle.mbdc_change.specs.State.{State}
use Rattle.dc_core.specs.Core.{Core, opened, present}
use Rattle.dc_core.specs.Event.{Event, Answer}
use Rattle.dc_core.specs.Images.{Machine, IsAt}
use Rattle.dc_core.specs.Run.{IsShown, fault_in}
use Rattle.dc_core.specs.Step.{May, next}
use Rattle.dc_core.specs.Transcript.{Turn, leads, IsChain}
use Rattle.dc_core.proofs.Going.{leads_append}
use Rattle.dc_core.specs.Went.{Went, TurnWent}
use Rattle.dc_core.proofs.SingleTurns.{rested}
use Rattle.dc_core.proofs.Wents.{went_chain, went_at, went_none, went_both}
use Rattle.mbdc_poll.specs.Happening.{Happening, does, happened_turns}
use Rattle.mbdc_poll.specs.Round.{Happens, Runs}
use Rattle.mbdc_poll.proofs.Happenings.{turns_append}

module _ {D : Type 0} (g : Ghosts D) where
  -- nothing happens
  pub runs_none : (such : Core → List Happening → Type 0) (machine : Machine D)
      → ((image : Image) → g.images_since machine.store.disk (g.moment machine.store.disk) image → IsImage (g.choices machine.store.disk) image)
      → ((core : Core) → such core []) → Runs g such machine machine
  runs_none such machine only are origin state before chain at =
      record { happened = []; are_such = are (leads (opened state) before); went = went_none g origin machine.house.budget state before machine chain at (λ known. only) }

  -- the same, where it may be said where the concentrator is
  pub runs_still : (such : Core → List Happening → Type 0) (machine : Machine D)
      → ((image : Image) → g.images_since machine.store.disk (g.moment machine.store.disk) image → IsImage (g.choices machine.store.disk) image)
      → (happened : List Happening) → happened_turns happened ≡ []
      → ((origin : D) (core : Core) → IsAt g origin machine core → such core happened) → Runs g such machine machine
  runs_still such machine only happened none are origin state before chain at =
      record {
        happened = happened;
        are_such = are origin (leads (opened state) before) at;
        went = subst (λ (ts : List Turn). Went g origin machine.house.budget state before ts machine machine) (sym none)
            (went_none g origin machine.house.budget state before machine chain at (λ known. only));
      }

  -- one turn
  pub turn_happens : (origin : D) (state : State) (before : List Turn) (event : Event) (answer : Answer) (first new : Machine D)
      → TurnWent g origin first.house.budget state before event (λ told. told ≡ answer) first new
      → Happens g origin state before (λ core happened. happened ≡ does (event, answer) ∷ []) first new
  turn_happens origin state before event answer first new turn =
      record { happened = does (event, turn.answer) ∷ []; are_such = ap (λ (a : Answer). does (event, a) ∷ []) turn.is_such; went = turn.went }

  -- one turn that leaves the store
  pub runs_one : (machine new : Machine D) (event : Event) (answer : Answer)
      → ((image : Image) → g.images_since machine.store.disk (g.moment machine.store.disk) image → IsImage (g.choices machine.store.disk) image)
      → ((origin : D) (core : Core) → IsAt g origin machine core → May machine.house.budget core event answer)
      → ((origin : D) (core : Core) → IsAt g origin machine core → IsAt g origin new (next core event answer))
      → IsShown g machine new (fault_in answer) → new.store ≡ machine.store → Runs g (λ core happened. happened ≡ does (event, answer) ∷ []) machine new
  runs_one machine new event answer only may leads_on shown same origin state before chain at =
      turn_happens origin state before event answer machine new
      (rested g origin machine.house.budget state before event answer _ machine new chain at (λ keeps. only) (may origin _ at) (leads_on origin _ at) shown same refl)

  -- some, and then others
  pub runs_then : (one then_such such : Core → List Happening → Type 0) (first old new : Machine D)
      → Runs g one first old → old.house.budget ≡ first.house.budget → Runs g then_such old new
      → ((core : Core) (happened more : List Happening) → one core happened → then_such (leads core (happened_turns happened)) more → such core (happened ++ more))
      → Runs g such first new
  runs_then one then_such such first old new a same b joins origin state before chain at =
      let p = a origin state before chain at in
      let turns : List Turn = happened_turns p.happened in
      let chain' = went_chain g origin first.house.budget state before turns first old p.went in
      let at' = went_at g origin first.house.budget state before turns first old p.went in
      let q = b origin state (before ++ turns) (subst (λ (n : ℕ). IsChain n (opened state) (before ++ turns)) (sym same) chain') at' in
      record {
        happened = p.happened ++ q.happened;
        are_such = joins (leads (opened state) before) p.happened q.happened p.are_such (subst (λ (c : Core). then_such c q.happened) (leads_append (opened state) before turns) q.are_such);
        went = subst (λ (ts : List Turn). Went g origin first.house.budget state before ts first new) (sym (turns_append p.happened q.happened))
            (went_both g origin first.house.budget state before turns (happened_turns q.happened) first old new p.went
            (subst (λ (n : ℕ). Went g origin n state (before ++ turns) (happened_turns q.happened) old new) same q.went));
      }

  -- less is said of them
  pub runs_as : (one such : Core → List Happening → Type 0) (first new : Machine D) → Runs g one first new
      → ((core : Core) (happened : List Happening) → one core happened → such core happened) → Runs g such first new
  runs_as one such first new a goes origin state before chain at =
      let p = a origin state before chain at in
      record { happened = p.happened; are_such = goes (leads (opened state) before) p.happened p.are_such; went = p.went }

  -- less is said of them, where it may be said what the register was
  pub runs_from : (one such : Core → List Happening → Type 0) (first new : Machine D) → Runs g one first new
      → ((core : Core) (happened : List Happening) → first.house.state ≡ present core → one core happened → such core happened) → Runs g such first new
  runs_from one such first new a goes origin state before chain at =
      let p = a origin state before chain at in
      record { happened = p.happened; are_such = goes (leads (opened state) before) p.happened at.house_is p.are_such; went = p.went }
