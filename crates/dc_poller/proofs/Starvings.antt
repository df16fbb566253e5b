-- Lines of a script up to a search that found no memory.
use Rattle.std.proofs.Common.{◌≡◌, ℕ, List, [], ◌∷◌, ◌++◌, sym, subst}
use Rattle.dc_sectors.specs.declared.device.Disk.{Ghosts}
use Rattle.mbdc_change.specs.State.{State}
use Rattle.dc_core.specs.Core.{opened}
use Rattle.dc_core.specs.Images.{Machine, IsAt}
use Rattle.dc_core.specs.Transcript.{Turn, leads, IsChain}
use Rattle.dc_poller.specs.Run.{run_of}
use Rattle.dc_poller.specs.Link.{Link}
use Rattle.mbdc_bus.specs.Bus.{Exchange}
use Rattle.dc_poller.specs.Script.{deeds_exchanges, deeds_turns, deeds_text}
use Rattle.dc_poller.specs.ScriptLine.{LineSeen, IsLineOf}
use Rattle.dc_poller.specs.Starved.{LineStarved, ScriptStarved, StarvesAt}
use Rattle.dc_poller.proofs.LineRuns.{SoFar}
use Rattle.dc_core.proofs.Wents.{went_both}

module _ {D : Type 0} (g : Ghosts D) (origin : D) where
  -- the next line is that search
  pub starved_here : (budget : ℕ) (link now : Link) (input : List (List ℕ)) (line : List ℕ) (rest : List (List ℕ)) (asked : LineSeen) (moment count : ℕ) (wrote piece all : List ℕ → Type 0) (carries both : List Exchange → Type 0) (talked : List Exchange → Type 0) (first old new : Machine D)
      → (so_far : SoFar g origin budget link now input (line ∷ rest) moment count wrote carries first old) → IsLineOf line asked → old.house.budget ≡ budget
      → ((text more : List ℕ) → wrote text → piece more → all (text ++ more))
      → ((before more : List Exchange) → carries before → talked more → both (before ++ more))
      → (state : State) (before : List Turn) (chain : IsChain budget (opened state) before) (is_at : IsAt g origin first (leads (opened state) before))
      → LineStarved g (run_of origin old.house.budget state (before ++ deeds_turns (so_far.ran state before chain is_at).lines.deeds) old new) asked now piece talked
      → ScriptStarved g (run_of origin budget state before first new) link input all both
  starved_here budget link now input line rest asked moment count wrote piece all carries both talked first old new so_far is same joins adds state before chain is_at one =
      let ran = so_far.ran state before chain is_at in
      let turns = deeds_turns ran.lines.deeds in
      let starved = subst (λ (b : ℕ). LineStarved g (run_of origin b state (before ++ turns) old new) asked now piece talked) same one in
      record {
        asked = so_far.done;
        rest = line ∷ rest;
        are_read = so_far.are_read;
        deeds = ran.lines.deeds;
        done = ran.lines.done;
        starving = asked;
        last = starved.last;
        starves = subst (λ (l : Link). StarvesAt l (line ∷ rest) asked starved.last) (sym ran.link_is) (is, starved.starves);
        went = went_both g origin budget state before turns starved.last.turns first old new ran.lines.went starved.went;
        text = joins (deeds_text ran.lines.deeds) starved.last.text ran.lines.text starved.text;
        carried = adds (deeds_exchanges ran.lines.deeds) starved.last.exchanges ran.lines.carried starved.over;
      }
