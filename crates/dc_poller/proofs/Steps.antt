-- The lines of an input, answered one after the other.
use Rattle.std.proofs.Common.{ℕ, List, [], ◌∷◌, Bool, false, refl, sym, append_assoc, append-nil}
use Rattle.std.specs.Prelude.{◌||◌}
use Rattle.mbdc_change.specs.State.{Held}
use Rattle.dc_poller.specs.Fold.{IsStep, AreSteps, line_answer, answers, after_line}

pub no_steps : (house : Held) (text : List ℕ) → AreSteps [] false house house text text
no_steps house text = record { reads = []; lines_are = tt; found_is = refl; house_is = refl; text_is = sym (append-nil text) }

-- a step, and then steps
pub step_and_steps : (line : List ℕ) (lines : List (List ℕ)) (unread found : Bool) (old mid new : Held) (before between text : List ℕ)
    → IsStep line unread old mid before between → AreSteps lines found mid new between text → AreSteps (line ∷ lines) (unread || found) old new before text
step_and_steps line lines unread found old mid new before between text step steps = record {
  reads = step.read ∷ steps.reads;
  lines_are = (step.read_is, steps.lines_are);
  found_is = rw (step.unread_is, steps.found_is) refl;
  house_is = rw (steps.house_is, step.house_is) refl;
  text_is = rw (steps.text_is, step.text_is, step.house_is) (append_assoc before (line_answer old.budget step.read old.state) (answers old.budget steps.reads (after_line old.budget step.read old.state)));
}
