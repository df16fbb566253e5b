-- How many of the accepted changes are promised to survive every crash, and the theorem that they do (this product).
use Rattle.std.specs.Prelude.{◌≡◌, ℕ, ◌+◌, ◌-◌, ◌≤◌, max, Some, Ok, List, [], ◌∷◌, ◌++◌, length}
use Rattle.std.specs.Prelude.{take, replicate, get_or}
use Rattle.std.proofs.Math.ListN.{set}
use Rattle.mbdc_change.specs.State.{State}
use Rattle.mbdc_change.specs.History.{after}
use Rattle.dc_core.specs.Lines.{line_count}
use Rattle.dc_core.specs.declared.line_heard.LineHeard.{LineHeard}
use Rattle.dc_core.specs.declared.line_heard.LineHeard.TheVariants.{Again, Ready, Accepted, Failed}
use Rattle.dc_core.specs.Core.{Core, opened}
use Rattle.dc_core.specs.Event.{Event, Answer, asks, hears, commits, offices, asked, heard}
use Rattle.dc_core.specs.Event.{committed, replied}
use Rattle.dc_core.specs.Event.{Reply, unread, unstored, repeated, refused, shown, out_of_memory}
use Rattle.dc_core.specs.Event.{obeyed, uncommitted}
use Rattle.dc_core.specs.Transcript.{Turn, leads, IsChain, accepted_in}

-- What the outside has seen, by events and answers alone: how many changes were accepted, how many of them are
-- promised, and for each line the number of the latest telegram that was accepted there (0: none yet).
pub record Seen : Type 0 where
  pub accepted : ℕ
  pub promised : ℕ
  pub latest : List ℕ

abbrev pub nothing_seen : Seen
nothing_seen = record { accepted = 0; promised = 0; latest = replicate line_count 0 }

abbrev pub latest_on : ℕ → Seen → ℕ
latest_on line seen = get_or seen.latest (line - 1) 0

abbrev pub and_accepted : ℕ → LineHeard → Seen → Seen
and_accepted line (Accepted part more) seen =
    record seen {
      accepted = seen.accepted + 1;
      latest = set seen.latest (line - 1) (seen.accepted + 1);
    }
and_accepted line Again seen = seen
and_accepted line Ready seen = seen
and_accepted line (Failed why) seen = seen

-- A line of the office that is answered promises all that was accepted, a command that it did among it. After STORE
-- nothing more is promised, whether or not a command was applied; nor after SYNTAX.
abbrev pub and_replied : Reply → Seen → Seen
and_replied unread seen = seen
and_replied (unstored fault) seen = seen
and_replied (repeated number) seen = record seen { promised = seen.accepted }
and_replied (refused code) seen = record seen { promised = seen.accepted }
and_replied (shown text) seen = record seen { promised = seen.accepted }
and_replied out_of_memory seen = record seen { promised = seen.accepted }
and_replied (obeyed number change) seen =
    record seen { accepted = seen.accepted + 1; promised = seen.accepted + 1 }
and_replied (uncommitted change fault) seen = record seen { accepted = seen.accepted + 1 }

-- A request on a line promises the telegram that was accepted there last, and so every change before it. A commit that
-- answers a number promises all that was accepted, and so does an answer to the office.
abbrev pub and_seen : Event → Answer → Seen → Seen
and_seen (hears line moment bytes) (heard (Ok answer)) seen = and_accepted line answer seen
and_seen (asks line) (asked (Some request)) seen =
    record seen { promised = max seen.promised (latest_on line seen) }
and_seen commits (committed (Ok count)) seen = record seen { promised = seen.accepted }
and_seen (offices text) (replied reply) seen = and_replied reply seen
and_seen event answer seen = seen

abbrev pub seen_from : Seen → List Turn → Seen
seen_from seen [] = seen
seen_from seen (turn ∷ turns) = seen_from (and_seen turn.0 turn.1 seen) turns

-- the number of the first accepted changes that are promised
abbrev pub promised_in : List Turn → ℕ
promised_in turns = (seen_from nothing_seen turns).promised

-- Of the changes that were accepted, what is committed is the state after a prefix that has all that is promised, and
-- the rest is pending.
pub record HoldsFront (state : State) (turns : List Turn) (core : Core) : Type 0 where
  pub count : ℕ
  pub within : count ≤ length (accepted_in (opened state) turns)
  pub promised : promised_in turns ≤ count
  pub committed : core.committed ≡ after state (take count (accepted_in (opened state) turns))
  pub pending : accepted_in (opened state) turns ≡ take count (accepted_in (opened state) turns)
      ++ core.pending

-- WHAT IS PROMISED IS COMMITTED, in every chain of steps from a newly opened concentrator.
abbrev pub PromisedIsCommitted : Type 0
PromisedIsCommitted = (budget : ℕ) (state : State) (turns : List Turn)
    → IsChain budget (opened state) turns → HoldsFront state turns (leads (opened state) turns)
