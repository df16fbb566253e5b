use Rattle.mbdc.proofs.poll.poll_filtered.Given as goal

-- what the buses are is in no clause
abbrev pub invariant-loop-bus : goal.invariant-loop-bus
invariant-loop-bus g l = Unit {0}
