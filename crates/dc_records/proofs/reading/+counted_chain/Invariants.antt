use Rattle.dc_records.proofs.reading.+counted_chain.Given as goal

abbrev pub decreases-counted_chain : goal.decreases-counted_chain
decreases-counted_chain l = l.room
