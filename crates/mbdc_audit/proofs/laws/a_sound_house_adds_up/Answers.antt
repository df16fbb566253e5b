use Rattle.std.proofs.Common.{inl, inr, refl}
use Rattle.mbdc_audit.specs.File.{empty}
use Rattle.mbdc_audit.proofs.InOrder.{sound_sum}
use Rattle.mbdc_audit.proofs.OneHouse.{one_house}
use Rattle.mbdc_audit.proofs.Sums.{of_place}
use Rattle.mbdc_audit.proofs.laws.a_sound_house_adds_up.Goals as goal

pub returns-clause-once : goal.returns-clause-once
returns-clause-once c = λ h sound i j d i_lt j_lt used identity. elim (sound.one_place i j d i_lt j_lt identity) [
  | inl apart ↦ apart
  | inr two ↦ absurd (two.0 used)
]

pub returns-clause-place : goal.returns-clause-place
returns-clause-place c = of_place

pub returns-clause-window : goal.returns-clause-window
returns-clause-window c = sound_sum

pub returns-clause-one_house : goal.returns-clause-one_house
returns-clause-one_house c = λ lines h g one other. (one_house 0 empty empty lines 12 12 h g refl one other).1
