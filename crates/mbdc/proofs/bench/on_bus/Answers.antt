use Rattle.std.proofs.Common.{◌≡◌, ◌∙◌, ◌⊎◌, ℕ, inl, inr, arith, subst, sym}
use Rattle.mbdc_bus.specs.declared.bus.Bus.{Ghosts as BusGhosts}
use Rattle.mbdc_commands.specs.declared.words.link.LinkName.{LinkName}
use Rattle.mbdc_commands.specs.declared.words.task.BusTask.{BusTask}
use Rattle.mbdc_ending.specs.declared.ending.Ending.{Ending}
use Rattle.mbdc.specs.Commands.{Refuses}
use Rattle.mbdc.specs.Linked.{OnBus, WorksOn}
use Rattle.mbdc.proofs.bench.on_bus.Goals as goal
use Rattle.mbdc.proofs.bench.on_bus.Goals.{in_default-Ok, in-Some, in-None, in_default-Err}

-- what is done on the bus of a link that was connected is how the command ends
ends : {Peer B : Type 0} {bus : BusGhosts B} {linked : LinkName → Peer → Type 0} {joined : Peer → ℕ → B → Type 0} {task : BusTask} (worked ending : Ending) (given peer : Peer)
    → ending ≡ worked → given ≡ peer → linked task.link peer → Refuses worked ⊎ WorksOn bus joined given task worked → Refuses ending ⊎ OnBus bus linked joined task ending
ends worked ending given peer is same its (inl stops) = inl (subst Refuses (sym is) stops)
ends {bus} {linked} {joined} {task} worked ending given peer is same its (inr works) =
    inr (subst (OnBus bus linked joined task) (sym is) (record { peer = given; is_linked = subst (linked task.link) (sym same) its; works = works }))

pub returns : goal.returns
returns g c = elim c.match-tracers_of.branch [
  | in_default-Ok w ↦ elim w.match-pop.branch [
    | in-Some v ↦ ends _ _ c.as_slice-links.result.now c.in-Ok-connected.peers.items (w.ending-is ∙ v.ending-is) c.as_slice-links.ensures.value c.in-Ok-connected.ensures.linked v.over_bus.ensures
    | in-None v ↦ inl (subst Refuses (sym (w.ending-is ∙ v.ending-is)) (omega (arith)))
  ]
  | in_default-Err w ↦ inl (subst Refuses (sym w.ending-is) w.in_default-Err.ensures)
]
