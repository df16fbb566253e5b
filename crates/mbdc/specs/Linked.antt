-- What is done on the bus of a link: `scan`, `read` and `address` (this product).
use Rattle.std.specs.Prelude.{ℕ}
use Rattle.mbdc_bus.specs.declared.bus.Bus.{Ghosts as BusGhosts}
use Rattle.mbdc_commands.specs.declared.words.link.LinkName.{LinkName}
use Rattle.mbdc_commands.specs.declared.words.task.BusTask.{BusTask}
use Rattle.mbdc_ending.specs.declared.ending.Ending.{Ending}
use Rattle.mbdc_installer.specs.Command.{RunsOver}

-- THE WORK IS DONE on the bus of this link, newly made, with the time-out that the words give.
pub record WorksOn {Peer B : Type 0} (bus : BusGhosts B) (joined : Peer → ℕ → B → Type 0) (peer : Peer)
    (task : BusTask) (ending : Ending) : Type 0 where
  pub line : B
  pub is_joined : joined peer task.patience line
  pub runs : RunsOver bus task.work line ending

-- THE WORK IS DONE ON A BUS: that of the link which the words name, which was connected.
pub record OnBus {Peer B : Type 0} (bus : BusGhosts B) (linked : LinkName → Peer → Type 0)
    (joined : Peer → ℕ → B → Type 0) (task : BusTask) (ending : Ending) : Type 0 where
  pub peer : Peer
  pub is_linked : linked task.link peer
  pub works : WorksOn bus joined peer task ending
