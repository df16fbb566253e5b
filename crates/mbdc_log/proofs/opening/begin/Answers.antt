use Rattle.std.proofs.Common.{◌≡◌, ⊎_elim, ℕ, zero, suc, ◌+◌, ap, sym, subst, arith}
use Rattle.std.proofs.lemmas.Grind.{common_steps}
use Rattle.dc_sectors.specs.Runs.{LeavesOnly, IsSettled}
use Rattle.dc_sectors.proofs.Moments.{followed}
use Rattle.dc_roots.specs.declared.root.Root.{Root}
use Rattle.mbdc_log.specs.Halves.{SparesRest}
use Rattle.mbdc_log.specs.Stands.{IsReady, Stands, StandsBy, StandsForEither}
use Rattle.mbdc_log.proofs.Spared.{spared_through, spared_slot}
use Rattle.mbdc_log.proofs.opening.begin.Given.{Over}
use Rattle.mbdc_log.proofs.opening.begin.Goals.{After-compact_into_other_half}
use Rattle.mbdc_log.proofs.opening.begin.Goals as goal

-- THE SESSION HAS BEGUN, after m groups, and the state is compacted with the next sequence.
record HasBegun (g : Over) (c : After-compact_into_other_half g) (m : ℕ) : Type 0 where
  at : c.args.found.now.last + 1 ≡ c.in_ok-begun.begun.base_sequence + suc m
  ready : IsReady g.K.Language c.args.half_len c.in_ok-begun.begun m c.args.found.now.place (g.K.Language.state c.args.found.now.house) (g.D.Disk.reads c.begin_session.new.disk)

has_begun : (g : Over) (c : After-compact_into_other_half g) → IsSettled g.D.Disk c.args.disk.now → (m : ℕ)
    → StandsBy g.K.Language c.args.half_len c.args.found.now.root m c.args.found.now.place (g.K.Language.state c.args.found.now.house) (g.D.Disk.reads c.args.disk.now)
    → c.args.found.now.last ≡ c.args.found.now.root.base_sequence + m → HasBegun g c m
has_begun g c is_settled m stands last_is =
    let found = c.args.found.now in
    let next = c.in_ok-begun.ensures.next in
    let base : c.in_ok-begun.begun.base_sequence ≡ found.root.base_sequence = ap (λ (r : Root). r.base_sequence) next in
    record {
      at = omega (arith, last_is, base);
      ready = subst (λ (r : Root). IsReady g.K.Language c.args.half_len r m found.place (g.K.Language.state found.house) (g.D.Disk.reads c.begin_session.new.disk)) (sym next)
          (c.in_ok-begun.ensures.ready c.args.half_len m found.place (g.K.Language.state found.house) is_settled stands);
    }

-- whatever the compaction answers
leaves : (g : Over) (c : After-compact_into_other_half g) → IsSettled g.D.Disk c.args.disk.now → (m : ℕ)
    → StandsBy g.K.Language c.args.half_len c.args.found.now.root m c.args.found.now.place (g.K.Language.state c.args.found.now.house) (g.D.Disk.reads c.args.disk.now)
    → c.args.found.now.last ≡ c.args.found.now.root.base_sequence + m
    → LeavesOnly g.D.Disk c.args.disk.now c.compact_into_other_half.new.disk (Stands g.K.Language c.args.half_len (g.K.Language.state c.args.found.now.house))
leaves g c is_settled m stands last_is =
    let found = c.args.found.now in
    let H = c.args.half_len in
    let begun = has_begun g c is_settled m stands last_is in
    followed g.D.Disk c.args.disk.now c.begin_session.new.disk c.compact_into_other_half.new.disk (Stands g.K.Language H (g.K.Language.state found.house)) (StandsForEither g.K.Language H (g.K.Language.state found.house) (g.K.Language.state found.house)) (Stands g.K.Language H (g.K.Language.state found.house))
    (c.begin_session.ensures.any_moment H m found.place (g.K.Language.state found.house) is_settled stands)
    (c.compact_into_other_half.ensures.any_moment (c.in_ok-begun.ensures.durable) m found.place (g.K.Language.state found.house) begun.ready begun.at)
    (λ image is. is) (λ image either. ⊎_elim (λ is. is) (λ is. is) either)

pub returns-in-Ok-clause-ready : goal.returns-in-Ok-clause-ready
returns-in-Ok-clause-ready g c is_settled m stands last_is =
    let found = c.args.found.now in
    let begun = has_begun g (goal.at.returns-in-Ok-clause-ready g c).After-compact_into_other_half is_settled m stands last_is in
    let named : c.in-Ok.root.base_sequence ≡ found.last + 1 = ap (λ (r : Root). r.base_sequence) c.in-Ok.ensures.root in
    record {
      m = zero;
      ready = c.in-Ok.ensures.ready (c.in_ok-begun.ensures.durable) m found.place (g.K.Language.state found.house) begun.ready begun.at;
      last_is = omega (arith, named);
    }

pub returns-in-Ok-clause-any_moment : goal.returns-in-Ok-clause-any_moment
returns-in-Ok-clause-any_moment g c is_settled m stands last_is = leaves g (goal.at.returns-in-Ok-clause-any_moment g c).After-compact_into_other_half is_settled m stands last_is

pub returns-in-Err-clause-any_moment : goal.returns-in-Err-clause-any_moment
returns-in-Err-clause-any_moment g c is_settled m stands last_is = leaves g (goal.at.returns-in-Err-clause-any_moment g c).After-compact_into_other_half is_settled m stands last_is

-- the sectors outside stay, whatever the compaction answers
spares : (g : Over) (c : After-compact_into_other_half g) → SparesRest c.args.half_len (g.D.Disk.reads c.args.disk.now) (g.D.Disk.reads c.compact_into_other_half.new.disk)
spares g c =
    spared_through c.args.half_len (g.D.Disk.reads c.args.disk.now) (g.D.Disk.reads c.begin_session.new.disk) (g.D.Disk.reads c.compact_into_other_half.new.disk)
    (spared_slot c.args.half_len _ (g.D.Disk.reads c.args.disk.now) (g.D.Disk.reads c.begin_session.new.disk) c.begin_session.ensures.elsewhere) c.compact_into_other_half.ensures.elsewhere

pub returns-in_err-begun-clause-elsewhere : goal.returns-in_err-begun-clause-elsewhere
returns-in_err-begun-clause-elsewhere g c = spared_slot c.args.half_len _ (g.D.Disk.reads c.args.disk.now) (g.D.Disk.reads c.begin_session.new.disk) c.begin_session.ensures.elsewhere

pub returns-then-begun-eq-VERSION-clause-elsewhere : goal.returns-then-begun-eq-VERSION-clause-elsewhere
returns-then-begun-eq-VERSION-clause-elsewhere g c = spared_slot c.args.half_len _ (g.D.Disk.reads c.args.disk.now) (g.D.Disk.reads c.begin_session.new.disk) c.begin_session.ensures.elsewhere

pub returns-in-Ok-clause-elsewhere : goal.returns-in-Ok-clause-elsewhere
returns-in-Ok-clause-elsewhere g c = spares g (goal.at.returns-in-Ok-clause-elsewhere g c).After-compact_into_other_half

pub returns-in-Err-clause-elsewhere : goal.returns-in-Err-clause-elsewhere
returns-in-Err-clause-elsewhere g c = spares g (goal.at.returns-in-Err-clause-elsewhere g c).After-compact_into_other_half

pub returns-then-begun-eq-VERSION-clause-from : goal.returns-then-begun-eq-VERSION-clause-from
returns-then-begun-eq-VERSION-clause-from g c = grind (arith, common_steps)

pub returns-then-begun-eq-VERSION-clause-within : goal.returns-then-begun-eq-VERSION-clause-within
returns-then-begun-eq-VERSION-clause-within g c = grind (arith, common_steps)

pub returns-then-begun-eq-VERSION-clause-counts : goal.returns-then-begun-eq-VERSION-clause-counts
returns-then-begun-eq-VERSION-clause-counts g c = grind (arith, common_steps)

pub returns-in-Ok-clause-from : goal.returns-in-Ok-clause-from
returns-in-Ok-clause-from g c = grind (arith, common_steps)

pub returns-in-Ok-clause-counts : goal.returns-in-Ok-clause-counts
returns-in-Ok-clause-counts g c = grind (arith, common_steps)

pub returns-in-Err-clause-counts : goal.returns-in-Err-clause-counts
returns-in-Err-clause-counts g c = grind (arith, common_steps)
