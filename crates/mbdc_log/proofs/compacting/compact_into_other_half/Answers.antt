use Rattle.std.proofs.Common.{◌≡◌, ◌+◌, ℕ, zero, arith, ap, refl, subst, sym, ◌∙◌}
use Rattle.std.proofs.lemmas.Grind.{common_steps}
use Rattle.dc_sectors.specs.Disk.{Image, settled}
use Rattle.dc_sectors.specs.Runs.{LeavesOnly, IsSettled}
use Rattle.dc_pages.specs.declared.site.Site.{Site}
use Rattle.dc_roots.specs.declared.root.Root.{Root}
use Rattle.mbdc_log.specs.Halves.{budget_of, SparesRest}
use Rattle.mbdc_log.specs.Roots.{compacted}
use Rattle.mbdc_log.specs.Sites.{base_site}
use Rattle.mbdc_log.specs.Stands.{IsReady, StandsForEither}
use Rattle.mbdc_log.specs.Writing.{IsAttempt, IsWritten}
use Rattle.mbdc_log.proofs.Compacted.{IsCompactable, compacting_done, base_written, base_synced, root_put}
use Rattle.mbdc_log.proofs.Spared.{spared_same, spared_through, spared_slot, spared_site}
use Rattle.mbdc_log.proofs.compacting.compact_into_other_half.Given.{Over}
use Rattle.mbdc_log.proofs.compacting.compact_into_other_half.Goals.{After-write_state, After-put_root}
use Rattle.mbdc_log.proofs.compacting.compact_into_other_half.Goals as goal

pub write_state-requires-clause-some : goal.write_state-requires-clause-some
write_state-requires-clause-some g c = g.K.Language.some _ _ _ c.size-size.ensures.is_state

pub write_state-requires-clause-room : goal.write_state-requires-clause-room
write_state-requires-clause-room g c =
    let fits = g.K.Language.fits _ _ _ c.size-size.ensures.is_state in
    let first = ap (λ (s : Site). s.first) c.base_site-site.ensures.exact in
    let limit = ap (λ (s : Site). s.limit) c.base_site-site.ensures.exact in
    let budget = c.requires.budget in
    omega (arith, fits, first, limit, budget, c.requires.some)

-- while the base group is written
basing : (g : Over) (c : After-write_state g) → IsSettled g.D.Disk c.args.disk.now
    → LeavesOnly g.D.Disk c.args.disk.now c.write_state.new.disk
    (IsAttempt (base_site c.args.half_len (compacted c.args.root.now c.args.sequence)) c.args.root.now.session (g.K.Language.bytes_of (g.K.Language.state c.args.kept.now)) (g.D.Disk.reads c.args.disk.now))
basing g c is_settled =
    subst (λ (s : Site). LeavesOnly g.D.Disk c.args.disk.now c.write_state.new.disk (IsAttempt s c.args.root.now.session (g.K.Language.bytes_of (g.K.Language.state c.args.kept.now)) (g.D.Disk.reads c.args.disk.now)))
    c.base_site-site.ensures.exact (c.write_state.ensures.any_moment is_settled)

pub returns-in_err-count-clause-any_moment : goal.returns-in_err-count-clause-any_moment
returns-in_err-count-clause-any_moment g c is_settled m place was ready at =
    base_written g.K.Language g.D.Disk (g.met.D.Disk.counts_now) c.args.disk.now c.write_state.new.disk
    (record { ready = ready; small = c.requires.half; at_sequence = at }) (g.K.Language.state c.args.kept.now) (basing g (goal.at.returns-in_err-count-clause-any_moment g c).After-write_state is_settled)

pub returns-in_err-sync-clause-any_moment : goal.returns-in_err-sync-clause-any_moment
returns-in_err-sync-clause-any_moment g c is_settled m place was ready at =
    base_synced g.K.Language g.D.Disk (g.met.D.Disk.counts_now) c.args.disk.now c.write_state.new.disk
    (record { ready = ready; small = c.requires.half; at_sequence = at }) (g.K.Language.state c.args.kept.now) (basing g (goal.at.returns-in_err-sync-clause-any_moment g c).After-write_state is_settled)
    c.sync.new.self (c.sync.ensures.time)

-- WHEN THE ROOT IS PUT: the disk is settled, and has the base group of the whole state.
record HasBase (g : Over) (c : After-put_root g) : Type 0 where
  still : IsSettled g.D.Disk c.sync.new.self
  done : IsWritten (base_site c.args.half_len (compacted c.args.root.now c.args.sequence)) c.args.root.now.session (g.K.Language.bytes_of (g.K.Language.state c.args.kept.now)) c.in_ok-count.count (g.D.Disk.reads c.args.disk.now) (g.D.Disk.reads c.sync.new.self)
  spells : g.K.Language.SpellsState (budget_of c.args.half_len) (g.K.Language.bytes_of (g.K.Language.state c.args.kept.now)) (g.K.Language.state c.args.kept.now)

has_base : (g : Over) (c : After-put_root g) → IsSettled g.D.Disk c.args.disk.now → HasBase g c
has_base g c is_settled =
    let H = c.args.half_len in
    let kept = c.args.kept.now in
    let same : g.D.Disk.reads c.sync.new.self ≡ g.D.Disk.reads c.write_state.new.disk = c.sync.ensures.reads in
    record {
      still = c.in_ok-sync.ensures.choices ∙ ap settled (sym same);
      done = subst (λ (s : Site). IsWritten s c.args.root.now.session (g.K.Language.bytes_of (g.K.Language.state kept)) c.in_ok-count.count (g.D.Disk.reads c.args.disk.now) (g.D.Disk.reads c.sync.new.self)) c.base_site-site.ensures.exact
          (subst (λ (i : Image). IsWritten c.base_site-site.result c.args.root.now.session (g.K.Language.bytes_of (g.K.Language.state kept)) c.in_ok-count.count (g.D.Disk.reads c.args.disk.now) i) (sym same) (c.in_ok-count.ensures.written is_settled));
      spells = g.K.Language.wider (g.K.Language.limit kept) (budget_of H) _ _ c.requires.budget c.size-size.ensures.is_state;
    }

-- until it is in force, or can't be put
put : (g : Over) (c : After-put_root g) → IsSettled g.D.Disk c.args.disk.now → {m place : ℕ} {was : g.K.Language.State}
    → IsCompactable g.K.Language c.args.half_len c.args.root.now m place c.args.sequence was (g.D.Disk.reads c.args.disk.now)
    → LeavesOnly g.D.Disk c.args.disk.now c.write_state.new.disk
    (IsAttempt (base_site c.args.half_len (compacted c.args.root.now c.args.sequence)) c.args.root.now.session (g.K.Language.bytes_of (g.K.Language.state c.args.kept.now)) (g.D.Disk.reads c.args.disk.now))
    → LeavesOnly g.D.Disk c.args.disk.now c.put_root.new.disk (StandsForEither g.K.Language c.args.half_len was (g.K.Language.state c.args.kept.now))
put g c is_settled may written =
    let based = has_base g c is_settled in
    root_put g.K.Language g.D.Disk (g.met.D.Disk.counts_now) c.args.disk.now c.write_state.new.disk
    may (g.K.Language.state c.args.kept.now) written
    c.sync.new.self (c.sync.ensures.time) c.put_root.new.disk c.in_ok-count.count based.done based.spells (c.put_root.ensures.any_moment based.still)

pub returns-in-Ok-clause-any_moment : goal.returns-in-Ok-clause-any_moment
returns-in-Ok-clause-any_moment g c is_settled m place was ready at =
    let from = goal.at.returns-in-Ok-clause-any_moment g c in
    put g from.After-put_root is_settled (record { ready = ready; small = c.requires.half; at_sequence = at }) (basing g from.After-write_state is_settled)

pub returns-in-Err-clause-any_moment : goal.returns-in-Err-clause-any_moment
returns-in-Err-clause-any_moment g c is_settled m place was ready at =
    let from = goal.at.returns-in-Err-clause-any_moment g c in
    put g from.After-put_root is_settled (record { ready = ready; small = c.requires.half; at_sequence = at }) (basing g from.After-write_state is_settled)

pub returns-in-Ok-clause-ready : goal.returns-in-Ok-clause-ready
returns-in-Ok-clause-ready g c is_settled m place was ready at =
    let based = has_base g (goal.at.returns-in-Ok-clause-ready g c).After-put_root is_settled in
    let image = g.D.Disk.reads c.put_root.new.disk in
    let next = compacted c.args.root.now c.args.sequence in
    let site = base_site c.args.half_len next in
    subst (λ (r : Root). IsReady g.K.Language c.args.half_len r zero (c.base_site-site.result.first + c.in_ok-count.count) (g.K.Language.state c.args.kept.now) image) (sym c.in-Ok.ensures.next)
    (subst (λ (s : Site). IsReady g.K.Language c.args.half_len next zero (s.first + c.in_ok-count.count) (g.K.Language.state c.args.kept.now) image) (sym c.base_site-site.ensures.exact)
    (compacting_done g.K.Language (record { ready = ready; small = c.requires.half; at_sequence = at })
    (g.K.Language.state c.args.kept.now) c.in_ok-count.count (g.D.Disk.reads c.sync.new.self) based.done based.spells image (c.in-Ok.ensures.done based.still)))

-- the sectors outside stay, call by call

state_spares : (g : Over) (c : After-write_state g) → SparesRest c.args.half_len (g.D.Disk.reads c.args.disk.now) (g.D.Disk.reads c.write_state.new.disk)
state_spares g c =
    spared_site c.args.half_len c.base_site-site.result (g.D.Disk.reads c.args.disk.now) (g.D.Disk.reads c.write_state.new.disk)
    (omega (arith, ap (λ (s : Site). s.first) c.base_site-site.ensures.exact)) c.base_site-site.ensures.within c.write_state.ensures.elsewhere

root_spares : (g : Over) (c : After-put_root g) → SparesRest c.args.half_len (g.D.Disk.reads c.args.disk.now) (g.D.Disk.reads c.write_state.new.disk)
    → SparesRest c.args.half_len (g.D.Disk.reads c.args.disk.now) (g.D.Disk.reads c.put_root.new.disk)
root_spares g c so_far =
    spared_through c.args.half_len (g.D.Disk.reads c.args.disk.now) (g.D.Disk.reads c.sync.new.self) (g.D.Disk.reads c.put_root.new.disk)
    (spared_through c.args.half_len (g.D.Disk.reads c.args.disk.now) (g.D.Disk.reads c.write_state.new.disk) (g.D.Disk.reads c.sync.new.self) so_far
    (spared_same c.args.half_len (g.D.Disk.reads c.write_state.new.disk) (g.D.Disk.reads c.sync.new.self) c.sync.ensures.reads))
    (spared_slot c.args.half_len _ (g.D.Disk.reads c.sync.new.self) (g.D.Disk.reads c.put_root.new.disk) c.put_root.ensures.elsewhere)

pub returns-in_err-count-clause-elsewhere : goal.returns-in_err-count-clause-elsewhere
returns-in_err-count-clause-elsewhere g c = state_spares g (goal.at.returns-in_err-count-clause-elsewhere g c).After-write_state

pub returns-in_err-sync-clause-elsewhere : goal.returns-in_err-sync-clause-elsewhere
returns-in_err-sync-clause-elsewhere g c =
    spared_through c.args.half_len (g.D.Disk.reads c.args.disk.now) (g.D.Disk.reads c.write_state.new.disk) (g.D.Disk.reads c.sync.new.self)
    (state_spares g (goal.at.returns-in_err-sync-clause-elsewhere g c).After-write_state)
    (spared_same c.args.half_len (g.D.Disk.reads c.write_state.new.disk) (g.D.Disk.reads c.sync.new.self) c.sync.ensures.reads)

pub returns-in-Ok-clause-elsewhere : goal.returns-in-Ok-clause-elsewhere
returns-in-Ok-clause-elsewhere g c =
    let at = goal.at.returns-in-Ok-clause-elsewhere g c in
    root_spares g at.After-put_root (state_spares g at.After-write_state)

pub returns-in-Err-clause-elsewhere : goal.returns-in-Err-clause-elsewhere
returns-in-Err-clause-elsewhere g c =
    let at = goal.at.returns-in-Err-clause-elsewhere g c in
    root_spares g at.After-put_root (state_spares g at.After-write_state)

pub returns-in_err-count-clause-ready : goal.returns-in_err-count-clause-ready
returns-in_err-count-clause-ready g c = grind (arith, common_steps)

pub returns-in_err-count-clause-counts : goal.returns-in_err-count-clause-counts
returns-in_err-count-clause-counts g c = grind (arith, common_steps)

pub returns-in_err-sync-clause-ready : goal.returns-in_err-sync-clause-ready
returns-in_err-sync-clause-ready g c = grind (arith, common_steps)

pub returns-in_err-sync-clause-counts : goal.returns-in_err-sync-clause-counts
returns-in_err-sync-clause-counts g c = grind (arith, common_steps)

pub overflow_add-result : goal.overflow_add-result
overflow_add-result g c = grind (arith, common_steps)

pub returns-in-Ok-clause-from : goal.returns-in-Ok-clause-from
returns-in-Ok-clause-from g c = grind (arith, common_steps)

pub returns-in-Ok-clause-within : goal.returns-in-Ok-clause-within
returns-in-Ok-clause-within g c = grind (arith, common_steps)

pub returns-in-Ok-clause-counts : goal.returns-in-Ok-clause-counts
returns-in-Ok-clause-counts g c = grind (arith, common_steps)

pub returns-in-Err-clause-counts : goal.returns-in-Err-clause-counts
returns-in-Err-clause-counts g c = grind (arith, common_steps)
