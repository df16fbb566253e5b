use Rattle.std.proofs.Common.{⊎_elim, ◌≤◌, ◌<◌, ◌+◌, ◌*◌, ℕ, List, zero, inl, inr, arith, ap, subst, sym, ◌∙◌}
use Rattle.std.proofs.lemmas.Grind.{common_steps}
use Rattle.dc_sectors.specs.Disk.{Image, settled}
use Rattle.dc_sectors.specs.Runs.{LeavesOnly, IsSettled}
use Rattle.dc_pages.specs.declared.site.Site.{Site}
use Rattle.mbdc_log.specs.Halves.{half_start, budget_of, SparesRest}
use Rattle.mbdc_log.specs.Roots.{first_root}
use Rattle.mbdc_log.specs.Sites.{base_site}
use Rattle.mbdc_log.specs.Stands.{IsUnformatted, IsBlankOrEmpty}
use Rattle.mbdc_log.specs.Writing.{IsWritten}
use Rattle.mbdc_log.proofs.ReadMoments.{synced_behind}
use Rattle.mbdc_log.proofs.Spared.{spared_same, spared_through, spared_slot, spared_site}
use Rattle.mbdc_log.proofs.Spellings.{empty_spelled}
use Rattle.mbdc_log.proofs.Wiped.{IsBlanked, IsBased, first_root_done, zeros_written, group_written, root_written}
use Rattle.mbdc_log.proofs.formatting.lay_out.Given.{Over}
use Rattle.mbdc_log.proofs.formatting.lay_out.Goals.{After-sync, After-write_group, After-put_root}
use Rattle.mbdc_log.proofs.formatting.lay_out.Goals as goal

-- the zeros and their sync, whatever that answers
zeros_synced : (g : Over) (c : After-sync g) → IsSettled g.D.Disk c.args.disk.now → IsUnformatted (g.D.Disk.reads c.args.disk.now)
    → LeavesOnly g.D.Disk c.args.disk.now c.sync.new.self (IsBlankOrEmpty g.K.Language c.args.half_len)
zeros_synced g c is_settled none =
    synced_behind g.D.Disk c.args.disk.now c.blank_sectors.new.disk c.sync.new.self _ (g.met.D.Disk.counts_now c.blank_sectors.new.disk)
    (zeros_written g.K.Language g.D.Disk c.args.half_len c.args.disk.now c.blank_sectors.new.disk none (c.blank_sectors.ensures.any_moment is_settled)) (c.sync.ensures.time)

blanked : (g : Over) (c : After-write_group g) → IsBlanked g.D.Disk c.args.half_len c.sync.new.self
blanked g c = record {
  still = c.in_ok-sync.ensures.choices ∙ ap settled (sym (c.sync.ensures.reads));
  blanks = λ k low up. ap (λ (i : Image). i k) (c.sync.ensures.reads) ∙ c.in_ok-blank_sectors.ensures.blank k low (omega (arith, c.half_end.ensures.exact));
}

-- and then the base group
grouped : (g : Over) (c : After-write_group g) → LeavesOnly g.D.Disk c.args.disk.now c.sync.new.self (IsBlankOrEmpty g.K.Language c.args.half_len)
    → LeavesOnly g.D.Disk c.args.disk.now c.write_group.new.disk (IsBlankOrEmpty g.K.Language c.args.half_len)
grouped g c so_far =
    let blank = blanked g c in
    group_written g.K.Language g.D.Disk c.args.half_len c.args.disk.now c.sync.new.self c.write_group.new.disk c.base_site.result c.empty_bytes.result.now
    blank (omega (arith, ap (λ (s : Site). s.first) c.base_site.ensures.exact)) so_far (c.write_group.ensures.any_moment blank.still)

based : (g : Over) (c : After-put_root g) → IsBlanked g.D.Disk c.args.half_len c.sync.new.self
    → IsBased g.K.Language g.D.Disk c.args.half_len c.in_ok-write_group.field-0 c.empty_bytes.result.now g.K.Language.empty c.sync.new.self c.sync-2.new.self
based g c blank =
    let H = c.args.half_len in
    let count = c.in_ok-write_group.field-0 in
    let zeros = g.D.Disk.reads c.sync.new.self in
    record {
      still = c.in_ok-sync-2.ensures.choices ∙ ap settled (sym (c.sync-2.ensures.reads));
      blanks = blank.blanks;
      written = subst (IsWritten (base_site H (first_root H)) 1 c.empty_bytes.result.now count zeros) (sym (c.sync-2.ensures.reads))
          (subst (λ (s : Site). IsWritten s 1 c.empty_bytes.result.now count zeros (g.D.Disk.reads c.write_group.new.disk)) c.base_site.ensures.exact (c.in_ok-write_group.ensures.written blank.still));
      spells = subst (λ (l : List ℕ). g.K.Language.SpellsState (budget_of H) l g.K.Language.empty) (sym c.empty_bytes.ensures) (empty_spelled g.K.Language (budget_of H) (omega (arith, c.requires.some)));
    }

-- and then its sync and the first root, whatever that answers
rooted : (g : Over) (c : After-put_root g) → IsBlanked g.D.Disk c.args.half_len c.sync.new.self
    → LeavesOnly g.D.Disk c.args.disk.now c.write_group.new.disk (IsBlankOrEmpty g.K.Language c.args.half_len)
    → LeavesOnly g.D.Disk c.args.disk.now c.put_root.new.disk (IsBlankOrEmpty g.K.Language c.args.half_len)
rooted g c blank so_far =
    let is = based g c blank in
    root_written g.K.Language g.D.Disk c.args.half_len c.args.disk.now c.in_ok-write_group.field-0 c.empty_bytes.result.now c.sync.new.self c.sync-2.new.self c.put_root.new.disk is
    (synced_behind g.D.Disk c.args.disk.now c.write_group.new.disk c.sync-2.new.self _ (g.met.D.Disk.counts_now c.write_group.new.disk) so_far (c.sync-2.ensures.time))
    (c.put_root.ensures.any_moment is.still)

pub returns-in_err-blank_sectors-clause-any_moment : goal.returns-in_err-blank_sectors-clause-any_moment
returns-in_err-blank_sectors-clause-any_moment g c is_settled none =
    zeros_written g.K.Language g.D.Disk c.args.half_len c.args.disk.now c.blank_sectors.new.disk none (c.blank_sectors.ensures.any_moment is_settled)

pub returns-in_err-sync-clause-any_moment : goal.returns-in_err-sync-clause-any_moment
returns-in_err-sync-clause-any_moment g c is_settled none = zeros_synced g (goal.at.returns-in_err-sync-clause-any_moment g c).After-sync is_settled none

pub returns-in_err-write_group-clause-any_moment : goal.returns-in_err-write_group-clause-any_moment
returns-in_err-write_group-clause-any_moment g c is_settled none =
    let at = goal.at.returns-in_err-write_group-clause-any_moment g c in
    grouped g at.After-write_group (zeros_synced g at.After-sync is_settled none)

pub returns-in_err-sync-2-clause-any_moment : goal.returns-in_err-sync-2-clause-any_moment
returns-in_err-sync-2-clause-any_moment g c is_settled none =
    let at = goal.at.returns-in_err-sync-2-clause-any_moment g c in
    synced_behind g.D.Disk c.args.disk.now c.write_group.new.disk c.sync-2.new.self _ (g.met.D.Disk.counts_now c.write_group.new.disk)
    (grouped g at.After-write_group (zeros_synced g at.After-sync is_settled none)) (c.sync-2.ensures.time)

pub returns-in-Ok-clause-any_moment : goal.returns-in-Ok-clause-any_moment
returns-in-Ok-clause-any_moment g c is_settled none =
    let at = goal.at.returns-in-Ok-clause-any_moment g c in
    rooted g at.After-put_root (blanked g at.After-write_group) (grouped g at.After-write_group (zeros_synced g at.After-sync is_settled none))

pub returns-in-Err-clause-any_moment : goal.returns-in-Err-clause-any_moment
returns-in-Err-clause-any_moment g c is_settled none =
    let at = goal.at.returns-in-Err-clause-any_moment g c in
    rooted g at.After-put_root (blanked g at.After-write_group) (grouped g at.After-write_group (zeros_synced g at.After-sync is_settled none))

pub returns-in-Ok-clause-ready : goal.returns-in-Ok-clause-ready
returns-in-Ok-clause-ready g c =
    let at = goal.at.returns-in-Ok-clause-ready g c in
    let is = based g at.After-put_root (blanked g at.After-write_group) in
    record {
      m = zero;
      place = half_start c.args.half_len 0 + c.in_ok-write_group.field-0;
      ready = first_root_done g.K.Language is (g.D.Disk.reads c.put_root.new.disk) (c.in-Ok.ensures.done is.still);
    }

-- the sectors outside stay, call by call

zeros_spare : (g : Over) (c : After-sync g) → SparesRest c.args.half_len (g.D.Disk.reads c.args.disk.now) (g.D.Disk.reads c.blank_sectors.new.disk)
zeros_spare g c m out = c.blank_sectors.ensures.elsewhere m (⊎_elim (λ first. inl first) (λ (after : 3 + 2 * c.args.half_len ≤ m). inr (omega (arith, c.half_end.ensures.exact))) out)

sync_spares : (g : Over) (c : After-sync g) → SparesRest c.args.half_len (g.D.Disk.reads c.args.disk.now) (g.D.Disk.reads c.sync.new.self)
sync_spares g c =
    spared_through c.args.half_len (g.D.Disk.reads c.args.disk.now) (g.D.Disk.reads c.blank_sectors.new.disk) (g.D.Disk.reads c.sync.new.self) (zeros_spare g c)
    (spared_same c.args.half_len (g.D.Disk.reads c.blank_sectors.new.disk) (g.D.Disk.reads c.sync.new.self) c.sync.ensures.reads)

group_spares : (g : Over) (c : After-write_group g) → SparesRest c.args.half_len (g.D.Disk.reads c.args.disk.now) (g.D.Disk.reads c.sync.new.self)
    → SparesRest c.args.half_len (g.D.Disk.reads c.args.disk.now) (g.D.Disk.reads c.write_group.new.disk)
group_spares g c so_far =
    spared_through c.args.half_len (g.D.Disk.reads c.args.disk.now) (g.D.Disk.reads c.sync.new.self) (g.D.Disk.reads c.write_group.new.disk) so_far
    (spared_site c.args.half_len c.base_site.result (g.D.Disk.reads c.sync.new.self) (g.D.Disk.reads c.write_group.new.disk)
    (omega (arith, ap (λ (s : Site). s.first) c.base_site.ensures.exact)) c.base_site.ensures.within c.write_group.ensures.elsewhere)

root_spares : (g : Over) (c : After-put_root g) → SparesRest c.args.half_len (g.D.Disk.reads c.args.disk.now) (g.D.Disk.reads c.write_group.new.disk)
    → SparesRest c.args.half_len (g.D.Disk.reads c.args.disk.now) (g.D.Disk.reads c.put_root.new.disk)
root_spares g c so_far =
    spared_through c.args.half_len (g.D.Disk.reads c.args.disk.now) (g.D.Disk.reads c.sync-2.new.self) (g.D.Disk.reads c.put_root.new.disk)
    (spared_through c.args.half_len (g.D.Disk.reads c.args.disk.now) (g.D.Disk.reads c.write_group.new.disk) (g.D.Disk.reads c.sync-2.new.self) so_far
    (spared_same c.args.half_len (g.D.Disk.reads c.write_group.new.disk) (g.D.Disk.reads c.sync-2.new.self) c.sync-2.ensures.reads))
    (spared_slot c.args.half_len 1 (g.D.Disk.reads c.sync-2.new.self) (g.D.Disk.reads c.put_root.new.disk) c.put_root.ensures.elsewhere)

pub returns-in_err-blank_sectors-clause-elsewhere : goal.returns-in_err-blank_sectors-clause-elsewhere
returns-in_err-blank_sectors-clause-elsewhere g c m out =
    c.blank_sectors.ensures.elsewhere m (⊎_elim (λ first. inl first) (λ (after : 3 + 2 * c.args.half_len ≤ m). inr (omega (arith, c.half_end.ensures.exact))) out)

pub returns-in_err-sync-clause-elsewhere : goal.returns-in_err-sync-clause-elsewhere
returns-in_err-sync-clause-elsewhere g c = sync_spares g (goal.at.returns-in_err-sync-clause-elsewhere g c).After-sync

pub returns-in_err-write_group-clause-elsewhere : goal.returns-in_err-write_group-clause-elsewhere
returns-in_err-write_group-clause-elsewhere g c =
    let at = goal.at.returns-in_err-write_group-clause-elsewhere g c in
    group_spares g at.After-write_group (sync_spares g at.After-sync)

pub returns-in_err-sync-2-clause-elsewhere : goal.returns-in_err-sync-2-clause-elsewhere
returns-in_err-sync-2-clause-elsewhere g c =
    let at = goal.at.returns-in_err-sync-2-clause-elsewhere g c in
    spared_through c.args.half_len (g.D.Disk.reads c.args.disk.now) (g.D.Disk.reads c.write_group.new.disk) (g.D.Disk.reads c.sync-2.new.self)
    (group_spares g at.After-write_group (sync_spares g at.After-sync))
    (spared_same c.args.half_len (g.D.Disk.reads c.write_group.new.disk) (g.D.Disk.reads c.sync-2.new.self) c.sync-2.ensures.reads)

pub returns-in-Ok-clause-elsewhere : goal.returns-in-Ok-clause-elsewhere
returns-in-Ok-clause-elsewhere g c =
    let at = goal.at.returns-in-Ok-clause-elsewhere g c in
    root_spares g at.After-put_root (group_spares g at.After-write_group (sync_spares g at.After-sync))

pub returns-in-Err-clause-elsewhere : goal.returns-in-Err-clause-elsewhere
returns-in-Err-clause-elsewhere g c =
    let at = goal.at.returns-in-Err-clause-elsewhere g c in
    root_spares g at.After-put_root (group_spares g at.After-write_group (sync_spares g at.After-sync))

pub returns-in_err-sync-clause-counts : goal.returns-in_err-sync-clause-counts
returns-in_err-sync-clause-counts g c = grind (arith, common_steps)

pub write_group-requires-clause-some : goal.write_group-requires-clause-some
write_group-requires-clause-some g c = grind (arith, common_steps)

pub write_group-requires-clause-room : goal.write_group-requires-clause-room
write_group-requires-clause-room g c = grind (arith, common_steps)

pub returns-in_err-write_group-clause-counts : goal.returns-in_err-write_group-clause-counts
returns-in_err-write_group-clause-counts g c = grind (arith, common_steps)

pub returns-in_err-sync-2-clause-counts : goal.returns-in_err-sync-2-clause-counts
returns-in_err-sync-2-clause-counts g c = grind (arith, common_steps)

pub returns-in-Ok-clause-before : goal.returns-in-Ok-clause-before
returns-in-Ok-clause-before g c = grind (arith, common_steps)
