use Rattle.std.proofs.Common.{◌≡◌, ℕ, inl, inr, ap, sym, subst, ◌∙◌, arith}
use Rattle.std.proofs.lemmas.Grind.{common_steps}
use Rattle.dc_sectors.specs.Disk.{IsImage, settled}
use Rattle.dc_sectors.specs.Runs.{LeavesOnly, IsSettled}
use Rattle.dc_sectors.proofs.Moments.{started, weakened, followed, counted_on}
use Rattle.mbdc_log.specs.Halves.{half_of, half_len_of, SparesRest}
use Rattle.mbdc_log.specs.Stands.{IsUnformatted, IsBlankOrEmpty, IsFormatting}
use Rattle.mbdc_log.proofs.ReadMoments.{synced, synced_read}
use Rattle.mbdc_log.proofs.Spared.{spared_same, spared_through}
use Rattle.mbdc_log.proofs.formatting.format_on.Given.{Over}
use Rattle.mbdc_log.proofs.formatting.format_on.Goals.{After-choose, After-lay_out}
use Rattle.mbdc_log.proofs.formatting.format_on.Goals as goal

-- the sync and the choice of the root wrote nothing
looked : (g : Over) (c : After-choose g) → LeavesOnly g.D.Disk c.args.disk.now c.choose.new.disk (IsImage (g.D.Disk.choices c.args.disk.now))
looked g c =
    let disk = c.args.disk.now in
    synced_read g.D.Disk disk (g.met.D.Disk.only_now disk) c.sync.new.self c.choose.new.disk (g.met.D.Disk.reads_a_choice disk) c.sync.ensures.time c.in-Ok.ensures.choices c.choose.ensures.any_moment

looked_only : (g : Over) (c : After-choose g)
    → LeavesOnly g.D.Disk c.args.disk.now c.choose.new.disk (IsFormatting g.K.Language (half_of g.D.Disk c.args.disk.now) (g.D.Disk.choices c.args.disk.now))
looked_only g c = weakened g.D.Disk c.args.disk.now c.choose.new.disk _ _ (looked g c) (λ image is. inl is)

-- where an image is laid out no root was
rootless : (g : Over) (c : After-lay_out g) → g.D.Disk.keeps c.choose.new.disk → IsUnformatted (g.D.Disk.reads c.args.disk.now)
rootless g c h = let choice = rw c.in-Err-NoRoot.field-0-is at (c.in-Err-NoRoot.ensures.choice h) in subst IsUnformatted c.sync.ensures.reads choice.none

-- and then the image is laid out, whatever that answers
laid : (g : Over) (c : After-lay_out g) → g.D.Disk.keeps c.choose.new.disk → LeavesOnly g.D.Disk c.args.disk.now c.choose.new.disk (IsImage (g.D.Disk.choices c.args.disk.now))
    → LeavesOnly g.D.Disk c.args.disk.now c.lay_out.new.disk (IsFormatting g.K.Language (half_of g.D.Disk c.args.disk.now) (g.D.Disk.choices c.args.disk.now))
laid g c h looking =
    let disk = c.args.disk.now in
    let read = c.choose.new.disk in
    let at : c.half_len_of.result ≡ half_of g.D.Disk disk = c.half_len_of.ensures.exact ∙ ap half_len_of c.count-count.ensures in
    let same : g.D.Disk.reads read ≡ g.D.Disk.reads disk = c.choose.ensures.reads ∙ c.sync.ensures.reads in
    let is_settled : IsSettled g.D.Disk read = c.choose.ensures.choices ∙ c.in-Ok.ensures.choices ∙ ap settled (sym same) in
    followed g.D.Disk disk read c.lay_out.new.disk (IsImage (g.D.Disk.choices disk)) (IsBlankOrEmpty g.K.Language c.half_len_of.result) (IsFormatting g.K.Language (half_of g.D.Disk disk) (g.D.Disk.choices disk))
    looking (c.lay_out.ensures.any_moment is_settled (subst IsUnformatted (sym same) (rootless g c h)))
    (λ image is. inl is) (λ image left. inr (subst (λ (n : ℕ). IsBlankOrEmpty g.K.Language n image) at left))

pub returns-then-count-lt-FEWEST_SECTORS-clause-any_moment : goal.returns-then-count-lt-FEWEST_SECTORS-clause-any_moment
returns-then-count-lt-FEWEST_SECTORS-clause-any_moment g c h =
    let disk = c.args.disk.now in
    started g.D.Disk disk (IsFormatting g.K.Language (half_of g.D.Disk disk) (g.D.Disk.choices disk)) (λ image left. inl (g.met.D.Disk.only_now disk image left))

pub returns-in-Err-clause-any_moment : goal.returns-in-Err-clause-any_moment
returns-in-Err-clause-any_moment g c h =
    let disk = c.args.disk.now in
    weakened g.D.Disk disk c.sync.new.self (IsImage (g.D.Disk.choices disk)) (IsFormatting g.K.Language (half_of g.D.Disk disk) (g.D.Disk.choices disk))
    (synced g.D.Disk disk (g.met.D.Disk.only_now disk) c.sync.new.self c.sync.ensures.time) (λ image is. inl is)

pub returns-in-Ok-choose-clause-spares_images : goal.returns-in-Ok-choose-clause-spares_images
returns-in-Ok-choose-clause-spares_images g c h root has = looked g (goal.at.returns-in-Ok-choose-clause-spares_images g c).After-choose

pub returns-in-Ok-choose-clause-any_moment : goal.returns-in-Ok-choose-clause-any_moment
returns-in-Ok-choose-clause-any_moment g c h = looked_only g (goal.at.returns-in-Ok-choose-clause-any_moment g c).After-choose

pub returns-in-Err-choose-clause-spares_images : goal.returns-in-Err-choose-clause-spares_images
returns-in-Err-choose-clause-spares_images g c h root has = looked g (goal.at.returns-in-Err-choose-clause-spares_images g c).After-choose

pub returns-in-Err-choose-clause-any_moment : goal.returns-in-Err-choose-clause-any_moment
returns-in-Err-choose-clause-any_moment g c h = looked_only g (goal.at.returns-in-Err-choose-clause-any_moment g c).After-choose

pub returns-in-Ok-lay_out-clause-spares_images : goal.returns-in-Ok-lay_out-clause-spares_images
returns-in-Ok-lay_out-clause-spares_images g c h root has = absurd (rootless g (goal.at.returns-in-Ok-lay_out-clause-spares_images g c).After-lay_out (c.lay_out.ensures.before h) root has)

pub returns-in-Ok-lay_out-clause-any_moment : goal.returns-in-Ok-lay_out-clause-any_moment
returns-in-Ok-lay_out-clause-any_moment g c h =
    let at = goal.at.returns-in-Ok-lay_out-clause-any_moment g c in
    laid g at.After-lay_out (c.lay_out.ensures.before h) (looked g at.After-choose)

pub returns-in-Err-lay_out-clause-spares_images : goal.returns-in-Err-lay_out-clause-spares_images
returns-in-Err-lay_out-clause-spares_images g c h root has = absurd (rootless g (goal.at.returns-in-Err-lay_out-clause-spares_images g c).After-lay_out (c.lay_out.ensures.before h) root has)

pub returns-in-Err-lay_out-clause-any_moment : goal.returns-in-Err-lay_out-clause-any_moment
returns-in-Err-lay_out-clause-any_moment g c h =
    let at = goal.at.returns-in-Err-lay_out-clause-any_moment g c in
    laid g at.After-lay_out (c.lay_out.ensures.before h) (looked g at.After-choose)

-- the sectors outside stay: while the disk is only looked at, and while an image is laid out

look_spares : (g : Over) (c : After-choose g) → SparesRest (half_of g.D.Disk c.args.disk.now) (g.D.Disk.reads c.args.disk.now) (g.D.Disk.reads c.choose.new.disk)
look_spares g c =
    spared_same (half_of g.D.Disk c.args.disk.now) (g.D.Disk.reads c.args.disk.now) (g.D.Disk.reads c.choose.new.disk) (c.choose.ensures.reads ∙ c.sync.ensures.reads)

layout_spares : (g : Over) (c : After-lay_out g) → SparesRest (half_of g.D.Disk c.args.disk.now) (g.D.Disk.reads c.args.disk.now) (g.D.Disk.reads c.choose.new.disk)
    → SparesRest (half_of g.D.Disk c.args.disk.now) (g.D.Disk.reads c.args.disk.now) (g.D.Disk.reads c.lay_out.new.disk)
layout_spares g c looking =
    let disk = c.args.disk.now in
    let at : c.half_len_of.result ≡ half_of g.D.Disk disk = c.half_len_of.ensures.exact ∙ ap half_len_of c.count-count.ensures in
    spared_through (half_of g.D.Disk disk) (g.D.Disk.reads disk) (g.D.Disk.reads c.choose.new.disk) (g.D.Disk.reads c.lay_out.new.disk) looking
    (subst (λ (n : ℕ). SparesRest n (g.D.Disk.reads c.choose.new.disk) (g.D.Disk.reads c.lay_out.new.disk)) at c.lay_out.ensures.elsewhere)

pub returns-in-Err-clause-elsewhere : goal.returns-in-Err-clause-elsewhere
returns-in-Err-clause-elsewhere g c =
    spared_same (half_of g.D.Disk c.args.disk.now) (g.D.Disk.reads c.args.disk.now) (g.D.Disk.reads c.sync.new.self) c.sync.ensures.reads

pub returns-in-Ok-choose-clause-elsewhere : goal.returns-in-Ok-choose-clause-elsewhere
returns-in-Ok-choose-clause-elsewhere g c = look_spares g (goal.at.returns-in-Ok-choose-clause-elsewhere g c).After-choose

pub returns-in-Err-choose-clause-elsewhere : goal.returns-in-Err-choose-clause-elsewhere
returns-in-Err-choose-clause-elsewhere g c = look_spares g (goal.at.returns-in-Err-choose-clause-elsewhere g c).After-choose

pub returns-in-Ok-lay_out-clause-elsewhere : goal.returns-in-Ok-lay_out-clause-elsewhere
returns-in-Ok-lay_out-clause-elsewhere g c =
    let at = goal.at.returns-in-Ok-lay_out-clause-elsewhere g c in
    layout_spares g at.After-lay_out (look_spares g at.After-choose)

pub returns-in-Err-lay_out-clause-elsewhere : goal.returns-in-Err-lay_out-clause-elsewhere
returns-in-Err-lay_out-clause-elsewhere g c =
    let at = goal.at.returns-in-Err-lay_out-clause-elsewhere g c in
    layout_spares g at.After-lay_out (look_spares g at.After-choose)

pub returns-in-Ok-lay_out-clause-counts : goal.returns-in-Ok-lay_out-clause-counts
returns-in-Ok-lay_out-clause-counts g c =
    let disk = c.args.disk.now in
    let chosen = c.in-Err-NoRoot in
    counted_on g.D.Disk disk c.choose.new.disk c.lay_out.new.disk ⊥ _ _
    (counted_on g.D.Disk disk c.sync.new.self c.choose.new.disk _ _ ⊥ c.in-Ok.ensures.counts (λ is. cc is) chosen.ensures.counts (λ is. cc (is, chosen.field-0-is)) (λ is. absurd is)) (λ is. is)
    c.in-Ok-lay_out.ensures.counts (λ is. absurd (cc is)) (λ is. absurd (cc is))

pub returns-in-Err-clause-spares_images : goal.returns-in-Err-clause-spares_images
returns-in-Err-clause-spares_images g c = grind (arith, common_steps)

pub returns-in-Ok-choose-clause-counts : goal.returns-in-Ok-choose-clause-counts
returns-in-Ok-choose-clause-counts g c = grind (arith, common_steps)

pub returns-in-Err-lay_out-clause-counts : goal.returns-in-Err-lay_out-clause-counts
returns-in-Err-lay_out-clause-counts g c = grind (arith, common_steps)
