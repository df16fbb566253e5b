use Rattle.std.proofs.Common.{◌≡◌, ◌≤◌, ◌∙◌, ℕ, None, ap, subst, arith}
use Rattle.std.proofs.lemmas.Grind.{common_steps}
use Rattle.mbdc_log.specs.Behind.{IsBehindAt}
use Rattle.mbdc_log.specs.Halves.{half_of, half_len_of}
use Rattle.mbdc_log.proofs.Behinds.{one_behind, read_tells}
use Rattle.mbdc_log.proofs.freshness.first_ahead.Given.{Over}
use Rattle.mbdc_log.proofs.freshness.first_ahead.Goals.{In_ok-ahead}
use Rattle.mbdc_log.proofs.freshness.first_ahead.Goals as goal

-- what was read of the image, and what is ahead of that
told : (g : Over) (c : In_ok-ahead g) → g.D.Disk.keeps c.read_image.new.disk → IsBehindAt g.K.Language (half_of g.D.Disk c.args.disk.now) c.in_ok-ahead.ahead (g.D.Disk.reads c.args.disk.now)
told g c h =
    let at : c.half_len_of.result ≡ half_of g.D.Disk c.args.disk.now = c.half_len_of.ensures.exact ∙ ap half_len_of c.count-count.ensures in
    let found = c.in_ok-ahead.field-0-0 in
    let image = g.D.Disk.reads c.args.disk.now in
    subst (λ (n : ℕ). IsBehindAt g.K.Language n c.in_ok-ahead.ahead image) at
    (read_tells g.K.Language c.half_len_of.result found.root found.place found.last (g.K.Language.state found.house) image c.in_ok-ahead.ahead (c.in_ok-ahead.ensures.all h) (c.in_ok-ahead.ensures.ahead h))

pub returns-clause-told : goal.returns-clause-told
returns-clause-told g c h = told g (goal.at.returns-clause-told g c).In_ok-ahead h

pub returns-clause-none : goal.returns-clause-none
returns-clause-none g c state stands h =
    let at : c.half_len_of.result ≡ half_of g.D.Disk c.args.disk.now = c.half_len_of.ensures.exact ∙ ap half_len_of c.count-count.ensures in
    let most = subst (λ (n : ℕ). n ≤ 65536) at c.half_len_of.ensures.most in
    one_behind g.K.Language (half_of g.D.Disk c.args.disk.now) most (g.D.Disk.reads c.args.disk.now) c.in_ok-ahead.ahead None (told g (goal.at.returns-clause-none g c).In_ok-ahead h) (state, stands)

pub returns-in_err-ahead-clause-counts : goal.returns-in_err-ahead-clause-counts
returns-in_err-ahead-clause-counts g c = grind (arith, common_steps)

pub returns-clause-counts : goal.returns-clause-counts
returns-clause-counts g c = grind (arith, common_steps)
