use Rattle.std.proofs.Common.{◌+◌, ℕ, List, arith, subst, sym, inr, refl}
use Rattle.std.proofs.lemmas.Grind.{common_steps}
use Rattle.dc_pages.specs.Group.{IsComplete, change_kind}
use Rattle.dc_pages.specs.Reading.{IsCutAt}
use Rattle.dc_pages.specs.declared.site.Site.{Site}
use Rattle.dc_pages.proofs.OneSync.{not_commit}
use Rattle.dc_pages.proofs.Cut.{cut_incomplete}
use Rattle.mbdc_log.specs.Sites.{change_site}
use Rattle.mbdc_log.proofs.Steps.{group_reached, group_bad}
use Rattle.mbdc_log.proofs.reading.read_next.Goals as goal

pub returns-in-Err-Incomplete-clause-none : goal.returns-in-Err-Incomplete-clause-none
returns-in-Err-Incomplete-clause-none g c h was sequence next small complete =
    let found = c.args.found.now in
    let image = g.D.Disk.reads c.args.disk.now in
    let site = change_site c.args.half_len found.root (found.last + 1) found.place in
    let n = c.in-Err-Incomplete.field-0-0 in
    let cut = subst (λ (s : Site). IsCutAt s n image) c.change_site-site.ensures.exact (c.read_group.ensures.incomplete h n (cc)) in
    cut_incomplete site n image (not_commit change_kind (inr refl)) cut (subst (λ (q : ℕ). IsComplete (change_site c.args.half_len found.root q found.place) image) next complete)

pub returns-in-Err-Bad-clause-refused : goal.returns-in-Err-Bad-clause-refused
returns-in-Err-Bad-clause-refused g c h budget reached =
    let found = c.args.found.now in
    group_bad g.K.Language c.args.half_len found.root found.place found.last c.change_site-site.result _ _ (g.K.Language.state found.house) (g.D.Disk.reads c.args.disk.now) reached c.change_site-site.ensures.exact (omega arith) (c.in-Ok.ensures.group h)
    (λ changes spells accepted. c.replay.ensures.bad (cc) changes (subst (λ (l : List ℕ). g.K.Language.SpellsChanges l changes) (sym c.as_slice.ensures.value) spells)
    (subst (λ (b : ℕ). g.K.Language.Accepts b (g.K.Language.state found.house) changes) (sym budget) accepted))

pub returns-clause-more : goal.returns-clause-more
returns-clause-more g c h budget reached =
    let found = c.args.found.now in
    let took = c.in-Ok-replay.ensures.ok in
    group_reached g.K.Language c.args.half_len found.root found.place found.last c.change_site-site.result _ _ (g.K.Language.state found.house) (g.K.Language.state c.replay.new.self) took.0 (g.D.Disk.reads c.args.disk.now) reached c.change_site-site.ensures.exact
    (omega arith) (c.in-Ok.ensures.group h)
    (subst (λ (l : List ℕ). g.K.Language.SpellsChanges l took.0) c.as_slice.ensures.value took.1)
    (subst (λ (b : ℕ). g.K.Language.Accepts b (g.K.Language.state found.house) took.0) budget took.2)
    took.3

pub returns-then-found-clause-looked : goal.returns-then-found-clause-looked
returns-then-found-clause-looked g c = grind (arith, common_steps)

pub returns-in-Err-Bad-clause-further : goal.returns-in-Err-Bad-clause-further
returns-in-Err-Bad-clause-further g c = grind (arith, common_steps)

pub returns-clause-further : goal.returns-clause-further
returns-clause-further g c = grind (arith, common_steps)

pub returns-clause-within : goal.returns-clause-within
returns-clause-within g c = grind (arith, common_steps)

pub returns-clause-counts : goal.returns-clause-counts
returns-clause-counts g c = grind (arith, common_steps)
