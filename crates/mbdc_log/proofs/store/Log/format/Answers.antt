use Rattle.std.proofs.Common.{ℕ, subst, sym, arith}
use Rattle.std.proofs.lemmas.Grind.{common_steps}
use Rattle.mbdc_log.specs.Halves.{half_of, half_len_of}
use Rattle.mbdc_log.specs.Roots.{first_root}
use Rattle.mbdc_log.specs.Stands.{IsReadyFor}
use Rattle.mbdc_log.proofs.Life.{ready_stands}
use Rattle.mbdc_log.proofs.store.Log.format.Goals as goal

pub returns-in-Ok-clause-formatted : goal.returns-in-Ok-clause-formatted
returns-in-Ok-clause-formatted g c image is =
    let disk = c.format_on.new.disk in
    let H = half_of g.D.Disk disk in
    let ready = subst (λ (s : ℕ). IsReadyFor g.S.Any.Language (half_len_of s) (first_root (half_len_of s)) g.S.Any.Language.empty (g.D.Disk.reads disk)) (sym c.format_on.ensures.counts.count) (c.in-Ok.ensures.ready) in
    ready_stands g.S.Any.Language H (first_root H) g.S.Any.Language.empty (g.D.Disk.choices disk) (g.D.Disk.reads disk) image (c.in-Ok.ensures.durable) ready is

pub returns-in-Ok-clause-root : goal.returns-in-Ok-clause-root
returns-in-Ok-clause-root g c =
    let disk = c.format_on.new.disk in
    let ready = subst (λ (s : ℕ). IsReadyFor g.S.Any.Language (half_len_of s) (first_root (half_len_of s)) g.S.Any.Language.empty (g.D.Disk.reads disk)) (sym c.format_on.ensures.counts.count) (c.in-Ok.ensures.ready) in
    ready.ready.stands.reads.chosen

pub returns-in-Err-clause-counts : goal.returns-in-Err-clause-counts
returns-in-Err-clause-counts g c = grind (arith, common_steps)
