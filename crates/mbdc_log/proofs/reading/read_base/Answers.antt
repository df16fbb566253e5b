use Rattle.std.proofs.Common.{ℕ, List, subst, sym, arith}
use Rattle.std.proofs.lemmas.Grind.{common_steps}
use Rattle.mbdc_log.specs.Halves.{budget_of}
use Rattle.mbdc_log.proofs.Steps.{base_reached, base_cut, base_bad}
use Rattle.mbdc_log.proofs.reading.read_base.Goals as goal

pub returns-in-Err-Incomplete-clause-refused : goal.returns-in-Err-Incomplete-clause-refused
returns-in-Err-Incomplete-clause-refused g c h current =
    base_cut g.K.Language c.args.half_len c.args.root (g.D.Disk.reads c.args.disk.now) current c.base_site-site.result _ c.base_site-site.ensures.exact (c.read_group.ensures.incomplete h _ (cc))

pub returns-in-Ok-decode-clause-reached : goal.returns-in-Ok-decode-clause-reached
returns-in-Ok-decode-clause-reached g c h current =
    base_reached g.K.Language c.args.half_len c.args.root (g.D.Disk.reads c.args.disk.now) current c.base_site-site.result _ _ _ c.base_site-site.ensures.exact (c.in-Ok.ensures.group h)
    (subst (λ (l : List ℕ). g.K.Language.SpellsState (budget_of c.args.half_len) l (g.K.Language.state c.in-Ok-decode.house)) c.as_slice.ensures.value
    (subst (λ (b : ℕ). g.K.Language.SpellsState b c.as_slice.result.now (g.K.Language.state c.in-Ok-decode.house)) c.budget_of.ensures c.in-Ok-decode.ensures.found.0))

pub returns-in-Err-Bad-clause-refused : goal.returns-in-Err-Bad-clause-refused
returns-in-Err-Bad-clause-refused g c h current =
    base_bad g.K.Language c.args.half_len c.args.root (g.D.Disk.reads c.args.disk.now) current c.base_site-site.result _ _ c.base_site-site.ensures.exact (c.in-Ok.ensures.group h)
    (λ state spells. c.decode.ensures.bad (cc) state
    (subst (λ (b : ℕ). g.K.Language.SpellsState b c.as_slice.result.now state) (sym c.budget_of.ensures)
    (subst (λ (l : List ℕ). g.K.Language.SpellsState (budget_of c.args.half_len) l state) (sym c.as_slice.ensures.value) spells)))

pub returns-in-Err-Incomplete-clause-counts : goal.returns-in-Err-Incomplete-clause-counts
returns-in-Err-Incomplete-clause-counts g c = grind (arith, common_steps)

pub returns-in-Err-Device-clause-counts : goal.returns-in-Err-Device-clause-counts
returns-in-Err-Device-clause-counts g c = grind (arith, common_steps)

pub returns-in-Err-NoMemory-clause-counts : goal.returns-in-Err-NoMemory-clause-counts
returns-in-Err-NoMemory-clause-counts g c = grind (arith, common_steps)

pub overflow_add-result : goal.overflow_add-result
overflow_add-result g c = grind (arith, common_steps)

pub returns-in-Ok-decode-clause-budget : goal.returns-in-Ok-decode-clause-budget
returns-in-Ok-decode-clause-budget g c = grind (arith, common_steps)

pub returns-in-Ok-decode-clause-from : goal.returns-in-Ok-decode-clause-from
returns-in-Ok-decode-clause-from g c = grind (arith, common_steps)

pub returns-in-Ok-decode-clause-within : goal.returns-in-Ok-decode-clause-within
returns-in-Ok-decode-clause-within g c = grind (arith, common_steps)

pub returns-in-Ok-decode-clause-counts : goal.returns-in-Ok-decode-clause-counts
returns-in-Ok-decode-clause-counts g c = grind (arith, common_steps)

pub returns-clause-counts : goal.returns-clause-counts
returns-clause-counts g c = grind (arith, common_steps)
