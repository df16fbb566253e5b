use Rattle.std.proofs.Common.{refl, subst}
use Rattle.mbdc_raw.specs.Line.{Looks, gives_up, waits_held}
use Rattle.mbdc_raw.specs.declared.line.Gone.{Gone}
use Rattle.mbdc_raw.specs.declared.line.Gone.TheVariants.{Out, Waits as WaitsOn}
use Rattle.mbdc_raw.proofs.line.Line.take_by_kind.Goals as goal

pub returns-in-Out-clause-waits : goal.returns-in-Out-clause-waits
returns-in-Out-clause-waits g c =
    waits_held c.in-Some.held Out c.requires c.in-Some.is refl
    (subst (λ (gone : Gone). Looks g.W.Wire c.in-Some.held.request c.in-Some.held.many c.args.self.now gone c.look.new.self) c.in-Out.is c.in_ok-look.ensures.looks)

pub returns-in-Waits-clause-waits : goal.returns-in-Waits-clause-waits
returns-in-Waits-clause-waits g c =
    waits_held c.in-Some.held WaitsOn c.requires c.in-Some.is refl
    (subst (λ (gone : Gone). Looks g.W.Wire c.in-Some.held.request c.in-Some.held.many c.args.self.now gone c.look.new.self) c.in-Waits.is c.in_ok-look.ensures.looks)

pub returns-in-Loud-clause-gives : goal.returns-in-Loud-clause-gives
returns-in-Loud-clause-gives g c =
    gives_up c.in-Some.held c.look.new.self c.in-Some.is c.new.ensures
    (subst (λ (gone : Gone). Looks g.W.Wire c.in-Some.held.request c.in-Some.held.many c.args.self.now gone c.look.new.self) c.in-Loud.is c.in_ok-look.ensures.looks) refl
