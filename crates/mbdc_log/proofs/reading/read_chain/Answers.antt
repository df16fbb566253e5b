use Rattle.std.proofs.Common.{◌≡◌, ◌∙◌, ap, sym, subst, Err, arith}
use Rattle.std.proofs.lemmas.Result.{err_from_is_err_and}
use Rattle.std.proofs.lemmas.Grind.{common_steps}
use Rattle.dc_sectors.specs.Disk.{Image}
use Rattle.dc_sectors.specs.Runs.{OnlyLooked}
use Rattle.dc_roots.specs.declared.root.Root.{Root}
use Rattle.mbdc_log.specs.declared.fault.OpenFault.TheVariants.{Device}
use Rattle.mbdc_log.specs.Refusal.{IsUnread}
use Rattle.mbdc_log.specs.Stands.{IsCurrent, IsReached, IsRead}
use Rattle.mbdc_log.proofs.ReadMoments.{looked_on}
use Rattle.mbdc_log.proofs.reading.read_chain.Given.{Over}
use Rattle.mbdc_log.proofs.reading.read_chain.Goals.{In_ok-root, In_ok-found}
use Rattle.dc_sectors.proofs.Moments.{counted_on}
use Rattle.mbdc_log.proofs.reading.read_chain.Goals as goal

-- ---- BEFORE THE GROUPS: the root that was chosen, and the base that it led to

looked_at_base : (g : Over) (c : In_ok-root g) → (base : g.row.D.Denot)
    → OnlyLooked g.D.Disk c.current_root.new.disk base
    → OnlyLooked g.D.Disk c.args.disk.now base
looked_at_base g c base looked = looked_on g.D.Disk c.args.disk.now c.current_root.new.disk base c.current_root.ensures.looked looked

-- what the disk reads is what it read before, and the base is reached from the root in force
record IsBased (g : Over) (c : In_ok-found g) : Type 0 where
  reads_same : g.D.Disk.reads c.read_base.new.disk ≡ g.D.Disk.reads c.args.disk.now
  reached : IsReached g.K.Language c.args.half_len c.in_ok-found.found.root c.in_ok-found.found.place c.in_ok-found.found.last (g.K.Language.state c.in_ok-found.found.house) (g.D.Disk.reads c.read_base.new.disk)

is_based : (g : Over) (c : In_ok-found g) → g.D.Disk.keeps c.read_base.new.disk → IsBased g c
is_based g c h =
    let H = c.args.half_len in
    let chosen : g.D.Disk.reads c.current_root.new.disk ≡ g.D.Disk.reads c.args.disk.now = c.current_root.ensures.looked.reads_same in
    let based : g.D.Disk.reads c.read_base.new.disk ≡ g.D.Disk.reads c.current_root.new.disk = c.read_base.ensures.looked.reads_same in
    let root = c.in_ok-root.root in
    let found = c.in_ok-found.found in
    let current = subst (λ (i : Image). IsCurrent H root i) (sym chosen) (c.in_ok-root.ensures.current (c.read_base.ensures.looked.before h)) in
    let reached = subst (λ (i : Image). IsReached g.K.Language H root found.place found.last (g.K.Language.state found.house) i) (sym based) (c.in_ok-found.ensures.reached h current) in
    record {
      reads_same = based ∙ chosen;
      reached = subst (λ (r : Root). IsReached g.K.Language H r found.place found.last (g.K.Language.state found.house) (g.D.Disk.reads c.read_base.new.disk)) (sym c.in_ok-found.ensures.root) reached;
    }

pub returns-in_err-found-clause-looked : goal.returns-in_err-found-clause-looked
returns-in_err-found-clause-looked g c =
    looked_at_base g (goal.at.returns-in_err-found-clause-looked g c).In_ok-root c.read_base.new.disk c.read_base.ensures.looked

pub returns-in_err-read_groups-clause-looked : goal.returns-in_err-read_groups-clause-looked
returns-in_err-read_groups-clause-looked g c =
    looked_on g.D.Disk c.args.disk.now c.read_base.new.disk c.read_groups.new.disk
    (looked_at_base g (goal.at.returns-in_err-read_groups-clause-looked g c).In_ok-root c.read_base.new.disk c.read_base.ensures.looked) c.read_groups.ensures.looked

pub returns-clause-looked : goal.returns-clause-looked
returns-clause-looked g c =
    looked_on g.D.Disk c.args.disk.now c.read_base.new.disk c.read_groups.new.disk
    (looked_at_base g (goal.at.returns-clause-looked g c).In_ok-root c.read_base.new.disk c.read_base.ensures.looked) c.read_groups.ensures.looked

pub returns-clause-all : goal.returns-clause-all
returns-clause-all g c h =
    let based = is_based g (goal.at.returns-clause-all g c).In_ok-found (c.read_groups.ensures.looked.before h) in
    let now = c.read_groups.new.found in
    subst (λ (i : Image). IsRead g.K.Language c.args.half_len now.root now.place now.last (g.K.Language.state now.house) i) based.reads_same (c.in_ok-read_groups.ensures.all h c.in_ok-found.ensures.budget based.reached)

pub returns-in_err-read_groups-clause-counts : goal.returns-in_err-read_groups-clause-counts
returns-in_err-read_groups-clause-counts g c =
    let told = c.from_residual-in_err-read_groups in
    let p = err_from_is_err_and told.result told.ensures.1 in
    let same : told.result ≡ Err c.in_err-read_groups.field-0.0 = cc (p.1, p.2) in
    let fault = c.in_err-read_groups.field-0.0 in
    counted_on g.D.Disk c.args.disk.now c.read_base.new.disk c.read_groups.new.disk ⊥ _ _
    (counted_on g.D.Disk c.args.disk.now c.current_root.new.disk c.read_base.new.disk _ _ ⊥ c.in_ok-root.ensures.counts (λ is. cc is) c.in_ok-found.ensures.counts (λ is. cc is) (λ is. absurd is)) (λ is. is)
    c.in_err-read_groups.ensures.counts (λ is. let e : fault ≡ Device = cc is in same ∙ ap Err e) (λ is. let e : fault ≡ Device = cc (is, same) in ap Err e)

pub returns-in_err-read_groups-clause-refused : goal.returns-in_err-read_groups-clause-refused
returns-in_err-read_groups-clause-refused g c h =
    let based = is_based g (goal.at.returns-in_err-read_groups-clause-refused g c).In_ok-found (c.read_groups.ensures.looked.before h) in
    let told = c.from_residual-in_err-read_groups in
    let p = err_from_is_err_and told.result told.ensures.1 in
    let fault = c.in_err-read_groups.field-0.0 in
    let same : told.result ≡ Err fault = cc (p.1, p.2) in
    rw same (subst (λ (i : Image). IsUnread g.K.Language c.args.half_len i fault) based.reads_same (c.in_err-read_groups.ensures.refused h c.in_ok-found.ensures.budget based.reached))

pub read_groups-requires-clause-within : goal.read_groups-requires-clause-within
read_groups-requires-clause-within g c = grind (arith, common_steps)

pub returns-clause-budget : goal.returns-clause-budget
returns-clause-budget g c = grind (arith, common_steps)

pub returns-clause-within : goal.returns-clause-within
returns-clause-within g c = grind (arith, common_steps)

pub returns-clause-counts : goal.returns-clause-counts
returns-clause-counts g c = grind (arith, common_steps)
