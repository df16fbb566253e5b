use Rattle.std.proofs.Common.{◌≡◌, ◌+◌, ℕ, Err, ap, refl, subst, sym, ◌∙◌, arith}
use Rattle.std.proofs.lemmas.Grind.{common_steps}
use Rattle.std.proofs.lemmas.Result.{err_from_is_err_and}
use Rattle.dc_sectors.specs.Disk.{Image, IsImage, settled}
use Rattle.dc_sectors.specs.Runs.{LeavesOnly, IsSettled}
use Rattle.mbdc_log.specs.Halves.{SparesRest}
use Rattle.mbdc_log.specs.Roots.{IsOpenedRoot}
use Rattle.mbdc_log.specs.Refusal.{IsSpent}
use Rattle.mbdc_log.specs.Stands.{IsRead, IsBegun, ReadsBy, Reads, StandsBy, Stands, EachStands, StandsForOne}
use Rattle.mbdc_log.proofs.Opened.{before_writing, after_session}
use Rattle.mbdc_log.proofs.ReadMoments.{if_err, synced, synced_read}
use Rattle.mbdc_log.proofs.Once.{stands_as_read}
use Rattle.mbdc_log.proofs.Refusals.{not_worn}
use Rattle.mbdc_log.proofs.Spared.{spared_same, spared_through}
use Rattle.mbdc_log.proofs.opening.open_on.Given.{Over}
use Rattle.mbdc_log.proofs.opening.open_on.Goals.{After-read_chain, After-is_spent, After-begin}
use Rattle.dc_sectors.proofs.Moments.{counted_on}
use Rattle.mbdc_log.specs.declared.fault.OpenFault.TheVariants.{Device}
use Rattle.mbdc_log.proofs.opening.open_on.Goals as goal

-- the sync and the reading wrote nothing
looked : (g : Over) (c : After-read_chain g) → LeavesOnly g.D.Disk c.args.disk.now c.read_chain.new.disk (IsImage (g.D.Disk.choices c.args.disk.now))
looked g c =
    let disk = c.args.disk.now in
    synced_read g.D.Disk disk (g.met.D.Disk.only_now disk) c.sync.new.self c.read_chain.new.disk (g.met.D.Disk.reads_a_choice disk) c.sync.ensures.time c.in-Ok.ensures.choices c.read_chain.ensures.looked.any_moment

-- what was found is what the disk read from the first
read : (g : Over) (c : After-is_spent g) → g.D.Disk.keeps c.read_chain.new.disk
    → IsRead g.K.Language c.args.half_len c.in_ok-found.found.root c.in_ok-found.found.place c.in_ok-found.found.last (g.K.Language.state c.in_ok-found.found.house) (g.D.Disk.reads c.args.disk.now)
read g c h =
    let found = c.in_ok-found.found in
    subst (λ (i : Image). IsRead g.K.Language c.args.half_len found.root found.place found.last (g.K.Language.state found.house) i) c.sync.ensures.reads (c.in_ok-found.ensures.all h)

-- and where the image stands for a state, it does for this one
stood : (g : Over) (c : After-is_spent g) (h : g.D.Disk.keeps c.read_chain.new.disk) (was : g.K.Language.State)
    → Stands g.K.Language c.args.half_len was (g.D.Disk.reads c.args.disk.now)
    → StandsBy g.K.Language c.args.half_len c.in_ok-found.found.root (read g c h).m c.in_ok-found.found.place (g.K.Language.state c.in_ok-found.found.house) (g.D.Disk.reads c.args.disk.now)
stood g c h was stands =
    let found = c.in_ok-found.found in
    stands_as_read g.K.Language c.args.half_len c.requires.most found.root (read g c h).m found.place (g.K.Language.state found.house) was (g.D.Disk.reads c.args.disk.now) (read g c h).by stands

-- WHAT THE SESSION BEGINS ON: a settled disk that stands for the state that was read, as the old one did.
record IsFound (g : Over) (c : After-begin g) : Type 0 where
  is_settled : IsSettled g.D.Disk c.read_chain.new.disk
  m : ℕ
  stood : StandsBy g.K.Language c.args.half_len c.in_ok-found.found.root m c.in_ok-found.found.place (g.K.Language.state c.in_ok-found.found.house) (g.D.Disk.reads c.args.disk.now)
  stands : StandsBy g.K.Language c.args.half_len c.in_ok-found.found.root m c.in_ok-found.found.place (g.K.Language.state c.in_ok-found.found.house) (g.D.Disk.reads c.read_chain.new.disk)
  last_is : c.in_ok-found.found.last ≡ c.in_ok-found.found.root.base_sequence + m

is_found : (g : Over) (c : After-begin g) (m : ℕ)
    → StandsBy g.K.Language c.args.half_len c.in_ok-found.found.root m c.in_ok-found.found.place (g.K.Language.state c.in_ok-found.found.house) (g.D.Disk.reads c.args.disk.now)
    → c.in_ok-found.found.last ≡ c.in_ok-found.found.root.base_sequence + m → IsFound g c
is_found g c m by last_is =
    let disk = c.args.disk.now in
    let found = c.in_ok-found.found in
    let same : g.D.Disk.reads c.read_chain.new.disk ≡ g.D.Disk.reads disk = c.read_chain.ensures.looked.reads_same ∙ c.sync.ensures.reads in
    record {
      is_settled = c.read_chain.ensures.looked.choices_same ∙ c.in-Ok.ensures.choices ∙ ap settled (sym same);
      m = m;
      stood = by;
      stands = subst (λ (i : Image). StandsBy g.K.Language c.args.half_len found.root m found.place (g.K.Language.state found.house) i) (sym same) by;
      last_is = last_is;
    }

-- whatever the beginning answers
begun : (g : Over) (c : After-begin g) → EachStands g.K.Language c.args.half_len (g.D.Disk.choices c.args.disk.now) → IsFound g c
    → LeavesOnly g.D.Disk c.args.disk.now c.read_chain.new.disk (IsImage (g.D.Disk.choices c.args.disk.now))
    → LeavesOnly g.D.Disk c.args.disk.now c.begin.new.disk (StandsForOne g.K.Language c.args.half_len (g.D.Disk.choices c.args.disk.now))
begun g c each is reading =
    let disk = c.args.disk.now in
    let found = c.in_ok-found.found in
    after_session g.K.Language g.D.Disk c.args.half_len disk each c.read_chain.new.disk c.begin.new.disk (g.K.Language.state found.house) (g.D.Disk.reads disk) (g.met.D.Disk.reads_a_choice disk)
    (record { root = found.root; m = is.m; place = found.place; by = is.stood }) reading (c.begin.ensures.any_moment is.is_settled is.m is.stands is.last_is)

pub returns-in-Err-clause-any_moment : goal.returns-in-Err-clause-any_moment
returns-in-Err-clause-any_moment g c h each =
    let disk = c.args.disk.now in
    before_writing g.K.Language g.D.Disk c.args.half_len disk each c.sync.new.self
    (synced g.D.Disk disk (g.met.D.Disk.only_now disk) c.sync.new.self c.sync.ensures.time)

pub returns-in_err-found-clause-any_moment : goal.returns-in_err-found-clause-any_moment
returns-in_err-found-clause-any_moment g c h each =
    before_writing g.K.Language g.D.Disk c.args.half_len c.args.disk.now each c.read_chain.new.disk (looked g (goal.at.returns-in_err-found-clause-any_moment g c).After-read_chain)

pub returns-then-is_spent-clause-any_moment : goal.returns-then-is_spent-clause-any_moment
returns-then-is_spent-clause-any_moment g c h each =
    before_writing g.K.Language g.D.Disk c.args.half_len c.args.disk.now each c.read_chain.new.disk (looked g (goal.at.returns-then-is_spent-clause-any_moment g c).After-read_chain)

pub returns-in_err-begin-clause-any_moment : goal.returns-in_err-begin-clause-any_moment
returns-in_err-begin-clause-any_moment g c h each =
    let at = goal.at.returns-in_err-begin-clause-any_moment g c in
    let kept = c.begin.ensures.before h in
    let was = read g at.After-is_spent kept in
    let one = each (g.D.Disk.reads c.args.disk.now) (g.met.D.Disk.reads_a_choice c.args.disk.now) in
    begun g at.After-begin each (is_found g at.After-begin was.m (stood g at.After-is_spent kept one.0 one.1) was.last_is) (looked g at.After-read_chain)

pub returns-clause-any_moment : goal.returns-clause-any_moment
returns-clause-any_moment g c h each =
    let at = goal.at.returns-clause-any_moment g c in
    let kept = c.begin.ensures.before h in
    let was = read g at.After-is_spent kept in
    let one = each (g.D.Disk.reads c.args.disk.now) (g.met.D.Disk.reads_a_choice c.args.disk.now) in
    begun g at.After-begin each (is_found g at.After-begin was.m (stood g at.After-is_spent kept one.0 one.1) was.last_is) (looked g at.After-read_chain)

pub returns-clause-ready : goal.returns-clause-ready
returns-clause-ready g c h state stands =
    let at = goal.at.returns-clause-ready g c in
    let kept = c.begin.ensures.before h in
    let was = read g at.After-is_spent kept in
    let is = is_found g at.After-begin was.m (stood g at.After-is_spent kept state stands) was.last_is in
    let house = c.begin.ensures.house in
    subst (λ (held : g.row.K.Denot). IsBegun g.K.Language c.args.half_len c.begin.new.found.root c.begin.new.found.place c.begin.new.found.last (g.K.Language.state held) (g.D.Disk.reads c.begin.new.disk)) (sym house)
    (c.in_ok-begin.ensures.ready is.is_settled is.m is.stands is.last_is)

pub returns-clause-not_worn : goal.returns-clause-not_worn
returns-clause-not_worn g c h =
    let found = c.in_ok-found.found in
    let was = read g (goal.at.returns-clause-not_worn g c).After-is_spent (c.begin.ensures.before h) in
    let fine : IsSpent found.root found.last → ⊥ = λ spent. (let yes = c.is_spent.ensures.1 spent in let no = c.if-is_spent.false in absurd (cc (yes, no))) in
    not_worn g.K.Language c.args.half_len c.requires.most (g.D.Disk.reads c.args.disk.now) found.root was.m found.place (g.K.Language.state found.house) was.by (λ spent. fine (subst (IsSpent found.root) (sym was.last_is) spent))

pub returns-clause-root : goal.returns-clause-root
returns-clause-root g c h =
    let found = c.in_ok-found.found in
    let was = read g (goal.at.returns-clause-root g c).After-is_spent (c.begin.ensures.before h) in (
      found.root,
      was.m,
      found.place,
      subst (λ (held : g.row.K.Denot). ReadsBy g.K.Language c.args.half_len found.root was.m found.place (g.K.Language.state held) (g.D.Disk.reads c.args.disk.now)) (sym c.begin.ensures.house) was.by,
      subst (λ (n : ℕ). IsOpenedRoot found.root n c.begin.new.found.root) was.last_is c.in_ok-begin.ensures.root,
    )

pub returns-clause-reads : goal.returns-clause-reads
returns-clause-reads g c h =
    let was = read g (goal.at.returns-clause-reads g c).After-is_spent (c.begin.ensures.before h) in
    subst (λ (held : g.row.K.Denot). Reads g.K.Language c.args.half_len (g.K.Language.state held) (g.D.Disk.reads c.args.disk.now)) (sym c.begin.ensures.house) (record { root = c.in_ok-found.found.root; m = was.m; place = c.in_ok-found.found.place; by = was.by })

pub returns-in_err-found-clause-spares_images : goal.returns-in_err-found-clause-spares_images
returns-in_err-found-clause-spares_images g c = if_err _ c.from_residual.result (λ fault other. looked g (goal.at.returns-in_err-found-clause-spares_images g c).After-read_chain)

pub returns-then-is_spent-clause-spares_images : goal.returns-then-is_spent-clause-spares_images
returns-then-is_spent-clause-spares_images g c other = looked g (goal.at.returns-then-is_spent-clause-spares_images g c).After-read_chain

pub returns-then-is_spent-clause-refused : goal.returns-then-is_spent-clause-refused
returns-then-is_spent-clause-refused g c h =
    let found = c.in_ok-found.found in
    let at = (goal.at.returns-then-is_spent-clause-refused g c).After-is_spent in
    let was = read g at h in
    let spent : IsSpent found.root found.last = c.if-is_spent.ensures.0 refl in
    record { root = found.root; m = was.m; place = found.place; state = (g.K.Language.state found.house); by = was.by; spent = subst (λ (n : ℕ). IsSpent found.root n) was.last_is spent }

-- the sectors outside stay: while the image is read, and when a session begins

read_spares : (g : Over) (c : After-read_chain g) → SparesRest c.args.half_len (g.D.Disk.reads c.args.disk.now) (g.D.Disk.reads c.read_chain.new.disk)
read_spares g c = spared_same c.args.half_len (g.D.Disk.reads c.args.disk.now) (g.D.Disk.reads c.read_chain.new.disk) (c.read_chain.ensures.looked.reads_same ∙ c.sync.ensures.reads)

begin_spares : (g : Over) (c : After-begin g) → SparesRest c.args.half_len (g.D.Disk.reads c.args.disk.now) (g.D.Disk.reads c.read_chain.new.disk)
    → SparesRest c.args.half_len (g.D.Disk.reads c.args.disk.now) (g.D.Disk.reads c.begin.new.disk)
begin_spares g c reading =
    spared_through c.args.half_len (g.D.Disk.reads c.args.disk.now) (g.D.Disk.reads c.read_chain.new.disk) (g.D.Disk.reads c.begin.new.disk) reading c.begin.ensures.elsewhere

pub returns-in-Err-clause-elsewhere : goal.returns-in-Err-clause-elsewhere
returns-in-Err-clause-elsewhere g c = spared_same c.args.half_len (g.D.Disk.reads c.args.disk.now) (g.D.Disk.reads c.sync.new.self) c.sync.ensures.reads

pub returns-in_err-found-clause-elsewhere : goal.returns-in_err-found-clause-elsewhere
returns-in_err-found-clause-elsewhere g c = read_spares g (goal.at.returns-in_err-found-clause-elsewhere g c).After-read_chain

pub returns-then-is_spent-clause-elsewhere : goal.returns-then-is_spent-clause-elsewhere
returns-then-is_spent-clause-elsewhere g c = read_spares g (goal.at.returns-then-is_spent-clause-elsewhere g c).After-read_chain

pub returns-in_err-begin-clause-elsewhere : goal.returns-in_err-begin-clause-elsewhere
returns-in_err-begin-clause-elsewhere g c =
    let at = goal.at.returns-in_err-begin-clause-elsewhere g c in
    begin_spares g at.After-begin (read_spares g at.After-read_chain)

pub returns-clause-elsewhere : goal.returns-clause-elsewhere
returns-clause-elsewhere g c =
    let at = goal.at.returns-clause-elsewhere g c in
    begin_spares g at.After-begin (read_spares g at.After-read_chain)

pub returns-in_err-begin-clause-counts : goal.returns-in_err-begin-clause-counts
returns-in_err-begin-clause-counts g c =
    let told = c.from_residual-in_err-begin in
    let p = err_from_is_err_and told.result told.ensures.1 in
    let fault = c.in_err-begin.field-0.0 in
    let same : told.result ≡ Err fault = cc (p.1, p.2) in
    let disk = c.args.disk.now in
    counted_on g.D.Disk disk c.read_chain.new.disk c.begin.new.disk ⊥ _ _
    (counted_on g.D.Disk disk c.sync.new.self c.read_chain.new.disk _ _ ⊥ c.in-Ok.ensures.counts (λ is. cc is) c.in_ok-found.ensures.counts (λ is. cc is) (λ is. absurd is)) (λ is. is)
    c.in_err-begin.ensures.counts (λ is. let e : fault ≡ Device = cc is in same ∙ ap Err e) (λ is. let e : fault ≡ Device = cc (is, same) in ap Err e)

pub returns-in-Err-clause-unwritten : goal.returns-in-Err-clause-unwritten
returns-in-Err-clause-unwritten g c = grind (arith, common_steps)

pub returns-in-Err-clause-spares_images : goal.returns-in-Err-clause-spares_images
returns-in-Err-clause-spares_images g c = grind (arith, common_steps)

pub returns-in-Err-clause-counts : goal.returns-in-Err-clause-counts
returns-in-Err-clause-counts g c = grind (arith, common_steps)

pub returns-in_err-found-clause-counts : goal.returns-in_err-found-clause-counts
returns-in_err-found-clause-counts g c = grind (arith, common_steps)

pub returns-then-is_spent-clause-counts : goal.returns-then-is_spent-clause-counts
returns-then-is_spent-clause-counts g c = grind (arith, common_steps)

pub begin-requires-clause-budget : goal.begin-requires-clause-budget
begin-requires-clause-budget g c = grind (arith, common_steps)

pub begin-requires-clause-within : goal.begin-requires-clause-within
begin-requires-clause-within g c = grind (arith, common_steps)

pub begin-requires-clause-unspent : goal.begin-requires-clause-unspent
begin-requires-clause-unspent g c = grind (arith, common_steps)

pub returns-in_err-begin-clause-reads : goal.returns-in_err-begin-clause-reads
returns-in_err-begin-clause-reads g c = grind (arith, common_steps)

pub returns-in_err-begin-clause-refused : goal.returns-in_err-begin-clause-refused
returns-in_err-begin-clause-refused g c = grind (arith, common_steps)

pub returns-in_err-begin-clause-root : goal.returns-in_err-begin-clause-root
returns-in_err-begin-clause-root g c = grind (arith, common_steps)

pub returns-in_err-begin-clause-not_worn : goal.returns-in_err-begin-clause-not_worn
returns-in_err-begin-clause-not_worn g c = grind (arith, common_steps)

pub returns-clause-budget : goal.returns-clause-budget
returns-clause-budget g c = grind (arith, common_steps)

pub returns-clause-from : goal.returns-clause-from
returns-clause-from g c = grind (arith, common_steps)

pub returns-clause-within : goal.returns-clause-within
returns-clause-within g c = grind (arith, common_steps)

pub returns-clause-counts : goal.returns-clause-counts
returns-clause-counts g c = grind (arith, common_steps)
