use Rattle.std.proofs.Common.{◌≡◌, ◌∙◌, ℕ, ap, subst, sym, arith}
use Rattle.std.proofs.lemmas.Grind.{common_steps}
use Rattle.dc_sectors.specs.Disk.{Image}
use Rattle.mbdc_log.specs.Halves.{half_of, half_len_of}
use Rattle.mbdc_log.specs.Refusal.{IsUnread}
use Rattle.mbdc_log.specs.Rescue.{IsLost, IsRescued}
use Rattle.mbdc_log.proofs.rescuing.rescue.Goals as goal

pub returns-in-Ok-read_parts-clause-rescued : goal.returns-in-Ok-read_parts-clause-rescued
returns-in-Ok-read_parts-clause-rescued g c h =
    let half : c.half_len_of-half_len.result ≡ half_of g.D.Disk c.args.copy.now = c.half_len_of-half_len.ensures.exact ∙ ap half_len_of c.count-count.ensures in
    let chain : g.D.Disk.reads c.read_chain.new.disk ≡ g.D.Disk.reads c.greatest_of.new.disk = c.read_chain.ensures.looked.reads_same in
    let first : g.D.Disk.reads c.greatest_of.new.disk ≡ g.D.Disk.reads c.args.copy.now = c.greatest_of.ensures.looked.reads_same in
    let found = c.in-Ok-read_parts.found in
    let source = c.in-Ok-read_parts.source in
    let fault = c.in-Err-read_chain.fault in
    let unread = subst (λ (i : Image). IsUnread g.K.Language c.half_len_of-half_len.result i fault) (sym chain) (c.in-Err-read_chain.ensures.refused (c.read_parts.ensures.before h)) in
    subst (λ (n : ℕ). IsRescued g.K.Language n source found.root found.place found.last (g.K.Language.state found.house) (g.D.Disk.reads c.args.copy.now)) half
    (subst (λ (i : Image). IsRescued g.K.Language c.half_len_of-half_len.result source found.root found.place found.last (g.K.Language.state found.house) i) (chain ∙ first)
    (c.in-Ok-read_parts.ensures.rescued h unread))

pub returns-in-Err-read_parts-clause-lost : goal.returns-in-Err-read_parts-clause-lost
returns-in-Err-read_parts-clause-lost g c enough h of =
    let half : c.half_len_of-half_len.result ≡ half_of g.D.Disk c.args.copy.now = c.half_len_of-half_len.ensures.exact ∙ ap half_len_of c.count-count.ensures in
    let chain : g.D.Disk.reads c.read_chain.new.disk ≡ g.D.Disk.reads c.greatest_of.new.disk = c.read_chain.ensures.looked.reads_same in
    let first : g.D.Disk.reads c.greatest_of.new.disk ≡ g.D.Disk.reads c.args.copy.now = c.greatest_of.ensures.looked.reads_same in
    let last = c.in-Err-read_parts.fault in
    let fault = c.in-Err-read_chain.fault in
    let unread = subst (λ (i : Image). IsUnread g.K.Language c.half_len_of-half_len.result i fault) (sym chain) (c.in-Err-read_chain.ensures.refused (c.read_parts.ensures.before h)) in
    subst (λ (n : ℕ). IsLost g.K.Language n last (g.D.Disk.reads c.args.copy.now)) half
    (subst (λ (i : Image). IsLost g.K.Language c.half_len_of-half_len.result last i) (chain ∙ first)
    (c.in-Err-read_parts.ensures.lost h unread of))

pub returns-in-Ok-read_chain-clause-greatest : goal.returns-in-Ok-read_chain-clause-greatest
returns-in-Ok-read_chain-clause-greatest g c = grind (arith, common_steps)

pub returns-in-Ok-read_parts-clause-greatest : goal.returns-in-Ok-read_parts-clause-greatest
returns-in-Ok-read_parts-clause-greatest g c = grind (arith, common_steps)

pub returns-in-Ok-read_parts-clause-counts : goal.returns-in-Ok-read_parts-clause-counts
returns-in-Ok-read_parts-clause-counts g c = grind (arith, common_steps)
