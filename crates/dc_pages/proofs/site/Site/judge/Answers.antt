use Rattle.std.proofs.Common.{arith, inl, inr, ⊎_elim, refl}
use Rattle.dc_pages.proofs.Collected.{page_read}
use Rattle.dc_pages.proofs.site.Site.judge.Goals as goal

pub returns-then-pages-eq0 : goal.returns-then-pages-eq0
returns-then-pages-eq0 c =
    let head = c.read_head-head.result in
    let is = c.if-is_page.ensures.0 refl in (
      ⊎_elim (λ none. inl none) (λ both. inr both.1) c.then-pages-eq0.either,
      is.4,
      is.5,
      page_read c.args.self.now head.kind head.version head.index head.sequence head.used head.session c.args.pages c.args.bytes.now (omega arith) is.5 is.0 is.1 is.3 is.2 c.read_head-head.ensures,
    )
