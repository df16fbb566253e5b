use Rattle.std.proofs.Common.{◌+◌, ◌%◌, refl, ◌∙◌, rules}
use Rattle.std.proofs.lemmas.Iterator.{YieldsList-from_slice}
use Rattle.std.proofs.lemmas.Iterator.Consumers.{fold_from_yields_List}
use Rattle.dc_linkframe.proofs.Checksums.{fold_without_carry}
use Rattle.dc_linkframe.proofs.checksum.checksum.Goals as goal

pub returns : goal.returns
returns c =
    fold_from_yields_List _ (λ s b. (s + b) % 256) 0 c.fold.result c.fold.ensures.ran (YieldsList-from_slice c.args.bytes.now c.iter.ensures.rest) (λ s x b q called. search rules)
    ∙ fold_without_carry 0 0 c.args.bytes.now refl
