use Rattle.std.proofs.Common.{Some, inl, inr, arith, eqb-true, ap, sym}
use Rattle.mbdc_change.proofs.LineSpellings.{s_is_secondary}
use Rattle.mbdc_fit.proofs.Addresses.{empty_is_secondary}
use Rattle.mbdc_fit.proofs.list.row.parse_address.Goals as goal

pub returns-then-is_empty-clause-only : goal.returns-then-is_empty-clause-only
returns-then-is_empty-clause-only c = λ address is spelled. elim spelled [
  | inl same ↦ sym (ap Some (empty_is_secondary address c.args.word.now (eqb-true _ _ cc) is same))
  | inr none ↦ sym (ap Some none.1)
]

pub returns-in-S-clause-only : goal.returns-in-S-clause-only
returns-in-S-clause-only c = λ address is spelled. elim spelled [
  | inl same ↦ sym (ap Some (s_is_secondary address c.args.word.now (omega arith) is same))
  | inr none ↦ sym (ap Some none.1)
]
