use Rattle.listing.proofs.Writing.{capped_join}
use Rattle.listing.proofs.Lines.{task_line_lem}
use Rattle.listing.proofs.Figures.{within_divisor, within_small}
use Rattle.listing.proofs.put_task.Goals as goal

pub within_of-within-requires : goal.within_of-within-requires
within_of-within-requires c =
    let core = rw c.from.ensures at c.byte-k.ensures in
    (within_divisor _ _ _ c.requires.0 c.requires.1 core _ c.divisor.ensures, within_small _ _ _ c.requires.0 c.requires.1 core _ _ _ c.pivot.ensures c.factor-factor.ensures c.divisor.ensures)

pub returns : goal.returns
returns c =
    let fields = capped_join c.put_field.ensures (capped_join c.put_field-next-5.ensures (capped_join c.put_field-next-4.ensures (capped_join c.put_field-next-3.ensures (capped_join c.put_field-next-2.ensures c.put_field-next.ensures)))) in
    task_line_lem _ _ _ _ _ _ _ _ _ _ _ _ _ _ (rw (c.from-2.ensures, c.from-3.ensures, c.from-4.ensures, c.from-5.ensures) at fields) (rw c.from.ensures at c.byte-k.ensures) c.period-period.ensures c.budget-budget.ensures c.factor-factor.ensures c.pivot.ensures c.divisor.ensures c.within_of-within.ensures
