use Rattle.std.proofs.Common.{rules}
use Rattle.listing.proofs.Decimals.{field_number, field_end, field_put}
use Rattle.listing.proofs.put_field.Goals as goal

pub put_number-next-requires : goal.put_number-next-requires
put_number-next-requires c = search (field_number, rules)

pub bounds-out-next : goal.bounds-out-next
bounds-out-next c = search (field_end, rules)

pub returns : goal.returns
returns c = search (field_put, rules)
