use Rattle.std.proofs.Common.{rules}
use Rattle.dispatcher.proofs.Starts.{list_refused, list_few, list_fits, list_starts}
use Rattle.dispatcher.proofs.start_list.Goals as goal

pub overflow_cast-n : goal.overflow_cast-n
overflow_cast-n c = search (list_fits, rules)

pub fill_from_list-requires-clause-few : goal.fill_from_list-requires-clause-few
fill_from_list-requires-clause-few c = search (list_few, rules)

pub returns-in-Err : goal.returns-in-Err
returns-in-Err c = search (list_refused, rules)

pub returns : goal.returns
returns c = search (list_starts, rules)
