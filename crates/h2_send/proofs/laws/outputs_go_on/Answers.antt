use Rattle.h2_send.proofs.Orders.{output_grows, output_fails, output_ends, output_breaks}
use Rattle.h2_send.proofs.laws.outputs_go_on.Goals as goal

pub returns-clause-wrote : goal.returns-clause-wrote
returns-clause-wrote c inputs input start old new first second = output_grows inputs input start old new first second

pub returns-clause-failed : goal.returns-clause-failed
returns-clause-failed c inputs input start old new first second = output_fails inputs input start old new first second

pub returns-clause-finished : goal.returns-clause-finished
returns-clause-finished c inputs code start old new first second = output_ends inputs code start old new first second

pub returns-clause-unfinished : goal.returns-clause-unfinished
returns-clause-unfinished c inputs code start old new first second = output_breaks inputs code start old new first second
