use Rattle.h2_send.specs.Lines.{first_line}
use Rattle.h2_send.proofs.Orders.{answered, heard_again, grows, said_again}
use Rattle.h2_send.proofs.laws.order_of_inputs.Goals as goal

pub returns-clause-grows : goal.returns-clause-grows
returns-clause-grows c inputs input = grows first_line inputs input

pub returns-clause-heard : goal.returns-clause-heard
returns-clause-heard c inputs = heard_again first_line inputs

pub returns-clause-answered : goal.returns-clause-answered
returns-clause-answered c inputs = answered first_line inputs

pub returns-clause-said : goal.returns-clause-said
returns-clause-said c stream inputs = said_again stream first_line inputs
