use Rattle.vic_script.proofs.Laws.{given_first, given_second, given_third, given_all}
use Rattle.vic_script.proofs.given.Goals as goal

pub returns-in_err-vic : goal.returns-in_err-vic
returns-in_err-vic c = search (given_first, c.in_err-vic.was)

pub returns-in_err-a : goal.returns-in_err-a
returns-in_err-a c = search (given_second, c.in_ok-vic.was, c.in_err-a.was)

pub returns-in_err-b : goal.returns-in_err-b
returns-in_err-b c = search (given_third, c.in_ok-vic.was, c.in_ok-a.was, c.in_err-b.was)

pub returns : goal.returns
returns c = search (given_all, c.in_ok-vic.was, c.in_ok-a.was, c.in_ok-b.was)
