use Rattle.control.proofs.set_entries.Goals as goal

pub returns-in-Accepted : goal.returns-in-Accepted
returns-in-Accepted c = rw c.in-Accepted.is c.set_all.ensures
