use Rattle.otio_tools.proofs.planning.list_again.Goals as goal

pub returns-in-Plain-clause-owed : goal.returns-in-Plain-clause-owed
returns-in-Plain-clause-owed c = λ rate file files more.
    rw c.in-Plain.is (c.list_to_write.ensures.owed file.name)

pub returns-in-Noted-clause-owed : goal.returns-in-Noted-clause-owed
returns-in-Noted-clause-owed c = λ rate file files more.
    rw c.in-Noted.is (c.noted_list_to_write.ensures.owed file.name)
