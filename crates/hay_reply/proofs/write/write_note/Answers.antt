use Rattle.hay_reply.proofs.write.write_note.Goals as goal

pub returns-in-OpenFailed : goal.returns-in-OpenFailed
returns-in-OpenFailed c = rw c.in-OpenFailed.is c.write_two-in-OpenFailed.ensures
