use Rattle.step_counter.proofs.tests.three_steps_are_three.Given as goal

abbrev pub ghosts-three : goal.ghosts-three
ghosts-three g a = record { name = a.blank.name; parts = a.blank.parts }
