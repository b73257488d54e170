use Rattle.unit_object.proofs.tests.a_unit_is_made.Given as goal

abbrev pub ghosts-steps_of : goal.ghosts-steps_of
ghosts-steps_of g a = record { name = a.blank.name; parts = a.blank.parts }
