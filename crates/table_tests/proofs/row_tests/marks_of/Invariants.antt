use Rattle.table_tests.proofs.row_tests.marks_of.Given as goal

abbrev pub ghosts-marks : goal.ghosts-marks
ghosts-marks a = record { name = a.blank.name; parts = a.blank.parts }
