use Rattle.table_files.proofs.PlacesNamed.{Placed}
use Rattle.table_files.proofs.places.table_places.Given as goal

abbrev pub invariant-loop-word : goal.invariant-loop-word
invariant-loop-word l = Placed l.catalog l.words l.word-index l.places
