-- The tables that words name, by their places in the catalog.
use Rattle.std.specs.Prelude.{ℕ, nat_eq, if◌then◌else◌, List, [], ◌∷◌, Option, None, Some, option_and_then}
use Rattle.graph_ast.specs.declared.catalog.Catalog.{Catalog}
use Rattle.graph_ast.specs.Lookups.{table_place}
use Rattle.graph_meaning.specs.Lists.{all_different}
use Rattle.table_words.specs.declared.word.TableWord.{TableWord}

abbrev pub put_first : Option ℕ → Option (List ℕ) → Option (List ℕ)
put_first None more = None
put_first (Some place) None = None
put_first (Some place) (Some places) = Some (place ∷ places)

-- the places of the tables, if each word names one
abbrev pub places_named : Catalog → List TableWord → Option (List ℕ)
places_named catalog [] = Some []
places_named catalog (word ∷ words) = put_first (table_place catalog word.table) (places_named catalog words)

abbrev pub apart : List ℕ → Option (List ℕ)
apart places = if all_different nat_eq places then Some places else None

-- and if no two name the same
abbrev pub table_places : Catalog → List TableWord → Option (List ℕ)
table_places catalog words = option_and_then apart (places_named catalog words)
