use Rattle.std.proofs.Common.{rules, ◌≡◌, true}
use Rattle.graph_ast.specs.Lookups.{graph_at}
use Rattle.graph_meaning.specs.Blocks.{path_blocks}
use Rattle.graph_meaning.specs.Weights.{path_at}
use Rattle.sql_algebra.specs.declared.tree.Candidate.{Candidate}
use Rattle.sql_algebra.specs.Printable.{IsPrintable}
use Rattle.sql_algebra.specs.Soundness.{IsSound}
use Rattle.path_lowering.proofs.PlacingSteps.{if_ok}
use Rattle.shortest_lowering.specs.NoShorter.{IsFormed}
use Rattle.shortest_lowering.specs.PathCandidates.{path_candidate, query_of}
use Rattle.shortest_lowering.specs.StandsFor.{StandForPairs}
use Rattle.shortest_lowering.proofs.ComparableLemmas.{fitting}
use Rattle.query_lowering.specs.Names.{tables_are_named, outputs_are_named}
use Rattle.query_lowering.proofs.PathOf.{path_there, few_elements}
use Rattle.query_lowering.proofs.Served.{lowerable, served}
use Rattle.query_lowering.proofs.SoundOf.{sound_query}
use Rattle.query_lowering.proofs.SpelledOf.{has_names, spelled_query}
use Rattle.query_lowering.proofs.Zipped.{zip_made, each_made}
use Rattle.query_lowering.proofs.path_candidates.candidates.Goals as goal

pub returns-clause-pairs : goal.returns-clause-pairs
returns-clause-pairs c =
    let catalog = c.args.catalog.now in
    let query = c.args.query.now in
    let graph = graph_at catalog query.graph in
    let ok = c.requires.translatable in
    let path = path_at query c.args.path in
    let there = path_there catalog query ok c.args.path c.requires.there in
    if_ok c.candidates_of_path.result _ _
    (λ all is instance fits. zip_made (λ part candidate. StandForPairs catalog instance graph path part candidate.select) (path_candidate catalog graph path)
    (path_blocks graph c.args.path path) all is
    (λ part h. c.pairs_law.ensures catalog query instance (fitting catalog query (served catalog query ok) instance fits) (lowerable catalog query ok) path there c.args.path part h
    (few_elements catalog query ok c.args.path c.requires.there part h)))
    c.candidates_of_path.ensures

pub returns-clause-sound : goal.returns-clause-sound
returns-clause-sound c =
    let catalog = c.args.catalog.now in
    let query = c.args.query.now in
    let graph = graph_at catalog query.graph in
    let ok = c.requires.translatable in
    let path = path_at query c.args.path in
    let there = path_there catalog query ok c.args.path c.requires.there in
    if_ok c.candidates_of_path.result _ _
    (λ all is. each_made (λ (candidate : Candidate). IsSound (query_of candidate.select) catalog) (path_candidate catalog graph path) (path_blocks graph c.args.path path) all is
    (λ part h. c.alone_law.ensures.sound catalog query (served catalog query ok) (sound_query catalog query ok) path there c.args.path part h
    (few_elements catalog query ok c.args.path c.requires.there part h)))
    c.candidates_of_path.ensures

pub returns-clause-formed : goal.returns-clause-formed
returns-clause-formed c =
    let catalog = c.args.catalog.now in
    let query = c.args.query.now in
    let graph = graph_at catalog query.graph in
    let ok = c.requires.translatable in
    let path = path_at query c.args.path in
    let there = path_there catalog query ok c.args.path c.requires.there in
    if_ok c.candidates_of_path.result _ _
    (λ all is. each_made IsFormed (path_candidate catalog graph path) (path_blocks graph c.args.path path) all is
    (λ part h. c.alone_law.ensures.formed catalog query (served catalog query ok) (sound_query catalog query ok) path there c.args.path part h
    (few_elements catalog query ok c.args.path c.requires.there part h)))
    c.candidates_of_path.ensures

pub returns-clause-printable : goal.returns-clause-printable
returns-clause-printable c =
    let catalog = c.args.catalog.now in
    let query = c.args.query.now in
    let graph = graph_at catalog query.graph in
    let ok = c.requires.translatable in
    let path = path_at query c.args.path in
    let there = path_there catalog query ok c.args.path c.requires.there in
    let tables : tables_are_named catalog.tables ≡ true = search rules in
    let outputs : outputs_are_named query.columns ≡ true = search rules in
    if_ok c.candidates_of_path.result _ _
    (λ all is. each_made (λ (candidate : Candidate). IsPrintable (query_of candidate.select)) (path_candidate catalog graph path) (path_blocks graph c.args.path path) all is
    (λ part h. c.alone_law.ensures.printable catalog query (served catalog query ok) (has_names catalog tables) (spelled_query catalog query ok outputs) path there c.args.path part
    h (few_elements catalog query ok c.args.path c.requires.there part h)))
    c.candidates_of_path.ensures
