use Rattle.std.proofs.Common.{refl}
use Rattle.graph_ast.specs.Fits.{without_rows}
use Rattle.graph_ast.specs.Lookups.{graph_at}
use Rattle.path_lowering.specs.Apart.{apart}
use Rattle.path_lowering.proofs.ApartLemmas.{apart_combines}
use Rattle.path_lowering.proofs.PlacingLemmas.{and_join}
use Rattle.path_lowering.proofs.PrintableShortest.{alone_printable}
use Rattle.path_lowering.proofs.ServedLemmas.{graph_valid}
use Rattle.path_lowering.proofs.SoundConditions.{apart_builds}
use Rattle.path_lowering.proofs.SoundShortest.{alone_sound}
use Rattle.shortest_lowering.proofs.ComparableLemmas.{by_itself}
use Rattle.shortest_lowering.proofs.FormedLemmas.{candidate_formed}
use Rattle.shortest_lowering.proofs.candidate_laws.alone_law.Goals as goal

pub returns-clause-sound : goal.returns-clause-sound
returns-clause-sound c = λ catalog query served ok path among place part there few.
    let fits = c.empty_tables_fit.ensures catalog in
    and_join _ _
    (and_join _ _
    (alone_sound catalog (graph_at catalog query.graph) served.valid (graph_valid catalog query served fits) (without_rows catalog) fits query served.lowerable
    apart apart_combines apart_builds
    ok path among place part there few) refl)
    refl

pub returns-clause-formed : goal.returns-clause-formed
returns-clause-formed c = λ catalog query served ok path among place part there few.
    let fits = c.empty_tables_fit.ensures catalog in
    candidate_formed catalog (graph_at catalog query.graph) path part (by_itself catalog query served fits path among place part there few).some
    (alone_sound catalog (graph_at catalog query.graph) served.valid (graph_valid catalog query served fits) (without_rows catalog) fits query served.lowerable
    apart apart_combines apart_builds
    ok path among place part there few)

pub returns-clause-printable : goal.returns-clause-printable
returns-clause-printable c = λ catalog query served named ok path among place part there few.
    let fits = c.empty_tables_fit.ensures catalog in
    and_join _ _ refl
    (and_join _ _
    (alone_printable catalog (graph_at catalog query.graph) served.valid (graph_valid catalog query served fits) (without_rows catalog) fits query served.lowerable
    apart apart_combines apart_builds named ok path among place part there few) refl)
